-- Each turn adds a lane, and goes to the one that it names.
use Rattle.std.proofs.Common.{◌≡◌, ◌+◌, vec_items, vec_len, map, reverse, ap, ◌∙◌, arith}
use Rattle.std.proofs.lemmas.List.{map_push}
use Rattle.labelling.specs.Table.{mark, back}
use Rattle.labelling.specs.Steps.{row}
use Rattle.labels.specs.Labels.{signed_state, marks_in}
use Rattle.labels.specs.Paths.{level_of}
use Rattle.labels.proofs.Rows.{row_more, path_row, map_reversed}
use Rattle.labels.proofs.Trails.{back_more, level_more}
use Rattle.labels.proofs.LabelTable.read_back.Goals as goal

pub loop-before-preserved : goal.loop-before-preserved
loop-before-preserved c =
    let t = marks_in c.args.self.now in
    let k = vec_len c.loop-before.path in
    let n : vec_len c.push_reserved.new.self ≡ k + 1 = omega arith in
    let here = rw c.in-Some.is at c.loop-before.invariant.here in
    let left = rw c.in-Some.is at c.loop-before.invariant.left in
    let pushed = ap (map signed_state) c.push_reserved.ensures.items ∙ map_push signed_state (vec_items c.loop-before.path) c.in-Some.at in
    let more = row_more (back c.args.last t) k in
    record {
      states = cc;
      here = back_more t c.in-Some.at c.name-before.result c.name-before.ensures c.args.last k _ n here;
      left = level_more t c.in-Some.at c.name-before.result c.name-before.ensures c.requires.falls k _ _ n left.0 left.1;
      capacity = omega arith;
    }

pub returns-clause-states : goal.returns-clause-states
returns-clause-states c =
    let t = marks_in c.args.self.now in
    let left = rw c.in_default.is at c.loop-before.invariant.left in
    ap (map signed_state) c.reverse.ensures.items ∙ map_reversed signed_state (vec_items c.loop-before.path) ∙ ap reverse c.loop-before.invariant.states
    ∙ ap (λ n. reverse (row (back c.args.last t) n)) left ∙ path_row (level_of (mark t c.args.last)) c.args.last t
