use Rattle.std.proofs.Common.{◌≡◌, ◌+◌, ◌-◌, ◌<◌, MatchOption, map, vec_items, vec_len, vec_capacity}
use Rattle.labelling.specs.Table.{mark, back}
use Rattle.labelling.specs.Steps.{row}
use Rattle.labels.specs.Labels.{signed_state, from_state, marks_in}
use Rattle.labels.specs.Paths.{level_of}
use Rattle.labels.proofs.LabelTable.read_back.Given as goal

-- the path has the states from the end back to the one after this
abbrev pub invariant-loop-before : goal.invariant-loop-before
invariant-loop-before l =
    let t = marks_in l.self in
    record {
      states : map signed_state (vec_items l.path) ≡ row (back l.fn.last t) (vec_len l.path);
      here : from_state l.before ≡ back l.fn.last t (vec_len l.path + 1);
      left : MatchOption l.before (vec_len l.path ≡ level_of (mark t l.fn.last)) (λ s. (0 < level_of (mark t s.lane)) × (vec_len l.path + level_of (mark t s.lane) ≡ level_of (mark t l.fn.last)));
      capacity : vec_capacity l.path ≡ vec_capacity l.fn.path;
    }

abbrev pub decreases-loop-before : goal.decreases-loop-before
decreases-loop-before l = level_of (mark (marks_in l.self) l.fn.last) - vec_len l.path
