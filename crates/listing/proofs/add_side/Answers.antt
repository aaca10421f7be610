-- The line is whole when the caps of all sets stand in it.
use Rattle.std.proofs.Common.{◌≡◌, ◌++◌, ◌^◌, codes, string_bytes, append_assoc, ap, ◌∙◌, rules}
use Rattle.std.specs.Prelude.{decimal}
use Rattle.floor.specs.Floor.{width}
use Rattle.listing.specs.Lines.{lanes_on, caps_on, side_shown, side_line}
use Rattle.listing.proofs.add_side.Goals as goal

pub returns : goal.returns
returns g c =
    let M = g.P.Plant.meaning c.args.plant.now in
    let side = c.args.side in
    let all : c.unwrap-width.result ≡ width M.floor side = search rules in
    let sets : c.loop-set.set ≡ 2 ^ width M.floor side = search (rules, all) in
    let shown : side_shown M side ≡ side_line M side = search (rules, all, c.if-width-eq0.false) in
    let line = codes "side " ++ decimal side ++ codes " lanes" ++ lanes_on M.floor side ++ codes " caps" ++ caps_on M side in
    let whole : string_bytes c.loop-set.text ++ codes "\n" ≡ string_bytes c.args.text.now ++ side_line M side =
    ap (λ t. t ++ codes "\n") (rw sets at c.loop-set.invariant) ∙ append_assoc (string_bytes c.args.text.now) line (codes "\n") in
    rw (shown, ← whole) c.writeln.ensures.bytes
