use Rattle.std.proofs.Common.{◌≡◌, ◌++◌, string_bytes}
use Rattle.listing.specs.Lines.{each, side_shown}
use Rattle.listing.proofs.add_sides.Given as goal

-- the lines of the sides so far stand after what was there
abbrev pub invariant-loop-side : goal.invariant-loop-side
invariant-loop-side g l = string_bytes l.text ≡ string_bytes l.initial.text ++ each l.side (side_shown (g.P.Plant.meaning l.plant))
