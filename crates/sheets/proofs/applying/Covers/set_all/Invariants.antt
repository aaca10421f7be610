use Rattle.std.proofs.Common.{◌≤◌, length}
use Rattle.sheets.specs.Sheet.{sheet_read, settings_of, made_of}
use Rattle.sheets.proofs.Walks.{Walk}
use Rattle.sheets.proofs.applying.Covers.set_all.Given as goal

-- what the bytes that are left make of the settings so far is what the sheet makes of those at the start
abbrev pub invariant-loop-rest : goal.invariant-loop-rest
invariant-loop-rest g l =
    let F = (g.P.Plant.meaning l.plant).floor in
    let n = length l.sheet in
    (length l.rest ≤ n)
    × Walk F n (made_of F (sheet_read n n F l.sheet) (settings_of l.initial.self)) l.rest
    (settings_of l.self)

abbrev pub decreases-loop-rest : goal.decreases-loop-rest
decreases-loop-rest g l = length l.rest
