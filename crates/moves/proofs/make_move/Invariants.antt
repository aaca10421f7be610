use Rattle.moves.proofs.Shifting.{Moving}
use Rattle.moves.proofs.make_move.Given as goal

-- the lanes so far are moved
abbrev pub invariant-loop-step : goal.invariant-loop-step
invariant-loop-step l = Moving l.amount l.path l.initial.trays l.step-index l.trays
