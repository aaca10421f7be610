-- What is left of the budget leads where the whole budget leads, with the moves so far added.
use Rattle.std.proofs.Common.{◌≡◌, ℕ, ◌-◌}
use Rattle.tables.specs.Tables.{meaning_in}
use Rattle.calls.specs.Does.{Held, run_does}
use Rattle.planner.specs.Planning.{held_in}
use Rattle.planner.proofs.Running.{later}
use Rattle.planner.proofs.planner.Planner.run.Given as goal

abbrev pub invariant-loop-moves : goal.invariant-loop-moves
invariant-loop-moves l =
    (l.self.tables ≡ l.initial.self.tables)
    × (◌≡◌ {A = ℕ × Held} (run_does (meaning_in l.initial.self.tables) l.budget (held_in l.initial.self))
    (later l.moves (run_does (meaning_in l.initial.self.tables) (l.budget - l.moves) (held_in l.self))))
