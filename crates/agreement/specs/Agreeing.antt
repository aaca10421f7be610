-- Meanings that agree on everything that is on the floor have the same plans, and the same calls do the same to them.
use Rattle.std.specs.Prelude.{ℕ}
use Rattle.floor.specs.Meaning.{Meaning, Lawful}
use Rattle.tables.specs.Agreement.{Agrees}
use Rattle.network.specs.Plans.{Feasible}
use Rattle.calls.specs.Events.{Event, at}
use Rattle.calls.specs.Does.{Held, Does}

-- trays are a plan for one just where they are a plan for the other
abbrev pub AgreeingMeaningsHaveTheSamePlans : Type 0
AgreeingMeaningsHaveTheSamePlans =
    (M N : Meaning) (f : ℕ → ℕ) → Agrees M N → (Feasible M f → Feasible N f) × (Feasible N f → Feasible M f)

-- what a call does to a plan by one meaning, it does by the other
abbrev pub AgreeingPlansDoTheSame : Type 0
AgreeingPlansDoTheSame =
    (M N : Meaning) (s t : Held) (e : Event) → Agrees M N → Lawful M → Feasible M (at s.trays) → Does N s e t → Does M s e t
