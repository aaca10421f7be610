-- A plan that has kept the promise, and that it goes on keeping it.
use Rattle.std.specs.Prelude.{◌≡◌, true, [], ◌∷◌}
use Rattle.std.proofs.Math.Option.{none}
use Rattle.floor.specs.Meaning.{Meaning, Lawful}
use Rattle.labelling.specs.Steps.{step}
use Rattle.calls.specs.Events.{Event, History, at, since, marked}
use Rattle.calls.specs.Law.{Carried, EveryCallRight}
use Rattle.calls.specs.Does.{Held, opened, Does}

-- what a plan holds after the calls h, all of which were right
pub record Kept (M : Meaning) (h : History) (s : Held) : Type 0 where
  pub calls : EveryCallRight M h
  pub carried : Carried M h s.trays
  pub counted : s.moves ≡ since h
  pub finished : s.finished ≡ marked h
  pub no_path : marked h ≡ true → step M (at s.trays) ≡ none

abbrev pub OpeningsKeepThePromise : Type 0
OpeningsKeepThePromise = (M : Meaning) → Lawful M → Kept M [] (opened M)

abbrev pub CallsKeepThePromise : Type 0
CallsKeepThePromise = (M : Meaning) (h : History) (s t : Held) (e : Event) → Lawful M → Kept M h s → Does M s e t → Kept M (e ∷ h) t
