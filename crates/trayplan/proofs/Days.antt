-- A pile that a sheet was set on means what the plant means on that day.
use Rattle.std.proofs.Common.{◌≡◌, ℕ, List, Ok, Err, Result, ap, ◌∙◌, subst, arith}
use Rattle.floor.specs.Meaning.{Meaning}
use Rattle.plant.specs.declared.refusals.Refusal as refused
use Rattle.sheets.specs.Sheet.{Settings, all_made, sheet_judged, Applied}
use Rattle.sheets.specs.declared.reading.Setting.{Setting}
use Rattle.planning.specs.Best.{BestLines}
use Rattle.trayplan.specs.Answers.{no_settings, set_to, Planned}

-- an accepted sheet leads to the settings that its records make
by_sheet : (M : Meaning) (j : Result (List Setting) refused.Refusal) (before after : Settings) (lines : List ℕ) → before ≡ no_settings
    → Applied M.floor j before after (Ok tt) → BestLines (set_to M after) lines → Planned M j lines
by_sheet M (Ok ts) before after lines none applied best =
    subst (λ st. BestLines (set_to M st) lines) (applied.1 ∙ ap (all_made M.floor ts) none) best
by_sheet M (Err e) before after lines none applied best =
    let taken = applied.0 in
    let z : ◌≡◌ {A = ℕ} 0 1 = cc in
    absurd (omega arith)

-- the plant under a pile that is opened, and under the pile that the sheet was set on, is the plant of that day
pub day_planned : {P : Type 0} (M : P → Meaning) (plant opened kept : P) (sheet : List ℕ) (before after : Settings) (lines : List ℕ)
    → opened ≡ plant → kept ≡ opened → before ≡ no_settings → Applied (M opened).floor (sheet_judged (M opened).floor sheet) before after (Ok tt)
    → BestLines (set_to (M kept) after) lines → Planned (M plant) (sheet_judged (M plant).floor sheet) lines
day_planned M plant opened kept sheet before after lines here same none applied best =
    subst (λ x. Planned (M x) (sheet_judged (M x).floor sheet) lines) here
    (by_sheet (M opened) (sheet_judged (M opened).floor sheet) before after lines none applied
    (subst (λ x. BestLines (set_to (M x) after) lines) same best))
