-- What is printed of a plant on a day, by the sheet of that day.
use Rattle.std.specs.Prelude.{◌≡◌, ℕ, List, replicate, Ok, Err, Vec, vec_items, codes, Result, slice_index}
use Rattle.std.specs.declared.alloc.Global.{Global}
use Rattle.plant.specs.declared.refusals.Refusal as refused
use Rattle.floor.specs.Meaning.{Meaning}
use Rattle.floor.specs.Numbers.{top_cap}
use Rattle.layers.specs.Meanings.{with_closings, with_ceilings, listed}
use Rattle.sheets.specs.Sheet.{Settings, settings, all_made, sheet_judged}
use Rattle.sheets.specs.declared.reading.Setting.{Setting}
use Rattle.listing.specs.Lines.{refusal_line}
use Rattle.planning.specs.Best.{BestLines}
use Rattle.console.specs.declared.Failure.{Failure}
use Rattle.console.specs.declared.Failure.TheVariants.{Refused, NoMemory, Io, Sheet}

-- no position closed, and no ceiling below the top cap
abbrev pub no_settings : Settings
no_settings = settings (replicate 64 0) (replicate 64 top_cap)

-- what the plant means with these positions closed and these ceilings over that
abbrev pub set_to : Meaning → Settings → Meaning
set_to M st = with_ceilings (λ side. slice_index st.ceilings side) (with_closings (listed st.closed) M)

-- this is the listing of a plan that carries the most on the plant as the settings of an accepted sheet leave it
abbrev pub Planned : Meaning → Result (List Setting) refused.Refusal → List ℕ → Type 0
Planned M (Ok ts) lines = BestLines (set_to M (all_made M.floor ts no_settings)) lines
Planned M (Err e) lines = ⊥

-- this is the line that tells the first fault of a refused sheet
abbrev pub Told : Result (List Setting) refused.Refusal → List ℕ → Type 0
Told (Ok ts) line = ⊥
Told (Err e) line = line ≡ refusal_line (codes "sheet") e

-- the listing of an accepted sheet, or the line of a refused one, or neither, and that for want of memory alone
abbrev pub BySheet : Meaning → Result (List Setting) refused.Refusal → Result (Vec ℕ Global) Failure → Type 0
BySheet M j (Ok lines) = Planned M j (vec_items lines)
BySheet M j (Err (Refused line)) = Told j (vec_items line)
BySheet M j (Err NoMemory) = Unit {0}
BySheet M j (Err (Io e)) = ⊥
BySheet M j (Err (Sheet e)) = ⊥

-- what is printed, by the verdict on the bytes of the sheet
abbrev pub DayAnswers : Meaning → List ℕ → Result (Vec ℕ Global) Failure → Type 0
DayAnswers M sheet answer = BySheet M (sheet_judged M.floor sheet) answer
