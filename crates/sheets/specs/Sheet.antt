-- How a sheet is judged: record by record from the front, the first fault decides; and what an accepted sheet sets.
use Rattle.std.specs.Prelude.{◌≡◌, ℕ, zero, suc, ◌-◌, cond, not, List, [], ◌∷◌, length, take, drop, Ok, Err, Result, ◌==◌, ◌≢◌, nat_lt, MatchResult}
use Rattle.plant.specs.Refusals.{refused}
use Rattle.plant.specs.declared.refusals.Reason.TheVariants as reason
use Rattle.plant.specs.declared.refusals.Refusal.{Refusal}
use Rattle.floor.specs.Floor.{Floor}
use Rattle.plantformat.specs.declared.UnlistedKind.{UnlistedKind}
use Rattle.plantformat.specs.Bytes.{word, long}
use Rattle.plantformat.specs.Judge.{onward, unless, cut_short}
use Rattle.piles.specs.Settings.{close_judged, ceiling_judged, closed_after, ceilings_after}
use Rattle.sheets.specs.declared.applying.Covers.{Covers}
use Rattle.sheets.specs.declared.reading.Setting.{Setting}
use Rattle.sheets.specs.declared.reading.Setting.TheVariants.{Close, Lower}
use Rattle.sheets.specs.declared.reading.SettingKind.{SettingKind}
use Rattle.sheets.specs.declared.reading.SettingKind.TheVariants as kind

-- a longer sheet is refused before anything else
abbrev pub most_sheet_bytes : ℕ
most_sheet_bytes = 4096

-- ---- one record

-- the number of each kind: 20 closes a position of a side, 21 gives a side a ceiling
abbrev pub kind_number : SettingKind → ℕ
kind_number kind.Close = 20
kind_number kind.Lower = 21

-- the result is the kind with this number, or an error with a number that no kind has
abbrev pub KindOf : ℕ → Result SettingKind UnlistedKind → Type 0
KindOf number r = MatchResult r (λ k. number ≡ kind_number k) (λ e. (e.0 ≡ number) × (number ≢ 20) × (number ≢ 21))

-- a body by the number of its kind: 20 closes a position of a side, 21 gives a side a ceiling
abbrev pub body_read : ℕ → ℕ → List ℕ → Result Setting Refusal
body_read at number b =
    cond (number == 20) (unless (not (length b == 4)) (refused reason.Size at) (Ok (Close (word b 0) (word b 2))))
    (cond (number == 21) (unless (not (length b == 6)) (refused reason.Size at) (Ok (Lower (word b 0) (long b 2))))
    (Err (refused reason.Kind at)))

-- what a pile answers to a setting, at the place of its record
abbrev pub placed_at : ℕ → Result (Unit {0}) Refusal → Result (Unit {0}) Refusal
placed_at at (Ok _) = Ok tt
placed_at at (Err x) = Err (refused x.reason at)

-- a setting is judged as the pile judges it, at the place of its record
abbrev pub setting_judged : Floor → ℕ → Setting → Result (Unit {0}) Refusal
setting_judged F at (Close s p) = placed_at at (close_judged F s p)
setting_judged F at (Lower s c) = placed_at at (ceiling_judged F s c)

-- the setting of the first record of bs, which lies at a place of the sheet, and the bytes after it
abbrev pub setting_read : ℕ → List ℕ → Result (Setting × List ℕ) Refusal
setting_read at bs =
    unless (cut_short bs) (refused reason.Framing at)
    (onward (λ e. e) (body_read at (word bs 2) (take (word bs 0 - 4) (drop 4 bs))) (λ t. Ok (t, drop (word bs 0) bs)))

-- the same, if it may be set on the floor
abbrev pub next_judged : Floor → ℕ → List ℕ → Result (Setting × List ℕ) Refusal
next_judged F at bs = onward (λ e. e) (setting_read at bs) (λ p. onward (λ e. e) (setting_judged F at p.0) (λ _. Ok p))

-- ---- a whole sheet

-- one setting before the others, if they are not refused
abbrev pub before : Setting → Result (List Setting) Refusal → Result (List Setting) Refusal
before t (Ok ts) = Ok (t ∷ ts)
before t (Err e) = Err e

-- the bytes that are left, of a sheet of `total` bytes, read on in at most `fuel` records
abbrev pub sheet_read : ℕ → ℕ → Floor → List ℕ → Result (List Setting) Refusal
sheet_read zero total F bs = Ok []
sheet_read (suc fuel) total F bs =
    cond (length bs == 0) (Ok [])
    (onward (λ e. e) (next_judged F (total - length bs) bs) (λ p. before p.0 (sheet_read fuel total F p.1)))

-- the settings of a sheet in their order, or its first fault
abbrev pub sheet_judged : Floor → List ℕ → Result (List Setting) Refusal
sheet_judged F bs = unless (nat_lt most_sheet_bytes (length bs)) (refused reason.TooMany 0) (sheet_read (length bs) (length bs) F bs)

-- ---- what is set

-- the closed positions of each side, and the ceiling of each
pub record Settings : Type 0 where
  pub closed : List ℕ
  pub ceilings : List ℕ

-- these closed positions and these ceilings
abbrev pub settings : List ℕ → List ℕ → Settings
settings closed ceilings = record { closed = closed; ceilings = ceilings }

-- what the covers of a pile are set to
abbrev pub settings_of : Covers → Settings
settings_of c = settings c.closings.closed c.ceilings.ceilings

-- one setting more
abbrev pub setting_made : Floor → Setting → Settings → Settings
setting_made F (Close s p) st = settings (closed_after F s p st.closed) st.ceilings
setting_made F (Lower s c) st = settings st.closed (ceilings_after F s c st.ceilings)

-- all of them, in their order
abbrev pub all_made : Floor → List Setting → Settings → Settings
all_made F [] st = st
all_made F (t ∷ ts) st = all_made F ts (setting_made F t st)

-- what a sheet makes of the settings, if it is not refused
abbrev pub made_of : Floor → Result (List Setting) Refusal → Settings → Result Settings Refusal
made_of F (Ok ts) st = Ok (all_made F ts st)
made_of F (Err e) st = Err e

-- a sheet was read into the settings as it was judged
abbrev pub Reads : Result Settings Refusal → Settings → Result (Unit {0}) Refusal → Type 0
Reads j st (Ok _) = j ≡ Ok st
Reads j st (Err e) = j ≡ Err e

-- an accepted sheet is set as a whole, and a refused one changes nothing
abbrev pub Applied : Floor → Result (List Setting) Refusal → Settings → Settings → Result (Unit {0}) Refusal → Type 0
Applied F (Ok ts) st after r = (r ≡ Ok tt) × (after ≡ all_made F ts st)
Applied F (Err e) st after r = (r ≡ Err e) × (after ≡ st)
