-- What is promised of sheets, in the words of the subject: a relation between settings and bytes, with no reader in it.
use Rattle.std.specs.Prelude.{◌≡◌, ℕ, ◌<◌, ◌≤◌, List, length, Ok}
use Rattle.std.specs.List.{AllByRecursion}
use Rattle.floor.specs.Numbers.{top_cap}
use Rattle.floor.specs.Floor.{Floor, sides, width}
use Rattle.plantformat.specs.Bytes.{word, long}
use Rattle.plantformat.specs.Encoding.{Row}
use Rattle.sheets.specs.declared.reading.Setting.{Setting}
use Rattle.sheets.specs.declared.reading.Setting.TheVariants.{Close, Lower}
use Rattle.sheets.specs.Sheet.{most_sheet_bytes, sheet_judged}

-- a closing: the length of the record (2), kind 20 (2), side (2), position (2)
pub record CloseBytes (s p : ℕ) (bs : List ℕ) : Type 0 where
  pub size : length bs ≡ 8
  pub told : word bs 0 ≡ 8
  pub kind : word bs 2 ≡ 20
  pub side : word bs 4 ≡ s
  pub position : word bs 6 ≡ p

-- a ceiling: the length of the record (2), kind 21 (2), side (2), ceiling (4)
pub record LowerBytes (s c : ℕ) (bs : List ℕ) : Type 0 where
  pub size : length bs ≡ 10
  pub told : word bs 0 ≡ 10
  pub kind : word bs 2 ≡ 21
  pub side : word bs 4 ≡ s
  pub ceiling : long bs 6 ≡ c

-- the bytes of the record that says a setting
abbrev pub SettingBytes : Setting → List ℕ → Type 0
SettingBytes (Close s p) bs = CloseBytes s p bs
SettingBytes (Lower s c) bs = LowerBytes s c bs

-- what a setting names is on the floor, and a ceiling is no higher than every cap
abbrev pub Allowed : Floor → Setting → Type 0
Allowed F (Close s p) = (s < sides F) × (p < width F s)
Allowed F (Lower s c) = (s < sides F) × (c ≤ top_cap)

-- bs is a sheet of these settings: it is not too long, it encodes them one after another, and each may be set on the floor
pub record DaySheet (F : Floor) (bs : List ℕ) (ts : List Setting) : Type 0 where
  pub not_too_long : length bs ≤ most_sheet_bytes
  pub encodes : Row SettingBytes ts bs
  pub allowed : AllByRecursion (Allowed F) ts

-- an accepted sheet is the encoding of the settings that are read from it
abbrev pub AcceptedSheetsEncode : Type 0
AcceptedSheetsEncode = (F : Floor) (bs : List ℕ) (ts : List Setting) → sheet_judged F bs ≡ Ok ts → DaySheet F bs ts

-- every sheet of settings that may be set is accepted, with just these settings
abbrev pub SheetsAreAccepted : Type 0
SheetsAreAccepted = (F : Floor) (bs : List ℕ) (ts : List Setting) → DaySheet F bs ts → sheet_judged F bs ≡ Ok ts
