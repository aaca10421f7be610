-- One record of a sheet: it is read as a setting just where its bytes are those of the setting.
use Rattle.std.proofs.Common.{◌≡◌, ℕ, ◌+◌, ◌≤◌, List, length, get_or, drop, Ok, arith}
use Rattle.std.proofs.lemmas.List.{length-drop, get_or-drop}
use Rattle.std.proofs.lemmas.Bool.Decides.{nat_tests}
use Rattle.plantformat.specs.Bytes.{word, long}
use Rattle.sheets.specs.declared.reading.Setting.{Setting}
use Rattle.sheets.specs.declared.reading.Setting.TheVariants.{Close, Lower}
use Rattle.sheets.specs.Sheet.{body_read}
use Rattle.sheets.specs.Promise.{SettingBytes}

-- the number of a kind and a body say a setting
abbrev pub Says : ℕ → List ℕ → Setting → Type 0
Says n b (Close s p) = (n ≡ 20) × (length b ≡ 4) × (word b 0 ≡ s) × (word b 2 ≡ p)
Says n b (Lower s c) = (n ≡ 21) × (length b ≡ 6) × (word b 0 ≡ s) × (long b 2 ≡ c)

-- ---- reading a body

module _ (at n : ℕ) (b : List ℕ) where
  pub body_says : (t : Setting) → body_read at n b ≡ Ok t → Says n b t
  body_says (Close s p) e = (grind (arith, nat_tests), grind (arith, nat_tests), grind (arith, nat_tests), grind (arith, nat_tests))
  body_says (Lower s c) e = (grind (arith, nat_tests), grind (arith, nat_tests), grind (arith, nat_tests), grind (arith, nat_tests))

  pub body_said : (t : Setting) → Says n b t → body_read at n b ≡ Ok t
  body_said (Close s p) (k, l, x, y) = grind (arith, nat_tests)
  body_said (Lower s c) (k, l, x, y) = grind (arith, nat_tests)

-- ---- a whole record: four bytes of framing, and the body

module _ (bs : List ℕ) where
  -- a byte of the body
  body_at : (i : ℕ) → get_or (drop 4 bs) i 0 ≡ get_or bs (4 + i) 0
  body_at i = get_or-drop 4 bs i 0

  pub bytes_say : (t : Setting) → 4 ≤ length bs → word bs 0 ≡ length bs → Says (word bs 2) (drop 4 bs) t → SettingBytes t bs
  bytes_say (Close s p) four w (k, l, x, y) =
      let n = length-drop 4 bs in
      let at = body_at in
      record { size = omega arith; told = omega arith; kind = k; side = omega arith; position = omega arith }
  bytes_say (Lower s c) four w (k, l, x, y) =
      let n = length-drop 4 bs in
      let at = body_at in
      record { size = omega arith; told = omega arith; kind = k; side = omega arith; ceiling = omega arith }

  pub bytes_said : (t : Setting) → SettingBytes t bs → (4 ≤ length bs) × (word bs 0 ≡ length bs) × Says (word bs 2) (drop 4 bs) t
  bytes_said (Close s p) r =
      let n = length-drop 4 bs in
      let at = body_at in
      (omega arith, omega arith, (r.kind, omega arith, omega arith, omega arith))
  bytes_said (Lower s c) r =
      let n = length-drop 4 bs in
      let at = body_at in
      (omega arith, omega arith, (r.kind, omega arith, omega arith, omega arith))
