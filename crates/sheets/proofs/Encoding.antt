-- Accepted sheets are the encodings of settings that may be set.
use Rattle.std.proofs.Common.{◌≡◌, ℕ, zero, suc, ◌+◌, ◌-◌, ◌≤◌, Bool, true, false, cond, eqb, ltb, List, [], ◌∷◌, ◌++◌, length, take, drop, Ok, Err, Result, sym, refl, ap, ◌∙◌, subst, arith}
use Rattle.std.specs.List.{AllByRecursion}
use Rattle.std.proofs.lemmas.Bool.Decides.{nat_tests}
use Rattle.std.proofs.lemmas.List.{length-take, length-drop, length-append, get_or-take, get_or_append_left, take-append-drop, drop-take, drop-append-le, take_at, drop_at, nil_from_length}
use Rattle.std.proofs.lemmas.Bool.{eqb-true, ltb-false, le-ltb}
use Rattle.plant.specs.declared.refusals.Refusal.{Refusal}
use Rattle.floor.specs.Floor.{Floor}
use Rattle.plantformat.specs.Bytes.{word}
use Rattle.plantformat.specs.Encoding.{Row}
use Rattle.plantformat.specs.Judge.{onward, cut_short}
use Rattle.plantformat.proofs.Verdicts.{ok_same, onward_ok, unless_ok, unless_passed}
use Rattle.sheets.specs.declared.reading.Setting.{Setting}
use Rattle.sheets.specs.declared.reading.Setting.TheVariants.{Close, Lower}
use Rattle.sheets.specs.Sheet.{most_sheet_bytes, body_read, setting_judged, setting_read, next_judged, before, sheet_read}
use Rattle.sheets.specs.Promise.{SettingBytes, Allowed, AcceptedSheetsEncode, SheetsAreAccepted}
use Rattle.sheets.proofs.Bytes.{Says, body_says, body_said, bytes_say, bytes_said}
use Rattle.sheets.proofs.Walks.{read_none, read_more}

-- ---- what may be set

module _ (F : Floor) (at : ℕ) where
  judged_allowed : (t : Setting) {u : Unit {0}} → setting_judged F at t ≡ Ok u → Allowed F t
  judged_allowed (Close s p) e = (grind (arith, nat_tests), grind (arith, nat_tests))
  judged_allowed (Lower s c) e = (grind (arith, nat_tests), grind (arith, nat_tests))

  allowed_judged : (t : Setting) → Allowed F t → setting_judged F at t ≡ Ok tt
  allowed_judged (Close s p) (a, b) = grind (arith, nat_tests)
  allowed_judged (Lower s c) (a, b) = grind (arith, nat_tests)

-- ---- one record at the front of the bytes

whole : (bs : List ℕ) → cut_short bs ≡ false → (4 ≤ length bs) × (4 ≤ word bs 0) × (word bs 0 ≤ length bs)
whole bs e = (grind (arith, nat_tests), grind (arith, nat_tests), grind (arith, nat_tests))

not_cut : (bs : List ℕ) → 4 ≤ length bs → 4 ≤ word bs 0 → word bs 0 ≤ length bs → cut_short bs ≡ false
not_cut bs a b c = grind (arith, nat_tests)

-- the first n bytes are a record if their length says so
front_says : (bs : List ℕ) (n : ℕ) (t : Setting) → word bs 0 ≡ n → 4 ≤ n → n ≤ length bs → Says (word bs 2) (take (n - 4) (drop 4 bs)) t
    → SettingBytes t (take n bs)
front_says bs n t e low high says =
    let l = length-take n bs in
    let a = get_or-take n bs 0 0 (omega arith) in
    let b = get_or-take n bs 1 0 (omega arith) in
    let c = get_or-take n bs 2 0 (omega arith) in
    let d = get_or-take n bs 3 0 (omega arith) in
    let m : 4 + (n - 4) ≡ n = omega arith in
    let kind : word bs 2 ≡ word (take n bs) 2 = omega arith in
    let body : take (n - 4) (drop 4 bs) ≡ drop 4 (take n bs) = sym (drop-take 4 (n - 4) bs) ∙ ap (λ x. drop 4 (take x bs)) m in
    bytes_say (take n bs) t (omega arith) (omega arith) (subst (λ b. Says (word (take n bs) 2) b t) body (subst (λ k. Says k (take (n - 4) (drop 4 bs)) t) kind says))

module _ (F : Floor) (at : ℕ) where
  -- the bytes that a setting was read from begin with its record
  record_cut : (bs : List ℕ) (t : Setting) (rest : List ℕ) → next_judged F at bs ≡ Ok (t, rest)
      → (front : List ℕ) × (bs ≡ front ++ rest) × SettingBytes t front × Allowed F t
  record_cut bs t rest e =
      let a = onward_ok _ (setting_read at bs) _ e in
      let b = onward_ok _ (setting_judged F at a.0.0) _ a.2 in
      let c = unless_ok (cut_short bs) _ _ a.1 in
      let d = onward_ok _ (body_read at (word bs 2) (take (word bs 0 - 4) (drop 4 bs))) _ c.1 in
      let w = whole bs c.0 in
      let bytes = front_says bs (word bs 0) d.0 refl w.1 w.2 (body_says at (word bs 2) _ d.0 d.1) in
      let read : ◌≡◌ {A = Setting × List ℕ} (d.0, drop (word bs 0) bs) (t, rest) = ok_same {E = Refusal} d.2 ∙ ok_same {E = Refusal} b.2 in
      let same : d.0 ≡ t = ap (λ (x : Setting × List ℕ). x.0) read in
      let left : drop (word bs 0) bs ≡ rest = ap (λ (x : Setting × List ℕ). x.1) read in
      let told : a.0.0 ≡ t = ap (λ (x : Setting × List ℕ). x.0) (ok_same {E = Refusal} b.2) in (
        take (word bs 0) bs,
        sym (take-append-drop (word bs 0) bs) ∙ ap (λ x. take (word bs 0) bs ++ x) left,
        subst (λ x. SettingBytes x (take (word bs 0) bs)) same bytes,
        subst (Allowed F) told (judged_allowed F at a.0.0 b.1),
      )

  -- bytes that begin with the record of a setting are read as the setting
  record_read : (t : Setting) (front rest : List ℕ) → SettingBytes t front → Allowed F t → next_judged F at (front ++ rest) ≡ Ok (t, rest)
  record_read t front rest r allowed =
      let s = bytes_said front t r in
      let four = s.0 in
      let told = s.1 in
      let l = length-append front rest in
      let a = get_or_append_left front rest 0 0 (omega arith) in
      let b = get_or_append_left front rest 0 1 (omega arith) in
      let c = get_or_append_left front rest 0 2 (omega arith) in
      let d = get_or_append_left front rest 0 3 (omega arith) in
      let n : word (front ++ rest) 0 ≡ length front = omega arith in
      let kind : word (front ++ rest) 2 ≡ word front 2 = omega arith in
      let size : length (drop 4 front) ≡ length front - 4 = length-drop 4 front in
      let body : take (word (front ++ rest) 0 - 4) (drop 4 (front ++ rest)) ≡ drop 4 front =
      ap (λ x. take (x - 4) (drop 4 (front ++ rest))) n ∙ ap (take (length front - 4)) (drop-append-le 4 front rest four)
      ∙ take_at (drop 4 front) rest (length front - 4) size in
      let left : drop (word (front ++ rest) 0) (front ++ rest) ≡ rest = ap (λ x. drop x (front ++ rest)) n ∙ drop_at front rest (length front) refl in
      let read : setting_read at (front ++ rest) ≡ Ok (t, rest) =
      unless_passed _ _ _ (not_cut (front ++ rest) (omega arith) (omega arith) (omega arith))
      ∙ (λ i. onward (λ e. e) (body_read at (kind i) (body i)) (λ u. Ok (u, left i)))
      ∙ ap (λ (x : Result Setting Refusal). onward (λ e. e) x (λ u. Ok (u, rest))) (body_said at (word front 2) (drop 4 front) t s.2) in
      ap (λ (x : Result (Setting × List ℕ) Refusal). onward (λ e. e) x (λ p. onward (λ e. e) (setting_judged F at p.0) (λ _. Ok p))) read
      ∙ ap (λ (x : Result (Unit {0}) Refusal). onward (λ e. e) x (λ _. Ok (t, rest))) (allowed_judged F at t allowed)

-- ---- a whole sheet

before_ok : (t : Setting) (r : Result (List Setting) Refusal) {ts : List Setting} → before t r ≡ Ok ts → (us : List Setting) × (r ≡ Ok us) × (t ∷ us ≡ ts)
before_ok t (Ok us) e = (us, refl, ok_same {E = Refusal} e)
before_ok t (Err x) e = cc

front_long : (t : Setting) (front : List ℕ) → SettingBytes t front → 4 ≤ length front
front_long t front r = (bytes_said front t r).0

module _ (F : Floor) (total : ℕ) where
  abbrev Encoded : List ℕ → List Setting → Type 0
  Encoded bs ts = Row SettingBytes ts bs × AllByRecursion (Allowed F) ts

  none_encoded : (bs : List ℕ) (ts : List Setting) → length bs ≡ 0 → ◌≡◌ {A = Result (List Setting) Refusal} (Ok []) (Ok ts) → Encoded bs ts
  none_encoded bs ts n e = subst (Encoded bs) (ok_same {E = Refusal} e) (nil_from_length bs n, tt)

  pub read_encodes : (fuel : ℕ) (bs : List ℕ) (ts : List Setting) → length bs ≤ fuel → sheet_read fuel total F bs ≡ Ok ts → Encoded bs ts
  read_encodes zero bs ts l e = none_encoded bs ts (omega arith) e
  read_encodes (suc fuel) bs ts l e = by (eqb (length bs) 0) refl (read_encodes fuel) e
    where
      go : Setting × List ℕ → Result (List Setting) Refusal
      go p = before p.0 (sheet_read fuel total F p.1)

      by : (b : Bool) → eqb (length bs) 0 ≡ b
          → ((bs : List ℕ) (ts : List Setting) → length bs ≤ fuel → sheet_read fuel total F bs ≡ Ok ts → Encoded bs ts)
          → cond b (Ok []) (onward (λ e. e) (next_judged F (total - length bs) bs) go) ≡ Ok ts → Encoded bs ts
      by true q ih p = none_encoded bs ts (eqb-true (length bs) 0 q) p
      by false q ih p =
          let a = onward_ok (λ e. e) (next_judged F (total - length bs) bs) go p in
          let t = a.0.0 in
          let rest = a.0.1 in
          let b = before_ok t (sheet_read fuel total F rest) a.2 in
          let c = record_cut F (total - length bs) bs t rest a.1 in
          let n = length-append c.0 rest in
          let m = ap length c.1 in
          let f = front_long t c.0 c.2 in
          let more = ih rest b.0 (omega arith) b.1 in
          subst (Encoded bs) b.2 ((c.0, rest, c.1, c.2, more.0), (c.3, more.1))

  pub encoded_reads : (fuel : ℕ) (bs : List ℕ) (ts : List Setting) → length bs ≤ fuel → Row SettingBytes ts bs → AllByRecursion (Allowed F) ts
      → sheet_read fuel total F bs ≡ Ok ts
  encoded_reads fuel bs [] l none allowed = read_none F total fuel bs (ap length none)
  encoded_reads zero bs (t ∷ ts) l (front, rest, cut, bytes, row) allowed =
      let f = front_long t front bytes in
      absurd (omega (arith, ap length cut, length-append front rest))
  encoded_reads (suc fuel) bs (t ∷ ts) l (front, rest, cut, bytes, row) allowed =
      let f = front_long t front bytes in
      let n = length-append front rest in
      let m = ap length cut in
      let first : next_judged F (total - length bs) bs ≡ Ok (t, rest) =
      ap (next_judged F (total - length bs)) cut ∙ record_read F (total - length bs) t front rest bytes allowed.0 in
      read_more F total fuel bs t rest (omega arith) (sym first) ∙ ap (before t) (encoded_reads fuel rest ts (omega arith) row allowed.1)

pub accepted_sheets_encode : AcceptedSheetsEncode
accepted_sheets_encode F bs ts e =
    let a = unless_ok (ltb most_sheet_bytes (length bs)) _ _ e in
    let r = read_encodes F (length bs) (length bs) bs ts (omega arith) a.1 in
    record { not_too_long = ltb-false _ _ a.0; encodes = r.0; allowed = r.1 }

pub sheets_are_accepted : SheetsAreAccepted
sheets_are_accepted F bs ts d =
    unless_passed _ _ _ (le-ltb most_sheet_bytes (length bs) d.not_too_long)
    ∙ encoded_reads F (length bs) (length bs) bs ts (omega arith) d.encodes d.allowed
