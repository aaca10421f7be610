-- A sheet read record by record: what one record more changes of what is left to read.
use Rattle.std.proofs.Common.{◌≡◌, ℕ, zero, suc, ◌-◌, ◌<◌, ◌≤◌, List, [], length, take, drop, Ok, Err, Result, sym, refl, ap, ◌∙◌, arith, length-drop}
use Rattle.std.proofs.lemmas.Bool.Decides.{nat_tests}
use Rattle.std.proofs.lemmas.Bool.{eq-eqb, ne_eqb, cond-true, cond-false}
use Rattle.plant.specs.declared.refusals.Refusal.{Refusal}
use Rattle.floor.specs.Floor.{Floor}
use Rattle.plantformat.specs.Bytes.{word}
use Rattle.plantformat.specs.Judge.{onward, cut_short}
use Rattle.plantformat.proofs.Verdicts.{ok_same, onward_ok, unless_ok}
use Rattle.sheets.specs.declared.reading.Setting.{Setting}
use Rattle.sheets.specs.Sheet.{body_read, setting_read, setting_judged, next_judged, before, sheet_read, Settings, setting_made, made_of, Reads}

-- ---- one record

-- the bytes that are left grow fewer
pub rest_less : (at : ℕ) (bs : List ℕ) (t : Setting) (rest : List ℕ) → Ok (t, rest) ≡ setting_read at bs → length rest < length bs
rest_less at bs t rest e =
    let a = unless_ok (cut_short bs) _ _ (sym e) in
    let b = onward_ok _ (body_read at (word bs 2) (take (word bs 0 - 4) (drop 4 bs))) _ a.1 in
    let whole = a.0 in
    let read : ◌≡◌ {A = Setting × List ℕ} (b.0, drop (word bs 0) bs) (t, rest) = ok_same {E = Refusal} b.2 in
    let same : drop (word bs 0) bs ≡ rest = ap (λ (x : Setting × List ℕ). x.1) read in
    let left = length-drop (word bs 0) bs in
    let shorter = ap length same in
    grind (arith, nat_tests)

module _ (F : Floor) (at : ℕ) (bs : List ℕ) where
  -- a fault in the reading of a setting
  unread_next : (x : Refusal) → Err x ≡ setting_read at bs → next_judged F at bs ≡ Err x
  unread_next x e = ap (λ s. onward (λ e. e) s (λ p. onward (λ e. e) (setting_judged F at p.0) (λ _. Ok p))) (sym e)

  -- a setting that was read is judged
  judged_next : (t : Setting) (rest : List ℕ) (r : Result (Unit {0}) Refusal) → Ok (t, rest) ≡ setting_read at bs → r ≡ setting_judged F at t
      → next_judged F at bs ≡ onward (λ e. e) r (λ _. Ok (t, rest))
  judged_next t rest r e f =
      ap (λ s. onward (λ e. e) s (λ p. onward (λ e. e) (setting_judged F at p.0) (λ _. Ok p))) (sym e)
      ∙ ap (λ s. onward (λ e. e) s (λ _. Ok (t, rest))) (sym f)

-- ---- the records that follow

module _ (F : Floor) (total : ℕ) where
  -- what follows a record that was read
  abbrev then : ℕ → Result (Setting × List ℕ) Refusal → Result (List Setting) Refusal
  then fuel r = onward (λ e. e) r (λ p. before p.0 (sheet_read fuel total F p.1))

  pub read_none : (fuel : ℕ) (bs : List ℕ) → length bs ≡ 0 → sheet_read fuel total F bs ≡ Ok []
  read_none zero bs e = refl
  read_none (suc fuel) bs e = cond-true _ _ _ (eq-eqb (length bs) 0 e)

  read_next : (fuel : ℕ) (bs : List ℕ) → 0 < length bs → sheet_read (suc fuel) total F bs ≡ then fuel (next_judged F (total - length bs) bs)
  read_next fuel bs l = cond-false _ _ _ (ne_eqb (length bs) 0 (λ e. omega arith))

  pub read_more : (fuel : ℕ) (bs : List ℕ) (t : Setting) (rest : List ℕ) → 0 < length bs → Ok (t, rest) ≡ next_judged F (total - length bs) bs
      → sheet_read (suc fuel) total F bs ≡ before t (sheet_read fuel total F rest)
  read_more fuel bs t rest l e = read_next fuel bs l ∙ ap (then fuel) (sym e)

  -- one record takes one of the fuel
  one_more : (fuel : ℕ) (bs : List ℕ) → 0 < length bs → length bs ≤ fuel
      → (left : ℕ) × (length bs ≤ suc left) × (sheet_read fuel total F bs ≡ then left (next_judged F (total - length bs) bs))
  one_more zero bs l n = absurd (omega arith)
  one_more (suc left) bs l n = (left, n, read_next left bs l)

made_before : (F : Floor) (t : Setting) (r : Result (List Setting) Refusal) (st : Settings)
    → made_of F (before t r) st ≡ made_of F r (setting_made F t st)
made_before F t (Ok ts) st = refl
made_before F t (Err e) st = refl

-- a refusal that is handed up
handed_up : (V : Result Settings Refusal) (st : Settings) (x y : Refusal) (r : Result (Unit {0}) Refusal) → V ≡ Err x → r ≡ Err y → y ≡ x → Reads V st r
handed_up V st x y (Ok u) e f g = cc
handed_up V st x y (Err z) e f g = cc

-- ---- the walk over a sheet: V is what was to be found of the whole sheet, bs are the bytes that are left, st the settings so far

pub record Walk (F : Floor) (total : ℕ) (V : Result Settings Refusal) (bs : List ℕ) (st : Settings) : Type 0 where
  pub fuel : ℕ
  pub enough : length bs ≤ fuel
  pub so_far : V ≡ made_of F (sheet_read fuel total F bs) st

pub walk_starts : (F : Floor) (bs : List ℕ) (st : Settings) → Walk F (length bs) (made_of F (sheet_read (length bs) (length bs) F bs) st) bs st
walk_starts F bs st = record { fuel = length bs; enough = omega arith; so_far = refl }

module _ (F : Floor) (total : ℕ) (V : Result Settings Refusal) (bs : List ℕ) (st : Settings) (w : Walk F total V bs st) where
  pub walk_ends : length bs ≡ 0 → V ≡ Ok st
  walk_ends e = w.so_far ∙ ap (λ r. made_of F r st) (read_none F total w.fuel bs e)

  pub walk_unread : (x y : Refusal) (r : Result (Unit {0}) Refusal) → 0 < length bs → Err x ≡ setting_read (total - length bs) bs
      → r ≡ Err y → y ≡ x → Reads V st r
  walk_unread x y r l e told same =
      let m = one_more F total w.fuel bs l w.enough in
      let stops : V ≡ Err x =
      w.so_far ∙ ap (λ r. made_of F r st) (m.2 ∙ ap (then F total m.0) (unread_next F (total - length bs) bs x e)) in
      handed_up V st x y r stops told same

  pub walk_refused : (after : Settings) (x y : Refusal) (r : Result (Unit {0}) Refusal) (t : Setting) (rest : List ℕ) → 0 < length bs
      → Ok (t, rest) ≡ setting_read (total - length bs) bs → Err x ≡ setting_judged F (total - length bs) t → r ≡ Err y → y ≡ x → Reads V after r
  walk_refused after x y r t rest l e f told same =
      let m = one_more F total w.fuel bs l w.enough in
      let stops : V ≡ Err x =
      w.so_far ∙ ap (λ r. made_of F r st) (m.2 ∙ ap (then F total m.0) (judged_next F (total - length bs) bs t rest (Err x) e f)) in
      handed_up V after x y r stops told same

  pub walk_on : (t : Setting) (rest : List ℕ) → 0 < length bs → Ok (t, rest) ≡ setting_read (total - length bs) bs
      → Ok tt ≡ setting_judged F (total - length bs) t → Walk F total V rest (setting_made F t st)
  walk_on t rest l e f =
      let m = one_more F total w.fuel bs l w.enough in
      record {
        fuel = m.0;
        enough = omega (arith, m.1, rest_less (total - length bs) bs t rest e);
        so_far =
            w.so_far ∙ ap (λ r. made_of F r st) (m.2 ∙ ap (then F total m.0) (judged_next F (total - length bs) bs t rest (Ok tt) e f))
            ∙ made_before F t (sheet_read m.0 total F rest) st;
      }
