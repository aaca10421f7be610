-- Plain sides and grades.
use Rattle.std.proofs.Common.{◌≡◌, ℕ, zero, suc, ◌+◌, ◌-◌, ◌*◌, ◌^◌, ◌<◌, ◌≤◌, min, cond, ltb, refl, ap, ◌∙◌, inl, inr, arith}
use lib.Bits.{bit_and, bit_or, or_lt, and_lt}
use Rattle.std.proofs.lemmas.Bool.Decides.{nat_tests}
use Rattle.std.proofs.lemmas.Bool.{cases_eq}
use Rattle.polymatroid.specs.Sets.{has, code}
use Rattle.polymatroid.specs.Side.{load, In, Caps}
use Rattle.polymatroid.proofs.Codes.{has_or, has_and, has_none, has_code, code_below, same_sets}
use Rattle.polymatroid.proofs.Side.{load_modular}
use Rattle.polymatroid.specs.Laws.{Bends}
use Rattle.polymatroid.proofs.Build.{has_plus, plus_below}
use Rattle.polymatroid.specs.Kinds.{plain, firsts, size, graded, Falls, PlainKeeps, GradesKeep, RisingBreaks}

-- ---- plain sides

pub load_none : (w : ℕ → ℕ) (k : ℕ) → load w k 0 ≡ 0
unfolding load
load_none w zero = refl
load_none w (suc k) = let h = has_none k in let ih = load_none w k in grind arith

pub load_mono : (w : ℕ → ℕ) (k X Y : ℕ) → ((p : ℕ) → p < k → In X p → In Y p) → load w k X ≤ load w k Y
unfolding load
load_mono w zero X Y h = omega arith
load_mono w (suc k) X Y h =
    let ih = load_mono w k X Y (λ p l. h p (omega arith)) in
    let a = h k (omega arith) in
    grind arith

pub load_top : (w : ℕ → ℕ) (t k X : ℕ) → ((p : ℕ) → p < k → w p ≤ t) → load w k X ≤ k * t
unfolding load
load_top w t zero X h = omega arith
load_top w t (suc k) X h =
    let ih = load_top w t k X (λ p l. h p (omega arith)) in
    let a = h k (omega arith) in
    let b : cond (has X k) (w k) 0 ≤ t = grind arith in
    omega arith

pub load_caps : (w : ℕ → ℕ) (k : ℕ) → Caps k (load w k)
load_caps w k = record {
  none = load_none w k;
  grows = λ X p l h. load_mono w k X (bit_or X (2 ^ p)) (λ q m i. let a = has_plus X p q in grind arith);
  bends = λ X Y lX lY. omega (arith, load_modular w k X Y);
}

pub plain_keeps : PlainKeeps
unfolding plain
plain_keeps t k w h = (load_caps w k, λ X l. load_top w t k X h)

-- ---- grades

firsts_step : (g : ℕ → ℕ) (n : ℕ) → firsts g (suc n) ≡ firsts g n + g n
unfolding firsts
firsts_step g n = refl

firsts_none : (g : ℕ → ℕ) → firsts g 0 ≡ 0
unfolding firsts
firsts_none g = refl

firsts_mono : (g : ℕ → ℕ) (a b : ℕ) → a ≤ b → firsts g a ≤ firsts g b
unfolding firsts
firsts_mono g a zero l = let e : a ≡ 0 = omega arith in omega (arith, ap (firsts g) e)
firsts_mono g a (suc b) l =
    elim (cases_eq a (suc b)) [
      | inl e ↦ omega (arith, ap (firsts g) e)
      | inr e ↦ omega (arith, firsts_mono g a b (omega arith))
    ]

firsts_top : (g : ℕ → ℕ) (t k n : ℕ) → ((i : ℕ) → i < k → g i ≤ t) → n ≤ k → firsts g n ≤ k * t
unfolding firsts
firsts_top g t k zero h l = omega arith
firsts_top g t zero (suc n) h l = absurd (omega arith)
firsts_top g t (suc k) (suc n) h l =
    let a = firsts_top g t k n (λ i m. h i (omega arith)) (omega arith) in
    let b = h n (omega arith) in
    omega arith

pub size_modular : (k X Y : ℕ) → size k (bit_or X Y) + size k (bit_and X Y) ≡ size k X + size k Y
unfolding size
size_modular k X Y = load_modular (λ p. 1) k X Y

pub size_mono : (k X Y : ℕ) → ((p : ℕ) → p < k → In X p → In Y p) → size k X ≤ size k Y
unfolding size
size_mono k X Y h = load_mono (λ p. 1) k X Y h

pub size_top : (k X : ℕ) → size k X ≤ k
unfolding size
size_top k X = omega (arith, load_top (λ p. 1) 1 k X (λ p l. omega arith))

pub size_none : (k : ℕ) → size k 0 ≡ 0
unfolding size
size_none k = load_none (λ p. 1) k

module _ (g : ℕ → ℕ) (k : ℕ) (falls : Falls g k) where
  falls_on : (i d : ℕ) → i + d < k → g (i + d) ≤ g i
  falls_on i zero l = omega (arith, ap g (zero_on i))
    where
      zero_on : (i : ℕ) → i + 0 ≡ i
      zero_on i = omega arith
  falls_on i (suc d) l =
      let a = falls (i + d) (omega arith) in
      let b = falls_on i d (omega arith) in
      let e : i + suc d ≡ suc (i + d) = omega arith in
      omega (arith, ap g e)

  falls_to : (i j : ℕ) → i ≤ j → j < k → g j ≤ g i
  falls_to i j l h =
      let e : i + (j - i) ≡ j = omega arith in
      omega (arith, falls_on i (j - i) (omega arith), ap g e)

  -- d grades more bring more from a lower start
  concave : (a b d : ℕ) → a ≤ b → b + d ≤ k → firsts g (b + d) + firsts g a ≤ firsts g (a + d) + firsts g b
  concave a b zero l h =
      let x : b + 0 ≡ b = omega arith in
      let y : a + 0 ≡ a = omega arith in
      omega (arith, ap (firsts g) x, ap (firsts g) y)
  concave a b (suc d) l h =
      let ih = concave a b d l (omega arith) in
      let x : b + suc d ≡ suc (b + d) = omega arith in
      let y : a + suc d ≡ suc (a + d) = omega arith in
      let z = falls_to (a + d) (b + d) (omega arith) (omega arith) in
      omega (arith, ap (firsts g) x, ap (firsts g) y, firsts_step g (b + d), firsts_step g (a + d))

  pub graded_bends : Bends k (graded g k)
  unfolding graded
  graded_bends X Y lX lY =
      let m = size_modular k X Y in
      let i = size_mono k (bit_and X Y) X (λ p l h. let o = has_and X Y p in grind arith) in
      let j = size_mono k (bit_and X Y) Y (λ p l h. let o = has_and X Y p in grind arith) in
      let u = size_top k (bit_or X Y) in
      met (size k (bit_and X Y)) (size k X) (size k Y) (size k (bit_or X Y)) m i j u
    where
      met : (a x y u : ℕ) → u + a ≡ x + y → a ≤ x → a ≤ y → u ≤ k → firsts g u + firsts g a ≤ firsts g x + firsts g y
      met a x y u m i j h =
          let e : y + (x - a) ≡ u = omega arith in
          let f : a + (x - a) ≡ x = omega arith in
          omega (arith, concave a y (x - a) j (omega arith), ap (firsts g) e, ap (firsts g) f)

pub grades_keep : GradesKeep
unfolding graded
grades_keep t k g falls h = (
  record {
    none = ap (firsts g) (size_none k) ∙ firsts_none g;
    grows = λ X p l m.
        firsts_mono g (size k X) (size k (bit_or X (2 ^ p)))
        (size_mono k X (bit_or X (2 ^ p)) (λ q n i. let a = has_plus X p q in grind arith));
    bends = graded_bends g k falls;
  },
  λ X l. firsts_top g t k (size k X) h (size_top k X),
)

-- ---- rising grades

module _ (k : ℕ) where
  -- the first n positions
  row : ℕ → ℕ
  row n = code k (λ p. ltb p n)

  row_below : (n : ℕ) → row n < 2 ^ k
  unfolding row
  row_below n = code_below k (λ p. ltb p n)

  has_row : (n p : ℕ) → p < k → has (row n) p ≡ ltb p n
  unfolding row
  has_row n p l = has_code k (λ p. ltb p n) p l

  row_load : (n j : ℕ) → n ≤ k → j ≤ k → load (λ p. 1) j (row n) ≡ min n j
  unfolding load
  row_load n zero l m = omega arith
  row_load n (suc j) l m =
      let ih = row_load n j l (omega arith) in
      let a = has_row n j m in
      grind (arith, nat_tests)

  row_size : (n : ℕ) → n ≤ k → size k (row n) ≡ n
  unfolding size
  row_size n l = omega (arith, row_load n k l (omega arith))

pub rising_breaks : RisingBreaks
unfolding graded
rising_breaks k i g l r bends =
    let A : ℕ = row k (suc i) in
    let I : ℕ = row k i in
    let B : ℕ = bit_or I (2 ^ suc i) in
    let U : ℕ = row k (suc (suc i)) in
    let lI : I < 2 ^ k = row_below k i in
    let lA : A < 2 ^ k = row_below k (suc i) in
    let lB : B < 2 ^ k = plus_below k I (suc i) lI l in
    let join : bit_or A B ≡ U =
    same_sets k (bit_or A B) U (or_lt k A B lA lB) (row_below k (suc (suc i)))
    (λ p m.
    let a = has_or A B p in
    let b = has_plus I (suc i) p in
    let c = has_row k i p m in
    let d = has_row k (suc i) p m in
    let e = has_row k (suc (suc i)) p m in
    grind (arith, nat_tests)) in
    let meet : bit_and A B ≡ I =
    same_sets k (bit_and A B) I (and_lt k A B lA lB) lI
    (λ p m.
    let a = has_and A B p in
    let b = has_plus I (suc i) p in
    let c = has_row k i p m in
    let d = has_row k (suc i) p m in
    grind (arith, nat_tests)) in
    let sU = ap (size k) join ∙ row_size k (suc (suc i)) l in
    let sI = ap (size k) meet ∙ row_size k i (omega arith) in
    let sA = row_size k (suc i) (omega arith) in
    let sB : size k B ≡ suc i = omega (arith, size_modular k A B) in
    let h = bends A B lA lB in
    omega (arith, ap (firsts g) sU, ap (firsts g) sI, ap (firsts g) sA, ap (firsts g) sB, firsts_step g i, firsts_step g (suc i))
