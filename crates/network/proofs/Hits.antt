-- The numbers of a stretch that pass a test, in order; and sums over a stretch.
use Rattle.std.proofs.Common.{◌≡◌, ℕ, zero, suc, ◌+◌, ◌<◌, ◌≤◌, Bool, true, false, cond, ltb, List, [], ◌∷◌, length, get_or, refl, ap, ◌∙◌, inl, inr, arith}
use Rattle.std.specs.List.{AllByRecursion}
use Rattle.std.proofs.lemmas.Bool.Decides.{nat_tests}
use Rattle.std.proofs.lemmas.Bool.{cases_eq, both_ways}
use Rattle.std.proofs.ByRecursion.{All-get_or}
use Rattle.polymatroid.specs.Finite.{first}
use Rattle.polymatroid.proofs.Finite.{first_le, first_passes}
use Rattle.polymatroid.specs.Kinds.{sum_to}

-- those of the c numbers from a on that pass t
unfoldable pub hits : (ℕ → Bool) → ℕ → ℕ → List ℕ
hits t a zero = []
hits t a (suc c) = cond (t a) (a ∷ hits t (suc a) c) (hits t (suc a) c)

all_cond : (Q : ℕ → Type 0) (b : Bool) (a : ℕ) (H : List ℕ) → (b ≡ true → Q a) → AllByRecursion Q H → AllByRecursion Q (cond b (a ∷ H) H)
all_cond Q true a H h r = (h refl, r)
all_cond Q false a H h r = r

-- a hit lies in the stretch and passes
pub all_hits : (t : ℕ → Bool) (Q : ℕ → Type 0) (a c : ℕ) → ((q : ℕ) → a ≤ q → q < a + c → t q ≡ true → Q q) → AllByRecursion Q (hits t a c)
unfolding hits
all_hits t Q a zero h = tt
all_hits t Q a (suc c) h =
    all_cond Q (t a) a (hits t (suc a) c) (λ y. h a (omega arith) (omega arith) y)
    (all_hits t Q (suc a) c (λ q l m y. h q (omega arith) (omega arith) y))

-- the hit at i, and an earlier one is lower
pub hit_at : (t : ℕ → Bool) (a c i d : ℕ) → i < length (hits t a c)
    → (a ≤ get_or (hits t a c) i d) × (get_or (hits t a c) i d < a + c) × (t (get_or (hits t a c) i d) ≡ true)
hit_at t a c i d l =
    All-get_or (λ q. (a ≤ q) × (q < a + c) × (t q ≡ true)) (hits t a c) i d l
    (all_hits t (λ q. (a ≤ q) × (q < a + c) × (t q ≡ true)) a c (λ q x y z. (x, y, z)))

abbrev pub Rises : ℕ → List ℕ → Type 0
Rises d H = (i j : ℕ) → i ≤ j → j < length H → get_or H i d ≤ get_or H j d

rises_cons : (d a : ℕ) (H : List ℕ) → AllByRecursion (λ q. a ≤ q) H → Rises d H → Rises d (a ∷ H)
rises_cons d a H lo r zero zero h l = omega arith
rises_cons d a H lo r zero (suc j) h l = All-get_or (λ q. a ≤ q) H j d (omega arith) lo
rises_cons d a H lo r (suc i) zero h l = absurd (omega arith)
rises_cons d a H lo r (suc i) (suc j) h l = r i j (omega arith) (omega arith)

rises_cond : (d a : ℕ) (b : Bool) (H : List ℕ) → AllByRecursion (λ q. a ≤ q) H → Rises d H → Rises d (cond b (a ∷ H) H)
rises_cond d a true H lo r = rises_cons d a H lo r
rises_cond d a false H lo r = r

pub hits_rise : (t : ℕ → Bool) (a c d : ℕ) → Rises d (hits t a c)
unfolding hits
hits_rise t a zero d = λ i j h l. absurd (omega arith)
hits_rise t a (suc c) d =
    rises_cond d a (t a) (hits t (suc a) c)
    (all_hits t (λ q. a ≤ q) (suc a) c (λ q l m y. omega arith)) (hits_rise t (suc a) c d)

-- sums
pub sum_same : (g h : ℕ → ℕ) (n : ℕ) → ((i : ℕ) → i < n → g i ≡ h i) → sum_to g n ≡ sum_to h n
unfolding sum_to
sum_same g h zero e = refl
sum_same g h (suc n) e = omega (arith, sum_same g h n (λ i l. e i (omega arith)), e n (omega arith))

pub sum_both : (g h : ℕ → ℕ) (n : ℕ) → sum_to (λ i. g i + h i) n ≡ sum_to g n + sum_to h n
unfolding sum_to
sum_both g h zero = refl
sum_both g h (suc n) = omega (arith, sum_both g h n)

-- one step on
pub sum_shift : (h : ℕ → ℕ) (n : ℕ) → sum_to h n + h n ≡ h 0 + sum_to (λ i. h (suc i)) n
unfolding sum_to
sum_shift h zero = omega arith
sum_shift h (suc n) = omega (arith, sum_shift h n)

pub sum_front : (h : ℕ → ℕ) (n : ℕ) → sum_to h (suc n) ≡ h 0 + sum_to (λ i. h (suc i)) n
unfolding sum_to
sum_front h n = sum_shift h n

pub sum_none : (h : ℕ → ℕ) (n : ℕ) → ((i : ℕ) → i < n → h i ≡ 0) → sum_to h n ≡ 0
unfolding sum_to
sum_none h zero e = refl
sum_none h (suc n) e = omega (arith, sum_none h n (λ i l. e i (omega arith)), e n (omega arith))

-- of a test that passes at one number at most
pub sum_first : (t : ℕ → Bool) (h : ℕ → ℕ) (n : ℕ) → ((i j : ℕ) → i < j → j < n → t i ≡ true → t j ≡ true → ⊥)
    → sum_to (λ i. cond (t i) (h i) 0) n ≡ cond (ltb (first t n) n) (h (first t n)) 0
unfolding sum_to first
sum_first t h zero one = refl
sum_first t h (suc n) one =
    let ih = sum_first t h n (λ i j l m. one i j l (omega arith)) in
    let a = first_le t n in
    let b = first_passes t n in
    let c : first t n < n → t n ≡ true → ⊥ = λ l y. one (first t n) n l (omega arith) (b l) y in
    grind (arith, nat_tests)

-- a number of the stretch that passes is a hit
pub hit_index : (t : ℕ → Bool) (a c q d : ℕ) → a ≤ q → q < a + c → t q ≡ true → (i : ℕ) × (i < length (hits t a c)) × (get_or (hits t a c) i d ≡ q)
unfolding hits
hit_index t a zero q d l m y = absurd (omega arith)
hit_index t a (suc c) q d l m y =
    elim (cases_eq a q) [
      | inl e ↦ index_here (t a) a q (hits t (suc a) c) d (ap t e ∙ y) e
      | inr e ↦ index_on (t a) a q (hits t (suc a) c) d (hit_index t (suc a) c q d (omega arith) (omega arith) y)
    ]
  where
    index_here : (b : Bool) (a q : ℕ) (H : List ℕ) (d : ℕ) → b ≡ true → a ≡ q
        → (i : ℕ) × (i < length (cond b (a ∷ H) H)) × (get_or (cond b (a ∷ H) H) i d ≡ q)
    index_here true a q H d y e = (0, omega arith, e)
    index_here false a q H d y e = absurd (both_ways false refl y)

    index_on : (b : Bool) (a q : ℕ) (H : List ℕ) (d : ℕ) → (i : ℕ) × (i < length H) × (get_or H i d ≡ q)
        → (i : ℕ) × (i < length (cond b (a ∷ H) H)) × (get_or (cond b (a ∷ H) H) i d ≡ q)
    index_on true a q H d r = (suc r.0, omega (arith, r.1), r.2)
    index_on false a q H d r = r
