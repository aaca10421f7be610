-- The sums that make a cap, one position or one group at a time.
use Rattle.std.proofs.Common.{◌≡◌, ℕ, zero, suc, ◌+◌, ◌*◌, ◌<◌, ◌≤◌, true, false, cond, eqb, List, length, get_or, set, sym, refl, ap, ◌∙◌, inl, inr, suc-mul, add-one, arith}
use Rattle.std.proofs.lemmas.List.{get_or-set_same, get_or-set_other}
use Rattle.std.proofs.lemmas.Bool.{cases_eq, eq-eqb, ne_eqb}
use Rattle.std.proofs.lemmas.Bool.Decides.{nat_tests}
use Rattle.polymatroid.specs.Sets.{has}
use Rattle.polymatroid.specs.Side.{load}
use Rattle.polymatroid.specs.Kinds.{size, firsts, Groups, own}
use Rattle.plantformat.specs.Bytes.{word}
use Rattle.plantformat.specs.Judge.{members_at}
use Rattle.limits.specs.Checks.{GroupsOf}
use Rattle.limits.proofs.Checked.{length_members, members_is, below_at}

-- ---- grades

pub size_none : (X : ℕ) → size 0 X ≡ 0
unfolding size load
size_none X = refl

pub size_with : (p X : ℕ) → has X p ≡ true → size (p + 1) X ≡ size p X + 1
unfolding size load
size_with p X h = ap (λ n. size n X) (add-one p) ∙ grind arith

pub size_without : (p X : ℕ) → has X p ≡ false → size (p + 1) X ≡ size p X
unfolding size load
size_without p X h = ap (λ n. size n X) (add-one p) ∙ grind arith

pub firsts_none : (g : ℕ → ℕ) → firsts g 0 ≡ 0
unfolding firsts
firsts_none g = refl

pub firsts_more : (g : ℕ → ℕ) (n : ℕ) → firsts g (n + 1) ≡ firsts g n + g n
unfolding firsts
firsts_more g n = ap (firsts g) (add-one n)

-- ---- what the members of a set bring to each group

module _ (G : Groups) (i X : ℕ) where
  pub own_none : own G 0 i X ≡ 0
  unfolding own load
  own_none = refl

  pub own_with : (n : ℕ) → has X n ≡ true → own G (n + 1) i X ≡ own G n i X + cond (eqb (G.group n) i) (G.cap n) 0
  unfolding own load
  own_with n h = ap (λ m. own G m i X) (add-one n) ∙ grind arith

  pub own_without : (n : ℕ) → has X n ≡ false → own G (n + 1) i X ≡ own G n i X
  unfolding own load
  own_without n h = ap (λ m. own G m i X) (add-one n) ∙ grind arith

  pub own_low : (t n : ℕ) → ((p : ℕ) → p < n → G.cap p ≤ t) → own G n i X ≤ n * t
  unfolding own load
  own_low t zero h = omega arith
  own_low t (suc n) h =
      let ih = own_low t n (λ p l. h p (omega arith)) in
      let last = h n (omega arith) in
      let more : suc n * t ≡ n * t + t = suc-mul n t in
      grind (arith, nat_tests)

-- a number is added to place j
pub added_at : (xs : List ℕ) (j a : ℕ) → j < length xs
    → (i : ℕ) → get_or (set xs j (get_or xs j 0 + a)) i 0 ≡ get_or xs i 0 + cond (eqb j i) a 0
added_at xs j a l i =
    elim (cases_eq i j) [
      | inl e ↦
          let here = ap (λ n. get_or (set xs j (get_or xs j 0 + a)) n 0) e ∙ get_or-set_same xs j (get_or xs j 0 + a) 0 l in
          let same = ap (λ n. get_or xs n 0) e in
          let t = eq-eqb j i (sym e) in
          grind arith
      | inr ne ↦
          let there = get_or-set_other xs j i (get_or xs j 0 + a) 0 ne in
          let t = ne_eqb j i (λ e. ne (sym e)) in
          grind arith
    ]

-- one member more
pub own_added : (G : Groups) (X n j : ℕ) (xs ys : List ℕ) → ((i : ℕ) → i < 16 → get_or xs i 0 ≡ own G n i X)
    → has X n ≡ true → j < length xs → G.group n ≡ j → ys ≡ set xs j (get_or xs j 0 + G.cap n)
    → (i : ℕ) → i < 16 → get_or ys i 0 ≡ own G (n + 1) i X
own_added G X n j xs ys so_far h l g e i m =
    let here = ap (λ zs. get_or zs i 0) e ∙ added_at xs j (G.cap n) l i in
    let group = ap (λ j. cond (eqb j i) (G.cap n) 0) g in
    omega (arith, here, so_far i m, own_with G i X n h, group)

-- ---- the groups in the bytes

module _ {g k : ℕ} {b : List ℕ} (groups : GroupsOf g k b) where
  pub member_on : (p : ℕ) → p < k → word b (6 * g + 2 * p) < g
  member_on p l =
      let n = length_members b k g in
      let e = members_is b k g p l in
      let h = below_at g (members_at k g b) groups.members p (omega arith) in
      omega arith
