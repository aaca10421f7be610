use Rattle.std.proofs.Common.{◌≡◌, ℕ, zero, suc, ◌+◌, ◌*◌, ◌/◌, ◌%◌, ◌^◌, ◌<◌, ◌≤◌, Bool, true, false, cond, not, ◌&&◌, ◌||◌, eqb, sym, refl, ap, ◌∙◌, inl, inr, pow-suc, arith}
use lib.Bits.{bit_and, bit_or, or_shr, or_mod, and_shr, and_mod, block_half, block_odd}
use Rattle.std.proofs.lemmas.Nat.{shr-shr, shr_high}
use Rattle.std.proofs.lemmas.Bool.Decides.{nat_tests}
use Rattle.std.proofs.lemmas.Bool.{cases_lt}
use Rattle.polymatroid.specs.Sets.{has, code, without}

or_digit : (a b : ℕ) → a < 2 → b < 2 → eqb (bit_or a b) 1 ≡ (eqb a 1 || eqb b 1)
or_digit zero b ha hb = refl
or_digit (suc zero) zero ha hb = refl
or_digit (suc zero) (suc zero) ha hb = refl
or_digit (suc zero) (suc (suc b)) ha hb = absurd (omega arith)
or_digit (suc (suc a)) b ha hb = absurd (omega arith)

and_digit : (a b : ℕ) → a < 2 → b < 2 → eqb (bit_and a b) 1 ≡ (eqb a 1 && eqb b 1)
and_digit zero b ha hb = refl
and_digit (suc zero) zero ha hb = refl
and_digit (suc zero) (suc zero) ha hb = refl
and_digit (suc zero) (suc (suc b)) ha hb = absurd (omega arith)
and_digit (suc (suc a)) b ha hb = absurd (omega arith)

pub has_or : (X Y p : ℕ) → has (bit_or X Y) p ≡ (has X p || has Y p)
unfolding has
has_or X Y p =
    rw (or_shr X Y p, or_mod (X / 2 ^ p) (Y / 2 ^ p) 1)
    (or_digit (X / 2 ^ p % 2) (Y / 2 ^ p % 2) (omega arith) (omega arith))

pub has_and : (X Y p : ℕ) → has (bit_and X Y) p ≡ (has X p && has Y p)
unfolding has
has_and X Y p =
    rw (and_shr X Y p, and_mod (X / 2 ^ p) (Y / 2 ^ p) 1)
    (and_digit (X / 2 ^ p % 2) (Y / 2 ^ p % 2) (omega arith) (omega arith))

-- one position at a time
pub has_zero : (X : ℕ) → has X 0 ≡ eqb (X % 2) 1
unfolding has
has_zero X = ap (λ (x : ℕ). eqb (x % 2) 1) (omega arith)

pub has_suc : (X p : ℕ) → has X (suc p) ≡ has (X / 2) p
unfolding has
has_suc X p = ap (λ (x : ℕ). eqb (x % 2) 1) (ap (λ (q : ℕ). X / 2 ^ q) (omega arith) ∙ sym (shr-shr X 1 p))

pub has_low : (k X p a : ℕ) → p < k → has (a * 2 ^ k + X) p ≡ has X p
has_low zero X p a l = absurd (omega arith)
has_low (suc k) X zero a l = rw (has_zero, has_zero) (ap (λ (x : ℕ). eqb x 1) (block_odd a k X))
has_low (suc k) X (suc p) a l = simp (has_suc, block_half a k X) (has_low k (X / 2) p a (omega arith))

pub has_top : (k X a : ℕ) → X < 2 ^ k → has (a * 2 ^ k + X) k ≡ eqb (a % 2) 1
unfolding has
has_top k X a h = rw (shr_high a k X h)

pub code_below : (k : ℕ) (t : ℕ → Bool) → code k t < 2 ^ k
unfolding code
code_below zero t = omega arith
code_below (suc k) t = rw (pow-suc 2 k) (grind (arith, code_below k t))

-- one more position on top: it is in the set if b is true
push_low : (k X p : ℕ) (b : Bool) → p < k → has (X + cond b (2 ^ k) 0) p ≡ has X p
push_low k X p true h = ap (λ x. has x p) (omega arith) ∙ has_low k X p 1 h
push_low k X p false h = ap (λ x. has x p) (omega arith)

push_top : (k X : ℕ) (b : Bool) → X < 2 ^ k → has (X + cond b (2 ^ k) 0) k ≡ b
push_top k X true h = ap (λ x. has x k) (omega arith) ∙ has_top k X 1 h
push_top k X false h = ap (λ x. has x k) (omega arith) ∙ has_top k X 0 h

pub has_code : (k : ℕ) (t : ℕ → Bool) (p : ℕ) → p < k → has (code k t) p ≡ t p
unfolding code
has_code zero t p h = absurd (omega arith)
has_code (suc k) t p h =
    elim (cases_lt p k) [
      | inl l ↦ push_low k (code k t) p (t k) l ∙ has_code k t p l
      | inr l ↦
          let e : p ≡ k = omega arith in
          rw e (push_top k (code k t) (t k) (code_below k t))
    ]

pub same_sets : (k X Y : ℕ) → X < 2 ^ k → Y < 2 ^ k → ((p : ℕ) → p < k → has X p ≡ has Y p) → X ≡ Y
same_sets zero X Y hX hY e = omega arith
same_sets (suc k) X Y hX hY e =
    let hi : X / 2 ≡ Y / 2 =
    same_sets k (X / 2) (Y / 2) (omega arith) (omega arith)
    (λ p l. simp (has_suc) at (e (suc p) (omega arith))) in
    let lo : eqb (X % 2) 1 ≡ eqb (Y % 2) 1 = simp has_zero at (e 0 (omega arith)) in
    grind (arith, nat_tests)

pub without_below : (k X p : ℕ) → without k X p < 2 ^ k
unfolding without
without_below k X p = code_below k (λ q. has X q && not (eqb q p))

pub has_without : (k X p q : ℕ) → q < k → has (without k X p) q ≡ (has X q && not (eqb q p))
unfolding without
has_without k X p q l = has_code k (λ q. has X q && not (eqb q p)) q l

pub has_none : (p : ℕ) → has 0 p ≡ false
has_none zero = has_zero 0
has_none (suc p) = has_suc 0 p ∙ has_none p

pub has_one : (p q : ℕ) → has (2 ^ p) q ≡ eqb q p
has_one zero zero = has_zero 1
has_one zero (suc q) = has_suc 1 q ∙ has_none q ∙ grind (arith, nat_tests)
has_one (suc p) zero = has_zero (2 ^ suc p) ∙ grind (arith, nat_tests)
has_one (suc p) (suc q) =
    let h : 2 ^ suc p / 2 ≡ 2 ^ p = omega arith in
    has_suc (2 ^ suc p) q ∙ ap (λ x. has x q) h ∙ has_one p q ∙ grind (arith, nat_tests)

-- past the side no position is in a set
pub has_past : (k X p : ℕ) → X < 2 ^ k → k ≤ p → has X p ≡ false
has_past zero X p h l = ap (λ x. has x p) (omega arith) ∙ has_none p
has_past (suc k) X zero h l = absurd (omega arith)
has_past (suc k) X (suc p) h l = has_suc X p ∙ has_past k (X / 2) p (omega arith) (omega arith)
