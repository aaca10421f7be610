-- From a set to a larger one, one lane at a time.
use Rattle.std.proofs.Common.{◌≡◌, ℕ, zero, suc, ◌^◌, ◌<◌, ◌≤◌, Bool, true, false, cond, ◌&&◌, ◌||◌, eqb, ltb, refl, ap, ◌∙◌, subst, arith}
use mathlib.Core.Path.{subst⁻¹}
use lib.Bits.{bit_or, or_lt}
use Rattle.std.proofs.lemmas.Nat.{pow_below}
use Rattle.std.proofs.lemmas.Bool.Decides.{nat_tests}
use Rattle.polymatroid.specs.Sets.{has}
use Rattle.polymatroid.specs.Side.{In, Out}
use Rattle.polymatroid.proofs.Codes.{has_or, has_one, same_sets}

-- a set with one lane more
pub has_plus : (X p q : ℕ) → has (bit_or X (2 ^ p)) q ≡ (has X q || eqb q p)
has_plus X p q = has_or X (2 ^ p) q ∙ ap (λ b. has X q || b) (has_one p q)

pub plus_below : (k X p : ℕ) → X < 2 ^ k → p < k → bit_or X (2 ^ p) < 2 ^ k
plus_below k X p l h = or_lt k X (2 ^ p) l (pow_below p k h)

-- a lane already there adds nothing
pub plus_there : (k X p : ℕ) → X < 2 ^ k → p < k → In X p → bit_or X (2 ^ p) ≡ X
plus_there k X p l h i =
    same_sets k (bit_or X (2 ^ p)) X (plus_below k X p l h) l (λ q m. let a = has_plus X p q in grind (arith, nat_tests))

module _ (k : ℕ) (P : ℕ → Type 0) (X Y : ℕ) (lX : X < 2 ^ k) (lY : Y < 2 ^ k)
    (sub : (p : ℕ) → p < k → In X p → In Y p)
    (more : (A p : ℕ) → A < 2 ^ k → p < k → In Y p → Out A p → ((q : ℕ) → In X q → In A q) → P A → P (bit_or A (2 ^ p))) where
  -- X with the first q positions of Y
  joined : ℕ → ℕ
  joined zero = X
  joined (suc q) = cond (has Y q) (bit_or (joined q) (2 ^ q)) (joined q)

  joined_set : (q : ℕ) → q ≤ k → joined q < 2 ^ k
  unfolding joined
  joined_set zero h = lX
  joined_set (suc q) h =
      let ih = joined_set q (omega arith) in
      let o = plus_below k (joined q) q ih h in
      grind arith

  joined_has : (q p : ℕ) → has (joined q) p ≡ (has X p || (has Y p && ltb p q))
  unfolding joined
  joined_has zero p = grind (arith, nat_tests)
  joined_has (suc q) p =
      let ih = joined_has q p in
      let o = has_plus (joined q) q p in
      grind (arith, nat_tests)

  joined_all : P X → (q : ℕ) → q ≤ k → P (joined q)
  unfolding joined
  joined_all s zero h = s
  joined_all s (suc q) h = by (has Y q) refl (has (joined q) q) refl (joined_all s q (omega arith))
    where
      by : (b : Bool) → has Y q ≡ b → (c : Bool) → has (joined q) q ≡ c → P (joined q) → P (cond b (bit_or (joined q) (2 ^ q)) (joined q))
      by false e c f ih = ih
      by true e true f ih = subst⁻¹ P (plus_there k (joined q) q (joined_set q (omega arith)) h f) ih
      by true e false f ih =
          more (joined q) q (joined_set q (omega arith)) h e f (λ r i. let a = joined_has q r in grind arith) ih

  pub build : P X → P Y
  build s =
      subst P
      (same_sets k (joined k) Y (joined_set k (omega arith)) lY (λ p l. let a = joined_has k p in let b = sub p l in grind (arith, nat_tests)))
      (joined_all s k (omega arith))
