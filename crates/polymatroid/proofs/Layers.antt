-- Closing and ceiling keep the laws; so do sums.
use Rattle.std.proofs.Common.{◌≡◌, ℕ, zero, suc, ◌+◌, ◌*◌, ◌^◌, ◌<◌, ◌≤◌, Bool, not, ◌&&◌, refl, ap, ◌∙◌, arith}
use lib.Bits.{bit_and, bit_or, or_lt, and_lt}
use Rattle.std.proofs.lemmas.Nat.{pow_pos}
use Rattle.polymatroid.specs.Sets.{has}
use Rattle.polymatroid.specs.Side.{Caps}
use Rattle.polymatroid.proofs.Codes.{has_or, has_and, has_none, has_code, code_below, same_sets}
use Rattle.polymatroid.proofs.Unions.{cap_mono}
use Rattle.polymatroid.proofs.Build.{has_plus}
use Rattle.polymatroid.specs.Kinds.{kept, closing, ceiling, sum_to, ClosingKeeps, CeilingKeeps}

-- ---- closing

module _ (k : ℕ) (closed : ℕ → Bool) where
  pub kept_below : (X : ℕ) → kept k closed X < 2 ^ k
  unfolding kept
  kept_below X = code_below k (λ p. has X p && not (closed p))

  pub has_kept : (X p : ℕ) → p < k → has (kept k closed X) p ≡ (has X p && not (closed p))
  unfolding kept
  has_kept X p l = has_code k (λ p. has X p && not (closed p)) p l

  pub kept_none : kept k closed 0 ≡ 0
  kept_none =
      same_sets k (kept k closed 0) 0 (kept_below 0) (pow_pos k)
      (λ p l. let a = has_kept 0 p l in let b = has_none p in grind arith)

  pub kept_or : (X Y : ℕ) → kept k closed (bit_or X Y) ≡ bit_or (kept k closed X) (kept k closed Y)
  kept_or X Y =
      let A : ℕ = kept k closed X in
      let B : ℕ = kept k closed Y in
      same_sets k (kept k closed (bit_or X Y)) (bit_or A B) (kept_below (bit_or X Y)) (or_lt k A B (kept_below X) (kept_below Y))
      (λ p l.
      let a = has_kept (bit_or X Y) p l in
      let b = has_or X Y p in
      let c = has_or A B p in
      let d = has_kept X p l in
      let e = has_kept Y p l in
      grind arith)

  pub kept_and : (X Y : ℕ) → kept k closed (bit_and X Y) ≡ bit_and (kept k closed X) (kept k closed Y)
  kept_and X Y =
      let A : ℕ = kept k closed X in
      let B : ℕ = kept k closed Y in
      same_sets k (kept k closed (bit_and X Y)) (bit_and A B) (kept_below (bit_and X Y)) (and_lt k A B (kept_below X) (kept_below Y))
      (λ p l.
      let a = has_kept (bit_and X Y) p l in
      let b = has_and X Y p in
      let c = has_and A B p in
      let d = has_kept X p l in
      let e = has_kept Y p l in
      grind arith)

  pub closing_caps : (cap : ℕ → ℕ) → Caps k cap → Caps k (closing k closed cap)
  unfolding closing
  closing_caps cap caps = record {
    none = ap cap kept_none ∙ caps.none;
    grows = λ X p l h.
        cap_mono k cap caps (kept k closed X) (kept k closed (bit_or X (2 ^ p))) (kept_below X) (kept_below (bit_or X (2 ^ p)))
        (λ q m i.
        let a = has_kept X q m in
        let b = has_kept (bit_or X (2 ^ p)) q m in
        let c = has_plus X p q in
        grind arith);
    bends = λ X Y lX lY.
        omega (arith, ap cap (kept_or X Y), ap cap (kept_and X Y), caps.bends (kept k closed X) (kept k closed Y) (kept_below X) (kept_below Y));
  }

pub closing_keeps : ClosingKeeps
unfolding closing
closing_keeps top k closed cap h = (closing_caps k closed cap h.0, λ X l. h.1 (kept k closed X) (kept_below k closed X))

-- ---- ceiling

pub ceiling_caps : (k c : ℕ) (cap : ℕ → ℕ) → Caps k cap → Caps k (ceiling c cap)
unfolding ceiling
ceiling_caps k c cap caps = record {
  none = let a = caps.none in omega arith;
  grows = λ X p l h. let a = caps.grows X p l h in omega arith;
  bends = λ X Y lX lY.
      let U : ℕ = bit_or X Y in
      let I : ℕ = bit_and X Y in
      let lU : U < 2 ^ k = or_lt k X Y lX lY in
      let lI : I < 2 ^ k = and_lt k X Y lX lY in
      let a = cap_mono k cap caps X U lX lU (λ p l i. let o = has_or X Y p in grind arith) in
      let b = cap_mono k cap caps Y U lY lU (λ p l i. let o = has_or X Y p in grind arith) in
      let d = cap_mono k cap caps I X lI lX (λ p l i. let o = has_and X Y p in grind arith) in
      let e = cap_mono k cap caps I Y lI lY (λ p l i. let o = has_and X Y p in grind arith) in
      let f = caps.bends X Y lX lY in
      omega arith;
}

pub ceiling_keeps : CeilingKeeps
unfolding ceiling
ceiling_keeps top k c cap h = (ceiling_caps k c cap h.0, λ X l. let a = h.1 X l in omega arith)

-- ---- sums

pub zero_caps : (k : ℕ) → Caps k (λ X. 0)
zero_caps k = record { none = refl; grows = λ X p l h. omega arith; bends = λ X Y lX lY. omega arith }

pub plus_caps : (k : ℕ) (a b : ℕ → ℕ) → Caps k a → Caps k b → Caps k (λ X. a X + b X)
plus_caps k a b ca cb = record {
  none = omega (arith, ca.none, cb.none);
  grows = λ X p l h. omega (arith, ca.grows X p l h, cb.grows X p l h);
  bends = λ X Y lX lY. omega (arith, ca.bends X Y lX lY, cb.bends X Y lX lY);
}

pub sum_caps : (k : ℕ) (v : ℕ → ℕ → ℕ) (n : ℕ) → ((i : ℕ) → i < n → Caps k (λ X. v X i)) → Caps k (λ X. sum_to (v X) n)
unfolding sum_to
sum_caps k v zero h = zero_caps k
sum_caps k v (suc n) h = plus_caps k (λ X. sum_to (v X) n) (λ X. v X n) (sum_caps k v n (λ i l. h i (omega arith))) (h n (omega arith))

pub sum_top : (v : ℕ → ℕ) (t n : ℕ) → ((i : ℕ) → i < n → v i ≤ t) → sum_to v n ≤ n * t
unfolding sum_to
sum_top v t zero h = omega arith
sum_top v t (suc n) h = let a = sum_top v t n (λ i l. h i (omega arith)) in let b = h n (omega arith) in omega arith

pub sum_same : (v w : ℕ → ℕ) (n : ℕ) → ((i : ℕ) → i < n → v i ≡ w i) → sum_to v n ≡ sum_to w n
unfolding sum_to
sum_same v w zero h = refl
sum_same v w (suc n) h = omega (arith, sum_same v w n (λ i l. h i (omega arith)), h n (omega arith))
