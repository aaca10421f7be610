-- A set whose positions have tight sets inside it is tight; and a cap grows with its set.
use Rattle.std.proofs.Common.{◌≡◌, ℕ, zero, suc, ◌^◌, ◌<◌, ◌≤◌, true, false, cond, ◌&&◌, ◌||◌, ◌⊎◌, sym, refl, ap, ◌∙◌, inl, inr, arith}
use lib.Bits.{bit_or, or_lt}
use Rattle.std.proofs.lemmas.Nat.{pow_pos, pow_below}
use Rattle.std.proofs.lemmas.Bool.Decides.{nat_tests}
use Rattle.std.proofs.lemmas.Bool.{cases_Bool, cases_eq, both_ways}
use Rattle.polymatroid.specs.Sets.{has}
use Rattle.polymatroid.specs.Side.{load, In, Caps, Within, Tight}
use Rattle.polymatroid.proofs.Codes.{has_or, has_one, has_none, same_sets}
use Rattle.polymatroid.proofs.Side.{tight_or}

load_none : (w : ℕ → ℕ) (k : ℕ) → load w k 0 ≡ 0
unfolding load
load_none w zero = refl
load_none w (suc k) = let h = has_none k in let ih = load_none w k in grind arith

module _ (k : ℕ) (cap : ℕ → ℕ) (caps : Caps k cap) where
  -- X with the first q positions of Y
  joined : ℕ → ℕ → ℕ → ℕ
  joined X Y zero = X
  joined X Y (suc q) = cond (has Y q) (bit_or (joined X Y q) (2 ^ q)) (joined X Y q)

  joined_set : (X Y q : ℕ) → X < 2 ^ k → q ≤ k → joined X Y q < 2 ^ k
  unfolding joined
  joined_set X Y zero l h = l
  joined_set X Y (suc q) l h =
      let ih = joined_set X Y q l (omega arith) in
      let o = or_lt k (joined X Y q) (2 ^ q) ih (pow_below q k h) in
      grind arith

  joined_grows : (X Y q : ℕ) → X < 2 ^ k → q ≤ k → cap X ≤ cap (joined X Y q)
  unfolding joined
  joined_grows X Y zero l h = omega arith
  joined_grows X Y (suc q) l h =
      let ih = joined_grows X Y q l (omega arith) in
      let g = caps.grows (joined X Y q) q (joined_set X Y q l (omega arith)) h in
      grind arith

  joined_has : (X Y q p : ℕ) → has (joined X Y q) p ≡ (has X p || (has Y p && lib.Dec.ltb p q))
  unfolding joined
  joined_has X Y zero p = grind (arith, nat_tests)
  joined_has X Y (suc q) p =
      let ih = joined_has X Y q p in
      let o = has_or (joined X Y q) (2 ^ q) p in
      let e = has_one q p in
      grind (arith, nat_tests)

  pub cap_mono : (X Y : ℕ) → X < 2 ^ k → Y < 2 ^ k → ((p : ℕ) → p < k → In X p → In Y p) → cap X ≤ cap Y
  cap_mono X Y lx ly h =
      let e : joined X Y k ≡ Y =
      same_sets k (joined X Y k) Y (joined_set X Y k lx (omega arith)) ly
      (λ p l. let a = joined_has X Y k p in let b = h p l in grind (arith, nat_tests)) in
      omega (arith, joined_grows X Y k lx (omega arith), ap cap e)

  module _ (w : ℕ → ℕ) (fits : Within k cap w) where
    pub none_tight : Tight k cap w 0
    none_tight = record { set = pow_pos k; reached = omega (arith, load_none w k, caps.none) }

    -- a set each of whose positions has a tight set inside it
    module _ (W : ℕ) (lW : W < 2 ^ k)
        (each : (p : ℕ) → p < k → In W p → (Y : ℕ) × Tight k cap w Y × In Y p × ((q : ℕ) → q < k → In Y q → In W q)) where
      covered : (q : ℕ) → q ≤ k → (A : ℕ) × Tight k cap w A × ((p : ℕ) → p < k → In A p → In W p) × ((p : ℕ) → p < q → In W p → In A p)
      covered zero h = (0, none_tight, (λ p l i. absurd (both_ways (has 0 p) (has_none p) i)), (λ p l i. absurd (omega arith)))
      covered (suc q) h = more (covered q (omega arith)) (cases_Bool (has W q))
        where
          more : (A : ℕ) × Tight k cap w A × ((p : ℕ) → p < k → In A p → In W p) × ((p : ℕ) → p < q → In W p → In A p)
              → (has W q ≡ true) ⊎ (has W q ≡ false)
              → (A : ℕ) × Tight k cap w A × ((p : ℕ) → p < k → In A p → In W p) × ((p : ℕ) → p < suc q → In W p → In A p)
          more c (inl y) = with_set c.0 c.1 c.2 c.3 (each q h y)
            where
              with_set : (A : ℕ) → Tight k cap w A → ((p : ℕ) → p < k → In A p → In W p) → ((p : ℕ) → p < q → In W p → In A p)
                  → (Y : ℕ) × Tight k cap w Y × In Y q × ((r : ℕ) → r < k → In Y r → In W r)
                  → (A : ℕ) × Tight k cap w A × ((p : ℕ) → p < k → In A p → In W p) × ((p : ℕ) → p < suc q → In W p → In A p)
              with_set A t a b e = (
                bit_or A e.0,
                tight_or k cap caps w fits A e.0 t e.1,
                (λ p l i.
                    let o = has_or A e.0 p in
                    elim (cases_Bool (has A p)) [ inl x ↦ a p l x | inr x ↦ e.3 p l (grind arith) ]),
                (λ p l i.
                    let o = has_or A e.0 p in
                    elim (cases_eq p q) [
                      | inl r ↦ let x : In e.0 p = ap (has e.0) r ∙ e.2 in grind arith
                      | inr r ↦ let x = b p (omega arith) i in grind arith
                    ]),
              )
          more c (inr y) = (
            c.0,
            c.1,
            c.2,
            (λ p l i.
                elim (cases_eq p q)
                [ inl r ↦ absurd (both_ways (has W q) y (ap (has W) (sym r) ∙ i)) | inr r ↦ c.3 p (omega arith) i ]),
          )

      pub union_tight : Tight k cap w W
      union_tight =
          let c = covered k (omega arith) in
          let e : c.0 ≡ W =
          same_sets k c.0 W c.1.set lW (λ p l. let a = c.2 p l in let b = c.3 p l in grind arith) in
          record { set = lW; reached = ap (load w k) (sym e) ∙ c.1.reached ∙ ap cap e }
