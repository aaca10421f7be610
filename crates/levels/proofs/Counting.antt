-- Numbers below a bound that differ are no more than the bound; moves whose marks differ at each length are few.
use Rattle.std.proofs.Common.{◌≡◌, ℕ, zero, suc, ◌+◌, ◌-◌, ◌*◌, ◌/◌, ◌%◌, ◌<◌, ◌≤◌, Bool, true, false, cond, eqb, ltb, ◌⊎◌, sym, refl, ap, ◌∙◌, inl, inr, arith}
use Rattle.std.proofs.lemmas.Bool.Decides.{nat_tests}
use Rattle.std.proofs.lemmas.Bool.{cases_Bool, eqb-true}
use Rattle.std.proofs.lemmas.Nat.{mul-add-lt, div-mul-add, mod-mul-add}
use Rattle.levels.specs.Counting.{tally, Apart, Pigeonhole, FewAtOneLength, FewInAll}

-- f with the value a left out of the count
closed : ℕ → (ℕ → ℕ) → ℕ → ℕ
closed a f i = cond (ltb a (f i)) (f i - 1) (f i)

closed_apart : (t : ℕ → Bool) (f : ℕ → ℕ) (n c : ℕ) → t n ≡ true → Apart t f (suc n) (suc c) → Apart t (closed (f n) f) n c
unfolding closed
closed_apart t f n c last h = record {
  below = λ i l p.
      let a = h.below i (omega arith) p in
      let b = h.below n (omega arith) last in
      let d = h.differ i n l (omega arith) p last in
      grind (arith, nat_tests);
  differ = λ i j l k p q e.
      let a = h.differ i n (omega arith) (omega arith) p last in
      let b = h.differ j n (omega arith) (omega arith) q last in
      let d = h.differ i j l (omega arith) p q in
      grind (arith, nat_tests);
}

pub pigeonhole : Pigeonhole
unfolding tally
pigeonhole t f zero c h = omega arith
pigeonhole t f (suc n) c h =
    by c h (λ g c. pigeonhole t g n c) (cases_Bool (t n))
  where
    fewer : (c : ℕ) → Apart t f (suc n) c → Apart t f n c
    fewer c h = record { below = λ i l. h.below i (omega arith); differ = λ i j l k. h.differ i j l (omega arith) }

    by : (c : ℕ) → Apart t f (suc n) c → ((g : ℕ → ℕ) (c : ℕ) → Apart t g n c → tally t n ≤ c) → (t n ≡ true) ⊎ (t n ≡ false) → tally t n + cond (t n) 1 0 ≤ c
    by zero h ih (inl p) = absurd (omega (arith, h.below n (omega arith) p))
    by (suc c) h ih (inl p) = rw p (omega (arith, ih (closed (f n) f) c (closed_apart t f n c p h)))
    by zero h ih (inr p) = rw p (omega (arith, ih f 0 (fewer 0 h)))
    by (suc c) h ih (inr p) = rw p (omega (arith, ih f (suc c) (fewer (suc c) h)))

tally_all : (n : ℕ) → tally (λ i. true) n ≡ n
unfolding tally
tally_all zero = refl
tally_all (suc n) = omega (arith, tally_all n)

-- where each passes
pub pigeonhole_all : (f : ℕ → ℕ) (n c : ℕ) → ((i : ℕ) → i < n → f i < c) → ((i j : ℕ) → i < j → j < n → f i ≡ f j → ⊥) → n ≤ c
pigeonhole_all f n c below differ =
    omega (
      arith,
      tally_all n,
      pigeonhole (λ i. true) f n c (record { below = λ i l p. below i l; differ = λ i j l k p q. differ i j l k }),
    )

-- tests that agree below n
pub tally_same : (s t : ℕ → Bool) (n : ℕ) → ((i : ℕ) → i < n → s i ≡ t i) → tally s n ≡ tally t n
unfolding tally
tally_same s t zero e = refl
tally_same s t (suc n) e =
    let ih = tally_same s t n (λ i l. e i (omega arith)) in
    let h = e n (omega arith) in
    grind arith

-- the first number can be counted first
pub tally_first : (t : ℕ → Bool) (n : ℕ) → tally t (suc n) ≡ cond (t 0) 1 0 + tally (λ i. t (suc i)) n
unfolding tally
tally_first t zero = omega arith
tally_first t (suc n) = omega (arith, tally_first t n)

pub few_at_one_length : FewAtOneLength
few_at_one_length size mark n m c h l =
    pigeonhole (λ i. eqb (size i) l) mark n c (record {
      below = λ i k p. h.below i k;
      differ = λ i j k o p q. h.differ i j k o (eqb-true (size i) l p ∙ sym (eqb-true (size j) l q));
    })

pub few_in_all : FewInAll
few_in_all size mark n m c h =
    omega (
      arith,
      pigeonhole_all (λ i. (size i - 1) * c + mark i) n (c * m)
          (λ i l. mul-add-lt (size i - 1) c (mark i) m (omega (arith, h.some i l, h.most i l)) (h.below i l))
          (λ i j l k e.
          let li : i < n = omega arith in
          let ei = div-mul-add (size i - 1) c (mark i) (h.below i li) in
          let ej = div-mul-add (size j - 1) c (mark j) (h.below j k) in
          let fi = mod-mul-add (size i - 1) c (mark i) (h.below i li) in
          let fj = mod-mul-add (size j - 1) c (mark j) (h.below j k) in
          let a = h.some i li in
          let b = h.some j k in
          let q : size i - 1 ≡ size j - 1 = sym ei ∙ ap (λ x. x / c) e ∙ ej in
          let r : mark i ≡ mark j = sym fi ∙ ap (λ x. x % c) e ∙ fj in
          h.differ i j l k (omega arith) r),
    )
