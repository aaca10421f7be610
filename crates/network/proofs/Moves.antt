-- A move breaks no cap, and its critical pair lets nothing through afterwards.
use Rattle.std.proofs.Common.{◌≡◌, ℕ, suc, ◌-◌, ◌<◌, ◌≤◌, min, true, false, ◌⊎◌, sym, refl, ap, ◌∙◌, subst, ap₂, inl, inr, arith}
use mathlib.Core.Path.{fun_ext}
use Rattle.std.proofs.lemmas.Bool.Decides.{nat_tests}
use Rattle.std.proofs.lemmas.Bool.{cases_lt, cases_eq, eq-eqb}
use Rattle.polymatroid.specs.Side.{Within, minus}
use Rattle.floor.specs.Floor.{count}
use Rattle.floor.specs.Meaning.{Meaning}
use Rattle.network.specs.Plans.{trays}
use Rattle.network.specs.States.{State, Pole, Plus, Minus, room_at, lane_room, lane_room_but, amount, OnFloor, applied, augmented}
use Rattle.network.specs.Moves.{Moving, MoveFits, PairDies}
use Rattle.network.proofs.Paths.{touches, walked_touched}
use Rattle.network.proofs.Loads.{minus_carries}
use Rattle.network.proofs.Arrivals.{pos_minus}
use Rattle.network.proofs.Arrived.{arrived_fits, critical_in}
use Rattle.network.proofs.Mirror.{mirror, mirrored, back, place_mirror, trays_mirror, all_mirror, less_mirror, amount_mirror, lawful_mirror, fits_mirror, path_mirror, walked_back}

pub moving_mirror : (M : Meaning) (f : ℕ → ℕ) (P : ℕ → State) (N n : ℕ) → Moving M f P N n → Moving (mirror M) f (back P N) N n
moving_mirror M f P N n m = record {
  laws = lawful_mirror M m.laws;
  fits = fits_mirror M f m.fits;
  path = path_mirror M f P N m.path;
  least = λ q l.
      let e : P (N - q) ≡ P (suc (N - suc q)) = ap P (omega arith) in
      rw e (omega (arith, amount_mirror M f (P (N - suc q)) (P (suc (N - suc q))), m.least (N - suc q) (omega arith)));
}

pub walked_mirror : (M : Meaning) (f : ℕ → ℕ) (P : ℕ → State) (N n : ℕ) → Moving M f P N n → augmented n (back P N) N f ≡ augmented n P N f
walked_mirror M f P N n m = fun_ext (λ e. walked_back M f P N m.path n e)

pub move_fits : MoveFits
move_fits M f P N n m true i l = arrived_fits M m.laws f m.fits P N n m.path m.least i l
move_fits M f P N n m false i l =
    let c = moving_mirror M f P N n m in
    rw (place_mirror M true i M.floor.lanes, trays_mirror M (augmented n P N f) true i) at
    (subst (λ g. Within (count (mirror M).floor true i) (M.cap false i) (trays (mirror M) g true i)) (walked_mirror M f P N n m)
    (arrived_fits (mirror M) c.laws f c.fits (back P N) N n c.path c.least i l))

-- the room of an arriving + lane, without the next lane where that is a - lane
pub in_term : Meaning → (ℕ → ℕ) → ℕ → State → ℕ
in_term M f e y = room_at M f true e (pos_minus M (M.floor.end true e) y)

pub amount_in : (M : Meaning) (f : ℕ → ℕ) (e : ℕ) (y : State) → amount M f (Plus e) y ≤ in_term M f e y
unfolding in_term pos_minus
amount_in M f e (Pole false) = omega arith
amount_in M f e (Pole true) = omega arith
amount_in M f e (Plus g) = omega arith
amount_in M f e (Minus g) = omega arith

module _ (M : Meaning) (f : ℕ → ℕ) (P : ℕ → State) (N n : ℕ) (m : Moving M f P N n) where
  in_dies : (q e : ℕ) → q < N → P q ≡ Plus e → in_term M f e (P (suc q)) ≡ n → amount M (augmented n P N f) (P q) (P (suc q)) ≡ 0
  unfolding in_term room_at
  in_dies q e l a z =
      let le : e < M.floor.lanes = subst (OnFloor M) a (m.path.ok q (omega arith)) in
      let d = critical_in M m.laws f m.fits P N n m.path m.least (M.floor.end true e) (m.laws.rules.end_on true e le) q e l a le refl z in
      rw a (omega (arith, amount_in M (augmented n P N f) e (P (suc q))))

  -- a - lane that carried just n
  minus_dies : (j e : ℕ) → j < N → P j ≡ Minus e → f e ≡ n → augmented n P N f e ≡ 0
  unfolding touches minus
  minus_dies j e l a z =
      let t : touches (P j) e ≡ true = rw a (eq-eqb e e refl) in
      walked_touched M f P N m.path n j N e l (omega arith) t ∙ ap (λ x. applied n x f e) a ∙ grind (arith, nat_tests)

-- the same of a departing + lane
out_dies : (M : Meaning) (f : ℕ → ℕ) (P : ℕ → State) (N n : ℕ) → Moving M f P N n
    → (q g : ℕ) → q < N → P (suc q) ≡ Plus g → in_term (mirror M) f g (mirrored (P q)) ≡ n → amount M (augmented n P N f) (P q) (P (suc q)) ≡ 0
out_dies M f P N n m q g l a z =
    let s : N - (N - suc q) ≡ suc q = omega arith in
    let t : N - suc (N - suc q) ≡ q = omega arith in
    let d = in_dies (mirror M) f (back P N) N n (moving_mirror M f P N n m) (N - suc q) g (omega arith)
    (ap (λ j. mirrored (P j)) s ∙ ap mirrored a) (ap (λ j. in_term (mirror M) f g (mirrored (P j))) t ∙ z) in
    sym (amount_mirror M (augmented n P N f) (P q) (P (suc q)))
    ∙ ap₂ (λ i j. amount (mirror M) (augmented n P N f) (mirrored (P i)) (mirrored (P j))) (sym s) (sym t)
    ∙ ap (λ h. amount (mirror M) h (back P N (N - suc q)) (back P N (suc (N - suc q)))) (sym (walked_mirror M f P N n m)) ∙ d

either : (a b n : ℕ) → min a b ≡ n → (a ≡ n) ⊎ (b ≡ n)
either a b n e = elim (cases_lt a b) [ inl l ↦ inl (omega arith) | inr l ↦ inr (omega arith) ]

pub pair_dies : PairDies
unfolding in_term pos_minus
pair_dies M f P N n m q l z = by (P q) (P (suc q)) refl refl z
  where
    f' : ℕ → ℕ
    f' = augmented n P N f

    none : (x y : State) → P q ≡ x → P (suc q) ≡ y → amount M f x y ≡ 0 → amount M f' (P q) (P (suc q)) ≡ 0
    none x y a c e = absurd (omega (arith, rw (a, c) at (m.path.some q l)))

    inside : (g : ℕ) → P (suc q) ≡ Minus g → suc q < N
    inside g c =
        elim (cases_eq (suc q) N) [
          | inl r ↦ let d = ap P r in let b = m.path.finish in let z : ◌≡◌ {A = ℕ} 0 1 = cc in absurd (omega arith)
          | inr r ↦ omega arith
        ]

    from_minus : (e : ℕ) → P q ≡ Minus e → f e ≡ n → (y : State) → P (suc q) ≡ y → amount M f' (P q) (P (suc q)) ≡ 0
    from_minus e a z y c = let d = minus_dies M f P N n m q e l a z in rw (a, c) (less y d)
      where
        less : (y : State) → f' e ≡ 0 → amount M f' (Minus e) y ≡ 0
        less (Pole b) d = refl
        less (Plus g) d = omega arith
        less (Minus g) d = omega arith

    to_minus : (g : ℕ) → P (suc q) ≡ Minus g → f g ≡ n → (x : State) → P q ≡ x → amount M f' (P q) (P (suc q)) ≡ 0
    to_minus g c z x a =
        let d = minus_dies M f P N n m (suc q) g (inside g c) c z in
        rw (a, c) (omega (arith, minus_carries M f' x g))

    by : (x y : State) → P q ≡ x → P (suc q) ≡ y → amount M f x y ≡ n → amount M f' (P q) (P (suc q)) ≡ 0
    by (Pole b) (Pole d) a c z = none (Pole b) (Pole d) a c refl
    by (Pole false) (Plus g) a c z =
        out_dies M f P N n m q g l c (ap (λ x. in_term (mirror M) f g (mirrored x)) a ∙ all_mirror M f true g ∙ z)
    by (Pole true) (Plus g) a c z = none (Pole true) (Plus g) a c refl
    by (Pole b) (Minus g) a c z = none (Pole b) (Minus g) a c refl
    by (Plus e) (Pole false) a c z = none (Plus e) (Pole false) a c refl
    by (Plus e) (Pole true) a c z = in_dies M f P N n m q e l a (ap (in_term M f e) c ∙ z)
    by (Plus e) (Plus g) a c z =
        elim (either (lane_room M f true e) (lane_room M f false g) n z) [
          | inl r ↦ in_dies M f P N n m q e l a (ap (in_term M f e) c ∙ r)
          | inr r ↦ out_dies M f P N n m q g l c (ap (λ x. in_term (mirror M) f g (mirrored x)) a ∙ all_mirror M f true g ∙ r)
        ]
    by (Plus e) (Minus g) a c z =
        elim (either (lane_room_but M f true e g) (f g) n z)
        [ inl r ↦ in_dies M f P N n m q e l a (ap (in_term M f e) c ∙ r) | inr r ↦ to_minus g c r (Plus e) a ]
    by (Minus e) (Pole d) a c z = none (Minus e) (Pole d) a c refl
    by (Minus e) (Plus g) a c z =
        elim (either (f e) (lane_room_but M f false g e) n z) [
          | inl r ↦ from_minus e a r (Plus g) c
          | inr r ↦ out_dies M f P N n m q g l c (ap (λ x. in_term (mirror M) f g (mirrored x)) a ∙ less_mirror M f true g e ∙ r)
        ]
    by (Minus e) (Minus g) a c z =
        elim (either (f e) (f g) n z) [ inl r ↦ from_minus e a r (Minus g) c | inr r ↦ to_minus g c r (Minus e) a ]
