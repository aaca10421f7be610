-- The amount in the words of the rules is the least of what the pairs of the path let through.
use Rattle.std.proofs.Common.{◌≡◌, ℕ, zero, suc, ◌<◌, ◌≤◌, Bool, true, false, cond, List, sym, refl, ap, ◌∙◌, subst, inl, inr, arith}
use mathlib.Core.Path.{subst⁻¹}
use Rattle.std.proofs.lemmas.Bool.{cases_lt, eq-eqb, ne_eqb}
use Rattle.polymatroid.proofs.Finite.{least_le, least_at}
use Rattle.floor.specs.Meaning.{Meaning, Lawful}
use Rattle.network.specs.States.{State, Pole, Plus, Minus, at, amount, lane_room, lane_room_but, OnFloor, Path}
use Rattle.network.specs.Plans.{Fits}
use Rattle.labelling.specs.Rules.{ruled}
use Rattle.labelling.specs.Table.{Mark, Ended, label, path}
use Rattle.labelling.specs.Amount.{room_beside, term, least_term}
use Rattle.labelling.proofs.Finds.{rules_find}
use Rattle.labelling.proofs.Pairs.{lets, lets_le, lets_at}

-- n is no more than what the state lets through where it arrives, and where it departs
abbrev PartIn : Meaning → (ℕ → ℕ) → ℕ → State → State → Type 0
PartIn M f n (Pole b) y = Unit {0}
PartIn M f n (Plus e) y = n ≤ room_beside M f true e y
PartIn M f n (Minus e) y = n ≤ f e

abbrev PartOut : Meaning → (ℕ → ℕ) → ℕ → State → State → Type 0
PartOut M f n x (Pole b) = Unit {0}
PartOut M f n x (Plus g) = n ≤ room_beside M f false g x
PartOut M f n x (Minus g) = n ≤ f g

module _ (M : Meaning) (laws : Lawful M) (f : ℕ → ℕ) where
  off : (d : Bool) (e g : ℕ) → (M.floor.end d g ≡ M.floor.end d e → ⊥) → room_beside M f d e (Plus g) ≡ lane_room M f d e
  off d e g ne = ap (λ b. cond b (lane_room_but M f d e g) (lane_room M f d e)) (ne_eqb (M.floor.end d g) (M.floor.end d e) ne)

  on : (d : Bool) (e g : ℕ) → M.floor.end d g ≡ M.floor.end d e → room_beside M f d e (Minus g) ≡ lane_room_but M f d e g
  on d e g q = ap (λ b. cond b (lane_room_but M f d e g) (lane_room M f d e)) (eq-eqb (M.floor.end d g) (M.floor.end d e) q)

  join : (n : ℕ) (x y : State) → OnFloor M x → OnFloor M y → at M true x ≡ at M false y → 0 < amount M f x y → PartIn M f n x y → PartOut M f n x y → n ≤ amount M f x y
  join n (Pole true) (Pole c) a b m h p q = absurd (omega arith)
  join n (Pole false) (Pole c) a b m h p q = absurd (omega arith)
  join n (Pole false) (Plus g) a b m h p q = q
  join n (Pole true) (Plus g) a b m h p q = absurd (omega arith)
  join n (Pole true) (Minus g) a b m h p q = absurd (omega arith)
  join n (Pole false) (Minus g) a b m h p q = absurd (omega arith)
  join n (Plus e) (Pole false) a b m h p q = absurd (omega arith)
  join n (Plus e) (Pole true) a b m h p q = p
  join n (Plus e) (Plus g) a b m h p q =
      let u = off true e g (λ o. laws.rules.ends_differ true g b (o ∙ m)) in
      let v = off false g e (λ o. laws.rules.ends_differ false e a (o ∙ sym m)) in
      omega (arith, u, v)
  join n (Plus e) (Minus g) a b m h p q = let u = on true e g (sym m) in omega (arith, u)
  join n (Minus e) (Pole c) a b m h p q = absurd (omega arith)
  join n (Minus e) (Plus g) a b m h p q = let u = on false g e m in omega (arith, u)
  join n (Minus e) (Minus g) a b m h p q = omega arith

  part_in : (n : ℕ) (x y : State) → OnFloor M x → OnFloor M y → at M true x ≡ at M false y → n ≤ amount M f x y → PartIn M f n x y
  part_in n (Pole c) y a b m h = tt
  part_in n (Plus e) (Pole true) a b m h = h
  part_in n (Plus e) (Pole false) a b m h = omega arith
  part_in n (Plus e) (Plus g) a b m h = let u = off true e g (λ o. laws.rules.ends_differ true g b (o ∙ m)) in omega (arith, u)
  part_in n (Plus e) (Minus g) a b m h = let u = on true e g (sym m) in omega (arith, u)
  part_in n (Minus e) (Pole c) a b m h = omega arith
  part_in n (Minus e) (Plus g) a b m h = omega arith
  part_in n (Minus e) (Minus g) a b m h = omega arith

  part_out : (n : ℕ) (x y : State) → OnFloor M x → OnFloor M y → at M true x ≡ at M false y → n ≤ amount M f x y → PartOut M f n x y
  part_out n x (Pole c) a b m h = tt
  part_out n (Pole false) (Plus g) a b m h = h
  part_out n (Pole true) (Plus g) a b m h = omega arith
  part_out n (Plus e) (Plus g) a b m h = let v = off false g e (λ o. laws.rules.ends_differ false e a (o ∙ sym m)) in omega (arith, v)
  part_out n (Minus e) (Plus g) a b m h = let u = on false g e m in omega (arith, u)
  part_out n (Pole true) (Minus g) a b m h = omega arith
  part_out n (Pole false) (Minus g) a b m h = omega arith
  part_out n (Plus e) (Minus g) a b m h = omega arith
  part_out n (Minus e) (Minus g) a b m h = omega arith

  no_in : (x : State) → amount M f x (Pole false) ≡ 0
  no_in (Pole true) = refl
  no_in (Pole false) = refl
  no_in (Plus e) = refl
  no_in (Minus e) = refl

  no_out : (y : State) → amount M f (Pole true) y ≡ 0
  no_out (Pole c) = refl
  no_out (Plus e) = refl
  no_out (Minus e) = refl

  -- a state between two is a lane
  into_term : (n : ℕ) (x y z : State) → 0 < amount M f x y → 0 < amount M f y z → PartOut M f n x y → PartIn M f n y z → n ≤ term M f x y z
  into_term n x (Pole false) z a b p q = absurd (omega (arith, no_in x))
  into_term n x (Pole true) z a b p q = absurd (omega (arith, no_out z))
  into_term n x (Plus e) z a b p q = omega arith
  into_term n x (Minus e) z a b p q = q

  from_term : (n : ℕ) (x y z : State) → n ≤ term M f x y z → PartOut M f n x y × PartIn M f n y z
  from_term n x (Pole b) z h = (tt, tt)
  from_term n x (Plus e) z h = (omega arith, omega arith)
  from_term n x (Minus e) z h = (h, h)

  module _ (P : ℕ → State) (l : ℕ) (p : Path M f P (suc l)) where
    least_term_under : (q : ℕ) → q < l → least_term M f P l ≤ term M f (P q) (P (suc q)) (P (suc (suc q)))
    unfolding least_term
    least_term_under q h = least_le (λ q. true) (λ q. term M f (P q) (P (suc q)) (P (suc (suc q)))) (term M f (P 0) (P 1) (P 2)) l q h refl

    some_term : 0 < l → (q : ℕ) × (q < l) × (least_term M f P l ≡ term M f (P q) (P (suc q)) (P (suc (suc q))))
    unfolding least_term
    some_term h =
        elim (least_at (λ q. true) (λ q. term M f (P q) (P (suc q)) (P (suc (suc q)))) (term M f (P 0) (P 1) (P 2)) l) [
          | inl e ↦ (0, h, e)
          | inr e ↦ (e.0, e.1, e.3)
        ]

    in_at : (q : ℕ) → q < suc l → PartIn M f (least_term M f P l) (P q) (P (suc q))
    in_at zero h = subst⁻¹ (λ x. PartIn M f (least_term M f P l) x (P 1)) p.begin tt
    in_at (suc q) h = (from_term (least_term M f P l) (P q) (P (suc q)) (P (suc (suc q))) (least_term_under q (omega arith))).1

    out_at : (q : ℕ) → q < suc l → PartOut M f (least_term M f P l) (P q) (P (suc q))
    out_at q h =
        elim (cases_lt q l) [
          | inl k ↦ (from_term (least_term M f P l) (P q) (P (suc q)) (P (suc (suc q))) (least_term_under q k)).0
          | inr k ↦
              let o : suc l ≡ suc q = omega arith in
              subst (λ i. PartOut M f (least_term M f P l) (P q) (P i)) o (subst⁻¹ (λ y. PartOut M f (least_term M f P l) (P q) y) p.finish tt)
        ]

    term_le : least_term M f P l ≤ lets M f P (suc l)
    term_le = by (lets_at M f P (suc l) (omega arith)).0 (lets_at M f P (suc l) (omega arith)).1 (lets_at M f P (suc l) (omega arith)).2
      where
        by : (q : ℕ) → q < suc l → lets M f P (suc l) ≡ amount M f (P q) (P (suc q)) → least_term M f P l ≤ lets M f P (suc l)
        by q h e =
            omega (
              arith,
              e,
              join (least_term M f P l) (P q) (P (suc q)) (p.ok q (omega arith)) (p.ok (suc q) (omega arith)) (p.meet q h) (p.some q h) (in_at q h) (out_at q h),
            )

    lets_term : (q : ℕ) → q < l → lets M f P (suc l) ≤ term M f (P q) (P (suc q)) (P (suc (suc q)))
    lets_term q h =
        into_term (lets M f P (suc l)) (P q) (P (suc q)) (P (suc (suc q))) (p.some q (omega arith)) (p.some (suc q) (omega arith))
        (part_out (lets M f P (suc l)) (P q) (P (suc q)) (p.ok q (omega arith)) (p.ok (suc q) (omega arith)) (p.meet q (omega arith)) (lets_le M f P (suc l) q (omega arith)))
        (part_in (lets M f P (suc l)) (P (suc q)) (P (suc (suc q))) (p.ok (suc q) (omega arith)) (p.ok (suc (suc q)) (omega arith)) (p.meet (suc q) (omega arith))
        (lets_le M f P (suc l) (suc q) (omega arith)))

    lets_least : 0 < l → lets M f P (suc l) ≤ least_term M f P l
    lets_least h = by (some_term h).0 (some_term h).1 (some_term h).2
      where
        by : (q : ℕ) → q < l → least_term M f P l ≡ term M f (P q) (P (suc q)) (P (suc (suc q))) → lets M f P (suc l) ≤ least_term M f P l
        by q k e = omega (arith, e, lets_term q k)

  -- a path has a lane
  pub one_lane : (P : ℕ → State) (l : ℕ) → Path M f P (suc l) → 0 < l
  one_lane P zero p =
      let s : 0 < amount M f (P 0) (Pole true) = subst (λ y. 0 < amount M f (P 0) y) p.finish (p.some 0 (omega arith)) in
      let t : 0 < amount M f (Pole false) (Pole true) = subst (λ x. 0 < amount M f x (Pole true)) p.begin s in
      absurd (omega (arith, t))
  one_lane P (suc l) p = omega arith

pub rules_amount : (M : Meaning) (f : ℕ → ℕ) (l e : ℕ) (t : List Mark) → Lawful M → Fits M f → label (ruled M f) M.floor.lanes ≡ Ended l e t
    → least_term M f (path l e t) l ≡ lets M f (path l e t) (suc l)
rules_amount M f l e t laws fits q =
    let p = (rules_find M f l e t laws fits q).path in
    omega (arith, term_le M laws f (path l e t) l p, lets_least M laws f (path l e t) l p (one_lane M laws f (path l e t) l p))
