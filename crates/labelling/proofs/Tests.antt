-- Tests that a worked floor passes, and that they show what they should.
use Rattle.std.proofs.Common.{◌≡◌, ℕ, ◌^◌, ◌<◌, Bool, true, false, cond, not, ◌&&◌, ◌||◌, eqb, ltb, leb, List, [], ◌∷◌, refl, ap, ap₂, inl, inr}
use mathlib.Core.Option.{Option, none, some}
use Rattle.std.specs.List.{AllByRecursion}
use Rattle.std.proofs.lemmas.Bool.{both_ways, and_parts, or_cases, not-true, eqb-true, eqb-false, ltb-true, leb-true}
use Rattle.polymatroid.specs.Side.{load}
use Rattle.polymatroid.specs.Laws.{FourLaws}
use Rattle.polymatroid.specs.Tables.{every, broken}
use Rattle.polymatroid.proofs.Tables.{every_at, named}
use Rattle.floor.specs.Numbers.{most_stations, most_lanes, most_on_side, top_cap}
use Rattle.floor.specs.Floor.{Floor, FloorRules, count}
use Rattle.floor.specs.Meaning.{Meaning}
use Rattle.network.specs.Plans.{trays, Fits, through, total, Balanced}
use Rattle.network.specs.States.{State, Pole, Plus, Minus}
use Rattle.labelling.specs.Steps.{Move, step, labels, made, Follow, made_all}
use Rattle.labelling.specs.Near.{near, unlabelled}
use Rattle.network.specs.Cuts.{capacity}
use Rattle.labelling.specs.Worked.{Worked, Works, nth, left_by}

-- both ends pass
unfoldable pub both : (Bool → Bool) → Bool
both t = t false && t true

both_at : (t : Bool → Bool) → both t ≡ true → (d : Bool) → t d ≡ true
unfolding both
both_at t h false = (and_parts (t false) (t true) h).0
both_at t h true = (and_parts (t false) (t true) h).1

-- ---- the rules of a floor and the laws of its caps

unfoldable pub ends? : Floor → Bool → Bool
ends? F d =
    every F.lanes (λ e. ltb (F.end d e) F.stations && (not (eqb (F.end d e) (F.end (not d) e)) && not (eqb (F.end (not d) e) (F.pole d))))

unfoldable pub rules? : Floor → Bool
rules? F =
    (leb 2 F.stations && (leb F.stations most_stations && leb F.lanes most_lanes))
    && (both (λ d. ltb (F.pole d) F.stations) && (not (eqb (F.pole false) (F.pole true))
    && (both (ends? F) && both (λ d. every F.stations (λ i. leb (count F d i) most_on_side)))))

lane_at : (F : Floor) (d : Bool) (e : ℕ) → e < F.lanes → ends? F d ≡ true
    → (ltb (F.end d e) F.stations ≡ true) × (not (eqb (F.end d e) (F.end (not d) e)) ≡ true) × (not (eqb (F.end (not d) e) (F.pole d)) ≡ true)
unfolding ends?
lane_at F d e l h =
    let a = and_parts (ltb (F.end d e) F.stations) (not (eqb (F.end d e) (F.end (not d) e)) && not (eqb (F.end (not d) e) (F.pole d)))
    (every_at F.lanes (λ e. ltb (F.end d e) F.stations && (not (eqb (F.end d e) (F.end (not d) e)) && not (eqb (F.end (not d) e) (F.pole d)))) h e l) in
    let b = and_parts (not (eqb (F.end d e) (F.end (not d) e))) (not (eqb (F.end (not d) e) (F.pole d))) a.1 in
    (a.0, b.0, b.1)

rules_hold : (F : Floor) → rules? F ≡ true → FloorRules F
unfolding rules?
rules_hold F h =
    let a = and_parts (leb 2 F.stations && (leb F.stations most_stations && leb F.lanes most_lanes)) (both (λ d. ltb (F.pole d) F.stations) && (not (eqb (F.pole false) (F.pole true)) && (both (ends? F) && both (λ d. every F.stations (λ i. leb (count F d i) most_on_side))))) h in
    let b = and_parts (leb 2 F.stations) (leb F.stations most_stations && leb F.lanes most_lanes) a.0 in
    let c = and_parts (leb F.stations most_stations) (leb F.lanes most_lanes) b.1 in
    let d = and_parts (both (λ d. ltb (F.pole d) F.stations)) (not (eqb (F.pole false) (F.pole true)) && (both (ends? F) && both (λ d. every F.stations (λ i. leb (count F d i) most_on_side)))) a.1 in
    let e = and_parts (not (eqb (F.pole false) (F.pole true))) (both (ends? F) && both (λ d. every F.stations (λ i. leb (count F d i) most_on_side))) d.1 in
    let g = and_parts (both (ends? F)) (both (λ d. every F.stations (λ i. leb (count F d i) most_on_side))) e.1 in
    record {
      two_stations = leb-true 2 F.stations b.0;
      few_stations = leb-true F.stations most_stations c.0;
      few_lanes = leb-true F.lanes most_lanes c.1;
      pole_on = λ d'. ltb-true (F.pole d') F.stations (both_at (λ d. ltb (F.pole d) F.stations) d.0 d');
      poles_differ = eqb-false (F.pole false) (F.pole true) (not-true (eqb (F.pole false) (F.pole true)) e.0);
      end_on = λ d' j l. ltb-true (F.end d' j) F.stations (lane d' j l g.0).0;
      ends_differ = λ d' j l. eqb-false (F.end d' j) (F.end (not d') j) (not-true (eqb (F.end d' j) (F.end (not d') j)) (lane d' j l g.0).1);
      poles_clear = λ d' j l. eqb-false (F.end (not d') j) (F.pole d') (not-true (eqb (F.end (not d') j) (F.pole d')) (lane d' j l g.0).2);
      narrow = λ d' i l.
          leb-true (count F d' i) most_on_side
          (every_at F.stations (λ i. leb (count F d' i) most_on_side) (both_at (λ d. every F.stations (λ i. leb (count F d i) most_on_side)) g.1 d') i l);
    }
  where
    lane : (d : Bool) (e : ℕ) → e < F.lanes → both (ends? F) ≡ true
        → (ltb (F.end d e) F.stations ≡ true) × (not (eqb (F.end d e) (F.end (not d) e)) ≡ true) × (not (eqb (F.end (not d) e) (F.pole d)) ≡ true)
    lane d e l h = lane_at F d e l (both_at (ends? F) h d)

unfoldable pub laws? : Meaning → Bool → Bool
laws? M d =
    every M.floor.stations (λ i. eqb (broken (count M.floor d i) (M.cap d i)) 0
    && every (2 ^ (count M.floor d i)) (λ X. leb (M.cap d i X) top_cap))

laws_hold : (M : Meaning) (d : Bool) → laws? M d ≡ true → (i : ℕ) → i < M.floor.stations → FourLaws top_cap (count M.floor d i) (M.cap d i)
unfolding laws?
laws_hold M d h i l =
    let k : ℕ = count M.floor d i in
    let a = and_parts (eqb (broken (count M.floor d i) (M.cap d i)) 0) (every (2 ^ (count M.floor d i)) (λ X. leb (M.cap d i X) top_cap))
    (every_at M.floor.stations (λ i. eqb (broken (count M.floor d i) (M.cap d i)) 0 && every (2 ^ (count M.floor d i)) (λ X. leb (M.cap d i X) top_cap)) h i l) in (
      (named (count M.floor d i) (M.cap d i)).kept (eqb-true (broken (count M.floor d i) (M.cap d i)) 0 a.0),
      λ X m. leb-true (M.cap d i X) top_cap (every_at (2 ^ (count M.floor d i)) (λ X. leb (M.cap d i X) top_cap) a.1 X m),
    )

-- ---- the trays

unfoldable pub fits? : Meaning → (ℕ → ℕ) → Bool → Bool
fits? M f d =
    every M.floor.stations (λ i. every (2 ^ (count M.floor d i)) (λ X. leb (load (trays M f d i) (count M.floor d i) X) (M.cap d i X)))

fits_hold : (M : Meaning) (f : ℕ → ℕ) → both (fits? M f) ≡ true → Fits M f
unfolding fits?
fits_hold M f h d i l X m =
    leb-true (load (trays M f d i) (count M.floor d i) X) (M.cap d i X)
    (every_at (2 ^ (count M.floor d i)) (λ X. leb (load (trays M f d i) (count M.floor d i) X) (M.cap d i X))
    (every_at M.floor.stations (λ i. every (2 ^ (count M.floor d i)) (λ X. leb (load (trays M f d i) (count M.floor d i) X) (M.cap d i X)))
    (both_at (λ d. every M.floor.stations (λ i. every (2 ^ (count M.floor d i)) (λ X. leb (load (trays M f d i) (count M.floor d i) X) (M.cap d i X)))) h d) i l) X m)

unfoldable pub balanced? : Meaning → (ℕ → ℕ) → Bool
balanced? M f =
    every M.floor.stations (λ i. (eqb i (M.floor.pole false) || eqb i (M.floor.pole true))
    || eqb (through M f (λ e. true) true i) (through M f (λ e. true) false i))

balanced_holds : (M : Meaning) (f : ℕ → ℕ) → balanced? M f ≡ true → Balanced M f
unfolding balanced?
balanced_holds M f h i l ns nd =
    elim (or_cases (eqb i (M.floor.pole false) || eqb i (M.floor.pole true)) (eqb (through M f (λ e. true) true i) (through M f (λ e. true) false i))
    (every_at M.floor.stations (λ i. (eqb i (M.floor.pole false) || eqb i (M.floor.pole true)) || eqb (through M f (λ e. true) true i) (through M f (λ e. true) false i)) h i l)) [
      | inl p ↦
          elim (or_cases (eqb i (M.floor.pole false)) (eqb i (M.floor.pole true)) p)
          [ inl q ↦ absurd (ns (eqb-true i (M.floor.pole false) q)) | inr q ↦ absurd (nd (eqb-true i (M.floor.pole true) q)) ]
      | inr p ↦ eqb-true (through M f (λ e. true) true i) (through M f (λ e. true) false i) p
    ]

-- ---- moves

unfoldable pub same_state : State → State → Bool
same_state (Pole b) (Pole c) = eqb (cond b 1 0) (cond c 1 0)
same_state (Pole b) (Plus g) = false
same_state (Pole b) (Minus g) = false
same_state (Plus e) (Pole c) = false
same_state (Plus e) (Plus g) = eqb e g
same_state (Plus e) (Minus g) = false
same_state (Minus e) (Pole c) = false
same_state (Minus e) (Plus g) = false
same_state (Minus e) (Minus g) = eqb e g

same_state_is : (x y : State) → same_state x y ≡ true → x ≡ y
unfolding same_state
same_state_is (Pole true) (Pole true) h = refl
same_state_is (Pole true) (Pole false) h = absurd (both_ways false refl h)
same_state_is (Pole false) (Pole true) h = absurd (both_ways false refl h)
same_state_is (Pole false) (Pole false) h = refl
same_state_is (Pole b) (Plus g) h = absurd (both_ways false refl h)
same_state_is (Pole b) (Minus g) h = absurd (both_ways false refl h)
same_state_is (Plus e) (Pole c) h = absurd (both_ways false refl h)
same_state_is (Plus e) (Plus g) h = ap Plus (eqb-true e g h)
same_state_is (Plus e) (Minus g) h = absurd (both_ways false refl h)
same_state_is (Minus e) (Pole c) h = absurd (both_ways false refl h)
same_state_is (Minus e) (Plus g) h = absurd (both_ways false refl h)
same_state_is (Minus e) (Minus g) h = ap Minus (eqb-true e g h)

unfoldable pub same_lanes : List State → List State → Bool
same_lanes [] [] = true
same_lanes [] (y ∷ q) = false
same_lanes (x ∷ p) [] = false
same_lanes (x ∷ p) (y ∷ q) = same_state x y && same_lanes p q

same_lanes_are : (p q : List State) → same_lanes p q ≡ true → p ≡ q
unfolding same_lanes
same_lanes_are [] [] h = refl
same_lanes_are [] (y ∷ q) h = absurd (both_ways false refl h)
same_lanes_are (x ∷ p) [] h = absurd (both_ways false refl h)
same_lanes_are (x ∷ p) (y ∷ q) h =
    let a = and_parts (same_state x y) (same_lanes p q) h in ap₂ (λ x p. x ∷ p) (same_state_is x y a.0) (same_lanes_are p q a.1)

-- the step makes the move v
unfoldable pub makes : Option Move → Move → Bool
makes none v = false
makes (some u) v = same_lanes u.lanes v.lanes && eqb u.amount v.amount

makes_is : (o : Option Move) (v : Move) → makes o v ≡ true → o ≡ some v
unfolding makes
makes_is none v h = absurd (both_ways false refl h)
makes_is (some u) v h =
    let a = and_parts (same_lanes u.lanes v.lanes) (eqb u.amount v.amount) h in
    ap₂ (λ p n. some (record { lanes = p; amount = n })) (same_lanes_are u.lanes v.lanes a.0) (eqb-true u.amount v.amount a.1)

unfoldable pub ends : Option Move → Bool
ends none = true
ends (some u) = false

ends_is : (o : Option Move) → ends o ≡ true → o ≡ none
unfolding ends
ends_is none h = refl
ends_is (some u) h = absurd (both_ways false refl h)

unfoldable pub follow? : Meaning → (ℕ → ℕ) → List Move → ℕ → Bool
follow? M f [] n = ends (step M f) && eqb (total M f) n
follow? M f (v ∷ vs) n = makes (step M f) v && follow? M (made v f) vs n

follow_holds : (M : Meaning) (f : ℕ → ℕ) (vs : List Move) (n : ℕ) → follow? M f vs n ≡ true
    → Follow M f vs × (step M (made_all vs f) ≡ none) × (total M (made_all vs f) ≡ n)
unfolding follow? made_all
follow_holds M f [] n h =
    let a = and_parts (ends (step M f)) (eqb (total M f) n) h in (tt, ends_is (step M f) a.0, eqb-true (total M f) n a.1)
follow_holds M f (v ∷ vs) n h =
    let a = and_parts (makes (step M f) v) (follow? M (made v f) vs n) h in
    let b = follow_holds M (made v f) vs n a.1 in
    ((makes_is (step M f) v a.0, b.0), b.1, b.2)

-- ---- the cut

unfoldable pub cut? : Worked → Bool
cut? w =
    every w.meaning.floor.stations (λ i. eqb (cond (near w.meaning (left_by w) (labels w.meaning (left_by w)) i) 1 0) (nth w.near_list i))
    && (every w.meaning.floor.lanes (λ e. eqb (cond (unlabelled (labels w.meaning (left_by w)) e) 0 1) (nth w.labelled e))
    && eqb (capacity w.meaning (near w.meaning (left_by w) (labels w.meaning (left_by w))) (unlabelled (labels w.meaning (left_by w)))) w.carried)

-- ---- all together

unfoldable pub works? : Worked → Bool
works? w =
    (rules? w.meaning.floor && both (laws? w.meaning))
    && ((both (fits? w.meaning (nth w.trays)) && balanced? w.meaning (nth w.trays))
    && (follow? w.meaning (nth w.trays) w.moves w.carried && cut? w))

pub works : (w : Worked) → works? w ≡ true → Works w
unfolding works? cut?
works w h =
    let M : Meaning = w.meaning in
    let a = and_parts (rules? w.meaning.floor && both (laws? w.meaning)) ((both (fits? w.meaning (nth w.trays)) && balanced? w.meaning (nth w.trays)) && (follow? w.meaning (nth w.trays) w.moves w.carried && cut? w)) h in
    let b = and_parts (rules? w.meaning.floor) (both (laws? w.meaning)) a.0 in
    let c = and_parts (both (fits? w.meaning (nth w.trays)) && balanced? w.meaning (nth w.trays)) (follow? w.meaning (nth w.trays) w.moves w.carried && cut? w) a.1 in
    let d = and_parts (both (fits? w.meaning (nth w.trays))) (balanced? w.meaning (nth w.trays)) c.0 in
    let g = and_parts (follow? w.meaning (nth w.trays) w.moves w.carried) (cut? w) c.1 in
    let e = follow_holds w.meaning (nth w.trays) w.moves w.carried g.0 in
    let near? : ℕ → Bool = λ i. eqb (cond (near w.meaning (left_by w) (labels w.meaning (left_by w)) i) 1 0) (nth w.near_list i) in
    let lane? : ℕ → Bool = λ e. eqb (cond (unlabelled (labels w.meaning (left_by w)) e) 0 1) (nth w.labelled e) in
    let carried : ℕ = capacity w.meaning (near w.meaning (left_by w) (labels w.meaning (left_by w))) (unlabelled (labels w.meaning (left_by w))) in
    let k = and_parts (every w.meaning.floor.stations near?) (every w.meaning.floor.lanes lane? && eqb carried w.carried) g.1 in
    let l = and_parts (every w.meaning.floor.lanes lane?) (eqb carried w.carried) k.1 in
    record {
      lawful = record { rules = rules_hold w.meaning.floor b.0; laws = λ t. laws_hold w.meaning t (both_at (laws? w.meaning) b.1 t) };
      feasible = record { within = fits_hold w.meaning (nth w.trays) d.0; balanced = balanced_holds w.meaning (nth w.trays) d.1 };
      follow = e.0;
      finished = e.1;
      carries = e.2;
      near_are = λ i m. eqb-true (cond (near w.meaning (left_by w) (labels w.meaning (left_by w)) i) 1 0) (nth w.near_list i) (every_at w.meaning.floor.stations near? k.0 i m);
      labelled_are = λ j m. eqb-true (cond (unlabelled (labels w.meaning (left_by w)) j) 0 1) (nth w.labelled j) (every_at w.meaning.floor.lanes lane? l.0 j m);
      cut = eqb-true carried w.carried l.1;
    }

unfoldable pub all_work? : List Worked → Bool
all_work? [] = true
all_work? (w ∷ ws) = works? w && all_work? ws

pub all_work : (ws : List Worked) → all_work? ws ≡ true → AllByRecursion Works ws
unfolding all_work?
all_work [] h = tt
all_work (w ∷ ws) h = let a = and_parts (works? w) (all_work? ws) h in (works w a.0, all_work ws a.1)
