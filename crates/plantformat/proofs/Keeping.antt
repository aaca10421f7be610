-- The rules hold of a draft with one record more just where they hold of the draft and it has room for the record.
use Rattle.std.proofs.Common.{◌≡◌, ℕ, suc, ◌+◌, ◌*◌, ◌<◌, ◌≤◌, Bool, true, false, cond, not, ◌&&◌, eqb, ltb, leb, List, [], ◌∷◌, ◌++◌, length, is_some, Some, sym, refl, ap, ◌∙◌, inl, inr, arith}
use Rattle.std.proofs.lemmas.Bool.{ltb-true, lt-ltb, eqb-true, eqb-false, cond-true, cond-false, leb-true, leb-false, le-leb, eq-eqb, lt-leb, and_parts, and_from, or_parts, or_from, cases_Bool, not-true, not_from_false, ne_eqb}
use Rattle.std.proofs.lemmas.List.{length-append, length_push}
use Rattle.floor.specs.Numbers.{most_lanes, most_on_side}
use Rattle.floor.proofs.Places.{end_of_side, station_of_side, side_again, side_below}
use Rattle.floor.specs.Floor.{side, end_of, station_of, leaving, entering, place, count, width}
use Rattle.plantformat.specs.declared.Head.{Head}
use Rattle.plantformat.specs.declared.Lane.{Lane}
use Rattle.plantformat.specs.Records.{Limit, side_of, lane_end, floor_of, limit_of}
use Rattle.plantformat.specs.Rules.{all_of, head_keeps, lane_ranged, lane_leads, lane_keeps, narrow, limit_keeps, one_each, keeps}
use Rattle.plantformat.specs.Judge.{crowded}
use Rattle.plantformat.proofs.Tests.{narrow_at, narrow_from}
use Rattle.plantformat.proofs.Sides.{count_grows, count_push}

-- ---- every element passes

module _ {A : Type 0} (t : A → Bool) where
  all_push : (xs : List A) (x : A) → all_of t xs ≡ true → t x ≡ true → all_of t (xs ++ x ∷ []) ≡ true
  all_push [] x a e = and_from (t x) true e refl
  all_push (y ∷ xs) x a e = let p = and_parts (t y) (all_of t xs) a in and_from _ _ p.0 (all_push xs x p.1 e)

  all_middle : (xs : List A) (x : A) (ys : List A) → all_of t (xs ++ x ∷ ys) ≡ true → t x ≡ true
  all_middle [] x ys a = (and_parts (t x) (all_of t ys) a).0
  all_middle (y ∷ xs) x ys a = all_middle xs x ys (and_parts (t y) (all_of t (xs ++ x ∷ ys)) a).1

-- ---- one limit for a side

-- no limit of the list is for the side
abbrev Free : ℕ → List Limit → Type 0
Free s ks = is_some (limit_of s ks) ≡ false

free_parts : (s : ℕ) (j : Limit) (ks : List Limit) → Free s (j ∷ ks) → (eqb (side_of j) s ≡ false) × Free s ks
free_parts s j ks e = by (eqb (side_of j) s) e
  where
    by : (b : Bool) → is_some (cond b (Some j) (limit_of s ks)) ≡ false → (b ≡ false) × Free s ks
    by true p = let z : ◌≡◌ {A = ℕ} 0 1 = cc in absurd (omega arith)
    by false p = (refl, p)

free_from : (s : ℕ) (j : Limit) (ks : List Limit) → eqb (side_of j) s ≡ false → Free s ks → Free s (j ∷ ks)
free_from s j ks e f = ap (λ b. is_some (cond b (Some j) (limit_of s ks))) e ∙ f

free_push : (s : ℕ) (ks : List Limit) (k : Limit) → Free s ks → eqb (side_of k) s ≡ false → Free s (ks ++ k ∷ [])
free_push s [] k f e = free_from s k [] e refl
free_push s (j ∷ ks) k f e = let p = free_parts s j ks f in free_from s j (ks ++ k ∷ []) p.0 (free_push s ks k p.1 e)

free_middle : (s : ℕ) (ks : List Limit) (k : Limit) (more : List Limit) → Free s (ks ++ k ∷ more) → eqb (side_of k) s ≡ false
free_middle s [] k more f = (free_parts s k more f).0
free_middle s (j ∷ ks) k more f = free_middle s ks k more (free_parts s j (ks ++ k ∷ more) f).1

other_way : (a b : ℕ) → eqb a b ≡ false → eqb b a ≡ false
other_way a b e = ne_eqb b a (λ q. eqb-false a b e (sym q))

one_each_push : (ks : List Limit) (k : Limit) → one_each ks ≡ true → Free (side_of k) ks → one_each (ks ++ k ∷ []) ≡ true
unfolding one_each
one_each_push [] k a f = refl
one_each_push (j ∷ ks) k a f =
    let p = and_parts (not (is_some (limit_of (side_of j) ks))) (one_each ks) a in
    let q = free_parts (side_of k) j ks f in
    and_from (not (is_some (limit_of (side_of j) (ks ++ k ∷ [])))) (one_each (ks ++ k ∷ []))
    (not_from_false _ (free_push (side_of j) ks k (not-true _ p.0) (other_way (side_of j) (side_of k) q.0)))
    (one_each_push ks k p.1 q.1)

one_each_middle : (ks : List Limit) (k : Limit) (more : List Limit) → one_each (ks ++ k ∷ more) ≡ true → Free (side_of k) ks
unfolding one_each
one_each_middle [] k more a = refl
one_each_middle (j ∷ ks) k more a =
    let p = and_parts (not (is_some (limit_of (side_of j) (ks ++ k ∷ more)))) (one_each (ks ++ k ∷ more)) a in
    let e = free_middle (side_of j) ks k more (not-true _ p.0) in
    free_from (side_of k) j ks (other_way (side_of k) (side_of j) e) (one_each_middle ks k more p.1)

-- ---- narrow sides

pub roomy : (h : Head) (ls : List Lane) (l : Lane) → crowded h ls l ≡ false
    → (length ls < most_lanes) × ((d : Bool) → width (floor_of h ls) (side d (lane_end d l)) < most_on_side)
unfolding crowded
roomy h ls l e =
    let p = or_parts (leb most_lanes (length ls)) _ e in
    let q = or_parts (leb most_on_side (width (floor_of h ls) (side leaving l.from))) _ p.1 in
    (leb-false most_lanes (length ls) p.0, elim [ true ↦ leb-false most_on_side _ q.1 | false ↦ leb-false most_on_side _ q.0 ])

crowded_not : (h : Head) (ls : List Lane) (l : Lane) → length ls < most_lanes
    → ((d : Bool) → width (floor_of h ls) (side d (lane_end d l)) < most_on_side) → crowded h ls l ≡ false
unfolding crowded
crowded_not h ls l few room =
    or_from _ _ (lt-leb most_lanes (length ls) few) (or_from _ _ (lt-leb most_on_side _ (room leaving)) (lt-leb most_on_side _ (room entering)))

narrow_push : (h : Head) (ls : List Lane) (l : Lane) → narrow h ls ≡ true
    → ((d : Bool) → width (floor_of h ls) (side d (lane_end d l)) < most_on_side) → narrow h (ls ++ l ∷ []) ≡ true
narrow_push h ls l a room =
    narrow_from h (ls ++ l ∷ [])
    (λ s b.
    let w = narrow_at h ls a s b in
    let c = count_push h ls l (end_of s) (station_of s) in
    elim (cases_Bool (eqb (lane_end (end_of s) l) (station_of s))) [
      | inl t ↦
          let q : side (end_of s) (lane_end (end_of s) l) ≡ s = ap (side (end_of s)) (eqb-true _ _ t) ∙ side_again s in
          let r = ap (λ x. width (floor_of h ls) x) q in
          let v = cond-true {A = ℕ} (eqb (lane_end (end_of s) l) (station_of s)) 1 0 t in
          omega (arith, room (end_of s))
      | inr t ↦ let v = cond-false {A = ℕ} (eqb (lane_end (end_of s) l) (station_of s)) 1 0 t in omega arith
    ])

-- a floor without lanes has narrow sides
narrow_none : (h : Head) → narrow h [] ≡ true
unfolding place
narrow_none h = narrow_from h [] (λ s b. omega arith)

-- a lane of a narrow floor finds room among the lanes before it
narrow_middle : (h : Head) (ls : List Lane) (l : Lane) (more : List Lane) → narrow h (ls ++ l ∷ more) ≡ true
    → (d : Bool) → lane_end d l < h.stations → width (floor_of h ls) (side d (lane_end d l)) < most_on_side
narrow_middle h ls l more a d on =
    let i : ℕ = lane_end d l in
    let s : ℕ = side d i in
    let b : s < 2 * h.stations = side_below d i h.stations on in
    let w = narrow_at h (ls ++ l ∷ more) a s b in
    let c = count_grows h ls l more d i in
    let v = cond-true {A = ℕ} (eqb i i) 1 0 (eq-eqb i i refl) in
    let p : width (floor_of h ls) s ≡ count (floor_of h ls) d i = λ j. count (floor_of h ls) (end_of_side d i j) (station_of_side d i j) in
    let q : width (floor_of h (ls ++ l ∷ more)) s ≡ count (floor_of h (ls ++ l ∷ more)) d i =
    λ j. count (floor_of h (ls ++ l ∷ more)) (end_of_side d i j) (station_of_side d i j) in
    omega arith

-- ---- the rules, part by part

-- what a limit keeps on a floor
abbrev pub limit_test : Head → List Lane → Limit → Bool
limit_test h ls k = ltb (side_of k) (2 * h.stations) && limit_keeps (width (floor_of h ls) (side_of k)) k

pub record Kept (h : Head) (ls : List Lane) (ks : List Limit) : Type 0 where
  pub head : head_keeps h ≡ true
  pub few_lanes : length ls ≤ most_lanes
  pub lanes : all_of (lane_keeps h) ls ≡ true
  pub narrow_sides : narrow h ls ≡ true
  pub limits : all_of (limit_test h ls) ks ≡ true
  pub alone : one_each ks ≡ true

pub kept_parts : (h : Head) (ls : List Lane) (ks : List Limit) → keeps h ls ks ≡ true → Kept h ls ks
unfolding keeps
kept_parts h ls ks e =
    let p₀ = and_parts (head_keeps h) _ e in
    let p₁ = and_parts (leb (length ls) most_lanes) _ p₀.1 in
    let p₂ = and_parts (all_of (lane_keeps h) ls) _ p₁.1 in
    let p₃ = and_parts (narrow h ls) _ p₂.1 in
    let p₄ = and_parts (all_of (limit_test h ls) ks) (one_each ks) p₃.1 in
    record {
      head = p₀.0;
      few_lanes = leb-true (length ls) most_lanes p₁.0;
      lanes = p₂.0;
      narrow_sides = p₃.0;
      limits = p₄.0;
      alone = p₄.1;
    }

pub kept_from : (h : Head) (ls : List Lane) (ks : List Limit) → Kept h ls ks → keeps h ls ks ≡ true
unfolding keeps
kept_from h ls ks r =
    and_from _ _ r.head (and_from _ _ (le-leb (length ls) most_lanes r.few_lanes) (and_from _ _ r.lanes
    (and_from _ _ r.narrow_sides (and_from _ _ r.limits r.alone))))

pub kept_head : (h : Head) → head_keeps h ≡ true → Kept h [] []
unfolding one_each
kept_head h e = record { head = e; few_lanes = omega arith; lanes = refl; narrow_sides = narrow_none h; limits = refl; alone = refl }

-- ---- one record more

module _ (h : Head) (ls : List Lane) (l : Lane) where
  pub kept_lane : Kept h ls [] → lane_keeps h l ≡ true → crowded h ls l ≡ false → Kept h (ls ++ l ∷ []) []
  kept_lane r e c =
      let p = roomy h ls l c in
      let few = p.0 in
      let n = length_push ls l in
      record {
        head = r.head;
        few_lanes = omega arith;
        lanes = all_push (lane_keeps h) ls l r.lanes e;
        narrow_sides = narrow_push h ls l r.narrow_sides p.1;
        limits = refl;
        alone = r.alone;
      }

  -- the ends of a lane that keeps the rules are on the floor
  ends_on : lane_keeps h l ≡ true → (d : Bool) → lane_end d l < h.stations
  unfolding lane_keeps lane_ranged
  ends_on e =
      let p = and_parts (lane_ranged h.stations l) (lane_leads h l) e in
      let q = and_parts (ltb l.from h.stations) _ p.0 in
      let r = and_parts (ltb l.to h.stations) _ q.1 in
      elim [ true ↦ ltb-true l.to h.stations r.0 | false ↦ ltb-true l.from h.stations q.0 ]

  pub lane_kept : (more : List Lane) (ks : List Limit) → Kept h (ls ++ l ∷ more) ks → (lane_keeps h l ≡ true) × (crowded h ls l ≡ false)
  lane_kept more ks r =
      let e = all_middle (lane_keeps h) ls l more r.lanes in
      let n : length (ls ++ l ∷ more) ≡ length ls + suc (length more) = length-append ls (l ∷ more) in
      let few = r.few_lanes in
      (e, crowded_not h ls l (omega arith) (λ d. narrow_middle h ls l more r.narrow_sides d (ends_on e d)))

module _ (h : Head) (ls : List Lane) (ks : List Limit) (k : Limit) where
  pub kept_limit : Kept h ls ks → side_of k < 2 * h.stations → limit_keeps (width (floor_of h ls) (side_of k)) k ≡ true
      → is_some (limit_of (side_of k) ks) ≡ false → Kept h ls (ks ++ k ∷ [])
  kept_limit r on e f =
      record {
        head = r.head;
        few_lanes = r.few_lanes;
        lanes = r.lanes;
        narrow_sides = r.narrow_sides;
        limits = all_push (limit_test h ls) ks k r.limits (and_from _ _ (lt-ltb (side_of k) (2 * h.stations) on) e);
        alone = one_each_push ks k r.alone f;
      }

  pub limit_kept : (more : List Limit) → Kept h ls (ks ++ k ∷ more)
      → (side_of k < 2 * h.stations) × (limit_keeps (width (floor_of h ls) (side_of k)) k ≡ true) × (is_some (limit_of (side_of k) ks) ≡ false)
  limit_kept more r =
      let p = and_parts (ltb (side_of k) (2 * h.stations)) (limit_keeps (width (floor_of h ls) (side_of k)) k)
      (all_middle (limit_test h ls) ks k more r.limits) in
      (ltb-true (side_of k) (2 * h.stations) p.0, p.1, one_each_middle ks k more r.alone)
