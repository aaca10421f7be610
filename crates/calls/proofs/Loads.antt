-- The test of a load decides whether its trays are a plan, and no trays at all are one.
use Rattle.std.proofs.Common.{◌≡◌, ℕ, zero, suc, ◌^◌, Bool, true, false, cond, ◌&&◌, ◌||◌, eqb, leb, replicate, sym, refl, ap, ◌∙◌, subst, inl, inr, arith}
use mathlib.Core.Path.{subst⁻¹, fun_ext}
use Rattle.std.proofs.lemmas.Bool.{cases_Bool, cases_lt, cases_eq, and_parts, and_from, or_cases, or_left, or_right, eqb-true, eq-eqb, leb-true, le-leb}
use Rattle.std.proofs.lemmas.List.{length-replicate, get_or-replicate}
use Rattle.polymatroid.specs.Sets.{has}
use Rattle.polymatroid.specs.Side.{load, Within}
use Rattle.polymatroid.specs.Tables.{every}
use Rattle.polymatroid.proofs.Tables.{every_at, every_from}
use Rattle.floor.specs.Floor.{stock, despatch, side, sides, width, end_of, station_of, on, count}
use Rattle.floor.specs.Meaning.{Meaning}
use Rattle.floor.proofs.Places.{end_of_side, station_of_side, side_below, station_below}
use Rattle.network.specs.Plans.{trays, through, Feasible}
use Rattle.network.proofs.Hits.{sum_none}
use Rattle.calls.specs.Events.{at}
use Rattle.calls.specs.Does.{side_within, station_balanced, is_plan}
use Rattle.calls.proofs.SameTrays.{list_ends}

module _ (M : Meaning) (f : ℕ → ℕ) where
  -- no set of the lanes with their end d at station i carries more than its cap
  abbrev SideWithin : Bool → ℕ → Type 0
  SideWithin d i = Within (count M.floor d i) (M.cap d i) (trays M f d i)

  side_from : (s : ℕ) → side_within M f s ≡ true → SideWithin (end_of s) (station_of s)
  unfolding side_within
  side_from s h X l =
      leb-true (load (trays M f (end_of s) (station_of s)) (width M.floor s) X) (M.cap (end_of s) (station_of s) X)
      (every_at (2 ^ width M.floor s) (λ X. leb (load (trays M f (end_of s) (station_of s)) (width M.floor s) X) (M.cap (end_of s) (station_of s) X)) h X l)

  side_to : (s : ℕ) → SideWithin (end_of s) (station_of s) → side_within M f s ≡ true
  unfolding side_within
  side_to s h =
      every_from (2 ^ width M.floor s) (λ X. leb (load (trays M f (end_of s) (station_of s)) (width M.floor s) X) (M.cap (end_of s) (station_of s) X))
      (λ X l. le-leb (load (trays M f (end_of s) (station_of s)) (width M.floor s) X) (M.cap (end_of s) (station_of s) X) (h X l))

  station_from : (i : ℕ) → station_balanced M f i ≡ true → (i ≡ stock M.floor → ⊥) → (i ≡ despatch M.floor → ⊥)
      → through M f (λ e. true) true i ≡ through M f (λ e. true) false i
  unfolding station_balanced
  station_from i h a b =
      elim (or_cases (eqb i (stock M.floor) || eqb i (despatch M.floor)) (eqb (through M f (λ e. true) true i) (through M f (λ e. true) false i)) h) [
        | inl o ↦
            elim (or_cases (eqb i (stock M.floor)) (eqb i (despatch M.floor)) o) [
              | inl p ↦ absurd (a (eqb-true i (stock M.floor) p))
              | inr p ↦ absurd (b (eqb-true i (despatch M.floor) p))
            ]
        | inr o ↦ eqb-true (through M f (λ e. true) true i) (through M f (λ e. true) false i) o
      ]

  station_to : (i : ℕ) → ((i ≡ stock M.floor → ⊥) → (i ≡ despatch M.floor → ⊥) → through M f (λ e. true) true i ≡ through M f (λ e. true) false i)
      → station_balanced M f i ≡ true
  unfolding station_balanced
  station_to i h =
      elim (cases_eq i (stock M.floor)) [
        | inl p ↦ or_left _ _ (or_left _ _ (eq-eqb i (stock M.floor) p))
        | inr p ↦
            elim (cases_eq i (despatch M.floor)) [
              | inl q ↦ or_left _ _ (or_right (eqb i (stock M.floor)) _ (eq-eqb i (despatch M.floor) q))
              | inr q ↦
                  or_right (eqb i (stock M.floor) || eqb i (despatch M.floor)) _
                  (eq-eqb (through M f (λ e. true) true i) (through M f (λ e. true) false i) (h p q))
            ]
      ]

  pub passed_is_plan : is_plan M f ≡ true → Feasible M f
  unfolding is_plan
  passed_is_plan h =
      let b = and_parts (every (sides M.floor) (side_within M f)) (every M.floor.stations (station_balanced M f)) h in
      record {
        within = λ d i l.
            let s = side_from (side d i) (every_at (sides M.floor) (side_within M f) b.0 (side d i) (side_below d i M.floor.stations l)) in
            subst (λ d'. SideWithin d' i) (end_of_side d i) (subst (SideWithin (end_of (side d i))) (station_of_side d i) s);
        balanced = λ i l. station_from i (every_at M.floor.stations (station_balanced M f) b.1 i l);
      }

  pub plan_passes : Feasible M f → is_plan M f ≡ true
  unfolding is_plan
  plan_passes h =
      and_from (every (sides M.floor) (side_within M f)) (every M.floor.stations (station_balanced M f))
      (every_from (sides M.floor) (side_within M f) (λ s l. side_to s (h.within (end_of s) (station_of s) (station_below s M.floor.stations l))))
      (every_from M.floor.stations (station_balanced M f) (λ i l. station_to i (h.balanced i l)))

-- ---- no trays

load_nothing : (k X : ℕ) → load (λ p. 0) k X ≡ 0
unfolding load
load_nothing zero X = refl
load_nothing (suc k) X = let b = load_nothing k X in elim (cases_Bool (has X k)) [ inl h ↦ grind arith | inr h ↦ grind arith ]

module _ (M : Meaning) where
  through_nothing : (d : Bool) (i : ℕ) → through M (λ e. 0) (λ e. true) d i ≡ 0
  unfolding through
  through_nothing d i =
      sum_none (λ e. cond (on M.floor d i e && true) 0 0) M.floor.lanes
      (λ e l. elim (cases_Bool (on M.floor d i e && true)) [ inl h ↦ ap (λ b. cond b 0 0) h | inr h ↦ ap (λ b. cond b 0 0) h ])

  nothing_is_plan : Feasible M (λ e. 0)
  nothing_is_plan = record {
    within = λ d i l X m. omega (arith, load_nothing (count M.floor d i) X);
    balanced = λ i l a b. through_nothing true i ∙ sym (through_nothing false i);
  }

  pub no_trays_are_plan : Feasible M (at (replicate M.floor.lanes 0))
  no_trays_are_plan =
      let zeros : at (replicate M.floor.lanes 0) ≡ (λ e. 0) =
      fun_ext (λ e. elim (cases_lt e M.floor.lanes) [
        | inl l ↦ get_or-replicate M.floor.lanes e 0 0 l
        | inr l ↦ list_ends (replicate M.floor.lanes 0) M.floor.lanes (length-replicate M.floor.lanes 0) e l
      ]) in
      subst⁻¹ (Feasible M) zeros nothing_is_plan
