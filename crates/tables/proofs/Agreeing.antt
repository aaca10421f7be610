-- Meanings that agree have the same positions, the same lanes at them and the same laws.
use Rattle.std.proofs.Common.{◌≡◌, ℕ, zero, suc, ◌+◌, ◌^◌, ◌<◌, ◌≤◌, Bool, cond, not, eqb, sym, refl, ap, ◌∙◌, arith, pow_pos}
use mathlib.Core.Path.{subst⁻¹}
use lib.Bits.{bit_and, bit_or, or_lt, and_lt}
use Rattle.std.proofs.lemmas.Nat.{pow_below}
use Rattle.polymatroid.specs.Laws.{FourLaws}
use Rattle.floor.specs.Floor.{FloorRules, leaving, entering, on, place, count, lane_at}
use Rattle.floor.specs.Meaning.{Meaning, Lawful}
use Rattle.floor.specs.Numbers.{top_cap}
use Rattle.floor.proofs.Places.{lane_at_below, lane_at_on, lane_at_placed, lane_at_is}
use Rattle.tables.specs.Agreement.{Agrees}

-- caps that are the same for the sets of a side keep the same laws
pub caps_same : (top k : ℕ) (cap other : ℕ → ℕ) → ((X : ℕ) → X < 2 ^ k → other X ≡ cap X) → FourLaws top k cap → FourLaws top k other
caps_same top k cap other same laws = (
  record {
    none = same 0 (pow_pos k) ∙ laws.0.none;
    grows = λ X p l h.
        omega (arith, laws.0.grows X p l h, same X l, same (bit_or X (2 ^ p)) (or_lt k X (2 ^ p) l (pow_below p k h)));
    bends = λ X Y l m.
        omega (arith, laws.0.bends X Y l m, same X l, same Y m, same (bit_or X Y) (or_lt k X Y l m), same (bit_and X Y) (and_lt k X Y l m));
  },
  λ X l. omega (arith, laws.1 X l, same X l),
)

module _ (M N : Meaning) (a : Agrees M N) where
  pub same_on : (d : Bool) (i e : ℕ) → e < M.floor.lanes → on N.floor d i e ≡ on M.floor d i e
  same_on d i e h = ap (λ v. eqb v i) (a.ends d e h)

  -- a lane has the same position
  pub same_place : (d : Bool) (i e : ℕ) → e ≤ M.floor.lanes → place N.floor d i e ≡ place M.floor d i e
  unfolding place
  same_place d i zero h = refl
  same_place d i (suc e) h =
      let here = same_on d i e (omega arith) in
      let before = same_place d i e (omega arith) in
      ap (λ v. v + cond (on N.floor d i e) 1 0) before ∙ ap (λ b. place M.floor d i e + cond b 1 0) here

  -- a side has as many lanes
  pub same_count : (d : Bool) (i : ℕ) → count N.floor d i ≡ count M.floor d i
  same_count d i = ap (place N.floor d i) a.lanes ∙ same_place d i M.floor.lanes (omega arith)

  -- a position has the same lane
  pub same_lane_at : (d : Bool) (i p : ℕ) → p < count M.floor d i → lane_at N.floor d i p ≡ lane_at M.floor d i p
  same_lane_at d i p h =
      let e = lane_at M.floor d i p in
      let low = lane_at_below M.floor d i p h in
      lane_at_is N.floor d i e p (omega (arith, a.lanes)) (same_on d i e low ∙ lane_at_on M.floor d i p h)
      (same_place d i e (omega arith) ∙ lane_at_placed M.floor d i p h)

  pub agrees_back : Agrees N M
  agrees_back = record {
    stations = sym a.stations;
    lanes = sym a.lanes;
    poles = λ d. sym (a.poles d);
    ends = λ d e h. sym (a.ends d e (omega (arith, a.lanes)));
    caps = λ d i X h l. sym (a.caps d i X (omega (arith, a.stations)) (subst⁻¹ (λ k. X < 2 ^ k) (sym (same_count d i)) l));
  }

  -- the same rules and laws
  pub agrees_rules : FloorRules M.floor → FloorRules N.floor
  agrees_rules r = record {
    two_stations = omega (arith, a.stations, r.two_stations);
    few_stations = omega (arith, a.stations, r.few_stations);
    few_lanes = omega (arith, a.lanes, r.few_lanes);
    pole_on = λ d. omega (arith, a.stations, a.poles d, r.pole_on d);
    poles_differ = λ e. r.poles_differ (sym (a.poles leaving) ∙ e ∙ a.poles entering);
    end_on = λ d e h. let l : e < M.floor.lanes = omega (arith, a.lanes) in omega (arith, a.stations, a.ends d e l, r.end_on d e l);
    ends_differ = λ d e h q.
        let l : e < M.floor.lanes = omega (arith, a.lanes) in
        r.ends_differ d e l (sym (a.ends d e l) ∙ q ∙ a.ends (not d) e l);
    poles_clear = λ d e h q.
        let l : e < M.floor.lanes = omega (arith, a.lanes) in
        r.poles_clear d e l (sym (a.ends (not d) e l) ∙ q ∙ a.poles d);
    narrow = λ d i h. omega (arith, same_count d i, r.narrow d i (omega (arith, a.stations)));
  }

  pub agrees_lawful : Lawful M → Lawful N
  agrees_lawful l = record {
    rules = agrees_rules l.rules;
    laws = λ d i h.
        let on : i < M.floor.stations = omega (arith, a.stations) in
        let P : ℕ → Type 0 = λ k. FourLaws top_cap k (N.cap d i) in
        subst⁻¹ P (same_count d i)
        (caps_same top_cap (count M.floor d i) (M.cap d i) (N.cap d i) (λ X b. a.caps d i X on b) (l.laws d i on));
  }
