-- Meanings that agree have the same plans: the sets of their sides carry the same trays, and the same trays pass their stations.
use Rattle.std.proofs.Common.{◌≡◌, ℕ, ◌^◌, ◌<◌, Bool, true, false, cond, ◌&&◌, sym, refl, ap, ◌∙◌, ap₂, arith}
use mathlib.Core.Path.{subst⁻¹}
use Rattle.polymatroid.specs.Side.{load}
use Rattle.polymatroid.specs.Kinds.{sum_to}
use Rattle.floor.specs.Floor.{on, count, lane_at, stock, leaving}
use Rattle.floor.specs.Meaning.{Meaning}
use Rattle.floor.proofs.Places.{lane_at_below}
use Rattle.tables.specs.Agreement.{Agrees}
use Rattle.tables.proofs.Agreeing.{same_on, same_count, same_lane_at, agrees_back}
use Rattle.network.specs.Plans.{trays, Fits, through, Balanced, total, Feasible}
use Rattle.network.proofs.Hits.{sum_same}
use Rattle.agreement.specs.Agreeing.{AgreeingMeaningsHaveTheSamePlans}
use Rattle.agreement.proofs.Sides.{load_is}

-- trays g that are f on the lanes of the floor
module _ (M N : Meaning) (a : Agrees M N) (f g : ℕ → ℕ) (same : (e : ℕ) → e < M.floor.lanes → g e ≡ f e) where
  pub trays_same : (d : Bool) (i p : ℕ) → p < count M.floor d i → trays N g d i p ≡ trays M f d i p
  trays_same d i p h = ap g (same_lane_at M N a d i p h) ∙ same (lane_at M.floor d i p) (lane_at_below M.floor d i p h)

  pub load_same : (d : Bool) (i X : ℕ) → load (trays N g d i) (count N.floor d i) X ≡ load (trays M f d i) (count M.floor d i) X
  load_same d i X =
      ap (λ k. load (trays N g d i) k X) (same_count M N a d i)
      ∙ load_is (count M.floor d i) (M.cap d i) (M.cap d i) (trays M f d i) (trays N g d i) (λ X l. refl) (trays_same d i) X

  pub through_same : (t : ℕ → Bool) (d : Bool) (i : ℕ) → through N g t d i ≡ through M f t d i
  unfolding through
  through_same t d i =
      ap (sum_to (λ e. cond (on N.floor d i e && t e) (g e) 0)) a.lanes
      ∙ sum_same (λ e. cond (on N.floor d i e && t e) (g e) 0) (λ e. cond (on M.floor d i e && t e) (f e) 0) M.floor.lanes
      (λ e l. ap₂ (λ b n. cond (b && t e) n 0) (same_on M N a d i e l) (same e l))

  fits_same : Fits M f → Fits N g
  fits_same h d i l X m =
      let on : i < M.floor.stations = omega (arith, a.stations) in
      let set : X < 2 ^ count M.floor d i = subst⁻¹ (λ k. X < 2 ^ k) (sym (same_count M N a d i)) m in
      omega (arith, h d i on X set, load_same d i X, a.caps d i X on set)

  balanced_same : Balanced M f → Balanced N g
  balanced_same h i l ns nd =
      through_same (λ e. true) true i
      ∙ h i (omega (arith, a.stations)) (λ q. ns (q ∙ sym (a.poles false))) (λ q. nd (q ∙ sym (a.poles true)))
      ∙ sym (through_same (λ e. true) false i)

  pub feasible_same : Feasible M f → Feasible N g
  feasible_same h = record { within = fits_same h.within; balanced = balanced_same h.balanced }

pub agrees_itself : (M : Meaning) → Agrees M M
agrees_itself M = record {
  stations = refl;
  lanes = refl;
  poles = λ d. refl;
  ends = λ d e l. refl;
  caps = λ d i X l m. refl;
}

-- trays that are a plan's on the lanes of the floor are a plan
pub feasible_on_floor : (M : Meaning) (f g : ℕ → ℕ) → ((e : ℕ) → e < M.floor.lanes → g e ≡ f e) → Feasible M f → Feasible M g
feasible_on_floor M f g same h = feasible_same M M (agrees_itself M) f g same h

module _ (M N : Meaning) (a : Agrees M N) (f : ℕ → ℕ) where
  pub total_same : total N f ≡ total M f
  total_same = ap (through N f (λ e. true) leaving) (a.poles leaving) ∙ through_same M N a f f (λ e l. refl) (λ e. true) leaving (stock M.floor)

  pub feasible_to : Feasible M f → Feasible N f
  feasible_to h = feasible_same M N a f f (λ e l. refl) h

  pub feasible_back : Feasible N f → Feasible M f
  feasible_back h = feasible_same N M (agrees_back M N a) f f (λ e l. refl) h

pub agreeing_meanings_have_the_same_plans : AgreeingMeaningsHaveTheSamePlans
agreeing_meanings_have_the_same_plans M N f a = (feasible_to M N a f, feasible_back M N a f)
