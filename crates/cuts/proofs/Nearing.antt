-- Which stations the lanes make near, by their rooms.
use Rattle.std.proofs.Common.{◌≡◌, ℕ, zero, suc, ◌<◌, Bool, true, false, cond, not, ◌&&◌, ◌||◌, eqb, ltb, List, length, refl, ap, ◌∙◌, ap₂, arith}
use Rattle.std.proofs.lemmas.List.FromFn.{get_or-range_with_len, length-range_with_len}
use Rattle.std.specs.List.{HoldsAt, AllWithin, range_with_len}
use Rattle.std.specs.Bool.{MatchBool}
use Rattle.polymatroid.specs.Finite.{first}
use Rattle.floor.specs.Floor.{leaving, entering, stock}
use Rattle.floor.specs.Meaning.{Meaning}
use Rattle.labelling.specs.Table.{Mark}
use Rattle.labelling.specs.Near.{nears, near, plus_labelled, minus_labelled}
use Rattle.labels.proofs.Searches.{any_first}
use Rattle.measures.specs.declared.lane_rooms.LaneRooms.{LaneRooms}
use Rattle.measures.proofs.ByRooms.{full_is}
use Rattle.cuts.specs.Cut.{EnteringRooms, nears_by_rooms, near_by_rooms}

-- tests that agree below n have the same first number that passes
same_first : (s t : ℕ → Bool) (n : ℕ) → ((i : ℕ) → i < n → s i ≡ t i) → first s n ≡ first t n
unfolding first
same_first s t zero h = refl
same_first s t (suc n) h =
    ap₂ (λ k b. cond (ltb k n) k (cond b n (suc n))) (same_first s t n (λ i l. h i (omega arith))) (h n (omega arith))

-- what `any` over the numbers below n answers
pub any_below : (t : ℕ → Bool) (n : ℕ) (b : Bool)
    → MatchBool b ((k : ℕ) × (k < length (range_with_len 0 n)) × HoldsAt (λ e. t e ≡ true) (range_with_len 0 n) k) (AllWithin (λ e. t e ≡ false) (range_with_len 0 n) 0 (length (range_with_len 0 n)))
    → b ≡ ltb (first t n) n
any_below t n true q =
    let low : q.0 < n = omega (arith, length-range_with_len 0 n, q.1) in
    any_first t n true (q.0, low, ap t (omega (arith, get_or-range_with_len 0 n q.0 0 low)) ∙ q.2 0)
any_below t n false q =
    any_first t n false (λ k l. ap t (omega (arith, get_or-range_with_len 0 n k 0 l)) ∙ q k 0 (omega arith) (omega (arith, length-range_with_len 0 n)))

module _ (M : Meaning) (rooms : List LaneRooms) (t : List Mark) (i : ℕ) where
  -- where these are the rooms of trays f, the same stations are near
  module _ (f : ℕ → ℕ) (are : EnteringRooms M f rooms) where
    pub nears_are : (e : ℕ) → e < M.floor.lanes → nears_by_rooms M rooms t i e ≡ nears M f t i e
    nears_are e l =
        ap (λ b. (minus_labelled t e && eqb (M.floor.end leaving e) i) || (plus_labelled t e && (not b && eqb (M.floor.end entering e) i)))
        (ap (λ n. eqb n 0) (are e l) ∙ full_is M f entering e)

    pub near_are : near_by_rooms M rooms t i ≡ near M f t i
    unfolding near_by_rooms near
    near_are =
        ap (λ k. eqb (stock M.floor) i || ltb k M.floor.lanes) (same_first (nears_by_rooms M rooms t i) (nears M f t i) M.floor.lanes nears_are)
