-- The trays through a station, by a round over the lanes with their trays.
use Rattle.std.proofs.Common.{◌≡◌, ℕ, zero, suc, ◌+◌, Bool, true, false, cond, ◌&&◌, List, [], ◌∷◌, zip, map, filter, sum_by, length, vec_items, vec_len, refl, sym, ap, ◌∙◌, add-one, ◌==◌, arith}
use Rattle.std.specs.List.{range_with_len}
use Rattle.std.proofs.lemmas.List.FromFn.{filter_of_map_range_with_len_more}
use Rattle.std.proofs.lemmas.List.Sums.{sum_by-append}
use Rattle.polymatroid.specs.Kinds.{sum_to}
use Rattle.network.specs.Plans.{through}
use Rattle.rooms.specs.Rooms.{at}
use Rattle.tables.specs.Parts.{end_in, lane_in}
use Rattle.tables.specs.Tables.{meaning_in}
use Rattle.tables.specs.declared.tables.Tables.{Tables}
use Rattle.tables.specs.declared.tables.TableLane.{TableLane}
use Rattle.loads.proofs.Every.{pairs_are}

-- the values at the numbers below n that pass t
sum_round : {A : Type 0} (of : ℕ → A) (t : A → Bool) (v : A → ℕ) (n : ℕ)
    → sum_by v (filter t (map of (range_with_len 0 n))) ≡ sum_to (λ k. cond (t (of k) && true) (v (of k)) 0) n
unfolding sum_to
sum_round of t v zero = refl
sum_round of t v (suc n) =
    ap (λ k. sum_by v (filter t (map of (range_with_len 0 k)))) (sym (add-one n))
    ∙ ap (sum_by v) (filter_of_map_range_with_len_more t of 0 n n (omega arith))
    ∙ sum_by-append v (filter t (map of (range_with_len 0 n))) (cond (t (of n)) (of n ∷ []) [])
    ∙ (λ i. sum_round of t v n i + one (t (of n)) i)
  where
    one : (b : Bool) → sum_by v (cond b (of n ∷ []) []) ≡ cond (b && true) (v (of n)) 0
    one true = omega arith
    one false = refl

pub through_round : (t : Tables) (trays : List ℕ) (d : Bool) (i : ℕ) → length trays ≡ vec_len t.lanes
    → sum_by (λ q. q.1) (filter (λ (q : TableLane × ℕ). (end_in d q.0).station == i) (zip (vec_items t.lanes) trays))
    ≡ through (meaning_in t) (at trays) (λ _. true) d i
unfolding through
through_round t trays d i same =
    let of : ℕ → TableLane × ℕ = λ k. (lane_in (vec_items t.lanes) k, at trays k) in
    ap (λ xs. sum_by (λ q. q.1) (filter (λ (q : TableLane × ℕ). (end_in d q.0).station == i) xs)) (pairs_are (vec_items t.lanes) trays _ 0 (omega (arith, t.lanes.ok.0)))
    ∙ sum_round of (λ (q : TableLane × ℕ). (end_in d q.0).station == i) (λ q. q.1) (length trays)
    ∙ ap (sum_to (λ k. cond (((end_in d (lane_in (vec_items t.lanes) k)).station == i) && true) (at trays k) 0)) (omega (arith, t.lanes.ok.0))
