-- What rows that tell of a plant have: one row more, the lanes of each side, the position of a lane, and what all rows tell together.
use Rattle.std.proofs.Common.{◌≡◌, ℕ, ◌+◌, ◌^◌, ◌<◌, Bool, true, false, List, [], ◌∷◌, ◌++◌, length, get_or, Contains, sym, ap, ◌∙◌, subst, inl, inr, arith, length-append}
use mathlib.Core.Path.{subst⁻¹}
use Rattle.std.proofs.lemmas.List.{length_push, get_or_push, get_or_append_left, get_or-append-add}
use Rattle.std.proofs.lemmas.List.FromFn.{length-map-range_with_len, get_or-map-range_with_len}
use Rattle.std.proofs.lemmas.Bool.{cases_lt, eq-eqb}
use Rattle.floor.specs.Floor.{Floor, leaving, entering, side, sides, end_of, station_of, on, place, count, lane_at, width}
use Rattle.floor.specs.Meaning.{Meaning}
use Rattle.floor.proofs.Places.{end_of_side, station_of_side, side_below, place_below, lane_at_placed, lane_at_place}
use Rattle.tables.specs.Parts.{lane_in, side_in, table_meaning}
use Rattle.tables.specs.Agreement.{Agrees}
use Rattle.tables.specs.Told.{lanes_on, caps_on, SideTold, SidesTold, SideCapped, SidesCapped, end_told, lane_told, lanes_told}
use Rattle.tables.specs.declared.tables.LaneEnd.{LaneEnd}
use Rattle.tables.specs.declared.tables.TableLane.{TableLane}
use Rattle.tables.specs.declared.tables.TableSide.{TableSide}

-- ---- one row more

-- what holds of every row so far, and of the next, holds of all rows with it
each_push : {X : Type 0} (P : ℕ → X → Type 0) (rows : List X) (row d : X) (n : ℕ) → length rows ≡ n
    → ((k : ℕ) → k < n → P k (get_or rows k d)) → P n row → (k : ℕ) → k < n + 1 → P k (get_or (rows ++ row ∷ []) k d)
each_push P rows row d n long before here k h =
    elim (cases_lt k n) [
      | inl l ↦ subst⁻¹ (P k) (get_or_append_left rows (row ∷ []) d k (omega arith)) (before k l)
      | inr l ↦
          let same : n ≡ k = omega arith in
          subst⁻¹ (P k) (get_or_push rows row d k (long ∙ same)) (subst (λ v. P v row) same here)
    ]

pub sides_more : (F : Floor) (n : ℕ) (rows after : List TableSide) (row : TableSide) → after ≡ rows ++ row ∷ [] → SidesTold F n rows
    → SideTold F n row → SidesTold F (n + 1) after
sides_more F n rows after row is t h = subst⁻¹ (SidesTold F (n + 1)) is more
  where
    more : SidesTold F (n + 1) (rows ++ row ∷ [])
    more = record {
      all = length_push rows row ∙ ap (λ v. v + 1) t.all;
      each = each_push (SideTold F) rows row _ n t.all t.each h;
    }

-- caps that are added change none that are there
capped_longer : (M : Meaning) (s : ℕ) (row : TableSide) (caps more : List ℕ) → SideCapped M s row caps → SideCapped M s row (caps ++ more)
capped_longer M s row caps more t = record {
  all = omega (arith, length-append caps more, t.all);
  each = λ X h. get_or_append_left caps more 0 (row.start + X) (omega (arith, t.all)) ∙ t.each X h;
}

-- the caps of a side stand where they are added
capped_here : (M : Meaning) (s : ℕ) (row : TableSide) (caps : List ℕ) → row.start ≡ length caps → SideCapped M s row (caps ++ caps_on M s)
capped_here M s row caps at = record {
  all = omega (arith, length-append caps (caps_on M s), length-map-range_with_len (M.cap (end_of s) (station_of s)) 0 (2 ^ width M.floor s));
  each = λ X h.
      ap (λ v. get_or (caps ++ caps_on M s) (v + X) 0) at
      ∙ get_or-append-add caps (caps_on M s) X 0
      ∙ get_or-map-range_with_len (M.cap (end_of s) (station_of s)) 0 (2 ^ width M.floor s) X X 0 h (omega arith);
}

pub capped_more : (M : Meaning) (n : ℕ) (rows after : List TableSide) (row : TableSide) (caps longer : List ℕ) → after ≡ rows ++ row ∷ []
    → longer ≡ caps ++ caps_on M n → length rows ≡ n → row.start ≡ length caps → SidesCapped M n rows caps
    → SidesCapped M (n + 1) after longer
capped_more M n rows after row caps longer is added long at t =
    subst⁻¹ (λ v. SidesCapped M (n + 1) v longer) is (subst⁻¹ (SidesCapped M (n + 1) (rows ++ row ∷ [])) added more)
  where
    more : SidesCapped M (n + 1) (rows ++ row ∷ []) (caps ++ caps_on M n)
    more =
        each_push (λ s r. SideCapped M s r (caps ++ caps_on M n)) rows row _ n long
        (λ s h. capped_longer M s (side_in rows s) caps (caps_on M n) (t s h)) (capped_here M n row caps at)

-- ---- an end of a lane

module _ (F : Floor) (d : Bool) (i : ℕ) where
  pub width_side : width F (side d i) ≡ count F d i
  width_side = ap (λ b. count F b (station_of (side d i))) (end_of_side d i) ∙ ap (count F d) (station_of_side d i)

  pub lane_at_side : (p : ℕ) → lane_at F (end_of (side d i)) (station_of (side d i)) p ≡ lane_at F d i p
  lane_at_side p = ap (λ b. lane_at F b (station_of (side d i)) p) (end_of_side d i) ∙ ap (λ v. lane_at F d v p) (station_of_side d i)

  -- the lanes of a side are as many as the station has there, each at its position
  pub length_on : length (lanes_on F (side d i)) ≡ count F d i
  length_on = length-map-range_with_len (lane_at F (end_of (side d i)) (station_of (side d i))) 0 (width F (side d i)) ∙ width_side

  pub lane_on : (p x : ℕ) → p < count F d i → get_or (lanes_on F (side d i)) p x ≡ lane_at F d i p
  lane_on p x h =
      get_or-map-range_with_len (lane_at F (end_of (side d i)) (station_of (side d i))) 0 (width F (side d i)) p p x
      (omega (arith, width_side)) (omega arith)
      ∙ lane_at_side p

-- the row of a side of a station has the lanes there
pub side_told : (F : Floor) (rows : List TableSide) → SidesTold F (sides F) rows → (d : Bool) (i : ℕ) → i < F.stations
    → SideTold F (side d i) (side_in rows (side d i))
side_told F rows told d i h = told.each (side d i) (side_below d i F.stations h)

-- a lane is among those of the side where it ends
pub lane_there : (F : Floor) (d : Bool) (e i : ℕ) (lanes : List ℕ) → e < F.lanes → i ≡ F.end d e → lanes ≡ lanes_on F (side d i) → Contains lanes e
lane_there F d e i lanes h at is =
    let there : on F d i e ≡ true = eq-eqb (F.end d e) i (sym at) in
    let low = place_below F d i e h there in (
      place F d i e,
      omega (arith, ap length is, length_on F d i),
      ap (λ xs. get_or xs (place F d i e) e) is ∙ lane_on F d i (place F d i e) e low ∙ lane_at_place F d i e h there,
    )

-- where it is found among them is its position there
pub end_is : (F : Floor) (d : Bool) (e i : ℕ) (lanes : List ℕ) (x : LaneEnd) → i ≡ F.end d e → lanes ≡ lanes_on F (side d i) → x.station ≡ i
    → x.position < length lanes → get_or lanes x.position 0 ≡ e → x ≡ end_told F d e
end_is F d e i lanes x at is here within found = λ k. record { station = (here ∙ at) k; position = position k }
  where
    low : x.position < count F d i
    low = omega (arith, ap length is, length_on F d i)

    position : x.position ≡ place F d (F.end d e) e
    position =
        sym (lane_at_placed F d i x.position low)
        ∙ ap (place F d i) (sym (ap (λ xs. get_or xs x.position 0) is ∙ lane_on F d i x.position 0 low) ∙ found)
        ∙ ap (λ v. place F d v e) at

-- ---- all rows

-- tables with all rows and caps agree with what they tell of
module _ (M : Meaning) (n a b : ℕ) (lanes : List TableLane) (rows : List TableSide) (caps : List ℕ) (same : n ≡ M.floor.stations)
    (stock : a ≡ M.floor.pole leaving) (despatch : b ≡ M.floor.pole entering) (told : lanes ≡ lanes_told M.floor M.floor.lanes)
    (capped : SidesCapped M (sides M.floor) rows caps) where
  pub all_lanes : length lanes ≡ M.floor.lanes
  all_lanes = ap length told ∙ length-map-range_with_len (lane_told M.floor) 0 M.floor.lanes

  pub lane_is : (e : ℕ) → e < M.floor.lanes → lane_in lanes e ≡ lane_told M.floor e
  lane_is e h = ap (λ xs. lane_in xs e) told ∙ get_or-map-range_with_len (lane_told M.floor) 0 M.floor.lanes e e _ h (omega arith)

  pub told_agrees : Agrees M (table_meaning n a b lanes rows caps)
  told_agrees = record {
    stations = same;
    lanes = all_lanes;
    poles = poles;
    ends = ends;
    caps = λ d i X h l.
        let s = side d i in
        (capped s (side_below d i M.floor.stations h)).each X (subst⁻¹ (λ k. X < 2 ^ k) (width_side M.floor d i) l)
        ∙ ap (λ v. M.cap v (station_of s) X) (end_of_side d i)
        ∙ ap (λ v. M.cap d v X) (station_of_side d i);
  }
    where
      poles : (d : Bool) → (table_meaning n a b lanes rows caps).floor.pole d ≡ M.floor.pole d
      poles true = despatch
      poles false = stock

      ends : (d : Bool) (e : ℕ) → e < M.floor.lanes → (table_meaning n a b lanes rows caps).floor.end d e ≡ M.floor.end d e
      ends true e h = ap (λ (r : TableLane). r.entering.station) (lane_is e h)
      ends false e h = ap (λ (r : TableLane). r.leaving.station) (lane_is e h)
