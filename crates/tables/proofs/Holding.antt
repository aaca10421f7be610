-- What tables hold, once every row tells of a lawful plant.
use Rattle.std.proofs.Common.{◌≡◌, ℕ, ◌+◌, ◌*◌, ◌^◌, ◌<◌, ◌≤◌, Bool, true, false, List, [], length, get_or, sym, refl, ap, ◌∙◌, inl, inr, arith}
use Rattle.std.proofs.lemmas.List.{get_or_past, get_or-take}
use Rattle.std.proofs.lemmas.List.FromFn.{get_or-map-range_with_len}
use Rattle.std.proofs.lemmas.Bool.{cases_lt}
use Rattle.floor.specs.Floor.{FloorRules, leaving, entering, sides, end_of, station_of, place, lane_at, width}
use Rattle.floor.specs.Meaning.{Meaning, Lawful}
use Rattle.floor.specs.Numbers.{most_on_side}
use Rattle.tables.specs.Parts.{end_in, lane_in, side_in, table_floor, table_meaning}
use Rattle.tables.specs.Agreement.{Agrees}
use Rattle.tables.specs.Told.{SidesTold, SidesCapped, lane_told, lanes_told}
use Rattle.tables.specs.declared.tables.TableLane.{TableLane}
use Rattle.tables.specs.declared.tables.TableSide.{TableSide}
use Rattle.tables.proofs.Agreeing.{same_place, same_count, same_lane_at, agrees_rules}
use Rattle.tables.proofs.Telling.{all_lanes, lane_is, told_agrees}

pub record Held (n a b : ℕ) (lanes : List TableLane) (rows : List TableSide) (caps : List ℕ) : Type 0 where
  pub rules : FloorRules (table_floor n a b lanes)
  pub all : length rows ≡ 2 * n
  pub widths : (s : ℕ) → s < 2 * n → (side_in rows s).width ≡ width (table_floor n a b lanes) s
  pub narrow : (s : ℕ) → s < 2 * n → (side_in rows s).width ≤ most_on_side
  pub placed : (s p : ℕ) → p < (side_in rows s).width
      → get_or (side_in rows s).numbers p 0 ≡ lane_at (table_floor n a b lanes) (end_of s) (station_of s) p
  pub ends : (d : Bool) (e : ℕ) → e < length lanes
      → (end_in d (lane_in lanes e)).position ≡ place (table_floor n a b lanes) d (end_in d (lane_in lanes e)).station e
  pub bounds : (s : ℕ) → s < 2 * n → (side_in rows s).start + 2 ^ (side_in rows s).width ≤ length caps

module _ (M : Meaning) (lawful : Lawful M) (n a b : ℕ) (lanes : List TableLane) (rows : List TableSide) (caps : List ℕ)
    (same : n ≡ M.floor.stations) (stock : a ≡ M.floor.pole leaving) (despatch : b ≡ M.floor.pole entering)
    (told : lanes ≡ lanes_told M.floor M.floor.lanes) (sided : SidesTold M.floor (sides M.floor) rows)
    (capped : SidesCapped M (sides M.floor) rows caps) where
  agrees : Agrees M (table_meaning n a b lanes rows caps)
  agrees = told_agrees M n a b lanes rows caps same stock despatch told capped

  long : length rows ≡ 2 * n
  long = omega (arith, sided.all)

  placed : (s p : ℕ) → p < (side_in rows s).width
      → get_or (side_in rows s).numbers p 0 ≡ lane_at (table_floor n a b lanes) (end_of s) (station_of s) p
  placed s p h =
      elim (cases_lt s (2 * n)) [
        | inl l ↦
            let t = sided.each s (omega arith) in
            let low : p < width M.floor s = omega (arith, t.all) in
            sym (get_or-take (side_in rows s).width (side_in rows s).numbers p 0 h)
            ∙ ap (λ xs. get_or xs p 0) t.lanes
            ∙ get_or-map-range_with_len (lane_at M.floor (end_of s) (station_of s)) 0 (width M.floor s) p p 0 low (omega arith)
            ∙ sym (same_lane_at M (table_meaning n a b lanes rows caps) agrees (end_of s) (station_of s) p low)
        | inr l ↦
            let none = get_or_past rows s (record { width = 0; numbers = []; start = 0 }) (omega (arith, long)) in
            absurd (omega (arith, ap (λ (r : TableSide). r.width) none))
      ]

  ends : (d : Bool) (e : ℕ) → e < length lanes
      → (end_in d (lane_in lanes e)).position ≡ place (table_floor n a b lanes) d (end_in d (lane_in lanes e)).station e
  ends d e h =
      let l : e < M.floor.lanes = omega (arith, all_lanes M n a b lanes rows caps same stock despatch told capped) in
      let row = lane_is M n a b lanes rows caps same stock despatch told capped e l in
      ap (λ (r : TableLane). (end_in d r).position) row
      ∙ by d
      ∙ sym (same_place M (table_meaning n a b lanes rows caps) agrees d (M.floor.end d e) e (omega arith))
      ∙ ap (λ v. place (table_floor n a b lanes) d v e) (sym (agrees.ends d e l))
    where
      by : (c : Bool) → (end_in c (lane_told M.floor e)).position ≡ place M.floor c (M.floor.end c e) e
      by true = refl
      by false = refl

  pub all_held : Held n a b lanes rows caps
  all_held = record {
    rules = agrees_rules M (table_meaning n a b lanes rows caps) agrees lawful.rules;
    all = long;
    widths = λ s h. (sided.each s (omega arith)).all ∙ sym (same_count M (table_meaning n a b lanes rows caps) agrees (end_of s) (station_of s));
    narrow = λ s h. (sided.each s (omega arith)).few;
    placed = placed;
    ends = ends;
    bounds = λ s h.
        let l : s < sides M.floor = omega arith in
        omega (arith, (capped s l).all, ap (λ k. 2 ^ k) (sided.each s l).all);
  }
