-- The row that is read is the row of the side.
use Rattle.std.proofs.Common.{◌≡◌, ℕ, ◌+◌, ◌^◌, ◌<◌, ◌≤◌, [], get_or, vec_items, vec_len, ap, ◌∙◌, arith}
use mathlib.Core.Path.{subst⁻¹}
use Rattle.std.proofs.lemmas.List.{get_or_read}
use Rattle.floor.specs.Floor.{end_of, station_of, lane_at, width}
use Rattle.floor.specs.Numbers.{most_on_side}
use Rattle.floor.proofs.Places.{lane_at_below}
use Rattle.tables.specs.Parts.{side_in}
use Rattle.tables.specs.Tables.{meaning_in}
use Rattle.tables.specs.declared.tables.TableSide.{TableSide}
use Rattle.tables.proofs.tables.Tables.row_of.Goals as goal

pub returns : goal.returns
returns c =
    let t = c.args.self.now in
    let s = c.args.side in
    let rows = vec_items t.sides in
    let is : c.index.result.now ≡ side_in rows s =
    get_or_read rows s c.index.result.now (omega (arith, t.sides.ok.0, t.all_sides, c.requires)) c.index.ensures
    (record { width = 0; numbers = []; start = 0 }) in
    let F = (meaning_in t).floor in
    let all : c.index.result.now.width ≡ width F s = ap (λ (r : TableSide). r.width) is ∙ t.widths s c.requires in
    let P : TableSide → Type 0 = λ r. (p : ℕ) → p < r.width → get_or r.numbers p 0 ≡ lane_at F (end_of s) (station_of s) p in
    let each : P c.index.result.now = subst⁻¹ P is (λ p h. t.placed s p h) in
    record {
      is = is;
      all = all;
      few = subst⁻¹ (λ (r : TableSide). r.width ≤ most_on_side) is (t.narrow s c.requires);
      each = each;
      below = λ p h. omega (arith, each p h, lane_at_below F (end_of s) (station_of s) p (omega (arith, all)), t.lanes.ok.0);
      held = subst⁻¹ (λ (r : TableSide). r.start + 2 ^ r.width ≤ vec_len t.caps) is (t.held s c.requires);
    }
