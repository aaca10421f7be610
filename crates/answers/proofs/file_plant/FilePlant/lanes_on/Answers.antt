use Rattle.std.proofs.Common.{ℕ, List, ◌≡◌, ◌+◌, ◌<◌, map, replicate, set, vec_items, sym, refl, ap, ◌∙◌, arith}
use mathlib.Core.Path.{subst⁻¹}
use Rattle.floor.specs.Floor.{end_of}
use Rattle.floor.specs.Numbers.{most_on_side}
use Rattle.plantformat.specs.Records.{lane, lane_end}
use Rattle.limits.specs.Told.{told}
use Rattle.answers.proofs.Positions.{Found, none_found, found_on, found_off, room_left, lists_all}
use Rattle.answers.proofs.file_plant.FilePlant.lanes_on.Goals as goal
use Rattle.answers.proofs.file_plant.FilePlant.lanes_on.Goals.{then-lane_end-station, else-lane_end-station}

pub loop-number-init : goal.loop-number-init
loop-number-init c = none_found c.args.self.now.head (vec_items c.args.self.now.lanes) c.args.side (replicate 8 0) refl

-- the end of a lane, read from the slice of the lanes
read : (c : goal.Joined-lane_end-station) → c.lane_end.result ≡ lane_end (end_of c.args.side) (lane c.args.self.now.lanes.items c.loop-number.number)
read c = c.lane_end.ensures ∙ ap (λ ls. lane_end (end_of c.args.side) (lane ls c.loop-number.number)) c.deref-lane-items.ensures.value

-- there is room for a lane of the side
room : (c : goal.Then-lane_end-station) → c.loop-number.count < most_on_side
room c =
    let p = c.args.self.now in
    let at = c.lane_end.ensures ∙ ap (λ ls. lane_end (end_of c.args.side) (lane ls c.loop-number.number)) c.deref-lane-items.ensures.value in
    room_left p.head (vec_items p.lanes) c.args.side (map told (vec_items p.limits)) p.kept c.requires c.loop-number.numbers c.loop-number.count
    c.loop-number.number c.loop-number.invariant (omega (arith, p.lanes.ok.0)) (sym at ∙ c.if-lane_end-station.true)

pub bounds-numbers-count : goal.bounds-numbers-count
bounds-numbers-count c = room c

pub offset_bounds-numbers-count : goal.offset_bounds-numbers-count
offset_bounds-numbers-count c = omega (arith, room c)

pub overflow_add-count : goal.overflow_add-count
overflow_add-count c = omega (arith, room c)

pub loop-number-preserved : goal.loop-number-preserved
loop-number-preserved c =
    let p = c.args.self.now in
    let e = c.loop-number.number in
    let xs = c.loop-number.numbers in
    let n = c.loop-number.count in
    let P : List ℕ → ℕ → Type 0 = λ ys m. Found p.head (vec_items p.lanes) c.args.side ys m (e + 1) in
    elim c.if-lane_end-station.branch [
      | then-lane_end-station w ↦
          let at = sym (read c) ∙ w.if-lane_end-station.true in
          subst⁻¹ (λ ys. P ys c.if-lane_end-station.count) w.numbers-is
          (subst⁻¹ (λ m. P (set xs n e) m) w.count-is
          (found_on p.head (vec_items p.lanes) c.args.side xs n e c.loop-number.invariant (omega (arith, p.lanes.ok.0))
          (room_left p.head (vec_items p.lanes) c.args.side (map told (vec_items p.limits)) p.kept c.requires xs n e c.loop-number.invariant
          (omega (arith, p.lanes.ok.0)) at) at))
      | else-lane_end-station w ↦
          subst⁻¹ (λ ys. P ys c.if-lane_end-station.count) w.numbers-is
          (subst⁻¹ (λ m. P xs m) w.count-is
          (found_off p.head (vec_items p.lanes) c.args.side xs n e c.loop-number.invariant (λ q. w.if-lane_end-station.false (read c ∙ q))))
    ]

pub invariant_of-result : goal.invariant_of-result
invariant_of-result c =
    let p = c.args.self.now in
    record {
      on_floor = c.requires;
      lists =
          lists_all p.head (vec_items p.lanes) c.args.side (map told (vec_items p.limits)) p.kept c.requires c.loop-number.numbers c.loop-number.count
          c.loop-number.number c.loop-number.invariant (omega (arith, p.lanes.ok.0));
    }
