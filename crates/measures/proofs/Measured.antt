-- The rooms at one side measure its lanes there, and leave all others.
use Rattle.std.proofs.Common.{◌≡◌, ℕ, ◌+◌, ◌<◌, Bool, List, length, get_or, sym, refl, ap, ◌∙◌, ap₂, inl, inr, arith}
use Rattle.std.proofs.lemmas.Bool.{cases_eq, eq-eqb, eqb-true}
use Rattle.floor.specs.Floor.{side, width, end_of, station_of, place, count, lane_at}
use Rattle.floor.specs.Meaning.{Meaning}
use Rattle.floor.proofs.Places.{end_of_side, station_of_side, side_again, place_below, lane_at_on, lane_at_placed, lane_at_place}
use Rattle.measures.specs.ByRooms.{room_at}
use Rattle.measures.specs.declared.lane_rooms.LaneRooms.{LaneRooms}
use Rattle.measures.specs.Measures.{room_in, Put, MeasuredBelow, position_room}

-- the lanes of the side s, by position
module _ (M : Meaning) (s : ℕ) (lanes : List ℕ) (all : length lanes ≡ width M.floor s)
    (each : (p : ℕ) → p < width M.floor s → get_or lanes p 0 ≡ lane_at M.floor (end_of s) (station_of s) p) where
  -- no lane has two positions
  pub lanes_apart : (p q : ℕ) → p < length lanes → q < length lanes → get_or lanes p 0 ≡ get_or lanes q 0 → p ≡ q
  lanes_apart p q l m e =
      let F = M.floor in
      let d = end_of s in
      let i = station_of s in
      let low : p < width F s = omega arith in
      let high : q < width F s = omega arith in
      sym (lane_at_placed F d i p low) ∙ ap (place F d i) (sym (each p low) ∙ e ∙ each q high) ∙ lane_at_placed F d i q high

  pub measured_more : (f : ℕ → ℕ) (c : Bool) (rooms : List ℕ) (before after : List LaneRooms) → c ≡ end_of s
      → ((p : ℕ) → p < width M.floor s → get_or rooms p 0 ≡ position_room M f (end_of s) (station_of s) p)
      → Put c lanes rooms before after (length lanes) → MeasuredBelow M f before s → MeasuredBelow M f after (s + 1)
  unfolding room_at
  measured_more f c rooms before after enters measured put old d e l m =
      let F = M.floor in
      let i = F.end d e in
      elim (cases_eq (side d i) s) [
        | inl q ↦
            let ended : end_of s ≡ d = ap end_of (sym q) ∙ end_of_side d i in
            let stationed : station_of s ≡ i = ap station_of (sym q) ∙ station_of_side d i in
            let p = place F d i e in
            let here = eq-eqb i i refl in
            let below : p < length lanes = omega (arith, ap₂ (count F) ended stationed, place_below F d i e l here) in
            let lane : get_or lanes p 0 ≡ e =
            each p (omega arith) ∙ ap₂ (λ b j. lane_at F b j p) ended stationed ∙ lane_at_place F d i e l here in
            ap₂ (room_in after) (sym (enters ∙ ended)) (sym lane) ∙ put.put p below ∙ measured p (omega arith)
            ∙ ap₂ (λ b j. position_room M f b j p) ended stationed
        | inr q ↦
            put.kept d e (λ p b is h.
            let low : p < width F s = omega arith in
            let there : F.end (end_of s) (lane_at F (end_of s) (station_of s) p) ≡ station_of s =
            eqb-true (F.end (end_of s) (lane_at F (end_of s) (station_of s) p)) (station_of s) (lane_at_on F (end_of s) (station_of s) p low) in
            let ends : i ≡ station_of s = ap₂ F.end (is ∙ enters) (sym h ∙ each p low) ∙ there in
            q (ap₂ side (is ∙ enters) ends ∙ side_again s))
            ∙ old d e l (omega arith)
      ]
