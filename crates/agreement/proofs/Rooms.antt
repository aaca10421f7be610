-- Meanings that agree give each lane the same room at either end, and the same tight set.
use Rattle.std.proofs.Common.{◌≡◌, ℕ, ◌^◌, ◌<◌, Bool, eqb, refl, ap, ◌∙◌, ap₂, arith}
use Rattle.polymatroid.specs.Sets.{has}
use Rattle.polymatroid.specs.Side.{room, room_but, tight_set}
use Rattle.floor.specs.Floor.{place, count}
use Rattle.floor.specs.Meaning.{Meaning, Lawful}
use Rattle.tables.specs.Agreement.{Agrees}
use Rattle.tables.proofs.Agreeing.{same_place, same_count}
use Rattle.network.specs.Plans.{trays}
use Rattle.network.specs.States.{room_at, lane_room, lane_room_but}
use Rattle.network.proofs.Rooms.{there}
use Rattle.labelling.specs.Rules.{full, in_tight}
use Rattle.agreement.proofs.Sides.{room_is, room_but_is, tight_set_is}
use Rattle.agreement.proofs.Plans.{trays_same}

-- what goes by the caps of the side's sets and the trays at its positions, and by no other
abbrev BySide : {A : Type 0} → (ℕ → (ℕ → ℕ) → (ℕ → ℕ) → ℕ → A) → Type 0
BySide of =
    (k : ℕ) (cap other v w : ℕ → ℕ) → ((X : ℕ) → X < 2 ^ k → other X ≡ cap X) → ((p : ℕ) → p < k → w p ≡ v p)
    → (p : ℕ) → p < k → of k other w p ≡ of k cap v p

module _ (M N : Meaning) (a : Agrees M N) where
  -- the side of lane e at its end d has as many lanes, and lane g the same position there
  count_there : (d : Bool) (e : ℕ) → e < M.floor.lanes → count N.floor d (N.floor.end d e) ≡ count M.floor d (M.floor.end d e)
  count_there d e le = ap (count N.floor d) (a.ends d e le) ∙ same_count M N a d (M.floor.end d e)

  place_there : (d : Bool) (e g : ℕ) → e < M.floor.lanes → g < M.floor.lanes
      → place N.floor d (N.floor.end d e) g ≡ place M.floor d (M.floor.end d e) g
  place_there d e g le lg =
      ap (λ i. place N.floor d i g) (a.ends d e le) ∙ same_place M N a d (M.floor.end d e) g (omega arith)

  module _ (laws : Lawful M) (f : ℕ → ℕ) where
    -- what goes by a side is the same at the side of lane e
    side_there : {A : Type 0} (of : ℕ → (ℕ → ℕ) → (ℕ → ℕ) → ℕ → A) → BySide of → (d : Bool) (e : ℕ) → e < M.floor.lanes
        → of (count N.floor d (N.floor.end d e)) (N.cap d (N.floor.end d e)) (trays N f d (N.floor.end d e))
        (place N.floor d (N.floor.end d e) e)
        ≡ of (count M.floor d (M.floor.end d e)) (M.cap d (M.floor.end d e)) (trays M f d (M.floor.end d e))
        (place M.floor d (M.floor.end d e) e)
    side_there of by d e le =
        let i = M.floor.end d e in
        ap (λ i. of (count N.floor d i) (N.cap d i) (trays N f d i) (place N.floor d i e)) (a.ends d e le)
        ∙ ap₂ (λ k p. of k (N.cap d i) (trays N f d i) p) (same_count M N a d i) (same_place M N a d i e (omega arith))
        ∙ by (count M.floor d i) (M.cap d i) (N.cap d i) (trays M f d i) (trays N f d i)
        (λ X l. a.caps d i X (laws.rules.end_on d e le) l) (trays_same M N a f f (λ e l. refl) d i)
        (place M.floor d i e) (there M d i e le refl)

    pub full_same : (d : Bool) (e : ℕ) → e < M.floor.lanes → full N f d e ≡ full M f d e
    unfolding full
    full_same d e le =
        side_there (λ k cap w p. eqb (room k cap w p) 0)
        (λ k cap other v w caps trays p l. ap (λ n. eqb n 0) (room_is k cap other v w caps trays p l)) d e le

    pub in_tight_same : (d : Bool) (e g : ℕ) → e < M.floor.lanes → g < M.floor.lanes → in_tight N f d e g ≡ in_tight M f d e g
    unfolding in_tight
    in_tight_same d e g le lg =
        ap₂ has (side_there tight_set (λ k cap other v w caps trays p l. tight_set_is k cap other v w caps trays p) d e le) (place_there d e g le lg)

    room_at_same : (d : Bool) (e g : ℕ) → e < M.floor.lanes → room_at N f d e g ≡ room_at M f d e g
    unfolding room_at
    room_at_same d e g le =
        side_there (λ k cap w p. room_but k cap w p g)
        (λ k cap other v w caps trays p l. room_but_is k cap other v w caps trays p g l) d e le

    pub lane_room_same : (d : Bool) (e : ℕ) → e < M.floor.lanes → lane_room N f d e ≡ lane_room M f d e
    lane_room_same d e le =
        ap (room_at N f d e) (count_there d e le) ∙ room_at_same d e (count M.floor d (M.floor.end d e)) le

    pub lane_room_but_same : (d : Bool) (e g : ℕ) → e < M.floor.lanes → g < M.floor.lanes → lane_room_but N f d e g ≡ lane_room_but M f d e g
    lane_room_but_same d e g le lg =
        ap (room_at N f d e) (place_there d e g le lg) ∙ room_at_same d e (place M.floor d (M.floor.end d e) g) le
