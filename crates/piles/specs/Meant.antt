-- What a closing and a ceiling do to the caps, once they are set.
use Rattle.std.specs.Prelude.{◌≡◌, ℕ, ◌≤◌, min, Bool, List, length, Ok, ◌≢◌, slice_index}
use Rattle.polymatroid.specs.Sets.{without}
use Rattle.floor.specs.Floor.{side, sides, count}
use Rattle.floor.specs.Meaning.{Meaning}
use Rattle.layers.specs.Meanings.{with_closings, with_ceilings, listed}
use Rattle.piles.specs.Settings.{close_judged, closed_after, ceiling_judged, ceilings_after}

-- position p leaves every set of side s, and nothing else changes
pub record Closes (s p : ℕ) (before after : Meaning) : Type 0 where
  pub floor : after.floor ≡ before.floor
  pub there : (d : Bool) (i X : ℕ) → side d i ≡ s → after.cap d i X ≡ before.cap d i (without (count before.floor d i) X p)
  pub elsewhere : (d : Bool) (i X : ℕ) → (side d i ≢ s) → after.cap d i X ≡ before.cap d i X

-- a closing that is not refused closes its position, whatever was closed before
abbrev pub ClosingCloses : Type 0
ClosingCloses =
    (M : Meaning) (closed : List ℕ) (s p : ℕ) → sides M.floor ≤ length closed → close_judged M.floor s p ≡ Ok tt
    → Closes s p (with_closings (listed closed) M) (with_closings (listed (closed_after M.floor s p closed)) M)

-- the caps of side s are those below, but no higher than c, whatever ceiling it had; nothing else changes
pub record Lowers (s c : ℕ) (below before after : Meaning) : Type 0 where
  pub floor : after.floor ≡ before.floor
  pub there : (d : Bool) (i X : ℕ) → side d i ≡ s → after.cap d i X ≡ min (below.cap d i X) c
  pub elsewhere : (d : Bool) (i X : ℕ) → (side d i ≢ s) → after.cap d i X ≡ before.cap d i X

-- a ceiling that is not refused bounds its side, in place of the one before
abbrev pub CeilingBounds : Type 0
CeilingBounds =
    (M : Meaning) (ceilings : List ℕ) (s c : ℕ) → sides M.floor ≤ length ceilings → ceiling_judged M.floor s c ≡ Ok tt
    → Lowers s c M (with_ceilings (λ t. slice_index ceilings t) M) (with_ceilings (λ t. slice_index (ceilings_after M.floor s c ceilings) t) M)
