-- What setting a closing or a ceiling answers, and what is closed and what the ceilings are afterwards: a refusal changes nothing.
use Rattle.std.specs.Prelude.{ℕ, ◌^◌, Bool, cond, ◌&&◌, List, Ok, Err, Result, bit_or, nat_le, nat_lt, slice_index, slice_set}
use Rattle.plant.specs.Refusals.{refused}
use Rattle.plant.specs.declared.refusals.Reason.TheVariants as reason
use Rattle.plant.specs.declared.refusals.Refusal.{Refusal}
use Rattle.floor.specs.Numbers.{top_cap}
use Rattle.floor.specs.Floor.{Floor, sides, width}

-- ---- closings

-- the side is on the floor, and the position on the side
abbrev pub can_close : Floor → ℕ → ℕ → Bool
can_close F s p = nat_lt s (sides F) && nat_lt p (width F s)

-- closing a position is refused where it is not on the floor
abbrev pub close_judged : Floor → ℕ → ℕ → Result (Unit {0}) Refusal
close_judged F s p = cond (can_close F s p) (Ok tt) (Err (refused reason.OffFloor 0))

-- the closed positions of the side with one more, or those of before where closing it is refused
abbrev pub closed_after : Floor → ℕ → ℕ → List ℕ → List ℕ
closed_after F s p closed = cond (can_close F s p) (slice_set closed s (bit_or (slice_index closed s) (2 ^ p))) closed

-- ---- ceilings

-- a ceiling is refused where the side is not on the floor, and then where it is above the top of all caps
abbrev pub ceiling_judged : Floor → ℕ → ℕ → Result (Unit {0}) Refusal
ceiling_judged F s c =
    cond (nat_lt s (sides F)) (cond (nat_le c top_cap) (Ok tt) (Err (refused reason.Ceiling 0))) (Err (refused reason.OffFloor 0))

-- the ceilings with that of the side replaced, or those of before where setting it is refused
abbrev pub ceilings_after : Floor → ℕ → ℕ → List ℕ → List ℕ
ceilings_after F s c ceilings = cond (nat_lt s (sides F) && nat_le c top_cap) (slice_set ceilings s c) ceilings
