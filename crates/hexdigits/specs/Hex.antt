-- Bytes written as hex digits.
use Rattle.std.specs.Prelude.{◌≡◌, ℕ, ◌+◌, ◌-◌, ◌*◌, ◌/◌, ◌%◌, ◌<◌, cond, ◌&&◌, List, length, Some, None, Option, nat_le, slice_index}

-- the value of a digit, of which the letters are small
abbrev pub digit_value : ℕ → Option ℕ
digit_value b = cond (nat_le 48 b && nat_le b 57) (Some (b - 48)) (cond (nat_le 97 b && nat_le b 102) (Some (b - 87)) None)

-- two digits write a byte: its sixteens, and what is left
pub record Pair (high low byte : ℕ) : Type 0 where
  pub sixteens : digit_value high ≡ Some (byte / 16)
  pub ones : digit_value low ≡ Some (byte % 16)

-- digits write bytes: two for each, in order
pub record Writes (digits bytes : List ℕ) : Type 0 where
  pub two_each : length digits ≡ 2 * length bytes
  pub each : (k : ℕ) → k < length bytes → Pair (slice_index digits (2 * k)) (slice_index digits (2 * k + 1)) (slice_index bytes k)
