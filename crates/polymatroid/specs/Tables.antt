-- A table is tested lane by lane; the lowest broken law is named.
use Rattle.std.specs.Prelude.{◌≡◌, ℕ, zero, suc, ◌+◌, ◌^◌, ◌≤◌, Bool, true, cond, ◌&&◌, ◌||◌, ◌==◌, bit_or, nat_le}
use Rattle.polymatroid.specs.Sets.{has}
use Rattle.polymatroid.specs.Side.{Caps}
use Rattle.polymatroid.specs.Laws.{Empty, Grows, Bends}

-- every number below n passes
unfoldable pub every : ℕ → (ℕ → Bool) → Bool
every zero t = true
every (suc n) t = every n t && t n

-- lane p, if it is not in X, does not lower the cap of X
unfoldable pub rises_at : (ℕ → ℕ) → ℕ → ℕ → Bool
rises_at cap X p = has X p || nat_le (cap X) (cap (bit_or X (2 ^ p)))

-- different lanes p and q outside X bring no more together than each alone
unfoldable pub bends_at : (ℕ → ℕ) → ℕ → ℕ → ℕ → Bool
bends_at cap X p q =
    (has X p || (has X q || p == q))
    || nat_le (cap (bit_or (bit_or X (2 ^ q)) (2 ^ p)) + cap X) (cap (bit_or X (2 ^ p)) + cap (bit_or X (2 ^ q)))

unfoldable pub rises : ℕ → (ℕ → ℕ) → Bool
rises k cap = every (2 ^ k) (λ X. every k (λ p. rises_at cap X p))

unfoldable pub bows : ℕ → (ℕ → ℕ) → Bool
bows k cap = every (2 ^ k) (λ X. every k (λ p. every k (λ q. bends_at cap X p q)))

-- the lowest law the table breaks, or 0
unfoldable pub broken : ℕ → (ℕ → ℕ) → ℕ
broken k cap = cond (cap 0 == 0) (cond (rises k cap) (cond (bows k cap) 0 3) 2) 1

-- what the name of a law says
pub record Named (k : ℕ) (cap : ℕ → ℕ) : Type 0 where
  pub few : broken k cap ≤ 3
  pub kept : broken k cap ≡ 0 → Caps k cap
  pub passes : Caps k cap → broken k cap ≡ 0
  pub one : broken k cap ≡ 1 → Empty cap → ⊥
  pub two : broken k cap ≡ 2 → Empty cap × (Grows k cap → ⊥)
  pub three : broken k cap ≡ 3 → Empty cap × Grows k cap × (Bends k cap → ⊥)

abbrev pub TablesTested : Type 0
TablesTested = (k : ℕ) (cap : ℕ → ℕ) → Named k cap

-- each test decides its law, whether or not the other laws hold
abbrev pub TestsDecide : Type 0
TestsDecide =
    (k : ℕ) (cap : ℕ → ℕ)
    → (rises k cap ≡ true → Grows k cap) × (Grows k cap → rises k cap ≡ true)
    × (bows k cap ≡ true → Bends k cap) × (Bends k cap → bows k cap ≡ true)
