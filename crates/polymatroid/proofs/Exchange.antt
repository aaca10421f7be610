-- Exchanges on one side keep the trays within the caps.
use Rattle.std.proofs.Common.{◌≡◌, ℕ, ◌+◌, ◌^◌, ◌<◌, ◌≤◌, cond, List, [], ◌∷◌, refl, inl, inr, arith}
use lib.Bits.{bit_and, and_lt}
use Rattle.std.specs.List.{AllByRecursion}
use Rattle.std.proofs.lemmas.Bool.Decides.{nat_tests}
use Rattle.std.proofs.lemmas.Bool.{cases_lt}
use Rattle.polymatroid.specs.Sets.{has}
use Rattle.polymatroid.specs.Side.{load, In, Out, Caps, Within, Tight, tight_set, plus, minus, moved}
use Rattle.polymatroid.specs.Exchange.{Exchange, exchanged, after, Sound, Ends, Clear, InTurn, ExchangesKeep}
use Rattle.polymatroid.proofs.Codes.{has_and, has_past}
use Rattle.polymatroid.proofs.Side.{load_same, load_plus_any, load_minus_any, uncross_and}
use Rattle.polymatroid.proofs.Room.{room_but_le, full_tight}

-- what a set carries after trays went from g to h, each on the side or not
pub load_moved : (w : ℕ → ℕ) (h g n k X : ℕ) → X < 2 ^ k → (h < k → h ≡ g → ⊥) → (g < k → n ≤ w g)
    → load (moved w h g n) k X + cond (has X g) n 0 ≡ load w k X + cond (has X h) n 0
unfolding moved plus
load_moved w h g n k X l ne c =
    let a = load_plus_any w h n k X l in
    let e : g < k → n ≤ plus w h n g = λ q. let r = c q in grind (arith, nat_tests) in
    let b = load_minus_any (plus w h n) g n k X l e in
    omega arith

-- the trays v are those of w at each position of Y
unfoldable pub SameOn : ℕ → (ℕ → ℕ) → (ℕ → ℕ) → ℕ → Type 0
SameOn k v w Y = (p : ℕ) → p < k → In Y p → v p ≡ w p

same_self : (k : ℕ) (w : ℕ → ℕ) (Y : ℕ) → SameOn k w w Y
unfolding SameOn
same_self k w Y p l i = refl

-- then each part of Y carries the same
same_load : (k : ℕ) (v w : ℕ → ℕ) (X Y : ℕ) → SameOn k v w Y → load v k (bit_and X Y) ≡ load w k (bit_and X Y)
unfolding SameOn
same_load k v w X Y same =
    load_same v w k (bit_and X Y) (bit_and X Y)
    (λ p l. let a = has_and X Y p in let b = same p l in grind arith)

same_load_all : (k : ℕ) (v w : ℕ → ℕ) (Y : ℕ) → SameOn k v w Y → load v k Y ≡ load w k Y
unfolding SameOn
same_load_all k v w Y same = load_same v w k Y Y (λ p q. let b = same p q in grind arith)

-- trays moved outside of Y
still : (k : ℕ) (w v : ℕ → ℕ) (h g n Y : ℕ) → Out Y h → Out Y g → SameOn k v w Y → SameOn k (moved v h g n) w Y
unfolding SameOn moved plus minus
still k w v h g n Y a b same p l i = let q = same p l i in grind (arith, nat_tests)

module _ (k : ℕ) (cap w : ℕ → ℕ) (n u v : ℕ) where
  S : ℕ → ℕ
  S p = tight_set k cap w p

  -- exchanges that a tight set is clear of leave it alone
  pub all_still : (p : ℕ) (ss : List Exchange) → Clear k cap w p u v → AllByRecursion (λ t. Clear k cap w p t.up t.down) ss
      → SameOn k (after n u v ss w) w (tight_set k cap w p)
  unfolding exchanged
  all_still p [] c a = still k w w u v n (tight_set k cap w p) c.0 c.1 (same_self k w (tight_set k cap w p))
  all_still p (s ∷ ss) c a =
      still k w (after n u v ss w) s.up s.down n (tight_set k cap w p) a.0.0 a.0.1 (all_still p ss c a.1)

  module _ (caps : Caps k cap) (fits : Within k cap w) where
    -- one exchange, after others that left its tight set alone
    one : (x : ℕ → ℕ) (s : Exchange) → Within k cap x → Sound k cap w n s → SameOn k x w (tight_set k cap w s.up)
        → Within k cap (moved x s.up s.down n)
    unfolding SameOn
    one x s fits' o same X l =
        let Y : ℕ = tight_set k cap w s.up in
        let h : ℕ = s.up in
        let g : ℕ = s.down in
        let c : n ≤ x g = omega (arith, same g o.down_on o.member, o.carries) in
        let m = load_moved x h g n k X l (λ _. o.apart) (λ _. c) in
        let y = full_tight k cap caps w fits h o.up_on o.full in
        let t : Tight k cap x Y =
        record { set = y.0.set; reached = omega (arith, y.0.reached, same_load_all k x w Y same) } in
        let Z : ℕ = bit_and X Y in
        let z : Z < 2 ^ k = and_lt k X Y l y.0.set in
        let b = uncross_and k cap caps x fits' X Y l t in
        let e = same_load k x w X Y same in
        let f = fits' X l in
        let r : In X h → Out X g → load w k Z + n ≤ cap Z =
        λ i j.
        let at_h = has_and X Y h in
        let at_g = has_and X Y g in
        let i' = y.1 in
        omega (arith, room_but_le k cap caps w fits h g Z z (grind arith) (grind arith), o.amount) in
        grind arith

    -- trays put at u and taken from v
    ends_keep : Ends k cap w n u v → Within k cap (moved w u v n)
    ends_keep o X l =
        let m = load_moved w u v n k X l o.apart o.carries in
        let f = fits X l in
        let r : In X u → Out X v → load w k X + n ≤ cap X =
        λ i j.
        elim (cases_lt u k) [
          | inl q ↦ omega (arith, room_but_le k cap caps w fits u v X l i j, o.amount q)
          | inr q ↦ let z = has_past k X u l q in absurd (grind arith)
        ] in
        grind arith

    pub all_keep : (ss : List Exchange) → Ends k cap w n u v → AllByRecursion (Sound k cap w n) ss → InTurn k cap w u v ss
        → Within k cap (after n u v ss w)
    unfolding exchanged
    all_keep [] d o i = ends_keep d
    all_keep (s ∷ ss) d o i =
        one (after n u v ss w) s (all_keep ss d o.1 i.2) o.0 (all_still s.up ss i.0 i.1)

pub exchanges_keep : ExchangesKeep
exchanges_keep k cap w n u v ss m = all_keep k cap w n u v m.caps m.fits ss m.ends m.sound m.turn
