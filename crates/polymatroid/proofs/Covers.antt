-- A set joined with the tight sets of the first exchanges of a list: what is left below its cap, and what it gains.
use Rattle.std.proofs.Common.{◌≡◌, ℕ, zero, suc, ◌+◌, ◌^◌, ◌<◌, ◌≤◌, cond, ◌⊎◌, List, [], ◌∷◌, length, drop, refl, inl, inr, arith}
use lib.Bits.{bit_and, bit_or, or_lt}
use Rattle.std.specs.List.{AllByRecursion}
use Rattle.std.proofs.lemmas.Bool.{cases_Bool}
use Rattle.std.proofs.ByRecursion.{All-get_or}
use Rattle.polymatroid.specs.Sets.{has}
use Rattle.polymatroid.specs.Side.{load, In, Out, Caps, Within, Tight, tight_set}
use Rattle.polymatroid.specs.Exchange.{Exchange, exchanged, after, ups, downs, Sound, Ends, Clear, InTurn}
use Rattle.polymatroid.specs.Critical.{nth}
use Rattle.polymatroid.proofs.Codes.{has_and, has_or}
use Rattle.polymatroid.proofs.Side.{uncross_or}
use Rattle.polymatroid.proofs.Room.{full_tight}
use Rattle.polymatroid.proofs.Exchange.{SameOn, load_moved, all_still}

pub out_from : (X p : ℕ) → (In X p → ⊥) → Out X p
out_from X p h = elim (cases_Bool (has X p)) [ inl y ↦ absurd (h y) | inr y ↦ y ]

module _ (k : ℕ) (cap : ℕ → ℕ) (caps : Caps k cap) (w : ℕ → ℕ) (fits : Within k cap w) (n u v : ℕ) where
  -- with the ends u and v
  unfoldable pub gain : List Exchange → ℕ → ℕ
  gain ss X = cond (has X u) n 0 + ups n ss X

  unfoldable pub loss : List Exchange → ℕ → ℕ
  loss ss X = cond (has X v) n 0 + downs n ss X

  module _ (ends : Ends k cap w n u v) where
    -- what a set carries after the move
    pub load_after : (ss : List Exchange) (X : ℕ) → X < 2 ^ k → AllByRecursion (Sound k cap w n) ss → InTurn k cap w u v ss
        → load (after n u v ss w) k X + loss ss X ≡ load w k X + gain ss X
    unfolding exchanged gain loss ups downs SameOn
    load_after [] X l o i = let m = load_moved w u v n k X l ends.apart ends.carries in omega arith
    load_after (s ∷ ss) X l o i =
        let ih = load_after ss X l o.1 i.2 in
        let q = all_still k cap w n u v s.up ss i.0 i.1 s.down o.0.down_on o.0.member in
        let m = load_moved (after n u v ss w) s.up s.down n k X l (λ _. o.0.apart) (λ _. omega (arith, o.0.carries)) in
        omega arith

  -- Z with the tight sets of the first q exchanges
  unfoldable pub cover : ℕ → List Exchange → ℕ → ℕ
  cover zero ss Z = Z
  cover (suc q) [] Z = Z
  cover (suc q) (s ∷ ss) Z = bit_or (cover q ss Z) (tight_set k cap w s.up)

  pub tight_of : (s : Exchange) → Sound k cap w n s → Tight k cap w (tight_set k cap w s.up) × In (tight_set k cap w s.up) s.up
  tight_of s o = full_tight k cap caps w fits s.up o.up_on o.full

  pub cover_set : (q : ℕ) (ss : List Exchange) (Z : ℕ) → Z < 2 ^ k → AllByRecursion (Sound k cap w n) ss → cover q ss Z < 2 ^ k
  unfolding cover
  cover_set zero ss Z l o = l
  cover_set (suc q) [] Z l o = l
  cover_set (suc q) (s ∷ ss) Z l o =
      or_lt k (cover q ss Z) (tight_set k cap w s.up) (cover_set q ss Z l o.1) (tight_of s o.0).0.set

  -- a cover has no more left below its cap
  pub cover_left : (q : ℕ) (ss : List Exchange) (Z : ℕ) → Z < 2 ^ k → AllByRecursion (Sound k cap w n) ss
      → cap (cover q ss Z) + load w k Z ≤ cap Z + load w k (cover q ss Z)
  unfolding cover
  cover_left zero ss Z l o = omega arith
  cover_left (suc q) [] Z l o = omega arith
  cover_left (suc q) (s ∷ ss) Z l o =
      omega (
        arith,
        cover_left q ss Z l o.1,
        uncross_or k cap caps w fits (cover q ss Z) (tight_set k cap w s.up) (cover_set q ss Z l o.1) (tight_of s o.0).0,
      )

  -- a set joined with one that has none of the positions gains and loses there what it did
  ups_joined : (Y X : ℕ) (ss : List Exchange) → AllByRecursion (λ t. Out Y t.up × Out Y t.down) ss → ups n ss (bit_or X Y) ≡ ups n ss X
  unfolding ups
  ups_joined Y X [] a = refl
  ups_joined Y X (s ∷ ss) a =
      let ih = ups_joined Y X ss a.1 in
      let h = has_or X Y s.up in
      let o = a.0.0 in
      grind arith

  downs_joined : (Y X : ℕ) (ss : List Exchange) → AllByRecursion (λ t. Out Y t.up × Out Y t.down) ss → downs n ss (bit_or X Y) ≡ downs n ss X
  unfolding downs
  downs_joined Y X [] a = refl
  downs_joined Y X (s ∷ ss) a =
      let ih = downs_joined Y X ss a.1 in
      let h = has_or X Y s.down in
      let o = a.0.1 in
      grind arith

  -- over all exchanges a cover gains as much as the set does over those behind the first q
  pub cover_gain : (q : ℕ) (ss : List Exchange) (Z : ℕ) → AllByRecursion (Sound k cap w n) ss → InTurn k cap w u v ss
      → gain ss (cover q ss Z) + loss (drop q ss) Z ≡ loss ss (cover q ss Z) + gain (drop q ss) Z
  unfolding cover gain loss ups downs
  cover_gain zero ss Z o i = omega arith
  cover_gain (suc q) [] Z o i = omega arith
  cover_gain (suc q) (s ∷ ss) Z o i =
      let ih = cover_gain q ss Z o.1 i.2 in
      let Y : ℕ = tight_set k cap w s.up in
      let C : ℕ = cover q ss Z in
      let a = ups_joined Y C ss i.1 in
      let b = downs_joined Y C ss i.1 in
      let at_u = has_or C Y u in
      let at_v = has_or C Y v in
      let at_up = has_or C Y s.up in
      let at_down = has_or C Y s.down in
      let iu = (tight_of s o.0).1 in
      let id = o.0.member in
      let cu = i.0.0 in
      let cv = i.0.1 in
      grind arith

  pub cover_keeps : (q : ℕ) (ss : List Exchange) (Z p : ℕ) → In Z p → In (cover q ss Z) p
  unfolding cover
  cover_keeps zero ss Z p h = h
  cover_keeps (suc q) [] Z p h = h
  cover_keeps (suc q) (s ∷ ss) Z p h =
      let ih = cover_keeps q ss Z p h in
      let a = has_or (cover q ss Z) (tight_set k cap w s.up) p in
      grind arith

  -- what a cover has, the set has, or the tight set of one of the first q
  pub cover_in : (q : ℕ) (ss : List Exchange) (Z p : ℕ) → In (cover q ss Z) p
      → In Z p ⊎ ((i : ℕ) × (i < q) × (i < length ss) × In (tight_set k cap w (nth k ss i).up) p)
  unfolding cover
  cover_in zero ss Z p h = inl h
  cover_in (suc q) [] Z p h = inl h
  cover_in (suc q) (s ∷ ss) Z p h =
      elim (cases_Bool (has (tight_set k cap w s.up) p)) [
        | inl y ↦ inr (0, omega arith, omega arith, y)
        | inr y ↦
            let a = has_or (cover q ss Z) (tight_set k cap w s.up) p in
            let b : In (cover q ss Z) p = grind arith in
            elim (cover_in q ss Z p b) [
              | inl z ↦ inl z
              | inr r ↦ inr (suc r.0, omega (arith, r.1), omega (arith, r.2), r.3)
            ]
      ]

  -- each exchange's tight set is clear of the ends and of the later exchanges
  pub turn_ends : (ss : List Exchange) (i : ℕ) → i < length ss → InTurn k cap w u v ss → Clear k cap w (nth k ss i).up u v
  turn_ends [] i l t = absurd (omega arith)
  turn_ends (s ∷ ss) zero l t = t.0
  turn_ends (s ∷ ss) (suc i) l t = turn_ends ss i (omega arith) t.2

  pub turn_later : (ss : List Exchange) (i j : ℕ) → i < j → j < length ss → InTurn k cap w u v ss
      → Clear k cap w (nth k ss i).up (nth k ss j).up (nth k ss j).down
  turn_later [] i j h l t = absurd (omega arith)
  turn_later (s ∷ ss) i zero h l t = absurd (omega arith)
  turn_later (s ∷ ss) zero (suc j) h l t =
      All-get_or (λ t. Clear k cap w s.up t.up t.down) ss j (record { up = k; down = k }) (omega arith) t.1
  turn_later (s ∷ ss) (suc i) (suc j) h l t = turn_later ss i j (omega arith) (omega arith) t.2

  pub turn_rest : (ss : List Exchange) (i : ℕ) → i < length ss → InTurn k cap w u v ss
      → AllByRecursion (λ t. Clear k cap w (nth k ss i).up t.up t.down) (drop (suc i) ss)
  turn_rest [] i l t = absurd (omega arith)
  turn_rest (s ∷ ss) zero l t = t.1
  turn_rest (s ∷ ss) (suc i) l t = turn_rest ss i (omega arith) t.2

  -- a part of a set that has none of the positions
  pub ups_none : (X Y : ℕ) (ss : List Exchange) → AllByRecursion (λ t. Out Y t.up × Out Y t.down) ss → ups n ss (bit_and X Y) ≡ 0
  unfolding ups
  ups_none X Y [] a = refl
  ups_none X Y (s ∷ ss) a =
      let ih = ups_none X Y ss a.1 in
      let h = has_and X Y s.up in
      let o = a.0.0 in
      grind arith

  pub downs_none : (X Y : ℕ) (ss : List Exchange) → AllByRecursion (λ t. Out Y t.up × Out Y t.down) ss → downs n ss (bit_and X Y) ≡ 0
  unfolding downs
  downs_none X Y [] a = refl
  downs_none X Y (s ∷ ss) a =
      let ih = downs_none X Y ss a.1 in
      let h = has_and X Y s.down in
      let o = a.0.1 in
      grind arith
