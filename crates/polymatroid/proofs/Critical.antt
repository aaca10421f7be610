-- A critical pair is no pair afterwards, and a new pair splices.
use Rattle.std.proofs.Common.{◌≡◌, ℕ, suc, ◌+◌, ◌^◌, ◌<◌, ◌≤◌, cond, ◌⊎◌, List, [], ◌∷◌, length, drop, refl, inl, inr, arith, drop-cons}
use lib.Bits.{bit_and, and_lt}
use Rattle.std.specs.List.{AllByRecursion}
use Rattle.std.proofs.lemmas.Bool.{cases_Bool, cases_lt, cases_eq, both_ways}
use Rattle.std.proofs.lemmas.List.{drop_all}
use Rattle.std.proofs.ByRecursion.{All-get_or}
use Rattle.polymatroid.specs.Sets.{has}
use Rattle.polymatroid.specs.Side.{load, In, Out, Caps, Within, Tight, tight_set, room_but}
use Rattle.polymatroid.specs.Exchange.{Exchange, after, ups, downs, Sound, Ends, InTurn, SideMove}
use Rattle.polymatroid.specs.Critical.{nth, Pairs, CriticalPairDies, NewPairSplices}
use Rattle.polymatroid.proofs.Codes.{has_and, has_past}
use Rattle.polymatroid.proofs.Side.{uncross_and, tight_set_in, tight_set_smallest}
use Rattle.polymatroid.proofs.Room.{room_but_le, room_but_at, room_but_full}
use Rattle.polymatroid.proofs.Exchange.{all_keep}
use Rattle.polymatroid.proofs.Covers.{out_from, gain, loss, load_after, cover, tight_of, cover_set, cover_left, cover_gain, cover_keeps, cover_in, turn_ends, turn_later, turn_rest, ups_none, downs_none}

module _ (k : ℕ) (cap : ℕ → ℕ) (caps : Caps k cap) (w : ℕ → ℕ) (fits : Within k cap w) (n u v : ℕ) where
  module _ (ends : Ends k cap w n u v) (ss : List Exchange) (sound : AllByRecursion (Sound k cap w n) ss) (turn : InTurn k cap w u v ss) where
    -- a set that gains, behind the first q, what is left below its cap: its cover is tight afterwards
    cover_tight : (q Z : ℕ) → Z < 2 ^ k → cap Z + loss k cap caps w fits n u v (drop q ss) Z ≤ load w k Z + gain k cap caps w fits n u v (drop q ss) Z
        → Tight k cap (after n u v ss w) (cover k cap caps w fits n u v q ss Z)
    cover_tight q Z l h =
        let C : ℕ = cover k cap caps w fits n u v q ss Z in
        let c = cover_set k cap caps w fits n u v q ss Z l sound in
        record {
          set = c;
          reached = omega (
            arith,
            cover_left k cap caps w fits n u v q ss Z l sound,
            cover_gain k cap caps w fits n u v q ss Z sound turn,
            load_after k cap caps w fits n u v ends ss C c sound turn,
            all_keep k cap w n u v caps fits ss ends sound turn C c,
          );
        }

    -- a set with e and without g that is tight afterwards leaves no room
    no_room : (e g Y : ℕ) → Tight k cap (after n u v ss w) Y → In Y e → Out Y g → room_but k cap (after n u v ss w) e g ≡ 0
    no_room e g Y t i o =
        omega (arith, t.reached, room_but_le k cap caps (after n u v ss w) (all_keep k cap w n u v caps fits ss ends sound turn) e g Y t.set i o)

    -- the ends, by a set that has just n left
    ends_die : (Z : ℕ) → Z < 2 ^ k → In Z u → Out Z v → cap Z ≤ load w k Z + n → room_but k cap (after n u v ss w) u v ≡ 0
    unfolding gain loss ups downs
    ends_die Z l x y e =
        let q : ℕ = length ss in
        let h : cap Z + loss k cap caps w fits n u v (drop q ss) Z ≤ load w k Z + gain k cap caps w fits n u v (drop q ss) Z =
        rw (drop_all q ss (omega arith)) (grind arith) in
        no_room u v (cover k cap caps w fits n u v q ss Z) (cover_tight q Z l h) (cover_keeps k cap caps w fits n u v q ss Z u x)
        (out_from (cover k cap caps w fits n u v q ss Z) v
        (λ c. elim (cover_in k cap caps w fits n u v q ss Z v c) [
          | inl b ↦ both_ways (has Z v) y b
          | inr r ↦ both_ways (has (tight_set k cap w (nth k ss r.0).up) v) (turn_ends k cap caps w fits n u v ss r.0 r.2 turn).1 r.3
        ]))

    -- an exchange c at i, by a set that has just n left
    pair_dies : (i : ℕ) (c : Exchange) → i < length ss → nth k ss i ≡ c → Sound k cap w n c
        → (X : ℕ) → X < 2 ^ k → In X c.up → Out X c.down → load w k X + n ≡ cap X
        → room_but k cap (after n u v ss w) c.up c.down ≡ 0
    unfolding gain loss ups downs
    pair_dies i c l here o X lX x y e =
        let S : ℕ = tight_set k cap w c.up in
        let t = tight_of k cap caps w fits n u v c o in
        let Z : ℕ = bit_and X S in
        let z = and_lt k X S lX t.0.set in
        let b = uncross_and k cap caps w fits X S lX t.0 in
        let r = rw here at (turn_rest k cap caps w fits n u v ss i l turn) in
        let d = rw here at (turn_ends k cap caps w fits n u v ss i l turn) in
        let at_up = has_and X S c.up in
        let at_down = has_and X S c.down in
        let at_u = has_and X S u in
        let at_v = has_and X S v in
        let a = ups_none k cap caps w fits n u v X S (drop (suc i) ss) r in
        let a' = downs_none k cap caps w fits n u v X S (drop (suc i) ss) r in
        let m = t.1 in
        let d0 = d.0 in
        let d1 = d.1 in
        let h : cap Z + loss k cap caps w fits n u v (drop i ss) Z ≤ load w k Z + gain k cap caps w fits n u v (drop i ss) Z =
        rw (drop-cons ss i (record { up = k; down = k }) l, here) (grind arith) in
        no_room c.up c.down (cover k cap caps w fits n u v i ss Z) (cover_tight i Z z h) (cover_keeps k cap caps w fits n u v i ss Z c.up (grind arith))
        (out_from (cover k cap caps w fits n u v i ss Z) c.down
        (λ q. elim (cover_in k cap caps w fits n u v i ss Z c.down q) [
          | inl b ↦ grind arith
          | inr r ↦
              let later = rw here at (turn_later k cap caps w fits n u v ss r.0 i r.1 l turn) in
              both_ways (has (tight_set k cap w (nth k ss r.0).up) c.down) later.1 r.3
        ]))

    -- the last exchange that takes trays from S
    last_down : (S : ℕ) (ts : List Exchange)
        → AllByRecursion (λ t. Out S t.down) ts
        ⊎ ((j : ℕ) × (j < length ts) × In S (nth k ts j).down × AllByRecursion (λ t. Out S t.down) (drop (suc j) ts))
    last_down S [] = inl tt
    last_down S (t ∷ ts) =
        elim (last_down S ts) [
          | inl a ↦ elim (cases_Bool (has S t.down)) [ inl y ↦ inr (0, omega arith, y, a) | inr y ↦ inl (y, a) ]
          | inr r ↦ inr (suc r.0, omega (arith, r.1), r.2, r.3)
        ]

    no_downs : (S : ℕ) (ts : List Exchange) → AllByRecursion (λ t. Out S t.down) ts → downs n ts S ≡ 0
    unfolding downs
    no_downs S [] a = refl
    no_downs S (t ∷ ts) a = let ih = no_downs S ts a.1 in let o = a.0 in grind arith

    in_pairs : (e g X : ℕ) → e < k → Tight k cap w X → In X e → In (tight_set k cap w e) g → Pairs k cap w e g
    in_pairs e g X l t x y =
        elim (cases_eq e g) [ inl q ↦ inl q | inr q ↦ inr (room_but_full k cap caps w fits e g l q y) ]

    -- e has a tight set X without g
    splices : (e g X : ℕ) → e < k → Tight k cap w X → In X e → Out X g → 0 < room_but k cap (after n u v ss w) e g
        → ((v < k) × Pairs k cap w e v)
        ⊎ ((i j : ℕ) × (i ≤ j) × (j < length ss) × Pairs k cap w e (nth k ss j).down × Pairs k cap w (nth k ss i).up g)
    unfolding cover gain loss
    splices e g X l t x y now =
        elim (cases_Bool (has S v)) [
          | inl z ↦ inl (on_side z, in_pairs e v X l t x z)
          | inr z ↦
              elim (last_down S ss) [
                | inl a ↦ absurd (by_tight S (cover_tight 0 S s.0.set (lossless 0 z a)) s.1 outside)
                | inr r ↦ inr (found r.0 r.1 r.2 (cover_tight (suc r.0) S s.0.set (lossless (suc r.0) z r.3)))
              ]
        ]
      where
        S : ℕ
        S = tight_set k cap w e

        s : Tight k cap w S × In S e
        s = tight_set_in k cap caps w fits e X t x

        outside : Out S g
        outside = out_from S g (λ h. both_ways (has X g) y (tight_set_smallest k cap caps w fits e X t x g h))

        on_side : In S v → v < k
        on_side z = elim (cases_lt v k) [ inl q ↦ q | inr q ↦ absurd (both_ways (has S v) (has_past k S v s.0.set q) z) ]

        by_tight : (Y : ℕ) → Tight k cap (after n u v ss w) Y → In Y e → Out Y g → ⊥
        by_tight Y t' a b = omega (arith, no_room e g Y t' a b)

        lossless : (q : ℕ) → Out S v → AllByRecursion (λ t. Out S t.down) (drop q ss) → cap S + loss k cap caps w fits n u v (drop q ss) S ≤ load w k S + gain k cap caps w fits n u v (drop q ss) S
        lossless q z a = let d = no_downs S (drop q ss) a in let c = s.0.reached in grind arith

        found : (j : ℕ) → j < length ss → In S (nth k ss j).down → Tight k cap (after n u v ss w) (cover k cap caps w fits n u v (suc j) ss S)
            → (i j : ℕ) × (i ≤ j) × (j < length ss) × Pairs k cap w e (nth k ss j).down × Pairs k cap w (nth k ss i).up g
        found j lj m t' =
            elim (cases_Bool (has (cover k cap caps w fits n u v (suc j) ss S) g)) [
              | inl h ↦
                  elim (cover_in k cap caps w fits n u v (suc j) ss S g h) [
                    | inl b ↦ absurd (both_ways (has S g) outside b)
                    | inr r ↦
                        let o : Sound k cap w n (nth k ss r.0) =
                        All-get_or (Sound k cap w n) ss r.0 (record { up = k; down = k }) r.2 sound in
                        let b = tight_of k cap caps w fits n u v (nth k ss r.0) o in (
                          r.0,
                          j,
                          omega (arith, r.1),
                          lj,
                          in_pairs e (nth k ss j).down X l t x m,
                          in_pairs (nth k ss r.0).up g (tight_set k cap w (nth k ss r.0).up) o.up_on b.0 b.1 r.3,
                        )
                  ]
              | inr h ↦ absurd (by_tight (cover k cap caps w fits n u v (suc j) ss S) t' (cover_keeps k cap caps w fits n u v (suc j) ss S e s.1) h)
            ]

pub critical_pair_dies : CriticalPairDies
critical_pair_dies k cap w n u v ss m = (at_ends, at_pair)
  where
    at_ends : u < k → room_but k cap w u v ≡ n → room_but k cap (after n u v ss w) u v ≡ 0
    at_ends l e =
        let a = room_but_at k cap m.caps w m.fits u v l (m.ends.apart l) in
        ends_die k cap m.caps w m.fits n u v m.ends ss m.sound m.turn a.0 a.1 a.2 a.3 (omega (arith, a.4))

    at_pair : (i : ℕ) → i < length ss → room_but k cap w (nth k ss i).up (nth k ss i).down ≡ n
        → room_but k cap (after n u v ss w) (nth k ss i).up (nth k ss i).down ≡ 0
    at_pair i l e =
        let o : Sound k cap w n (nth k ss i) = All-get_or (Sound k cap w n) ss i (record { up = k; down = k }) l m.sound in
        let a = room_but_at k cap m.caps w m.fits (nth k ss i).up (nth k ss i).down o.up_on o.apart in
        pair_dies k cap m.caps w m.fits n u v m.ends ss m.sound m.turn i (nth k ss i) l refl o
        a.0 a.1 a.2 a.3 (omega (arith, a.4))

pub new_pair_splices : NewPairSplices
new_pair_splices k cap w n u v ss m e g l not_yet now =
    elim now [
      | inl q ↦ absurd (not_yet (inl q))
      | inr r ↦
          let a = room_but_at k cap m.caps w m.fits e g l (λ q. not_yet (inl q)) in
          let z : room_but k cap w e g ≡ 0 =
          elim (cases_lt 0 (room_but k cap w e g)) [ inl q ↦ absurd (not_yet (inr q)) | inr q ↦ omega arith ] in
          splices k cap m.caps w m.fits n u v m.ends ss m.sound m.turn e g a.0 l
          (record { set = a.1; reached = omega (arith, a.4) }) a.2 a.3 r
    ]

-- what a set carries after a move
pub load_move : (k : ℕ) (cap w : ℕ → ℕ) (n u v : ℕ) (ss : List Exchange) → SideMove k cap w n u v ss → (X : ℕ) → X < 2 ^ k
    → load (after n u v ss w) k X + (cond (has X v) n 0 + downs n ss X) ≡ load w k X + (cond (has X u) n 0 + ups n ss X)
unfolding gain loss
load_move k cap w n u v ss m X l = load_after k cap m.caps w m.fits n u v m.ends ss X l m.sound m.turn
