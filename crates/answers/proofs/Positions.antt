-- The lanes of a side, found one after another in lane order.
use Rattle.std.proofs.Common.{◌≡◌, ℕ, ◌+◌, ◌*◌, ◌<◌, ◌≤◌, true, List, [], ◌∷◌, ◌++◌, map, length, get_or, set, vec_items, vec_len, sym, ap, ◌∙◌, subst, inl, inr, add-one, arith, below_more, length-set}
use Rattle.std.proofs.lemmas.List.{get_or_read, get_or_at, get_or_append_left, length_push, get_or-set_same, get_or-set_other}
use Rattle.std.proofs.lemmas.Bool.{cases_eq, eq-eqb, ne_eqb}
use Rattle.floor.specs.Numbers.{most_on_side}
use Rattle.floor.specs.Floor.{end_of, station_of, on, place, lane_at, width}
use Rattle.floor.proofs.Places.{place_none, place_on, place_off, place_below, lane_at_is, lane_at_below}
use Rattle.plantformat.specs.declared.Head.{Head}
use Rattle.plantformat.specs.declared.Lane.{Lane}
use Rattle.plantformat.specs.Records.{Limit, lane, lane_end, floor_of}
use Rattle.plantformat.specs.Rules.{Rules, keeps}
use Rattle.plantformat.specs.Numbers.{top_lane}
use Rattle.plantformat.proofs.Tests.{keeps_rules}
use Rattle.plantformat.proofs.Lawful.{own_at_low}
use Rattle.limits.specs.Told.{told}
use Rattle.answers.specs.Content.{file_meaning}
use Rattle.answers.specs.Answers.{Lists, owns}
use Rattle.answers.specs.declared.file_plant.FilePlant.{FilePlant}

-- the first n positions of a side stand in xs, once the lanes below e have been looked at
abbrev pub Found : Head → List Lane → ℕ → List ℕ → ℕ → ℕ → Type 0
Found h ls s xs n e =
    (n ≡ place (floor_of h ls) (end_of s) (station_of s) e)
    × ((p : ℕ) → p < n → get_or xs p 0 ≡ lane_at (floor_of h ls) (end_of s) (station_of s) p)
    × (length xs ≡ most_on_side)

module _ (h : Head) (ls : List Lane) (s : ℕ) where
  pub none_found : (xs : List ℕ) → length xs ≡ most_on_side → Found h ls s xs 0 0
  none_found xs long = (sym (place_none (floor_of h ls) (end_of s) (station_of s)), λ p l. absurd (omega arith), long)

  -- lane e lies on the side if its end is at the side's station
  on_side : (e : ℕ) → lane_end (end_of s) (lane ls e) ≡ station_of s → on (floor_of h ls) (end_of s) (station_of s) e ≡ true
  on_side e at = eq-eqb _ _ at

  pub found_on : (xs : List ℕ) (n e : ℕ) → Found h ls s xs n e → e < length ls → n < most_on_side
      → lane_end (end_of s) (lane ls e) ≡ station_of s → Found h ls s (set xs n e) (n + 1) (e + 1)
  found_on xs n e f l room at = let o = on_side e at in (
    ap (λ v. v + 1) f.0 ∙ sym (place_on (floor_of h ls) (end_of s) (station_of s) e o)
        ∙ ap (place (floor_of h ls) (end_of s) (station_of s)) (sym (add-one e)),
    λ p m. elim (cases_eq p n) [
      | inl q ↦
          ap (λ v. get_or (set xs n e) v 0) q ∙ get_or-set_same xs n e 0 (omega (arith, f.2))
          ∙ sym (lane_at_is (floor_of h ls) (end_of s) (station_of s) e p l o (sym (q ∙ f.0)))
      | inr q ↦ get_or-set_other xs n p e 0 q ∙ f.1 p (omega arith)
    ],
    length-set xs n e ∙ f.2,
  )

  pub found_off : (xs : List ℕ) (n e : ℕ) → Found h ls s xs n e
      → (lane_end (end_of s) (lane ls e) ≡ station_of s → ⊥) → Found h ls s xs n (e + 1)
  found_off xs n e f at =
      let o = ne_eqb _ _ at in
      (f.0 ∙ sym (ap (place (floor_of h ls) (end_of s) (station_of s)) (add-one e) ∙ place_off (floor_of h ls) (end_of s) (station_of s) e o), f.1, f.2)

  module _ (ks : List Limit) (kept : keeps h ls ks ≡ true) (side_on : s < 2 * h.stations) where
    -- there is room for one more
    pub room_left : (xs : List ℕ) (n e : ℕ) → Found h ls s xs n e → e < length ls → lane_end (end_of s) (lane ls e) ≡ station_of s
        → n < most_on_side
    room_left xs n e f l at =
        omega (arith, f.0, (keeps_rules h ls ks kept).narrow s side_on, place_below (floor_of h ls) (end_of s) (station_of s) e l (on_side e at))

    -- once every lane has been looked at, the side's lanes are all there
    pub lists_all : (xs : List ℕ) (n e : ℕ) → Found h ls s xs n e → e ≡ length ls → Lists (floor_of h ls) s xs n
    lists_all xs n e f end =
        let g = subst (Found h ls s xs n) end f in
        record {
          few = omega (arith, g.0, (keeps_rules h ls ks kept).narrow s side_on);
          all = g.0;
          each = λ p l. g.1 p (omega (arith, g.0));
        }

-- the lane at a position of a side is a lane of the floor, and its own cap is low
module _ (f : FilePlant) (s : ℕ) (lanes : List ℕ) (k : ℕ) (lists : Lists (file_meaning f).floor s lanes k) (p : ℕ) (there : p < k) where
  rules : Rules f.head (vec_items f.lanes) (map told (vec_items f.limits))
  rules = keeps_rules f.head (vec_items f.lanes) (map told (vec_items f.limits)) f.kept

  inside : p < width (file_meaning f).floor s
  inside = omega (arith, lists.all)

  pub number_below : get_or lanes p 0 < vec_len f.lanes
  number_below =
      omega (arith, lists.each p inside, lane_at_below (file_meaning f).floor (end_of s) (station_of s) p inside, f.lanes.ok.0)

  pub own_is : (x : Lane) → x ≡ get_or (vec_items f.lanes) (get_or lanes p 0) x → x.own ≡ owns f s p
  own_is x r =
      ap (λ (l : Lane). l.own)
      (get_or_read (vec_items f.lanes) (get_or lanes p 0) x (omega (arith, number_below, f.lanes.ok.0)) r (record { from = 0; to = 0; own = 0 })
      ∙ ap (lane (vec_items f.lanes)) (lists.each p inside))

  pub own_low : owns f s p ≤ top_lane
  own_low = own_at_low f.head (vec_items f.lanes) (map told (vec_items f.limits)) rules (end_of s) (station_of s) p inside

-- one own cap more behind the others
pub owned_push : (f : FilePlant) (s : ℕ) (lanes : List ℕ) (k : ℕ) (lists : Lists (file_meaning f).floor s lanes k) (xs ys : List ℕ) (n : ℕ) (x : Lane)
    → n < k → (length xs ≡ n) × ((p : ℕ) → p < n → get_or xs p 0 ≡ owns f s p) → x ≡ get_or (vec_items f.lanes) (get_or lanes n 0) x
    → ys ≡ xs ++ x.own ∷ [] → (length ys ≡ n + 1) × ((p : ℕ) → p < n + 1 → get_or ys p 0 ≡ owns f s p)
owned_push f s lanes k lists xs ys n x there so_far read pushed = (
  ap length pushed ∙ length_push xs x.own ∙ ap (λ v. v + 1) so_far.0,
  below_more (λ p. get_or ys p 0 ≡ owns f s p) n
      (λ p l. ap (λ zs. get_or zs p 0) pushed ∙ get_or_append_left xs (x.own ∷ []) 0 p (omega (arith, so_far.0)) ∙ so_far.1 p l)
      (ap (λ zs. get_or zs n 0) pushed ∙ get_or_at xs x.own [] 0 n so_far.0 ∙ own_is f s lanes k lists n there x read),
)
