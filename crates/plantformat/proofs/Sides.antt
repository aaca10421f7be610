-- How many lanes a side has when lanes are added to a floor.
use Rattle.std.proofs.Common.{◌≡◌, ℕ, zero, suc, ◌+◌, ◌≤◌, Bool, cond, eqb, List, [], ◌∷◌, ◌++◌, length, refl, ap, ◌∙◌, add-one, arith}
use Rattle.std.proofs.lemmas.List.{get_or_append_left, get_or_at, length-append, length_push}
use Rattle.floor.proofs.Places.{place_rises}
use Rattle.floor.specs.Floor.{on, place, count}
use Rattle.plantformat.specs.declared.Head.{Head}
use Rattle.plantformat.specs.declared.Lane.{Lane}
use Rattle.plantformat.specs.Records.{lane, lane_end, floor_of}

module _ (h : Head) (ls more : List Lane) (d : Bool) (i : ℕ) where
  -- lanes that come later change no place
  pub place_front : (e : ℕ) → e ≤ length ls → place (floor_of h (ls ++ more)) d i e ≡ place (floor_of h ls) d i e
  unfolding place
  place_front zero l = refl
  place_front (suc e) l =
      let ih = place_front e (omega arith) in
      let q : lane (ls ++ more) e ≡ lane ls e = get_or_append_left ls more _ e (omega arith) in
      let r : on (floor_of h (ls ++ more)) d i e ≡ on (floor_of h ls) d i e = ap (λ (l : Lane). eqb (lane_end d l) i) q in
      cc

module _ (h : Head) (ls : List Lane) (l : Lane) (more : List Lane) (d : Bool) (i : ℕ) where
  -- the place after the lane
  pub place_after : place (floor_of h (ls ++ l ∷ more)) d i (suc (length ls)) ≡ count (floor_of h ls) d i + cond (eqb (lane_end d l) i) 1 0
  unfolding place
  place_after =
      let p = place_front h ls (l ∷ more) d i (length ls) (omega arith) in
      let q : lane (ls ++ l ∷ more) (length ls) ≡ l = get_or_at ls l more _ (length ls) refl in
      let r : on (floor_of h (ls ++ l ∷ more)) d i (length ls) ≡ eqb (lane_end d l) i = ap (λ (l : Lane). eqb (lane_end d l) i) q in
      cc

  -- a side has no fewer lanes when others come later
  pub count_grows : count (floor_of h ls) d i + cond (eqb (lane_end d l) i) 1 0 ≤ count (floor_of h (ls ++ l ∷ more)) d i
  count_grows =
      let p = place_after in
      let n : length (ls ++ l ∷ more) ≡ length ls + suc (length more) = length-append ls (l ∷ more) in
      omega (arith, place_rises (floor_of h (ls ++ l ∷ more)) d i (suc (length ls)) (length (ls ++ l ∷ more)) (omega arith))

-- with one lane more
pub count_push : (h : Head) (ls : List Lane) (l : Lane) (d : Bool) (i : ℕ)
    → count (floor_of h (ls ++ l ∷ [])) d i ≡ count (floor_of h ls) d i + cond (eqb (lane_end d l) i) 1 0
count_push h ls l d i =
    let n : length (ls ++ l ∷ []) ≡ suc (length ls) = length_push ls l ∙ add-one (length ls) in
    ap (place (floor_of h (ls ++ l ∷ [])) d i) n ∙ place_after h ls l [] d i
