-- The bytes of the stations tell which are near, and with them the bytes of the lanes.
use Rattle.std.proofs.Common.{◌≡◌, ℕ, ◌<◌, Bool, true, false, cond, not, ◌&&◌, eqb, List, get_or, ap, ◌∙◌, arith}
use Rattle.std.proofs.lemmas.Bool.{eq-eqb, ne_eqb}
use Rattle.floor.specs.Meaning.{Meaning}
use Rattle.labelling.specs.Table.{Mark}
use Rattle.labelling.specs.Near.{near, unlabelled}
use Rattle.cuts.specs.Cut.{near_byte, byte_near, cut_byte, CutBytes}

-- a byte that says a test says the same when it is read
told : (b : Bool) (n : ℕ) → n ≡ cond b 1 0 → eqb n 1 ≡ b
told true n q = eq-eqb n 1 q
told false n q = ne_eqb n 1 (λ r. omega (arith, q, r))

lane_told : (M : Meaning) (f : ℕ → ℕ) (bytes : List ℕ) (t : List Mark) → ((i : ℕ) → i < M.floor.stations → get_or bytes i 0 ≡ near_byte M f t i)
    → (e : ℕ) → ((d : Bool) → M.floor.end d e < M.floor.stations) → cut_byte M (byte_near bytes) t e ≡ cut_byte M (near M f t) t e
lane_told M f bytes t h e on =
    let is : (d : Bool) → byte_near bytes (M.floor.end d e) ≡ near M f t (M.floor.end d e) =
    λ d. told (near M f t (M.floor.end d e)) (get_or bytes (M.floor.end d e) 0) (h (M.floor.end d e) (on d)) in
    λ j. cond (is false j && not (is true j)) (cond (unlabelled t e) 85 76) 45

pub cut_bytes : CutBytes
cut_bytes M f bytes t is h = (
  λ i l. h i l ∙ ap (λ t. near_byte M f t i) is,
  λ e on. lane_told M f bytes t h e on ∙ ap (λ t. cut_byte M (near M f t) t e) is,
)
