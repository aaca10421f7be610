-- A turn can be left out of a walk.
use Rattle.std.proofs.Common.{◌≡◌, ℕ, ◌<◌, true, false, sym, refl, ◌∙◌, inl, inr, arith}
use Rattle.std.proofs.lemmas.Bool.{cases_lt, cases_eq}
use Rattle.floor.specs.Floor.{place}
use Rattle.floor.specs.Meaning.{Meaning, Lawful}
use Rattle.network.specs.States.{State, Pole, Plus, Minus, at, lane_room, lane_room_but, amount, OnFloor, Step, Free}
use Rattle.network.specs.Plans.{Fits}
use Rattle.network.proofs.Rooms.{member_full, member_room, room_member, member_within}
use Rattle.network.proofs.Visits.{free_unless, open_free}
use Rattle.network.proofs.Mirror.{mirror, mirrored, lawful_mirror, fits_mirror, amount_mirror, at_mirror, step_back, ok_mirror}

module _ (M : Meaning) (laws : Lawful M) (f : ℕ → ℕ) (fits : Fits M f) (k : ℕ) (kin : k < M.floor.stations) where
  -- a lane h that is full, and steps to - e, has e full too, and steps to what e steps to
  full_on : (h e : ℕ) → h < M.floor.lanes → e < M.floor.lanes → M.floor.end true h ≡ k → M.floor.end true e ≡ k → lane_room M f true h ≡ 0 → 0 < lane_room_but M f true h e
      → (lane_room M f true e ≡ 0) × ((g : ℕ) → g < M.floor.lanes → M.floor.end true g ≡ k → 0 < lane_room_but M f true e g → 0 < f g → Step M f (Plus h) (Minus g))
  full_on h e lh le kh ke z r =
      let i = room_member M laws f fits true k kin h e lh kh z r in
      let ze = member_full M laws f fits true k kin h lh kh z e ke i in (
        ze,
        (λ g lg kg q c. record {
          ok_from = lh;
          ok_to = lg;
          meet = kh ∙ sym kg;
          some =
              elim (cases_eq h g) [
                | inl s ↦ inr s
                | inr s ↦
                    let j = room_member M laws f fits true k kin e g le ke ze q in
                    let b = member_within M laws f fits true k kin h e lh kh z i (place M.floor true k g) j in
                    inl (omega (arith, member_room M laws f fits true k kin h g lh kh kg s b))
              ];
        }),
      )

-- d steps to - e, and + e to z: then d steps to z
pub skip_in : (M : Meaning) → Lawful M → (f : ℕ → ℕ) → Fits M f → (d z : State) (e : ℕ) → OnFloor M d → OnFloor M z → e < M.floor.lanes
    → at M true d ≡ M.floor.end true e → M.floor.end true e ≡ at M false z → 0 < amount M f d (Minus e) → 0 < amount M f (Plus e) z → Step M f d z
skip_in M laws f fits d z e od oz le p q a b = by d od p a
  where
    free : Free M f z
    free = free_unless M f (Plus e) z b refl

    -- d is full
    full_pair : (h : ℕ) → h < M.floor.lanes → M.floor.end true h ≡ M.floor.end true e → lane_room M f true h ≡ 0 → 0 < lane_room_but M f true h e
        → (z : State) → OnFloor M z → M.floor.end true e ≡ at M false z → 0 < amount M f (Plus e) z → Step M f (Plus h) z
    full_pair h lh kh n r (Pole false) oz q b = absurd (omega arith)
    full_pair h lh kh n r (Pole true) oz q b =
        absurd (omega (arith, (full_on M laws f fits (M.floor.end true e) (laws.rules.end_on true e le) h e lh le kh refl n r).0))
    full_pair h lh kh n r (Plus g) oz q b =
        absurd (omega (arith, (full_on M laws f fits (M.floor.end true e) (laws.rules.end_on true e le) h e lh le kh refl n r).0))
    full_pair h lh kh n r (Minus g) oz q b =
        (full_on M laws f fits (M.floor.end true e) (laws.rules.end_on true e le) h e lh le kh refl n r).1 g oz (sym q) (omega arith) (omega arith)

    by : (d : State) → OnFloor M d → at M true d ≡ M.floor.end true e → 0 < amount M f d (Minus e) → Step M f d z
    by (Pole c) od p a = absurd (omega arith)
    by (Plus h) od p a =
        elim (cases_lt 0 (lane_room M f true h)) [
          | inl o ↦ open_free M laws f fits (Plus h) z od oz (p ∙ q) o free
          | inr o ↦ full_pair h od p (omega arith) (omega arith) z oz q b
        ]
    by (Minus h) od p a = open_free M laws f fits (Minus h) z od oz (p ∙ q) (omega arith) free

-- d steps to + e, and - e to z: the mirror image
pub skip_out : (M : Meaning) → Lawful M → (f : ℕ → ℕ) → Fits M f → (d z : State) (e : ℕ) → OnFloor M d → OnFloor M z → e < M.floor.lanes
    → at M true d ≡ M.floor.end false e → M.floor.end false e ≡ at M false z → 0 < amount M f d (Plus e) → 0 < amount M f (Minus e) z → Step M f d z
skip_out M laws f fits d z e od oz le p q a b =
    step_back M f d z
    (skip_in (mirror M) (lawful_mirror M laws) f (fits_mirror M f fits) (mirrored z) (mirrored d) e (ok_mirror M z oz) (ok_mirror M d od) le
    (at_mirror M true z ∙ sym q) (sym p ∙ sym (at_mirror M false d)) (omega (arith, amount_mirror M f (Minus e) z)) (omega (arith, amount_mirror M f d (Plus e))))
