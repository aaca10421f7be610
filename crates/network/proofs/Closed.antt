-- A labelling that can label no more: which stations are near, which lanes are full, and what their tight sets hold.
use Rattle.std.proofs.Common.{◌≡◌, ℕ, ◌<◌, Bool, true, false, ◌||◌, sym, ap, ◌∙◌, inl, inr, arith}
use Rattle.std.proofs.lemmas.Bool.{cases_lt, cases_Bool, cases_eq, both_ways, or_left, or_right, or_cases}
use Rattle.polymatroid.specs.Side.{In}
use Rattle.floor.specs.Floor.{place}
use Rattle.floor.specs.Meaning.{Meaning, Lawful}
use Rattle.network.specs.Plans.{Fits}
use Rattle.network.specs.States.{State, Pole, Plus, Minus, at, lane_room, OnFloor, Turn, Step, Residual, Open, Free}
use Rattle.network.specs.Finished.{LabelledState, LabelledLane, Closed}
use Rattle.network.proofs.Rooms.{tight_at, tight_there, member_full, member_room, room_member, member_within, member_carries}
use Rattle.network.proofs.Loads.{minus_carries}
use Rattle.network.proofs.Visits.{open_unless, open_free}
use Rattle.network.proofs.Found.{turn?}
use Rattle.network.proofs.SpliceIn.{plus_departs}

module _ (M : Meaning) (laws : Lawful M) (f : ℕ → ℕ) (fits : Fits M f) (pl mi near : ℕ → Bool) (cl : Closed M f pl mi near) where
  -- a step from a labelled state leads to a labelled lane
  pub step_labels : (x y : State) → LabelledState pl mi x → Step M f x y → LabelledLane pl mi y
  step_labels x y l s =
      elim (turn? x y) [
        | inl t ↦ turned x y l t
        | inr t ↦
            elim s.some [
              | inl h ↦ cl.closed x y l (record { ok_from = s.ok_from; ok_to = s.ok_to; meet = s.meet; some = h; straight = t })
              | inr h ↦ absurd (t h)
            ]
      ]
    where
      turned : (x y : State) → LabelledState pl mi x → Turn x y → LabelledLane pl mi y
      turned (Pole b) y l t = absurd t
      turned (Plus e) (Pole c) l t = absurd t
      turned (Plus e) (Plus g) l t = absurd t
      turned (Plus e) (Minus g) l t = or_left (pl g) (mi g) (ap pl (sym t) ∙ l)
      turned (Minus e) (Pole c) l t = absurd t
      turned (Minus e) (Plus g) l t = or_right (pl g) (mi g) (ap mi (sym t) ∙ l)
      turned (Minus e) (Minus g) l t = absurd t

  -- from a near station each free departure has its lane labelled
  near_labels : (y : State) → OnFloor M y → near (at M false y) ≡ true → Free M f y → LabelledLane pl mi y
  near_labels y oy n r =
      let a = cl.near_only (at M false y) n in
      step_labels a.0 y a.2 (open_free M laws f fits a.0 y a.1 oy a.4 a.3 r)

  -- the despatch is far
  pub despatch_far : near (M.floor.pole true) ≡ false
  despatch_far =
      elim (cases_Bool (near (M.floor.pole true))) [ inl y ↦ absurd (near_labels (Pole true) tt y tt) | inr y ↦ y ]

  pub stock_near : near (M.floor.pole false) ≡ true
  stock_near = cl.near_if (Pole false) tt tt tt

  -- a labelled state that arrives openly makes its station near
  opened_near : (x : State) → OnFloor M x → LabelledState pl mi x → Open M f x → near (at M true x) ≡ true
  opened_near x o l h = cl.near_if x o l h

  minus_carried : (e : ℕ) → e < M.floor.lanes → mi e ≡ true → 0 < f e
  minus_carried e le m =
      elim (cl.given (Minus e) le m) [
        | inl q ↦ let z : ◌≡◌ {A = ℕ} 0 1 = cc in absurd (omega arith)
        | inr c ↦ omega (arith, c.2.some, minus_carries M f c.0 e)
      ]

  -- a labelled lane leaves a near station
  pub label_near : (e : ℕ) → e < M.floor.lanes → (pl e || mi e) ≡ true → near (M.floor.end false e) ≡ true
  label_near e le h =
      elim (or_cases (pl e) (mi e) h) [
        | inl p ↦
            elim (cl.given (Plus e) le p) [
              | inl q ↦ let z : ◌≡◌ {A = ℕ} 0 1 = cc in absurd (omega arith)
              | inr c ↦
                  let g = c.2 in
                  ap near (sym g.meet) ∙ opened_near c.0 g.ok_from c.1 (open_unless M f c.0 (Plus e) g.some (plus_departs M f c.0 e))
            ]
        | inr m ↦ opened_near (Minus e) le m (minus_carried e le m)
      ]

  -- a lane into a near station that is not labelled, or comes from a far one, is empty
  pub back_empty : (e : ℕ) → e < M.floor.lanes → near (M.floor.end true e) ≡ true → near (M.floor.end false e) ≡ false → f e ≡ 0
  back_empty e le n r =
      elim (cases_lt 0 (f e))
      [ inl h ↦ absurd (both_ways (near (M.floor.end false e)) r (label_near e le (near_labels (Minus e) le n h))) | inr h ↦ omega arith ]

  pub unlabelled_empty : (e : ℕ) → e < M.floor.lanes → near (M.floor.end true e) ≡ true → (pl e || mi e) ≡ false → f e ≡ 0
  unlabelled_empty e le n r =
      elim (cases_lt 0 (f e)) [ inl h ↦ absurd (both_ways (pl e || mi e) r (near_labels (Minus e) le n h)) | inr h ↦ omega arith ]

  -- an unlabelled lane out of a near station is full there, and its tight set is unlabelled
  pub out_full : (e : ℕ) → e < M.floor.lanes → near (M.floor.end false e) ≡ true → (pl e || mi e) ≡ false → lane_room M f false e ≡ 0
  out_full e le n r =
      elim (cases_lt 0 (lane_room M f false e))
      [ inl h ↦ absurd (both_ways (pl e || mi e) r (near_labels (Plus e) le n h)) | inr h ↦ omega arith ]

  -- no - lane is in the tight set of an unlabelled lane out of the station that it leaves
  no_minus : (k e h : ℕ) → k < M.floor.stations → e < M.floor.lanes → h < M.floor.lanes → M.floor.end false e ≡ k → M.floor.end false h ≡ k → (pl e || mi e) ≡ false → mi h ≡ true
      → In (tight_at M f false k e) (place M.floor false k h) → ⊥
  no_minus k e h kin le lh ke kh r m i =
      let ne : e ≡ h → ⊥ = λ q. both_ways (pl e || mi e) r (or_right (pl e) (mi e) (ap mi q ∙ m)) in
      let room' = member_room M laws f fits false k kin e h le ke kh ne i in
      let c = minus_carried h lh m in
      both_ways (pl e || mi e) r
      (cl.closed (Minus h) (Plus e) m (record { ok_from = lh; ok_to = le; meet = kh ∙ sym ke; some = omega arith; straight = λ q. ne (sym q) }))

  pub out_tight : (k e g : ℕ) → k < M.floor.stations → e < M.floor.lanes → g < M.floor.lanes → M.floor.end false e ≡ k → M.floor.end false g ≡ k → near k ≡ true → (pl e || mi e) ≡ false
      → In (tight_at M f false k e) (place M.floor false k g) → (pl g || mi g) ≡ false
  out_tight k e g kin le lg ke kg n r i =
      elim (cases_Bool (pl g || mi g)) [
        | inl y ↦
            absurd (elim (or_cases (pl g) (mi g) y) [
              | inl p ↦
                  elim (cl.given (Plus g) lg p)
                  [ inl q ↦ let z : ◌≡◌ {A = ℕ} 0 1 = cc in omega arith | inr c ↦ by c.0 c.1 c.2 ]
              | inr m ↦ no_minus k e g kin le lg ke kg r m i
            ])
        | inr y ↦ y
      ]
    where
      full_e : lane_room M f false e ≡ 0
      full_e = out_full e le (ap near ke ∙ n) r

      full_g : lane_room M f false g ≡ 0
      full_g = member_full M laws f fits false k kin e le ke full_e g kg i

      by : (x : State) → LabelledState pl mi x → Residual M f x (Plus g) → ⊥
      by (Pole false) l c = omega (arith, c.some, full_g)
      by (Pole true) l c = omega (arith, c.some)
      by (Plus h) l c = omega (arith, c.some, full_g)
      by (Minus h) l c =
          let kh : M.floor.end false h ≡ k = c.meet ∙ kg in
          let j = room_member M laws f fits false k kin g h lg kg full_g (omega (arith, c.some)) in
          no_minus k e h kin le c.ok_from ke kh r l (member_within M laws f fits false k kin e g le ke full_e i (place M.floor false k h) j)

  -- a + lane into a far station is full there, and the other lanes of its tight set are labelled
  pub in_full : (e : ℕ) → e < M.floor.lanes → near (M.floor.end true e) ≡ false → pl e ≡ true → lane_room M f true e ≡ 0
  in_full e le n p =
      elim (cases_lt 0 (lane_room M f true e))
      [ inl h ↦ absurd (both_ways (near (M.floor.end true e)) n (opened_near (Plus e) le p h)) | inr h ↦ omega arith ]

  pub in_tight_set : (k e g : ℕ) → k < M.floor.stations → e < M.floor.lanes → g < M.floor.lanes → M.floor.end true e ≡ k → M.floor.end true g ≡ k → near k ≡ false → pl e ≡ true
      → In (tight_at M f true k e) (place M.floor true k g) → (pl g || mi g) ≡ true
  in_tight_set k e g kin le lg ke kg n p i =
      elim (cases_eq e g) [
        | inl q ↦ or_left (pl g) (mi g) (ap pl (sym q) ∙ p)
        | inr q ↦
            let full_e = in_full e le (ap near ke ∙ n) p in
            let r = member_room M laws f fits true k kin e g le ke kg q i in
            let c = member_carries M laws f fits true k kin e g le lg ke kg q full_e i in
            cl.closed (Plus e) (Minus g) p (record { ok_from = le; ok_to = lg; meet = ke ∙ sym kg; some = omega arith; straight = q })
      ]

  -- the full + lane whose tight set a labelled lane into a far station is in
  pub in_holder : (k e : ℕ) → k < M.floor.stations → e < M.floor.lanes → M.floor.end true e ≡ k → near k ≡ false → (pl e || mi e) ≡ true
      → (h : ℕ) × (h < M.floor.lanes) × (M.floor.end true h ≡ k) × (pl h ≡ true)
      × In (tight_at M f true k h) (place M.floor true k e)
  in_holder k e kin le ke n y =
      elim (or_cases (pl e) (mi e) y) [
        | inl p ↦ (e, le, ke, p, (tight_there M laws f fits true k kin e le ke (in_full e le (ap near ke ∙ n) p)).1)
        | inr m ↦
            elim (cl.given (Minus e) le m)
            [ inl q ↦ let z : ◌≡◌ {A = ℕ} 0 1 = cc in absurd (omega arith) | inr c ↦ by c.0 c.1 c.2 ]
      ]
    where
      by : (x : State) → LabelledState pl mi x → Residual M f x (Minus e)
          → (h : ℕ) × (h < M.floor.lanes) × (M.floor.end true h ≡ k) × (pl h ≡ true)
          × In (tight_at M f true k h) (place M.floor true k e)
      by (Pole b) l c = absurd (omega (arith, c.some))
      by (Plus h) l c =
          let kh : M.floor.end true h ≡ k = c.meet ∙ ke in (
            h,
            c.ok_from,
            kh,
            l,
            room_member M laws f fits true k kin h e c.ok_from kh (in_full h c.ok_from (ap near kh ∙ n) l) (omega (arith, c.some)),
          )
      by (Minus h) l c =
          absurd (both_ways (near k) n (ap near (sym (c.meet ∙ ke)) ∙ opened_near (Minus h) c.ok_from l (omega (arith, c.some))))
