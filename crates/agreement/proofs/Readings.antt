-- Meanings that agree judge a load alike, and show the same cut.
use Rattle.std.proofs.Common.{◌≡◌, ℕ, ◌*◌, ◌^◌, ◌<◌, Bool, true, false, cond, not, ◌&&◌, ◌||◌, eqb, ltb, leb, List, length, Ok, Err, sym, refl, ap, ◌∙◌, ap₂, arith}
use Rattle.std.proofs.lemmas.List.{ext_get_or}
use Rattle.polymatroid.specs.Finite.{first}
use Rattle.polymatroid.specs.Side.{load}
use Rattle.polymatroid.specs.Tables.{every}
use Rattle.floor.specs.Floor.{leaving, entering, width, end_of, station_of, sides, stock}
use Rattle.floor.specs.Meaning.{Meaning, Lawful}
use Rattle.floor.proofs.Places.{station_below}
use Rattle.tables.specs.Agreement.{Agrees}
use Rattle.tables.proofs.Agreeing.{same_count}
use Rattle.network.specs.Plans.{trays}
use Rattle.labelling.specs.Table.{Mark}
use Rattle.labelling.specs.Near.{plus_labelled, minus_labelled, nears, near, unlabelled}
use Rattle.labelling.specs.Steps.{labels, table_of}
use Rattle.calls.specs.declared.Unfit.TheVariants.{Length, Load, Unfinished}
use Rattle.calls.specs.Events.{at}
use Rattle.calls.specs.Does.{Held, side_within, station_balanced, is_plan, load_answer, tray_list, lane_byte, station_byte, cut_answer, trays_answer}
use Rattle.calls.proofs.SameTrays.{listed_length, listed_at}
use Rattle.agreement.proofs.Sides.{first_same, every_same}
use Rattle.agreement.proofs.Plans.{load_same, through_same}
use Rattle.agreement.proofs.Rooms.{full_same}
use Rattle.agreement.proofs.Steps.{outcome_same}

-- numbers that agree below m make one list
listed_same : (m : ℕ) (f g : ℕ → ℕ) → ((e : ℕ) → e < m → g e ≡ f e) → tray_list m g ≡ tray_list m f
listed_same m f g same =
    ext_get_or 0 (tray_list m g) (tray_list m f) (listed_length m g ∙ sym (listed_length m f)) (λ e l.
    let h : e < m = omega (arith, listed_length m g) in listed_at m g e h ∙ same e h ∙ sym (listed_at m f e h))

module _ (M N : Meaning) (a : Agrees M N) where
  -- ---- loads

  module _ (f : ℕ → ℕ) where
    within_same : (s : ℕ) → s < sides M.floor → side_within N f s ≡ side_within M f s
    unfolding side_within
    within_same s l =
        let d = end_of s in
        let i = station_of s in
        let test : Meaning → ℕ → Bool = λ K X. leb (load (trays K f d i) (width K.floor s) X) (K.cap d i X) in
        ap (λ k. every (2 ^ k) (test N)) (same_count M N a d i)
        ∙ every_same (2 ^ width M.floor s) (test N) (test M)
        (λ X h. ap₂ leb (load_same M N a f f (λ e l. refl) d i X) (a.caps d i X (station_below s M.floor.stations l) h))

    balanced_same : (i : ℕ) → station_balanced N f i ≡ station_balanced M f i
    unfolding station_balanced
    balanced_same i = λ j.
        (eqb i (a.poles false j) || eqb i (a.poles true j))
        || eqb (through_same M N a f f (λ e l. refl) (λ e. true) true i j) (through_same M N a f f (λ e l. refl) (λ e. true) false i j)

    is_plan_same : is_plan N f ≡ is_plan M f
    unfolding is_plan
    is_plan_same =
        ap (λ n. every (2 * n) (side_within N f) && every n (station_balanced N f)) a.stations
        ∙ ap₂ (λ x y. x && y) (every_same (sides M.floor) (side_within N f) (side_within M f) within_same)
        (every_same M.floor.stations (station_balanced N f) (station_balanced M f) (λ i l. balanced_same i))

  pub load_answer_same : (ys : List ℕ) → load_answer N ys ≡ load_answer M ys
  load_answer_same ys = λ j. cond (eqb (length ys) (a.lanes j)) (cond (is_plan_same (at ys) j) (Ok tt) (Err Load)) (Err Length)

  pub trays_answer_same : (xs : List ℕ) → trays_answer N xs ≡ trays_answer M xs
  trays_answer_same xs = λ j. cond (eqb (length xs) (a.lanes j)) (Ok tt) (Err Length)

  pub cut_answer_same : (s : Held) (ls ss : List ℕ) → cut_answer N s ls ss ≡ cut_answer M s ls ss
  cut_answer_same s ls ss = λ j.
      cond s.finished (cond (eqb (length ls) (a.lanes j) && eqb (length ss) (a.stations j)) (Ok tt) (Err Length)) (Err Unfinished)

  -- ---- the cut

  module _ (laws : Lawful M) (f : ℕ → ℕ) where
    labels_same : labels N f ≡ labels M f
    labels_same = ap table_of (outcome_same M N a laws f)

    nears_same : (t : List Mark) (i e : ℕ) → e < M.floor.lanes → nears N f t i e ≡ nears M f t i e
    nears_same t i e l = λ j.
        (minus_labelled t e && eqb (a.ends leaving e l j) i)
        || (plus_labelled t e && (not (full_same M N a laws f entering e l j) && eqb (a.ends entering e l j) i))

    near_by : (t : List Mark) (i : ℕ) → near N f t i ≡ near M f t i
    unfolding near
    near_by t i =
        ap₂ (λ s m. eqb s i || ltb (first (nears N f t i) m) m) (a.poles leaving) a.lanes
        ∙ ap (λ k. eqb (stock M.floor) i || ltb k M.floor.lanes) (first_same (nears N f t i) (nears M f t i) M.floor.lanes (nears_same t i))

    -- the same stations are near
    near_same : (i : ℕ) → near N f (labels N f) i ≡ near M f (labels M f) i
    near_same i = ap (λ t. near N f t i) labels_same ∙ near_by (labels M f) i

    end_same : (d : Bool) (e : ℕ) → e < M.floor.lanes → near N f (labels N f) (N.floor.end d e) ≡ near M f (labels M f) (M.floor.end d e)
    end_same d e l = ap (near N f (labels N f)) (a.ends d e l) ∙ near_same (M.floor.end d e)

    lane_byte_same : (e : ℕ) → e < M.floor.lanes → lane_byte N f e ≡ lane_byte M f e
    lane_byte_same e l = λ j. cond (end_same false e l j && not (end_same true e l j)) (cond (unlabelled (labels_same j) e) 85 76) 45

    station_byte_same : (i : ℕ) → station_byte N f i ≡ station_byte M f i
    station_byte_same i = ap (λ b. cond b 1 0) (near_same i)

    pub lane_bytes_same : tray_list N.floor.lanes (lane_byte N f) ≡ tray_list M.floor.lanes (lane_byte M f)
    lane_bytes_same = ap (λ m. tray_list m (lane_byte N f)) a.lanes ∙ listed_same M.floor.lanes (lane_byte M f) (lane_byte N f) lane_byte_same

    pub station_bytes_same : tray_list N.floor.stations (station_byte N f) ≡ tray_list M.floor.stations (station_byte M f)
    station_bytes_same =
        ap (λ m. tray_list m (station_byte N f)) a.stations
        ∙ listed_same M.floor.stations (station_byte M f) (station_byte N f) (λ i l. station_byte_same i)
