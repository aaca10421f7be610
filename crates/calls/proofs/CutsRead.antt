-- The bytes read of a finished plan show the cut of its labels.
use Rattle.std.proofs.Common.{◌≡◌, ℕ, zero, suc, ◌+◌, ◌^◌, ◌<◌, Bool, true, false, cond, not, ◌&&◌, eqb, ◌⊎◌, List, sym, refl, ap, ◌∙◌, ap₂, inl, inr, arith}
use mathlib.Core.Path.{subst⁻¹}
use mathlib.Core.Option.{none}
use Rattle.polymatroid.specs.Sets.{code}
use Rattle.floor.specs.Floor.{stock, despatch, count, lane_at}
use Rattle.floor.specs.Meaning.{Meaning, Lawful}
use Rattle.floor.proofs.Places.{lane_at_below}
use Rattle.network.specs.Plans.{Feasible}
use Rattle.network.specs.Cuts.{set_of, crosses, capacity}
use Rattle.network.proofs.Hits.{sum_same}
use Rattle.labelling.specs.Steps.{step, labels}
use Rattle.labelling.specs.Near.{near, unlabelled}
use Rattle.labelling.proofs.Best.{finished_is_best}
use Rattle.calls.specs.Events.{at}
use Rattle.calls.specs.Law.{ShowsCut, shown_near, shown_upper}
use Rattle.calls.specs.Does.{tray_list, lane_byte, station_byte}
use Rattle.calls.proofs.SameTrays.{listed_length, listed_at}

-- ---- a capacity looks at the floor only

code_same : (k : ℕ) (t u : ℕ → Bool) → ((p : ℕ) → p < k → t p ≡ u p) → code k t ≡ code k u
unfolding code
code_same zero t u h = refl
code_same (suc k) t u h = ap₂ (λ n b. n + cond b (2 ^ k) 0) (code_same k t u (λ p l. h p (omega arith))) (h k (omega arith))

set_of_same : (M : Meaning) (d : Bool) (i : ℕ) (t u : ℕ → Bool) → ((e : ℕ) → e < M.floor.lanes → t e ≡ u e) → set_of M d i t ≡ set_of M d i u
unfolding set_of
set_of_same M d i t u h =
    code_same (count M.floor d i) (λ p. t (lane_at M.floor d i p)) (λ p. u (lane_at M.floor d i p))
    (λ p l. h (lane_at M.floor d i p) (lane_at_below M.floor d i p l))

-- what a cut counts where its lanes leave station i, and where they enter it
abbrev out : Meaning → (ℕ → Bool) → (ℕ → Bool) → ℕ → ℕ
out M n u i = cond (n i) (M.cap false i (set_of M false i (λ e. crosses M n e && u e))) 0

abbrev into : Meaning → (ℕ → Bool) → (ℕ → Bool) → ℕ → ℕ
into M n u i = cond (n i) 0 (M.cap true i (set_of M true i (λ e. crosses M n e && not (u e))))

module _ (M : Meaning) (laws : Lawful M) (n n' u u' : ℕ → Bool) (same : (i : ℕ) → i < M.floor.stations → n i ≡ n' i) where
  pub crosses_same : (e : ℕ) → e < M.floor.lanes → crosses M n e ≡ crosses M n' e
  crosses_same e l =
      ap₂ (λ a b. a && not b) (same (M.floor.end false e) (laws.rules.end_on false e l)) (same (M.floor.end true e) (laws.rules.end_on true e l))

  module _ (upper : (e : ℕ) → e < M.floor.lanes → crosses M n' e ≡ true → u e ≡ u' e) where
    both_same : (w : Bool → Bool) (e : ℕ) → e < M.floor.lanes → (crosses M n e && w (u e)) ≡ (crosses M n' e && w (u' e))
    both_same w e l = by (crosses M n' e) refl
      where
        by : (b : Bool) → crosses M n' e ≡ b → (crosses M n e && w (u e)) ≡ (crosses M n' e && w (u' e))
        by true o = ap₂ (λ a b. a && w b) (crosses_same e l) (upper e l o)
        by false o = ap (λ a. a && w (u e)) (crosses_same e l ∙ o) ∙ ap (λ a. a && w (u' e)) (sym o)

    pub capacity_same : capacity M n u ≡ capacity M n' u'
    unfolding capacity
    capacity_same =
        ap₂ (λ a b. a + b)
        (sum_same (out M n u) (out M n' u') M.floor.stations
        (λ i l. ap₂ (λ b X. cond b (M.cap false i X) 0) (same i l)
        (set_of_same M false i (λ e. crosses M n e && u e) (λ e. crosses M n' e && u' e) (both_same (λ b. b)))))
        (sum_same (into M n u) (into M n' u') M.floor.stations
        (λ i l. ap₂ (λ b X. cond b 0 (M.cap true i X)) (same i l)
        (set_of_same M true i (λ e. crosses M n e && not (u e)) (λ e. crosses M n' e && not (u' e)) (both_same not))))

-- ---- the bytes

byte_near : (b : Bool) → eqb (cond b 1 0) 1 ≡ b
byte_near true = refl
byte_near false = refl

byte_upper : (b : Bool) → eqb (cond b 85 76) 85 ≡ b
byte_upper true = refl
byte_upper false = refl

either_byte : (b : Bool) (x y : ℕ) → (cond b x y ≡ x) ⊎ (cond b x y ≡ y)
either_byte true x y = inl refl
either_byte false x y = inr refl

module _ (M : Meaning) (laws : Lawful M) (f : ℕ → ℕ) where
  abbrev ls : List ℕ
  ls = tray_list M.floor.lanes (lane_byte M f)

  abbrev ss : List ℕ
  ss = tray_list M.floor.stations (station_byte M f)

  abbrev N : ℕ → Bool
  N = near M f (labels M f)

  abbrev U : ℕ → Bool
  U = unlabelled (labels M f)

  station : (i : ℕ) → i < M.floor.stations → at ss i ≡ cond (N i) 1 0
  station i l = listed_at M.floor.stations (station_byte M f) i l

  lane : (e : ℕ) → e < M.floor.lanes → at ls e ≡ lane_byte M f e
  lane e l = listed_at M.floor.lanes (lane_byte M f) e l

  seen : (i : ℕ) → i < M.floor.stations → shown_near ss i ≡ N i
  seen i l = ap (λ n. eqb n 1) (station i l) ∙ byte_near (N i)

  cross : (e : ℕ) → e < M.floor.lanes → crosses M (shown_near ss) e ≡ crosses M N e
  cross e l = crosses_same M laws (shown_near ss) N (shown_upper ls) U seen e l

  crossed : (e : ℕ) → e < M.floor.lanes → crosses M N e ≡ true → at ls e ≡ cond (U e) 85 76
  crossed e l o = lane e l ∙ ap (λ b. cond b (cond (U e) 85 76) 45) o

  pub cut_shown : Feasible M f → step M f ≡ none
      → ShowsCut M f (tray_list M.floor.lanes (lane_byte M f)) (tray_list M.floor.stations (station_byte M f))
  cut_shown ok h =
      let best = finished_is_best M f laws ok h in
      record {
        lanes = listed_length M.floor.lanes (lane_byte M f);
        stations = listed_length M.floor.stations (station_byte M f);
        near_or_far = λ i l. subst⁻¹ (λ (n : ℕ). (n ≡ 1) ⊎ (n ≡ 0)) (station i l) (either_byte (N i) 1 0);
        outside = λ e l o. lane e l ∙ ap (λ b. cond b (cond (U e) 85 76) 45) (sym (cross e l) ∙ o);
        crossing = λ e l o. subst⁻¹ (λ (n : ℕ). (n ≡ 85) ⊎ (n ≡ 76)) (crossed e l (sym (cross e l) ∙ o)) (either_byte (U e) 85 76);
        stock_near = station (stock M.floor) (laws.rules.pole_on false) ∙ ap (λ b. cond b 1 0) best.stock_near;
        despatch_far = station (despatch M.floor) (laws.rules.pole_on true) ∙ ap (λ b. cond b 1 0) best.despatch_far;
        exact = capacity_same M laws (shown_near ss) N (shown_upper ls) U seen (λ e l o. ap (λ n. eqb n 85) (crossed e l o) ∙ byte_upper (U e)) ∙ best.cut;
        no_cut_less = best.no_cut_less;
      }
