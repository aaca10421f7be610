-- Lengths rise from stage to stage, and among stages of one length no critical pair comes again.
use Rattle.std.proofs.Common.{◌≡◌, ℕ, zero, suc, ◌+◌, ◌-◌, ◌<◌, ◌≤◌, true, false, sym, refl, ap, ◌∙◌, subst, subst₂, inl, inr, arith}
use mathlib.Core.Path.{subst⁻¹}
use Rattle.std.proofs.lemmas.Bool.{cases_lt, cases_eq}
use Rattle.levels.specs.Levels.{Walk, Level, Straight, Along, Splices}
use Rattle.levels.proofs.Walks.{join_walk, rest_walk, turned_walk}
use Rattle.levels.proofs.Levels.{levels_rise, levels_rise_back, numbers_rise}
use Rattle.floor.specs.Meaning.{Meaning}
use Rattle.network.specs.States.{State, Pole, Plus, Minus, amount, Step, lane_number}
use Rattle.network.specs.Stages.{Stage, Run, LengthsRise, PairsDiffer}
use Rattle.network.proofs.Paths.{step_at, out_of_end}
use Rattle.network.proofs.Moves.{pair_dies}
use Rattle.network.proofs.Splice.{steps_splice}

-- relations one after the other, each of which shortens no walk from z
module _ {X : Type 0} (R : ℕ → X → X → Type 0) (z : X) (T : ℕ)
    (one : (s : ℕ) → suc s < T → (a : ℕ) (y : X) → Walk (R (suc s)) z a y → (b : ℕ) × (b ≤ a) × Walk (R s) z b y) where
  rise : (s t : ℕ) → s ≤ t → t < T → (a : ℕ) (y : X) → Walk (R t) z a y → (b : ℕ) × (b ≤ a) × Walk (R s) z b y
  rise s zero l m a y w = (a, omega arith, subst (λ k. Walk (R k) z a y) (zero_of s l) w)
    where
      zero_of : (s : ℕ) → s ≤ 0 → 0 ≡ s
      zero_of s l = omega arith
  rise s (suc t) l m a y w =
      elim (cases_eq s (suc t)) [
        | inl e ↦ (a, omega arith, subst (λ k. Walk (R k) z a y) (sym e) w)
        | inr e ↦
            let v = one t m a y w in
            let u = rise s t (omega arith) (omega arith) v.0 y v.2 in
            (u.0, omega (arith, v.1, u.1), u.2)
      ]

  -- a level that is the same before and after
  between : (s r t : ℕ) → s ≤ r → r ≤ t → t < T → (a : ℕ) (y : X) → Level (R s) z a y → Level (R t) z a y → Level (R r) z a y
  between s r t l m h a y ls lt =
      let w = rise r t m h a y lt.walk in
      let low : (b : ℕ) → Walk (R r) z b y → a ≤ b =
      λ b v. let u = rise s r l (omega arith) b y v in omega (arith, u.1, ls.shortest u.0 u.2) in
      let e : w.0 ≡ a = omega (arith, w.1, low w.0 w.2) in
      record { walk = subst (λ k. Walk (R r) z k y) e w.2; shortest = low }

module _ (M : Meaning) (T : ℕ) (r : Run M T) where
  R : ℕ → State → State → Type 0
  R s x y = Step M (r.trays s) x y

  -- each path begins at the start
  starts : (s : ℕ) → s < T → r.path s 0 ≡ Pole false
  starts s l = (r.stage s l).moving.path.begin

  splices : (s : ℕ) → suc s < T → Splices (R s) (R (suc s)) (r.path s) (r.length s)
  unfolding R
  splices s l x y q =
      steps_splice M (r.trays s) (r.path s) (r.length s) (r.amt s) (r.stage s (omega arith)).moving x y
      (subst (λ f. Step M f x y) (r.next s l) q)

  straight_on : (s : ℕ) → s < T → Straight (R s) (r.path s) (r.length s)
  unfolding R
  straight_on s l = (r.stage s l).straight

  one_on : (s : ℕ) → suc s < T → (a : ℕ) (y : State) → Walk (R (suc s)) (Pole false) a y → (b : ℕ) × (b ≤ a) × Walk (R s) (Pole false) b y
  unfolding R
  one_on s l a y w =
      let st = starts s (omega arith) in
      let v = levels_rise State (R s) (R (suc s)) (r.path s) (r.length s) (r.stage s (omega arith)).straight (splices s l) a y
      (subst⁻¹ (λ z. Walk (R (suc s)) z a y) st w) in
      (v.0, v.1, subst (λ z. Walk (R s) z v.0 y) st v.2)

  along : (s : ℕ) → s < T → Along (R s) (r.path s) (r.length s)
  unfolding R
  along s l i h = step_at M (r.trays s) (r.path s) (r.length s) (r.stage s l).moving.path i h

  -- the same of the walks to the end, as walks of the relation turned round
  one_back : (s : ℕ) → suc s < T → (a : ℕ) (x : State) → Walk (λ x y. R (suc s) y x) (Pole true) a x
      → (b : ℕ) × (b ≤ a) × Walk (λ x y. R s y x) (Pole true) b x
  one_back s l a x w =
      let g = r.stage s (omega arith) in
      let fin = g.moving.path.finish in
      let v = levels_rise_back State (R s) (R (suc s)) (r.path s) (r.length s) (straight_on s (omega arith)) (along s (omega arith)) (splices s l) a x
      (subst⁻¹ (Walk (R (suc s)) x a) fin (turned_walk (λ x y. R (suc s) y x) (Pole true) x a w)) in
      (v.0, v.1, turned_walk (R s) x (Pole true) v.0 (subst (Walk (R s) x v.0) fin v.2))

  -- a state of a path at its level, from the start
  level_at : (s : ℕ) → s < T → (i : ℕ) → i ≤ r.length s → Level (R s) (Pole false) i (r.path s i)
  unfolding R
  level_at s l i m = subst (λ z. Level (R s) z i (r.path s i)) (starts s l) ((r.stage s l).straight i m)

  longer : (s t : ℕ) → s ≤ t → t < T → r.length s ≤ r.length t
  longer s t l m =
      let ends : r.path t (r.length t) ≡ r.path s (r.length s) =
      (r.stage t m).moving.path.finish ∙ sym (r.stage s (omega arith)).moving.path.finish in
      let w = rise R (Pole false) T one_on s t l m (r.length t) (r.path t (r.length t)) (level_at t m (r.length t) (omega arith)).walk in
      omega (arith, w.1, (level_at s (omega arith) (r.length s) (omega arith)).shortest w.0 (subst (Walk (R s) (Pole false) w.0) ends w.2))

  -- a pair that two paths of one length have stands at one place in both
  place_same : (s t i j : ℕ) → s ≤ t → t < T → r.length s ≡ r.length t → i ≤ r.length s → j ≤ r.length t
      → r.path s i ≡ r.path t j → i ≡ j
  place_same s t i j l m e hi hj q =
      let ls : s < T = omega arith in
      let a = rise R (Pole false) T one_on s t l m j (r.path t j) (level_at t m j hj).walk in
      let b = (level_at s ls i hi).shortest a.0 (subst (Walk (R s) (Pole false) a.0) (sym q) a.2) in
      let fin = (r.stage t m).moving.path.finish in
      let on = turned_walk (R t) (r.path t j) (Pole true) (r.length t - j)
      (subst (Walk (R t) (r.path t j) (r.length t - j)) fin (rest_walk (R t) (r.path t) (r.length t) (along t m) (r.length t - j) j (omega arith))) in
      let c = rise (λ s x y. R s y x) (Pole true) T one_back s t l m (r.length t - j) (r.path t j) on in
      let d = turned_walk (λ x y. R s y x) (Pole true) (r.path t j) c.0 c.2 in
      let w = join_walk (R s) (Pole false) (r.path s i) (Pole true) i c.0 (level_at s ls i hi).walk (subst⁻¹ (λ z. Walk (R s) z c.0 (Pole true)) q d) in
      let n = (level_at s ls (r.length s) (omega arith)).shortest (i + c.0) (subst⁻¹ (Walk (R s) (Pole false) (i + c.0)) (r.stage s ls).moving.path.finish w) in
      omega (arith, a.1, c.1)

  -- what steps to y at its level has a number above that of the critical pair's first state
  module _ (s : ℕ) (ls : suc s < T) where
    g : Stage M (r.trays s) (r.path s) (r.length s) (r.amt s) (r.pair s)
    g = r.stage s (omega arith)

    x : State
    x = r.path s (r.pair s)

    y : State
    y = r.path s (suc (r.pair s))

    -- the pair is no step afterwards
    dead : R (suc s) x y → ⊥
    unfolding R x y
    dead q =
        let z = pair_dies M (r.trays s) (r.path s) (r.length s) (r.amt s) g.moving (r.pair s) g.index g.critical in
        let e = ap (λ f. amount M f x y) (r.next s ls) in
        elim q.some [ inl h ↦ omega arith | inr h ↦ g.moving.path.straight (r.pair s) g.index h ]

    Above : ℕ → Type 0
    Above t = (z : State) → Level (R t) (Pole false) (r.pair s) z → R t z y → lane_number x < lane_number z

    not_end : (t : ℕ) (y : State) → R t (Pole true) y → ⊥
    unfolding R
    not_end t y q = elim q.some [ inl h ↦ omega (arith, out_of_end M (r.trays t) y) | inr h ↦ h ]

    -- two states at one place before y, with one number
    same_state_is : (i : ℕ) (z x y : State) → Level (R (suc s)) (Pole false) i z → Level (R s) (Pole false) i x
        → R (suc s) z y → R s x y → lane_number z ≡ lane_number x → z ≡ x
    unfolding R
    same_state_is zero z x y lz lx rz rx e = sym lz.walk ∙ lx.walk
    same_state_is (suc i) z x y lz lx rz rx e = by z x lz lx rz rx e
      where
        by : (z x : State) → Level (R (suc s)) (Pole false) (suc i) z → Level (R s) (Pole false) (suc i) x → R (suc s) z y → R s x y → lane_number z ≡ lane_number x → z ≡ x
        by (Pole false) x lz lx rz rx e = absurd (omega (arith, lz.shortest 0 refl))
        by (Pole true) x lz lx rz rx e = absurd (not_end (suc s) y rz)
        by (Plus a) (Pole false) lz lx rz rx e = absurd (omega (arith, lx.shortest 0 refl))
        by (Plus a) (Pole true) lz lx rz rx e = absurd (not_end s y rx)
        by (Plus a) (Plus b) lz lx rz rx e = ap Plus e
        by (Plus a) (Minus b) lz lx rz rx e =
            absurd (g.moving.laws.rules.ends_differ true a rz.ok_from (rz.meet ∙ sym rx.meet ∙ ap (M.floor.end false) (sym e)))
        by (Minus a) (Pole false) lz lx rz rx e = absurd (omega (arith, lx.shortest 0 refl))
        by (Minus a) (Pole true) lz lx rz rx e = absurd (not_end s y rx)
        by (Minus a) (Plus b) lz lx rz rx e =
            absurd (g.moving.laws.rules.ends_differ false a rz.ok_from (rz.meet ∙ sym rx.meet ∙ ap (M.floor.end true) (sym e)))
        by (Minus a) (Minus b) lz lx rz rx e = ap Minus e

    -- the numbers before y do not fall from one stage to the next while y keeps its level
    lower_one : (t : ℕ) → suc t < T → Level (R t) (Pole false) (suc (r.pair s)) y → Level (R (suc t)) (Pole false) (suc (r.pair s)) y
        → (z : State) → Level (R (suc t)) (Pole false) (r.pair s) z → R (suc t) z y
        → (z' : State) × Level (R t) (Pole false) (r.pair s) z' × R t z' y × (lane_number z' ≤ lane_number z)
    unfolding R
    lower_one t l a b z lz rz =
        let st = starts t (omega arith) in
        let h = numbers_rise State lane_number (R t) (R (suc t)) (r.path t) (r.length t) (r.stage t (omega arith)).straight (splices t l)
        (r.stage t (omega arith)).lowest (r.pair s) z y
        (subst⁻¹ (λ q. Level (R t) q (suc (r.pair s)) y) st a) (subst⁻¹ (λ q. Level (R (suc t)) q (suc (r.pair s)) y) st b)
        (subst⁻¹ (λ q. Level (R (suc t)) q (r.pair s) z) st lz) rz in
        (h.0, subst (λ q. Level (R t) q (r.pair s) h.0) st h.1, h.2, h.3)

    above_next : Level (R s) (Pole false) (suc (r.pair s)) y → Level (R (suc s)) (Pole false) (suc (r.pair s)) y → Above (suc s)
    unfolding Above R y x
    above_next a b z lz rz =
        let h = lower_one s ls a b z lz rz in
        let low = g.lowest (r.pair s) h.0 g.index (subst⁻¹ (λ q. Level (R s) q (r.pair s) h.0) (starts s (omega arith)) h.1) h.2 in
        elim (cases_lt (lane_number x) (lane_number z)) [
          | inl k ↦ k
          | inr k ↦
              let e : z ≡ x = same_state_is (r.pair s) z x y lz (level_at s (omega arith) (r.pair s) (omega (arith, g.index))) rz
              (step_at M (r.trays s) (r.path s) (r.length s) g.moving.path (r.pair s) g.index) (omega (arith, h.3)) in
              absurd (dead (subst (λ w. R (suc s) w y) e rz))
        ]

    above_on : (t : ℕ) → suc t < T → Level (R t) (Pole false) (suc (r.pair s)) y → Level (R (suc t)) (Pole false) (suc (r.pair s)) y → Above t → Above (suc t)
    unfolding Above
    above_on t l a b up z lz rz =
        let h = lower_one t l a b z lz rz in
        omega (arith, h.3, up h.0 h.1 h.2)

    -- up to a stage at which y has that level
    above : (t : ℕ) → s < t → t < T → Level (R s) (Pole false) (suc (r.pair s)) y → Level (R t) (Pole false) (suc (r.pair s)) y → Above t
    above zero l m a b = absurd (omega arith)
    above (suc t) l m a b =
        elim (cases_eq s t) [
          | inl e ↦ subst (λ k. Above (suc k)) e (above_next a (subst⁻¹ (λ k. Level (R (suc k)) (Pole false) (suc (r.pair s)) y) e b))
          | inr e ↦
              let c = between R (Pole false) T one_on s t (suc t) (omega arith) (omega arith) m (suc (r.pair s)) y a b in
              above_on t m c b (above t (omega arith) (omega arith) a c)
        ]

pub lengths_rise : LengthsRise
lengths_rise M T r s t l m = longer M T r s t l m

pub pairs_differ : PairsDiffer
unfolding R x y Above
pairs_differ M T r s t l m e ex ey =
    let gs = r.stage s (omega arith) in
    let gt = r.stage t m in
    let q : r.pair s ≡ r.pair t =
    place_same M T r s t (r.pair s) (r.pair t) (omega arith) m e (omega (arith, gs.index)) (omega (arith, gt.index)) ex in
    let lx : Level (R M T r t) (Pole false) (r.pair s) (r.path s (r.pair s)) =
    subst⁻¹ (λ i. Level (R M T r t) (Pole false) i (r.path s (r.pair s))) q
    (subst⁻¹ (Level (R M T r t) (Pole false) (r.pair t)) ex (level_at M T r t m (r.pair t) (omega (arith, gt.index)))) in
    let ly : Level (R M T r t) (Pole false) (suc (r.pair s)) (r.path s (suc (r.pair s))) =
    subst⁻¹ (λ i. Level (R M T r t) (Pole false) (suc i) (r.path s (suc (r.pair s)))) q
    (subst⁻¹ (Level (R M T r t) (Pole false) (suc (r.pair t))) ey (level_at M T r t m (suc (r.pair t)) gt.index)) in
    let st = step_at M (r.trays t) (r.path t) (r.length t) gt.moving.path (r.pair t) gt.index in
    let up = above M T r s (omega arith) t l m (level_at M T r s (omega arith) (suc (r.pair s)) gs.index) ly in
    omega (arith, up (r.path s (r.pair s)) lx (subst₂ (Step M (r.trays t)) (sym ex) (sym ey) st))
