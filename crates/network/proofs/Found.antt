-- The path that a labelling finds is a shortest one, of lowest lane numbers.
use Rattle.std.proofs.Common.{◌≡◌, ℕ, zero, suc, ◌<◌, ◌≤◌, Bool, true, false, ◌⊎◌, sym, refl, ap, subst, inl, inr, arith}
use mathlib.Core.Path.{subst⁻¹}
use Rattle.std.proofs.lemmas.Bool.{cases_eq}
use Rattle.levels.specs.Levels.{Walk, Level, Straight}
use Rattle.levels.specs.Search.{Steps, Turning}
use Rattle.levels.proofs.Search.{path_straight, path_lowest, path_in}
use Rattle.floor.specs.Meaning.{Meaning, Lawful}
use Rattle.network.specs.States.{State, Pole, Plus, Minus, at, amount, OnFloor, Turn, Step, lane_number, holder, Residual, Turns}
use Rattle.network.specs.Plans.{Fits}
use Rattle.network.specs.Found.{LevelLabels, Found, SearchFinds}
use Rattle.network.proofs.Skips.{skip_in, skip_out}

-- states are told apart
pub tell : (x y : State) → (x ≡ y) ⊎ (x ≡ y → ⊥)
tell (Pole b) (Pole c) = poles b c
  where
    poles : (b c : Bool) → (Pole b ≡ Pole c) ⊎ (Pole b ≡ Pole c → ⊥)
    poles true true = inl refl
    poles true false = inr (λ e. let z : ◌≡◌ {A = ℕ} 0 1 = cc in omega arith)
    poles false true = inr (λ e. let z : ◌≡◌ {A = ℕ} 0 1 = cc in omega arith)
    poles false false = inl refl
tell (Pole b) (Plus g) = inr (λ e. let z : ◌≡◌ {A = ℕ} 0 1 = cc in omega arith)
tell (Pole b) (Minus g) = inr (λ e. let z : ◌≡◌ {A = ℕ} 0 1 = cc in omega arith)
tell (Plus e) (Pole c) = inr (λ e. let z : ◌≡◌ {A = ℕ} 0 1 = cc in omega arith)
tell (Plus e) (Plus g) = elim (cases_eq e g) [ inl q ↦ inl (ap Plus q) | inr q ↦ inr (λ r. q (cc)) ]
tell (Plus e) (Minus g) = inr (λ e. let z : ◌≡◌ {A = ℕ} 0 1 = cc in omega arith)
tell (Minus e) (Pole c) = inr (λ e. let z : ◌≡◌ {A = ℕ} 0 1 = cc in omega arith)
tell (Minus e) (Plus g) = inr (λ e. let z : ◌≡◌ {A = ℕ} 0 1 = cc in omega arith)
tell (Minus e) (Minus g) = elim (cases_eq e g) [ inl q ↦ inl (ap Minus q) | inr q ↦ inr (λ r. q (cc)) ]

pub turn_holder : (x y : State) → Turn x y → holder x ≡ holder y
turn_holder (Pole b) y t = absurd t
turn_holder (Plus e) (Pole c) t = absurd t
turn_holder (Plus e) (Plus g) t = absurd t
turn_holder (Plus e) (Minus g) t = ap (λ x. suc (suc x)) t
turn_holder (Minus e) (Pole c) t = absurd t
turn_holder (Minus e) (Plus g) t = ap (λ x. suc (suc x)) t
turn_holder (Minus e) (Minus g) t = absurd t

alone : (x : State) → 0 ≡ holder x → Pole false ≡ x
alone (Pole false) e = refl
alone (Pole true) e = absurd (omega arith)
alone (Plus a) e = absurd (omega arith)
alone (Minus a) e = absurd (omega arith)

pub turn? : (x y : State) → Turn x y ⊎ (Turn x y → ⊥)
turn? (Pole b) y = inr (λ t. t)
turn? (Plus e) (Pole c) = inr (λ t. t)
turn? (Plus e) (Plus g) = inr (λ t. t)
turn? (Plus e) (Minus g) = cases_eq e g
turn? (Minus e) (Pole c) = inr (λ t. t)
turn? (Minus e) (Plus g) = cases_eq e g
turn? (Minus e) (Minus g) = inr (λ t. t)

module _ (M : Meaning) (laws : Lawful M) (f : ℕ → ℕ) (fits : Fits M f) where
  -- a step gives a label or turns, and the other way round
  to_steps : (x y : State) → Step M f x y → Steps holder lane_number (Residual M f) (Turns M) (Pole false) x y
  to_steps x y s =
      elim (turn? x y) [
        | inl t ↦ inr (record { ok_from = s.ok_from; ok_to = s.ok_to; meet = s.meet; turn = t })
        | inr t ↦
            elim s.some [
              | inl h ↦ inl (record { ok_from = s.ok_from; ok_to = s.ok_to; meet = s.meet; some = h; straight = t })
              | inr h ↦ absurd (t h)
            ]
      ]

  from_steps : (x y : State) → Steps holder lane_number (Residual M f) (Turns M) (Pole false) x y → Step M f x y
  from_steps x y s =
      elim s [
        | inl r ↦ record { ok_from = r.ok_from; ok_to = r.ok_to; meet = r.meet; some = inl r.some }
        | inr r ↦ record { ok_from = r.ok_from; ok_to = r.ok_to; meet = r.meet; some = inr r.turn }
      ]

  pub skip : (d x y z : State) → Residual M f d x → holder x ≡ holder y → (x ≡ y → ⊥) → Residual M f y z → Step M f d z
  skip d (Pole false) y z r e ne s = absurd (ne (alone y e))
  skip d (Pole true) (Pole false) z r e ne s = absurd (omega arith)
  skip d (Pole true) (Pole true) z r e ne s = absurd (ne refl)
  skip d (Pole true) (Plus b) z r e ne s = absurd (omega arith)
  skip d (Pole true) (Minus b) z r e ne s = absurd (omega arith)
  skip d (Plus a) (Pole false) z r e ne s = absurd (omega arith)
  skip d (Plus a) (Pole true) z r e ne s = absurd (omega arith)
  skip d (Plus a) (Plus b) z r e ne s = absurd (ne (ap Plus (omega arith)))
  skip d (Plus a) (Minus b) z r e ne s =
      let q : b ≡ a = omega arith in
      skip_out M laws f fits d z a r.ok_from s.ok_to r.ok_to r.meet (subst (λ x. M.floor.end false x ≡ at M false z) q s.meet) r.some
      (subst (λ x. 0 < amount M f (Minus x) z) q s.some)
  skip d (Minus a) (Pole false) z r e ne s = absurd (omega arith)
  skip d (Minus a) (Pole true) z r e ne s = absurd (omega arith)
  skip d (Minus a) (Plus b) z r e ne s =
      let q : b ≡ a = omega arith in
      skip_in M laws f fits d z a r.ok_from s.ok_to r.ok_to r.meet (subst (λ x. M.floor.end true x ≡ at M false z) q s.meet) r.some
      (subst (λ x. 0 < amount M f (Plus x) z) q s.some)
  skip d (Minus a) (Minus b) z r e ne s = absurd (ne (ap Minus (omega arith)))

  turning : Turning holder lane_number (Residual M f) (Turns M) (Pole false)
  turning = record {
    same = λ x y t. turn_holder x y t.turn;
    tell = tell;
    alone = alone;
    skip = λ d x y z r e ne s. to_steps d z (skip d x y z r e ne s);
  }

  walk_to : (a : State) (n : ℕ) (y : State) → Walk (Step M f) a n y → Walk (Steps holder lane_number (Residual M f) (Turns M) (Pole false)) a n y
  walk_to a zero y w = w
  walk_to a (suc n) y w = (w.0, walk_to a n w.0 w.1, to_steps w.0 y w.2)

  walk_from : (a : State) (n : ℕ) (y : State) → Walk (Steps holder lane_number (Residual M f) (Turns M) (Pole false)) a n y → Walk (Step M f) a n y
  walk_from a zero y w = w
  walk_from a (suc n) y w = (w.0, walk_from a n w.0 w.1, from_steps w.0 y w.2)

  level_from : (a : State) (n : ℕ) (y : State) → Level (Steps holder lane_number (Residual M f) (Turns M) (Pole false)) a n y → Level (Step M f) a n y
  level_from a n y l = record { walk = walk_from a n y l.walk; shortest = λ m w. l.shortest m (walk_to a m y w) }

  level_to : (a : State) (n : ℕ) (y : State) → Level (Step M f) a n y → Level (Steps holder lane_number (Residual M f) (Turns M) (Pole false)) a n y
  level_to a n y l = record { walk = walk_to a n y l.walk; shortest = λ m w. l.shortest m (walk_from a m y w) }

  -- the path read back from the end's label
  module _ (N : ℕ) (In : ℕ → State → Type 0) (name : State → State) (labels : LevelLabels M f N In name)
      (P : ℕ → State) (some : 0 < N) (end : P N ≡ Pole true) (there : In N (P N)) (names : (i : ℕ) → i < N → P i ≡ name (P (suc i))) where
    levels : Straight (Step M f) P N
    levels i l =
        level_from (P 0) i (P i) (path_straight holder lane_number (Residual M f) (Turns M) (Pole false) turning N In name labels P there names i l)

    gives : (i : ℕ) → i < N → Residual M f (P i) (P (suc i))
    gives i l =
        subst⁻¹ (λ x. Residual M f x (P (suc i))) (names i l)
        (labels.by i (P (suc i)) (path_in holder lane_number (Residual M f) (Turns M) (Pole false) turning N In name labels P there names (suc i) l))

    ok : (i : ℕ) → i ≤ N → OnFloor M (P i)
    ok zero l = (gives 0 some).ok_from
    ok (suc i) l = (gives i l).ok_to

    pub found : Found M f P N
    found = record {
      path = record {
        begin = sym (labels.top (P 0) (path_in holder lane_number (Residual M f) (Turns M) (Pole false) turning N In name labels P there names 0 (omega arith)));
        finish = end;
        ok = ok;
        meet = λ i l. (gives i l).meet;
        some = λ i l. (gives i l).some;
        straight = λ i l. (gives i l).straight;
        short = λ i j l m s.
            (levels j m).shortest (suc i) (P i, (levels i (omega arith)).walk, s);
      };
      straight = levels;
      lowest = λ i x l lx s.
          path_lowest holder lane_number (Residual M f) (Turns M) (Pole false) turning N In name labels P there names i x l (level_to (P 0) i x lx) (to_steps x (P (suc i)) s);
    }

pub search_finds : SearchFinds
search_finds M f N lab name P laws fits labels some end there names =
    found M laws f fits N (λ i x. lab i x ≡ true) name labels P some end there names
