-- A floor with each lane turned round. What leaves there enters here, so that a theorem on arrivals is one on departures too.
use Rattle.std.proofs.Common.{◌≡◌, ℕ, zero, suc, ◌+◌, ◌-◌, ◌<◌, ◌≤◌, min, Bool, true, false, cond, not, ◌&&◌, eqb, sym, refl, ap, ◌∙◌, subst, ap₂, inl, inr, arith}
use mathlib.Core.Path.{fun_ext}
use native.Mathlib.Nat.{min_comm}
use Rattle.polymatroid.specs.Finite.{first}
use Rattle.polymatroid.specs.Side.{room_but}
use Rattle.floor.specs.Floor.{place, count, lane_at}
use Rattle.floor.specs.Meaning.{Meaning, Lawful}
use Rattle.network.specs.Plans.{trays, Fits}
use Rattle.network.specs.States.{State, Pole, Plus, Minus, at, room_at, lane_room, lane_room_but, amount, OnFloor, Turn, Step, Path, applied, augmented}
use Rattle.polymatroid.proofs.Finite.{first_passes, first_before}
use Rattle.std.proofs.lemmas.Bool.{cases_lt, cases_eq, both_ways}
use Rattle.network.proofs.Paths.{touches, walked_other, walked_touched}

abbrev pub mirror : Meaning → Meaning
mirror M = record {
  floor = record {
    stations = M.floor.stations;
    lanes = M.floor.lanes;
    pole = λ b. M.floor.pole (not b);
    end = λ d e. M.floor.end (not d) e;
  };
  cap = λ d i X. M.cap (not d) i X;
}

abbrev pub mirrored : State → State
mirrored (Pole b) = Pole (not b)
mirrored (Plus e) = Plus e
mirrored (Minus e) = Minus e

pub place_mirror : (M : Meaning) (d : Bool) (i e : ℕ) → place (mirror M).floor d i e ≡ place M.floor (not d) i e
unfolding place
place_mirror M d i zero = refl
place_mirror M d i (suc e) = ap (λ x. x + cond (eqb (M.floor.end (not d) e) i) 1 0) (place_mirror M d i e)

pub lane_mirror : (M : Meaning) (d : Bool) (i p : ℕ) → lane_at (mirror M).floor d i p ≡ lane_at M.floor (not d) i p
unfolding lane_at
lane_mirror M d i p =
    ap (λ t. first t M.floor.lanes) (fun_ext (λ e. ap (λ x. eqb (M.floor.end (not d) e) i && eqb x p) (place_mirror M d i e)))

pub trays_mirror : (M : Meaning) (f : ℕ → ℕ) (d : Bool) (i : ℕ) → trays (mirror M) f d i ≡ trays M f (not d) i
trays_mirror M f d i = fun_ext (λ p. ap f (lane_mirror M d i p))

pub room_mirror : (M : Meaning) (f : ℕ → ℕ) (d : Bool) (e g : ℕ) → room_at (mirror M) f d e g ≡ room_at M f (not d) e g
unfolding room_at
room_mirror M f d e g =
    let i : ℕ = M.floor.end (not d) e in
    ap (λ c. room_but c (M.cap (not d) i) (trays (mirror M) f d i) (place (mirror M).floor d i e) g) (place_mirror M d i M.floor.lanes)
    ∙ ap (λ w. room_but (count M.floor (not d) i) (M.cap (not d) i) w (place (mirror M).floor d i e) g) (trays_mirror M f d i)
    ∙ ap (λ p. room_but (count M.floor (not d) i) (M.cap (not d) i) (trays M f (not d) i) p g) (place_mirror M d i e)

pub all_mirror : (M : Meaning) (f : ℕ → ℕ) (d : Bool) (e : ℕ) → lane_room (mirror M) f d e ≡ lane_room M f (not d) e
all_mirror M f d e =
    room_mirror M f d e (count (mirror M).floor d (M.floor.end (not d) e)) ∙ ap (room_at M f (not d) e) (place_mirror M d (M.floor.end (not d) e) M.floor.lanes)

pub less_mirror : (M : Meaning) (f : ℕ → ℕ) (d : Bool) (e g : ℕ) → lane_room_but (mirror M) f d e g ≡ lane_room_but M f (not d) e g
less_mirror M f d e g =
    room_mirror M f d e (place (mirror M).floor d (M.floor.end (not d) e) g) ∙ ap (room_at M f (not d) e) (place_mirror M d (M.floor.end (not d) e) g)

pub at_mirror : (M : Meaning) (d : Bool) (x : State) → at (mirror M) d (mirrored x) ≡ at M (not d) x
at_mirror M true (Pole true) = refl
at_mirror M true (Pole false) = refl
at_mirror M false (Pole true) = refl
at_mirror M false (Pole false) = refl
at_mirror M true (Plus e) = refl
at_mirror M false (Plus e) = refl
at_mirror M true (Minus e) = refl
at_mirror M false (Minus e) = refl

pub amount_mirror : (M : Meaning) (f : ℕ → ℕ) (x y : State) → amount (mirror M) f (mirrored y) (mirrored x) ≡ amount M f x y
amount_mirror M f (Pole b) (Pole c) = refl
amount_mirror M f (Pole false) (Plus g) = all_mirror M f true g
amount_mirror M f (Pole true) (Plus g) = refl
amount_mirror M f (Pole b) (Minus g) = refl
amount_mirror M f (Plus e) (Pole false) = refl
amount_mirror M f (Plus e) (Pole true) = all_mirror M f false e
amount_mirror M f (Plus e) (Plus g) =
    ap₂ min (all_mirror M f true g) (all_mirror M f false e) ∙ min_comm (lane_room M f false g) (lane_room M f true e)
amount_mirror M f (Plus e) (Minus g) =
    ap (min (f g)) (less_mirror M f false e g) ∙ min_comm (f g) (lane_room_but M f true e g)
amount_mirror M f (Minus e) (Pole c) = refl
amount_mirror M f (Minus e) (Plus g) =
    ap (λ x. min x (f e)) (less_mirror M f true g e) ∙ min_comm (lane_room_but M f false g e) (f e)
amount_mirror M f (Minus e) (Minus g) = min_comm (f g) (f e)

pub lawful_mirror : (M : Meaning) → Lawful M → Lawful (mirror M)
lawful_mirror M laws = record {
  rules = record {
    two_stations = laws.rules.two_stations;
    few_stations = laws.rules.few_stations;
    few_lanes = laws.rules.few_lanes;
    pole_on = λ d. laws.rules.pole_on (not d);
    poles_differ = λ q. laws.rules.poles_differ (sym q);
    end_on = λ d e l. laws.rules.end_on (not d) e l;
    ends_differ = λ d e l q. laws.rules.ends_differ (not d) e l q;
    poles_clear = λ d e l q. laws.rules.poles_clear (not d) e l q;
    narrow = λ d i l. rw (place_mirror M d i M.floor.lanes) (laws.rules.narrow (not d) i l);
  };
  laws = λ d i l. rw (place_mirror M d i M.floor.lanes) (laws.laws (not d) i l);
}

pub fits_mirror : (M : Meaning) (f : ℕ → ℕ) → Fits M f → Fits (mirror M) f
fits_mirror M f fits d i l = rw (place_mirror M d i M.floor.lanes, trays_mirror M f d i) (fits (not d) i l)

pub ok_mirror : (M : Meaning) (x : State) → OnFloor M x → OnFloor (mirror M) (mirrored x)
ok_mirror M (Pole b) h = tt
ok_mirror M (Plus e) h = h
ok_mirror M (Minus e) h = h

ok_back : (M : Meaning) (x : State) → OnFloor (mirror M) (mirrored x) → OnFloor M x
ok_back M (Pole b) h = tt
ok_back M (Plus e) h = h
ok_back M (Minus e) h = h

turn_back : (x y : State) → Turn (mirrored y) (mirrored x) → Turn x y
turn_back (Pole b) (Pole c) t = t
turn_back (Pole b) (Plus g) t = t
turn_back (Pole b) (Minus g) t = t
turn_back (Plus e) (Pole c) t = t
turn_back (Plus e) (Plus g) t = t
turn_back (Plus e) (Minus g) t = sym t
turn_back (Minus e) (Pole c) t = t
turn_back (Minus e) (Plus g) t = sym t
turn_back (Minus e) (Minus g) t = t

turn_mirror : (x y : State) → Turn x y → Turn (mirrored y) (mirrored x)
turn_mirror (Pole b) y t = absurd t
turn_mirror (Plus e) (Pole c) t = t
turn_mirror (Plus e) (Plus g) t = t
turn_mirror (Plus e) (Minus g) t = sym t
turn_mirror (Minus e) (Pole c) t = t
turn_mirror (Minus e) (Plus g) t = sym t
turn_mirror (Minus e) (Minus g) t = t

pub step_back : (M : Meaning) (f : ℕ → ℕ) (x y : State) → Step (mirror M) f (mirrored y) (mirrored x) → Step M f x y
step_back M f x y s = record {
  ok_from = ok_back M x s.ok_to;
  ok_to = ok_back M y s.ok_from;
  meet = sym (sym (at_mirror M true y) ∙ s.meet ∙ at_mirror M false x);
  some = elim s.some [ inl h ↦ inl (omega (arith, amount_mirror M f x y)) | inr t ↦ inr (turn_back x y t) ];
}

pub step_mirror : (M : Meaning) (f : ℕ → ℕ) (x y : State) → Step M f x y → Step (mirror M) f (mirrored y) (mirrored x)
step_mirror M f x y s = record {
  ok_from = ok_mirror M y s.ok_to;
  ok_to = ok_mirror M x s.ok_from;
  meet = at_mirror M true y ∙ sym s.meet ∙ sym (at_mirror M false x);
  some = elim s.some [ inl h ↦ inl (omega (arith, amount_mirror M f x y)) | inr t ↦ inr (turn_mirror x y t) ];
}

touches_mirror : (x : State) (e : ℕ) → touches (mirrored x) e ≡ touches x e
unfolding touches
touches_mirror (Pole b) e = refl
touches_mirror (Plus a) e = refl
touches_mirror (Minus a) e = refl

applied_mirror : (n : ℕ) (x : State) (f : ℕ → ℕ) (e : ℕ) → applied n (mirrored x) f e ≡ applied n x f e
applied_mirror n (Pole b) f e = refl
applied_mirror n (Plus a) f e = refl
applied_mirror n (Minus a) f e = refl

pole_off : (b : Bool) (e : ℕ) → touches (Pole b) e ≡ false
unfolding touches
pole_off b e = refl

-- the path from its end
abbrev pub back : (ℕ → State) → ℕ → ℕ → State
back P N i = mirrored (P (N - i))

module _ (M : Meaning) (f : ℕ → ℕ) (P : ℕ → State) (N : ℕ) (path : Path M f P N) where
  -- the states before and after a step from the end
  one_on : (i : ℕ) → i < N → P (N - i) ≡ P (suc (N - suc i))
  one_on i l = ap P (omega arith)

  pub path_mirror : Path (mirror M) f (back P N) N
  path_mirror = record {
    begin = ap (λ j. mirrored (P j)) (omega arith) ∙ ap mirrored path.finish;
    finish = ap (λ j. mirrored (P j)) (omega arith) ∙ ap mirrored path.begin;
    ok = λ i l. ok_mirror M (P (N - i)) (path.ok (N - i) (omega arith));
    meet = λ i l.
        at_mirror M true (P (N - i)) ∙ ap (at M false) (one_on i l) ∙ sym (path.meet (N - suc i) (omega arith))
        ∙ sym (at_mirror M false (P (N - suc i)));
    some = λ i l.
        rw (one_on i l) (omega (arith, amount_mirror M f (P (N - suc i)) (P (suc (N - suc i))), path.some (N - suc i) (omega arith)));
    straight = λ i l t.
        path.straight (N - suc i) (omega arith)
        (turn_back (P (N - suc i)) (P (suc (N - suc i))) (subst (λ x. Turn (mirrored x) (mirrored (P (N - suc i)))) (one_on i l) t));
    short = λ i j l m s.
        omega (arith, path.short (N - j) (N - i) (omega arith) (omega arith) (step_back M f (P (N - j)) (P (N - i)) s));
  }

  -- the same move from the end
  pub walked_back : (n e : ℕ) → augmented n (back P N) N f e ≡ augmented n P N f e
  walked_back n e =
      elim (cases_lt i N) [
        | inl l ↦
            let t = first_passes (λ j. touches (P j) e) N l in
            let z : i ≡ 0 → ⊥ = λ q. both_ways (touches (P i) e) (ap (λ x. touches x e) (ap P q ∙ path.begin) ∙ pole_off false e) t in
            let p : back P N (N - i) ≡ mirrored (P i) = ap (λ j. mirrored (P j)) (omega arith) in
            walked_touched (mirror M) f (back P N) N path_mirror n (N - i) N e (omega arith) (omega arith)
            (ap (λ x. touches x e) p ∙ touches_mirror (P i) e ∙ t)
            ∙ ap (λ x. applied n x f e) p ∙ applied_mirror n (P i) f e
            ∙ sym (walked_touched M f P N path n i N e l (omega arith) t)
        | inr l ↦
            walked_other n (back P N) f N e (λ j m. touches_mirror (P (N - j)) e ∙ none (N - j) (omega arith) l)
            ∙ sym (walked_other n P f N e (λ j m. none j (omega arith) l))
      ]
    where
      i : ℕ
      i = first (λ j. touches (P j) e) N

      none : (j : ℕ) → j ≤ N → N ≤ i → touches (P j) e ≡ false
      none j m l =
          elim (cases_eq j N) [
            | inl q ↦ ap (λ x. touches x e) (ap P q ∙ path.finish) ∙ pole_off true e
            | inr q ↦ first_before (λ j. touches (P j) e) N j (omega arith)
          ]
