-- What a step and a run leave: right moves made, counted, and finished only where no path is left.
use Rattle.std.proofs.Common.{◌≡◌, ℕ, zero, suc, ◌+◌, ◌^◌, ◌<◌, ◌≤◌, Bool, true, false, cond, List, [], ◌∷◌, length, Some, None, Option, refl, ap, ◌∙◌, subst, arith}
use mathlib.Core.Path.{subst⁻¹}
use mathlib.Core.Option as option
use Rattle.std.proofs.lemmas.Bool.{both_ways}
use Rattle.floor.specs.Meaning.{Meaning, Lawful}
use Rattle.network.specs.Plans.{Feasible}
use Rattle.labelling.specs.Steps.{Move, step, made, made_all}
use Rattle.calls.specs.Events.{at}
use Rattle.calls.specs.Law.{RightMove, RightMoves}
use Rattle.calls.specs.Does.{Held, held, counted, tray_list, step_by, step_does, run_after, run_does}
use Rattle.calls.proofs.SameTrays.{list_ends, listed, listed_length, made_ends}
use Rattle.calls.proofs.Moves.{step_right, right_feasible}

-- the trays held are a plan, one number for each lane, and no path is left where it is finished
pub record Sound (M : Meaning) (s : Held) : Type 0 where
  pub one_each : length s.trays ≡ M.floor.lanes
  pub feasible : Feasible M (at s.trays)
  pub no_path : s.finished ≡ true → step M (at s.trays) ≡ option.none

no_move : (v : Move) (o : option.Option Move) → o ≡ option.none → o ≡ option.some v → ⊥
no_move v o a b = let z : ◌≡◌ {A = ℕ} 0 1 = cc in omega arith

module _ (M : Meaning) (laws : Lawful M) (s : Held) (ok : Sound M s) where
  -- what a move leaves
  abbrev pub after : Move → Held
  after v = held (tray_list M.floor.lanes (made v (at s.trays))) (counted s.moves) false

  pub right_after : (v : Move) → step M (at s.trays) ≡ option.some v → RightMove M (at s.trays) v
  right_after v h = step_right M laws (at s.trays) ok.feasible v h

  pub trays_after : (v : Move) → step M (at s.trays) ≡ option.some v → at (after v).trays ≡ made v (at s.trays)
  trays_after v h =
      listed M.floor.lanes (made v (at s.trays))
      (made_ends M (at s.trays) v (right_after v h) (list_ends s.trays M.floor.lanes ok.one_each))

  pub sound_after : (v : Move) → step M (at s.trays) ≡ option.some v → Sound M (after v)
  sound_after v h = record {
    one_each = listed_length M.floor.lanes (made v (at s.trays));
    feasible = subst⁻¹ (Feasible M) (trays_after v h) (right_feasible M laws (at s.trays) ok.feasible v (right_after v h));
    no_path = λ e. absurd (both_ways false refl e);
  }

  -- a step that finds no path
  pub step_none : step M (at s.trays) ≡ option.none → ◌≡◌ {A = Option (ℕ × ℕ) × Held} (step_does M s) (None, held s.trays s.moves true)
  step_none h = by s.finished refl
    where
      by : (b : Bool) → s.finished ≡ b → ◌≡◌ {A = Option (ℕ × ℕ) × Held} (step_does M s) (None, held s.trays s.moves true)
      by true q =
          ap (λ b. cond {A = Option (ℕ × ℕ) × Held} b (None, s) (step_by M s (step M (at s.trays)))) q
          ∙ ap (λ b. (None, held s.trays s.moves b)) q
      by false q = ap (λ b. cond {A = Option (ℕ × ℕ) × Held} b (None, s) (step_by M s (step M (at s.trays)))) q ∙ ap (step_by M s) h

  -- a step that finds one
  pub step_some : (v : Move) → step M (at s.trays) ≡ option.some v → ◌≡◌ {A = Option (ℕ × ℕ) × Held} (step_does M s) (Some (v.amount, length v.lanes), after v)
  step_some v h = by s.finished refl
    where
      by : (b : Bool) → s.finished ≡ b → ◌≡◌ {A = Option (ℕ × ℕ) × Held} (step_does M s) (Some (v.amount, length v.lanes), after v)
      by true q = absurd (no_move v (step M (at s.trays)) (ok.no_path q) h)
      by false q = ap (λ b. cond {A = Option (ℕ × ℕ) × Held} b (None, s) (step_by M s (step M (at s.trays)))) q ∙ ap (step_by M s) h

-- ---- runs

-- what a run of budget b from s comes to, if it makes n moves and leaves t
pub record Along (M : Meaning) (b : ℕ) (s : Held) (n : ℕ) (t : Held) : Type 0 where
  pub moves : List Move
  pub right : RightMoves M (at s.trays) moves
  pub count : length moves ≡ n
  pub leads : at t.trays ≡ made_all moves (at s.trays)
  pub sound : Sound M t
  pub within : n ≤ b
  pub all : t.finished ≡ false → n ≡ b
  pub told : s.moves + n < 2 ^ 64 → t.moves ≡ s.moves + n

module _ (M : Meaning) (laws : Lawful M) where
  pub run_along : (b : ℕ) (s : Held) → Sound M s → Along M b s (run_does M b s).0 (run_does M b s).1
  unfolding run_does made_all
  run_along zero s ok = record {
    moves = [];
    right = tt;
    count = refl;
    leads = refl;
    sound = ok;
    within = omega arith;
    all = λ e. refl;
    told = λ l. omega arith;
  }
  run_along (suc b) s ok = by (step M (at s.trays)) refl (λ u o. run_along b u o)
    where
      by : (o : option.Option Move) → step M (at s.trays) ≡ o → ((u : Held) → Sound M u → Along M b u (run_does M b u).0 (run_does M b u).1)
          → Along M (suc b) s (run_after (run_does M b) (step_does M s)).0 (run_after (run_does M b) (step_does M s)).1
      by option.none q next =
          subst⁻¹ (λ p. Along M (suc b) s (run_after (run_does M b) p).0 (run_after (run_does M b) p).1) (step_none M laws s ok q) (record {
            moves = [];
            right = tt;
            count = refl;
            leads = refl;
            sound = record { one_each = ok.one_each; feasible = ok.feasible; no_path = λ e. q };
            within = omega arith;
            all = λ e. absurd (both_ways true e refl);
            told = λ l. omega arith;
          })
      by (option.some v) q next =
          let a = next (after M laws s ok v) (sound_after M laws s ok v q) in
          let is = trays_after M laws s ok v q in
          subst⁻¹ (λ p. Along M (suc b) s (run_after (run_does M b) p).0 (run_after (run_does M b) p).1) (step_some M laws s ok v q) (record {
            moves = v ∷ a.moves;
            right = (right_after M laws s ok v q, subst (λ f. RightMoves M f a.moves) is a.right);
            count = ap suc a.count;
            leads = a.leads ∙ ap (made_all a.moves) is;
            sound = a.sound;
            within = omega (arith, a.within);
            all = λ e. ap suc (a.all e);
            told = λ l. a.told (omega arith) ∙ omega arith;
          })
