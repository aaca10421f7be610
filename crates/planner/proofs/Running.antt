-- A run, step by step.
use Rattle.std.proofs.Common.{◌≡◌, ℕ, suc, ◌+◌, ◌-◌, ◌<◌, Some, None, Option, sym, ap, ◌∙◌, arith}
use Rattle.floor.specs.Meaning.{Meaning}
use Rattle.calls.specs.Does.{Held, step_does, run_after, run_does}

-- a run with n moves made before it
abbrev pub later : ℕ → ℕ × Held → ℕ × Held
later n r = (n + r.0, r.1)

module _ (M : Meaning) where
  -- a run before its first step
  pub run_starts : (b : ℕ) (s : Held) → run_does M b s ≡ later 0 (run_does M (b - 0) s)
  run_starts b s =
      let whole : b - 0 ≡ b = omega arith in
      ap (λ k. (k, (run_does M b s).1)) (omega arith) ∙ ap (λ j. later 0 (run_does M j s)) (sym whole)

  -- a run with no step left
  pub run_none : (n : ℕ) (s : Held) → later n (run_does M 0 s) ≡ (n, s)
  unfolding run_does
  run_none n s = ap (λ k. (k, s)) (omega arith)

  -- a run whose next step makes a move
  pub run_more : (b n : ℕ) (s t : Held) (p : ℕ × ℕ) → n < b → ◌≡◌ {A = Option (ℕ × ℕ) × Held} (Some p, t) (step_does M s)
      → later n (run_does M (b - n) s) ≡ later (n + 1) (run_does M (b - (n + 1)) t)
  unfolding run_does
  run_more b n s t p l h =
      let one : b - n ≡ suc (b - (n + 1)) = omega arith in
      let next = ap (run_after (run_does M (b - (n + 1)))) (sym h) in
      ap (λ j. later n (run_does M j s)) one ∙ ap (later n) next ∙ ap (λ k. (k, (run_does M (b - (n + 1)) t).1)) (omega arith)

  -- a run whose next step finds the plan finished
  pub run_stops : (b n : ℕ) (s t : Held) → n < b → ◌≡◌ {A = Option (ℕ × ℕ) × Held} (None, t) (step_does M s) → later n (run_does M (b - n) s) ≡ (n, t)
  unfolding run_does
  run_stops b n s t l h =
      let one : b - n ≡ suc (b - (n + 1)) = omega arith in
      ap (λ j. later n (run_does M j s)) one ∙ ap (later n) (ap (run_after (run_does M (b - (n + 1)))) (sym h)) ∙ ap (λ k. (k, t)) (omega arith)
