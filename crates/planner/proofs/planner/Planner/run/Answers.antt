-- Each turn makes one step of the run.
use Rattle.std.proofs.Common.{◌≡◌, ℕ, ◌-◌, Some, None, Option, sym, refl, ap, ◌∙◌, subst, arith}
use Rattle.tables.specs.Tables.{meaning_in}
use Rattle.tables.specs.declared.tables.Tables.{Tables}
use Rattle.calls.specs.Does.{Held, step_does, run_does}
use Rattle.planner.specs.Planning.{held_in}
use Rattle.planner.proofs.Running.{later, run_starts, run_none, run_more, run_stops}
use Rattle.planner.proofs.planner.Planner.run.Goals as goal

pub loop-moves-init : goal.loop-moves-init
loop-moves-init c = (refl, run_starts (meaning_in c.args.self.now.tables) c.args.budget (held_in c.args.self.now))

pub returns-in_default : goal.returns-in_default
returns-in_default c =
    let M = meaning_in c.args.self.now.tables in
    let p = c.loop-moves.self in
    let q = c.step.new.self in
    let did = c.in_default.ensures in
    let does = subst (λ (t : Tables). ◌≡◌ {A = Option (ℕ × ℕ) × Held} (None, held_in q) (step_does (meaning_in t) (held_in p))) c.loop-moves.invariant.0 did.does in
    record {
      same = did.same ∙ c.loop-moves.invariant.0;
      does = (sym (c.loop-moves.invariant.1 ∙ run_stops M c.args.budget c.loop-moves.moves (held_in p) (held_in q) c.loop-moves-test.true does), refl);
    }

pub loop-moves-preserved : goal.loop-moves-preserved
loop-moves-preserved c =
    let M = meaning_in c.args.self.now.tables in
    let p = c.loop-moves.self in
    let q = c.step.new.self in
    let v : ℕ × ℕ = (c.in-Some.field-0-0, c.in-Some.field-0-1) in
    let did = c.in-Some.ensures in
    let does = subst (λ (t : Tables). ◌≡◌ {A = Option (ℕ × ℕ) × Held} (Some v, held_in q) (step_does (meaning_in t) (held_in p))) c.loop-moves.invariant.0 did.does in (
      did.same ∙ c.loop-moves.invariant.0,
      c.loop-moves.invariant.1 ∙ run_more M c.args.budget c.loop-moves.moves (held_in p) (held_in q) v c.loop-moves-test.true does,
    )

pub returns : goal.returns
returns c =
    let M = meaning_in c.args.self.now.tables in
    let b = c.args.budget in
    let n = c.loop-moves.moves in
    let s = held_in c.loop-moves.self in
    let all : n ≡ b = omega (arith, c.loop-moves-test.false, c.loop-moves.auto.moves-end) in
    let none : b - n ≡ 0 = omega arith in
    let ends = ap (λ j. later n (run_does M j s)) none ∙ run_none M n s ∙ ap (λ k. (k, s)) all in
    record { same = c.loop-moves.invariant.0; does = (sym (c.loop-moves.invariant.1 ∙ ends), refl) }
