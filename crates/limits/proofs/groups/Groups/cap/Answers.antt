use Rattle.std.proofs.Common.{◌≡◌, ℕ, suc, ◌-◌, ◌≤◌, min, length, get_or, sym, ap, ◌∙◌, arith, rules}
use Rattle.std.proofs.lemmas.List.{length-set}
use Rattle.polymatroid.specs.Kinds.{Groups, own}
use Rattle.polymatroid.specs.More.{reached}
use Rattle.plantformat.specs.Judge.{parents_at}
use Rattle.limits.specs.Checks.{groups_in}
use Rattle.limits.proofs.Checked.{length_parents, parents_is, bounds_is}
use Rattle.limits.proofs.CapSums.{own_low}
use Rattle.limits.proofs.Sweeps.{parent_lower, bound_low, in_order, reached_first, reached_low, passed_up, swept_is}
use Rattle.limits.proofs.groups.Groups.cap.Goals as goal

pub loop-group-init : goal.loop-group-init
loop-group-init c =
    let G : Groups = groups_in c.args.self.count c.args.self.numbers.now c.args.own.now in
    let k = length c.args.own.now in
    let start : c.args.self.count - c.args.self.count ≡ 0 = omega arith in
    (search rules, c.requires.groups.some, λ i l. c.own_sums-sums.ensures i l ∙ sym (reached_first G k c.args.set i) ∙ ap (λ n. reached G k c.args.set n i) (sym start))

pub overflow_add-sums : goal.overflow_add-sums
overflow_add-sums c =
    let G : Groups = groups_in c.args.self.count c.args.self.numbers.now c.args.own.now in
    let k = length c.args.own.now in
    let n = length_parents c.args.self.numbers.now c.args.self.count in
    let j : ℕ = c.loop-group.group - 1 in
    let p = c.parent.result in
    let lower = parent_lower c.requires.groups j (omega arith) (omega arith) in
    let own_share : (i : ℕ) → own G k i c.args.set ≤ 800000 = λ i. omega (arith, own_low G i c.args.set 100000 k c.requires.low) in
    let low =
    reached_low G k c.args.set 800000 1000000 own_share (λ j l. bound_low c.requires.groups j (omega arith)) (c.args.self.count - c.loop-group.group) (omega arith) p in
    let bound = bounds_is c.args.self.numbers.now c.args.self.count j (omega arith) in
    let top = bound_low c.requires.groups j (omega arith) in
    omega (arith, c.loop-group.invariant.2 p (omega arith))

pub loop-group-preserved : goal.loop-group-preserved
loop-group-preserved c =
    let G : Groups = groups_in c.args.self.count c.args.self.numbers.now c.args.own.now in
    let k = length c.args.own.now in
    let n = length_parents c.args.self.numbers.now c.args.self.count in
    let j : ℕ = c.loop-group.group - 1 in
    let p = c.parent.result in
    let xs = c.loop-group.sums in
    let size = c.loop-group.invariant.0 in
    let lower = parent_lower c.requires.groups j (omega arith) (omega arith) in
    let parent : get_or (parents_at c.args.self.count c.args.self.numbers.now) j 0 ≡ p =
    parents_is c.args.self.numbers.now c.args.self.count j (omega arith) ∙ sym c.parent.ensures in
    let bound = bounds_is c.args.self.numbers.now c.args.self.count j (omega arith) in
    let passed = c.let_through-passed.ensures ∙ ap (min (get_or xs j 0)) (sym bound) in
    let steps : c.args.self.count - j ≡ suc (c.args.self.count - c.loop-group.group) = omega arith in (
      length-set xs p _ ∙ size,
      omega arith,
      λ i l.
          passed_up G k c.args.set (c.args.self.count - c.loop-group.group) j p c.let_through-passed.result xs c.loop-group.invariant.2 (omega arith)
          (omega arith) (omega arith) parent passed i l
          ∙ ap (λ n. reached G k c.args.set n i) (sym steps),
    )

pub returns : goal.returns
returns c =
    let G : Groups = groups_in c.args.self.count c.args.self.numbers.now c.args.own.now in
    let k = length c.args.own.now in
    let n = length_parents c.args.self.numbers.now c.args.self.count in
    let some = c.requires.groups.some in
    let bound = bounds_is c.args.self.numbers.now c.args.self.count 0 (omega arith) in
    let root = c.loop-group.invariant.2 0 (omega arith) in
    let turns : ℕ = c.args.self.count - c.loop-group.group in
    let through : c.let_through.result ≡ min (reached G k c.args.set turns 0) (G.bound 0) = omega arith in
    swept_is G k c.args.set (in_order c.requires.groups c.args.own.now) turns c.let_through.result (omega arith) through
