-- Each turn makes one call more.
use Rattle.std.proofs.Common.{[], ◌∷◌, ◌++◌, vec_items, sym, ap, ◌∙◌, append_assoc, arith}
use mathlib.Core.Path.{subst⁻¹}
use Rattle.std.specs.Vec.Iter.{into_iter_items}
use Rattle.plan.specs.Journal.{Replays}
use Rattle.plan.proofs.Replaying.{replays_none, replays_more}
use Rattle.plan.proofs.plan.Plan.replay.Goals as goal

pub loop-call-init : goal.loop-call-init
loop-call-init g c =
    let M = g.P.Plant.meaning in
    let p = c.args.self.now in
    let empty = c.in_ok-told.ensures in
    let left = c.into_iter-call-iterator.ensures.into_iter_gives in (
      tt,
      tt,
      omega (arith, empty.len, empty.capacity, left.1, c.len.ensures),
      ([], sym left.0, subst⁻¹ (λ bs. Replays M p [] bs p) empty.items (replays_none M p)),
    )

pub loop-call-preserved : goal.loop-call-preserved
loop-call-preserved g c =
    let M = g.P.Plant.meaning in
    let p = c.args.self.now in
    let room = c.loop-call.invariant.2 in
    let told = c.loop-call.invariant.3 in
    let cs = told.0 in
    let x = c.in-Some.call in
    let next = c.in-Some.ensures.steps in
    let rest = into_iter_items c.next.new.self in
    let after = replays_more M p cs (vec_items c.loop-call.told) c.loop-call.self x c.call.result c.call.new.self told.2 c.call.ensures in (
      tt,
      tt,
      omega (arith, room, next.1, c.push_reserved.ensures),
      (
        cs ++ x ∷ [],
        told.1 ∙ ap (λ ys. cs ++ ys) next.0 ∙ sym (append_assoc cs (x ∷ []) rest),
        subst⁻¹ (λ bs. Replays M p (cs ++ x ∷ []) bs c.call.new.self) c.push_reserved.ensures.items after,
      ),
    )
