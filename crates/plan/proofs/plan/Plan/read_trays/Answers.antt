-- The buffer then holds what was written into it.
use Rattle.std.proofs.Common.{◌≡◌, length, drop, vec_items, refl, subst, arith}
use mathlib.Core.Path.{subst⁻¹}
use Rattle.std.specs.Vec.{with_items}
use Rattle.calls.specs.Events.{told_trays}
use Rattle.searches.proofs.Refills.{refilled_is}
use Rattle.plan.specs.Plans.{Meets}
use Rattle.plan.proofs.plan.Plan.read_trays.Goals as goal

pub returns : goal.returns
returns g c =
    let buffer = c.args.buffer in
    let r = c.trays-read.result in
    let ys = c.trays-read.new.out in
    let len : length ys ≡ buffer.len = omega (arith, c.trays-read.auto, c.as_mut_slice.ensures.len) in
    let held : vec_items (with_items buffer ys) ≡ ys = refilled_is buffer.len ys (drop (length ys) buffer.items) len in
    let met =
    subst (λ xs. Meets g.P.Plant.meaning c.args.self.now (told_trays xs r (vec_items (with_items buffer ys))) c.args.self.now) c.as_mut_slice.ensures.value
    (subst⁻¹ (λ zs. Meets g.P.Plant.meaning c.args.self.now (told_trays c.as_mut_slice.result.now r zs) c.args.self.now) held c.trays-read.ensures) in
    (told_trays (vec_items buffer) r (vec_items (with_items buffer ys)), (r, with_items buffer ys, refl, refl), met)
