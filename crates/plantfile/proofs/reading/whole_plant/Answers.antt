use Rattle.std.proofs.Common.{◌<◌, length, refl, sym, ap, ◌∙◌, arith, false-eqb}
use Rattle.std.proofs.lemmas.Result.{err_from_is_err_and}
use Rattle.plantformat.specs.Judge.{Draft, read_on}
use Rattle.answers.specs.Content.{content}
use Rattle.plantfile.proofs.Whole.{opened_keeps, judged_on, stops, grown_keeps, rest_less, read_more}
use Rattle.plantfile.proofs.reading.whole_plant.Goals as goal

pub bare-plant-requires : goal.bare-plant-requires
bare-plant-requires c = (opened_keeps c.args.file.now c.in_ok-first.first.value c.in_ok-first.first.rest.now (sym c.in_ok-first.ensures)).0

pub loop-rest-init : goal.loop-rest-init
loop-rest-init c =
    let first = c.in_ok-first.first in
    let bs = c.args.file.now in
    let is = sym c.in_ok-first.ensures in (
      judged_on bs first.value first.rest.now is
          ∙ ap (λ (d : Draft). read_on (length first.rest.now) (length bs) d first.rest.now) (sym c.bare-plant.ensures),
      (opened_keeps bs first.value first.rest.now is).1,
    )

pub returns-in_err-next : goal.returns-in_err-next
returns-in_err-next c =
    let bs = c.loop-rest.rest.now in
    let h = c.loop-rest-test.ensures in
    let p = err_from_is_err_and c.from_residual-in_err-next.result c.from_residual-in_err-next.ensures.1 in
    rw (p.1, p.2) (
      c.in_err-next.field-0.0,
      c.loop-rest.invariant.0
          ∙ stops (length c.args.file.now) (content c.loop-rest.plant) bs (omega (arith, false-eqb (length bs) 0 h)) c.in_err-next.field-0.0
          (sym c.in_err-next.ensures),
      refl,
    )

pub add-requires : goal.add-requires
add-requires c =
    let bs = c.loop-rest.rest.now in
    let h = c.loop-rest-test.ensures in
    let next = c.in_ok-next.next in
    grown_keeps (length c.args.file.now) (content c.loop-rest.plant) bs (omega (arith, false-eqb (length bs) 0 h)) c.loop-rest.plant.kept
    next.value next.rest.now (sym c.in_ok-next.ensures)

-- the bytes that are left grow fewer
fewer : (c : goal.After-rest-in-loop-rest-1) → length c.in_ok-next.next.rest.now < length c.loop-rest.rest.now
fewer c =
    let bs = c.loop-rest.rest.now in
    let h = c.loop-rest-test.ensures in
    let next = c.in_ok-next.next in
    rest_less (length c.args.file.now) (content c.loop-rest.plant) bs (omega (arith, false-eqb (length bs) 0 h)) c.loop-rest.plant.kept
    next.value next.rest.now (sym c.in_ok-next.ensures)

pub loop-rest-smaller : goal.loop-rest-smaller
loop-rest-smaller c = fewer c

pub loop-rest-preserved : goal.loop-rest-preserved
loop-rest-preserved c =
    let bs = c.loop-rest.rest.now in
    let h = c.loop-rest-test.ensures in
    let next = c.in_ok-next.next in
    let total = length c.args.file.now in (
      c.loop-rest.invariant.0
          ∙ read_more total (content c.loop-rest.plant) bs (omega (arith, false-eqb (length bs) 0 h)) c.loop-rest.plant.kept next.value
          next.rest.now (sym c.in_ok-next.ensures)
          ∙ ap (λ (d : Draft). read_on (length next.rest.now) total d next.rest.now) (sym c.in_ok-add.ensures),
      omega (arith, fewer c, c.loop-rest.invariant.1),
    )
