use Rattle.std.proofs.Common.{◌<◌, length, sym, subst, arith, true-eqb, false-eqb}
use Rattle.std.proofs.lemmas.Result.{err_from_is_err_and}
use Rattle.sheets.specs.Sheet.{settings_of, sheet_read, made_of}
use Rattle.sheets.proofs.Walks.{Walk, rest_less, walk_starts, walk_ends, walk_unread, walk_refused, walk_on}
use Rattle.sheets.proofs.applying.Covers.set_all.Goals as goal

pub loop-rest-init : goal.loop-rest-init
loop-rest-init g c = (omega arith, walk_starts _ _ _)

pub returns-in_err-first : goal.returns-in_err-first
returns-in_err-first g c =
    let more : 0 < length c.loop-rest.rest.now = omega (arith, false-eqb (length c.loop-rest.rest.now) 0 c.loop-rest-test.ensures) in
    let p = err_from_is_err_and c.from_residual.result c.from_residual.ensures.1 in
    walk_unread _ _ _ _ _ c.loop-rest.invariant.1 _ _ _ more c.in_err-first.ensures p.1 p.2

pub returns-in_err-set : goal.returns-in_err-set
returns-in_err-set g c =
    let more : 0 < length c.loop-rest.rest.now = omega (arith, false-eqb (length c.loop-rest.rest.now) 0 c.loop-rest-test.ensures) in
    let p = err_from_is_err_and c.from_residual-in_err-set.result c.from_residual-in_err-set.ensures.1 in
    walk_refused _ _ _ _ _ c.loop-rest.invariant.1 _ _ _ _ _ _ more c.in_ok-first.ensures c.in_err-set.ensures.judged p.1 p.2

pub loop-rest-preserved : goal.loop-rest-preserved
loop-rest-preserved g c =
    let F = (g.P.Plant.meaning c.args.plant.now).floor in
    let bs = c.loop-rest.rest.now in
    let n = length c.args.sheet.now in
    let more : 0 < length bs = omega (arith, false-eqb (length bs) 0 c.loop-rest-test.ensures) in
    let V = made_of F (sheet_read n n F c.args.sheet.now) (settings_of c.args.self.now) in (
      omega (arith, c.loop-rest.invariant.0, rest_less _ bs _ _ c.in_ok-first.ensures),
      subst (Walk F n V c.in_ok-first.first.rest.now) (sym c.set.ensures.made)
          (walk_on F n V bs _ c.loop-rest.invariant.1 _ _ more c.in_ok-first.ensures c.in_ok-set.ensures.judged),
    )

pub returns : goal.returns
returns g c =
    let none = true-eqb (length c.loop-rest.rest.now) 0 c.loop-rest-test.ensures in
    walk_ends _ _ _ _ _ c.loop-rest.invariant.1 none
