-- Each lane is scanned once, so that in the end all are.
use Rattle.std.proofs.Common.{ap, arith}
use Rattle.std.proofs.lemmas.List.{length-map}
use Rattle.labels.proofs.Sweeps.{swept_all}
use Rattle.labels.proofs.Labelling.scan_level.Goals as goal

pub returns-clause-marks : goal.returns-clause-marks
returns-clause-marks g c =
    let s = ap g.S.Scan.size c.loop-lane.invariant.scan in
    swept_all _ _ _ c.loop-lane.lane _ _ c.requires.some (omega (arith, s)) (simp length-map (omega (arith, s))) c.loop-lane.invariant.swept
