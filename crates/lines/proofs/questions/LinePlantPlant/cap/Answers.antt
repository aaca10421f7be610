use Rattle.std.proofs.Common.{◌^◌, ◌≤◌, length, arith}
use Rattle.std.proofs.Math.Nat.{pow-le-pow_right}
use Rattle.lines.proofs.questions.LinePlantPlant.cap.Goals as goal

pub grades_cap-requires : goal.grades_cap-requires
grades_cap-requires c =
    let p = c.args.self.now in
    let w = c.in_ok-width.width in
    let d = length p.grades.items in
    let low : 2 ^ w ≤ 2 ^ d = pow-le-pow_right (omega arith) c.in_ok-width.ensures.few in
    let top : 2 ^ w ≤ 2 ^ 8 = pow-le-pow_right (omega arith) {j = 8} (omega (arith, p.narrow, c.in_ok-width.ensures.few)) in
    omega arith
