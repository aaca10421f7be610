use Rattle.std.proofs.Common.{◌≤◌, length, sym, ap, arith, length-take-le}
use Rattle.polymatroid.proofs.Grades.{size_top}
use Rattle.lines.proofs.line_plant.LinePlant.grades_cap.Goals as goal

pub slice_bounds-sum_of-end : goal.slice_bounds-sum_of-end
slice_bounds-sum_of-end c =
    let d = length c.args.self.now.grades.items in
    let few : c.size.result ≤ length c.deref.result.now =
    omega (arith, c.size.ensures d c.requires, size_top d c.args.set, ap length c.deref.ensures.0) in
    sym (length-take-le c.size.result c.deref.result.now few)
