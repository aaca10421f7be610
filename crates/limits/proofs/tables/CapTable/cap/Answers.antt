use Rattle.std.proofs.Common.{arith}
use Rattle.limits.proofs.Checked.{longs_at, table_low}
use Rattle.limits.proofs.tables.CapTable.cap.Goals as goal

pub returns-clause-low : goal.returns-clause-low
returns-clause-low c =
    let table = c.args.self.whole in
    let whole = table.whole in
    omega (arith, table_low table c.args.set c.requires, longs_at c.args.self.caps.now c.args.set (omega arith))
