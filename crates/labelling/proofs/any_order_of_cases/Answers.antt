use Rattle.labelling.proofs.AnyOrder.{any_order}
use Rattle.labelling.proofs.any_order_of_cases.Goals as goal

pub returns : goal.returns
returns c = any_order
