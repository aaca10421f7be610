use Rattle.network.proofs.Balance.{move_balances}
use Rattle.network.proofs.move_balances.Goals as goal

pub returns : goal.returns
returns c = move_balances
