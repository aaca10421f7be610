use Rattle.agreement.proofs.Calls.{agreeing_plans_do_the_same}
use Rattle.agreement.proofs.agreeing_plans_do_the_same.Goals as goal

pub returns : goal.returns
returns c = agreeing_plans_do_the_same
