use Rattle.agreement.proofs.Plans.{agreeing_meanings_have_the_same_plans}
use Rattle.agreement.proofs.agreeing_meanings_have_the_same_plans.Goals as goal

pub returns : goal.returns
returns c = agreeing_meanings_have_the_same_plans
