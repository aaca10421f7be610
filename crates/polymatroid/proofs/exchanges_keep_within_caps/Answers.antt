use Rattle.polymatroid.proofs.Exchange.{exchanges_keep}
use Rattle.polymatroid.proofs.exchanges_keep_within_caps.Goals as goal

pub returns : goal.returns
returns c = exchanges_keep
