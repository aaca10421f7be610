use Rattle.cuts.proofs.Bytes.{cut_bytes}
use Rattle.cuts.proofs.cut_bytes.Goals as goal

pub returns : goal.returns
returns c = cut_bytes
