use Rattle.polymatroid.proofs.Zeroing.{zeroing}
use Rattle.polymatroid.proofs.room_without_by_zeroing.Goals as goal

pub returns : goal.returns
returns c = zeroing
