-- The worked floors pass their tests: the definitions are evaluated.
use Rattle.std.proofs.Common.{◌≡◌, true, refl}
use Rattle.polymatroid.specs.Sets.{has, code}
use Rattle.polymatroid.specs.Finite.{first, least}
use Rattle.polymatroid.specs.Side.{load, room, room_but, tight_set, plus, minus}
use Rattle.polymatroid.specs.Tables.{every, rises_at, bends_at, rises, bows, broken}
use Rattle.polymatroid.specs.Kinds.{plain, firsts, size, graded, sum_to, own, under, passed, depth, worth, grouped, ceiling, kept, closing}
use Rattle.floor.specs.Floor.{place, lane_at}
use Rattle.network.specs.States.{room_at}
use Rattle.network.specs.Plans.{through}
use Rattle.labelling.specs.Rules.{full, in_tight, ruled}
use Rattle.labelling.specs.Table.{mark, scanned, listed, pass, table_up_to, ending_lane, lane_of_level, label_from, label, name, back, path}
use Rattle.labelling.specs.Augmenting.{along}
use Rattle.labelling.specs.Amount.{least_term, amount_of}
use Rattle.labelling.specs.Steps.{outcome, row, step, shifted, made_all}
use Rattle.labelling.specs.Near.{near}
use Rattle.network.specs.Cuts.{set_of, capacity}
use Rattle.labelling.specs.Worked.{worked_floors, WorkedFloors}
use Rattle.labelling.proofs.Tests.{both, ends?, rules?, laws?, fits?, balanced?, same_state, same_lanes, makes, ends, follow?, cut?, works?, all_work?, all_work}

all_pass : all_work? worked_floors ≡ true
unfolding has code first least load room room_but tight_set plus minus every rises_at bends_at rises bows broken plain firsts size graded own under passed depth worth grouped ceiling kept closing place lane_at room_at sum_to through full in_tight ruled mark scanned listed pass table_up_to ending_lane lane_of_level label_from label name back path along least_term amount_of outcome row step shifted both ends? rules? laws? fits? balanced? same_state same_lanes makes ends follow? cut? works? all_work? near set_of capacity made_all
all_pass = refl

pub worked_floors_hold : WorkedFloors
worked_floors_hold = all_work worked_floors all_pass
