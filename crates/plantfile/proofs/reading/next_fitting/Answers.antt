use Rattle.std.proofs.Common.{sym}
use Rattle.records.specs.Parts.{record_part}
use Rattle.plantfile.proofs.Steps.{recorded_ranged}
use Rattle.plantfile.proofs.reading.next_fitting.Goals as goal

pub fits-requires : goal.fits-requires
fits-requires c =
    recorded_ranged c.is_empty.result c.args.plant.now.head.stations c.args.at c.args.bytes.now
    (record_part c.in_ok-next.next.value) c.in_ok-next.next.rest.now (sym c.in_ok-next.ensures)
