use Rattle.plantfile.proofs.Promises.{promised_accepted, promised_stopped}
use Rattle.plantfile.proofs.reading.read_plant.Goals as goal

pub returns-in-Ok-clause-promised : goal.returns-in-Ok-clause-promised
returns-in-Ok-clause-promised c = promised_accepted c.args.file.now c.in-Ok.plant c.in-Ok.ensures

pub returns-in-Err-clause-promised : goal.returns-in-Err-clause-promised
returns-in-Err-clause-promised c = promised_stopped c.args.file.now c.empty.result c.empty.ensures c.in-Err.error c.in-Err.ensures
