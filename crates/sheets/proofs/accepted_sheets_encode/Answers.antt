use Rattle.sheets.proofs.Encoding.{accepted_sheets_encode}
use Rattle.sheets.proofs.accepted_sheets_encode.Goals as goal

pub returns : goal.returns
returns c = accepted_sheets_encode
