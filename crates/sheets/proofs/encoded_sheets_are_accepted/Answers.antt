use Rattle.sheets.proofs.Encoding.{sheets_are_accepted}
use Rattle.sheets.proofs.encoded_sheets_are_accepted.Goals as goal

pub returns : goal.returns
returns c = sheets_are_accepted
