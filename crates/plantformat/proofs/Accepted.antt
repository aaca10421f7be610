-- The files that the judge accepts are the plant files, each read as the records that it encodes.
use Rattle.plantformat.specs.Promise.{AcceptedFilesEncode, EncodingsAreAccepted}
use Rattle.plantformat.proofs.Tests.{keeps_rules, rules_keep}
use Rattle.plantformat.proofs.Judged.{judged_encodes, encoded_judged}

pub accepted_files_encode : AcceptedFilesEncode
accepted_files_encode bs d e =
    let p = judged_encodes bs d e in
    record { not_too_long = p.0; encodes = p.1; keeps = keeps_rules d.head d.lanes d.limits p.2 }

pub encodings_are_accepted : EncodingsAreAccepted
encodings_are_accepted bs h ls ks f = encoded_judged bs h ls ks f.not_too_long f.encodes (rules_keep h ls ks f.keeps)
