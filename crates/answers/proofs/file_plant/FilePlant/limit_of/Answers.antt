use Rattle.std.proofs.Common.{eqb, ap, ◌∙◌, rules, tests}
use Rattle.std.proofs.lemmas.Iterator.{YieldsList-from_slice}
use Rattle.std.proofs.lemmas.Iterator.Search.{find_from_yields_List}
use Rattle.plantformat.specs.Records.{side_of}
use Rattle.limits.specs.Told.{told}
use Rattle.answers.specs.Answers.{limit_seen}
use Rattle.answers.proofs.Lookups.{copied_is}
use Rattle.answers.proofs.file_plant.FilePlant.limit_of.Goals as goal

pub returns : goal.returns
returns c =
    ap limit_seen c.copied.ensures
    ∙ copied_is c.args.side c.args.self.now.limits.items c.find.result
    (find_from_yields_List (λ k. eqb (side_of (told k)) c.args.side) _ _ c.find.result c.find.ensures.ran
    (YieldsList-from_slice c.args.self.now.limits.items (cc)) (λ x b q k. search (rules, tests)))
