use Rattle.std.proofs.Common.{vec_items}
use Rattle.plantfile.proofs.Whole.{fresh_keeps}
use Rattle.plantfile.proofs.reading.bare.Goals as goal

pub invariant_of-result : goal.invariant_of-result
invariant_of-result c = record {
  kept = fresh_keeps c.args.head (vec_items c.new.result) (vec_items c.new-2.result) c.new.ensures.items c.new-2.ensures.items c.requires;
}
