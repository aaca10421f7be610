use Rattle.std.proofs.Common.{length, rules, arith}
use Rattle.rooms.specs.Rooms.{at}
use Rattle.rooms.proofs.Rounds.{roomed_none, roomed_more, roomed_all}
use Rattle.rooms.proofs.LoadedSide.rooms.Goals as goal

pub loop-set-init : goal.loop-set-init
loop-set-init c =
    let side = c.args.self.now in
    roomed_none (length side.trays.items) (at side.caps.now) (at side.trays.items) c.each_alone-rooms.result side.summed.narrow (search rules) c.each_alone-rooms.ensures

pub loop-set-preserved : goal.loop-set-preserved
loop-set-preserved c =
    let side = c.args.self.now in
    roomed_more (length side.trays.items) (at side.caps.now) (at side.trays.items) c.loop-set.rooms c.lower_rooms.new.rooms c.loop-set.set
    c.left.result side.summed.narrow c.lower_rooms.array_long c.left.ensures c.loop-set.invariant c.lower_rooms.ensures

pub returns-clause-each : goal.returns-clause-each
returns-clause-each c =
    let side = c.args.self.now in
    roomed_all (length side.trays.items) (at side.caps.now) (at side.trays.items) c.loop-set.rooms c.loop-set.set (omega arith) c.loop-set.invariant
