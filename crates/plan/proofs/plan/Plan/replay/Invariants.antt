-- The calls so far were answered, and those left are the rest of the list.
use Rattle.std.proofs.Common.{◌≡◌, ◌+◌, ◌≤◌, List, ◌++◌, vec_items, vec_len, vec_capacity}
use Rattle.std.specs.Vec.Iter.{into_iter_items, into_iter_len}
use Rattle.plan.specs.declared.journal.Call.{Call}
use Rattle.plan.specs.Journal.{Replays}
use Rattle.plan.proofs.plan.Plan.replay.Given as goal

abbrev pub invariant-loop-call : goal.invariant-loop-call
invariant-loop-call g l =
    (goal.iterator-loop-call g).can_next l.call-iterator
    × (goal.iterator-loop-call g).is_finite l.call-iterator
    × (vec_len l.told + into_iter_len l.call-iterator ≤ vec_capacity l.told)
    × ((cs : List Call) × (vec_items l.fn.calls ≡ cs ++ into_iter_items l.call-iterator)
    × Replays g.P.Plant.meaning l.initial.self cs (vec_items l.told) l.self)
