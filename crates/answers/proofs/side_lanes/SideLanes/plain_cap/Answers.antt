use Rattle.std.proofs.Common.{◌<◌, ap, ◌∙◌, rules, tests, arith}
use Rattle.std.proofs.lemmas.Iterator.{YieldsList-from_range, YieldsList-from_map}
use Rattle.std.proofs.lemmas.Iterator.Adapters.{serves_from_places}
use Rattle.std.proofs.lemmas.Iterator.Consumers.{YieldsList-at, YieldsList-from_filter, sum_by_from_yields_List, fits_by_from_yields_list}
use Rattle.polymatroid.specs.Sets.{has}
use Rattle.polymatroid.specs.Kinds.{plain}
use Rattle.plantformat.specs.Numbers.{top_lane}
use Rattle.answers.specs.Answers.{owns}
use Rattle.answers.proofs.Positions.{own_low}
use Rattle.answers.proofs.Sums.{members, range_below, member_below, load_listed, load_low}
use Rattle.answers.proofs.side_lanes.SideLanes.plain_cap.Goals as goal

pub sum-requires-clause-can : goal.sum-requires-clause-can
sum-requires-clause-can c =
    let on = c.args.self.now in (
      (
        tt,
        tt,
        serves_from_places (YieldsList-from_range 0 on.count on.count (cc) (omega arith)) (λ x q k. search (rules, tests))
            (λ x k l e. let below : x < 64 = omega (arith, on.lists.few, range_below on.count k x l e) in search rules),
      ),
      serves_from_places
          (YieldsList-at c.map.ensures.source
          (YieldsList-from_filter _ (has c.args.set) (YieldsList-from_range 0 on.count on.count (cc) (omega arith)) c.filter.ensures.closure (λ x b q k. search (rules, tests))))
          (λ x q k. search (rules, tests))
          (λ x i l e. let below : x < on.count = member_below c.args.set on.count i x l e in search rules),
    )

pub sum-requires-clause-fits : goal.sum-requires-clause-fits
sum-requires-clause-fits c =
    let on = c.args.self.now in
    let w = owns on.plant.now on.side in
    fits_by_from_yields_list w (members c.args.set on.count) c.map.result _
    (YieldsList-from_map _ w
    (YieldsList-at c.map.ensures.source
    (YieldsList-from_filter _ (has c.args.set) (YieldsList-from_range 0 on.count on.count (cc) (omega arith)) c.filter.ensures.closure (λ x b q k. search (rules, tests))))
    c.map.ensures.closure (λ x r q k. search (rules, tests)))
    (omega (arith, on.lists.few, load_low w c.args.set top_lane on.count (own_low on.plant.now on.side on.numbers on.count on.lists)))

pub returns : goal.returns
unfolding plain
returns c =
    let on = c.args.self.now in
    let w = owns on.plant.now on.side in
    sum_by_from_yields_List w (members c.args.set on.count) c.map.result _ c.sum.ensures.ran
    (YieldsList-from_map _ w
    (YieldsList-at c.map.ensures.source
    (YieldsList-from_filter _ (has c.args.set) (YieldsList-from_range 0 on.count on.count (cc) (omega arith)) c.filter.ensures.closure (λ x b q k. search (rules, tests))))
    c.map.ensures.closure (λ x r q k. search (rules, tests)))
    ∙ load_listed w c.args.set on.count
    ∙ ap (λ k. plain w k c.args.set) on.lists.all
