use Rattle.std.proofs.Common.{◌≡◌, length, get_or, sym, refl, ap, ◌∙◌, arith}
use Rattle.std.proofs.lemmas.List.{get_or-replicate, length-set}
use Rattle.polymatroid.specs.Kinds.{Groups}
use Rattle.limits.specs.Checks.{groups_in}
use Rattle.limits.proofs.Checked.{members_is}
use Rattle.limits.proofs.CapSums.{own_none, own_without, own_low, own_added, member_on}
use Rattle.limits.proofs.groups.Groups.own_sums.Goals as goal
use Rattle.limits.proofs.groups.Groups.own_sums.Goals.{then-contains, else-contains}

pub loop-position-init : goal.loop-position-init
loop-position-init c =
    let G : Groups = groups_in c.args.self.count c.args.self.numbers.now c.args.own.now in
    (refl, λ i l. get_or-replicate 16 i 0 0 l ∙ sym (own_none G i c.args.set))

pub overflow_add-sums : goal.overflow_add-sums
overflow_add-sums c =
    let G : Groups = groups_in c.args.self.count c.args.self.numbers.now c.args.own.now in
    let p = c.loop-position.position in
    let j = c.group_of.result in
    let on = member_on c.requires.groups p c.loop-position-test.true in
    let low = own_low G j c.args.set 100000 p (λ q l. c.requires.low q (omega arith)) in
    omega (arith, c.loop-position.invariant.1 j (omega arith), c.requires.low p c.loop-position-test.true)

pub loop-position-preserved : goal.loop-position-preserved
loop-position-preserved c =
    let G : Groups = groups_in c.args.self.count c.args.self.numbers.now c.args.own.now in
    let p = c.loop-position.position in
    let xs = c.loop-position.sums in
    let size = c.loop-position.invariant.0 in
    elim c.if-contains.branch [
      | then-contains w ↦
          let j = w.group_of.result in
          let on = member_on c.requires.groups p c.loop-position-test.true in
          let group : G.group p ≡ j =
          members_is c.args.self.numbers.now (length c.args.own.now) c.args.self.count p c.loop-position-test.true ∙ sym w.group_of.ensures in (
            ap length w.sums-is ∙ length-set xs j _ ∙ size,
            own_added G c.args.set p j xs c.if-contains.sums c.loop-position.invariant.1 (sym w.if-contains.ensures) (omega (arith, w.group_of.ensures)) group
                w.sums-is,
          )
      | else-contains w ↦ (
        ap length w.sums-is ∙ size,
        λ i l.
            ap (λ zs. get_or zs i 0) w.sums-is ∙ c.loop-position.invariant.1 i l ∙ sym (own_without G i c.args.set p (sym w.if-contains.ensures)),
      )
    ]
