-- A turn writes the byte of one pair more, or finds a pair that writes none.
use Rattle.std.proofs.Common.{◌≡◌, ◌<◌, ◌/◌, length, get_or, vec_items, arith, rules}
use Rattle.hexdigits.proofs.Pairs.{pair_at, pairs_more}
use Rattle.hexdigits.proofs.bytes_of.Goals as goal

pub returns-in_default : goal.returns-in_default
returns-in_default c =
    let k = c.loop-high.high-index in
    let inside : k < length c.args.digits.now / 2 = omega arith in
    let digits = pair_at c.args.digits.now c.as_chunks.result.0.now _ k c.as_chunks.ensures.front inside in
    let none = simp (digits.0, digits.1) at c.in_default.ensures in
    λ bs w. none (get_or bs k 0) (w.each k (omega arith))

pub loop-high-preserved : goal.loop-high-preserved
loop-high-preserved c =
    let k = c.loop-high.high-index in
    let inside : k < length c.args.digits.now / 2 = omega arith in
    let digits = pair_at c.args.digits.now c.as_chunks.result.0.now _ k c.as_chunks.ensures.front inside in
    let here = simp (digits.0, digits.1) at c.in-Some.ensures in
    let long : length (vec_items c.loop-high.bytes) ≡ k = omega (arith, c.loop-high.bytes.ok.0, c.loop-high.invariant.0) in
    let more = pairs_more c.args.digits.now (vec_items c.loop-high.bytes) c.in-Some.b k long c.loop-high.invariant.1 here in
    (search rules, simp c.in_ok-push.ensures.items more)
