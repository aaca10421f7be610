-- A closing closes its position and a ceiling bounds its side, and neither changes anything else.
use Rattle.std.proofs.Common.{◌≡◌, ℕ, ◌^◌, get_or, refl, arith}
use Rattle.std.proofs.lemmas.Grind.{common_steps}
use lib.Bits.{bit_or}
use Rattle.std.proofs.lemmas.Bool.Decides.{nat_tests}
use Rattle.polymatroid.specs.Sets.{has, without}
use Rattle.polymatroid.specs.Kinds.{kept, closing, ceiling}
use Rattle.polymatroid.proofs.Codes.{has_or, has_one, has_without, same_sets}
use Rattle.polymatroid.proofs.Layers.{kept_below, has_kept}
use Rattle.floor.specs.Floor.{count}
use Rattle.piles.specs.Meant.{ClosingCloses, CeilingBounds}

-- a set without the closed positions and one more
kept_without : (k m p X : ℕ) → kept k (has (bit_or m (2 ^ p))) X ≡ kept k (has m) (without k X p)
kept_without k m p X =
    same_sets k (kept k (has (bit_or m (2 ^ p))) X) (kept k (has m) (without k X p)) (kept_below k (has (bit_or m (2 ^ p))) X)
    (kept_below k (has m) (without k X p))
    (λ q l.
    let a = has_kept k (has (bit_or m (2 ^ p))) X q l in
    let b = has_kept k (has m) (without k X p) q l in
    let c = has_without k X p q l in
    let d = has_or m (2 ^ p) q in
    let e = has_one p q in
    grind arith)

pub closing_closes : ClosingCloses
unfolding closing
closing_closes M closed s p long ok =
    record {
      floor = refl;
      there = λ d i X e. let k = kept_without (count M.floor d i) (get_or closed s 0) p X in grind (arith, common_steps, nat_tests);
      elsewhere = λ d i X ne. grind (arith, common_steps, nat_tests);
    }

pub ceiling_bounds : CeilingBounds
unfolding ceiling
ceiling_bounds M ceilings s c long ok =
    record {
      floor = refl;
      there = λ d i X e. grind (arith, common_steps, nat_tests);
      elsewhere = λ d i X ne. grind (arith, common_steps, nat_tests);
    }
