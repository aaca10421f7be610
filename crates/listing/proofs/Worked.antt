-- The line of a refusal, worked out.
use Rattle.std.proofs.Common.{◌≡◌, codes, refl}
use Rattle.std.specs.Fmt.{digits}
use Rattle.plant.specs.declared.refusals.Law.TheVariants as law
use Rattle.plant.specs.declared.refusals.Reason.TheVariants as reason
use Rattle.plant.specs.Refusals.{refused}
use Rattle.listing.specs.Lines.{refusal_line}

-- a table at byte 34 of a file, in which two lanes take more together than each by itself
pub broken_table : refusal_line (codes "file") (refused (reason.Law law.Bends) 34) ≡ codes "refused file 9 limit at 34 law 3\n"
unfolding digits
broken_table = refl
