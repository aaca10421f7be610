-- The first record of a plant file, as it is cut and its kind is found, is that of the definition.
use Rattle.std.proofs.Common.{◌≡◌, ℕ, List, take, drop, Ok, Err, Result, sym, refl, ap, Bool, true, false, ◌-◌}
use Rattle.plantformat.specs.declared.Kind.{Kind}
use Rattle.plantformat.specs.declared.FramingFault.{FramingFault}
use Rattle.plantformat.specs.declared.FramingFault.TheVariants as framing
use Rattle.plantformat.specs.Bytes.{word}
use Rattle.plantformat.specs.Judge.{kind_of, cut_short, kinded, framed, unless}
use Rattle.plantformat.specs.Kinds.{KindOf}
use Rattle.framing.specs.Frames.{Parts, parts, cut_at, Framed, frame_shown}
use Rattle.framing.specs.declared.Frame as code

-- a record that was cut, by the kind that its number has
kinded_is : (at : ℕ) (p : Parts) (r : Result (code.Frame Kind) FramingFault) → Framed KindOf at (Ok p) r
    → frame_shown r ≡ kinded at (kind_of p.number) p.body p.rest
kinded_is at p (Ok f) e = sym (rw (e.0, e.1, e.2) refl)
kinded_is at p (Err x) e = sym (rw (e.1.1, e.2) refl)

-- the first record of bs, which lies at a place of the file
pub framed_is : (at : ℕ) (bs : List ℕ) (r : Result (code.Frame Kind) FramingFault) → Framed KindOf at (cut_at at bs) r → frame_shown r ≡ framed at bs
framed_is at bs r e = by (cut_short bs) e
  where
    cut : Parts
    cut = parts (word bs 2) (take (word bs 0 - 4) (drop 4 bs)) (drop (word bs 0) bs)

    by : (short : Bool) → Framed KindOf at (unless short (framing.Length at) (Ok cut)) r
        → frame_shown r ≡ unless short (framing.Length at) (kinded at (kind_of cut.number) cut.body cut.rest)
    by true e = ap frame_shown e
    by false e = kinded_is at cut r e
