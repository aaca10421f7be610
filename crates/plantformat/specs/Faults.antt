-- How a fault is told: each case with its number, by its reason, its layer, its place and its law.
use Rattle.plant.specs.declared.refusals.Reason.TheVariants as reason
use Rattle.plant.specs.declared.refusals.Refusal.{Refusal}
use Rattle.plant.specs.Refusals.{refused}
use Rattle.plantformat.specs.declared.FramingFault.TheVariants as framing
use Rattle.plantformat.specs.declared.RecordFault.TheVariants as rec
use Rattle.plantformat.specs.declared.LimitFault.TheVariants as lim
use Rattle.plantformat.specs.declared.FloorFault.{FloorFault}
use Rattle.plantformat.specs.declared.FloorFault.TheVariants as flo

-- each fault has its reason, and its place is that of its record
abbrev pub told : FloorFault → Refusal
told (flo.Record (rec.Framing (framing.Length at))) = refused reason.Framing at
told (flo.Record (rec.Framing (framing.Kind at))) = refused reason.Kind at
told (flo.Record (rec.Order at)) = refused reason.Order at
told (flo.Record (rec.Size at)) = refused reason.Size at
told (flo.Record (rec.Range at)) = refused reason.Range at
told (flo.Ends at) = refused reason.Ends at
told (flo.TooMany at) = refused reason.TooMany at
told (flo.SecondLimit at) = refused reason.SecondLimit at
told (flo.Limit (lim.Breaks at law)) = refused (reason.Law law) at
