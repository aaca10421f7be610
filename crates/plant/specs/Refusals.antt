-- The refusals: each reason has a number, and a refusal of the input has a layer, a place and a law.
use Rattle.std.specs.Prelude.{ℕ, List, ◌++◌, codes, decimal}
use Rattle.plant.specs.declared.refusals.Law.{Law}
use Rattle.plant.specs.declared.refusals.Law.TheVariants as law
use Rattle.plant.specs.declared.refusals.Reason.{Reason}
use Rattle.plant.specs.declared.refusals.Reason.TheVariants as reason
use Rattle.plant.specs.declared.refusals.Layer.{Layer}
use Rattle.plant.specs.declared.refusals.Layer.TheVariants as layer
use Rattle.plant.specs.declared.refusals.Refusal.{Refusal}

-- the number under which each reason is told
abbrev pub number_of : Reason → ℕ
number_of reason.Framing = 1
number_of reason.Kind = 2
number_of reason.Order = 3
number_of reason.Size = 4
number_of reason.Range = 5
number_of reason.Ends = 6
number_of reason.TooMany = 7
number_of reason.SecondLimit = 8
number_of (reason.Law l) = 9
number_of reason.Ceiling = 10
number_of reason.OffFloor = 11

-- the number by which a law is named
abbrev pub law_number : Law → ℕ
law_number law.Empty = 1
law_number law.Grows = 2
law_number law.Bends = 3

-- the number of the law that a reason names, and 0 where it names none
abbrev pub law_told : Reason → ℕ
law_told (reason.Law l) = law_number l
law_told reason.Framing = 0
law_told reason.Kind = 0
law_told reason.Order = 0
law_told reason.Size = 0
law_told reason.Range = 0
law_told reason.Ends = 0
law_told reason.TooMany = 0
law_told reason.SecondLimit = 0
law_told reason.Ceiling = 0
law_told reason.OffFloor = 0

-- the layer at which each reason is found in a plant file, or, for the last two, in what a pile is set to
abbrev pub layer_of : Reason → Layer
layer_of reason.Framing = layer.Framing
layer_of reason.Kind = layer.Framing
layer_of reason.Order = layer.Record
layer_of reason.Size = layer.Record
layer_of reason.Range = layer.Record
layer_of reason.Ends = layer.Floor
layer_of reason.TooMany = layer.Floor
layer_of reason.SecondLimit = layer.Floor
layer_of (reason.Law l) = layer.Limit
layer_of reason.Ceiling = layer.Pile
layer_of reason.OffFloor = layer.Pile

-- the refusal for a reason found in a layer at a place
abbrev pub refusal : Reason → Layer → ℕ → Refusal
refusal r l p = record { reason = r; layer = l; place = p }

-- the refusal for a reason at a place, in the layer where the reason is found
abbrev pub refused : Reason → ℕ → Refusal
refused r p = refusal r (layer_of r) p

-- the word for each layer
abbrev pub layer_word : Layer → List ℕ
layer_word layer.Framing = codes "framing"
layer_word layer.Record = codes "record"
layer_word layer.Floor = codes "floor"
layer_word layer.Limit = codes "limit"
layer_word layer.Pile = codes "pile"
layer_word layer.Line = codes "line"

-- the number of the reason, the layer, the place and the law
abbrev pub refusal_words : Refusal → List ℕ
refusal_words r =
    decimal (number_of r.reason) ++ (codes " " ++ (layer_word r.layer ++ (codes " at " ++ (decimal r.place ++ (codes " law " ++ decimal (law_told r.reason))))))
