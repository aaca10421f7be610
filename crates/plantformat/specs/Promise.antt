-- What is promised of plant files, in the words of the subject.
use Rattle.std.specs.Prelude.{◌≡◌, ℕ, ◌≤◌, List, length, Ok}
use Rattle.floor.specs.Meaning.{Lawful}
use Rattle.plantformat.specs.declared.Head.{Head}
use Rattle.plantformat.specs.declared.Lane.{Lane}
use Rattle.plantformat.specs.Numbers.{most_bytes}
use Rattle.plantformat.specs.Records.{Limit, meaning_of}
use Rattle.plantformat.specs.Rules.{Rules}
use Rattle.plantformat.specs.Encoding.{Encodes}
use Rattle.plantformat.specs.Judge.{Draft, draft, judge}

-- bs is a plant file of these records: it is not too long, it encodes them, and they keep the rules
pub record PlantFile (bs : List ℕ) (h : Head) (ls : List Lane) (ks : List Limit) : Type 0 where
  pub not_too_long : length bs ≤ most_bytes
  pub encodes : Encodes bs h ls ks
  pub keeps : Rules h ls ks

abbrev pub AcceptedFilesEncode : Type 0
AcceptedFilesEncode = (bs : List ℕ) (d : Draft) → judge bs ≡ Ok d → PlantFile bs d.head d.lanes d.limits

abbrev pub EncodingsAreAccepted : Type 0
EncodingsAreAccepted =
    (bs : List ℕ) (h : Head) (ls : List Lane) (ks : List Limit) → PlantFile bs h ls ks → judge bs ≡ Ok (draft h ls ks)

abbrev pub AcceptedPlantsAreLawful : Type 0
AcceptedPlantsAreLawful = (h : Head) (ls : List Lane) (ks : List Limit) → Rules h ls ks → Lawful (meaning_of h ls ks)
