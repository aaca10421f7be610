-- What the reader of plant files promises of its two answers, a plant and a verdict.
use Rattle.std.specs.Prelude.{◌≡◌, ℕ, ◌≤◌, ◌⊎◌, List, [], Ok, Err, Result, ◌≢◌}
use Rattle.plant.specs.declared.refusals.Refusal.{Refusal}
use Rattle.plant.specs.Refusals.{number_of, law_told, layer_of}
use Rattle.plantformat.specs.declared.Head.{Head}
use Rattle.plantformat.specs.declared.Lane.{Lane}
use Rattle.plantformat.specs.declared.FloorFault.{FloorFault}
use Rattle.plantformat.specs.Faults as faults
use Rattle.plantformat.specs.Records.{Limit, meaning_of}
use Rattle.plantformat.specs.Judge.{Draft, draft}
use Rattle.plantformat.specs.Promise.{PlantFile}
use Rattle.answers.specs.Content.{content, file_meaning}
use Rattle.answers.specs.declared.file_plant.FilePlant.{FilePlant}
use Rattle.plantfile.specs.declared.reading.ReadError.{ReadError}
use Rattle.plantfile.specs.declared.reading.ReadError.TheVariants.{Refused, NoMemory}

-- the empty floor: two stations, stock 0, despatch 1, no lane
abbrev pub empty_draft : Draft
empty_draft = draft (record { stations = 2; stock = 0; despatch = 1 }) [] []

-- ---- by the definition of the judge

-- what was judged, what the plant holds, and the verdict: an accepted file's records, or the empty floor with the first fault of the
-- file, or the empty floor for want of memory
abbrev pub Judged : Result Draft FloorFault → Draft → Result (Unit {0}) ReadError → Type 0
Judged (Ok d) held (Ok _) = held ≡ d
Judged (Ok d) held (Err (Refused x)) = ⊥
Judged (Ok d) held (Err NoMemory) = held ≡ empty_draft
Judged (Err f) held (Ok _) = ⊥
Judged (Err f) held (Err (Refused x)) = (x ≡ faults.told f) × (held ≡ empty_draft)
Judged (Err f) held (Err NoMemory) = held ≡ empty_draft

-- ---- in the words of the subject

-- a refusal of a plant file has a number from 1 to 9, the layer of its number, and a law from 1 to 3 if its number is 9, else none
pub record FileRefusal (x : Refusal) : Type 0 where
  pub first : 1 ≤ number_of x.reason
  pub last : number_of x.reason ≤ 9
  pub layer : x.layer ≡ layer_of x.reason
  pub named : number_of x.reason ≡ 9 → (1 ≤ law_told x.reason) × (law_told x.reason ≤ 3)
  pub unnamed : (number_of x.reason ≢ 9) → law_told x.reason ≡ 0

pub record Promised (bs : List ℕ) (p : FilePlant) (v : Result (Unit {0}) ReadError) : Type 0 where
  -- an accepted file encodes a head, lanes and limits that keep the rules, and the plant means what they define
  pub accepted : v ≡ Ok tt → (h : Head) × (ls : List Lane) × (ks : List Limit) × PlantFile bs h ls ks × (file_meaning p ≡ meaning_of h ls ks)
  -- a file that does so is accepted, unless memory is wanting, and the plant means what its records define, however they are found
  pub taken : (h : Head) (ls : List Lane) (ks : List Limit) → PlantFile bs h ls ks
      → (v ≡ Err NoMemory) ⊎ ((v ≡ Ok tt) × (file_meaning p ≡ meaning_of h ls ks))
  -- a refused file does not, and the refusal is one of those listed
  pub refused : (x : Refusal) → v ≡ Err (Refused x)
      → FileRefusal x × ((h : Head) (ls : List Lane) (ks : List Limit) → PlantFile bs h ls ks → ⊥)
  -- the plant of a file that is not accepted is the empty floor
  pub empty : (v ≢ Ok tt) → content p ≡ empty_draft
