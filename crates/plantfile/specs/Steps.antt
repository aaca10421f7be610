-- One record more, as the definitions of the format see it.
use Rattle.std.specs.Prelude.{◌≡◌, ℕ, Bool, List, [], ◌∷◌, ◌++◌, length, Ok, Err, Result, nat_lt}
use Rattle.plantformat.specs.Numbers.{most_bytes}
use Rattle.plantformat.specs.declared.Head.{Head}
use Rattle.plantformat.specs.declared.FloorFault.{FloorFault}
use Rattle.plantformat.specs.declared.FloorFault.TheVariants as flo
use Rattle.plantformat.specs.Rules.{keeps}
use Rattle.plantformat.specs.Judge.{onward, unless, headed, Part, Draft, draft, recorded, placed, lanes_may_come}
use Rattle.plantformat.specs.Faults as faults
use Rattle.limits.specs.Told.{told}
use Rattle.answers.specs.Content.{content}
use Rattle.answers.specs.declared.file_plant.FilePlant.{FilePlant}
use Rattle.limits.specs.declared.Limit.{Limit}
use Rattle.plantfile.specs.declared.reading.ReadError.{ReadError}
use Rattle.plantfile.specs.declared.reading.ReadError.TheVariants.{Refused, NoMemory}
use Rattle.records.specs.declared.bodies.Record as code
use Rattle.records.specs.declared.bodies.Record.TheVariants as record_of

-- a record that may be added, with the bytes after it
abbrev pub next_judged : Draft → ℕ → List ℕ → Result (Part × List ℕ) FloorFault
next_judged d at bs =
    onward flo.Record (recorded (lanes_may_come d) d.head.stations at bs) (λ p. onward (λ e. e) (placed d at p.0) (λ _. Ok p))

-- what has been read, with one record more
abbrev pub grown : Draft → code.Record → Draft
grown d (record_of.Lane l) = draft d.head (d.lanes ++ l ∷ []) d.limits
grown d (record_of.Limit l) = draft d.head d.lanes (d.limits ++ told l ∷ [])

-- what has been read keeps the rules
abbrev pub keeps_draft : Draft → Bool
keeps_draft d = keeps d.head d.lanes d.limits

-- a limit was put behind the others; or memory was wanting, and nothing changed
abbrev pub KeptLimit : List Limit → Limit → List Limit → Result (Unit {0}) ReadError → Type 0
KeptLimit ks l after (Ok _) = after ≡ ks ++ l ∷ []
KeptLimit ks l after (Err (Refused x)) = ⊥
KeptLimit ks l after (Err NoMemory) = after ≡ ks

-- a record was added; or memory was wanting, and nothing changed
abbrev pub Added : Draft → code.Record → Draft → Result (Unit {0}) ReadError → Type 0
Added d r e (Ok _) = e ≡ grown d r
Added d r e (Err (Refused x)) = ⊥
Added d r e (Err NoMemory) = e ≡ d

-- the head of a file that is not too long, with the bytes after it
abbrev pub opened : List ℕ → Result (Head × List ℕ) FloorFault
opened bs = unless (nat_lt most_bytes (length bs)) (flo.TooMany 0) (onward flo.Record (headed bs) (λ p. Ok p))

-- a whole file was read into a plant as it was judged, or refused for the fault by which it was judged, unless memory was wanting
abbrev pub ReadWhole : Result Draft FloorFault → Result FilePlant ReadError → Type 0
ReadWhole j (Ok p) = j ≡ Ok (content p)
ReadWhole j (Err (Refused x)) = (f : FloorFault) × (j ≡ Err f) × (x ≡ faults.told f)
ReadWhole j (Err NoMemory) = Unit {0}
