-- What the framing layer hands on, as the definitions of the format see it.
use Rattle.std.specs.Prelude.{◌≡◌, ℕ, ◌-◌, List, take, drop, Ok, Err, Result}
use Rattle.plantformat.specs.declared.FramingFault.{FramingFault}
use Rattle.plantformat.specs.declared.FramingFault.TheVariants as framing
use Rattle.plantformat.specs.declared.Kind.{Kind}
use Rattle.plantformat.specs.Bytes.{word}
use Rattle.plantformat.specs.Judge.{Frame, frame, cut_short, unless}
use Rattle.framing.specs.declared.Frame as code
use Rattle.framing.specs.declared.Parsed.{Parsed}

-- a record before its kind is known: the number of its kind, its body, and the bytes after it
pub record Parts : Type 0 where
  pub number : ℕ
  pub body : List ℕ
  pub rest : List ℕ

-- such a record from its parts
abbrev pub parts : ℕ → List ℕ → List ℕ → Parts
parts n b r = record { number = n; body = b; rest = r }

-- the first record of bs, which lies at the place `at` of the file
abbrev pub cut_at : ℕ → List ℕ → Result Parts FramingFault
cut_at at bs =
    unless (cut_short bs) (framing.Length at) (Ok (parts (word bs 2) (take (word bs 0 - 4) (drop 4 bs)) (drop (word bs 0) bs)))

-- what the cut of a record answers, with its bytes as lists
abbrev pub cut_shown : Result (code.Frame ℕ) FramingFault → Result Parts FramingFault
cut_shown (Ok c) = Ok (parts c.kind c.body.now c.rest.now)
cut_shown (Err e) = Err e

-- what is answered of the first record as it was cut, where `gives` says what the conversion of a number to a kind gives: the record
-- with its kind; or that no kind has the number; or why the record was not cut
abbrev pub Framed : {K E : Type 0} → (ℕ → Result K E → Type 0) → ℕ → Result Parts FramingFault → Result (code.Frame K) FramingFault → Type 0
Framed gives at (Ok p) (Ok f) = gives p.number (Ok f.kind) × (f.body.now ≡ p.body) × (f.rest.now ≡ p.rest)
Framed {K} {E} gives at (Ok p) (Err e) = (refused : E) × gives p.number (Err refused) × (e ≡ framing.Kind at)
Framed gives at (Err e) r = r ≡ Err e

-- what the framing layer answers of a plant file, with its bytes as lists
abbrev pub frame_shown : Result (code.Frame Kind) FramingFault → Result Frame FramingFault
frame_shown (Ok f) = Ok (frame f.kind f.body.now f.rest.now)
frame_shown (Err e) = Err e

-- a value that was read, as `view` sees it, with the bytes after it as a list
abbrev pub shown : {T A E : Type 0} → (T → A) → Result (Parsed T) E → Result (A × List ℕ) E
shown view (Ok p) = Ok (view p.value, p.rest.now)
shown view (Err e) = Err e
