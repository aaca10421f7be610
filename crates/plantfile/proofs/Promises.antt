-- What the reader promises of the plant and the verdict, from how the file was judged.
use Rattle.std.proofs.Common.{◌≡◌, ℕ, ◌<◌, ◌≤◌, List, map, Ok, Err, vec_items, Result, sym, refl, ap, ◌∙◌, subst, inl, inr, arith}
use Rattle.plant.specs.declared.refusals.Reason.{Reason}
use Rattle.plant.specs.declared.refusals.Reason.TheVariants as reason
use Rattle.plant.specs.Refusals.{number_of, law_number, law_told, refused}
use Rattle.plantformat.specs.declared.Head.{Head}
use Rattle.plantformat.specs.declared.Lane.{Lane}
use Rattle.plant.specs.declared.refusals.Law.{Law}
use Rattle.plant.specs.declared.refusals.Law.TheVariants.{Empty, Grows, Bends}
use Rattle.plantformat.specs.declared.FramingFault.TheVariants as framing
use Rattle.plantformat.specs.declared.RecordFault.TheVariants as rec
use Rattle.plantformat.specs.declared.LimitFault.TheVariants as lim
use Rattle.plantformat.specs.declared.FloorFault.{FloorFault}
use Rattle.plantformat.specs.declared.FloorFault.TheVariants as flo
use Rattle.plantformat.specs.Faults as faults
use Rattle.plantformat.specs.Records.{Limit, meaning_of}
use Rattle.plantformat.specs.Judge.{Draft, draft, judge}
use Rattle.plantformat.specs.Promise.{PlantFile}
use Rattle.plantformat.proofs.Verdicts.{ok_same}
use Rattle.plantformat.proofs.Accepted.{accepted_files_encode, encodings_are_accepted}
use Rattle.answers.specs.Content.{content}
use Rattle.plantfile.specs.Steps.{ReadWhole}
use Rattle.plantfile.specs.Promise.{empty_draft, FileRefusal, Promised}
use Rattle.limits.specs.Told.{told}
use Rattle.answers.specs.declared.file_plant.FilePlant.{FilePlant}
use Rattle.plantfile.specs.declared.reading.ReadError.{ReadError}
use Rattle.plantfile.specs.declared.reading.ReadError.TheVariants.{Refused, NoMemory}

-- every fault is told as a refusal that is listed
unnamed_listed : (r : Reason) → 1 ≤ number_of r → number_of r < 9 → law_told r ≡ 0 → (at : ℕ) → FileRefusal (refused r at)
unnamed_listed r low high none at = record { first = low; last = omega arith; layer = refl; named = λ e. absurd (omega arith); unnamed = λ e. none }

named_listed : (at : ℕ) (l : Law) → FileRefusal (refused (reason.Law l) at)
named_listed at l = record { first = omega arith; last = omega arith; layer = refl; named = λ e. by l; unnamed = λ e. absurd (e refl) }
  where
    by : (l : Law) → (1 ≤ law_number l) × (law_number l ≤ 3)
    by Empty = (omega arith, omega arith)
    by Grows = (omega arith, omega arith)
    by Bends = (omega arith, omega arith)

told_listed : (f : FloorFault) → FileRefusal (faults.told f)
told_listed (flo.Record (rec.Framing (framing.Length at))) = unnamed_listed reason.Framing (omega arith) (omega arith) refl at
told_listed (flo.Record (rec.Framing (framing.Kind at))) = unnamed_listed reason.Kind (omega arith) (omega arith) refl at
told_listed (flo.Record (rec.Order at)) = unnamed_listed reason.Order (omega arith) (omega arith) refl at
told_listed (flo.Record (rec.Size at)) = unnamed_listed reason.Size (omega arith) (omega arith) refl at
told_listed (flo.Record (rec.Range at)) = unnamed_listed reason.Range (omega arith) (omega arith) refl at
told_listed (flo.Ends at) = unnamed_listed reason.Ends (omega arith) (omega arith) refl at
told_listed (flo.TooMany at) = unnamed_listed reason.TooMany (omega arith) (omega arith) refl at
told_listed (flo.SecondLimit at) = unnamed_listed reason.SecondLimit (omega arith) (omega arith) refl at
told_listed (flo.Limit (lim.Breaks at l)) = named_listed at l

module _ (bs : List ℕ) (p : FilePlant) where
  -- a file that was read to its end
  pub promised_accepted : judge bs ≡ Ok (content p) → Promised bs p (Ok tt)
  promised_accepted e = record {
    accepted = λ v. (p.head, vec_items p.lanes, map told (vec_items p.limits), accepted_files_encode bs (content p) e, refl);
    taken = λ h ls ks f.
        let same : content p ≡ draft h ls ks = ok_same {E = FloorFault} (sym e ∙ encodings_are_accepted bs h ls ks f) in
        inr (refl, ap (λ (d : Draft). meaning_of d.head d.lanes d.limits) same);
    refused = λ x v. let z : ◌≡◌ {A = ℕ} 0 1 = cc in absurd (omega arith);
    empty = λ v. absurd (v refl);
  }

  module _ (empty : content p ≡ empty_draft) where
    -- no plant file has a fault
    no_file : (f : FloorFault) → judge bs ≡ Err f → (h : Head) (ls : List Lane) (ks : List Limit) → PlantFile bs h ls ks → ⊥
    no_file f e h ls ks k =
        let t : ◌≡◌ {A = Result Draft FloorFault} (Err f) (Ok (draft h ls ks)) = sym e ∙ encodings_are_accepted bs h ls ks k in
        let z : ◌≡◌ {A = ℕ} 0 1 = cc in
        omega arith

    -- a file that was not read to its end, for a fault of its own or for want of memory
    pub promised_stopped : (e : ReadError) → ReadWhole (judge bs) (Err e) → Promised bs p (Err e)
    promised_stopped (Refused x) (f, e, told) = record {
      accepted = λ v. let z : ◌≡◌ {A = ℕ} 0 1 = cc in absurd (omega arith);
      taken = λ h ls ks k. absurd (no_file f e h ls ks k);
      refused = λ y v. let same : faults.told f ≡ y = cc in (subst FileRefusal same (told_listed f), no_file f e);
      empty = λ v. empty;
    }
    promised_stopped NoMemory e = record {
      accepted = λ v. let z : ◌≡◌ {A = ℕ} 0 1 = cc in absurd (omega arith);
      taken = λ h ls ks k. inl refl;
      refused = λ x v. let z : ◌≡◌ {A = ℕ} 0 1 = cc in absurd (omega arith);
      empty = λ v. empty;
    }
