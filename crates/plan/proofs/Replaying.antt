-- A list of calls, one call after another.
use Rattle.std.proofs.Common.{◌≡◌, List, [], ◌∷◌, ◌++◌, reverse, refl, ◌∙◌, subst, append-nil}
use mathlib.Core.Path.{subst⁻¹}
use Rattle.std.proofs.lemmas.List.{reverse-append}
use Rattle.floor.specs.Meaning.{Meaning}
use Rattle.calls.specs.Events.{Event}
use Rattle.calls.specs.Kept.{Kept}
use Rattle.plan.specs.Plans.{state, Opens, Meets}
use Rattle.plan.specs.Journal.{Recorded, Journal, Replays, Answered}
use Rattle.plan.specs.declared.plan.Plan.{Plan}
use Rattle.plan.specs.declared.journal.Call.{Call}
use Rattle.plan.specs.declared.journal.Answer.{Answer}

-- one call more in a journal
journal_more : (cs : List Call) (bs : List Answer) (es : List Event) (c : Call) (a : Answer) (e : Event) → Journal cs bs es → Recorded c a e
    → Journal (cs ++ c ∷ []) (bs ++ a ∷ []) (es ++ e ∷ [])
journal_more [] [] [] c a e j r = (r, tt)
journal_more [] [] (x ∷ es) c a e j r = absurd j
journal_more [] (b ∷ bs) es c a e j r = absurd j
journal_more (d ∷ cs) [] es c a e j r = absurd j
journal_more (d ∷ cs) (b ∷ bs) [] c a e j r = absurd j
journal_more (d ∷ cs) (b ∷ bs) (x ∷ es) c a e j r = (j.0, journal_more cs bs es c a e j.1 r)

module _ {P : Type 0} (M : P → Meaning) (p : Plan P) where
  -- no call
  pub replays_none : Replays M p [] [] p
  replays_none = record { same = refl; events = []; journal = tt; knows = λ k. k; law = λ k past kept. kept }

  -- one call more
  pub replays_more : (cs : List Call) (bs : List Answer) (q : Plan P) (c : Call) (a : Answer) (r : Plan P) → Replays M p cs bs q
      → (e : Event) × Recorded c a e × Meets M q e r → Replays M p (cs ++ c ∷ []) (bs ++ a ∷ []) r
  replays_more cs bs q c a r before met =
      let e = met.0 in
      let es = before.events in
      let back : reverse (es ++ e ∷ []) ≡ e ∷ reverse es = reverse-append es (e ∷ []) in
      record {
        same = met.2.same ∙ before.same;
        events = es ++ e ∷ [];
        journal = journal_more cs bs es c a e before.journal met.1;
        knows = λ k. (met.2.right (before.knows k)).knows;
        law = λ k past kept.
            let mid = subst⁻¹ (λ x. Kept (M x) (reverse es ++ past) (state q)) before.same (before.law k past kept) in
            let after = subst (λ x. Kept (M x) (e ∷ (reverse es ++ past)) (state r)) before.same ((met.2.right (before.knows k)).law (reverse es ++ past) mid) in
            subst⁻¹ (λ h. Kept (M p.plant) (h ++ past) (state r)) back after;
      }

-- from the opening on
pub answered : {P : Type 0} (M : P → Meaning) (plant : P) (p q : Plan P) (cs : List Call) (bs : List Answer) → Opens M plant p → Replays M p cs bs q
    → Answered (M plant) cs bs
answered M plant p q cs bs o r =
    let start = subst⁻¹ (λ x. Kept (M x) [] (state p)) o.same o.law in
    let kept = subst (λ x. Kept (M x) (reverse r.events ++ []) (state q)) o.same (r.law o.knows [] start) in
    let whole = subst (λ h. Kept (M plant) h (state q)) (append-nil (reverse r.events)) kept in
    record { events = r.events; journal = r.journal; promise = record { calls = whole.calls; trays = (state q).trays; carried = whole.carried } }
