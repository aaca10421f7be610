-- Rows of lanes and of limits that keep the rules are read on to the end, as just these lanes and limits.
use Rattle.std.proofs.Common.{◌≡◌, ℕ, zero, suc, ◌-◌, ◌≤◌, List, [], ◌∷◌, ◌++◌, length, Ok, Result, sym, refl, ap, ◌∙◌, subst, append_assoc, append-nil, arith}
use mathlib.Core.Path.{subst⁻¹}
use Rattle.std.proofs.lemmas.Bool.{ne_eqb, cond-false}
use Rattle.std.proofs.lemmas.List.{length-append}
use Rattle.plantformat.specs.declared.Head.{Head}
use Rattle.plantformat.specs.declared.Lane.{Lane}
use Rattle.plantformat.specs.declared.Kind.{Kind}
use Rattle.plantformat.specs.declared.Kind.TheVariants as kind
use Rattle.plantformat.specs.declared.FloorFault.{FloorFault}
use Rattle.plantformat.specs.declared.FloorFault.TheVariants as flo
use Rattle.plantformat.specs.declared.RecordFault.TheVariants as rec
use Rattle.plantformat.specs.Records.{Limit}
use Rattle.plantformat.specs.Encoding.{RecordBytes, LaneBytes, LimitBytes, Row, limit_kind}
use Rattle.plantformat.specs.Judge.{Part, Draft, draft, onward, with_rest, part_read, recorded, placed, lanes_may_come, read_on}
use Rattle.plantformat.proofs.Frames.{framed_at}
use Rattle.plantformat.proofs.Parts.{LaneMore, LimitMore, Taken, lane_taken, limit_taken}
use Rattle.plantformat.proofs.Keeping.{Kept, lane_kept, limit_kept}
use Rattle.plantformat.proofs.Reading.{rest_shorter}

-- a record that is taken is read, and reading goes on after it
read_step : (fuel total : ℕ) (d : Draft) (k : Kind) (b front rest : List ℕ) (next : Draft) → RecordBytes k b front
    → Taken d k b next (total - length (front ++ rest)) → read_on (suc fuel) total d (front ++ rest) ≡ read_on fuel total next rest
read_step fuel total d k b front rest next r t =
    let s = rest_shorter k b (front ++ rest) front rest r refl in
    let at : ℕ = total - length (front ++ rest) in
    let go : (p : Part × List ℕ) → Result Draft FloorFault =
    λ p. onward (λ e. e) (placed d at p.0) (λ next. read_on fuel total next p.1) in
    let one : recorded (lanes_may_come d) d.head.stations at (front ++ rest) ≡ Ok (t.0, rest) =
    ap (λ x. onward rec.Framing x (λ f. with_rest f.rest (part_read f.kind (lanes_may_come d) d.head.stations at f.body)))
    (framed_at at k b front rest r)
    ∙ ap (with_rest rest) t.1 in
    cond-false _ _ _ (ne_eqb (length (front ++ rest)) 0 (λ z. omega arith))
    ∙ ap (λ x. onward flo.Record x go) one
    ∙ ap (λ x. onward (λ e. e) x (λ next. read_on fuel total next rest)) t.2

read_none : (fuel total : ℕ) (d : Draft) → read_on fuel total d [] ≡ Ok d
read_none zero total d = refl
read_none (suc fuel) total d = refl

pub limits_read : (fuel total : ℕ) (h : Head) (ls : List Lane) (ks ms : List Limit) (bs : List ℕ) → length bs ≤ fuel → Kept h ls (ks ++ ms)
    → Row LimitBytes ms bs → read_on fuel total (draft h ls ks) bs ≡ Ok (draft h ls (ks ++ ms))
limits_read fuel total h ls ks [] bs l r row =
    ap (read_on fuel total (draft h ls ks)) row ∙ read_none fuel total (draft h ls ks)
    ∙ ap {B = Result Draft FloorFault} (λ x. Ok (draft h ls x)) (sym (append-nil ks))
limits_read zero total h ls ks (m ∷ ms) bs l r row =
    let s = rest_shorter (limit_kind m) row.3.0 bs row.0 row.1 row.3.1 row.2 in
    absurd (omega arith)
limits_read (suc fuel) total h ls ks (m ∷ ms) bs l r row =
    let s = rest_shorter (limit_kind m) row.3.0 bs row.0 row.1 row.3.1 row.2 in
    let q = limit_kept h ls ks m ms r in
    let x : LimitMore (draft h ls ks) m (draft h ls (ks ++ m ∷ [])) =
    record { on_floor = q.0; keeps = q.1; alone = q.2; with_it = refl } in
    let a : (ks ++ m ∷ []) ++ ms ≡ ks ++ m ∷ ms = append_assoc ks (m ∷ []) ms in
    ap (read_on (suc fuel) total (draft h ls ks)) row.2
    ∙ read_step fuel total (draft h ls ks) (limit_kind m) row.3.0 row.0 row.1 (draft h ls (ks ++ m ∷ [])) row.3.1
    (limit_taken (draft h ls ks) _ row.3.0 m (draft h ls (ks ++ m ∷ [])) row.3.2 x)
    ∙ limits_read fuel total h ls (ks ++ m ∷ []) ms row.1 (omega arith) (subst⁻¹ (Kept h ls) a r) row.4
    ∙ ap {B = Result Draft FloorFault} (λ x. Ok (draft h ls x)) a

pub lanes_read : (fuel total : ℕ) (h : Head) (ls more : List Lane) (ks : List Limit) (bs lp mp : List ℕ) → length bs ≤ fuel
    → Kept h (ls ++ more) ks → bs ≡ lp ++ mp → Row LaneBytes more lp → Row LimitBytes ks mp
    → read_on fuel total (draft h ls []) bs ≡ Ok (draft h (ls ++ more) ks)
lanes_read fuel total h ls [] ks bs lp mp l r e row rows =
    let here : bs ≡ mp = e ∙ ap (λ x. x ++ mp) row in
    let n = ap length here in
    let a : ls ++ [] ≡ ls = append-nil ls in
    ap (read_on fuel total (draft h ls [])) here
    ∙ limits_read fuel total h ls [] ks mp (omega arith) (subst (λ x. Kept h x ks) a r) rows
    ∙ ap {B = Result Draft FloorFault} (λ x. Ok (draft h x ks)) (sym a)
lanes_read zero total h ls (x ∷ more) ks bs lp mp l r e row rows =
    let s = rest_shorter kind.Lane row.3.0 lp row.0 row.1 row.3.1 row.2 in
    let n = ap length e in
    let m = length-append lp mp in
    absurd (omega arith)
lanes_read (suc fuel) total h ls (x ∷ more) ks bs lp mp l r e row rows =
    let q = lane_kept h ls x more ks r in
    let y : LaneMore (draft h ls []) x (draft h (ls ++ x ∷ []) []) = record { no_limits = refl; keeps = q.0; room = q.1; with_it = refl } in
    let a : (ls ++ x ∷ []) ++ more ≡ ls ++ x ∷ more = append_assoc ls (x ∷ []) more in
    let c : bs ≡ row.0 ++ (row.1 ++ mp) = e ∙ ap (λ x. x ++ mp) row.2 ∙ append_assoc row.0 row.1 mp in
    let s = rest_shorter kind.Lane row.3.0 bs row.0 (row.1 ++ mp) row.3.1 c in
    ap (read_on (suc fuel) total (draft h ls [])) c
    ∙ read_step fuel total (draft h ls []) kind.Lane row.3.0 row.0 (row.1 ++ mp) (draft h (ls ++ x ∷ []) []) row.3.1
    (lane_taken (draft h ls []) _ row.3.0 x (draft h (ls ++ x ∷ []) []) row.3.2 y)
    ∙ lanes_read fuel total h (ls ++ x ∷ []) more ks (row.1 ++ mp) row.1 mp (omega arith) (subst⁻¹ (λ z. Kept h z ks) a r) refl row.4 rows
    ∙ ap {B = Result Draft FloorFault} (λ z. Ok (draft h z ks)) a
