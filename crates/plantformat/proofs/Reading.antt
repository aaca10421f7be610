-- What is read on from a draft: the bytes are rows of lanes and of limits, and the draft with them keeps the rules.
use Rattle.std.proofs.Common.{◌≡◌, ℕ, zero, suc, ◌+◌, ◌-◌, ◌<◌, ◌≤◌, Bool, true, false, cond, eqb, List, [], ◌∷◌, ◌++◌, length, Ok, Result, sym, refl, ap, ◌∙◌, subst, append_assoc, append-nil, arith}
use mathlib.Core.Path.{subst⁻¹}
use Rattle.std.proofs.lemmas.Bool.{eqb-true}
use Rattle.std.proofs.lemmas.List.{length-append, nil_from_length}
use Rattle.plantformat.specs.declared.Lane.{Lane}
use Rattle.plantformat.specs.declared.Kind.{Kind}
use Rattle.plantformat.specs.declared.FloorFault.{FloorFault}
use Rattle.plantformat.specs.Records.{Limit}
use Rattle.plantformat.specs.Encoding.{RecordBytes, LaneBytes, LimitBytes, Row}
use Rattle.plantformat.specs.declared.FloorFault.TheVariants as flo
use Rattle.plantformat.specs.Judge.{onward, framed, part_read, Part, Frame, Draft, draft, recorded, placed, lanes_may_come, read_on}
use Rattle.plantformat.proofs.Verdicts.{onward_ok, with_rest_ok, ok_same}
use Rattle.plantformat.proofs.Frames.{framed_cut}
use Rattle.plantformat.proofs.Parts.{More, lane_more, limit_more, part_ok}
use Rattle.plantformat.proofs.Keeping.{Kept, kept_parts, kept_from, kept_lane, kept_limit}
use Rattle.plantformat.specs.Rules.{keeps}

abbrev pub Keeping : Draft → Type 0
Keeping d = Kept d.head d.lanes d.limits

-- the bytes are rows of lanes and of limits, with which the draft is the last one; if it has a limit then no lane comes
pub record Rows (d : Draft) (bs : List ℕ) (last : Draft) : Type 0 where
  pub lanes : List Lane
  pub limits : List Limit
  pub lanes_part : List ℕ
  pub limits_part : List ℕ
  pub parts : bs ≡ lanes_part ++ limits_part
  pub lanes_row : Row LaneBytes lanes lanes_part
  pub limits_row : Row LimitBytes limits limits_part
  pub with_them : draft d.head (d.lanes ++ lanes) (d.limits ++ limits) ≡ last
  pub kept : Keeping last
  pub order : (d.limits ≡ [] → ⊥) → lanes ≡ []

no_rows : (d : Draft) (bs : List ℕ) (last : Draft) → bs ≡ [] → d ≡ last → Keeping d → Rows d bs last
no_rows d bs last none same k =
    record {
      lanes = [];
      limits = [];
      lanes_part = [];
      limits_part = [];
      parts = none;
      lanes_row = refl;
      limits_row = refl;
      with_them = (λ i. draft d.head (append-nil d.lanes i) (append-nil d.limits i)) ∙ same;
      kept = subst Keeping same k;
      order = λ x. refl;
    }

lane_first : (d : Draft) (l : Lane) (front rest : List ℕ) (last : Draft) → d.limits ≡ [] → LaneBytes l front
    → Rows (draft d.head (d.lanes ++ l ∷ []) d.limits) rest last → Rows d (front ++ rest) last
lane_first d l front rest last none b r =
    record {
      lanes = l ∷ r.lanes;
      limits = r.limits;
      lanes_part = front ++ r.lanes_part;
      limits_part = r.limits_part;
      parts = ap (λ x. front ++ x) r.parts ∙ sym (append_assoc front r.lanes_part r.limits_part);
      lanes_row = (front, r.lanes_part, refl, b, r.lanes_row);
      limits_row = r.limits_row;
      with_them = ap (λ x. draft d.head x (d.limits ++ r.limits)) (sym (append_assoc d.lanes (l ∷ []) r.lanes)) ∙ r.with_them;
      kept = r.kept;
      order = λ x. absurd (x none);
    }

push_some : {A : Type 0} (xs : List A) (x : A) → xs ++ x ∷ [] ≡ [] → ⊥
push_some xs x e = let n = ap length e in let m = length-append xs (x ∷ []) in omega arith

limit_first : (d : Draft) (m : Limit) (front rest : List ℕ) (last : Draft) → LimitBytes m front
    → Rows (draft d.head d.lanes (d.limits ++ m ∷ [])) rest last → Rows d (front ++ rest) last
limit_first d m front rest last b r =
    let none : r.lanes ≡ [] = r.order (push_some d.limits m) in
    let clear : r.lanes_part ≡ [] = subst (λ ls. Row LaneBytes ls r.lanes_part) none r.lanes_row in
    record {
      lanes = [];
      limits = m ∷ r.limits;
      lanes_part = [];
      limits_part = front ++ r.limits_part;
      parts = ap (λ x. front ++ x) (r.parts ∙ ap (λ x. x ++ r.limits_part) clear);
      lanes_row = refl;
      limits_row = (front, r.limits_part, refl, b, r.limits_row);
      with_them = (λ i. draft d.head (d.lanes ++ sym none i) (sym (append_assoc d.limits (m ∷ []) r.limits) i)) ∙ r.with_them;
      kept = r.kept;
      order = λ x. refl;
    }

-- one record more
more_first : (d : Draft) (k : Kind) (b front rest : List ℕ) (next last : Draft) → RecordBytes k b front → More d k b next
    → Rows next rest last → Rows d (front ++ rest) last
more_first d k b front rest next last c (lane_more l e body m) r =
    lane_first d l front rest last m.no_limits (b, subst (λ x. RecordBytes x b front) e c, body)
    (subst⁻¹ (λ x. Rows x rest last) m.with_it r)
more_first d k b front rest next last c (limit_more l e body m) r =
    limit_first d l front rest last (b, subst (λ x. RecordBytes x b front) e c, body) (subst⁻¹ (λ x. Rows x rest last) m.with_it r)

more_kept : (d : Draft) (k : Kind) (b : List ℕ) (next : Draft) → More d k b next → Keeping d → Keeping next
more_kept d k b next (lane_more l e body m) r =
    let none = m.no_limits in
    subst Keeping m.with_it
    (subst⁻¹ (λ x. Kept d.head (d.lanes ++ l ∷ []) x) none
    (kept_lane d.head d.lanes l (subst (λ x. Kept d.head d.lanes x) none r) m.keeps m.room))
more_kept d k b next (limit_more l e body m) r =
    subst Keeping m.with_it (kept_limit d.head d.lanes d.limits l r m.on_floor m.keeps m.alone)

-- ---- record by record

-- the first record of the bytes, with the bytes after it
pub record First (d : Draft) (bs rest : List ℕ) (next : Draft) : Type 0 where
  pub kind : Kind
  pub body : List ℕ
  pub front : List ℕ
  pub cut : bs ≡ front ++ rest
  pub bytes : RecordBytes kind body front
  pub more : More d kind body next

first_ok : (d : Draft) (at : ℕ) (bs : List ℕ) (p : Part × List ℕ) (next : Draft)
    → recorded (lanes_may_come d) d.head.stations at bs ≡ Ok p → placed d at p.0 ≡ Ok next → First d bs p.1 next
first_ok d at bs p next e q =
    let a = onward_ok _ (framed at bs) _ e in
    by a.0 (framed_cut at bs a.1) (with_rest_ok a.0.rest _ a.2)
  where
    by : (f : Frame) → (front : List ℕ) × (bs ≡ front ++ f.rest) × RecordBytes f.kind f.body front
        → (part_read f.kind (lanes_may_come d) d.head.stations at f.body ≡ Ok p.0) × (f.rest ≡ p.1) → First d bs p.1 next
    by f c r =
        record {
          kind = f.kind;
          body = f.body;
          front = c.0;
          cut = c.1 ∙ ap (λ x. c.0 ++ x) r.1;
          bytes = c.2;
          more = part_ok f.kind d at f.body r.0 q;
        }

pub rest_shorter : (k : Kind) (b bs front rest : List ℕ) → RecordBytes k b front → bs ≡ front ++ rest → 4 + length rest ≤ length bs
rest_shorter k b bs front rest r e =
    let n = ap length e in
    let m = length-append front rest in
    let l = r.long_enough in
    omega arith

-- one record more keeps the rules, and leaves fewer bytes
pub step_kept : (d : Draft) (at : ℕ) (bs : List ℕ) (p : Part × List ℕ) (next : Draft)
    → recorded (lanes_may_come d) d.head.stations at bs ≡ Ok p → placed d at p.0 ≡ Ok next
    → keeps d.head d.lanes d.limits ≡ true
    → (keeps next.head next.lanes next.limits ≡ true) × (length p.1 < length bs)
step_kept d at bs p next e q k =
    let f = first_ok d at bs p next e q in
    let s = rest_shorter f.kind f.body bs f.front p.1 f.bytes f.cut in (
      kept_from next.head next.lanes next.limits
          (more_kept d f.kind f.body next f.more (kept_parts d.head d.lanes d.limits k)),
      omega arith,
    )

-- the bytes that are read on from a draft which keeps the rules
pub read_ok : (fuel total : ℕ) (d : Draft) (bs : List ℕ) (last : Draft) → length bs ≤ fuel → Keeping d → read_on fuel total d bs ≡ Ok last
    → Rows d bs last
read_ok zero total d bs last l k e = no_rows d bs last (nil_from_length bs (omega arith)) (ok_same {E = FloorFault} e) k
read_ok (suc fuel) total d bs last l k e = by (eqb (length bs) 0) refl (read_ok fuel total) e
  where
    at : ℕ
    at = total - length bs

    go : (p : Part × List ℕ) → Result Draft FloorFault
    go p = onward (λ e. e) (placed d at p.0) (λ next. read_on fuel total next p.1)

    on : ((d : Draft) (bs : List ℕ) (last : Draft) → length bs ≤ fuel → Keeping d → read_on fuel total d bs ≡ Ok last → Rows d bs last)
        → (p : Part × List ℕ) (next : Draft) → First d bs p.1 next → read_on fuel total next p.1 ≡ Ok last → Rows d bs last
    on ih p next f r =
        let s = rest_shorter f.kind f.body bs f.front p.1 f.bytes f.cut in
        subst⁻¹ (λ x. Rows d x last) f.cut
        (more_first d f.kind f.body f.front p.1 next last f.bytes f.more
        (ih next p.1 last (omega arith) (more_kept d f.kind f.body next f.more k) r))

    by : (b : Bool) → eqb (length bs) 0 ≡ b
        → ((d : Draft) (bs : List ℕ) (last : Draft) → length bs ≤ fuel → Keeping d → read_on fuel total d bs ≡ Ok last → Rows d bs last)
        → cond b (Ok d) (onward flo.Record (recorded (lanes_may_come d) d.head.stations at bs) go) ≡ Ok last → Rows d bs last
    by true t ih q = no_rows d bs last (nil_from_length bs (eqb-true (length bs) 0 t)) (ok_same {E = FloorFault} q) k
    by false t ih q =
        let a = onward_ok flo.Record (recorded (lanes_may_come d) d.head.stations at bs) go q in
        let c = onward_ok (λ e. e) (placed d at a.0.0) (λ next. read_on fuel total next a.0.1) a.2 in
        on ih a.0 c.0 (first_ok d at bs a.0 c.0 a.1 c.1) c.2
