-- The judge accepts just the bytes that encode a head, lanes and limits which pass the tests of the rules.
use Rattle.std.proofs.Common.{◌≡◌, ℕ, ◌≤◌, true, eqb, ltb, List, [], ◌++◌, length, Ok, Result, refl, ap, ◌∙◌, subst, arith}
use Rattle.std.proofs.lemmas.Bool.{ltb-false, le-ltb, ne_eqb}
use Rattle.plantformat.specs.Numbers.{most_bytes}
use Rattle.plantformat.specs.declared.Head.{Head}
use Rattle.plantformat.specs.declared.Lane.{Lane}
use Rattle.plantformat.specs.declared.Kind.{Kind}
use Rattle.plantformat.specs.declared.Kind.TheVariants as kind
use Rattle.plantformat.specs.declared.RecordFault.TheVariants as rec
use Rattle.plantformat.specs.declared.FloorFault.{FloorFault}
use Rattle.plantformat.specs.declared.FloorFault.TheVariants as flo
use Rattle.plantformat.specs.Records.{Limit}
use Rattle.plantformat.specs.Rules.{head_keeps, keeps}
use Rattle.plantformat.specs.Encoding.{RecordBytes, HeadBytes, Encodes}
use Rattle.plantformat.specs.Judge.{Frame, frame, Draft, draft, onward, with_rest, framed, first_read, head_read, headed, read_on, judge}
use Rattle.plantformat.proofs.Verdicts.{unless_ok, unless_passed, onward_ok, with_rest_ok}
use Rattle.plantformat.proofs.Frames.{framed_cut, framed_at}
use Rattle.plantformat.proofs.Parts.{head_ok, head_there}
use Rattle.plantformat.proofs.Keeping.{kept_parts, kept_from, kept_head}
use Rattle.plantformat.proofs.Reading.{Rows, rest_shorter, read_ok}
use Rattle.plantformat.proofs.Rereading.{lanes_read}

-- ---- the head

first_head : (k : Kind) (b r : List ℕ) {h : Head} → first_read (frame k b r) ≡ Ok h → (k ≡ kind.Head) × (head_read 0 b ≡ Ok h)
first_head kind.Head b r e = (refl, e)
first_head kind.Lane b r e = let z : ◌≡◌ {A = ℕ} 0 1 = cc in absurd (omega arith)
first_head kind.Table b r e = let z : ◌≡◌ {A = ℕ} 0 1 = cc in absurd (omega arith)
first_head kind.Groups b r e = let z : ◌≡◌ {A = ℕ} 0 1 = cc in absurd (omega arith)
first_head kind.Grades b r e = let z : ◌≡◌ {A = ℕ} 0 1 = cc in absurd (omega arith)

-- the bytes begin with a head that keeps its rules
pub record Headed (bs : List ℕ) (h : Head) (rest : List ℕ) : Type 0 where
  pub front : List ℕ
  pub cut : bs ≡ front ++ rest
  pub bytes : HeadBytes h front
  pub keeps : head_keeps h ≡ true

pub headed_ok : (bs : List ℕ) (p : Head × List ℕ) → headed bs ≡ Ok p → Headed bs p.0 p.1
headed_ok bs p e =
    let a = unless_ok (eqb (length bs) 0) _ _ e in
    let b = onward_ok rec.Framing (framed 0 bs) (λ f. with_rest f.rest (first_read f)) a.1 in
    by b.0 (framed_cut 0 bs b.1) (with_rest_ok b.0.rest (first_read b.0) b.2)
  where
    by : (f : Frame) → (front : List ℕ) × (bs ≡ front ++ f.rest) × RecordBytes f.kind f.body front
        → (first_read f ≡ Ok p.0) × (f.rest ≡ p.1) → Headed bs p.0 p.1
    by f c r =
        let s = first_head f.kind f.body f.rest r.0 in
        let t = head_ok 0 f.body s.1 in
        record {
          front = c.0;
          cut = c.1 ∙ ap (λ x. c.0 ++ x) r.1;
          bytes = (f.body, subst (λ k. RecordBytes k f.body c.0) s.0 c.2, t.0);
          keeps = t.1;
        }

headed_there : (front rest : List ℕ) (h : Head) → HeadBytes h front → head_keeps h ≡ true → headed (front ++ rest) ≡ Ok (h, rest)
headed_there front rest h b k =
    let s = rest_shorter kind.Head b.0 (front ++ rest) front rest b.1 refl in
    unless_passed _ _ _ (ne_eqb (length (front ++ rest)) 0 (λ z. omega arith))
    ∙ ap (λ x. onward rec.Framing x (λ f. with_rest f.rest (first_read f))) (framed_at 0 kind.Head b.0 front rest b.1)
    ∙ ap (with_rest rest) (head_there 0 b.0 h b.2 k)

-- ---- the whole file

encoded : (bs rest : List ℕ) (h : Head) (d : Draft) → Headed bs h rest → Rows (draft h [] []) rest d
    → Encodes bs d.head d.lanes d.limits
encoded bs rest h d t r =
    subst (λ (x : Draft). Encodes bs x.head x.lanes x.limits) r.with_them (record {
      head_part = t.front;
      lanes_part = r.lanes_part;
      limits_part = r.limits_part;
      parts = t.cut ∙ ap (λ x. t.front ++ x) r.parts;
      head = t.bytes;
      lanes = r.lanes_row;
      limits = r.limits_row;
    })

pub judged_encodes : (bs : List ℕ) (d : Draft) → judge bs ≡ Ok d
    → (length bs ≤ most_bytes) × Encodes bs d.head d.lanes d.limits × (keeps d.head d.lanes d.limits ≡ true)
judged_encodes bs d e =
    let a = unless_ok (ltb most_bytes (length bs)) _ _ e in
    let b = onward_ok flo.Record (headed bs) (λ p. read_on (length p.1) (length bs) (draft p.0 [] []) p.1) a.1 in
    by b.0 (ltb-false most_bytes (length bs) a.0) (headed_ok bs b.0 b.1) b.2
  where
    by : (p : Head × List ℕ) → length bs ≤ most_bytes → Headed bs p.0 p.1
        → read_on (length p.1) (length bs) (draft p.0 [] []) p.1 ≡ Ok d
        → (length bs ≤ most_bytes) × Encodes bs d.head d.lanes d.limits × (keeps d.head d.lanes d.limits ≡ true)
    by p low t q =
        let r = read_ok (length p.1) (length bs) (draft p.0 [] []) p.1 d (omega arith) (kept_head p.0 t.keeps) q in
        (low, encoded bs p.1 p.0 d t r, kept_from d.head d.lanes d.limits r.kept)

pub encoded_judged : (bs : List ℕ) (h : Head) (ls : List Lane) (ks : List Limit) → length bs ≤ most_bytes → Encodes bs h ls ks
    → keeps h ls ks ≡ true → judge bs ≡ Ok (draft h ls ks)
encoded_judged bs h ls ks low c k =
    let r = kept_parts h ls ks k in
    let rest : List ℕ = c.lanes_part ++ c.limits_part in
    let go : Head × List ℕ → Result Draft FloorFault = λ p. read_on (length p.1) (length bs) (draft p.0 [] []) p.1 in
    unless_passed _ _ _ (le-ltb most_bytes (length bs) low)
    ∙ ap (λ x. onward flo.Record x go) (ap headed c.parts ∙ headed_there c.head_part rest h c.head r.head)
    ∙ lanes_read (length rest) (length bs) h [] ls ks rest c.lanes_part c.limits_part (omega arith) r refl c.lanes c.limits
