-- A record is cut off the front of the bytes just where the bytes begin with the bytes of a record.
use Rattle.std.proofs.Common.{◌≡◌, ℕ, ◌+◌, ◌-◌, ◌≤◌, Bool, true, false, cond, ◌||◌, eqb, ltb, List, ◌++◌, length, take, drop, Some, None, Ok, Option, sym, refl, ap, ◌∙◌, subst, arith}
use Rattle.std.proofs.lemmas.Bool.{ltb-false, le-ltb, or_parts, or_from, eqb-true}
use Rattle.std.proofs.lemmas.List.{length-take, length-drop, length-append, get_or-take, get_or_append_left, take-append-drop, drop-take, drop-append-le, take_at, drop_at}
use Rattle.plantformat.specs.declared.Kind.{Kind}
use Rattle.plantformat.specs.declared.Kind.TheVariants as kind
use Rattle.plantformat.specs.declared.FramingFault.{FramingFault}
use Rattle.plantformat.specs.Bytes.{word}
use Rattle.plantformat.specs.Encoding.{RecordBytes, kind_number}
use Rattle.plantformat.specs.Judge.{Frame, frame, kind_of, cut_short, kinded, framed}
use Rattle.plantformat.proofs.Verdicts.{unless_ok, unless_passed, ok_same}

-- ---- kinds

pub kind_of_number : (k : Kind) → kind_of (kind_number k) ≡ Some k
kind_of_number kind.Head = refl
kind_of_number kind.Lane = refl
kind_of_number kind.Table = refl
kind_of_number kind.Groups = refl
kind_of_number kind.Grades = refl

some_same : {X : Type 0} {x y : X} → Some x ≡ Some y → x ≡ y
some_same p = cc

-- one test of the chain
pick : (n : ℕ) (j k : Kind) (o : Option Kind) → cond (eqb n (kind_number j)) (Some j) o ≡ Some k → (o ≡ Some k → n ≡ kind_number k)
    → n ≡ kind_number k
pick n j k o e go = by (eqb n (kind_number j)) refl e
  where
    by : (b : Bool) → eqb n (kind_number j) ≡ b → cond b (Some j) o ≡ Some k → n ≡ kind_number k
    by true q p = eqb-true n (kind_number j) q ∙ ap kind_number (some_same p)
    by false q p = go p

pub number_of_kind : (n : ℕ) (k : Kind) → kind_of n ≡ Some k → n ≡ kind_number k
number_of_kind n k e =
    pick n kind.Head k _ e (λ e₁. pick n kind.Lane k _ e₁ (λ e₂. pick n kind.Table k _ e₂ (λ e₃. pick n kind.Groups k _ e₃
    (λ e₄. pick n kind.Grades k _ e₄ (λ e₅. let z : ◌≡◌ {A = ℕ} 0 1 = cc in absurd (omega arith))))))

kinded_ok : (at : ℕ) (o : Option Kind) (b r : List ℕ) {f : Frame} → kinded at o b r ≡ Ok f → (k : Kind) × (o ≡ Some k) × (frame k b r ≡ f)
kinded_ok at None b r p = let z : ◌≡◌ {A = ℕ} 0 1 = cc in absurd (omega arith)
kinded_ok at (Some k) b r p = (k, refl, ok_same {E = FramingFault} p)

-- ---- frames

whole : (bs : List ℕ) → cut_short bs ≡ false → (4 ≤ length bs) × (4 ≤ word bs 0) × (word bs 0 ≤ length bs)
whole bs e =
    let a = or_parts (ltb (length bs) 4) (ltb (word bs 0) 4 || ltb (length bs) (word bs 0)) e in
    let b = or_parts (ltb (word bs 0) 4) (ltb (length bs) (word bs 0)) a.1 in
    (ltb-false _ _ a.0, ltb-false _ _ b.0, ltb-false _ _ b.1)

not_cut : (bs : List ℕ) → 4 ≤ length bs → 4 ≤ word bs 0 → word bs 0 ≤ length bs → cut_short bs ≡ false
not_cut bs a b c = or_from _ _ (le-ltb _ _ a) (or_from _ _ (le-ltb _ _ b) (le-ltb _ _ c))

-- the first n bytes are a record if their length says so
taken : (bs : List ℕ) (k : Kind) (n : ℕ) → word bs 0 ≡ n → 4 ≤ n → n ≤ length bs → word bs 2 ≡ kind_number k
    → RecordBytes k (take (n - 4) (drop 4 bs)) (take n bs)
taken bs k n e low high ek =
    let t = length-take n bs in
    let u = length-take (n - 4) (drop 4 bs) in
    let v = length-drop 4 bs in
    let a = get_or-take n bs 0 0 (omega arith) in
    let b = get_or-take n bs 1 0 (omega arith) in
    let c = get_or-take n bs 2 0 (omega arith) in
    let d = get_or-take n bs 3 0 (omega arith) in
    let m : 4 + (n - 4) ≡ n = omega arith in
    record {
      long_enough = omega arith;
      size = omega arith;
      kind = omega arith;
      body_after = ap (λ x. drop 4 (take x bs)) (sym m) ∙ drop-take 4 (n - 4) bs;
    }

-- the bytes that a frame was cut from begin with a record
pub framed_cut : (at : ℕ) (bs : List ℕ) {f : Frame} → framed at bs ≡ Ok f
    → (front : List ℕ) × (bs ≡ front ++ f.rest) × RecordBytes f.kind f.body front
framed_cut at bs {f} p =
    let a = unless_ok _ _ _ p in
    let k = kinded_ok at _ _ _ a.1 in
    let s = whole bs a.0 in
    let r = taken bs k.0 (word bs 0) refl s.1 s.2 (number_of_kind _ _ k.1) in
    subst (λ (g : Frame). (front : List ℕ) × (bs ≡ front ++ g.rest) × RecordBytes g.kind g.body front) k.2
    (take (word bs 0) bs, sym (take-append-drop (word bs 0) bs), r)

-- bytes that begin with a record are cut after it
pub framed_at : (at : ℕ) (k : Kind) (body front rest : List ℕ) → RecordBytes k body front → framed at (front ++ rest) ≡ Ok (frame k body rest)
framed_at at k body front rest r =
    let l = length-append front rest in
    let a = get_or_append_left front rest 0 0 (omega arith) in
    let b = get_or_append_left front rest 0 1 (omega arith) in
    let c = get_or_append_left front rest 0 2 (omega arith) in
    let d = get_or_append_left front rest 0 3 (omega arith) in
    let n : word (front ++ rest) 0 ≡ length front = omega arith in
    let m : word (front ++ rest) 2 ≡ kind_number k = omega arith in
    let s : length (drop 4 front) ≡ length front - 4 = length-drop 4 front in
    let b : take (word (front ++ rest) 0 - 4) (drop 4 (front ++ rest)) ≡ body =
    ap (λ x. take (x - 4) (drop 4 (front ++ rest))) n ∙ ap (take (length front - 4)) (drop-append-le 4 front rest (omega arith))
    ∙ take_at (drop 4 front) rest (length front - 4) s ∙ r.body_after in
    let t : drop (word (front ++ rest) 0) (front ++ rest) ≡ rest = ap (λ x. drop x (front ++ rest)) n ∙ drop_at front rest (length front) refl in
    unless_passed _ _ _ (not_cut (front ++ rest) (omega arith) (omega arith) (omega arith))
    ∙ ap (λ o. kinded at o (take (word (front ++ rest) 0 - 4) (drop 4 (front ++ rest))) (drop (word (front ++ rest) 0) (front ++ rest)))
    (ap kind_of m ∙ kind_of_number k)
    ∙ (λ i. Ok (frame k (b i) (t i)))
