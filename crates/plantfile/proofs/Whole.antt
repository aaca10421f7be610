-- A whole file, read record by record as it is judged.
use Rattle.std.proofs.Common.{◌≡◌, ℕ, zero, suc, ◌-◌, ◌<◌, ◌≤◌, Bool, true, false, cond, not, eqb, ltb, List, [], ◌∷◌, ◌++◌, map, length, Ok, Err, Result, sym, refl, ap, ◌∙◌, subst, arith}
use mathlib.Core.Path.{subst⁻¹}
use Rattle.std.proofs.lemmas.Bool.{cond-true, cond-false, eq-eqb, ne_eqb}
use Rattle.std.proofs.lemmas.List.{length-append}
use Rattle.plantformat.specs.declared.Head.{Head}
use Rattle.plantformat.specs.declared.Lane.{Lane}
use Rattle.plantformat.specs.declared.RecordFault.{RecordFault}
use Rattle.plantformat.specs.declared.FloorFault.{FloorFault}
use Rattle.plantformat.specs.declared.FloorFault.TheVariants as flo
use Rattle.plantformat.specs.Numbers.{most_bytes}
use Rattle.plantformat.specs.Rules.{head_keeps, lane_leads, keeps}
use Rattle.plantformat.specs.Judge.{onward, unless, Part, Draft, draft, framed, headed, recorded, placed, lanes_may_come, limit_placed, limit_added, crowded, read_on, judge}
use Rattle.plantformat.proofs.Verdicts.{unless_ok, onward_ok, with_rest_ok, ok_same}
use Rattle.plantformat.proofs.Frames.{framed_cut}
use Rattle.plantformat.proofs.Keeping.{kept_head, kept_from}
use Rattle.plantformat.proofs.Reading.{rest_shorter, step_kept}
use Rattle.plantformat.proofs.Judged.{headed_ok}
use Rattle.records.specs.Parts.{record_part}
use Rattle.limits.specs.Told.{told, limit_read}
use Rattle.plantfile.specs.Steps.{next_judged, grown, keeps_draft, opened}
use Rattle.limits.specs.declared.Limit.TheVariants.{Table, Groups, Grades}
use Rattle.records.specs.declared.bodies.Record as code
use Rattle.records.specs.declared.bodies.Record.TheVariants as record_of
use Rattle.limits.specs.declared.Limit as code_limit
use Rattle.plantformat.specs.Records as format
use Rattle.limits.proofs.LimitCaps.{read_is_told}

-- ---- the number of turns that are allowed does not matter, if there are as many as bytes

pub recorded_shorter : (lanes : Bool) (n at : ℕ) (bs : List ℕ) (p : Part × List ℕ) → recorded lanes n at bs ≡ Ok p → length p.1 < length bs
recorded_shorter lanes n at bs p e =
    let a = onward_ok _ (framed at bs) _ e in
    let c = with_rest_ok a.0.rest _ a.2 in
    let f = framed_cut at bs a.1 in
    let s = rest_shorter a.0.kind a.0.body bs f.0 a.0.rest f.2 f.1 in
    omega (arith, s, ap length c.1)

same_onward : {X Y E F : Type 0} (wrap : E → F) (r : Result X E) (k j : X → Result Y F) → ((x : X) → r ≡ Ok x → k x ≡ j x)
    → onward wrap r k ≡ onward wrap r j
same_onward wrap (Ok x) k j h = h x refl
same_onward wrap (Err e) k j h = refl

none_left : (n total : ℕ) (d : Draft) (bs : List ℕ) → length bs ≤ 0 → read_on n total d bs ≡ Ok d
none_left zero total d bs h = refl
none_left (suc n) total d bs h = cond-true _ _ _ (eq-eqb (length bs) 0 (omega arith))

enough : (n m total : ℕ) (d : Draft) (bs : List ℕ) → length bs ≤ n → length bs ≤ m → read_on n total d bs ≡ read_on m total d bs
enough zero m total d bs p q = sym (none_left m total d bs p)
enough (suc n) zero total d bs p q = none_left (suc n) total d bs q
enough (suc n) (suc m) total d bs p q =
    ap (λ x. cond (eqb (length bs) 0) (Ok d) x)
    (same_onward flo.Record (recorded (lanes_may_come d) d.head.stations (total - length bs) bs) _ _
    (λ x e. same_onward (λ e. e) (placed d (total - length bs) x.0) _ _
    (λ next g.
    let s = recorded_shorter (lanes_may_come d) d.head.stations (total - length bs) bs x e in
    enough n m total next x.1 (omega arith) (omega arith))))

-- ---- one turn

module _ (total : ℕ) (d : Draft) (bs : List ℕ) (some : 0 < length bs) where
  go : Part × List ℕ → Result Draft FloorFault
  go p = onward (λ e. e) (placed d (total - length bs) p.0) (λ next. read_on (length bs - 1) total next p.1)

  begun : read_on (length bs) total d bs ≡ onward flo.Record (recorded (lanes_may_come d) d.head.stations (total - length bs) bs) go
  unfolding go
  begun =
      let k : length bs ≡ suc (length bs - 1) = omega arith in
      ap (λ n. read_on n total d bs) k ∙ cond-false _ _ _ (ne_eqb (length bs) 0 (λ z. omega arith))

  -- a record that may be added is added, and the rest is read on
  pub turn : (p : Part × List ℕ) (next : Draft) → recorded (lanes_may_come d) d.head.stations (total - length bs) bs ≡ Ok p
      → placed d (total - length bs) p.0 ≡ Ok next → read_on (length bs) total d bs ≡ read_on (length p.1) total next p.1
  unfolding go
  turn p next e q =
      let s = recorded_shorter (lanes_may_come d) d.head.stations (total - length bs) bs p e in
      begun ∙ ap (λ r. onward flo.Record r go) e ∙ ap (λ r. onward (λ e. e) r (λ next. read_on (length bs - 1) total next p.1)) q
      ∙ enough (length bs - 1) (length p.1) total next p.1 (omega arith) (omega arith)

  -- what the next record was found to be
  pub next_ok : (p : Part × List ℕ) → next_judged d (total - length bs) bs ≡ Ok p
      → (next : Draft) × (recorded (lanes_may_come d) d.head.stations (total - length bs) bs ≡ Ok p)
      × (placed d (total - length bs) p.0 ≡ Ok next)
  next_ok p e =
      let a = onward_ok flo.Record (recorded (lanes_may_come d) d.head.stations (total - length bs) bs) _ e in
      let c = onward_ok (λ e. e) (placed d (total - length bs) a.0.0) _ a.2 in
      let same : a.0 ≡ p = ok_same {E = FloorFault} c.2 in
      let next : Draft = c.0 in
      (next, a.1 ∙ ap {B = Result (Part × List ℕ) RecordFault} Ok same, subst (λ (x : Part × List ℕ). placed d (total - length bs) x.0 ≡ Ok next) same c.1)

  -- a record that may not be added ends the reading
  pub stops : (e : FloorFault) → next_judged d (total - length bs) bs ≡ Err e → read_on (length bs) total d bs ≡ Err e
  unfolding go
  stops e h = begun ∙ by (recorded (lanes_may_come d) d.head.stations (total - length bs) bs) h
    where
      placed_by : (p : Part × List ℕ) (r : Result Draft FloorFault) → onward {Y = Part × List ℕ} (λ e. e) r (λ _. Ok p) ≡ Err e
          → onward {Y = Draft} (λ e. e) r (λ next. read_on (length bs - 1) total next p.1) ≡ Err e
      placed_by p (Ok x) q = let z : ◌≡◌ {A = ℕ} 0 1 = cc in absurd (omega arith)
      placed_by p (Err x) q = let s : x ≡ e = cc in ap {B = Result Draft FloorFault} Err s

      by : (r : Result (Part × List ℕ) RecordFault)
          → onward {Y = Part × List ℕ} flo.Record r (λ p. onward (λ e. e) (placed d (total - length bs) p.0) (λ _. Ok p)) ≡ Err e
          → onward flo.Record r go ≡ Err e
      by (Ok p) q = placed_by p (placed d (total - length bs) p.0) q
      by (Err x) q = let s : flo.Record x ≡ e = cc in ap {B = Result Draft FloorFault} Err s

-- ---- what is added

limit_grown : (d : Draft) (at s k : ℕ) (l : code_limit.Limit) (next : Draft) → limit_placed d at s (limit_read k at l) ≡ Ok next
    → draft d.head d.lanes (d.limits ++ told l ∷ []) ≡ next
limit_grown d at s k l next e = by (limit_read k at l) refl (unless_ok _ _ (limit_added d (limit_read k at l)) e).1
  where
    by : (r : Result format.Limit FloorFault) → limit_read k at l ≡ r → limit_added d r ≡ Ok next
        → draft d.head d.lanes (d.limits ++ told l ∷ []) ≡ next
    by (Ok x) f g =
        ap (λ (y : format.Limit). draft d.head d.lanes (d.limits ++ y ∷ [])) (sym (read_is_told k at l x f)) ∙ ok_same {E = FloorFault} g
    by (Err x) f g = let z : ◌≡◌ {A = ℕ} 0 1 = cc in absurd (omega arith)

pub placed_grown : (d : Draft) (at : ℕ) (r : code.Record) (next : Draft) → placed d at (record_part r) ≡ Ok next → grown d r ≡ next
placed_grown d at (record_of.Lane l) next e =
    ok_same {E = FloorFault}
    (unless_ok (crowded d.head d.lanes l) (flo.TooMany at) (Ok (grown d (record_of.Lane l)))
    (unless_ok (not (lane_leads d.head l)) (flo.Ends at) (unless (crowded d.head d.lanes l) (flo.TooMany at) (Ok (grown d (record_of.Lane l)))) e).1
    ).1
placed_grown d at (record_of.Limit (Table s b)) next e = limit_grown d at s _ (Table s b) next e
placed_grown d at (record_of.Limit (Groups s g b)) next e = limit_grown d at s _ (Groups s g b) next e
placed_grown d at (record_of.Limit (Grades s b)) next e = limit_grown d at s _ (Grades s b) next e

-- ---- the beginning

pub opened_keeps : (bs : List ℕ) (h : Head) (rest : List ℕ) → opened bs ≡ Ok (h, rest) → (head_keeps h ≡ true) × (length rest ≤ length bs)
opened_keeps bs h rest e =
    let a = unless_ok (ltb most_bytes (length bs)) _ _ e in
    let b = onward_ok flo.Record (headed bs) _ a.1 in
    by b.0 b.1 (ok_same {E = FloorFault} b.2)
  where
    by : (p : Head × List ℕ) → headed bs ≡ Ok p → p ≡ (h, rest) → (head_keeps h ≡ true) × (length rest ≤ length bs)
    by p f g =
        let t = headed_ok bs p f in
        let n = length-append t.front p.1 in
        let m = ap length t.cut in
        let q : length rest ≡ length p.1 = ap (λ (x : Head × List ℕ). length x.1) (sym g) in
        (subst (λ (x : Head × List ℕ). head_keeps x.0 ≡ true) g t.keeps, omega arith)

pub judged_on : (bs : List ℕ) (h : Head) (rest : List ℕ) → opened bs ≡ Ok (h, rest)
    → judge bs ≡ read_on (length rest) (length bs) (draft h [] []) rest
judged_on bs h rest e = by (ltb most_bytes (length bs)) (headed bs) e
  where
    by : (b : Bool) (r : Result (Head × List ℕ) RecordFault) → unless b (flo.TooMany 0) (onward flo.Record r (λ p. Ok p)) ≡ Ok (h, rest)
        → unless b (flo.TooMany 0) (onward flo.Record r (λ p. read_on (length p.1) (length bs) (draft p.0 [] []) p.1))
        ≡ read_on (length rest) (length bs) (draft h [] []) rest
    by true r q = let z : ◌≡◌ {A = ℕ} 0 1 = cc in absurd (omega arith)
    by false (Ok p) q =
        let s : p ≡ (h, rest) = ok_same {E = FloorFault} q in
        ap (λ (x : Head × List ℕ). read_on (length x.1) (length bs) (draft x.0 [] []) x.1) s
    by false (Err x) q = let z : ◌≡◌ {A = ℕ} 0 1 = cc in absurd (omega arith)

-- a head that keeps the rules keeps them alone, in lists to which nothing has been added
pub fresh_keeps : (h : Head) (ls : List Lane) (ks : List code_limit.Limit) → ls ≡ [] → ks ≡ [] → head_keeps h ≡ true → keeps h ls (map told ks) ≡ true
fresh_keeps h ls ks no_lanes no_limits k =
    (λ i. keeps h (no_lanes i) (map told (no_limits i))) ∙ kept_from h [] [] (kept_head h k)

-- ---- a record that may be added

module _ (total : ℕ) (d : Draft) (bs : List ℕ) (some : 0 < length bs) (kept : keeps_draft d ≡ true) (r : code.Record) (rest : List ℕ)
    (judged : next_judged d (total - length bs) bs ≡ Ok (record_part r, rest)) where
  Found : Type 0
  Found =
      (next : Draft) × (recorded (lanes_may_come d) d.head.stations (total - length bs) bs ≡ Ok (record_part r, rest))
      × (placed d (total - length bs) (record_part r) ≡ Ok next)

  found : Found
  unfolding Found
  found = next_ok total d bs some (record_part r, rest) judged

  pub grown_keeps : keeps_draft (grown d r) ≡ true
  unfolding Found
  grown_keeps = by found
    where
      by : Found → keeps_draft (grown d r) ≡ true
      by (next, e, q) =
          subst⁻¹ (λ (x : Draft). keeps_draft x ≡ true) (placed_grown d (total - length bs) r next q)
          (step_kept d (total - length bs) bs (record_part r, rest) next e q kept).0

  pub rest_less : length rest < length bs
  unfolding Found
  rest_less = by found
    where
      by : Found → length rest < length bs
      by (next, e, q) = recorded_shorter (lanes_may_come d) d.head.stations (total - length bs) bs (record_part r, rest) e

  pub read_more : read_on (length bs) total d bs ≡ read_on (length rest) total (grown d r) rest
  unfolding Found
  read_more = by found
    where
      by : Found → read_on (length bs) total d bs ≡ read_on (length rest) total (grown d r) rest
      by (next, e, q) =
          turn total d bs some (record_part r, rest) next e q
          ∙ ap (λ (x : Draft). read_on (length rest) total x rest) (sym (placed_grown d (total - length bs) r next q))
