-- One record more is taken just where its body is that of a lane or of a limit which the draft has room for.
use Rattle.std.proofs.Common.{◌≡◌, ℕ, ◌*◌, ◌<◌, ◌≤◌, true, false, eqb, ltb, List, [], ◌∷◌, ◌++◌, length, drop, is_some, Ok, Err, Result, sym, refl, ap, ◌∙◌, subst, arith}
use mathlib.Core.Path.{subst⁻¹}
use Rattle.std.proofs.lemmas.Bool.{ltb-false, le-ltb, eqb-true, eq-eqb, ltb-true, lt-ltb, and_parts, and_from}
use Rattle.std.proofs.lemmas.List.{nil_from_length}
use Rattle.plantformat.specs.declared.Head.{Head}
use Rattle.plantformat.specs.declared.Lane.{Lane}
use Rattle.plantformat.specs.declared.Kind.{Kind}
use Rattle.plantformat.specs.declared.Kind.TheVariants as kind
use Rattle.plantformat.specs.declared.RecordFault.{RecordFault}
use Rattle.plantformat.specs.declared.FloorFault.{FloorFault}
use Rattle.plantformat.specs.Bytes.{word}
use Rattle.plantformat.specs.Records.{Limit, table, groups, grades, side_of, limit_of}
use Rattle.plantformat.specs.Rules.{head_keeps, lane_ranged, lane_leads, lane_keeps, limit_keeps}
use Rattle.plantformat.specs.Encoding.{limit_kind, HeadBody, LaneBody, LimitBody}
use Rattle.plantformat.specs.Judge.{Part, a_lane, a_table, a_groups, a_grades, Draft, draft, crowded, width_of, lanes_may_come, head_at, head_read, lane_at, lane_read, laned, fixed_part, part_read, placed, lane_placed, limit_added, limit_placed, table_read, groups_read, grades_read}
use Rattle.plantformat.proofs.Verdicts.{unless_ok, unless_not_ok, unless_passed, unless_not_passed, ok_same}
use Rattle.plantformat.proofs.LimitsRead.{LimitRead, table_ok, table_at, groups_ok, groups_at, grades_ok, grades_at}

-- the draft has room for the lane, and is the second draft with it
pub record LaneMore (d : Draft) (l : Lane) (next : Draft) : Type 0 where
  pub no_limits : d.limits ≡ []
  pub keeps : lane_keeps d.head l ≡ true
  pub room : crowded d.head d.lanes l ≡ false
  pub with_it : draft d.head (d.lanes ++ l ∷ []) d.limits ≡ next

-- the draft has room for the limit, and is the second draft with it
pub record LimitMore (d : Draft) (m : Limit) (next : Draft) : Type 0 where
  pub on_floor : side_of m < 2 * d.head.stations
  pub keeps : limit_keeps (width_of d (side_of m)) m ≡ true
  pub alone : is_some (limit_of (side_of m) d.limits) ≡ false
  pub with_it : draft d.head d.lanes (d.limits ++ m ∷ []) ≡ next

-- a record of kind k with the body b makes the second draft of the first
pub data More (d : Draft) (k : Kind) (b : List ℕ) (next : Draft) : Type 0 where
  lane_more : (l : Lane) → k ≡ kind.Lane → LaneBody l b → LaneMore d l next → More d k b next
  limit_more : (m : Limit) → k ≡ limit_kind m → LimitBody m b → LimitMore d m next → More d k b next

-- ---- heads

pub head_ok : (at : ℕ) (b : List ℕ) {h : Head} → head_read at b ≡ Ok h → HeadBody h b × (head_keeps h ≡ true)
head_ok at b {h} e =
    let p = unless_not_ok (eqb (length b) 6) _ _ e in
    let q = unless_not_ok (head_keeps (head_at b)) _ _ p.1 in
    let r : HeadBody (head_at b) b = record { size = eqb-true _ _ p.0; stations = refl; stock = refl; despatch = refl } in
    subst (λ (x : Head). HeadBody x b × (head_keeps x ≡ true)) (ok_same {E = RecordFault} q.1) (r, q.0)

pub head_there : (at : ℕ) (b : List ℕ) (h : Head) → HeadBody h b → head_keeps h ≡ true → head_read at b ≡ Ok h
head_there at b h r k =
    let same : head_at b ≡ h = λ i. record { stations = r.stations i; stock = r.stock i; despatch = r.despatch i } in
    unless_not_passed _ _ _ (eq-eqb (length b) 6 r.size) ∙ unless_not_passed _ _ _ (subst⁻¹ (λ (x : Head). head_keeps x ≡ true) same k)
    ∙ ap {B = Result Head RecordFault} Ok same

-- ---- lanes

laned_ok : (r : Result Lane RecordFault) {p : Part} → laned r ≡ Ok p → (l : Lane) × (r ≡ Ok l) × (a_lane l ≡ p)
laned_ok (Ok l) e = (l, refl, ok_same {E = RecordFault} e)
laned_ok (Err x) e = let z : ◌≡◌ {A = ℕ} 0 1 = cc in absurd (omega arith)

lane_ok : (n at : ℕ) (b : List ℕ) {l : Lane} → lane_read n at b ≡ Ok l → LaneBody l b × (lane_ranged n l ≡ true)
lane_ok n at b {l} e =
    let p = unless_not_ok (eqb (length b) 8) _ _ e in
    let q = unless_not_ok (lane_ranged n (lane_at b)) _ _ p.1 in
    let r : LaneBody (lane_at b) b = record { size = eqb-true _ _ p.0; from = refl; to = refl; own = refl } in
    subst (λ (x : Lane). LaneBody x b × (lane_ranged n x ≡ true)) (ok_same {E = RecordFault} q.1) (r, q.0)

lane_there : (n at : ℕ) (b : List ℕ) (l : Lane) → LaneBody l b → lane_ranged n l ≡ true → lane_read n at b ≡ Ok l
lane_there n at b l r k =
    let same : lane_at b ≡ l = λ i. record { from = r.from i; to = r.to i; own = r.own i } in
    unless_not_passed _ _ _ (eq-eqb (length b) 8 r.size) ∙ unless_not_passed _ _ _ (subst⁻¹ (λ (x : Lane). lane_ranged n x ≡ true) same k)
    ∙ ap {B = Result Lane RecordFault} Ok same

lane_part : (d : Draft) (at : ℕ) (b : List ℕ) {p : Part} {next : Draft}
    → part_read kind.Lane (lanes_may_come d) d.head.stations at b ≡ Ok p → placed d at p ≡ Ok next → More d kind.Lane b next
unfolding lane_keeps
lane_part d at b {p} {next} e f =
    let a = unless_not_ok (lanes_may_come d) _ _ e in
    let c = laned_ok _ a.1 in
    by c.0 (lane_ok _ at b c.1) (nil_from_length _ (eqb-true _ _ a.0)) (subst⁻¹ (λ x. placed d at x ≡ Ok next) c.2 f)
  where
    by : (l : Lane) → LaneBody l b × (lane_ranged d.head.stations l ≡ true) → d.limits ≡ [] → lane_placed d at l ≡ Ok next
        → More d kind.Lane b next
    by l r n g =
        let s = unless_not_ok (lane_leads d.head l) _ _ g in
        let t = unless_ok (crowded d.head d.lanes l) _ _ s.1 in
        lane_more l refl r.0 (record { no_limits = n; keeps = and_from _ _ r.1 s.0; room = t.0; with_it = ok_same {E = FloorFault} t.1 })

-- ---- limits

fixed_ok : (f n at : ℕ) (b : List ℕ) (p : Part) {q : Part} → fixed_part f n at b p ≡ Ok q → (f ≤ length b) × (word b 0 < 2 * n) × (p ≡ q)
fixed_ok f n at b p e =
    let s = unless_ok (ltb (length b) f) _ _ e in
    let t = unless_not_ok (ltb (word b 0) (2 * n)) _ _ s.1 in
    (ltb-false (length b) f s.0, ltb-true (word b 0) (2 * n) t.0, ok_same {E = RecordFault} t.1)

fixed_there : (f n at : ℕ) (b : List ℕ) (p : Part) → f ≤ length b → word b 0 < 2 * n → fixed_part f n at b p ≡ Ok p
fixed_there f n at b p h g =
    unless_passed _ _ _ (le-ltb (length b) f h) ∙ unless_not_passed _ _ _ (lt-ltb (word b 0) (2 * n) g)

added_ok : (d : Draft) (r : Result Limit FloorFault) {next : Draft} → limit_added d r ≡ Ok next
    → (m : Limit) × (r ≡ Ok m) × (draft d.head d.lanes (d.limits ++ m ∷ []) ≡ next)
added_ok d (Ok m) e = (m, refl, ok_same {E = FloorFault} e)
added_ok d (Err x) e = let z : ◌≡◌ {A = ℕ} 0 1 = cc in absurd (omega arith)

-- a limit that was read for a side, and placed there
limit_part : (n : Kind) (d : Draft) (at : ℕ) (b : List ℕ) (r : Result Limit FloorFault) {next : Draft} → word b 0 < 2 * d.head.stations
    → ((m : Limit) → r ≡ Ok m → LimitRead n (width_of d (word b 0)) (word b 0) b m) → limit_placed d at (word b 0) r ≡ Ok next
    → More d n b next
limit_part n d at b r {next} on read e =
    let a = unless_ok (is_some (limit_of (word b 0) d.limits)) _ _ e in
    let c = added_ok d r a.1 in
    by c.0 (read c.0 c.1) a.0 c.2
  where
    by : (m : Limit) → LimitRead n (width_of d (word b 0)) (word b 0) b m → is_some (limit_of (word b 0) d.limits) ≡ false
        → draft d.head d.lanes (d.limits ++ m ∷ []) ≡ next → More d n b next
    by m l free after =
        limit_more m l.kind l.body (record {
          on_floor = subst⁻¹ (λ s. s < 2 * d.head.stations) l.side on;
          keeps = subst⁻¹ (λ s. limit_keeps (width_of d s) m ≡ true) l.side l.keeps;
          alone = subst⁻¹ (λ s. is_some (limit_of s d.limits) ≡ false) l.side free;
          with_it = after;
        })

-- what was read and placed is one record more
pub part_ok : (k : Kind) (d : Draft) (at : ℕ) (b : List ℕ) {p : Part} {next : Draft}
    → part_read k (lanes_may_come d) d.head.stations at b ≡ Ok p → placed d at p ≡ Ok next → More d k b next
part_ok kind.Head d at b e f = let z : ◌≡◌ {A = ℕ} 0 1 = cc in absurd (omega arith)
part_ok kind.Lane d at b e f = lane_part d at b e f
part_ok kind.Table d at b {p} {next} e f =
    let a = fixed_ok 2 d.head.stations at b (a_table (word b 0) (drop 2 b)) e in
    limit_part kind.Table d at b (table_read (width_of d (word b 0)) at (word b 0) (drop 2 b)) a.1
    (λ m g. table_ok (width_of d (word b 0)) at (word b 0) b a.0 refl g) (subst⁻¹ (λ x. placed d at x ≡ Ok next) a.2 f)
part_ok kind.Groups d at b {p} {next} e f =
    let a = fixed_ok 4 d.head.stations at b (a_groups (word b 0) (word b 2) (drop 4 b)) e in
    limit_part kind.Groups d at b (groups_read (width_of d (word b 0)) at (word b 0) (word b 2) (drop 4 b)) a.1
    (λ m g. groups_ok (width_of d (word b 0)) at (word b 0) (word b 2) b a.0 refl refl g) (subst⁻¹ (λ x. placed d at x ≡ Ok next) a.2 f)
part_ok kind.Grades d at b {p} {next} e f =
    let a = fixed_ok 2 d.head.stations at b (a_grades (word b 0) (drop 2 b)) e in
    limit_part kind.Grades d at b (grades_read (width_of d (word b 0)) at (word b 0) (drop 2 b)) a.1
    (λ m g. grades_ok (width_of d (word b 0)) at (word b 0) b a.0 refl g) (subst⁻¹ (λ x. placed d at x ≡ Ok next) a.2 f)

-- ---- one record more is read and placed

abbrev pub Taken : Draft → Kind → List ℕ → Draft → ℕ → Type 0
Taken d k b next at = (p : Part) × (part_read k (lanes_may_come d) d.head.stations at b ≡ Ok p) × (placed d at p ≡ Ok next)

pub lane_taken : (d : Draft) (at : ℕ) (b : List ℕ) (l : Lane) (next : Draft) → LaneBody l b → LaneMore d l next → Taken d kind.Lane b next at
unfolding lane_keeps
lane_taken d at b l next r m =
    let p = and_parts (lane_ranged d.head.stations l) (lane_leads d.head l) m.keeps in (
      a_lane l,
      unless_not_passed _ _ _ (eq-eqb (length d.limits) 0 (ap length m.no_limits)) ∙ ap laned (lane_there d.head.stations at b l r p.0),
      unless_not_passed _ _ _ p.1 ∙ unless_passed _ _ _ m.room ∙ ap {B = Result Draft FloorFault} Ok m.with_it,
    )

-- a limit that is read for its side is placed there
limit_there : (d : Draft) (at : ℕ) (m : Limit) (s : ℕ) (r : Result Limit FloorFault) (next : Draft) → side_of m ≡ s → LimitMore d m next
    → r ≡ Ok m → limit_placed d at s r ≡ Ok next
limit_there d at m s r next es l e =
    unless_passed _ _ _ (subst (λ x. is_some (limit_of x d.limits) ≡ false) es l.alone) ∙ ap (limit_added d) e
    ∙ ap {B = Result Draft FloorFault} Ok l.with_it

pub limit_taken : (d : Draft) (at : ℕ) (b : List ℕ) (m : Limit) (next : Draft) → LimitBody m b → LimitMore d m next
    → Taken d (limit_kind m) b next at
limit_taken d at b (table s caps) next r l =
    let size = r.size in
    let side = r.side in
    let on = l.on_floor in (
      a_table (word b 0) (drop 2 b),
      fixed_there 2 d.head.stations at b (a_table (word b 0) (drop 2 b)) (omega arith) (omega arith),
      limit_there d at (table s caps) (word b 0) _ next (sym side) l
          (ap (λ x. table_read (width_of d x) at x (drop 2 b)) side ∙ table_at (width_of d s) at s caps b r l.keeps),
    )
limit_taken d at b (groups s ps qs ms) next r l =
    let size = r.size in
    let side = r.side in
    let on = l.on_floor in (
      a_groups (word b 0) (word b 2) (drop 4 b),
      fixed_there 4 d.head.stations at b (a_groups (word b 0) (word b 2) (drop 4 b)) (omega arith) (omega arith),
      limit_there d at (groups s ps qs ms) (word b 0) _ next (sym side) l
          ((λ i. groups_read (width_of d (side i)) at (side i) (r.number i) (drop 4 b)) ∙ groups_at (width_of d s) at s ps qs ms b r l.keeps),
    )
limit_taken d at b (grades s steps) next r l =
    let size = r.size in
    let side = r.side in
    let on = l.on_floor in (
      a_grades (word b 0) (drop 2 b),
      fixed_there 2 d.head.stations at b (a_grades (word b 0) (drop 2 b)) (omega arith) (omega arith),
      limit_there d at (grades s steps) (word b 0) _ next (sym side) l
          (ap (λ x. grades_read (width_of d x) at x (drop 2 b)) side ∙ grades_at (width_of d s) at s steps b r l.keeps),
    )
