-- One record more: whether it may be a lane, and the ranges of its numbers.
use Rattle.std.proofs.Common.{◌≡◌, ℕ, ◌*◌, ◌<◌, Bool, true, eqb, ltb, List, length, drop, Ok, Err, vec_items, vec_len, Result, sym, refl, ap, ◌∙◌, subst, arith}
use Rattle.std.proofs.lemmas.Bool.{ltb-true}
use Rattle.std.proofs.lemmas.List.{length-map}
use Rattle.plantformat.specs.declared.Lane.{Lane}
use Rattle.plantformat.specs.declared.Kind.{Kind}
use Rattle.plantformat.specs.declared.Kind.TheVariants as kind
use Rattle.plantformat.specs.declared.RecordFault.{RecordFault}
use Rattle.plantformat.specs.Bytes.{word}
use Rattle.plantformat.specs.Rules.{lane_ranged}
use Rattle.plantformat.specs.Judge.{Part, a_table, a_groups, a_grades, framed, lane_at, lane_read, laned, fixed_part, part_read, recorded, lanes_may_come}
use Rattle.plantformat.proofs.Verdicts.{unless_ok, unless_not_ok, onward_ok, with_rest_ok, ok_same}
use Rattle.limits.specs.Told.{told}
use Rattle.answers.specs.Content.{content}
use Rattle.placing.specs.Ranges.{Ranged}
use Rattle.answers.specs.declared.file_plant.FilePlant.{FilePlant}

-- lanes may come as long as the plant has no limit
pub may_come : (f : FilePlant) → lanes_may_come (content f) ≡ eqb (vec_len f.limits) 0
may_come f = ap (λ n. eqb n 0) (length-map (vec_items f.limits) told ∙ sym f.limits.ok.0)

-- ---- a record that was read is in range

fixed_ranged : (f n at : ℕ) (b : List ℕ) (p q : Part) → fixed_part f n at b p ≡ Ok q → (word b 0 < 2 * n) × (p ≡ q)
fixed_ranged f n at b p q e =
    let a = unless_ok (ltb (length b) f) _ _ e in
    let c = unless_not_ok (ltb (word b 0) (2 * n)) _ _ a.1 in
    (ltb-true (word b 0) (2 * n) c.0, ok_same {E = RecordFault} c.1)

lane_part_ranged : (n at : ℕ) (b : List ℕ) (p : Part) → laned (lane_read n at b) ≡ Ok p → Ranged n p
lane_part_ranged n at b p e = by (lane_read n at b) refl e
  where
    by : (r : Result Lane RecordFault) → lane_read n at b ≡ r → laned r ≡ Ok p → Ranged n p
    by (Ok l) s t =
        let a = unless_not_ok (eqb (length b) 8) _ _ s in
        let c = unless_not_ok (lane_ranged n (lane_at b)) _ _ a.1 in
        subst (Ranged n) (ok_same {E = RecordFault} t)
        (subst (λ (x : Lane). lane_ranged n x ≡ true) (ok_same {E = RecordFault} c.1) c.0)
    by (Err x) s t = let z : ◌≡◌ {A = ℕ} 0 1 = cc in absurd (omega arith)

part_ranged : (k : Kind) (lanes : Bool) (n at : ℕ) (b : List ℕ) (p : Part) → part_read k lanes n at b ≡ Ok p → Ranged n p
part_ranged kind.Head lanes n at b p e = let z : ◌≡◌ {A = ℕ} 0 1 = cc in absurd (omega arith)
part_ranged kind.Lane lanes n at b p e = lane_part_ranged n at b p (unless_not_ok lanes _ _ e).1
part_ranged kind.Table lanes n at b p e =
    let a = fixed_ranged 2 n at b (a_table (word b 0) (drop 2 b)) p e in subst (Ranged n) a.1 a.0
part_ranged kind.Groups lanes n at b p e =
    let a = fixed_ranged 4 n at b (a_groups (word b 0) (word b 2) (drop 4 b)) p e in subst (Ranged n) a.1 a.0
part_ranged kind.Grades lanes n at b p e =
    let a = fixed_ranged 2 n at b (a_grades (word b 0) (drop 2 b)) p e in subst (Ranged n) a.1 a.0

pub recorded_ranged : (lanes : Bool) (n at : ℕ) (bs : List ℕ) (p : Part) (rest : List ℕ) → recorded lanes n at bs ≡ Ok (p, rest) → Ranged n p
recorded_ranged lanes n at bs p rest e =
    let a = onward_ok _ (framed at bs) _ e in
    let c = with_rest_ok a.0.rest _ a.2 in
    part_ranged a.0.kind lanes n at a.0.body p c.0
