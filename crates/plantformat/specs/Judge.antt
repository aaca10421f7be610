-- How a plant file is judged: layer by layer, record by record from the front, the first fault decides.
use Rattle.std.specs.Prelude.{ℕ, zero, suc, ◌+◌, ◌-◌, ◌*◌, ◌/◌, ◌^◌, Bool, true, false, cond, not, ◌&&◌, ◌||◌, List, [], ◌∷◌, ◌++◌, length, take, drop, is_some, Some, None, Ok, Err, Option, Result, ◌==◌, nat_le, nat_lt, slice_index}
use Rattle.polymatroid.specs.Tables.{rises, bows}
use Rattle.floor.specs.Numbers.{most_lanes, most_on_side, top_cap}
use Rattle.floor.specs.Floor.{side, width, leaving, entering}
use Rattle.plantformat.specs.Numbers.{most_bytes, top_lane, most_groups}
use Rattle.plantformat.specs.declared.Head.{Head}
use Rattle.plantformat.specs.declared.Lane.{Lane}
use Rattle.plantformat.specs.declared.Kind.{Kind}
use Rattle.plantformat.specs.declared.Kind.TheVariants as kind
use Rattle.plant.specs.declared.refusals.Law.{Law}
use Rattle.plant.specs.declared.refusals.Law.TheVariants.{Empty, Grows, Bends}
use Rattle.plantformat.specs.declared.FramingFault.{FramingFault}
use Rattle.plantformat.specs.declared.FramingFault.TheVariants as framing
use Rattle.plantformat.specs.declared.RecordFault.{RecordFault}
use Rattle.plantformat.specs.declared.RecordFault.TheVariants as rec
use Rattle.plantformat.specs.declared.LimitFault.TheVariants as lim
use Rattle.plantformat.specs.declared.FloorFault.{FloorFault}
use Rattle.plantformat.specs.declared.FloorFault.TheVariants as flo
use Rattle.plantformat.specs.Bytes.{word, long, listed}
use Rattle.plantformat.specs.Records.{Limit, table, groups, grades, floor_of, limit_of}
use Rattle.plantformat.specs.Rules.{head_keeps, lane_ranged, lane_leads, parents_keep, all_below, all_at_most, steps_fall}

-- go on with a value; a fault from below is wrapped and handed up
abbrev pub onward : {X Y E F : Type 0} → (E → F) → Result X E → (X → Result Y F) → Result Y F
onward wrap (Ok x) k = k x
onward wrap (Err e) k = Err (wrap e)

-- go on where a test passes
abbrev pub unless : {Y F : Type 0} → Bool → F → Result Y F → Result Y F
unless fault e next = cond fault (Err e) next

-- ---- framing: a length that counts the whole record, a kind, a body

pub record Frame : Type 0 where
  pub kind : Kind
  pub body : List ℕ
  pub rest : List ℕ

abbrev pub frame : Kind → List ℕ → List ℕ → Frame
frame k b r = record { kind = k; body = b; rest = r }

-- the kind with a number
abbrev pub kind_of : ℕ → Option Kind
kind_of n =
    cond (n == 1) (Some kind.Head) (cond (n == 2) (Some kind.Lane) (cond (n == 3) (Some kind.Table) (cond (n == 4) (Some kind.Groups)
    (cond (n == 5) (Some kind.Grades) None))))

-- 1 to 3 bytes are left, or the length is below 4 or goes beyond the end
abbrev pub cut_short : List ℕ → Bool
cut_short bs = nat_lt (length bs) 4 || (nat_lt (word bs 0) 4 || nat_lt (length bs) (word bs 0))

abbrev pub kinded : ℕ → Option Kind → List ℕ → List ℕ → Result Frame FramingFault
kinded at None b r = Err (framing.Kind at)
kinded at (Some k) b r = Ok (frame k b r)

-- the first record of bs, which lies at a place of the file
abbrev pub framed : ℕ → List ℕ → Result Frame FramingFault
framed at bs =
    unless (cut_short bs) (framing.Length at) (kinded at (kind_of (word bs 2)) (take (word bs 0 - 4) (drop 4 bs)) (drop (word bs 0) bs))

-- ---- records: order, size and ranges

abbrev pub head_at : List ℕ → Head
head_at b = record { stations = word b 0; stock = word b 2; despatch = word b 4 }

abbrev pub lane_at : List ℕ → Lane
lane_at b = record { from = word b 0; to = word b 2; own = long b 4 }

-- the body of a head
abbrev pub head_read : ℕ → List ℕ → Result Head RecordFault
head_read at b = unless (not (length b == 6)) (rec.Size at) (unless (not (head_keeps (head_at b))) (rec.Range at) (Ok (head_at b)))

-- the body of a lane, on a floor of n stations
abbrev pub lane_read : ℕ → ℕ → List ℕ → Result Lane RecordFault
lane_read n at b = unless (not (length b == 8)) (rec.Size at) (unless (not (lane_ranged n (lane_at b))) (rec.Range at) (Ok (lane_at b)))

-- a record after the head: a lane, or a limit of which the fixed part is read, with the bytes that follow it
pub data Part : Type 0 where
  a_lane : Lane → Part
  a_table : (s : ℕ) (numbers : List ℕ) → Part
  a_groups : (s g : ℕ) (numbers : List ℕ) → Part
  a_grades : (s : ℕ) (numbers : List ℕ) → Part

-- the fixed part of a limit: f bytes that begin with its side
abbrev pub fixed_part : ℕ → ℕ → ℕ → List ℕ → Part → Result Part RecordFault
fixed_part f n at b p = unless (nat_lt (length b) f) (rec.Size at) (unless (not (nat_lt (word b 0) (2 * n))) (rec.Range at) (Ok p))

abbrev pub laned : Result Lane RecordFault → Result Part RecordFault
laned (Ok l) = Ok (a_lane l)
laned (Err e) = Err e

-- a body by its kind, on a floor of n stations, where lanes may or may not come
abbrev pub part_read : Kind → Bool → ℕ → ℕ → List ℕ → Result Part RecordFault
part_read kind.Head lanes n at b = Err (rec.Order at)
part_read kind.Lane lanes n at b = unless (not lanes) (rec.Order at) (laned (lane_read n at b))
part_read kind.Table lanes n at b = fixed_part 2 n at b (a_table (word b 0) (drop 2 b))
part_read kind.Groups lanes n at b = fixed_part 4 n at b (a_groups (word b 0) (word b 2) (drop 4 b))
part_read kind.Grades lanes n at b = fixed_part 2 n at b (a_grades (word b 0) (drop 2 b))

-- a value with the bytes after its record
abbrev pub with_rest : {X E : Type 0} → List ℕ → Result X E → Result (X × List ℕ) E
with_rest r (Ok x) = Ok (x, r)
with_rest r (Err e) = Err e

-- the first record of a file is a head
abbrev pub first_read : Frame → Result Head RecordFault
first_read f = unless (not (is_head f.kind)) (rec.Order 0) (head_read 0 f.body)
  where
    is_head : Kind → Bool
    is_head kind.Head = true
    is_head kind.Lane = false
    is_head kind.Table = false
    is_head kind.Groups = false
    is_head kind.Grades = false

abbrev pub headed : List ℕ → Result (Head × List ℕ) RecordFault
headed bs = unless (length bs == 0) (rec.Order 0) (onward rec.Framing (framed 0 bs) (λ f. with_rest f.rest (first_read f)))

-- a record after the head
abbrev pub recorded : Bool → ℕ → ℕ → List ℕ → Result (Part × List ℕ) RecordFault
recorded lanes n at bs = onward rec.Framing (framed at bs) (λ f. with_rest f.rest (part_read f.kind lanes n at f.body))

-- ---- the floor and its limits

-- what has been read
pub record Draft : Type 0 where
  pub head : Head
  pub lanes : List Lane
  pub limits : List Limit

abbrev pub draft : Head → List Lane → List Limit → Draft
draft h ls ks = record { head = h; lanes = ls; limits = ks }

-- one lane more would be too many, on the floor or on one of its two sides
unfoldable pub crowded : Head → List Lane → Lane → Bool
crowded h ls l =
    nat_le most_lanes (length ls)
    || (nat_le most_on_side (width (floor_of h ls) (side leaving l.from)) || nat_le most_on_side (width (floor_of h ls) (side entering l.to)))

abbrev pub lane_placed : Draft → ℕ → Lane → Result Draft FloorFault
lane_placed d at l =
    unless (not (lane_leads d.head l)) (flo.Ends at)
    (unless (crowded d.head d.lanes l) (flo.TooMany at) (Ok (draft d.head (d.lanes ++ l ∷ []) d.limits)))

abbrev pub range_fault : ℕ → FloorFault
range_fault at = flo.Record (rec.Range at)

abbrev pub size_fault : ℕ → FloorFault
size_fault at = flo.Record (rec.Size at)

abbrev pub law_fault : ℕ → Law → FloorFault
law_fault at law = flo.Limit (lim.Breaks at law)

-- the four-byte numbers of a body
abbrev pub longs : List ℕ → List ℕ
longs b = listed (length b / 4) (λ i. long b (4 * i))

-- a table on a side of k lanes
abbrev pub table_read : ℕ → ℕ → ℕ → List ℕ → Result Limit FloorFault
table_read k at s b =
    unless (not (length b == 4 * 2 ^ k)) (size_fault at)
    (unless (not (all_at_most top_cap (longs b))) (range_fault at)
    (unless (not (slice_index (longs b) 0 == 0)) (law_fault at Empty)
    (unless (not (rises k (λ X. slice_index (longs b) X))) (law_fault at Grows)
    (unless (not (bows k (λ X. slice_index (longs b) X))) (law_fault at Bends) (Ok (table s (longs b)))))))

-- the parents and bounds of g groups, and the groups of k positions after them
abbrev pub parents_at : ℕ → List ℕ → List ℕ
parents_at g b = listed g (λ j. word b (6 * j))

abbrev pub bounds_at : ℕ → List ℕ → List ℕ
bounds_at g b = listed g (λ j. long b (6 * j + 2))

abbrev pub members_at : ℕ → ℕ → List ℕ → List ℕ
members_at k g b = listed k (λ p. word b (6 * g + 2 * p))

-- g groups on a side of k lanes
abbrev pub groups_read : ℕ → ℕ → ℕ → ℕ → List ℕ → Result Limit FloorFault
groups_read k at s g b =
    unless (nat_lt g 1 || nat_lt most_groups g) (range_fault at)
    (unless (not (length b == 6 * g + 2 * k)) (size_fault at)
    (unless (not (parents_keep (parents_at g b) && (all_at_most top_cap (bounds_at g b) && all_below g (members_at k g b)))) (range_fault at)
    (Ok (groups s (parents_at g b) (bounds_at g b) (members_at k g b)))))

-- grades on a side of k lanes
abbrev pub grades_read : ℕ → ℕ → ℕ → List ℕ → Result Limit FloorFault
grades_read k at s b =
    unless (not (length b == 4 * k)) (size_fault at)
    (unless (not (all_at_most top_lane (longs b))) (range_fault at)
    (unless (not (steps_fall k (longs b))) (law_fault at Bends) (Ok (grades s (longs b)))))

-- one limit more
abbrev pub limit_added : Draft → Result Limit FloorFault → Result Draft FloorFault
limit_added d (Ok k) = Ok (draft d.head d.lanes (d.limits ++ k ∷ []))
limit_added d (Err e) = Err e

-- a limit for side s, which has none yet
abbrev pub limit_placed : Draft → ℕ → ℕ → Result Limit FloorFault → Result Draft FloorFault
limit_placed d at s k = unless (is_some (limit_of s d.limits)) (flo.SecondLimit at) (limit_added d k)

-- how many lanes a side has so far
abbrev pub width_of : Draft → ℕ → ℕ
width_of d s = width (floor_of d.head d.lanes) s

-- one record more on the floor
abbrev pub placed : Draft → ℕ → Part → Result Draft FloorFault
placed d at (a_lane l) = lane_placed d at l
placed d at (a_table s b) = limit_placed d at s (table_read (width_of d s) at s b)
placed d at (a_groups s g b) = limit_placed d at s (groups_read (width_of d s) at s g b)
placed d at (a_grades s b) = limit_placed d at s (grades_read (width_of d s) at s b)

-- lanes may come as long as there is no limit
abbrev pub lanes_may_come : Draft → Bool
lanes_may_come d = length d.limits == 0

-- the bytes that are left, of a file of `total` bytes, read on in at most `fuel` records
abbrev pub read_on : ℕ → ℕ → Draft → List ℕ → Result Draft FloorFault
read_on zero total d bs = Ok d
read_on (suc fuel) total d bs =
    cond (length bs == 0) (Ok d)
    (onward flo.Record (recorded (lanes_may_come d) d.head.stations (total - length bs) bs)
    (λ p. onward (λ e. e) (placed d (total - length bs) p.0) (λ next. read_on fuel total next p.1)))

-- the verdict: what the file holds, or its first fault
abbrev pub judge : List ℕ → Result Draft FloorFault
judge bs =
    unless (nat_lt most_bytes (length bs)) (flo.TooMany 0)
    (onward flo.Record (headed bs) (λ p. read_on (length p.1) (length bs) (draft p.0 [] []) p.1))
