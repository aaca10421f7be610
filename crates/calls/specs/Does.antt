-- What each call does: its answer and what the plan holds afterwards, as definitions that compute.
use Rattle.std.specs.Prelude.{◌≡◌, ℕ, zero, suc, ◌+◌, ◌-◌, ◌^◌, min, Bool, true, false, cond, ◌&&◌, ◌||◌, List, map, length, replicate, Some, None, Ok, Err, Option, ◌==◌, nat_le}
use Rattle.std.proofs.Math.Option as option
use Rattle.std.specs.List.{range_with_len}
use Rattle.polymatroid.specs.Side.{load}
use Rattle.polymatroid.specs.Tables.{every}
use Rattle.floor.specs.Floor.{sides, width, end_of, station_of, stock, despatch}
use Rattle.floor.specs.Meaning.{Meaning}
use Rattle.network.specs.Plans.{trays, through, total}
use Rattle.network.specs.Cuts.{crosses}
use Rattle.labelling.specs.Steps.{Move, step, made, labels}
use Rattle.labelling.specs.Near.{near, unlabelled}
use Rattle.calls.specs.declared.Unfit.TheVariants.{Length, Load, Unfinished}
use Rattle.calls.specs.Events.{Answer, Event, loaded, stepped, ran, told_total, told_moves, told_trays, told_cut, at}

-- what a plan holds besides its plant: trays for each lane, the number of its moves, and whether it is finished
pub record Held : Type 0 where
  pub trays : List ℕ
  pub moves : ℕ
  pub finished : Bool

abbrev pub held : List ℕ → ℕ → Bool → Held
held xs n f = record { trays = xs; moves = n; finished = f }

-- an opened plan: no trays, no moves, not finished
abbrev pub opened : Meaning → Held
opened M = held (replicate M.floor.lanes 0) 0 false

-- ---- loads

-- no set of a side carries more than its cap
unfoldable pub side_within : Meaning → (ℕ → ℕ) → ℕ → Bool
side_within M f s =
    every (2 ^ width M.floor s) (λ X. nat_le (load (trays M f (end_of s) (station_of s)) (width M.floor s) X) (M.cap (end_of s) (station_of s) X))

-- as many trays enter the station as leave it, if it is neither the stock nor the despatch
unfoldable pub station_balanced : Meaning → (ℕ → ℕ) → ℕ → Bool
station_balanced M f i =
    (i == stock M.floor || i == despatch M.floor) || through M f (λ e. true) true i == through M f (λ e. true) false i

-- the trays are a plan
unfoldable pub is_plan : Meaning → (ℕ → ℕ) → Bool
is_plan M f = every (sides M.floor) (side_within M f) && every M.floor.stations (station_balanced M f)

-- a load: first its length, then its trays
abbrev pub load_answer : Meaning → List ℕ → Answer
load_answer M ys = cond (length ys == M.floor.lanes) (cond (is_plan M (at ys)) (Ok tt) (Err Load)) (Err Length)

abbrev pub load_held : Answer → List ℕ → Held → Held
load_held (Ok _) ys s = held ys 0 false
load_held (Err e) ys s = s

-- ---- steps

-- a number more, as a counter of 64 bits counts
abbrev pub counted : ℕ → ℕ
counted n = min (n + 1) (2 ^ 64 - 1)

-- the trays of m lanes as a list
abbrev pub tray_list : ℕ → (ℕ → ℕ) → List ℕ
tray_list m f = map f (range_with_len 0 m)

-- what a step that finds a move, or none, answers and leaves
abbrev pub step_by : Meaning → Held → option.Option Move → Option (ℕ × ℕ) × Held
step_by M s option.none = (None, held s.trays s.moves true)
step_by M s (option.some v) =
    (Some (v.amount, length v.lanes), held (tray_list M.floor.lanes (made v (at s.trays))) (counted s.moves) false)

-- a step on a finished plan answers finished again
abbrev pub step_does : Meaning → Held → Option (ℕ × ℕ) × Held
step_does M s = cond s.finished (None, s) (step_by M s (step M (at s.trays)))

-- how many moves a run of so many steps makes, and what it leaves
abbrev pub run_after : (Held → ℕ × Held) → Option (ℕ × ℕ) × Held → ℕ × Held
run_after more (None, s) = (0, s)
run_after more (Some p, s) = (suc (more s).0, (more s).1)

unfoldable pub run_does : Meaning → ℕ → Held → ℕ × Held
run_does M zero s = (0, s)
run_does M (suc b) s = run_after (run_does M b) (step_does M s)

-- ---- the cut

-- a byte for each lane, `U` or `L` if it leads from near to far, else `-`; and one for each station, 1 near or 0 far
abbrev pub lane_byte : Meaning → (ℕ → ℕ) → ℕ → ℕ
lane_byte M f e = cond (crosses M (near M f (labels M f)) e) (cond (unlabelled (labels M f) e) 85 76) 45

abbrev pub station_byte : Meaning → (ℕ → ℕ) → ℕ → ℕ
station_byte M f i = cond (near M f (labels M f) i) 1 0

-- a cut may be read of a finished plan, into buffers of the right lengths
abbrev pub cut_answer : Meaning → Held → List ℕ → List ℕ → Answer
cut_answer M s ls ss =
    cond s.finished (cond (length ls == M.floor.lanes && length ss == M.floor.stations) (Ok tt) (Err Length)) (Err Unfinished)

abbrev pub trays_answer : Meaning → List ℕ → Answer
trays_answer M xs = cond (length xs == M.floor.lanes) (Ok tt) (Err Length)

-- what a buffer holds afterwards: what is read, or what it held before
abbrev pub read_into : Answer → List ℕ → List ℕ → List ℕ
read_into (Ok _) new old = new
read_into (Err e) new old = old

-- ---- every call: the plan held s, the event happened, the plan holds t
abbrev pub Does : Meaning → Held → Event → Held → Type 0
Does M s (loaded ys r) t = (r ≡ load_answer M ys) × (t ≡ load_held r ys s)
Does M s (stepped r) t = ◌≡◌ {A = Option (ℕ × ℕ) × Held} (r, t) (step_does M s)
Does M s (ran b n f) t = (◌≡◌ {A = ℕ × Held} (n, t) (run_does M b s)) × (f ≡ t.finished)
Does M s (told_total n) t = (n ≡ total M (at s.trays)) × (t ≡ s)
Does M s (told_moves n) t = (n ≡ s.moves) × (t ≡ s)
Does M s (told_trays xs r ys) t = (r ≡ trays_answer M xs) × (ys ≡ read_into r s.trays xs) × (t ≡ s)
Does M s (told_cut ls ss r ls' ss') t =
    (r ≡ cut_answer M s ls ss) × (ls' ≡ read_into r (tray_list M.floor.lanes (lane_byte M (at s.trays))) ls)
    × (ss' ≡ read_into r (tray_list M.floor.stations (station_byte M (at s.trays))) ss) × (t ≡ s)
