-- Floors worked through: on each the definitions, evaluated, give the moves that are written here.
use Rattle.std.specs.Prelude.{◌≡◌, ℕ, ◌<◌, Bool, true, false, cond, ◌&&◌, List, [], ◌∷◌, length, ◌==◌, nat_eq, slice_index}
use Rattle.std.proofs.Math.Option.{none}
use Rattle.std.specs.List.{AllByRecursion}
use Rattle.polymatroid.specs.Kinds.{plain, graded, grouped, ceiling, closing}
use Rattle.floor.specs.Numbers.{top_cap}
use Rattle.floor.specs.Floor.{Floor}
use Rattle.floor.specs.Meaning.{Meaning, Lawful}
use Rattle.network.specs.States.{State, Plus, Minus}
use Rattle.network.specs.Cuts.{capacity}
use Rattle.labelling.specs.Near.{near, unlabelled}
use Rattle.network.specs.Plans.{total, Feasible}
use Rattle.labelling.specs.Steps.{labels, Move, step, Follow, made_all}

-- the number at place i of a list
abbrev pub nth : List ℕ → ℕ → ℕ
nth xs i = slice_index xs i

-- a floor of n stations whose lanes lead from one list to the other, with the stock at the first station and the despatch at the last
abbrev pub floor_of : ℕ → ℕ → List ℕ → List ℕ → Floor
floor_of n last from to = record {
  stations = n;
  lanes = length from;
  pole = λ d. cond d last 0;
  end = λ d e. cond d (nth to e) (nth from e);
}

-- caps c for the lanes that have the end d at station i, and the caps below for the others
abbrev pub except : Bool → ℕ → (ℕ → ℕ) → (Bool → ℕ → ℕ → ℕ) → Bool → ℕ → ℕ → ℕ
except d i c below b j X = cond (cond b 1 0 == cond d 1 0 && j == i) (c X) (below b j X)

-- every lane has a cap of its own of c trays, and nothing else binds
abbrev pub each : ℕ → Bool → ℕ → ℕ → ℕ
each c d i X = plain (λ p. c) 3 X

-- of three lanes of one tray the first two form a group of bound 1
abbrev pub shared_gripper : ℕ → ℕ
shared_gripper X =
    grouped (record { count = 2; parent = λ j. 0; bound = nth (top_cap ∷ 1 ∷ []); group = nth (1 ∷ 1 ∷ 0 ∷ []); cap = λ p. 1 }) 3 X

-- a floor, the trays that it carries to begin with, and the moves that follow one another until the plan is finished; then the
-- total, and the cut: 1 for each near station, 1 for each lane with a label
pub record Worked : Type 0 where
  pub meaning : Meaning
  pub trays : List ℕ
  pub moves : List Move
  pub carried : ℕ
  pub near_list : List ℕ
  pub labelled : List ℕ

abbrev pub move : List State → ℕ → Move
move p n = record { lanes = p; amount = n }

-- two plain lanes of 3 and 4
abbrev pub two_plain_lanes : Worked
two_plain_lanes = record {
  meaning = record { floor = floor_of 2 1 (0 ∷ 0 ∷ []) (1 ∷ 1 ∷ []); cap = λ d i X. plain (nth (3 ∷ 4 ∷ [])) 2 X };
  trays = 0 ∷ 0 ∷ [];
  moves = move (Plus 0 ∷ []) 3 ∷ move (Plus 1 ∷ []) 4 ∷ [];
  carried = 7;
  near_list = 1 ∷ 0 ∷ [];
  labelled = 0 ∷ 0 ∷ [];
}

-- the same with a table of caps where the lanes leave the stock: 5 trays together
abbrev pub shared_table : Meaning
shared_table = record {
  floor = floor_of 2 1 (0 ∷ 0 ∷ []) (1 ∷ 1 ∷ []);
  cap = except false 0 (nth (0 ∷ 3 ∷ 4 ∷ 5 ∷ [])) (λ d i X. plain (nth (3 ∷ 4 ∷ [])) 2 X);
}

abbrev pub two_lanes_sharing_a_table : Worked
two_lanes_sharing_a_table = record {
  meaning = shared_table;
  trays = 0 ∷ 0 ∷ [];
  moves = move (Plus 0 ∷ []) 3 ∷ move (Plus 1 ∷ []) 2 ∷ [];
  carried = 5;
  near_list = 1 ∷ 0 ∷ [];
  labelled = 0 ∷ 0 ∷ [];
}

-- loaded with what it can carry, it is finished
abbrev pub a_full_table : Worked
a_full_table = record {
  meaning = shared_table;
  trays = 3 ∷ 2 ∷ [];
  moves = [];
  carried = 5;
  near_list = 1 ∷ 0 ∷ [];
  labelled = 0 ∷ 0 ∷ [];
}

-- a lane of 4, then one of 3: the station between them is near in the end, and the second lane counts where it leaves
abbrev pub narrow_second_lane : Worked
narrow_second_lane = record {
  meaning = record { floor = floor_of 3 2 (0 ∷ 1 ∷ []) (1 ∷ 2 ∷ []); cap = except false 1 (plain (λ p. 3) 1) (except true 2 (plain (λ p. 3) 1) (each 4)) };
  trays = 0 ∷ 0 ∷ [];
  moves = move (Plus 0 ∷ Plus 1 ∷ []) 3 ∷ [];
  carried = 3;
  near_list = 1 ∷ 1 ∷ 0 ∷ [];
  labelled = 1 ∷ 0 ∷ [];
}

-- a lane of 4 where it leaves and of 3 where it enters: it has a label in the end, and counts where it enters
abbrev pub narrow_entrance : Worked
narrow_entrance = record {
  meaning = record { floor = floor_of 2 1 (0 ∷ []) (1 ∷ []); cap = except true 1 (plain (λ p. 3) 1) (each 4) };
  trays = 0 ∷ [];
  moves = move (Plus 0 ∷ []) 3 ∷ [];
  carried = 3;
  near_list = 1 ∷ 0 ∷ [];
  labelled = 1 ∷ [];
}

-- five lanes of one tray; the lanes 2 and 3 share a gripper where they enter the despatch
abbrev pub shared_gripper_at_the_despatch : Worked
shared_gripper_at_the_despatch = record {
  meaning = record { floor = floor_of 4 3 (0 ∷ 0 ∷ 1 ∷ 2 ∷ 1 ∷ []) (1 ∷ 2 ∷ 3 ∷ 3 ∷ 3 ∷ []); cap = except true 3 shared_gripper (each 1) };
  trays = 0 ∷ 0 ∷ 0 ∷ 0 ∷ 0 ∷ [];
  moves = move (Plus 0 ∷ Plus 2 ∷ []) 1 ∷ move (Plus 1 ∷ Plus 3 ∷ Minus 2 ∷ Plus 4 ∷ []) 1 ∷ [];
  carried = 2;
  near_list = 1 ∷ 0 ∷ 0 ∷ 0 ∷ [];
  labelled = 0 ∷ 0 ∷ 0 ∷ 0 ∷ 0 ∷ [];
}

-- five lanes of one tray; the lanes 0 and 1 share a gripper where they leave the stock
abbrev pub shared_gripper_at_the_stock : Worked
shared_gripper_at_the_stock = record {
  meaning = record { floor = floor_of 4 3 (0 ∷ 0 ∷ 0 ∷ 1 ∷ 2 ∷ []) (1 ∷ 2 ∷ 1 ∷ 3 ∷ 3 ∷ []); cap = except false 0 shared_gripper (each 1) };
  trays = 0 ∷ 0 ∷ 0 ∷ 0 ∷ 0 ∷ [];
  moves = move (Plus 0 ∷ Plus 3 ∷ []) 1 ∷ move (Plus 2 ∷ Minus 0 ∷ Plus 1 ∷ Plus 4 ∷ []) 1 ∷ [];
  carried = 2;
  near_list = 1 ∷ 0 ∷ 0 ∷ 0 ∷ [];
  labelled = 0 ∷ 0 ∷ 0 ∷ 0 ∷ 0 ∷ [];
}

-- a line of three stations, two lanes between neighbours, grades 5 and 2 on every side
abbrev pub line : Floor
line = floor_of 3 2 (0 ∷ 0 ∷ 1 ∷ 1 ∷ []) (1 ∷ 1 ∷ 2 ∷ 2 ∷ [])

abbrev pub five_and_two : ℕ → ℕ
five_and_two X = graded (nth (5 ∷ 2 ∷ [])) 2 X

abbrev pub line_with_grades : Worked
line_with_grades = record {
  meaning = record { floor = line; cap = λ d i X. five_and_two X };
  trays = 0 ∷ 0 ∷ 0 ∷ 0 ∷ [];
  moves = move (Plus 0 ∷ Plus 2 ∷ []) 5 ∷ move (Plus 1 ∷ Plus 3 ∷ []) 2 ∷ [];
  carried = 7;
  near_list = 1 ∷ 0 ∷ 0 ∷ [];
  labelled = 0 ∷ 0 ∷ 0 ∷ 0 ∷ [];
}

-- the same under a ceiling of 6 where the lanes leave the stock
abbrev pub line_under_a_ceiling : Worked
line_under_a_ceiling = record {
  meaning = record { floor = line; cap = except false 0 (ceiling 6 five_and_two) (λ d i X. five_and_two X) };
  trays = 0 ∷ 0 ∷ 0 ∷ 0 ∷ [];
  moves = move (Plus 0 ∷ Plus 2 ∷ []) 5 ∷ move (Plus 1 ∷ Plus 3 ∷ []) 1 ∷ [];
  carried = 6;
  near_list = 1 ∷ 0 ∷ 0 ∷ [];
  labelled = 0 ∷ 0 ∷ 0 ∷ 0 ∷ [];
}

-- the same with the second lane closed where it leaves the stock
abbrev pub line_with_a_closed_lane : Worked
line_with_a_closed_lane = record {
  meaning = record { floor = line; cap = except false 0 (closing 2 (λ p. nat_eq p 1) five_and_two) (λ d i X. five_and_two X) };
  trays = 0 ∷ 0 ∷ 0 ∷ 0 ∷ [];
  moves = move (Plus 0 ∷ Plus 2 ∷ []) 5 ∷ [];
  carried = 5;
  near_list = 1 ∷ 0 ∷ 0 ∷ [];
  labelled = 0 ∷ 0 ∷ 0 ∷ 0 ∷ [];
}

-- a floor without lanes is finished at once
abbrev pub no_lanes : Worked
no_lanes = record {
  meaning = record { floor = floor_of 2 1 [] []; cap = λ d i X. 0 };
  trays = [];
  moves = [];
  carried = 0;
  near_list = 1 ∷ 0 ∷ [];
  labelled = [];
}

abbrev pub worked_floors : List Worked
worked_floors =
    two_plain_lanes ∷ two_lanes_sharing_a_table ∷ a_full_table ∷ narrow_second_lane ∷ narrow_entrance
    ∷ shared_gripper_at_the_despatch ∷ shared_gripper_at_the_stock ∷ line_with_grades
    ∷ line_under_a_ceiling ∷ line_with_a_closed_lane ∷ no_lanes ∷ []

-- the trays in the end
abbrev pub left_by : Worked → ℕ → ℕ
left_by w = made_all w.moves (nth w.trays)

-- the floor is lawful, its trays are a plan, the moves are those of the steps, the next step finds the plan finished, it carries the
-- total, and the cut of its labels is the one written down
pub record Works (w : Worked) : Type 0 where
  pub lawful : Lawful w.meaning
  pub feasible : Feasible w.meaning (nth w.trays)
  pub follow : Follow w.meaning (nth w.trays) w.moves
  pub finished : step w.meaning (left_by w) ≡ none
  pub carries : total w.meaning (left_by w) ≡ w.carried
  pub near_are : (i : ℕ) → i < w.meaning.floor.stations → cond (near w.meaning (left_by w) (labels w.meaning (left_by w)) i) 1 0 ≡ nth w.near_list i
  pub labelled_are : (e : ℕ) → e < w.meaning.floor.lanes → cond (unlabelled (labels w.meaning (left_by w)) e) 0 1 ≡ nth w.labelled e
  pub cut : capacity w.meaning (near w.meaning (left_by w) (labels w.meaning (left_by w))) (unlabelled (labels w.meaning (left_by w))) ≡ w.carried

abbrev pub WorkedFloors : Type 0
WorkedFloors = AllByRecursion Works worked_floors
