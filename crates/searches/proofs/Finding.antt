-- How a labelling by rooms comes out is how a step comes out: with its move, or with none.
use Rattle.std.proofs.Common.{◌≡◌, ℕ, suc, ◌<◌, ◌≤◌, true, false, List, length, get_or, Some, sym, refl, ap, ◌∙◌, arith}
use mathlib.Core.Option.{none, some}
use Rattle.std.specs.declared.option.Option as found
use Rattle.floor.specs.Meaning.{Meaning, Lawful}
use Rattle.network.specs.Plans.{Feasible}
use Rattle.network.specs.States.{State, Pole, Plus, Minus, OnFloor, lane_number, holder}
use Rattle.labelling.specs.Amount.{amount_of}
use Rattle.labelling.specs.Augmenting.{along, Augments}
use Rattle.labelling.specs.Steps.{step, move_of, outcome, labels, table_of, row}
use Rattle.labelling.specs.Table.{Mark, mark, Ended, Finished, path}
use Rattle.labelling.proofs.FirstPath.{first_shortest_path}
use Rattle.labelling.proofs.Rows.{row_length}
use Rattle.labels.specs.Labels.{came_out}
use Rattle.labels.specs.Paths.{level_of, EndedAt}
use Rattle.moves.specs.Amount.{amount_by_rooms}
use Rattle.moves.specs.Paths.{Among}
use Rattle.moves.proofs.ByRooms.{amounts_by_rooms}

-- a state on a path is a lane
lane_on : (M : Meaning) (x : State) → (holder (Pole false) ≡ holder x → ⊥) → (holder x ≡ holder (Pole true) → ⊥) → OnFloor M x → lane_number x < M.floor.lanes
lane_on M (Pole false) first last on = absurd (first refl)
lane_on M (Pole true) first last on = absurd (last refl)
lane_on M (Plus e) first last on = on
lane_on M (Minus e) first last on = on

-- a path that is read back: its lanes are on the floor, it has one, and a step makes its move along it, by the amount from rooms
pub record PathRead (M : Meaning) (f : ℕ → ℕ) (p : List State) : Type 0 where
  pub among : Among M.floor.lanes p
  pub some_lane : 0 < length p
  pub short : length p ≤ M.floor.lanes
  pub moves : step M f ≡ some (record { lanes = p; amount = amount_by_rooms M f p })

module _ (M : Meaning) (laws : Lawful M) (f : ℕ → ℕ) (ok : Feasible M f) where
  -- the lanes of an augmenting path are lanes of the floor
  pub path_among : (p : List State) → Augments M f p → Among M.floor.lanes p
  unfolding along
  path_among p a i l =
      lane_on M (get_or p i (Pole true))
      (λ h. a.distinct 0 (suc i) (omega arith) (omega arith) (ap holder a.begin ∙ h))
      (λ h. a.distinct (suc i) (suc (length p)) (omega arith) (omega arith) (h ∙ sym (ap holder a.finish)))
      (a.ok (suc i) (omega arith))

  -- a labelling that ends without a path: a step makes no move, and the labels are those of the trays
  pub none_found : (t : List Mark) → outcome M f ≡ Finished t → (step M f ≡ none) × (t ≡ labels M f)
  unfolding step
  none_found t h = (ap (move_of M f) h, sym (ap table_of h))

  module _ (l e : ℕ) (t : List Mark) (ended : outcome M f ≡ Ended l e t) (some_lane : 0 < l) (p : List State) (read : p ≡ row (path l e t) l) where
    pub path_long : length p ≡ l
    path_long = ap length read ∙ row_length (path l e t) l

    -- a labelling that ends with a path: a step makes its move along that
    pub move_found : step M f ≡ some (record { lanes = p; amount = amount_of M f p })
    unfolding step
    move_found =
        ap (move_of M f) ended ∙ ap (λ q. some (record { lanes = q; amount = amount_of M f q })) (sym read)

    pub path_augments : Augments M f p
    path_augments = ((first_shortest_path M f laws ok).0 (record { lanes = p; amount = amount_of M f p }) move_found).augments

    -- and the amount from rooms is the amount of the move
    pub amount_found : step M f ≡ some (record { lanes = p; amount = amount_by_rooms M f p })
    amount_found =
        let a = path_augments in
        let same = amounts_by_rooms M f laws ok.within p (omega (arith, path_long)) a.ok (λ i h. a.distinct i (suc i) (omega arith) (omega arith)) in
        move_found ∙ ap (λ n. some (record { lanes = p; amount = n })) (sym same)

  -- so it is of the path that a program reads back from the labels t that it came to
  pub path_read : (m : ℕ) → m ≡ M.floor.lanes → (r : found.Option (ℕ × ℕ)) (l e : ℕ) (t : List Mark) (p : List State) → outcome M f ≡ came_out r t → r ≡ Some (l, e)
      → EndedAt m (Some (l, e)) t → p ≡ row (path (level_of (mark t e)) e t) (level_of (mark t e)) → PathRead M f p
  path_read m all r l e t p came is last read =
      let ended : outcome M f ≡ Ended l e t = came ∙ ap (λ r. came_out r t) is in
      let there : p ≡ row (path l e t) l = read ∙ ap (λ l. row (path l e t) l) last.0 in
      record {
        among = path_among p (path_augments l e t ended last.1 p there);
        some_lane = omega (arith, path_long l e t ended last.1 p there, last.1);
        short = omega (arith, path_long l e t ended last.1 p there, last.2);
        moves = amount_found l e t ended last.1 p there;
      }
