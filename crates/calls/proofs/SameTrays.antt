-- Trays held as a list, one number for each lane of the floor, are the trays that the moves along its lanes lead to.
use Rattle.std.proofs.Common.{◌≡◌, ℕ, suc, ◌+◌, ◌-◌, ◌<◌, ◌≤◌, true, cond, List, [], ◌∷◌, length, sym, ap, ◌∙◌, inl, inr, arith}
use mathlib.Core.Path.{fun_ext}
use Rattle.std.specs.List.{AllByRecursion}
use Rattle.std.proofs.lemmas.Bool.{cases_lt, ne_eqb}
use Rattle.std.proofs.lemmas.List.{get_or_past}
use Rattle.std.proofs.lemmas.List.FromFn.{length-map-range_with_len, get_or-map-range_with_len}
use Rattle.std.proofs.ByRecursion.{All-from_get_or}
use Rattle.polymatroid.specs.Side.{plus, minus}
use Rattle.floor.specs.Meaning.{Meaning}
use Rattle.network.specs.States.{State, Pole, Plus, Minus, OnFloor, applied}
use Rattle.labelling.specs.Augmenting.{along, Augments}
use Rattle.labelling.specs.Steps.{Move, shifted, made, made_all}
use Rattle.calls.specs.Events.{at}
use Rattle.calls.specs.Law.{RightMove, RightMoves}
use Rattle.calls.specs.Does.{tray_list}

-- there are none from lane m on
abbrev pub Ends : ℕ → (ℕ → ℕ) → Type 0
Ends m f = (e : ℕ) → m ≤ e → f e ≡ 0

pub list_ends : (xs : List ℕ) (m : ℕ) → length xs ≡ m → Ends m (at xs)
list_ends xs m h e l = get_or_past xs e 0 (omega arith)

pub same_trays : (m : ℕ) (f g : ℕ → ℕ) → Ends m f → Ends m g → ((e : ℕ) → e < m → f e ≡ g e) → f ≡ g
same_trays m f g a b h = fun_ext (λ e. elim (cases_lt e m) [ inl l ↦ h e l | inr l ↦ a e l ∙ sym (b e l) ])

-- ---- lists made of trays

pub listed_length : (m : ℕ) (f : ℕ → ℕ) → length (tray_list m f) ≡ m
listed_length m f = length-map-range_with_len f 0 m

pub listed_at : (m : ℕ) (f : ℕ → ℕ) (e : ℕ) → e < m → at (tray_list m f) e ≡ f e
listed_at m f e l = get_or-map-range_with_len f 0 m e e 0 l (omega arith)

pub listed : (m : ℕ) (f : ℕ → ℕ) → Ends m f → at (tray_list m f) ≡ f
listed m f h = same_trays m (at (tray_list m f)) f (list_ends (tray_list m f) m (listed_length m f)) h (listed_at m f)

-- ---- moves along the lanes of a floor

module _ (M : Meaning) where
  applied_ends : (n : ℕ) (x : State) (f : ℕ → ℕ) → OnFloor M x → Ends M.floor.lanes f → Ends M.floor.lanes (applied n x f)
  unfolding plus minus
  applied_ends n (Pole b) f o h = h
  applied_ends n (Plus g) f o h = λ e l.
      let d : e ≡ g → ⊥ = λ q. omega arith in
      ap (λ b. cond b (f e + n) (f e)) (ne_eqb e g d) ∙ h e l
  applied_ends n (Minus g) f o h = λ e l.
      let d : e ≡ g → ⊥ = λ q. omega arith in
      ap (λ b. cond b (f e - n) (f e)) (ne_eqb e g d) ∙ h e l

  shifted_ends : (n : ℕ) (p : List State) (f : ℕ → ℕ) → AllByRecursion (OnFloor M) p → Ends M.floor.lanes f → Ends M.floor.lanes (shifted n p f)
  unfolding shifted
  shifted_ends n [] f o h = h
  shifted_ends n (x ∷ p) f o h = shifted_ends n p (applied n x f) o.1 (applied_ends n x f o.0 h)

  path_on_floor : (f : ℕ → ℕ) (p : List State) → Augments M f p → AllByRecursion (OnFloor M) p
  unfolding along
  path_on_floor f p a = All-from_get_or (OnFloor M) p (Pole true) (λ i l. a.ok (suc i) (omega arith))

  pub made_ends : (f : ℕ → ℕ) (v : Move) → RightMove M f v → Ends M.floor.lanes f → Ends M.floor.lanes (made v f)
  made_ends f v r h = shifted_ends v.amount v.lanes f (path_on_floor f v.lanes r.path.augments) h

  pub all_made_ends : (vs : List Move) (f : ℕ → ℕ) → RightMoves M f vs → Ends M.floor.lanes f → Ends M.floor.lanes (made_all vs f)
  unfolding made_all
  all_made_ends [] f r h = h
  all_made_ends (v ∷ vs) f r h = all_made_ends vs (made v f) r.1 (made_ends f v r.0 h)
