-- A turn of the labelling: it ends with a path, it finishes, or it goes on to the next level.
use Rattle.std.proofs.Common.{◌≡◌, ℕ, zero, suc, ◌+◌, ◌-◌, ◌<◌, Bool, false, cond, ltb, List, [], replicate, None, sym, refl, ap, ◌∙◌, add-one, sub-one, arith}
use Rattle.network.specs.States.{State, Pole}
use Rattle.labelling.specs.Table.{Mark, mark, give, listed, pass, table_up_to, ending_lane, lane_of_level, Ended, Finished, label_from, label}
use Rattle.labels.specs.Labels.{marks}

-- functions that agree give the same list
listed_same : (f h : ℕ → Mark) (n k : ℕ) → ((i : ℕ) → f i ≡ h i) → listed f n k ≡ listed h n k
unfolding listed
listed_same f h zero k q = refl
listed_same f h (suc n) k q = let a = q k in let b = listed_same f h n (suc k) q in cc

-- a table without labels has the marks of an empty one
blank_mark : (n i : ℕ) → mark (marks (replicate n None)) i ≡ mark [] i
unfolding mark
blank_mark zero i = refl
blank_mark (suc n) zero = refl
blank_mark (suc n) (suc i) = blank_mark n i

module _ (r : State → State → Bool) (m : ℕ) where
  -- the first level, from a table without labels
  pub label_start : (n : ℕ) (u : List Mark) → n ≡ suc m → u ≡ listed (λ y. give r (Pole false) 1 y (mark (marks (replicate m None)) y)) m 0 → label r m ≡ label_from r m n 1 u
  unfolding label table_up_to pass
  label_start n u e q =
      ap (λ n. label_from r m n 1 (table_up_to r m 1)) (sym e)
      ∙ ap (label_from r m n 1) (sym (q ∙ listed_same _ _ m 0 (λ y. ap (give r (Pole false) 1 y) (blank_mark m y))))

  -- a level
  pub label_turn : (n l : ℕ) (t : List Mark) → 0 < n
      → label_from r m n l t
      ≡ cond (ltb (ending_lane r m l t) m) (Ended l (ending_lane r m l t) t) (cond (ltb (lane_of_level m l t) m) (label_from r m (n - 1) (l + 1) (pass r m l t)) (Finished t))
  unfolding label_from
  label_turn zero l t h = absurd (omega arith)
  label_turn (suc n) l t h = rw (add-one, sub-one)

  -- no more levels
  pub label_out : (n l : ℕ) (t : List Mark) → n ≡ 0 → label_from r m n l t ≡ Finished t
  unfolding label_from
  label_out n l t e = ap (λ n. label_from r m n l t) e
