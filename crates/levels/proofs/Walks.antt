-- Walks: a step in front, one walk after another, the rest of a walk, and a walk turned round.
use Rattle.std.proofs.Common.{◌≡◌, ℕ, zero, suc, ◌+◌, sym, refl, ap, subst, arith}
use Rattle.levels.specs.Levels.{Walk, Along}

module _ {X : Type 0} (R : X → X → Type 0) where
  pub cons_walk : (a b c : X) (n : ℕ) → R a b → Walk R b n c → Walk R a (suc n) c
  cons_walk a b c zero r w = (a, refl, subst (R a) w r)
  cons_walk a b c (suc n) r w = (w.0, cons_walk a b w.0 n r w.1, w.2)

  pub join_walk : (a b c : X) (m n : ℕ) → Walk R a m b → Walk R b n c → Walk R a (m + n) c
  join_walk a b c m zero v w = subst (λ k. Walk R a k c) (sym (nothing m)) (subst (Walk R a m) w v)
    where
      nothing : (m : ℕ) → m + 0 ≡ m
      nothing m = omega arith
  join_walk a b c m (suc n) v w =
      subst (λ k. Walk R a k c) (sym (one_more m n)) (w.0, join_walk a b w.0 m n v w.1, w.2)
    where
      one_more : (m n : ℕ) → m + suc n ≡ suc (m + n)
      one_more m n = omega arith

  -- the rest of a walk
  pub rest_walk : (P : ℕ → X) (N : ℕ) → Along R P N → (k i : ℕ) → i + k ≡ N → Walk R (P i) k (P N)
  rest_walk P N along zero i e = ap P (omega arith)
  rest_walk P N along (suc k) i e = cons_walk (P i) (P (suc i)) (P N) k (along i (omega arith)) (rest_walk P N along k (suc i) (omega arith))

-- a walk of the relation turned round, from its end
pub turned_walk : {X : Type 0} (R : X → X → Type 0) (a b : X) (n : ℕ) → Walk R a n b → Walk (λ x y. R y x) b n a
turned_walk R a b zero w = sym w
turned_walk R a b (suc n) w = cons_walk (λ x y. R y x) b w.0 a n w.2 (turned_walk R a w.0 n w.1)
