-- A run has at most lanes × 2 × lanes × lanes stages.
use Rattle.std.proofs.Common.{◌≡◌, ℕ, zero, suc, ◌+◌, ◌-◌, ◌*◌, ◌/◌, ◌%◌, ◌<◌, ◌≤◌, true, false, ◌⊎◌, sym, refl, ap, ◌∙◌, subst, ap₂, inl, inr, arith}
use Rattle.std.proofs.lemmas.Bool.{both_ways, eq-eqb}
use Rattle.std.proofs.lemmas.Nat.{mul-add-lt, div-mul-add, mod-mul-add}
use Rattle.levels.specs.Counting.{Moves}
use Rattle.levels.proofs.Counting.{pigeonhole_all, few_at_one_length, few_in_all}
use Rattle.floor.specs.Meaning.{Meaning, Lawful}
use Rattle.network.specs.States.{State, Pole, Plus, Minus, at, amount, OnFloor, Turn, Path, lane_number}
use Rattle.network.specs.Stages.{Run, FewShareALength, FewStages}
use Rattle.network.proofs.Paths.{touches, touch_once}
use Rattle.network.proofs.Stages.{pairs_differ}

-- a lane state, at its place in a path
lane_state : (M : Meaning) (f : ℕ → ℕ) (P : ℕ → State) (N : ℕ) → Path M f P N → (i : ℕ) → suc i < N
    → (lane_number (P (suc i)) < M.floor.lanes) × (touches (P (suc i)) (lane_number (P (suc i))) ≡ true)
unfolding touches
lane_state M f P N path i l = by (P (suc i)) refl
  where
    by : (x : State) → P (suc i) ≡ x → (lane_number x < M.floor.lanes) × (touches x (lane_number x) ≡ true)
    by (Pole false) a = absurd (omega (arith, rw a at (path.some i (omega arith)), none (P i)))
      where
        none : (x : State) → amount M f x (Pole false) ≡ 0
        none (Pole b) = refl
        none (Plus e) = refl
        none (Minus e) = refl
    by (Pole true) a = absurd (omega (arith, rw a at (path.some (suc i) l), none (P (suc (suc i)))))
      where
        none : (y : State) → amount M f (Pole true) y ≡ 0
        none (Pole b) = refl
        none (Plus e) = refl
        none (Minus e) = refl
    by (Plus e) a = (subst (OnFloor M) a (path.ok (suc i) (omega arith)), eq-eqb e e refl)
    by (Minus e) a = (subst (OnFloor M) a (path.ok (suc i) (omega arith)), eq-eqb e e refl)

-- a path has at least one lane, and each lane at most once
path_lanes : (M : Meaning) (f : ℕ → ℕ) (P : ℕ → State) (N : ℕ) → Path M f P N → (1 < N) × (N - 1 ≤ M.floor.lanes)
path_lanes M f P N path = (many N path, pigeonhole_all (λ i. lane_number (P (suc i))) (N - 1) M.floor.lanes below differ)
  where
    many : (N : ℕ) → Path M f P N → 1 < N
    many zero path = let a = path.begin in let b = path.finish in let z : ◌≡◌ {A = ℕ} 0 1 = cc in absurd (omega arith)
    many (suc zero) path =
        let h : 0 < amount M f (P 0) (P 1) = path.some 0 (omega arith) in
        let e : amount M f (P 0) (P 1) ≡ 0 = ap₂ (amount M f) path.begin path.finish in
        absurd (omega arith)
    many (suc (suc N)) path = omega arith

    below : (i : ℕ) → i < N - 1 → lane_number (P (suc i)) < M.floor.lanes
    below i l = (lane_state M f P N path i (omega arith)).0

    differ : (i j : ℕ) → i < j → j < N - 1 → lane_number (P (suc i)) ≡ lane_number (P (suc j)) → ⊥
    differ i j l m e =
        let t = (lane_state M f P N path i (omega arith)).1 in
        let u = (lane_state M f P N path j (omega arith)).1 in
        both_ways (touches (P (suc j)) (lane_number (P (suc i)))) (touch_once M f P N path (suc i) (suc j) (lane_number (P (suc i))) (omega arith) (omega arith) t)
        (ap (touches (P (suc j))) e ∙ u)

-- ---- the number of a pair: a sign, a lane and the next lane

sign : State → ℕ
sign (Pole b) = 0
sign (Plus e) = 0
sign (Minus e) = 1

sgn : State → State → ℕ
sgn x (Pole b) = 1
sgn x (Plus g) = sign x
sgn x (Minus g) = sign x

lane : State → State → ℕ
lane (Pole b) y = lane_number y
lane (Plus e) y = e
lane (Minus e) y = e

then : State → State → ℕ
then x (Pole b) = lane_number x
then x (Plus g) = g
then x (Minus g) = g

Lane : Meaning → State → Type 0
Lane M (Pole b) = ⊥
Lane M (Plus e) = e < M.floor.lanes
Lane M (Minus e) = e < M.floor.lanes

-- a pair of a path, by its kind: from the start, to the end, of two lanes
record First (M : Meaning) (x y : State) : Type 0 where
  from : x ≡ Pole false
  to : y ≡ Plus (lane x y)
  plus : sgn x y ≡ 0
  one : lane x y ≡ then x y
  low : lane x y < M.floor.lanes

record Last (M : Meaning) (x y : State) : Type 0 where
  from : x ≡ Plus (lane x y)
  to : y ≡ Pole true
  minus : sgn x y ≡ 1
  one : lane x y ≡ then x y
  low : lane x y < M.floor.lanes

record Inner (M : Meaning) (x y : State) : Type 0 where
  from : Lane M x
  to : Lane M y
  sign_is : sgn x y ≡ sign x
  lane_is : lane x y ≡ lane_number x
  then_is : then x y ≡ lane_number y
  two : lane x y ≡ then x y → ⊥
  low : lane x y < M.floor.lanes
  low_then : then x y < M.floor.lanes
  low_sign : sgn x y < 2

Kind : Meaning → State → State → Type 0
Kind M x y = First M x y ⊎ (Last M x y ⊎ Inner M x y)

kind : (M : Meaning) → Lawful M → (f : ℕ → ℕ) (x y : State) → OnFloor M x → OnFloor M y → at M true x ≡ at M false y → 0 < amount M f x y → (Turn x y → ⊥) → Kind M x y
unfolding Kind sgn lane then sign Lane
kind M laws f (Pole b) (Pole c) a d q h t = absurd (omega arith)
kind M laws f (Pole false) (Plus g) a d q h t = inl (record { from = refl; to = refl; plus = refl; one = refl; low = d })
kind M laws f (Pole true) (Plus g) a d q h t = absurd (omega arith)
kind M laws f (Pole b) (Minus g) a d q h t = absurd (omega arith)
kind M laws f (Plus e) (Pole false) a d q h t = absurd (omega arith)
kind M laws f (Plus e) (Pole true) a d q h t = inr (inl (record { from = refl; to = refl; minus = refl; one = refl; low = a }))
kind M laws f (Plus e) (Plus g) a d q h t =
    inr (inr (record {
      from = a;
      to = d;
      sign_is = refl;
      lane_is = refl;
      then_is = refl;
      two = λ r. laws.rules.ends_differ true e a (q ∙ ap (M.floor.end false) (sym r));
      low = a;
      low_then = d;
      low_sign = omega arith;
    }))
kind M laws f (Plus e) (Minus g) a d q h t =
    inr (inr (record { from = a; to = d; sign_is = refl; lane_is = refl; then_is = refl; two = t; low = a; low_then = d; low_sign = omega arith }))
kind M laws f (Minus e) (Pole c) a d q h t = absurd (omega arith)
kind M laws f (Minus e) (Plus g) a d q h t =
    inr (inr (record { from = a; to = d; sign_is = refl; lane_is = refl; then_is = refl; two = t; low = a; low_then = d; low_sign = omega arith }))
kind M laws f (Minus e) (Minus g) a d q h t =
    inr (inr (record {
      from = a;
      to = d;
      sign_is = refl;
      lane_is = refl;
      then_is = refl;
      two = λ r. laws.rules.ends_differ false e a (q ∙ ap (M.floor.end true) (sym r));
      low = a;
      low_then = d;
      low_sign = omega arith;
    }))

same_from : (M : Meaning) (x x' : State) → Lane M x → Lane M x' → sign x ≡ sign x' → lane_number x ≡ lane_number x' → x ≡ x'
unfolding Lane sign
same_from M (Pole b) x' a d s n = absurd a
same_from M (Plus e) (Pole b) a d s n = absurd d
same_from M (Plus e) (Plus g) a d s n = ap Plus n
same_from M (Plus e) (Minus g) a d s n = absurd (omega arith)
same_from M (Minus e) (Pole b) a d s n = absurd d
same_from M (Minus e) (Plus g) a d s n = absurd (omega arith)
same_from M (Minus e) (Minus g) a d s n = ap Minus n

same_to : (M : Meaning) → Lawful M → (y y' : State) → Lane M y → Lane M y' → at M false y ≡ at M false y' → lane_number y ≡ lane_number y' → y ≡ y'
unfolding Lane
same_to M laws (Pole b) y' a d s n = absurd a
same_to M laws (Plus e) (Pole b) a d s n = absurd d
same_to M laws (Plus e) (Plus g) a d s n = ap Plus n
same_to M laws (Plus e) (Minus g) a d s n = absurd (laws.rules.ends_differ false e a (s ∙ ap (M.floor.end true) (sym n)))
same_to M laws (Minus e) (Pole b) a d s n = absurd d
same_to M laws (Minus e) (Plus g) a d s n = absurd (laws.rules.ends_differ true e a (s ∙ ap (M.floor.end false) (sym n)))
same_to M laws (Minus e) (Minus g) a d s n = ap Minus n

pair_same : (M : Meaning) → Lawful M → (x y x' y' : State) → Kind M x y → Kind M x' y' → at M true x ≡ at M false y → at M true x' ≡ at M false y'
    → sgn x y ≡ sgn x' y' → lane x y ≡ lane x' y' → then x y ≡ then x' y' → (x ≡ x') × (y ≡ y')
unfolding Kind
pair_same M laws x y x' y' (inl a) (inl b) q q' s l t = (a.from ∙ sym b.from, a.to ∙ ap Plus l ∙ sym b.to)
pair_same M laws x y x' y' (inl a) (inr (inl b)) q q' s l t = absurd (omega (arith, a.plus, b.minus))
pair_same M laws x y x' y' (inl a) (inr (inr b)) q q' s l t = absurd (b.two (sym l ∙ a.one ∙ t))
pair_same M laws x y x' y' (inr (inl a)) (inl b) q q' s l t = absurd (omega (arith, a.minus, b.plus))
pair_same M laws x y x' y' (inr (inl a)) (inr (inl b)) q q' s l t = (a.from ∙ ap Plus l ∙ sym b.from, a.to ∙ sym b.to)
pair_same M laws x y x' y' (inr (inl a)) (inr (inr b)) q q' s l t = absurd (b.two (sym l ∙ a.one ∙ t))
pair_same M laws x y x' y' (inr (inr a)) (inl b) q q' s l t = absurd (a.two (l ∙ b.one ∙ sym t))
pair_same M laws x y x' y' (inr (inr a)) (inr (inl b)) q q' s l t = absurd (a.two (l ∙ b.one ∙ sym t))
pair_same M laws x y x' y' (inr (inr a)) (inr (inr b)) q q' s l t =
    let e = same_from M x x' a.from b.from (sym a.sign_is ∙ s ∙ b.sign_is) (sym a.lane_is ∙ l ∙ b.lane_is) in
    (e, same_to M laws y y' a.to b.to (sym q ∙ ap (at M true) e ∙ q') (sym a.then_is ∙ t ∙ b.then_is))

low : (M : Meaning) (x y : State) → Kind M x y → (sgn x y < 2) × (lane x y < M.floor.lanes) × (then x y < M.floor.lanes)
unfolding Kind
low M x y (inl a) = (omega (arith, a.plus), a.low, omega (arith, a.one, a.low))
low M x y (inr (inl a)) = (omega (arith, a.minus), a.low, omega (arith, a.one, a.low))
low M x y (inr (inr a)) = (a.low_sign, a.low, a.low_then)

-- one number of three
mark : ℕ → ℕ → ℕ → ℕ → ℕ
mark m s a b = (s * m + a) * m + b

mark_low : (m s a b : ℕ) → s < 2 → a < m → b < m → mark m s a b < 2 * (m * m)
unfolding mark
mark_low m s a b hs ha hb = omega (arith, mul-add-lt (s * m + a) m b (m * 2) (mul-add-lt s m a 2 hs ha) hb)

mark_same : (m s a b s' a' b' : ℕ) → a < m → b < m → a' < m → b' < m → mark m s a b ≡ mark m s' a' b' → (s ≡ s') × (a ≡ a') × (b ≡ b')
unfolding mark
mark_same m s a b s' a' b' ha hb ha' hb' e =
    let hi : s * m + a ≡ s' * m + a' = sym (div-mul-add (s * m + a) m b hb) ∙ ap (λ x. x / m) e ∙ div-mul-add (s' * m + a') m b' hb' in
    let lo : b ≡ b' = sym (mod-mul-add (s * m + a) m b hb) ∙ ap (λ x. x % m) e ∙ mod-mul-add (s' * m + a') m b' hb' in (
      sym (div-mul-add s m a ha) ∙ ap (λ x. x / m) hi ∙ div-mul-add s' m a' ha',
      sym (mod-mul-add s m a ha) ∙ ap (λ x. x % m) hi ∙ mod-mul-add s' m a' ha',
      lo,
    )

-- the marks of a run
module _ (M : Meaning) (T : ℕ) (r : Run M T) where
  X : ℕ → State
  X s = r.path s (r.pair s)

  Y : ℕ → State
  Y s = r.path s (suc (r.pair s))

  kind_at : (s : ℕ) → s < T → Kind M (X s) (Y s)
  unfolding X Y
  kind_at s l =
      let g = r.stage s l in
      let p = g.moving.path in
      kind M g.moving.laws (r.trays s) (X s) (Y s) (p.ok (r.pair s) (omega (arith, g.index))) (p.ok (suc (r.pair s)) g.index)
      (p.meet (r.pair s) g.index) (p.some (r.pair s) g.index) (p.straight (r.pair s) g.index)

  mark_at : ℕ → ℕ
  mark_at s = mark M.floor.lanes (sgn (X s) (Y s)) (lane (X s) (Y s)) (then (X s) (Y s))

  differs : (s t : ℕ) → s < t → t < T → r.length s - 1 ≡ r.length t - 1 → mark_at s ≡ mark_at t → ⊥
  unfolding mark_at X Y
  differs s t l m e q =
      let ls : s < T = omega arith in
      let gs = r.stage s ls in
      let gt = r.stage t m in
      let a = low M (X s) (Y s) (kind_at s ls) in
      let b = low M (X t) (Y t) (kind_at t m) in
      let k = mark_same M.floor.lanes (sgn (X s) (Y s)) (lane (X s) (Y s)) (then (X s) (Y s)) (sgn (X t) (Y t)) (lane (X t) (Y t)) (then (X t) (Y t))
      a.1 a.2 b.1 b.2 q in
      let p = pair_same M gs.moving.laws (X s) (Y s) (X t) (Y t) (kind_at s ls) (kind_at t m)
      (gs.moving.path.meet (r.pair s) gs.index) (gt.moving.path.meet (r.pair t) gt.index) k.0 k.1 k.2 in
      let n1 = (path_lanes M (r.trays s) (r.path s) (r.length s) gs.moving.path).0 in
      let n2 = (path_lanes M (r.trays t) (r.path t) (r.length t) gt.moving.path).0 in
      pairs_differ M T r s t l m (omega arith) p.0 p.1

  counted : Moves (λ s. r.length s - 1) mark_at T M.floor.lanes (2 * (M.floor.lanes * M.floor.lanes))
  unfolding mark_at
  counted = record {
    some = λ s l. omega (arith, (path_lanes M (r.trays s) (r.path s) (r.length s) (r.stage s l).moving.path).0);
    most = λ s l. (path_lanes M (r.trays s) (r.path s) (r.length s) (r.stage s l).moving.path).1;
    below = λ s l.
        let a = low M (X s) (Y s) (kind_at s l) in
        mark_low M.floor.lanes (sgn (X s) (Y s)) (lane (X s) (Y s)) (then (X s) (Y s)) a.0 a.1 a.2;
    differ = differs;
  }

pub few_share_a_length : FewShareALength
few_share_a_length M T r l = few_at_one_length (λ s. r.length s - 1) (mark_at M T r) T M.floor.lanes (2 * (M.floor.lanes * M.floor.lanes)) (counted M T r) l

pub few_stages : FewStages
few_stages M T r = few_in_all (λ s. r.length s - 1) (mark_at M T r) T M.floor.lanes (2 * (M.floor.lanes * M.floor.lanes)) (counted M T r)
