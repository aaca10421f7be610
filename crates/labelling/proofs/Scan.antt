-- What the scan of a level does to the table.
use Rattle.std.proofs.Common.{◌≡◌, ℕ, zero, suc, ◌+◌, ◌<◌, ◌≤◌, Bool, true, false, cond, ◌⊎◌, List, [], sym, refl, ap, ◌∙◌, subst, inl, inr, arith}
use mathlib.Core.Path.{subst⁻¹}
use Rattle.std.proofs.lemmas.Bool.{cases_lt, both_ways, eqb-true, eq-eqb}
use Rattle.network.specs.States.{State, Pole, Plus, Minus, lane_number}
use Rattle.labelling.specs.Table.{Mark, Blank, Given, signed, mark, is_at, state_of, give, scanned, listed, pass}

-- the state has its label at level i
abbrev pub AtLevel : List Mark → ℕ → State → Type 0
AtLevel t i (Pole false) = i ≡ 0
AtLevel t i (Pole true) = ⊥
AtLevel t i (Plus e) = (z : State) × (mark t e ≡ Given true z i)
AtLevel t i (Minus e) = (z : State) × (mark t e ≡ Given false z i)

-- the same with the end after the l lanes of a path
abbrev pub AtLevelOrEnd : ℕ → List Mark → ℕ → State → Type 0
AtLevelOrEnd l t i (Pole false) = i ≡ 0
AtLevelOrEnd l t i (Pole true) = i ≡ suc l
AtLevelOrEnd l t i (Plus e) = (z : State) × (mark t e ≡ Given true z i)
AtLevelOrEnd l t i (Minus e) = (z : State) × (mark t e ≡ Given false z i)

-- the table of a list
pub listed_at : (h : ℕ → Mark) (n k i : ℕ) → i < n → mark (listed h n k) i ≡ h (k + i)
unfolding mark listed
listed_at h zero k i l = absurd (omega arith)
listed_at h (suc n) k zero l = ap h (omega arith)
listed_at h (suc n) k (suc i) l = listed_at h n (suc k) i (omega arith) ∙ ap h (omega arith)

pub listed_off : (h : ℕ → Mark) (n k i : ℕ) → n ≤ i → mark (listed h n k) i ≡ Blank
unfolding mark listed
listed_off h zero k i l = refl
listed_off h (suc n) k zero l = absurd (omega arith)
listed_off h (suc n) k (suc i) l = listed_off h n (suc k) i (omega arith)

pub none_mk : {A : Type 0} (p : Mark) (s : Bool) (z : State) (k : ℕ) → p ≡ Blank → p ≡ Given s z k → A
none_mk p s z k a b = let q : ◌≡◌ {A = ℕ} 0 1 = cc in absurd (omega arith)

pub cases_mark : (p : Mark) → (p ≡ Blank) ⊎ ((s : Bool) × (z : State) × (k : ℕ) × (p ≡ Given s z k))
cases_mark Blank = inl refl
cases_mark (Given s z k) = inr (s, z, k, refl)

-- a labelled state by its mark
pub sits_signed : (t : List Mark) (i : ℕ) (s : Bool) (e : ℕ) (z : State) → mark t e ≡ Given s z i → AtLevel t i (signed s e)
sits_signed t i true e z q = (z, q)
sits_signed t i false e z q = (z, q)

pub record Passed (r : State → State → Bool) (m l : ℕ) (t u : List Mark) : Type 0 where
  pub keeps : (y : ℕ) (s : Bool) (z : State) (k : ℕ) → y < m → mark t y ≡ Given s z k → mark u y ≡ Given s z k
  pub fresh : (y : ℕ) (s : Bool) (z : State) (k : ℕ) → y < m → mark t y ≡ Blank → mark u y ≡ Given s z k
      → (k ≡ suc l) × AtLevel t l z × (r z (signed s y) ≡ true) × ((x : State) (b : Bool) → AtLevel t l x → r x (signed b y) ≡ true → lane_number z ≤ lane_number x)
  pub none : (y : ℕ) → y < m → mark u y ≡ Blank → (x : State) (b : Bool) → AtLevel t l x → r x (signed b y) ≡ true → ⊥
  pub off : (y : ℕ) → m ≤ y → mark u y ≡ Blank

module _ (r : State → State → Bool) where
  -- what a lane without a label has after the scan of the lanes below n
  unfoldable pub Told : List Mark → ℕ → ℕ → ℕ → Mark → Type 0
  Told t l y n Blank = (e : ℕ) → e < n → is_at l (mark t e) ≡ true → (b : Bool) → r (state_of e (mark t e)) (signed b y) ≡ false
  Told t l y n (Given s z k) =
      (k ≡ suc l) × (e : ℕ) × (e < n) × (is_at l (mark t e) ≡ true) × (z ≡ state_of e (mark t e)) × (r z (signed s y) ≡ true)
      × ((d : ℕ) → d < e → is_at l (mark t d) ≡ true → (b : Bool) → r (state_of d (mark t d)) (signed b y) ≡ false)

  more : (t : List Mark) (l y n : ℕ) (s : Bool) (z : State) (k : ℕ) → Told t l y n (Given s z k) → Told t l y (suc n) (Given s z k)
  unfolding Told
  more t l y n s z k h = (h.0, h.1, omega (arith, h.2), h.3, h.4, h.5, h.6)

  gives_told : (t : List Mark) (l y n : ℕ) → Told t l y n Blank → is_at l (mark t n) ≡ true
      → (a c : Bool) → r (state_of n (mark t n)) (Plus y) ≡ a → r (state_of n (mark t n)) (Minus y) ≡ c
      → Told t l y (suc n) (cond a (Given true (state_of n (mark t n)) (suc l)) (cond c (Given false (state_of n (mark t n)) (suc l)) Blank))
  unfolding Told
  gives_told t l y n h q true c p o = (refl, n, omega arith, q, refl, p, h)
  gives_told t l y n h q false true p o = (refl, n, omega arith, q, refl, o, h)
  gives_told t l y n h q false false p o = λ e w v b. elim (cases_lt e n) [ inl g ↦ h e g v b | inr g ↦ last e (omega arith) b ]
    where
      at_n : (b : Bool) → r (state_of n (mark t n)) (signed b y) ≡ false
      at_n true = p
      at_n false = o

      last : (e : ℕ) → n ≡ e → (b : Bool) → r (state_of e (mark t e)) (signed b y) ≡ false
      last e g b = subst (λ e. r (state_of e (mark t e)) (signed b y) ≡ false) g (at_n b)

  told_step : (t : List Mark) (l y n : ℕ) (a : Bool) → is_at l (mark t n) ≡ a → (p : Mark) → Told t l y n p
      → Told t l y (suc n) (cond a (give r (state_of n (mark t n)) (suc l) y p) p)
  unfolding Told
  told_step t l y n true q (Given s z k) h = more t l y n s z k h
  told_step t l y n true q Blank h =
      gives_told t l y n h q (r (state_of n (mark t n)) (Plus y)) (r (state_of n (mark t n)) (Minus y)) refl refl
  told_step t l y n false q (Given s z k) h = more t l y n s z k h
  told_step t l y n false q Blank h =
      λ e w v b. elim (cases_lt e n) [ inl g ↦ h e g v b | inr g ↦ absurd (last e (omega arith) v) ]
    where
      last : (e : ℕ) → n ≡ e → is_at l (mark t e) ≡ true → ⊥
      last e g v = both_ways (is_at l (mark t n)) q (subst⁻¹ (λ e. is_at l (mark t e) ≡ true) g v)

  pub told : (t : List Mark) (l y n : ℕ) → mark t y ≡ Blank → Told t l y n (scanned r t l n y)
  unfolding Told scanned
  told t l y zero q = subst⁻¹ (Told t l y 0) q (λ e w v b. absurd (omega arith))
  told t l y (suc n) q = told_step t l y n (is_at l (mark t n)) refl (scanned r t l n y) (told t l y n q)

  pub kept : (t : List Mark) (l y n : ℕ) (s : Bool) (z : State) (k : ℕ) → mark t y ≡ Given s z k → scanned r t l n y ≡ Given s z k
  unfolding scanned
  kept t l y zero s z k q = q
  kept t l y (suc n) s z k q = by (is_at l (mark t n)) (scanned r t l n y) (kept t l y n s z k q)
    where
      by : (a : Bool) (p : Mark) → p ≡ Given s z k → cond a (give r (state_of n (mark t n)) (suc l) y p) p ≡ Given s z k
      by true p e = subst⁻¹ (λ p. give r (state_of n (mark t n)) (suc l) y p ≡ Given s z k) e refl
      by false p e = e

  -- the lane of a labelled state that is not the start
  pub lane_of : (t : List Mark) (l : ℕ) (x : State) → AtLevel t (suc l) x → (is_at (suc l) (mark t (lane_number x)) ≡ true) × (state_of (lane_number x) (mark t (lane_number x)) ≡ x)
  lane_of t l (Pole false) h = absurd (omega arith)
  lane_of t l (Pole true) h = absurd h
  lane_of t l (Plus e) h = (ap (is_at (suc l)) h.1 ∙ eq-eqb (suc l) (suc l) refl, ap (state_of e) h.1)
  lane_of t l (Minus e) h = (ap (is_at (suc l)) h.1 ∙ eq-eqb (suc l) (suc l) refl, ap (state_of e) h.1)

  num_signed : (s : Bool) (e : ℕ) → lane_number (signed s e) ≡ e
  num_signed true e = refl
  num_signed false e = refl

  pub state_sits : (t : List Mark) (l e : ℕ) → is_at l (mark t e) ≡ true → AtLevel t l (state_of e (mark t e)) × (lane_number (state_of e (mark t e)) ≡ e)
  state_sits t l e q = by (mark t e) refl q
    where
      by : (p : Mark) → mark t e ≡ p → is_at l p ≡ true → AtLevel t l (state_of e p) × (lane_number (state_of e p) ≡ e)
      by Blank o h = let z : ◌≡◌ {A = ℕ} 0 1 = cc in absurd (omega arith)
      by (Given s z k) o h =
          (sits_signed t l s e z (o ∙ ap (Given s z) (eqb-true k l h)), num_signed s e)

  start_is : (t : List Mark) (x : State) → ((y : ℕ) (s : Bool) (z : State) → mark t y ≡ Given s z 0 → ⊥) → AtLevel t 0 x → x ≡ Pole false
  start_is t (Pole false) h s = refl
  start_is t (Pole true) h s = absurd s
  start_is t (Plus e) h s = absurd (h e true s.0 s.1)
  start_is t (Minus e) h s = absurd (h e false s.0 s.1)

  pub listed_is : (h : ℕ → Mark) (m y : ℕ) → y < m → mark (listed h m 0) y ≡ h y
  listed_is h m y l = listed_at h m 0 y l ∙ ap h (omega arith)

  -- the scan of the lanes of a level
  module _ (m l : ℕ) (t : List Mark) (off : (y : ℕ) → m ≤ y → mark t y ≡ Blank) where
    below : (x : State) → AtLevel t (suc l) x → lane_number x < m
    below x s =
        elim (cases_lt (lane_number x) m) [
          | inl h ↦ h
          | inr h ↦ absurd (both_ways (is_at (suc l) (mark t (lane_number x))) (ap (is_at (suc l)) (off (lane_number x) (omega arith))) (lane_of t l x s).0)
        ]

    fresh_told : (y : ℕ) (s : Bool) (z : State) (k : ℕ) → Told t (suc l) y m (Given s z k)
        → (k ≡ suc (suc l)) × AtLevel t (suc l) z × (r z (signed s y) ≡ true)
        × ((x : State) (b : Bool) → AtLevel t (suc l) x → r x (signed b y) ≡ true → lane_number z ≤ lane_number x)
    unfolding Told
    fresh_told y s z k h = by h.0 h.1 h.2 h.3 h.4 h.5 h.6
      where
        by : k ≡ suc (suc l) → (e : ℕ) → e < m → is_at (suc l) (mark t e) ≡ true → z ≡ state_of e (mark t e) → r z (signed s y) ≡ true
            → ((d : ℕ) → d < e → is_at (suc l) (mark t d) ≡ true → (b : Bool) → r (state_of d (mark t d)) (signed b y) ≡ false)
            → (k ≡ suc (suc l)) × AtLevel t (suc l) z × (r z (signed s y) ≡ true)
            × ((x : State) (b : Bool) → AtLevel t (suc l) x → r x (signed b y) ≡ true → lane_number z ≤ lane_number x)
        by a e b c q d g =
            let st = state_sits t (suc l) e c in
            let nz : lane_number z ≡ e = ap lane_number q ∙ st.1 in (
              a,
              subst⁻¹ (AtLevel t (suc l)) q st.0,
              d,
              λ x bb sx rx.
                  elim (cases_lt (lane_number x) e) [
                    | inl h ↦
                        let o = lane_of t l x sx in
                        absurd (both_ways (r x (signed bb y)) (subst (λ x. r x (signed bb y) ≡ false) o.1 (g (lane_number x) h o.0 bb)) rx)
                    | inr h ↦ omega arith
                  ],
            )

    none_told : (y : ℕ) → Told t (suc l) y m Blank → (x : State) (b : Bool) → AtLevel t (suc l) x → r x (signed b y) ≡ true → ⊥
    unfolding Told
    none_told y h x b sx rx =
        let o = lane_of t l x sx in
        both_ways (r x (signed b y)) (subst (λ x. r x (signed b y) ≡ false) o.1 (h (lane_number x) (below x sx) o.0 b)) rx

    pub passed_suc : Passed r m (suc l) t (pass r m (suc l) t)
    unfolding pass
    passed_suc = record {
      keeps = λ y s z k h q. listed_is (scanned r t (suc l) m) m y h ∙ kept t (suc l) y m s z k q;
      fresh = λ y s z k h q o.
          fresh_told y s z k (subst (Told t (suc l) y m) (sym (listed_is (scanned r t (suc l) m) m y h) ∙ o) (told t (suc l) y m q));
      none = λ y h o.
          elim (cases_mark (mark t y)) [
            | inl q ↦ none_told y (subst (Told t (suc l) y m) (sym (listed_is (scanned r t (suc l) m) m y h) ∙ o) (told t (suc l) y m q))
            | inr q ↦ absurd (none_mk (mark (listed (scanned r t (suc l) m) m 0) y) q.0 q.1 q.2 o
                (listed_is (scanned r t (suc l) m) m y h ∙ kept t (suc l) y m q.0 q.1 q.2 q.3))
          ];
      off = λ y h. listed_off (scanned r t (suc l) m) m 0 y h;
    }

  -- the scan of the start
  module _ (m : ℕ) where
    given : ℕ → Mark
    given y = give r (Pole false) 1 y (mark [] y)

    Start : ℕ → Mark → Type 0
    Start y Blank = (b : Bool) → r (Pole false) (signed b y) ≡ false
    Start y (Given s z k) = (k ≡ 1) × (z ≡ Pole false) × (r (Pole false) (signed s y) ≡ true)

    start_told : (y : ℕ) → Start y (given y)
    unfolding Start given mark
    start_told y = by (r (Pole false) (Plus y)) (r (Pole false) (Minus y)) refl refl
      where
        by : (a c : Bool) → r (Pole false) (Plus y) ≡ a → r (Pole false) (Minus y) ≡ c → Start y (cond a (Given true (Pole false) 1) (cond c (Given false (Pole false) 1) Blank))
        by true c p q = (refl, refl, p)
        by false true p q = (refl, refl, q)
        by false false p q = both
          where
            both : (b : Bool) → r (Pole false) (signed b y) ≡ false
            both true = p
            both false = q

    mark_nil : (y : ℕ) → mark [] y ≡ Blank
    unfolding mark
    mark_nil y = refl

    start_only : (x : State) → AtLevel [] 0 x → x ≡ Pole false
    start_only x s = start_is [] x (λ y s z q. none_mk (mark [] y) s z 0 (mark_nil y) q) s

    start_fresh : (y : ℕ) (s : Bool) (z : State) (k : ℕ) → Start y (Given s z k)
        → (k ≡ 1) × AtLevel [] 0 z × (r z (signed s y) ≡ true) × ((x : State) (b : Bool) → AtLevel [] 0 x → r x (signed b y) ≡ true → lane_number z ≤ lane_number x)
    unfolding Start
    start_fresh y s z k h = (
      h.0,
      subst⁻¹ (AtLevel [] 0) h.1 refl,
      subst⁻¹ (λ z. r z (signed s y) ≡ true) h.1 h.2,
      λ x b sx rx. let q : lane_number z ≡ 0 = ap lane_number h.1 in omega arith,
    )

    start_none : (y : ℕ) → Start y Blank → (x : State) (b : Bool) → AtLevel [] 0 x → r x (signed b y) ≡ true → ⊥
    unfolding Start
    start_none y h x b sx rx = both_ways (r (Pole false) (signed b y)) (h b) (subst (λ x. r x (signed b y) ≡ true) (start_only x sx) rx)

    pub passed_zero : Passed r m 0 [] (pass r m 0 [])
    unfolding pass given
    passed_zero = record {
      keeps = λ y s z k h q. none_mk (mark [] y) s z k (mark_nil y) q;
      fresh = λ y s z k h q o. start_fresh y s z k (subst (Start y) (sym (listed_is given m y h) ∙ o) (start_told y));
      none = λ y h o. start_none y (subst (Start y) (sym (listed_is given m y h) ∙ o) (start_told y));
      off = λ y h. listed_off given m 0 y h;
    }
