-- Tests of all the numbers of a range, of a list that is made from a range, and of the four-byte numbers in bytes.
use Rattle.std.proofs.Common.{◌≡◌, ℕ, zero, suc, ◌+◌, ◌-◌, ◌*◌, ◌/◌, ◌<◌, ◌≤◌, Bool, ◌&&◌, List, [], ◌∷◌, length, map, drop, get_or, take, refl, sym, add-zero, ap, ◌∙◌, arith, length-drop, get_or-take}
use Rattle.std.proofs.lemmas.List.{get_or-drop}
use Rattle.std.proofs.iter.Yields.{nat_range_steps}
use Rattle.std.proofs.lemmas.Iterator.{YieldsList-from_range}
use Rattle.std.proofs.lemmas.Iterator.Search.{all_from_yields_List}
use denote.Param.Members.{Mut}
use Rattle.std.specs.declared.ops.Range.{Range}
use Rattle.std.specs.Fn.{Called}
use Rattle.std.specs.Iterator.{ChecksAll}
use Rattle.std.specs.List.{list_all, range_with_len}
use Rattle.polymatroid.specs.Tables.{every}
use Rattle.plantformat.specs.Bytes.{long, listed}
use Rattle.plantformat.specs.Rules.{all_of}
use Rattle.plantformat.specs.Judge.{longs}

-- ---- ranges

-- the first number below n apart
pub every_front : (n : ℕ) (t : ℕ → Bool) → every (suc n) t ≡ (t 0 && every n (λ i. t (suc i)))
unfolding every
every_front zero t = grind arith
every_front (suc n) t = let ih = every_front n t in grind arith

-- all the numbers from a on pass, the first one looked at first
pub every_from_range : (n a : ℕ) (t : ℕ → Bool) → list_all t (range_with_len a n) ≡ every n (λ i. t (a + i))
unfolding every
every_from_range zero a t = refl
every_from_range (suc n) a t =
    let same : (i : ℕ) → a + 1 + i ≡ a + suc i = λ i. omega arith in
    let front = every_front n (λ i. t (a + i)) in
    let more : list_all t (range_with_len (a + 1) n) ≡ every n (λ i. t (a + suc i)) =
    every_from_range n (a + 1) t ∙ (λ j. every n (λ i. t (same i j))) in
    let first : a + 0 ≡ a = omega arith in
    ap (λ b. t a && b) more ∙ ap (λ x. t x && every n (λ i. t (a + suc i))) (sym first) ∙ sym front

pub every_range : (n : ℕ) (t : ℕ → Bool) → every n t ≡ list_all t (range_with_len 0 n)
every_range n t = let same : (i : ℕ) → 0 + i ≡ i = λ i. omega arith in sym (every_from_range n 0 t ∙ (λ j. every n (λ i. t (same i j))))

-- a test that was called at each of the n numbers from a to below b
pub range_by : {F : Type 0} {g : Mut F (ℕ × Unit {0}) Bool} (a b n : ℕ) (t : ℕ → Bool) (s u : Range ℕ) (f : F) (r : Bool)
    → ChecksAll nat_range_steps g s f r u → s.start ≡ a → s.end ≡ b → b - a ≡ n
    → ((x : ℕ) (y : Bool) (q : F) → Called g f (x, tt) y q → (q ≡ f) × (y ≡ t x)) → r ≡ list_all t (range_with_len a n)
range_by a b n t s u f r ran first last len calls =
    all_from_yields_List t u f r ran (YieldsList-from_range a b n (λ i. record { start = first i; end = last i }) len) calls

-- a test that was called at each number below n
pub every_by : {F : Type 0} {g : Mut F (ℕ × Unit {0}) Bool} (n : ℕ) (t : ℕ → Bool) (s u : Range ℕ) (f : F) (r : Bool)
    → ChecksAll nat_range_steps g s f r u → s.start ≡ 0 → s.end ≡ n
    → ((x : ℕ) (y : Bool) (q : F) → Called g f (x, tt) y q → (q ≡ f) × (y ≡ t x)) → r ≡ every n t
every_by n t s u f r ran first last calls = range_by 0 n n t s u f r ran first last (omega arith) calls ∙ sym (every_range n t)

-- all of a list that is made from a range
all_of_range : (t : ℕ → Bool) (h : ℕ → ℕ) (n a : ℕ) → all_of t (map h (range_with_len a n)) ≡ list_all (λ i. t (h i)) (range_with_len a n)
all_of_range t h zero a = refl
all_of_range t h (suc n) a = ap (λ b. t (h a) && b) (all_of_range t h n (a + 1))

-- the same of the numbers that are listed
pub listed_by : {F : Type 0} {g : Mut F (ℕ × Unit {0}) Bool} (n : ℕ) (t : ℕ → Bool) (h : ℕ → ℕ) (s u : Range ℕ) (f : F) (r : Bool)
    → ChecksAll nat_range_steps g s f r u → s.start ≡ 0 → s.end ≡ n
    → ((x : ℕ) (y : Bool) (q : F) → Called g f (x, tt) y q → (q ≡ f) × (y ≡ t (h x))) → r ≡ all_of t (listed n h)
listed_by n t h s u f r ran first last calls = range_by 0 n n (λ i. t (h i)) s u f r ran first last (omega arith) calls ∙ sym (all_of_range t h n 0)

pub all_of_all : (t : ℕ → Bool) (xs : List ℕ) → all_of t xs ≡ list_all t xs
all_of_all t [] = refl
all_of_all t (x ∷ xs) = ap (λ b. t x && b) (all_of_all t xs)

-- ---- the four-byte numbers in bytes, from the front

-- a list that is made from a later range
later : (f g : ℕ → ℕ) (n a b : ℕ) → ((i : ℕ) → f (a + i) ≡ g (b + i)) → map f (range_with_len a n) ≡ map g (range_with_len b n)
later f g zero a b h = refl
later f g (suc n) a b h =
    let here : f a ≡ g b = simp add-zero at (h 0) in
    let next : (x i : ℕ) → x + suc i ≡ x + 1 + i = λ x i. omega arith in
    let rest = later f g n (a + 1) (b + 1) (λ i. ap f (sym (next a i)) ∙ h (suc i) ∙ ap g (next b i)) in
    cc

pub no_longs : (b : List ℕ) → length b < 4 → longs b ≡ []
no_longs b l = let none : length b / 4 ≡ 0 = omega arith in ap (λ n. listed n (λ i. long b (4 * i))) none

-- the four-byte number at a place behind the first n bytes
long_drop : (n : ℕ) (b : List ℕ) (i j : ℕ) → n + i ≡ j → long (drop n b) i ≡ long b j
long_drop n b i j e =
    let at : (k : ℕ) → get_or (drop n b) (i + k) 0 ≡ get_or b (j + k) 0 =
    λ k. get_or-drop n b (i + k) 0 ∙ (let same : n + (i + k) ≡ j + k = omega arith in ap (λ j. get_or b j 0) same) in
    let first = get_or-drop n b i 0 ∙ ap (λ j. get_or b j 0) e in
    omega (arith, first, at 1, at 2, at 3)

pub longs_more : (b : List ℕ) → 4 ≤ length b → longs b ≡ long (take 4 b) 0 ∷ longs (drop 4 b)
longs_more b l =
    let n : length b / 4 ≡ suc (length (drop 4 b) / 4) = omega (arith, length-drop 4 b) in
    let at : (k : ℕ) → k < 4 → get_or (take 4 b) k 0 ≡ get_or b k 0 = λ k h. get_or-take 4 b k 0 h in
    let first : long b 0 ≡ long (take 4 b) 0 = omega (arith, at 0 (omega arith), at 1 (omega arith), at 2 (omega arith), at 3 (omega arith)) in
    ap (λ n. listed n (λ i. long b (4 * i))) n
    ∙ ap (λ xs. long b 0 ∷ xs)
    (later (λ i. long b (4 * i)) (λ i. long (drop 4 b) (4 * i)) (length (drop 4 b) / 4) 1 0
    (λ i. sym (long_drop 4 b (4 * (0 + i)) (4 * (1 + i)) (omega arith))))
    ∙ ap (λ x. x ∷ longs (drop 4 b)) first
