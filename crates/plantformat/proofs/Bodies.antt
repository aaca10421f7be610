-- The body of a limit, as it is read: the numbers that a reader lists are those that the body holds, and no others.
use Rattle.std.proofs.Common.{◌≡◌, ℕ, ◌+◌, ◌*◌, ◌/◌, ◌<◌, List, length, get_or, drop, sym, refl, ap, ◌∙◌, arith}
use Rattle.std.proofs.lemmas.List.{length-drop, get_or-drop}
use Rattle.std.proofs.lemmas.List.FromFn.{length-map-range_with_len, get_or-map-range_with_len, fill_by_all}
use Rattle.plantformat.specs.Bytes.{word, long, listed}
use Rattle.plantformat.specs.Encoding.{GroupsBody}
use Rattle.plantformat.specs.Judge.{longs, parents_at, bounds_at, members_at}

-- ---- numbers behind the first n bytes

byte_drop : (n : ℕ) (b : List ℕ) (i j : ℕ) → n + i ≡ j → get_or (drop n b) i 0 ≡ get_or b j 0
byte_drop n b i j e = get_or-drop n b i 0 ∙ ap (λ x. get_or b x 0) e

word_drop : (n : ℕ) (b : List ℕ) (i j : ℕ) → n + i ≡ j → word (drop n b) i ≡ word b j
word_drop n b i j e =
    let p = byte_drop n b i j e in
    let q = byte_drop n b (i + 1) (j + 1) (omega arith) in
    cc

long_drop : (n : ℕ) (b : List ℕ) (i j : ℕ) → n + i ≡ j → long (drop n b) i ≡ long b j
long_drop n b i j e =
    let p = byte_drop n b i j e in
    let q = byte_drop n b (i + 1) (j + 1) (omega arith) in
    let r = byte_drop n b (i + 2) (j + 2) (omega arith) in
    let s = byte_drop n b (i + 3) (j + 3) (omega arith) in
    cc

-- ---- listed numbers

pub length_listed : (n : ℕ) (f : ℕ → ℕ) → length (listed n f) ≡ n
length_listed n f = length-map-range_with_len f 0 n

listed_at : (n : ℕ) (f : ℕ → ℕ) (i : ℕ) → i < n → get_or (listed n f) i 0 ≡ f i
listed_at n f i l = get_or-map-range_with_len f 0 n i i 0 l (omega arith)

listed_is : (n : ℕ) (f : ℕ → ℕ) (xs : List ℕ) → length xs ≡ n → ((i : ℕ) → i < n → f i ≡ get_or xs i 0) → listed n f ≡ xs
listed_is n f xs e h = sym (fill_by_all f xs n 0 e (λ i l. sym (h i l)))

-- ---- the four-byte numbers after a side

module _ (b : List ℕ) (m : ℕ) (size : length b ≡ 2 + 4 * m) where
  quarter : length (drop 2 b) / 4 ≡ m
  quarter = let e = length-drop 2 b in omega arith

  pub longs_count : length (longs (drop 2 b)) ≡ m
  longs_count = length_listed (length (drop 2 b) / 4) (λ i. long (drop 2 b) (4 * i)) ∙ quarter

  pub longs_at : (i : ℕ) → i < m → long b (2 + 4 * i) ≡ get_or (longs (drop 2 b)) i 0
  longs_at i l =
      let q = quarter in
      sym (listed_at (length (drop 2 b) / 4) (λ i. long (drop 2 b) (4 * i)) i (omega arith) ∙ long_drop 2 b (4 * i) (2 + 4 * i) refl)

  pub longs_are : (xs : List ℕ) → length xs ≡ m → ((i : ℕ) → i < m → long b (2 + 4 * i) ≡ get_or xs i 0) → longs (drop 2 b) ≡ xs
  longs_are xs e h =
      let q = quarter in
      listed_is (length (drop 2 b) / 4) (λ i. long (drop 2 b) (4 * i)) xs (omega arith)
      (λ i l. long_drop 2 b (4 * i) (2 + 4 * i) refl ∙ h i (omega arith))

-- ---- groups

module _ (b : List ℕ) (g k : ℕ) where
  pub groups_body : (s : ℕ) → length b ≡ 4 + 6 * g + 2 * k → word b 0 ≡ s → word b 2 ≡ g
      → GroupsBody s (parents_at g (drop 4 b)) (bounds_at g (drop 4 b)) (members_at k g (drop 4 b)) b
  groups_body s size es eg =
      let p : length (parents_at g (drop 4 b)) ≡ g = length_listed g (λ j. word (drop 4 b) (6 * j)) in
      let q : length (members_at k g (drop 4 b)) ≡ k = length_listed k (λ p. word (drop 4 b) (6 * g + 2 * p)) in
      record {
        size = omega arith;
        side = es;
        number = omega arith;
        parent_at = λ j l. sym (listed_at g (λ j. word (drop 4 b) (6 * j)) j (omega arith) ∙ word_drop 4 b (6 * j) (4 + 6 * j) refl);
        bound_at = λ j l.
            sym (listed_at g (λ j. long (drop 4 b) (6 * j + 2)) j (omega arith) ∙ long_drop 4 b (6 * j + 2) (6 + 6 * j) (omega arith));
        member_at = λ i l.
            sym (listed_at k (λ p. word (drop 4 b) (6 * g + 2 * p)) i (omega arith)
            ∙ word_drop 4 b (6 * g + 2 * i) (4 + 6 * length (parents_at g (drop 4 b)) + 2 * i) (omega arith));
      }

module _ (s : ℕ) (ps qs ms b : List ℕ) (r : GroupsBody s ps qs ms b) where
  pub parents_are : parents_at (length ps) (drop 4 b) ≡ ps
  parents_are =
      listed_is (length ps) (λ j. word (drop 4 b) (6 * j)) ps refl
      (λ j l. word_drop 4 b (6 * j) (4 + 6 * j) refl ∙ r.parent_at j l)

  pub bounds_are : length qs ≡ length ps → bounds_at (length ps) (drop 4 b) ≡ qs
  bounds_are e =
      listed_is (length ps) (λ j. long (drop 4 b) (6 * j + 2)) qs e
      (λ j l. long_drop 4 b (6 * j + 2) (6 + 6 * j) (omega arith) ∙ r.bound_at j l)

  pub members_are : members_at (length ms) (length ps) (drop 4 b) ≡ ms
  members_are =
      listed_is (length ms) (λ p. word (drop 4 b) (6 * length ps + 2 * p)) ms refl
      (λ p l. word_drop 4 b (6 * length ps + 2 * p) (4 + 6 * length ps + 2 * p) (omega arith) ∙ r.member_at p l)
