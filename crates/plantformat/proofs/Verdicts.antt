-- What a verdict says of its tests: if it is Ok then each test was passed, and if each test is passed then it goes on.
use Rattle.std.proofs.Common.{◌≡◌, ℕ, Bool, true, false, not, List, Ok, Err, Result, refl, ap, arith}
use Rattle.plantformat.specs.Judge.{onward, unless, with_rest}

-- a test that names a fault
pub unless_ok : {Y F : Type 0} (b : Bool) (e : F) (x : Result Y F) {y : Y} → unless b e x ≡ Ok y → (b ≡ false) × (x ≡ Ok y)
unless_ok true e x p = let z : ◌≡◌ {A = ℕ} 0 1 = cc in absurd (omega arith)
unless_ok false e x p = (refl, p)

-- a test that must pass
pub unless_not_ok : {Y F : Type 0} (b : Bool) (e : F) (x : Result Y F) {y : Y} → unless (not b) e x ≡ Ok y → (b ≡ true) × (x ≡ Ok y)
unless_not_ok true e x p = (refl, p)
unless_not_ok false e x p = let z : ◌≡◌ {A = ℕ} 0 1 = cc in absurd (omega arith)

pub unless_passed : {Y F : Type 0} (b : Bool) (e : F) (x : Result Y F) → b ≡ false → unless b e x ≡ x
unless_passed true e x p = let z : ◌≡◌ {A = ℕ} 0 1 = cc in absurd (omega arith)
unless_passed false e x p = refl

pub unless_not_passed : {Y F : Type 0} (b : Bool) (e : F) (x : Result Y F) → b ≡ true → unless (not b) e x ≡ x
unless_not_passed true e x p = refl
unless_not_passed false e x p = let z : ◌≡◌ {A = ℕ} 0 1 = cc in absurd (omega arith)

pub onward_ok : {X Y E F : Type 0} (wrap : E → F) (r : Result X E) (k : X → Result Y F) {y : Y} → onward wrap r k ≡ Ok y
    → (x : X) × (r ≡ Ok x) × (k x ≡ Ok y)
onward_ok wrap (Ok x) k p = (x, refl, p)
onward_ok wrap (Err e) k p = let z : ◌≡◌ {A = ℕ} 0 1 = cc in absurd (omega arith)

pub ok_same : {X E : Type 0} {x y : X} → ◌≡◌ {A = Result X E} (Ok x) (Ok y) → x ≡ y
ok_same p = cc

pub with_rest_ok : {X E : Type 0} (s : List ℕ) (r : Result X E) {x : X × List ℕ} → with_rest s r ≡ Ok x → (r ≡ Ok x.0) × (s ≡ x.1)
with_rest_ok {X} {E} s (Ok y) {x} p =
    let q : ◌≡◌ {A = X × List ℕ} (y, s) x = ok_same {E = E} p in
    (ap {B = Result X E} (λ t. Ok t.0) q, ap (λ (t : X × List ℕ). t.1) q)
with_rest_ok s (Err e) p = let z : ◌≡◌ {A = ℕ} 0 1 = cc in absurd (omega arith)
