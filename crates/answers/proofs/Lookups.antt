-- Looking up the limit of a side among those that were read.
use Rattle.std.proofs.Common.{◌≡◌, ℕ, Bool, true, false, cond, eqb, List, [], ◌∷◌, map, Some, None, Option, refl, ap, ◌∙◌}
use denote.Ref.{Bor}
use Rattle.std.specs.List.{find}
use Rattle.std.specs.Option.{option_map, option_copied}
use Rattle.plantformat.specs.Records as format
use Rattle.plantformat.specs.Records.{side_of, limit_of}
use Rattle.limits.specs.Told.{told}
use Rattle.limits.specs.declared.Limit.{Limit}
use Rattle.answers.specs.Answers.{limit_seen}

-- the first limit that is for the side
found_is : (s : ℕ) (ks : List Limit) → limit_seen (find (λ k. eqb (side_of (told k)) s) ks) ≡ limit_of s (map told ks)
found_is s [] = refl
found_is s (k ∷ ks) = by (find (λ k. eqb (side_of (told k)) s) ks) (limit_of s (map told ks)) (eqb (side_of (told k)) s) (found_is s ks)
  where
    by : (o : Option Limit) (p : Option format.Limit) (b : Bool) → limit_seen o ≡ p → limit_seen (cond b (Some k) o) ≡ cond b (Some (told k)) p
    by o p true e = refl
    by o p false e = e

-- the same of a limit that was found behind a reference, and copied
pub copied_is : (s : ℕ) (ks : List Limit) (o : Option (Bor Limit)) → option_map (λ x. x.now) o ≡ find (λ k. eqb (side_of (told k)) s) ks
    → limit_seen (option_copied o) ≡ limit_of s (map told ks)
copied_is s ks None e = ap limit_seen e ∙ found_is s ks
copied_is s ks (Some k) e = ap limit_seen e ∙ found_is s ks
