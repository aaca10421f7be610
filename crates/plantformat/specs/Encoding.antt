-- How records are written as bytes: a relation between records and bytes, with no reader in it.
use Rattle.std.specs.Prelude.{◌≡◌, ℕ, ◌+◌, ◌*◌, ◌<◌, List, [], ◌∷◌, ◌++◌, length, drop, slice_index}
use Rattle.plantformat.specs.declared.Head.{Head}
use Rattle.plantformat.specs.declared.Lane.{Lane}
use Rattle.plantformat.specs.declared.Kind.{Kind}
use Rattle.plantformat.specs.declared.Kind.TheVariants as kind
use Rattle.plantformat.specs.Bytes.{word, long}
use Rattle.plantformat.specs.Records.{Limit, table, groups, grades}

-- the number of a kind of record
abbrev pub kind_number : Kind → ℕ
kind_number kind.Head = 1
kind_number kind.Lane = 2
kind_number kind.Table = 3
kind_number kind.Groups = 4
kind_number kind.Grades = 5

-- a record is its length in bytes (2), its kind (2) and its body
pub record RecordBytes (k : Kind) (body bs : List ℕ) : Type 0 where
  pub long_enough : length bs ≡ 4 + length body
  pub size : word bs 0 ≡ length bs
  pub kind : word bs 2 ≡ kind_number k
  pub body_after : drop 4 bs ≡ body

-- a head: stations (2), stock (2), despatch (2)
pub record HeadBody (h : Head) (b : List ℕ) : Type 0 where
  pub size : length b ≡ 6
  pub stations : word b 0 ≡ h.stations
  pub stock : word b 2 ≡ h.stock
  pub despatch : word b 4 ≡ h.despatch

-- a lane: from (2), to (2), own cap (4)
pub record LaneBody (l : Lane) (b : List ℕ) : Type 0 where
  pub size : length b ≡ 8
  pub from : word b 0 ≡ l.from
  pub to : word b 2 ≡ l.to
  pub own : long b 4 ≡ l.own

-- a table: side (2), then the caps (4) in order of set code
pub record TableBody (s : ℕ) (caps : List ℕ) (b : List ℕ) : Type 0 where
  pub size : length b ≡ 2 + 4 * length caps
  pub side : word b 0 ≡ s
  pub caps_at : (X : ℕ) → X < length caps → long b (2 + 4 * X) ≡ slice_index caps X

-- groups: side (2), their number (2), then for each group its parent (2) and bound (4), then the group (2) of each position
pub record GroupsBody (s : ℕ) (parents bounds members : List ℕ) (b : List ℕ) : Type 0 where
  pub size : length b ≡ 4 + 6 * length parents + 2 * length members
  pub side : word b 0 ≡ s
  pub number : word b 2 ≡ length parents
  pub parent_at : (j : ℕ) → j < length parents → word b (4 + 6 * j) ≡ slice_index parents j
  pub bound_at : (j : ℕ) → j < length parents → long b (6 + 6 * j) ≡ slice_index bounds j
  pub member_at : (p : ℕ) → p < length members → word b (4 + 6 * length parents + 2 * p) ≡ slice_index members p

-- grades: side (2), then the grades (4)
pub record GradesBody (s : ℕ) (steps : List ℕ) (b : List ℕ) : Type 0 where
  pub size : length b ≡ 2 + 4 * length steps
  pub side : word b 0 ≡ s
  pub step_at : (j : ℕ) → j < length steps → long b (2 + 4 * j) ≡ slice_index steps j

abbrev pub limit_kind : Limit → Kind
limit_kind (table s caps) = kind.Table
limit_kind (groups s parents bounds members) = kind.Groups
limit_kind (grades s steps) = kind.Grades

abbrev pub LimitBody : Limit → List ℕ → Type 0
LimitBody (table s caps) b = TableBody s caps b
LimitBody (groups s parents bounds members) b = GroupsBody s parents bounds members b
LimitBody (grades s steps) b = GradesBody s steps b

-- the bytes of a whole record
abbrev pub HeadBytes : Head → List ℕ → Type 0
HeadBytes h bs = (b : List ℕ) × RecordBytes kind.Head b bs × HeadBody h b

abbrev pub LaneBytes : Lane → List ℕ → Type 0
LaneBytes l bs = (b : List ℕ) × RecordBytes kind.Lane b bs × LaneBody l b

abbrev pub LimitBytes : Limit → List ℕ → Type 0
LimitBytes k bs = (b : List ℕ) × RecordBytes (limit_kind k) b bs × LimitBody k b

-- the bytes are those of the elements of a list, one after another
abbrev pub Row : {A : Type 0} → (A → List ℕ → Type 0) → List A → List ℕ → Type 0
Row Bytes [] bs = bs ≡ []
Row Bytes (x ∷ xs) bs = (front rest : List ℕ) × (bs ≡ front ++ rest) × Bytes x front × Row Bytes xs rest

-- a file is a head, then lanes, then limits
pub record Encodes (bs : List ℕ) (h : Head) (ls : List Lane) (ks : List Limit) : Type 0 where
  pub head_part : List ℕ
  pub lanes_part : List ℕ
  pub limits_part : List ℕ
  pub parts : bs ≡ head_part ++ (lanes_part ++ limits_part)
  pub head : HeadBytes h head_part
  pub lanes : Row LaneBytes ls lanes_part
  pub limits : Row LimitBytes ks limits_part
