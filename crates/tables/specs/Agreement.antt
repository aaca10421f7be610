-- Two meanings that no question tells apart.
use Rattle.std.specs.Prelude.{◌≡◌, ℕ, ◌^◌, ◌<◌, Bool}
use Rattle.floor.specs.Floor.{count}
use Rattle.floor.specs.Meaning.{Meaning}

-- the floors have the same stations, lanes, stock and despatch, the lanes have the same ends, and the sets of each side the same
-- caps; what is not on the floor does not matter
pub record Agrees (M N : Meaning) : Type 0 where
  pub stations : N.floor.stations ≡ M.floor.stations
  pub lanes : N.floor.lanes ≡ M.floor.lanes
  pub poles : (d : Bool) → N.floor.pole d ≡ M.floor.pole d
  pub ends : (d : Bool) (e : ℕ) → e < M.floor.lanes → N.floor.end d e ≡ M.floor.end d e
  pub caps : (d : Bool) (i X : ℕ) → i < M.floor.stations → X < 2 ^ count M.floor d i → N.cap d i X ≡ M.cap d i X
