-- A floor that keeps the rules has few stations.
use Rattle.std.proofs.Common.{◌≡◌, ◌≤◌, true, List}
use Rattle.floor.specs.Numbers.{most_stations}
use Rattle.plantformat.specs.declared.Head.{Head}
use Rattle.plantformat.specs.declared.Lane.{Lane}
use Rattle.plantformat.specs.Records.{Limit}
use Rattle.plantformat.specs.Rules.{keeps}
use Rattle.plantformat.proofs.Tests.{keeps_rules}

pub stations_few : (h : Head) (ls : List Lane) (ks : List Limit) → keeps h ls ks ≡ true → h.stations ≤ most_stations
stations_few h ls ks kept = (keeps_rules h ls ks kept).head.few_stations
