-- A plant with closings or ceilings keeps the laws where the plant below does.
use Rattle.polymatroid.proofs.Layers.{closing_keeps, ceiling_keeps}
use Rattle.floor.specs.Numbers.{top_cap}
use Rattle.floor.specs.Floor.{side, count}
use Rattle.layers.specs.Meanings.{ClosingsKeepTheLaws, CeilingsKeepTheLaws}

pub closings_lawful : ClosingsKeepTheLaws
closings_lawful closed M l = record {
  rules = l.rules;
  laws = λ d i on. closing_keeps top_cap (count M.floor d i) (closed (side d i)) (M.cap d i) (l.laws d i on);
}

pub ceilings_lawful : CeilingsKeepTheLaws
ceilings_lawful top M l = record {
  rules = l.rules;
  laws = λ d i on. ceiling_keeps top_cap (count M.floor d i) (top (side d i)) (M.cap d i) (l.laws d i on);
}
