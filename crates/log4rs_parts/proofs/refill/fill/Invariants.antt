use Rattle.std.proofs.Common.{map, take}
use Rattle.log4rs_parts.specs.Refilled.{Fills}
use Rattle.log4rs_parts.specs.NamedParts.{entry}
use Rattle.log4rs_parts.specs.Waits.{waits_in}
use Rattle.log4rs_parts.proofs.refill.fill.Given as goal

abbrev pub invariant-loop-named : goal.invariant-loop-named
invariant-loop-named g l = Fills g.P.PartMaker.Makes (map entry (take l.named-index l.named-items)) (waits_in l.fn.handed) (waits_in l.handed)
