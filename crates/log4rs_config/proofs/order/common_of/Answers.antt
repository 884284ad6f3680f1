use Rattle.std.proofs.Common.{◌<◌, arith, length, sym}
use Rattle.std.proofs.lemmas.List.{length-take-le}
use Rattle.log4rs_config.proofs.Alike.{entries-begin, entries-longest}
use Rattle.log4rs_config.proofs.Standings.{shared-within}
use Rattle.log4rs_config.proofs.order.common_of.Goals as goal

pub slice_bounds-result-end-2 : goal.slice_bounds-result-end-2
slice_bounds-result-end-2 g c =
    let (_, within) = shared-within c.key.result.now c.key-last.result.now c.compare_from-shared.result.1 c.compare_from-shared.ensures.shared in
    sym (length-take-le c.compare_from-shared.result.1 c.key-last.result.now within)

pub returns-clause-begins : goal.returns-clause-begins
returns-clause-begins g c =
    let some : 0 < length c.args.entries.now = grind (arith, c.is_empty.ensures, c.if-is_empty.false) in
    entries-begin g.T.Keyed.key c.args.entries.now c.index-entries-0.result c.index-entries-entries.result c.key.result.now c.key-last.result.now c.compare_from-shared.result.1 c.requires some
    c.index-entries-0.is c.index-entries-entries.is c.key.ensures c.key-last.ensures c.compare_from-shared.ensures.shared

pub returns-clause-longest : goal.returns-clause-longest
returns-clause-longest g c = λ text some all.
    let (_, within) = shared-within c.key.result.now c.key-last.result.now c.compare_from-shared.result.1 c.compare_from-shared.ensures.shared in
    let long = length-take-le c.compare_from-shared.result.1 c.key-last.result.now within in
    let less = entries-longest g.T.Keyed.key c.args.entries.now c.index-entries-0.result c.index-entries-entries.result c.key.result.now c.key-last.result.now text c.compare_from-shared.result.0 c.compare_from-shared.result.1 some
    c.index-entries-0.is c.index-entries-entries.is c.key.ensures c.key-last.ensures c.compare_from-shared.ensures.shared c.compare_from-shared.ensures.standing all in
    omega (arith, long, less)
