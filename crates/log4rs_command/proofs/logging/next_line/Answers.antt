use Rattle.std.proofs.Common.{◌≡◌, length, arith}
use Rattle.log4rs_command.proofs.InputLemmas.{Takes-stripped, Takes-whole}
use Rattle.log4rs_command.proofs.logging.next_line.Goals as goal

pub returns-then-index-eq10-clause-line : goal.returns-then-index-eq10-clause-line
returns-then-index-eq10-clause-line g c there =
    let held = c.read_until.new.buf in
    let long : length held.items ≡ c.in_ok-len.len = omega (arith, held.ok.0, c.in_ok-len.ensures.ok, c.clear.ensures.len) in
    Takes-stripped held.items c.in_ok-len.len c.index.result.now long c.index.ensures _ _ c.clear.new.self.items c.truncate.new.self.items
    c.clear.ensures.items c.in_ok-len.ensures.bytes c.in_ok-len.ensures.rest c.if-len-eq0.false c.if-index-eq10.true c.truncate.ensures.items

pub returns-else-index-eq10-clause-line : goal.returns-else-index-eq10-clause-line
returns-else-index-eq10-clause-line g c there =
    let held = c.read_until.new.buf in
    let long : length held.items ≡ c.in_ok-len.len = omega (arith, held.ok.0, c.in_ok-len.ensures.ok, c.clear.ensures.len) in
    Takes-whole held.items c.in_ok-len.len c.index.result.now long c.index.ensures _ _ c.clear.new.self.items
    c.clear.ensures.items c.in_ok-len.ensures.bytes c.in_ok-len.ensures.rest c.if-len-eq0.false c.if-index-eq10.false
