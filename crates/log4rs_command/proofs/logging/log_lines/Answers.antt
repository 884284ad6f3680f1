use Rattle.std.proofs.Common.{[], ◌∷◌, ◌++◌}
use Rattle.std.specs.Option.{option_map}
use Rattle.log4rs_command.specs.Arguments.{plain_of}
use Rattle.log4rs_command.proofs.EachLineLemmas.{LogsLines-none, LogsLines-more}
use Rattle.log4rs_command.proofs.TakenLemmas.{Takes-none, Takes-more, Takes-all}
use Rattle.log4rs_command.proofs.logging.log_lines.Goals as goal

pub loop-number-init : goal.loop-number-init
loop-number-init g c = record { context = c.in_ok-context.ensures; logs = ([], Takes-none _, LogsLines-none g.L.LogRecords.logs (option_map plain_of c.args.plain) _) }

pub returns-then-not-branch : goal.returns-then-not-branch
returns-then-not-branch g c =
    let so_far = c.loop-number.invariant.logs in
    (so_far.0, Takes-all _ _ so_far.0 so_far.1 (c.in_ok-next_line.ensures.done c.if-not-branch.true), so_far.2)

pub loop-number-preserved : goal.loop-number-preserved
loop-number-preserved g c =
    let before = c.loop-number.invariant in
    let now = c.in_ok-line.ensures in
    let taken = rw (← c.deref.ensures.value) at (c.in_ok-next_line.ensures.line c.if-not-branch.false) in
    let more = LogsLines-more g.L.LogRecords.logs _ before.logs.0 c.deref.result.now _ _ _ _ _ _ c.and-all.ensures before.logs.2 now.logs in
    record { context = now.context; logs = (before.logs.0 ++ (c.deref.result.now ∷ []), Takes-more _ _ _ _ _ before.logs.1 taken, more) }
