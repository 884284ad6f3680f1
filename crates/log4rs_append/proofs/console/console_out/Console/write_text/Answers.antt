use Rattle.std.proofs.Common.{◌∙◌}
use Rattle.log4rs_append.proofs.Writing.{more_written, within}
use Rattle.log4rs_append.specs.Console.{console_bytes}
use Rattle.log4rs_append.proofs.console.console_out.Console.write_text.Goals as goal

pub loop-done-preserved : goal.loop-done-preserved
loop-done-preserved c =
    let was = c.loop-done.invariant in
    let now = c.in_ok-done.ensures in
    let text = c.args.text.now in
    let i = c.loop-done.done in
    let n = c.in_ok-done.field-0 in (
      within text i n was.0 now.bound,
      more_written (console_bytes c.args.self.now.out) (console_bytes c.loop-done.self.out) (console_bytes c.write.new.self.out) text i n was.1 now.ok,
      now.count ∙ was.2,
    )
