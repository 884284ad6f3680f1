use Rattle.std.proofs.Common.{◌≡◌, ◌-◌, ◌≤◌, length, take}
use Rattle.std.specs.Io.KnownBytes.{append_known}
use Rattle.log4rs_append.specs.Console.{console_bytes, refusals_of}
use Rattle.log4rs_append.proofs.console.console_out.Console.write_text.Given as goal

abbrev pub decreases-loop-done : goal.decreases-loop-done
decreases-loop-done l = length l.text - l.done

abbrev pub invariant-loop-done : goal.invariant-loop-done
invariant-loop-done l =
    (l.done ≤ length l.text) × (console_bytes l.self.out ≡ append_known (console_bytes l.fn.self.out) (take l.done l.text)) × (refusals_of l.self ≡ refusals_of l.fn.self)
