use Rattle.std.proofs.Common.{◌≡◌, List, [], ◌∙◌, ap, refl, Bool, false, Option, Some}
use Rattle.log4rs_base.specs.declared.record.Record.{Record}
use Rattle.log4rs_base.specs.declared.record.Context.{Context}
use Rattle.log4rs_encode.specs.Runs.{Run}
use Rattle.log4rs_append.specs.Console.{Held, console_sink, held, may_write, refusals_on}
use Rattle.log4rs_append.specs.declared.console.memory.MemOut.{MemOut}
use Rattle.log4rs_append.specs.declared.console.console_out.ConsoleOut.TheVariants.{Memory}
use Rattle.guide.specs.Line.{line_runs}
use Rattle.guide.specs.Two.{empty_console}
use Rattle.guide.proofs.direct.two.console.Goals as goal

is_empty : (w : Bool) (t : Option (Record → Context → List Run)) (m : MemOut) → w ≡ false → t ≡ Some line_runs
    → held m ≡ record { bytes = []; refusals = 0; plan = [] } → console_sink (may_write w false) false t (Memory m) (refusals_on (Memory m) 0) ≡ empty_console
is_empty w t m e f g = rw (e, f, ap (λ (h : Held). h.bytes) g, ap (λ (h : Held). h.refusals) g) refl

pub returns : goal.returns
returns g c =
    let made = rw c.encoder-2.ensures.encoder at c.in_ok-console.ensures.encoder in
    c.in_ok-console.ensures.sink
    ∙ is_empty _ _ c.new.result (c.encoder-2.ensures.tty_only ∙ c.builder.ensures.tty_only) (made ∙ c.in_ok-encoder.ensures) c.new.ensures
