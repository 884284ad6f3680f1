-- Consoles in contracts.
use Rattle.std.specs.Prelude.{ℕ, List, [], drop, Bool, not, ◌||◌, Option, Some, None, is_some}
use Rattle.std.specs.Prelude.{if◌then◌else◌, option_map}
use Rattle.log4rs_base.specs.declared.record.Record.{Record}
use Rattle.log4rs_base.specs.declared.record.Context.{Context}
use Rattle.log4rs_rolling.specs.declared.store.Planned.{Planned}
use Rattle.log4rs_encode.specs.Runs.{Run}
use Rattle.log4rs_append.specs.Texts.{shown_bytes}
use Rattle.log4rs_append.specs.Sink.{Reading, Sink, bytes_of}
use Rattle.log4rs_append.specs.declared.console.memory.MemOut.{MemOut}
use Rattle.log4rs_append.specs.declared.console.console_out.Console.{Console}
use Rattle.log4rs_append.specs.declared.console.console_out.ConsoleOut.{ConsoleOut}
use Rattle.log4rs_append.specs.declared.console.console_out.ConsoleOut.TheVariants.{Std, Memory}
use Rattle.std.specs.declared.io.Stdout.{Stdout}
use Rattle.std.specs.declared.io.Stderr.{Stderr}
use Rattle.log4rs_append.specs.declared.console.ConsoleAppender.{ConsoleAppender}
use Rattle.log4rs_append.specs.declared.console.builder.ConsoleAppenderBuilder.{ConsoleAppenderBuilder}
use Rattle.log4rs_base.specs.declared.target.Target.{Target}
use Rattle.log4rs_encode.specs.declared.writer.standard.StdWriter.TheVariants as streams
use Rattle.log4rs_base.specs.declared.target.Target.TheVariants as targets

-- a console in memory: what it holds, how many writes and flushes were refused,
-- and what is planned for the next ones
pub record Held : Type 0 where
  pub bytes : List ℕ
  pub refusals : ℕ
  pub plan : List Planned

abbrev pub held : MemOut → Held
held m = record { bytes = m.bytes.items; refusals = m.refusals; plan = drop m.next m.plan.items }

-- the bytes that were written to where a console writes, if they are told
abbrev pub console_bytes : ConsoleOut → Option (List ℕ)
console_bytes (Std writer) = None
console_bytes (Memory m) = Some (held m).bytes

-- how many writes and flushes were refused: of a standard stream, the console counts them
abbrev pub refusals_on : ConsoleOut → ℕ → ℕ
refusals_on (Std writer) counted = counted
refusals_on (Memory m) counted = (held m).refusals

abbrev pub refusals_of : Console → ℕ
refusals_of c = refusals_on c.out c.counted

-- the text of a record on a console: nothing if the console may not write
abbrev pub console_reading : Bool → Bool → Option (Record → Context → List Run) → Option Reading
console_reading writes color rendering =
    if writes then option_map (λ runs r c. shown_bytes color (runs r c)) rendering
    else Some (λ r c. [])

-- the sink of a console appender: whether it writes and shows colors, what its encoder renders,
-- where it writes, and how many writes and flushes were refused
abbrev pub console_sink : Bool → Bool → Option (Record → Context → List Run) → ConsoleOut → ℕ → Sink
console_sink writes color rendering out refusals =
    record {
      texts = bytes_of (console_reading writes color rendering) (console_bytes out);
      is_built_in = is_some rendering;
      refusals = refusals;
      rolled = None;
      plain = None;
    }

-- whether a console may write, which writes only to terminals or to all
abbrev pub may_write : Bool → Bool → Bool
may_write tty_only tty = tty || not tty_only

-- where it writes
abbrev pub out_of : {E : Type 0} → ConsoleAppender E → ConsoleOut
out_of a = a.console.out

abbrev pub encoder_of : {E : Type 0} → ConsoleAppender E → E
encoder_of a = a.encoder

abbrev pub shows_colors : {E : Type 0} → ConsoleAppender E → Bool
shows_colors a = a.color

abbrev pub is_writing : {E : Type 0} → ConsoleAppender E → Bool
is_writing a = a.writes

-- the settings of the builder
abbrev pub maker_of : {M : Type 0} → ConsoleAppenderBuilder M → M
maker_of b = b.encoder

abbrev pub target_of : {M : Type 0} → ConsoleAppenderBuilder M → Target
target_of b = b.target

abbrev pub tty_only_of : {M : Type 0} → ConsoleAppenderBuilder M → Bool
tty_only_of b = b.tty_only

-- the stream of a target
abbrev pub stream_of : Target → Stdout → Stderr → ConsoleOut
stream_of targets.Stdout stdout stderr = Std (streams.Stdout stdout)
stream_of targets.Stderr stdout stderr = Std (streams.Stderr stderr)
