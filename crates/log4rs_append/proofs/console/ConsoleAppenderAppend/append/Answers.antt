use Rattle.std.proofs.Common.{rules}
use Rattle.log4rs_append.proofs.Writing.{held_back}
use Rattle.log4rs_append.proofs.console.ConsoleAppenderAppend.append.Goals as goal

pub returns-in_err-flush-clause-appended : goal.returns-in_err-flush-clause-appended
returns-in_err-flush-clause-appended g c =
    record {
      gains = held_back (g.E.Encode.rendering c.args.self.now.encoder) c.args.self.now.writes c.args.self.now.color c.args.«record».now c.args.context.now c.from_residual-in_err-flush.result
          _ _ _ c.bytes.result.now c.from_residual-in_err-flush.ensures.0 c.if-not-self.false (rw c.bytes.ensures c.in_ok-encode.ensures.ok) c.in_ok-write_text.ensures.ok c.in_err-flush.ensures.written;
      fault = search rules;
      built_in = search rules;
      rolled = tt;
      plain = tt;
    }
