use Rattle.std.proofs.Common.{Some}
use Rattle.log4rs_base.specs.declared.record.Context.{Context}
use Rattle.log4rs_base.specs.declared.record.Record.{Record}
use Rattle.log4rs_encode.specs.Runs.{join}
use Rattle.log4rs_encode.specs.View.{pieces_view}
use Rattle.log4rs_encode.proofs.pattern.PatternEncoder.new.Goals as goal

pub returns : goal.returns
returns c = record {
  pieces = pieces_view c.in_ok-pieces.pieces.items;
  spelled = c.in_ok-pieces.ensures;
  renders = λ i. Some (λ (r : Record) (k : Context). join ((rw c.as_slice.ensures.value at c.in_ok-chunks.ensures) r k i));
}
