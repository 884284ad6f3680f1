use Rattle.std.proofs.Common.{Some}
use Rattle.log4rs_encode.specs.Runs.{plain_bytes}
use Rattle.log4rs_encode.proofs.Written.{Has}
use Rattle.log4rs_encode.proofs.writer.simple.push_plain.Given as goal

abbrev pub invariant-loop-run : goal.invariant-loop-run
invariant-loop-run l = Has plain_bytes (Some l.fn.out.items) (Some l.out.items) l.run-iterator l.styled
