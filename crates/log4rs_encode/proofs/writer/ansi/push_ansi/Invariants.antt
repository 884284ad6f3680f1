use Rattle.std.proofs.Common.{Some}
use Rattle.log4rs_encode.specs.Ansi.{ansi_bytes}
use Rattle.log4rs_encode.proofs.Written.{Has}
use Rattle.log4rs_encode.proofs.writer.ansi.push_ansi.Given as goal

abbrev pub invariant-loop-run : goal.invariant-loop-run
invariant-loop-run l = Has ansi_bytes (Some l.fn.out.items) (Some l.out.items) l.run-iterator l.styled
