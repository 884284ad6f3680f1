use Rattle.log4rs_encode.specs.Ansi.{ansi_bytes}
use Rattle.log4rs_encode.proofs.Written.{Has}
use Rattle.log4rs_encode.proofs.writer.ansi.AnsiWriter.write_styled.Given as goal

abbrev pub invariant-loop-run : goal.invariant-loop-run
invariant-loop-run g l = Has ansi_bytes (g.W.Write.contents l.fn.self.0) (g.W.Write.contents l.self.0) l.run-iterator l.styled
