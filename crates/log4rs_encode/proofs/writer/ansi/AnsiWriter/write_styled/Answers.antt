use Rattle.log4rs_encode.specs.Runs.{run_of}
use Rattle.log4rs_encode.proofs.Written.{ansi_more, all_ansi}
use Rattle.log4rs_encode.proofs.writer.ansi.AnsiWriter.write_styled.Goals as goal

pub loop-run-preserved : goal.loop-run-preserved
loop-run-preserved g c =
    ansi_more (g.W.Write.contents c.args.self.now.0) (g.W.Write.contents c.loop-run.self.0) (g.W.Write.contents c.write_run.new.self.0) c.loop-run.run-iterator c.next.new.self
    c.args.styled.now (run_of c.in-Some.run') c.in-Some.ensures.steps c.loop-run.invariant c.in_ok-write_run.ensures

pub returns : goal.returns
returns g c =
    all_ansi (g.W.Write.contents c.args.self.now.0) (g.W.Write.contents c.loop-run.self.0) c.loop-run.run-iterator c.args.styled.now c.in-None.ensures.steps.0 c.loop-run.invariant
