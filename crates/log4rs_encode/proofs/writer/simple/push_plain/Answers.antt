use Rattle.std.proofs.Common.{Some}
use Rattle.log4rs_encode.specs.Runs.{run_of}
use Rattle.log4rs_encode.proofs.Written.{plain_more, all_plain}
use Rattle.log4rs_encode.proofs.writer.simple.push_plain.Goals as goal

pub loop-run-preserved : goal.loop-run-preserved
loop-run-preserved c =
    plain_more (Some c.args.out.now.items) (Some c.loop-run.out.items) (Some c.push_plain_run.new.out.items) c.loop-run.run-iterator c.next.new.self c.args.styled.now
    (run_of c.in-Some.run') c.in-Some.ensures.steps c.loop-run.invariant c.in_ok-push_plain_run.ensures

pub returns : goal.returns
returns c = all_plain (Some c.args.out.now.items) (Some c.loop-run.out.items) c.loop-run.run-iterator c.args.styled.now c.in-None.ensures.steps.0 c.loop-run.invariant
