use Rattle.std.proofs.Common.{arith}
use Rattle.std.proofs.lemmas.Result.{on_ok_weaker}
use Rattle.log4rs_encode.proofs.Cells.{pushed_cell}
use Rattle.log4rs_encode.proofs.pattern.fit.Window.cluster.Goals as goal

pub returns : goal.returns
returns c = on_ok_weaker c.push_text.result (λ is. pushed_cell c.args.kept.now c.push_text.new.self c.args.self.now.skip c.args.self.now.keep c.args.piece.now is (omega arith) (omega arith)) c.push_text.ensures.ok
