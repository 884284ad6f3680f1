use Rattle.std.proofs.Common.{Some, ◌≡◌, ◌+◌, arith, ap, ◌∙◌}
use Rattle.std.specs.Result.{result_ok}
use Rattle.log4rs_encode.specs.Runs.{run_of}
use Rattle.log4rs_encode.specs.Fit.{cells, width}
use Rattle.log4rs_encode.proofs.Cells.{width-cons, cells_whole}
use Rattle.log4rs_encode.proofs.pattern.fit.width.Goals as goal

pub loop-run-preserved : goal.loop-run-preserved
loop-run-preserved c =
    let step = ap (λ rs. width (cells rs)) c.in-Some.ensures.steps ∙ width-cons (run_of c.in-Some.run') c.next.new.self in
    let now = c.run_width.ensures in
    let seen : c.checked_add.result ≡ Some c.in_ok-width.width = c.ok_or.ensures.ok_part ∙ ap result_ok c.in_ok-width.was in
    let sum : c.in_ok-width.width ≡ c.loop-run.width + c.run_width.result = grind (arith, seen, c.checked_add.ensures) in
    omega (arith, step, now, sum, c.loop-run.invariant)

pub returns-in_err-width-clause-whole : goal.returns-in_err-width-clause-whole
returns-in_err-width-clause-whole c = cells_whole c.args.styled.now c.runs-run-items.ensures.whole c.runs-run-items.ensures.joined

pub returns-clause-whole : goal.returns-clause-whole
returns-clause-whole c = cells_whole c.args.styled.now c.runs-run-items.ensures.whole c.runs-run-items.ensures.joined
