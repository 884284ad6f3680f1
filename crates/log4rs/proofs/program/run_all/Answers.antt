use Rattle.std.proofs.Common.{IfOk, slice_index_or, sym, subst, arith}
use Rattle.std.proofs.lemmas.Result.{IfOk-weaker}
use Rattle.log4rs.proofs.Answered.{answered}
use Rattle.log4rs.proofs.program.run_all.Goals as goal

pub returns : goal.returns
returns g c =
    let promises = g.P.Program.promises in
    let jobs = c.args.programs in
    let results = c.in_ok-results.results in
    let ran = c.in_ok-results.ensures in
    IfOk-weaker c.gathered.result _ _
    (λ answers. answered promises jobs.items results.items answers.items (omega (arith, jobs.ok, results.ok, ran.len))
    (λ i job result inside. let at = (ran.each i result (omega (arith, jobs.ok, inside))).1 in
    subst (λ j. IfOk (slice_index_or results.items i result) (promises j)) (sym (at.job_is job)) at.call.met))
    c.gathered.ensures
