use Rattle.std.proofs.Common.{rules, ◌-◌, refl, Some}
use Rattle.log4rs_rolling.proofs.Stepping.{job_moves, job_rest, job_stepped}
use Rattle.log4rs_rolling.proofs.fixed_window.FixedWindowRoller.step_job.Goals as goal

pub returns-then-job-eq1-clause-stepped : goal.returns-then-job-eq1-clause-stepped
returns-then-job-eq1-clause-stepped g c =
    job_stepped c.args.self.now c.in-Some.job c.take.new.self c.as_str.result.now _ _ (search rules) (search rules) (search rules) (search rules) (search rules) (search rules) (search rules) c.as_str.ensures.value
    c.in_default-advance.ensures.renamed.ok c.advance.ensures.renamed.left

pub returns-clause-stepped : goal.returns-clause-stepped
returns-clause-stepped g c =
    let job = c.in-Some.job in
    job_stepped c.args.self.now job (Some (record { left = job.left - 1; waiting = job.waiting })) c.as_str.result.now _ _ (search rules) (search rules) (search rules) (search rules) (search rules) refl refl c.as_str.ensures.value
    c.in_default-advance.ensures.renamed.ok c.advance.ensures.renamed.left

pub returns-clause-moved : goal.returns-clause-moved
returns-clause-moved g c =
    let job = c.in-Some.job in
    job_moves c.args.self.now job (Some (record { left = job.left - 1; waiting = job.waiting })) c.as_str.result.now _ _ (search rules) (search rules) refl refl c.as_str.ensures.value c.in_default-advance.ensures.renamed.ok

pub returns-then-job-eq1-clause-rest : goal.returns-then-job-eq1-clause-rest
returns-then-job-eq1-clause-rest g c = job_rest c.args.self.now c.in-Some.job c.take.new.self (search rules) (search rules) (search rules) (search rules)

pub returns-clause-rest : goal.returns-clause-rest
returns-clause-rest g c =
    let job = c.in-Some.job in
    job_rest c.args.self.now job (Some (record { left = job.left - 1; waiting = job.waiting })) (search rules) (search rules) refl refl
