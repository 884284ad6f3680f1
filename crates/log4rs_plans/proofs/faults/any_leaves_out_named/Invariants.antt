use Rattle.std.proofs.Common.{All, take}
use Rattle.log4rs_plans.specs.Outcomes.{LeavesOut, error_of}
use Rattle.log4rs_plans.proofs.faults.any_leaves_out_named.Given as goal

-- none so far leaves it out
abbrev pub invariant-loop-error : goal.invariant-loop-error
invariant-loop-error l =
    All (λ e. ¬ LeavesOut l.name (error_of e)) (take l.error-index l.errors)
