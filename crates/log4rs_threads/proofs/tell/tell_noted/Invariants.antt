use Rattle.std.proofs.Common.{◌≡◌, ◌++◌, take, map, Some}
use Rattle.log4rs_threads.proofs.tell.tell_noted.Given as goal

-- the faults so far were told
abbrev pub invariant-loop-error : goal.invariant-loop-error
invariant-loop-error g l =
    (failed : _) → l.errors ≡ map Some failed → (faults : _)
    → g.T.TellFault.told l.fn.teller faults → g.T.TellFault.told l.teller (faults ++ take l.error-index l.errors)
