use Rattle.std.proofs.Common.{All, take}
use Rattle.log4rs_build.specs.Keeping.{planned}
use Rattle.log4rs_build.specs.Leaving.{IsConsoleAs}
use Rattle.log4rs_build.proofs.in_force.is_console.Given as goal

-- none so far has the name and is a console
abbrev pub invariant-loop-appender : goal.invariant-loop-appender
invariant-loop-appender g l =
    All (λ a. ¬ IsConsoleAs l.name (planned a)) (take l.appender-index l.in_force)
