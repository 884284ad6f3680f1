use Rattle.std.proofs.Common.{◌≡◌, ◌++◌, [], map, take}
use Rattle.log4rs_base.specs.Text.{Text}
use Rattle.log4rs_config.specs.Errors.{faults_of}
use Rattle.log4rs_config.specs.Faults.{repeats, unknown, loggers_faults, RepeatedAppender, UnknownAppender}
use Rattle.log4rs_config.specs.Settings.{is_among}
use Rattle.log4rs_config.proofs.runtime.builder.faults_in.Given as goal

-- the names so far are seen, and their loggers' faults noted, after those of the appenders and the root
abbrev pub invariant-loop-logger : goal.invariant-loop-logger
invariant-loop-logger g l =
    let names = map g.T.Named.name l.appenders in
    let so_far = take l.logger-index l.loggers in
    ((other : Text) → is_among l.earlier other ≡ is_among (map (λ x. x.name) so_far) other)
    × (faults_of l.errors.items
    ≡ (map (λ name. RepeatedAppender name) (repeats [] names) ++ map (λ name. UnknownAppender name) (unknown names l.root.appenders))
    ++ loggers_faults names [] so_far)
