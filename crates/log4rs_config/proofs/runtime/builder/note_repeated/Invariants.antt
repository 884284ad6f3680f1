use Rattle.std.proofs.Common.{◌≡◌, ◌++◌, [], map, take}
use Rattle.log4rs_base.specs.Text.{Text}
use Rattle.log4rs_config.specs.Errors.{faults_of}
use Rattle.log4rs_config.specs.Faults.{repeats, RepeatedAppender}
use Rattle.log4rs_config.specs.Settings.{is_among}
use Rattle.log4rs_config.proofs.runtime.builder.note_repeated.Given as goal

-- the names so far are seen, and those that repeat are noted
abbrev pub invariant-loop-appender : goal.invariant-loop-appender
invariant-loop-appender g l =
    let names = map g.T.Named.name (take l.appender-index l.appenders) in
    ((other : Text) → is_among l.names other ≡ is_among names other)
    × (faults_of l.errors.items ≡ faults_of l.fn.errors.items ++ map (λ name. RepeatedAppender name) (repeats [] names))
