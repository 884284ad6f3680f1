use Rattle.std.proofs.Common.{◌≡◌, ◌++◌, map, take, string_bytes}
use Rattle.log4rs_config.specs.Errors.{faults_of}
use Rattle.log4rs_config.specs.Faults.{unknown, UnknownAppender}
use Rattle.log4rs_config.proofs.runtime.builder.note_unknown.Given as goal

-- the unknown names so far are noted
abbrev pub invariant-loop-name : goal.invariant-loop-name
invariant-loop-name l =
    faults_of l.errors.items
    ≡ faults_of l.fn.errors.items ++ map (λ name. UnknownAppender name) (unknown l.known (map (λ s. string_bytes s) (take l.name-index l.names)))
