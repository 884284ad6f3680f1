use Rattle.std.proofs.Common.{◌≡◌, fold, string_bytes}
use Rattle.std.specs.Path.{components_remaining}
use Rattle.log4rs_plans.specs.Written.{plain, with_part}
use Rattle.log4rs_plans.proofs.written_files.plain_path.Given as goal

abbrev pub invariant-loop-component : goal.invariant-loop-component
invariant-loop-component l =
    fold with_part (string_bytes l.text) (components_remaining l.component-iterator) ≡ plain l.fn.path
