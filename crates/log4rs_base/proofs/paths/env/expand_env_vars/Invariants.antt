use Rattle.std.proofs.Common.{◌≡◌, ◌++◌, length, string_bytes}
use denote.Text.{Utf8}
use denote.Shadow.{shadow}
use Rattle.log4rs_base.specs.Names.{names_from, value_in}
use Rattle.log4rs_base.proofs.paths.env.expand_env_vars.Given as goal

abbrev pub invariant-loop-before : goal.invariant-loop-before
invariant-loop-before l =
    shadow (Utf8 l.rest)
    × (names_from (value_in l.env) 0 l.path ≡ string_bytes l.text ++ names_from (value_in l.env) 0 l.rest)

abbrev pub decreases-loop-before : goal.decreases-loop-before
decreases-loop-before l = length l.rest
