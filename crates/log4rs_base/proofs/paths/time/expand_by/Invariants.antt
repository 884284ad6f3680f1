use Rattle.std.proofs.Common.{◌≡◌, ◌++◌, length, string_bytes}
use denote.Text.{Utf8}
use denote.Shadow.{shadow}
use Rattle.log4rs_base.specs.Times.{times_from, date_by}
use Rattle.log4rs_base.proofs.paths.time.expand_by.Given as goal

abbrev pub invariant-loop-left : goal.invariant-loop-left
invariant-loop-left l =
    shadow (Utf8 l.rest)
    × (times_from (date_by l.clock) 5 0 l.path ≡ string_bytes l.text ++ times_from (date_by l.clock) l.left 0 l.rest)

abbrev pub decreases-loop-left : goal.decreases-loop-left
decreases-loop-left l = length l.rest
