use Rattle.std.proofs.Common.{◌≡◌, length, chars}
use Rattle.std.specs.List.{list_all}
use denote.Text.{Utf8}
use denote.Shadow.{shadow}
use Rattle.log4rs_base.specs.Names.{may_follow}
use Rattle.log4rs_base.proofs.paths.env.all_follow.Given as goal

abbrev pub invariant-loop-c : goal.invariant-loop-c
invariant-loop-c l = shadow (Utf8 l.rest) × (list_all may_follow (chars l.text) ≡ list_all may_follow (chars l.rest))

abbrev pub decreases-loop-c : goal.decreases-loop-c
decreases-loop-c l = length l.rest
