use Rattle.std.proofs.Common.{◌≡◌, length}
use denote.Text.{Utf8}
use denote.Shadow.{shadow}
use Rattle.log4rs_base.specs.DateFormat.{format_items}
use Rattle.log4rs_base.specs.PartView.{parts_items}
use Rattle.log4rs_base.proofs.FormatFacts.{after}
use Rattle.log4rs_base.proofs.dates.format.DateFormat.parse.Given as goal

abbrev pub invariant-loop-literal : goal.invariant-loop-literal
invariant-loop-literal l = shadow (Utf8 l.rest) × (format_items l.format ≡ after (parts_items l.parts.items) (format_items l.rest))

abbrev pub decreases-loop-literal : goal.decreases-loop-literal
decreases-loop-literal l = length l.rest
