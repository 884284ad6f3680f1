use Rattle.std.proofs.Common.{rules, string_bytes}
use Rattle.log4rs_base.proofs.FormatFacts.{flat_map-literals}
use Rattle.log4rs_base.proofs.dates.format.Part.push.Goals as goal

pub returns-in_ok-push_str-in-Literal : goal.returns-in_ok-push_str-in-Literal
returns-in_ok-push_str-in-Literal c =
    rw (c.in-Literal.is, flat_map-literals c.args.clock.now (string_bytes c.in-Literal.text)) (search rules)
