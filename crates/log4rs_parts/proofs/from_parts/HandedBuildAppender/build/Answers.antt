use Rattle.std.proofs.Common.{rules}
use Rattle.log4rs_parts.proofs.Behind.{with_other_filters}
use Rattle.log4rs_parts.proofs.from_parts.HandedBuildAppender.build.Goals as goal

pub returns-clause-built : goal.returns-clause-built
returns-clause-built g c = (
  record {
    named = search rules;
    filters = search rules;
    behind = rw (c.build.ensures.appender) (with_other_filters _ _ _ _ _ _ _ _ _ _ _ _ _ c.in_ok-appender.ensures.made);
  },
  search rules,
)
