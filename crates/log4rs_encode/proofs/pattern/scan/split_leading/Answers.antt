use Rattle.std.proofs.Common.{ap, ◌∙◌}
use Rattle.std.specs.Str.{chars}
use Rattle.log4rs_encode.proofs.Scanned.{cut_before}
use Rattle.log4rs_encode.proofs.pattern.scan.split_leading.Goals as goal

pub split_at-requires : goal.split_at-requires
split_at-requires c = (cut_before _ _ _ c.skip-rest.ensures.front c.skip-rest.utf8).boundary

pub returns-clause-front : goal.returns-clause-front
returns-clause-front c = c.split_at.ensures.front ∙ (cut_before _ _ _ c.skip-rest.ensures.front c.skip-rest.utf8).front_is

pub returns-clause-rest : goal.returns-clause-rest
returns-clause-rest c =
    ap chars (c.split_at.ensures.back ∙ (cut_before _ _ _ c.skip-rest.ensures.front c.skip-rest.utf8).rest_is) ∙ c.skip-rest.ensures.rest
