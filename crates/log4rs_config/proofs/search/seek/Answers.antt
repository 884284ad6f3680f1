use Rattle.std.proofs.Common.{◌∙◌, ap, length, min}
use Rattle.log4rs_base.specs.Text.{Text}
use Rattle.log4rs_config.specs.Digests.{digest_of}
use Rattle.log4rs_config.specs.Standing.{tokens}
use Rattle.log4rs_config.proofs.Narrowed.{drop-within}
use Rattle.log4rs_config.proofs.search.seek.Goals as goal

pub seek_on-requires-clause-wanted : goal.seek_on-requires-clause-wanted
seek_on-requires-clause-wanted g c =
    c.digest_behind-wanted.ensures.value
    ∙ ap (λ (t : Text). digest_of 6 (tokens t)) (drop-within (length c.args.looked.now.digests.now.common.items) c.min.result c.args.target.now
    (c.min.ensures ∙ ap (λ (t : Text). min (length t) (length c.args.target.now)) c.common.ensures))
