use Rattle.std.proofs.Common.{[], ap, ◌∙◌}
use Rattle.log4rs_append.specs.Sink.{items_sink}
use Rattle.guide.proofs.direct.two.memory.Goals as goal

pub returns : goal.returns
returns g c = c.new.ensures ∙ ap (λ t. items_sink t []) c.in_ok-encoder.ensures
