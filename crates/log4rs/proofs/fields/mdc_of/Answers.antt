use Rattle.std.proofs.Common.{rules}
use Rattle.log4rs.proofs.Putting.{holds_all}
use Rattle.log4rs.specs.declared.fields.Fields.{Fields}
use Rattle.log4rs.proofs.fields.mdc_of.Goals as goal

pub returns : goal.returns
returns g c =
    holds_all (λ (v : Fields). v.mdc) (record { alloc = c.args.alloc; mdc = c.new.result }) c.visit.new.visitor c.visit-2.new.visitor (g.S.Spans.scopes c.args.spans.now) (g.K.Source.pairs c.args.pairs.now) c.new.ensures.empty (search rules) (search rules)
