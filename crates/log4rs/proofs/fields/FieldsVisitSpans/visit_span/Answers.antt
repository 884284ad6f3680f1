use Rattle.log4rs.proofs.Putting.{puts_known_each}
use Rattle.log4rs.specs.declared.fields.Fields.{Fields}
use Rattle.log4rs.proofs.fields.FieldsVisitSpans.visit_span.Goals as goal

pub returns : goal.returns
returns g c = puts_known_each (λ (v : Fields). v.mdc) c.args.self.now c.visit.new.visitor (g.K.Source.pairs c.args.fields.now) c.visit.result c.visit.ensures
