use Rattle.std.proofs.Common.{sym, ap, ◌∙◌, arith}
use Rattle.std.specs.Str.{bytes_eq}
use Rattle.log4rs_config.proofs.Walks.{place-next}
use Rattle.log4rs_config.proofs.routes.place_of_name.Goals as goal

pub returns-then-eq : goal.returns-then-eq
returns-then-eq g c =
    let p = place-next g.A.Named.name c.args.appenders.now c.loop-i.i _ c.index-appenders-i.result c.args.name.now _ c.loop-i-test.true c.index-appenders-i.is
    (ap (bytes_eq c.args.name.now) (sym c.name.ensures) ∙ (sym c.eq.ensures ∙ c.if-eq.true)) c.loop-i.invariant.1 in omega arith

pub loop-i-preserved : goal.loop-i-preserved
loop-i-preserved g c =
    let p = place-next g.A.Named.name c.args.appenders.now c.loop-i.i _ c.index-appenders-i.result c.args.name.now _ c.loop-i-test.true c.index-appenders-i.is
    (ap (bytes_eq c.args.name.now) (sym c.name.ensures) ∙ (sym c.eq.ensures ∙ c.if-eq.false)) c.loop-i.invariant.1 in (omega arith, omega arith)
