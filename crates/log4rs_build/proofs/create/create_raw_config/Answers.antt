use Rattle.std.proofs.Common.{true≢false, sym, ap, ◌∙◌}
use Rattle.std.proofs.lemmas.Result.{err_from_is_err_and}
use Rattle.log4rs_config.specs.Faults.{faults}
use Rattle.log4rs_build.specs.Raw.{asked_by}
use Rattle.log4rs_build.proofs.Creating.{given, created, build_refused}
use Rattle.log4rs_build.proofs.create.create_raw_config.Goals as goal

pub returns-then-not-is_empty-clause-created : goal.returns-then-not-is_empty-clause-created
returns-then-not-is_empty-clause-created g c =
    (c.in_ok-appenders.appenders.items, c.in_ok-appenders.ensures.built, λ e. true≢false (sym (c.is_empty.ensures.1 e) ∙ c.if-not-is_empty.true))

pub returns-in_err-build-clause-created : goal.returns-in_err-build-clause-created
returns-in_err-build-clause-created g c =
    let p = err_from_is_err_and c.from_residual-in_err-build.result c.from_residual-in_err-build.ensures.1 in
    let appenders = c.in_ok-appenders.appenders.items in
    let same = given (asked_by c.args.config) c.in_ok-builder.builder c.in_ok-root.field-0 appenders
    c.in_ok-builder.ensures.appenders (rw c.deref.ensures.value at c.in_ok-builder.ensures.loggers) c.in_ok-root.ensures in
    rw (p.1, p.2) (build_refused _ (asked_by c.args.config) appenders c.in_ok-appenders.errors c.in_ok-appenders.ensures.built
    (c.is_empty.ensures.0 c.if-not-is_empty.false) _ c.in_err-build.field-0.0 same c.in_err-build.ensures.errors)

pub returns-clause-created : goal.returns-clause-created
returns-clause-created g c =
    let appenders = c.in_ok-appenders.appenders.items in
    let same = given (asked_by c.args.config) c.in_ok-builder.builder c.in_ok-root.field-0 appenders
    c.in_ok-builder.ensures.appenders (rw c.deref.ensures.value at c.in_ok-builder.ensures.loggers) c.in_ok-root.ensures in
    created _ (asked_by c.args.config) appenders c.in_ok-appenders.errors c.in_ok-appenders.ensures.built
    (c.is_empty.ensures.0 c.if-not-is_empty.false) c.in_ok-build.field-0
    (c.in_ok-build.ensures.appenders ∙ c.in_ok-builder.ensures.appenders) (c.in_ok-build.ensures.settings ∙ same) (sym (ap faults same) ∙ c.in_ok-build.ensures.faultless)
