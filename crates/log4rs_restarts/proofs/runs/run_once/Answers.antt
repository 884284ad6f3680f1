use Rattle.std.proofs.Common.{List, ℕ, ◌≡◌, ◌∙◌, refl, ap, sym, subst, string_bytes, rules}
use Rattle.log4rs_rolling.specs.Roller.{kept_by, kept_anew}
use Rattle.log4rs_restarts.specs.Failures.{AreRefused}
use Rattle.log4rs_restarts.specs.Triggers.{Begins}
use Rattle.log4rs_restarts.proofs.Reporting.{nothing_reported, once_reported}
use Rattle.log4rs_rolling.specs.Keeping.{Keeping}
use Rattle.log4rs_restarts.specs.ActsDone.{DidRun}
use Rattle.log4rs_restarts.specs.declared.run.Act.{Act}
use Rattle.log4rs_restarts.proofs.Did.{did_starts}
use Rattle.log4rs_append.specs.Sink.{plain_reading}
use Rattle.log4rs_restarts.proofs.runs.run_once.Goals as goal

pub returns-in_default-clause-reported : goal.returns-in_default-clause-reported
returns-in_default-clause-reported g c =
    nothing_reported (AreRefused c.args.settings.now.trigger) (plain_reading (g.E.Encode.rendering c.args.encoder.now)) c.args.run.now.stop_after c.args.run.now.acts.items _ _ (g.S.Store.disk c.args.store) refl c.requires.outcomes c.requires.answers c.requires.counts c.in_default.ensures.refused

pub returns-in_default-clone-clause-reported : goal.returns-in_default-clone-clause-reported
returns-in_default-clone-clause-reported g c =
    nothing_reported (AreRefused c.args.settings.now.trigger) (plain_reading (g.E.Encode.rendering c.args.encoder.now)) c.args.run.now.stop_after c.args.run.now.acts.items _ _ (g.S.Store.disk c.args.store) refl c.requires.outcomes c.requires.answers c.requires.counts tt

pub returns-in_default-again-clause-reported : goal.returns-in_default-again-clause-reported
returns-in_default-again-clause-reported g c =
    nothing_reported (AreRefused c.args.settings.now.trigger) (plain_reading (g.E.Encode.rendering c.args.encoder.now)) c.args.run.now.stop_after c.args.run.now.acts.items _ _ (g.S.Store.disk c.args.store) refl c.requires.outcomes c.requires.answers c.requires.counts tt

pub returns-clause-reported : goal.returns-clause-reported
returns-clause-reported g c =
    let disk = g.S.Store.disk in
    once_reported (AreRefused c.args.settings.now.trigger) (plain_reading (g.E.Encode.rendering c.args.encoder.now)) c.args.run.now.stop_after c.args.run.now.acts.items c.as_slice.result.now c.run_by-left.new.report (disk c.args.store) (disk c.run_by-left.result) c.as_slice.ensures.value c.run_by-left.ensures.reported

pub returns-clause-did : goal.returns-clause-did
returns-clause-did g c =
    let disk = g.S.Store.disk in
    let policy = c.new-policy.result in
    let settings = c.args.settings.now in
    let run = c.args.run.now in
    let reading = plain_reading (g.E.Encode.rendering c.args.encoder.now) in
    let report = c.run_by-left.new.report in
    let d0 = disk c.args.store in
    let d1 = disk c.run_by-left.result in
    let k = kept_anew settings.roller in
    let same : kept_by policy.roller ≡ k = ap (λ r. kept_by r) c.new-policy.ensures.roller ∙ c.in-Ok-again.ensures.kept in
    let path : string_bytes c.in-Ok-clone.path ≡ string_bytes settings.path = search rules in
    subst (λ (acts : List Act). DidRun (Begins settings.trigger) reading k (string_bytes settings.path) run.stop_after acts report d0 d1) c.as_slice.ensures.value
    (subst (λ (p : List ℕ). DidRun (Begins settings.trigger) reading k p run.stop_after c.as_slice.result.now report d0 d1) path
    (subst (λ (x : Keeping). DidRun (Begins settings.trigger) reading x (string_bytes c.in-Ok-clone.path) run.stop_after c.as_slice.result.now report d0 d1) same
    (did_starts (λ t. t ≡ policy.trigger.trigger) (Begins settings.trigger) reading (kept_by policy.roller) (string_bytes c.in-Ok-clone.path) run.stop_after c.as_slice.result.now report d0 d1
    (λ t is. subst (Begins settings.trigger) (sym (is ∙ ap (λ n. n.trigger) c.new-policy.ensures.trigger ∙ c.new.ensures.trigger)) c.in-Ok.ensures.begins) c.run_by-left.ensures.did)))
