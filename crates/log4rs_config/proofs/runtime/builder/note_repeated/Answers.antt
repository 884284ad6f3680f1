use Rattle.std.proofs.Common.{◌≡◌, true, false, not, sym, ap, ◌∙◌, map, take, Vec, Global}
use Rattle.std.proofs.lemmas.List.{append-nil}
use Rattle.log4rs_base.specs.Text.{Text}
use Rattle.log4rs_config.specs.declared.runtime.error.ConfigError.{ConfigError}
use Rattle.log4rs_config.specs.Faults.{RepeatedAppender}
use Rattle.log4rs_config.specs.Errors.{faults_of}
use Rattle.log4rs_config.specs.Settings.{is_among}
use Rattle.log4rs_config.proofs.Noting.{noted_repeated, faults-push}
use Rattle.log4rs_config.proofs.Seen.{seen-more, turned}
use Rattle.log4rs_config.proofs.runtime.builder.note_repeated.Goals as goal
use Rattle.log4rs_config.proofs.runtime.builder.note_repeated.Goals.{then-not-branch+in_ok-from_str+in_ok-push, else-not-branch}

pub loop-appender-preserved : goal.loop-appender-preserved
loop-appender-preserved g c =
    let name = g.T.Named.name in
    let xs = c.args.appenders.now in
    let i = c.loop-appender.appender-index in
    let x = c.appender-item.result in
    let before = c.loop-appender.invariant in
    let fresh : c.in_ok-insert.field-0 ≡ not (is_among (map name (take i xs)) (name x)) =
    c.in_ok-insert.ensures.new ∙ ap not (before.0 c.name-name.result.now ∙ ap (is_among (map name (take i xs))) c.name-name.ensures) in (
      seen-more name xs i x c.loop-appender.names c.insert.new.self c.name-name.result.now c.loop-appender-test.true c.appender-item.is c.name-name.ensures before.0 c.in_ok-insert.ensures.names,
      elim c.if-not-branch.branch [
        | then-not-branch+in_ok-from_str+in_ok-push w ↦
            noted_repeated name xs i x true _ _ _ c.loop-appender-test.true c.appender-item.is (turned c.in_ok-insert.field-0 _ true fresh w.if-not-branch.true) before.1
            (ap (λ (v : Vec ConfigError Global). faults_of v.items) w.errors-is
            ∙ faults-push c.loop-appender.errors.items w.push.new.self.items _ (RepeatedAppender (name x)) w.in_ok-push.ensures.items
            (ap (λ (t : Text). RepeatedAppender t) (w.in_ok-from_str.ensures.ok ∙ c.name-name.ensures)))
        | else-not-branch w ↦
            noted_repeated name xs i x false _ _ _ c.loop-appender-test.true c.appender-item.is (turned c.in_ok-insert.field-0 _ false fresh w.if-not-branch.false) before.1
            (ap (λ (v : Vec ConfigError Global). faults_of v.items) w.errors-is ∙ sym (append-nil (faults_of c.loop-appender.errors.items)))
      ],
    )
