use Rattle.std.proofs.Common.{rules, ◌≡◌, ◌∙◌, ◌||◌, true, false, refl, sym, ap, is_some, option_map, Some}
use Rattle.log4rs_settings.specs.Reload.{state_of}
use Rattle.log4rs_build.specs.Rereading.{reader_of}
use Rattle.log4rs_build.proofs.config_file.ConfigFile+S+M+DeserializersWith+P+R.begin.Goals.{in-Some, in-None}
use Rattle.log4rs_build.proofs.config_file.ConfigFile+S+M+DeserializersWith+P+R.begin.Goals.{then-rolls_in_background, else-rolls_in_background}
use Rattle.log4rs_build.proofs.config_file.ConfigFile+S+M+DeserializersWith+P+R.begin.Goals as goal

pub returns-after-rolls_in_background-clause-ok : goal.returns-after-rolls_in_background-clause-ok
returns-after-rolls_in_background-clause-ok g c =
    let loads = rw c.as_str-named.ensures.value at c.in-Ok.ensures.ok in
    let again : option_map reader_of c.match-reloader.rereading ≡ option_map state_of c.in-Ok.loaded.reloader =
    elim c.match-reloader.branch [
      | in-Some w ↦ rw (w.rereading-is, w.in-Some.is) (ap Some w.new.ensures.reader)
      | in-None w ↦ rw (w.rereading-is, w.in-None.is) refl
    ] in (
      c.load_file.new.deserializers,
      g.S.ConfigSource.answers c.load_file.new.source,
      c.in-Ok.loaded.built.appender_errors,
      c.in-Ok.loaded.built.config_errors,
      rw again (rw c.tell-config.ensures loads),
      c.leave_out-left_out.ensures,
    )

pub returns-after-rolls_in_background-clause-steps : goal.returns-after-rolls_in_background-clause-steps
returns-after-rolls_in_background-clause-steps g c =
    let rolls = rw c.as_str-named.ensures.value at c.in-Ok.ensures.rolls in
    let again : option_map reader_of c.match-reloader.rereading ≡ option_map state_of c.in-Ok.loaded.reloader =
    elim c.match-reloader.branch [
      | in-Some w ↦ rw (w.rereading-is, w.in-Some.is) (ap Some w.new.ensures.reader)
      | in-None w ↦ rw (w.rereading-is, w.in-None.is) refl
    ] in (
      rolls.0,
      g.S.ConfigSource.answers c.load_file.new.source,
      rw again rolls.1,
      elim c.if-rolls_in_background.branch [
        | then-rolls_in_background w ↦
            let yes : c.in-Ok.loaded.rolls_in_background ≡ true = search rules in
            w.result-is ∙ yes ∙ sym (ap (λ b. b || is_some c.match-reloader.rereading) (sym rolls.2 ∙ yes))
        | else-rolls_in_background w ↦
            let no : c.in-Ok.loaded.rolls_in_background ≡ false = search rules in
            let again : c.if-rolls_in_background.result ≡ is_some c.match-reloader.rereading = search rules in
            again ∙ sym (ap (λ b. b || is_some c.match-reloader.rereading) (sym rolls.2 ∙ no))
      ],
    )
