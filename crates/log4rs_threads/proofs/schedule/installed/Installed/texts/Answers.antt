use Rattle.std.proofs.Common.{◌∙◌, ap, sym, List}
use Rattle.std.proofs.lemmas.Option.{slice_get-get_or}
use Rattle.std.specs.Prelude.{slice_get, Some}
use Rattle.log4rs_config.specs.Builder.{appenders_of}
use Rattle.log4rs_threads.specs.Held.{items_in, memory_sink}
use Rattle.log4rs_threads.proofs.Shaping.{BuiltAppender, items_are}
use Rattle.log4rs_threads.proofs.schedule.installed.Installed.texts.Goals as goal

pub returns : goal.returns
returns c =
    let found = c.in_ok-appender.ensures.lookup in
    let k = c.in_ok-appender.appender.now in
    let at = ap (λ (ks : List BuiltAppender). slice_get ks c.args.at) (sym (c.appenders.ensures ∙ ap (λ config. appenders_of config) c.config.ensures.value)) ∙ (slice_get-get_or c.appenders.result.now c.args.at k found.3.0 ∙ ap Some (sym found.1)) in
    items_are c.args.self.now.core.config c.args.at k _ at (c.records.ensures ∙ ap (λ a. items_in (memory_sink a).texts) c.appender.ensures)
