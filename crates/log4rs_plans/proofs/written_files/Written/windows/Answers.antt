use Rattle.std.proofs.Common.{[], ◌∷◌, append-nil, ap, map, option_map, sym, ◌∙◌, arith, Option}
use Rattle.std.proofs.lemmas.List.{map-append}
use Rattle.std.specs.Option.{option_to_list}
use Rattle.log4rs_settings.specs.Plan.{Window as Planned}
use Rattle.log4rs_plans.specs.Written.{window_in, window_of}
use Rattle.log4rs_plans.proofs.Listing.{one_more_place}
use Rattle.log4rs_plans.proofs.written_files.Written.windows.Goals.{in-Some+in_ok-window+in_ok-push, in_default}
use Rattle.log4rs_plans.proofs.written_files.Written.windows.Goals as goal

pub loop-appender-preserved : goal.loop-appender-preserved
loop-appender-preserved c =
    let plans = c.args.self.now.plans.now in
    let at = c.loop-appender.appender in
    let keeps = λ (k : Option Planned). option_to_list (option_map (window_in c.args.self.now.env.now at) k) in
    elim c.match-window_of.branch [
      | in-Some+in_ok-window+in_ok-push w ↦
          one_more_place _ _ plans at _ [] _ _ _ (omega arith) c.index-self-appender.is c.loop-appender.invariant
          (rw (w.windows-is, w.in_ok-push.ensures.items) (map-append window_of c.loop-appender.windows.items _))
          (ap (λ x. x ∷ []) w.in_ok-window.ensures ∙ ap keeps (rw (← c.index-self-appender.is) at w.in-Some.ensures))
      | in_default w ↦
          one_more_place _ _ plans at _ [] _ _ _ (omega arith) c.index-self-appender.is c.loop-appender.invariant
          (rw w.windows-is (sym (append-nil (map window_of c.loop-appender.windows.items)))) (ap keeps (rw (← c.index-self-appender.is) at w.in_default.ensures))
    ]
