use Rattle.std.proofs.Common.{◌≡◌, ◌∷◌, [], map, ◌∙◌}
use Rattle.log4rs_config.specs.Holder.{presents}
use Rattle.log4rs_build.specs.Retiring.{leaving_appender}
use Rattle.log4rs_build.proofs.Histories.{on_err, only_asked, only_more, happened_then}
use Rattle.log4rs_build.proofs.in_force.retire.Goals as goal

pub returns-in_err-shared_appenders-clause-err : goal.returns-in_err-shared_appenders-clause-err
returns-in_err-shared_appenders-clause-err g c =
    let s = c.in_ok-still.ensures.ok in
    on_err c.from_residual-in_err-shared_appenders.result (only_asked _ _ _ _ _ s.0 s.1 s.2 c.in_err-shared_appenders.ensures.err)

pub returns-in_err-leaving-clause-err : goal.returns-in_err-leaving-clause-err
returns-in_err-leaving-clause-err g c =
    let s = c.in_ok-still.ensures.ok in
    on_err c.from_residual-in_err-leaving.result (only_more _ _ _ _ _ s.0 _ s.1 s.2 c.in_ok-shared_appenders.ensures.ok tt)

pub returns-clause-ok : goal.returns-clause-ok
returns-clause-ok g c =
    let s = c.in_ok-still.ensures.ok in
    let present = c.in_ok-shared_appenders.field-0.items in
    let all : map leaving_appender c.retire_all.new.leavers.items ≡ c.leaving_of-leaving.result.items = c.retire_all.ensures.stay ∙ c.in_ok-leaving.ensures in
    let stay = c.retire_all.ensures.stay in
    record {
      answers = s.0;
      present = present;
      stands = s.1;
      leaves = λ one. rw all (rw c.deref.ensures.value at (c.leaving_of-leaving.ensures one));
      happened = rw stay (happened_then _ _ _ s.0 _ s.2 (happened_then _ _ _ (presents present ∷ []) _ c.in_ok-shared_appenders.ensures.ok c.retire_all.ensures.happened));
    }
