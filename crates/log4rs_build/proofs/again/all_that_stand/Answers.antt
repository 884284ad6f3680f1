use Rattle.log4rs_build.proofs.Histories.{all_stand, only_asked, only_more}
use Rattle.log4rs_build.proofs.again.all_that_stand.Goals as goal

pub returns-in_err-shared_appenders-clause-replies : goal.returns-in_err-shared_appenders-clause-replies
returns-in_err-shared_appenders-clause-replies g c =
    let s = c.in_ok-still.ensures.ok in
    only_asked _ _ _ _ _ s.0 s.1 s.2 c.in_err-shared_appenders.ensures.err

pub returns-then-do_all_stand-clause-stand : goal.returns-then-do_all_stand-clause-stand
returns-then-do_all_stand-clause-stand g c =
    let s = c.in_ok-still.ensures.ok in
    let all = c.do_all_stand.ensures.0 c.if-do_all_stand.true in
    all_stand _ _ _ _ _ c.in_ok-shared_appenders.field-0.items _ _ _ _ _ s.0 c.deref.ensures.value c.deref-2.ensures.value c.deref-3.ensures.value
    s.1 s.2 c.in_ok-shared_appenders.ensures.ok c.leaving_of-leaving.ensures all.0 all.1 all.2

pub returns-then-do_all_stand-clause-replies : goal.returns-then-do_all_stand-clause-replies
returns-then-do_all_stand-clause-replies g c =
    let s = c.in_ok-still.ensures.ok in
    only_more _ _ _ _ _ s.0 _ s.1 s.2 c.in_ok-shared_appenders.ensures.ok tt

pub returns-clause-replies : goal.returns-clause-replies
returns-clause-replies g c =
    let s = c.in_ok-still.ensures.ok in
    only_more _ _ _ _ _ s.0 _ s.1 s.2 c.in_ok-shared_appenders.ensures.ok tt
