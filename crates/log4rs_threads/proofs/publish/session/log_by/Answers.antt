use Rattle.std.proofs.Common.{[]}
use Rattle.log4rs_threads.proofs.publish.session.log_by.Goals as goal

pub returns-in-Ok-delivered-clause-delivered : goal.returns-in-Ok-delivered-clause-delivered
returns-in-Ok-delivered-clause-delivered g c =
    let noted = c.in-Ok-delivered.ensures.delivered [] c.new-answers.ensures in
    let route = c.route_by-limit.ensures in
    rw (noted.2, c.leave-subscriber.ensures) (rw (route.level, route.places, c.deref.ensures, c.appenders-locked.ensures) at noted.1)
