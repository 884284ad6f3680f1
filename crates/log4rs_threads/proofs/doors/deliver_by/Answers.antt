use Rattle.std.proofs.Common.{◌≡◌, ◌++◌, MatchResult, rules, subst}
use Rattle.log4rs_config.specs.Builder.{admits_of}
use Rattle.log4rs_config.specs.Routing.{let_through}
use Rattle.log4rs_threads.specs.Steps.{AreDeliveries}
use Rattle.log4rs_threads.proofs.Delivering.{still_told, told_by}
use Rattle.log4rs_threads.proofs.doors.deliver_by.Goals as goal

pub returns-clause-tells : goal.returns-clause-tells
returns-clause-tells g c = λ t.
    let doors = g.D.Doors in
    subst doors.tells (search rules) (still_told (λ to. doors.tells to.doors.now) (λ to. doors.steps to.doors.now) c.args.logged.now c.args.context.now _ (λ at o old new one. one)
    c.deliver.result _ _ _ _ c.deliver.new.to c.deliver.ensures.delivered c.deliver.ensures.err t)

pub returns-clause-delivered : goal.returns-clause-delivered
returns-clause-delivered g c = λ before noted.
    let doors = g.D.Doors in
    let places = let_through c.args.limit c.args.places.now (admits_of g.F.Filter.answer c.args.appenders.now c.args.logged.now) c.args.logged.now.level in
    subst (λ last. MatchResult c.deliver.result
    (λ _. (made : _) × AreDeliveries places c.args.logged.now c.args.context.now (doors.tells c.args.doors.now) (doors.steps c.args.doors.now) (doors.steps last) made × g.N.NoteDeliveries.noted c.deliver.new.notes (before ++ made))
    (λ _. (doors.tells c.args.doors.now → doors.steps last ≡ doors.steps c.args.doors.now) × g.N.NoteDeliveries.noted c.deliver.new.notes before)) (search rules)
    (told_by (λ to. doors.tells to.doors.now) (λ to. doors.steps to.doors.now) c.args.logged.now c.args.context.now _ (λ at o old new one. one)
    c.deliver.result _ _ _ _ _ _ c.deliver.new.to c.deliver.ensures.delivered c.deliver.ensures.err (λ made told. told before noted) (λ e told. told before noted))
