use Rattle.std.proofs.Common.{◌∙◌, ap}
use Rattle.std.proofs.Math.Seq.{map-set_same}
use Rattle.std.proofs.lemmas.Result.{on_ok_weaker}
use Rattle.log4rs_threads.specs.declared.schedule.installed.Installed.{Installed}
use Rattle.log4rs_threads.specs.declared.schedule.shape.Shape.{Shape}
use Rattle.log4rs_threads.proofs.Placing.{in_size, placed}
use Rattle.log4rs_threads.proofs.schedule.state.append.Goals as goal

pub returns-clause-shapes : goal.returns-clause-shapes
returns-clause-shapes c =
    let shape : Installed → Shape = λ x. x.shape.value in
    map-set_same shape _ _ _ c.index_mut-installed.result.now (c.append.ensures.shape ∙ ap shape c.index_mut-installed.ensures.value)

pub returns-clause-texts : goal.returns-clause-texts
returns-clause-texts c =
    let all = c.args.all.now.items in
    on_ok_weaker c.append.result
    (λ more. placed all c.args.shape c.args.place c.args.entry.now c.index_mut-installed.result.now c.append.new.self (in_size all c.args.shape c.args.place c.requires) c.index_mut-installed.ensures.value more)
    c.append.ensures.texts
