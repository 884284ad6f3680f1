use Rattle.log4rs_threads.proofs.Looking.{looks}
use Rattle.log4rs_threads.proofs.publish.subscriber.Subscriber.enter.Goals as goal

pub enter_as-requires : goal.enter_as-requires
enter_as-requires g c = looks _ _
