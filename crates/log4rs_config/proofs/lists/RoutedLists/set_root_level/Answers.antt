use Rattle.log4rs_config.proofs.Settled.{releveled}
use Rattle.log4rs_config.proofs.lists.RoutedLists.set_root_level.Goals as goal

pub invariant_of-self : goal.invariant_of-self
invariant_of-self c =
    let (accepted, routed) = c.self.invariant in
    rw (c.set_level.ensures, c.set_root_level.ensures) (
      releveled _ c.args.level accepted,
      record {
        agrees = λ _. routed.agrees_with c.args.level accepted;
        agrees_with = λ level _. routed.agrees_with level accepted;
        governors = λ _. routed.governors accepted;
        size = routed.size;
      },
    )
