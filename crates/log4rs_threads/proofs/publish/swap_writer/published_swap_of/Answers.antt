use Rattle.std.proofs.Common.{◌∙◌, ap, None, Some}
use Rattle.std.specs.List.{last_or}
use Rattle.log4rs_threads.proofs.Adding.{last_behind}
use Rattle.log4rs_threads.proofs.publish.swap_writer.published_swap_of.Goals as goal

pub invariant_of-result : goal.invariant_of-result
invariant_of-result c =
    let told = c.told.ensures ∙ c.publish.ensures in
    record {
      last = ap (λ t. last_or None t.swaps) told ∙ (last_behind None c.args.history.now.swaps c.deref.result.now ∙ ap Some c.deref.ensures);
    }
