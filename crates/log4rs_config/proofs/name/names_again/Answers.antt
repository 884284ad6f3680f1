use Rattle.log4rs_config.proofs.Copied.{if_ok, same_texts}
use Rattle.log4rs_config.proofs.name.names_again.Goals as goal

pub returns : goal.returns
returns c = if_ok c.clone.result _ _ _ (λ made all. same_texts c.args.names.now.items made.items all.0) c.clone.ensures.cases
