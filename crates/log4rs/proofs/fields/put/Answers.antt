use Rattle.log4rs.proofs.Putting.{puts_known}
use Rattle.log4rs.proofs.fields.put.Goals as goal

pub returns : goal.returns
returns g c =
    puts_known c.args.mdc.now c.insert.new.self c.in_ok-key.key c.in_ok-text.text c.args.key.now _ c.in_ok-key.ensures.ok c.in_ok-text.ensures.ok c.in_ok-insert.ensures.updates
