use Rattle.log4rs_command.proofs.configuration.memory.Goals as goal

pub returns : goal.returns
returns g c = (_, c.in_ok-encoder.ensures, c.new-2.ensures)
