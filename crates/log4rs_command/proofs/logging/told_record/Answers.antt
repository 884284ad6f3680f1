use Rattle.log4rs_command.proofs.RecordLemmas.{record_of_line}
use Rattle.log4rs_command.proofs.logging.told_record.Goals as goal

pub returns : goal.returns
returns c bytes says =
    record_of_line bytes c.args.line.now.level c.args.line.now.target.now c.args.line.now.message.now c.in_ok-target.target c.in_ok-message.message
    c.new.result says c.in_ok-target.ensures.ok c.in_ok-message.ensures.ok c.new.ensures
