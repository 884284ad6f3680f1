use Rattle.log4rs_append.proofs.Filing.{bytes_begun}
use Rattle.log4rs_append.proofs.file.builder.open_at.Goals as goal

pub returns-in-Ok-clause-bytes : goal.returns-in-Ok-clause-bytes
returns-in-Ok-clause-bytes g c =
    let disk = g.S.Store.disk in
    bytes_begun (disk c.args.store.now) (disk c.make_parent.new.store) (disk c.open.new.self) c.args.how c.args.path.now c.in_ok-make_parent.ensures.ok c.in-Ok.ensures.ok
