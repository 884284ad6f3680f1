use Rattle.std.proofs.Common.{ap, refl, string_bytes}
use Rattle.log4rs_rolling.specs.declared.store.Open.TheVariants.{Append}
use Rattle.log4rs_append.specs.Sink.{bytes_of, plain_reading}
use Rattle.log4rs_append.proofs.Filing.{bytes_opened_at}
use Rattle.log4rs_append.proofs.file.FileAppenderSteps.resume.Goals as goal

pub returns-in-Ok-clause-texts : goal.returns-in-Ok-clause-texts
returns-in-Ok-clause-texts g c =
    let disk = g.S.Store.disk in
    let self = c.args.self.now in
    (ap (bytes_of (plain_reading (g.E.Encode.rendering self.encoder))) (bytes_opened_at (disk self.store) (disk c.open.new.self) Append (string_bytes self.path) c.as_str.result.now c.as_str.ensures.value c.in-Ok.ensures.ok), refl)
