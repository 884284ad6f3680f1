use Rattle.std.proofs.Common.{◌+◌, ◌≤◌, arith, length, refl, rules, string_bytes, Ok, Err}
use Rattle.log4rs_rolling.proofs.Costing.{makes_within}
use Rattle.log4rs_append.specs.Sink.{plain_reading}
use Rattle.log4rs_append.proofs.Rolling.{read_text}
use Rattle.log4rs_append.proofs.Spending.{costs_text}
use Rattle.log4rs_base.specs.declared.error.LogError.TheVariants.{Store}
use Rattle.log4rs_append.proofs.Filing.{part_written, whole_written}
use Rattle.log4rs_append.proofs.file.FileAppenderAppend.append.Goals as goal

pub returns-then-write_bytes-text-clause-appended : goal.returns-then-write_bytes-text-clause-appended
returns-then-write_bytes-text-clause-appended g c =
    let disk = g.S.Store.disk in
    let self = c.args.self.now in
    let told = g.E.Encode.rendering self.encoder in
    let text = read_text told c.args.«record».now c.args.context.now c.bytes-text.result.now (rw c.bytes-text.ensures c.in_ok-encode.ensures.ok) in
    let wrote = c.write_bytes.ensures.cost in
    record {
      gains = part_written (g.E.Encode.rendering self.encoder) c.args.«record».now c.args.context.now Store (string_bytes self.path) (disk self.store) (disk c.write_bytes.new.store)
          c.bytes-text.result.now c.write_bytes.result (rw c.bytes-text.ensures c.in_ok-encode.ensures.ok) self.opens c.write_bytes.ensures.written c.write_bytes.ensures.shut;
      fault = search rules;
      built_in = search rules;
      rolled = tt;
      plain = record {
        path = refl;
        reading = refl;
        writes = search rules;
        opened = c.write_bytes.ensures.opened;
        cost = λ some. costs_text (plain_reading told) c.args.«record».now c.args.context.now 0 (Err Store) c.bytes-text.result.now (disk self.store) (disk c.write_bytes.new.store) text
            (record { made = makes_within _ (0 + length c.bytes-text.result.now) _ _ wrote.made (omega arith); cause = λ tells store. wrote.cause tells some c.if-write_bytes-text.true });
      };
    }

pub returns-clause-appended : goal.returns-clause-appended
returns-clause-appended g c =
    let disk = g.S.Store.disk in
    let self = c.args.self.now in
    let told = g.E.Encode.rendering self.encoder in
    let text = read_text told c.args.«record».now c.args.context.now c.bytes-text.result.now (rw c.bytes-text.ensures c.in_ok-encode.ensures.ok) in
    let wrote = c.write_bytes.ensures.cost in
    record {
      gains = whole_written (g.E.Encode.rendering self.encoder) c.args.«record».now c.args.context.now tt (string_bytes self.path) (disk self.store) (disk c.write_bytes.new.store)
          c.bytes-text.result.now c.write_bytes.result (rw c.bytes-text.ensures c.in_ok-encode.ensures.ok) self.opens c.write_bytes.ensures.written c.write_bytes.ensures.shut c.if-write_bytes-text.false;
      fault = search rules;
      built_in = search rules;
      rolled = tt;
      plain = record {
        path = refl;
        reading = refl;
        writes = search rules;
        opened = c.write_bytes.ensures.opened;
        cost = λ some. costs_text (plain_reading told) c.args.«record».now c.args.context.now 0 (Ok tt) c.bytes-text.result.now (disk self.store) (disk c.write_bytes.new.store) text
            (record { made = makes_within _ (0 + length c.bytes-text.result.now) _ _ wrote.made (omega arith); cause = λ tells. tt });
      };
    }
