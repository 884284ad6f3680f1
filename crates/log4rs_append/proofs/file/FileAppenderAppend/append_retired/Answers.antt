use Rattle.std.proofs.Common.{rules, ◌+◌, length, refl, string_bytes}
use Rattle.log4rs_rolling.proofs.Costing.{costs_then, uncounted_makes}
use Rattle.log4rs_append.specs.Sink.{plain_reading}
use Rattle.log4rs_append.proofs.Rolling.{read_text}
use Rattle.log4rs_append.proofs.Spending.{costs_text}
use Rattle.log4rs_append.proofs.Filing.{behind_close, retired_adds, retired_gains}
use Rattle.log4rs_append.proofs.file.FileAppenderAppend.append_retired.Goals as goal

pub returns-clause-appended : goal.returns-clause-appended
returns-clause-appended g c =
    let disk = g.S.Store.disk in
    let self = c.args.self.now in
    let wrote = behind_close (string_bytes self.path) c.as_str.result.now c.bytes.result.now c.open_to_write-wrote.result (disk self.store) (disk c.open_to_write-wrote.new.store) (disk c.close.new.self) c.as_str.ensures.value c.open_to_write-wrote.ensures.added c.close.ensures.closed in
    record {
      gains = retired_gains (g.E.Encode.rendering self.encoder) c.args.«record».now c.args.context.now c.open_to_write-wrote.result (string_bytes self.path) (disk self.store) (disk c.close.new.self)
          c.bytes.result.now (rw c.bytes.ensures c.in_ok-encode.ensures.ok) wrote;
      fault = search rules;
      built_in = refl;
      rolled = tt;
    }

pub returns-clause-adds : goal.returns-clause-adds
returns-clause-adds g c =
    let disk = g.S.Store.disk in
    let self = c.args.self.now in
    retired_adds (g.E.Encode.rendering self.encoder) c.args.«record».now c.args.context.now c.open_to_write-wrote.result (string_bytes self.path) (disk self.store) (disk c.close.new.self)
    c.bytes.result.now (rw c.bytes.ensures c.in_ok-encode.ensures.ok)
    (behind_close (string_bytes self.path) c.as_str.result.now c.bytes.result.now c.open_to_write-wrote.result (disk self.store) (disk c.open_to_write-wrote.new.store) (disk c.close.new.self) c.as_str.ensures.value c.open_to_write-wrote.ensures.added c.close.ensures.closed)

pub returns-clause-cost : goal.returns-clause-cost
returns-clause-cost g c =
    let disk = g.S.Store.disk in
    let self = c.args.self.now in
    let told = g.E.Encode.rendering self.encoder in
    let wrote = c.open_to_write-wrote in
    costs_text (plain_reading told) c.args.«record».now c.args.context.now 1 wrote.result c.bytes.result.now (disk self.store) (disk c.close.new.self)
    (read_text told c.args.«record».now c.args.context.now c.bytes.result.now (rw c.bytes.ensures c.in_ok-encode.ensures.ok))
    (costs_then (1 + length c.bytes.result.now) wrote.result (disk self.store) (disk wrote.new.store) (disk c.close.new.self) wrote.ensures.cost
    (uncounted_makes _ _ c.close.ensures.closed.tells c.close.ensures.counted))
