use Rattle.std.proofs.Common.{List, ℕ, length, string_bytes, sym, subst, refl}
use Rattle.std.proofs.Math.Logic.{∥∥₁_map}
use Rattle.log4rs_rolling.specs.SinceOpening.{GoodSince}
use Rattle.log4rs_rolling.proofs.Appending.{later_on}
use Rattle.log4rs_rolling.proofs.Retiring.{adds_some, all_appends, closed_agrees, some_calls, since_appended}
use Rattle.log4rs_append.specs.Sink.{plain_reading}
use Rattle.log4rs_append.proofs.Rolled.{same_names}
use Rattle.log4rs_append.proofs.Rolling.{read_text, refusal_may, retired_texts, since_gains}
use Rattle.log4rs_append.proofs.Spending.{costs_text}
use Rattle.log4rs_append.proofs.rolling_file.RollingFileAppenderAppend.append_retired.Goals as goal

pub invariant_of-self-2 : goal.invariant_of-self-2
invariant_of-self-2 g c =
    let disk = g.S.Store.disk in
    let self = c.args.self.now in
    let keeping = g.P.Keep.keeping in
    let path = string_bytes self.log.path in
    let settings = keeping self.settings.value in
    let k = keeping self.policy in
    let opening = disk self.opened.value in
    let d0 = disk self.store in
    let d1 = disk c.write_closed.new.store in
    let closed = c.write_closed.ensures.closed in
    record {
      known = closed_agrees _ d1 closed;
      good = ∥∥₁_map self.good (λ (since : GoodSince settings k path self.append opening d0).
          subst (λ (p : List ℕ). GoodSince settings k p self.append opening d1) (sym c.write_closed.ensures.path)
          (since_appended settings k path self.append opening d0 d1 self.names (all_appends path _ _ d0 d1 c.write_closed.ensures.added) since));
      later = later_on (length opening.changes) d0 d1 self.later (some_calls d0 d1 _ c.write_closed.ensures.added);
      names = self.names;
    }

pub returns-clause-adds : goal.returns-clause-adds
returns-clause-adds g c =
    let self = c.args.self.now in
    let told = g.E.Encode.rendering self.encoder in
    adds_some (plain_reading told) c.args.«record».now c.args.context.now (string_bytes self.log.path) c.bytes.result.now c.write_closed.result
    (g.S.Store.disk self.store) (g.S.Store.disk c.write_closed.new.store)
    (read_text told c.args.«record».now c.args.context.now c.bytes.result.now (rw c.bytes.ensures c.in_ok-encode.ensures.ok)) c.write_closed.ensures.added

pub returns-clause-appended : goal.returns-clause-appended
returns-clause-appended g c =
    let self = c.args.self.now in
    let disk = g.S.Store.disk in
    let k = g.P.Keep.keeping self.policy in
    let told = g.E.Encode.rendering self.encoder in
    let path = string_bytes self.log.path in
    let opening = disk self.opened.value in
    let d0 = disk self.store in
    let d1 = disk c.write_closed.new.store in
    let adds = returns-clause-adds g c in
    record {
      gains = since_gains (plain_reading told) (plain_reading told) c.args.«record».now c.args.context.now c.write_closed.result k.is_built_in k.is_built_in path _ opening opening d0 d1
          refl refl c.write_closed.ensures.path refl self.later (some_calls _ _ _ adds)
          (λ built. retired_texts (plain_reading told) c.args.«record».now c.args.context.now path c.write_closed.result d0 d1 adds);
      fault = λ built. refusal_may c.write_closed.result d0 d1 c.write_closed.ensures.fault;
      built_in = refl;
      rolled = record {
        path = c.write_closed.ensures.path;
        mode = refl;
        reading = refl;
        kind = refl;
        settings = refl;
        opening = refl;
        names = same_names k k refl;
        store = some_calls _ _ _ adds;
      };
    }

pub returns-clause-cost : goal.returns-clause-cost
returns-clause-cost g c =
    let self = c.args.self.now in
    let told = g.E.Encode.rendering self.encoder in
    let disk = g.S.Store.disk in
    costs_text (plain_reading told) c.args.«record».now c.args.context.now 1 c.write_closed.result c.bytes.result.now (disk self.store) (disk c.write_closed.new.store)
    (read_text told c.args.«record».now c.args.context.now c.bytes.result.now (rw c.bytes.ensures c.in_ok-encode.ensures.ok)) c.write_closed.ensures.cost
