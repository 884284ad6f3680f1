use Rattle.std.proofs.Common.{rules, ap, subst, sym, ◌∙◌, ◌≡◌, ◌≤◌, ◌+◌, string_bytes, IsTrue, if◌then◌else◌, OnOk, inl, inr}
use Rattle.log4rs_rolling.specs.declared.store.Open.TheVariants.{Append, Truncate}
use Rattle.log4rs_rolling.specs.AppendParts.{Whole}
use Rattle.log4rs_rolling.proofs.Whole.{whole_first, whole_last}
use Rattle.std.proofs.Math.Logic.{∥∥₁_map}
use Rattle.log4rs_rolling.specs.LogFile.{Agrees}
use Rattle.log4rs_rolling.specs.Asking.{Kind, UnlessYes, is_told, opened_again}
use Rattle.log4rs_rolling.specs.SinceOpening.{GoodSince}
use Rattle.log4rs_rolling.proofs.Places.{names_join}
use Rattle.log4rs_rolling.proofs.Quiet.{quiet_first, quiet_last}
use Rattle.log4rs_rolling.specs.Keeping.{TellsAfter}
use Rattle.log4rs_rolling.specs.FileChanges.{OnlyAppends, once_if_closed, openings}
use Rattle.log4rs_rolling.proofs.Reopening.{no_yes, reopens_first, reopens_last, tells_still}
use Rattle.log4rs_rolling.specs.Disk.{Calls}
use Rattle.log4rs_rolling.proofs.Parts.{appended_nothing, appended_whole, first_kind}
use Rattle.log4rs_rolling.proofs.Growing.{segments_grow}
use Rattle.log4rs_rolling.proofs.Shown.{grows_at, grows_whole}
use Rattle.log4rs_rolling.proofs.Appending.{since_append, later_on, adds_text, finished_at, later_fault}
use Rattle.log4rs_rolling.proofs.Limits.{limited_whole}
use Rattle.log4rs_rolling.proofs.Moving.{on_ok_map}
use Rattle.log4rs_rolling.proofs.Copying.{copies_join}
use Rattle.log4rs_rolling.proofs.Counting.{counts_first, counts_last, behind_text, all_added, own_fault, behind_nothing}
use Rattle.log4rs_rolling.specs.Appends.{AnsweredBehind}
use Rattle.log4rs_rolling.proofs.Early.{early_answered, early_made, early_grown}
use Rattle.log4rs_append.specs.Sink.{plain_reading}
use Rattle.log4rs_append.specs.Texts.{fails_by}
use Rattle.log4rs_append.proofs.Rolled.{sink_appended}
use Rattle.log4rs_append.proofs.Rolling.{read_text}
use Rattle.log4rs_rolling.specs.Keeping.{rotation_cost}
use Rattle.log4rs_rolling.proofs.Costing.{caused_behind}
use Rattle.log4rs_append.proofs.Spending.{append_makes, prepared_within}
use Rattle.log4rs_append.proofs.rolling_file.RollingFileAppenderAppend.append.Goals as goal

pub returns-in_err-prepare-clause-answered : goal.returns-in_err-prepare-clause-answered
returns-in_err-prepare-clause-answered g c =
    let self = c.args.self.now in
    let prepared = c.prepare.ensures.prepared in
    (prepared.0, prepared.1, early_answered _ _ _ _ _ _ _ _ _ c.from_residual.result _ _ c.is_pre_process-first.result _ (λ X. search rules) self.known c.is_pre_process-first.ensures (λ last. (prepared.2 last).1) prepared.3 prepared.5 (prepared.7 self.known))

pub returns-in_err-prepare-clause-made : goal.returns-in_err-prepare-clause-made
returns-in_err-prepare-clause-made g c = λ built.
    let one = c.prepare.ensures in
    early_made _ _ _ _ _ _ _ c.from_residual.result _ _ (λ X. search rules) (one.silent built) (one.copies built) (λ told known. search rules) (λ told. inl (search rules))
    (prepared_within c.is_pre_process-first.result (g.P.Keep.keeping c.args.self.now.policy) _ _ (one.cost built)) (λ told known tells. let cause = one.cause c.args.self.now.known told built tells in search rules)

pub returns-in_err-prepare-clause-grown : goal.returns-in_err-prepare-clause-grown
returns-in_err-prepare-clause-grown g c = λ on. early_grown _ _ _ _ _ _ _ c.from_residual.result _ _ (λ X. search rules)

pub returns-in_err-encode-clause-answered : goal.returns-in_err-encode-clause-answered
returns-in_err-encode-clause-answered g c =
    let self = c.args.self.now in
    let prepared = c.prepare.ensures.prepared in
    (prepared.0, prepared.1, early_answered _ _ _ _ _ _ _ _ _ c.from_residual-in_err-encode.result _ _ c.is_pre_process-first.result _ (λ X. search rules) self.known c.is_pre_process-first.ensures (λ last. (prepared.2 last).1) prepared.3 prepared.5 (prepared.7 self.known))

pub returns-in_err-encode-clause-made : goal.returns-in_err-encode-clause-made
returns-in_err-encode-clause-made g c = λ built.
    let one = c.prepare.ensures in
    early_made _ _ _ _ _ _ _ c.from_residual-in_err-encode.result _ _ (λ X. search rules) (one.silent built) (one.copies built) (λ told known. search rules) (λ told. inr (search rules))
    (prepared_within c.is_pre_process-first.result (g.P.Keep.keeping c.args.self.now.policy) _ _ (one.cost built)) (λ told known tells. search rules)

pub returns-in_err-encode-clause-grown : goal.returns-in_err-encode-clause-grown
returns-in_err-encode-clause-grown g c = λ on. early_grown _ _ _ _ _ _ _ c.from_residual-in_err-encode.result _ _ (λ X. search rules)

pub returns-clause-answered : goal.returns-clause-answered
returns-clause-answered g c =
    let disk = g.S.Store.disk in
    let self = c.args.self.now in
    let p0 = self.policy in
    let asking = g.P.Policy.asking in
    let keeping = g.P.Keep.keeping in
    let path = string_bytes self.log.path in
    let A = Agrees self.log (disk self.store) in
    let p1 = c.prepare.new.policy in
    let path1 = string_bytes c.prepare.new.log.path in
    let d0 = disk self.store in
    let d1 = disk c.prepare.new.store in
    let prepared = c.in_ok-prepare.ensures.prepared in
    let A1 = Agrees c.prepare.new.log d1 in
    let agrees1 : Agrees c.prepare.new.log d1 = c.prepare.ensures.agrees self.known in
    let d2 = disk c.finish.new.store in
    let first = c.is_pre_process-first.result in
    let finished = c.finish.ensures.finished in
    let same : path1 ≡ path = c.prepare.ensures.path in
    let how = if self.append then Append else Truncate in
    let reading = plain_reading (g.E.Encode.rendering self.encoder) in
    let made = read_text (g.E.Encode.rendering self.encoder) c.args.«record».now c.args.context.now c.bytes.result.now (rw c.bytes.ensures c.in_ok-encode.ensures.ok) in
    let whole = appended_whole asking keeping (g.P.Policy.notes c.args.context.now) p0 p1 c.finish.new.policy first self.append c.args.context.now A A1 path path1 prepared.0 finished.0 d0 d1 d2
    c.is_pre_process-first.ensures self.known agrees1 same c.prepare.ensures.limited.names
    prepared.1 prepared.2 prepared.3 c.prepare.ensures.still finished.1 finished.2 finished.3
    (λ answer. Whole reading c.args.«record».now c.args.context.now (asking p0) (keeping p0) how path c.finish.result answer d0 d2 × UnlessYes answer (Calls d0 d2 (OnlyAppends path how))
    × AnsweredBehind reading c.args.«record».now c.args.context.now (asking p0) (keeping p0) path answer d0 d2 × UnlessYes answer (OnOk c.finish.result (d2.refusals ≡ d0.refusals))
    × (TellsAfter (keeping p0) path answer → Calls d0 d2 (λ added. openings added ≤ once_if_closed d0.opened + opened_again (asking p0).kind answer)))
    (λ early. (
      whole_first reading c.args.«record».now c.args.context.now (asking p0) (asking p1) (keeping p0) (keeping p1) first how prepared.0 finished.0 c.finish.result A1 c.bytes.result.now path path1 d0 d1 d2
          (λ told. first_kind (asking p0).kind first c.is_pre_process-first.ensures told ∙ early) agrees1 same (finished.2 early).1 made (prepared.4 early self.known) finished.4,
      quiet_first path path1 how prepared.0 finished.0 d0 d1 d2 same (finished.2 early).1 prepared.5 (finished.5 agrees1),
      behind_nothing reading c.args.«record».now c.args.context.now (asking p0) (keeping p0) first path prepared.0 d0 d2 c.is_pre_process-first.ensures (λ last. (prepared.2 last).1),
      counts_first prepared.0 finished.0 c.finish.result d0.refusals d1.refusals d2.refusals (finished.2 early).1 prepared.6 finished.7,
      λ tells. reopens_first (asking p0).kind first prepared.0 d0 d1 d2 c.is_pre_process-first.ensures early (prepared.7 self.known tells) (finished.8 agrees1 (λ said. absurd (no_yes finished.0 (finished.2 early).1 said))),
    ))
    (λ late. (
      whole_last reading c.args.«record».now c.args.context.now (asking p0) (keeping p0) first how finished.0 c.finish.result A1 c.bytes.result.now path d0 d1 d2
          (λ told. first_kind (asking p0).kind first c.is_pre_process-first.ensures told ∙ late) late agrees1 made (c.prepare.ensures.still late)
          (finished_at asking keeping p0 p1 c.bytes.result.now first c.args.context.now finished.0 c.finish.result A1 path path1 d1 d2 (prepared.2 late).0 same finished.4),
      quiet_last path path1 how prepared.0 finished.0 d0 d1 d2 same (prepared.2 late).1 prepared.5 (finished.5 agrees1),
      behind_text reading c.args.«record».now c.args.context.now (asking p0) (keeping p0) c.bytes.result.now path path1 finished.0 d0 d1 d2 same made c.prepare.ensures.silent
          (λ built. finished.6 agrees1 (subst IsTrue (sym c.prepare.ensures.limited.names.is_built_in) built)),
      counts_last prepared.0 finished.0 c.finish.result d0.refusals d1.refusals d2.refusals (prepared.2 late).1 prepared.6 finished.7,
      λ tells. reopens_last (asking p0).kind finished.0 prepared.0 d0 d1 d2 (prepared.2 late).1 (prepared.7 self.known (λ said. absurd (no_yes prepared.0 (prepared.2 late).1 said)))
          (finished.8 agrees1 (tells_still (keeping p0) (keeping p1) path path1 finished.0 (ap keeping (prepared.2 late).0) same tells)),
    )) in
    (whole.0, whole.1, record { kept = whole.2; whole = whole.3.0; quiet = whole.3.1; opens = whole.3.4; behind = whole.3.2; unrefused = whole.3.3 })

pub returns-clause-limited : goal.returns-clause-limited
returns-clause-limited g c =
    let disk = g.S.Store.disk in
    let self = c.args.self.now in
    let one = c.prepare.ensures in
    let two = c.finish.ensures in
    let agrees = one.agrees self.known in
    limited_whole c.is_pre_process-first.result _ _ _ _ _ _ two.finished.0 (disk self.store) (disk c.prepare.new.store) (disk c.finish.new.store)
    one.path one.limited one.still (λ last. ap g.P.Keep.keeping (one.prepared.2 last).0) (two.limited agrees _) (λ first. (two.finished.2 first).1) (two.finished.5 agrees)

pub returns-clause-made : goal.returns-clause-made
returns-clause-made g c = λ built.
    let disk = g.S.Store.disk in
    let self = c.args.self.now in
    let path = string_bytes self.log.path in
    let one = c.prepare.ensures in
    let two = c.finish.ensures in
    let agrees = one.agrees self.known in
    let still = subst IsTrue (sym one.limited.names.is_built_in) built in
    let reading = plain_reading (g.E.Encode.rendering self.encoder) in
    let text = read_text (g.E.Encode.rendering self.encoder) c.args.«record».now c.args.context.now c.bytes.result.now (rw c.bytes.ensures c.in_ok-encode.ensures.ok) in
    let path1 = string_bytes c.prepare.new.log.path in
    let d0 = disk self.store in
    let d1 = disk c.prepare.new.store in
    let d2 = disk c.finish.new.store in
    let fault = λ (told : IsTrue (is_told (g.P.Policy.asking self.policy).kind)). later_fault c.finish.result d0.refusals d1.refusals d2.refusals one.limited.store.refusals (two.fault (subst (λ (k : Kind). IsTrue (is_told k)) (sym one.kind) told) still) in record {
      adds = adds_text reading c.args.«record».now c.args.context.now c.bytes.result.now path path1 c.finish.result d0 d1 d2 one.path text (one.silent built) (two.wrote agrees still);
      memory = λ is. all_added reading c.args.«record».now c.args.context.now c.bytes.result.now path path1 d0 d1 d2 one.path text (one.silent built) (two.memory agrees still is);
      copies = copies_join _ _ _ _ _ one.limited.store (two.limited agrees Append).store (one.copies built) (two.copies still);
      unrefused = λ only. on_ok_map c.finish.result (λ e. e ∙ c.in_ok-prepare.ensures.unrefused built only) (two.unrefused still (subst IsTrue (sym one.limited.names.renames) only));
      fault = λ told known. fault told;
      faults = λ told. own_fault c.finish.result (fails_by (g.E.Encode.answers self.encoder)) c.args.«record».now c.args.context.now path d0 d2 (fault told);
      cost = append_makes c.is_pre_process-first.result (g.P.Keep.keeping self.policy) (g.P.Keep.keeping c.prepare.new.policy) reading (λ read. read c.args.«record».now c.args.context.now) c.bytes.result.now d0 d1 d2
          one.limited.names text (one.cost built) (two.cost agrees still);
      cause = λ told known. caused_behind (rotation_cost (g.P.Keep.keeping self.policy) + 4) c.finish.result d0 d1 d2 (prepared_within c.is_pre_process-first.result (g.P.Keep.keeping self.policy) d0 d1 (one.cost built))
          (two.cause agrees (subst (λ (k : Kind). IsTrue (is_told k)) (sym one.kind) told) still);
    }

pub returns-clause-grown : goal.returns-clause-grown
returns-clause-grown g c = λ on.
    let disk = g.S.Store.disk in
    let self = c.args.self.now in
    let asking = g.P.Policy.asking in
    let keeping = g.P.Keep.keeping in
    let path = string_bytes self.log.path in
    let p0 = self.policy in
    let p1 = c.prepare.new.policy in
    let p2 = c.finish.new.policy in
    let path1 = string_bytes c.prepare.new.log.path in
    let d0 = disk self.store in
    let d1 = disk c.prepare.new.store in
    let d2 = disk c.finish.new.store in
    let one = c.prepare.ensures in
    let two = c.finish.ensures in
    let agrees = one.agrees self.known in
    let first = c.is_pre_process-first.result in
    let finished = two.finished in
    let reading = plain_reading (g.E.Encode.rendering self.encoder) in
    let text = read_text (g.E.Encode.rendering self.encoder) c.args.«record».now c.args.context.now c.bytes.result.now (rw c.bytes.ensures c.in_ok-encode.ensures.ok) in
    let kind = first_kind (asking p0).kind first c.is_pre_process-first.ensures in record {
      segments = segments_grow reading c.args.«record».now c.args.context.now (asking p0) (keeping p0) self.append first finished.0 c.finish.result (Agrees c.prepare.new.log d1) c.bytes.result.now path d0 d1 d2
          on kind agrees text one.still
          (λ last. finished_at asking keeping p0 p1 c.bytes.result.now first c.args.context.now finished.0 c.finish.result (Agrees c.prepare.new.log d1) path path1 d1 d2 (one.prepared.2 last).0 one.path finished.4);
      shown = grows_whole reading c.args.«record».now c.args.context.now (asking p0) (keeping p0) (keeping p2) self.append first c.finish.result c.bytes.result.now path d0 d1 d2
          on kind text one.still
          (λ last. grows_at asking keeping p0 p1 p2 c.bytes.result.now c.finish.result path path1 d1 d2 (one.prepared.2 last).0 one.path (two.shown last agrees));
    }

pub invariant_of-self : goal.invariant_of-self
invariant_of-self g c =
    let disk = g.S.Store.disk in
    let self = c.args.self.now in
    let asking = g.P.Policy.asking self.policy in
    let k0 = g.P.Keep.keeping self.policy in
    let k1 = g.P.Keep.keeping c.prepare.new.policy in
    let path = string_bytes self.log.path in
    let d0 = disk self.store in
    let d1 = disk c.prepare.new.store in
    let one = c.prepare.ensures in
    record {
      known = one.agrees self.known;
      good = ∥∥₁_map self.good (λ (since : GoodSince (g.P.Keep.keeping self.settings.value) k0 path self.append (disk self.opened.value) d0).
          since_append _ k0 k1 asking c.args.context.now one.prepared.0 path _ _ _ _ d0 d1 self.names one.path
          (appended_nothing asking c.args.context.now one.prepared.0 self.append (Agrees self.log d0) path k0 k1 d0 d1 self.known one.prepared.3) one.limited one.copies since);
      later = later_on _ _ _ self.later one.limited.store;
      names = names_join _ _ _ self.names one.limited.names;
    }

pub invariant_of-self-in-Break-branch-2 : goal.invariant_of-self-in-Break-branch-2
invariant_of-self-in-Break-branch-2 g c =
    let disk = g.S.Store.disk in
    let self = c.args.self.now in
    let asking = g.P.Policy.asking self.policy in
    let k0 = g.P.Keep.keeping self.policy in
    let k1 = g.P.Keep.keeping c.prepare.new.policy in
    let path = string_bytes self.log.path in
    let d0 = disk self.store in
    let d1 = disk c.prepare.new.store in
    let one = c.prepare.ensures in
    record {
      known = one.agrees self.known;
      good = ∥∥₁_map self.good (λ (since : GoodSince (g.P.Keep.keeping self.settings.value) k0 path self.append (disk self.opened.value) d0).
          since_append _ k0 k1 asking c.args.context.now one.prepared.0 path _ _ _ _ d0 d1 self.names one.path
          (appended_nothing asking c.args.context.now one.prepared.0 self.append (Agrees self.log d0) path k0 k1 d0 d1 self.known one.prepared.3) one.limited one.copies since);
      later = later_on _ _ _ self.later one.limited.store;
      names = names_join _ _ _ self.names one.limited.names;
    }

pub invariant_of-self-2 : goal.invariant_of-self-2
invariant_of-self-2 g c =
    let disk = g.S.Store.disk in
    let self = c.args.self.now in
    let keeping = g.P.Keep.keeping in
    let one = c.prepare.ensures in
    let two = c.finish.ensures in
    let agrees = one.agrees self.known in
    let path = string_bytes self.log.path in
    let d0 = disk self.store in
    let d1 = disk c.prepare.new.store in
    let d2 = disk c.finish.new.store in
    let first = c.is_pre_process-first.result in
    let whole = appended_whole g.P.Policy.asking keeping (g.P.Policy.notes c.args.context.now) self.policy c.prepare.new.policy c.finish.new.policy first self.append c.args.context.now
    (Agrees self.log d0) (Agrees c.prepare.new.log d1) path _ one.prepared.0 two.finished.0 d0 d1 d2
    c.is_pre_process-first.ensures self.known agrees one.path one.limited.names
    one.prepared.1 one.prepared.2 one.prepared.3 one.still two.finished.1 two.finished.2 two.finished.3 (λ answer. Unit {0}) (λ e. tt) (λ e. tt) in
    let limited = limited_whole first _ _ _ path _ (if self.append then Append else Truncate) two.finished.0 d0 d1 d2
    one.path one.limited one.still (λ last. ap keeping (one.prepared.2 last).0) (two.limited agrees _) (λ early. (two.finished.2 early).1) (two.finished.5 agrees) in
    record {
      known = two.agrees agrees;
      good = ∥∥₁_map self.good (λ (since : GoodSince (keeping self.settings.value) (keeping self.policy) path self.append (disk self.opened.value) d0).
          since_append _ (keeping self.policy) (keeping c.finish.new.policy) (g.P.Policy.asking self.policy) c.args.context.now whole.0 path _ _ _ _ d0 d2 self.names (two.path ∙ one.path) whole.2 limited
          (λ built. copies_join _ _ d0 d1 d2 one.limited.store (two.limited agrees Append).store (one.copies built) (two.copies (subst IsTrue (sym one.limited.names.is_built_in) built))) since);
      later = later_on _ _ _ self.later limited.store;
      names = names_join _ _ _ self.names limited.names;
    }

pub returns-in_err-prepare-clause-appended : goal.returns-in_err-prepare-clause-appended
returns-in_err-prepare-clause-appended g c =
    let self = c.args.self.now in
    let disk = g.S.Store.disk in
    let answered = returns-in_err-prepare-clause-answered g c in
    sink_appended (g.E.Encode.rendering self.encoder) c.args.«record».now c.args.context.now (g.P.Policy.asking self.policy) _ (fails_by (g.E.Encode.answers self.encoder)) answered.0 c.from_residual.result self.append
    (g.P.Keep.keeping self.settings.value) (g.P.Keep.keeping self.policy) (g.P.Keep.keeping c.prepare.new.policy) (string_bytes self.log.path) _ (disk self.opened.value) (disk self.store) (disk c.prepare.new.store) _ _
    self.later c.prepare.ensures.path c.prepare.ensures.kind answered.2 c.prepare.ensures.limited (returns-in_err-prepare-clause-made g c) (returns-in_err-prepare-clause-grown g c)

pub returns-in_err-encode-clause-appended : goal.returns-in_err-encode-clause-appended
returns-in_err-encode-clause-appended g c =
    let self = c.args.self.now in
    let disk = g.S.Store.disk in
    let answered = returns-in_err-encode-clause-answered g c in
    sink_appended (g.E.Encode.rendering self.encoder) c.args.«record».now c.args.context.now (g.P.Policy.asking self.policy) _ (fails_by (g.E.Encode.answers self.encoder)) answered.0 c.from_residual-in_err-encode.result self.append
    (g.P.Keep.keeping self.settings.value) (g.P.Keep.keeping self.policy) (g.P.Keep.keeping c.prepare.new.policy) (string_bytes self.log.path) _ (disk self.opened.value) (disk self.store) (disk c.prepare.new.store) _ _
    self.later c.prepare.ensures.path c.prepare.ensures.kind answered.2 c.prepare.ensures.limited (returns-in_err-encode-clause-made g c) (returns-in_err-encode-clause-grown g c)

pub returns-clause-appended : goal.returns-clause-appended
returns-clause-appended g c =
    let self = c.args.self.now in
    let disk = g.S.Store.disk in
    let answered = returns-clause-answered g c in
    sink_appended (g.E.Encode.rendering self.encoder) c.args.«record».now c.args.context.now (g.P.Policy.asking self.policy) _ (fails_by (g.E.Encode.answers self.encoder)) answered.0 c.finish.result self.append
    (g.P.Keep.keeping self.settings.value) (g.P.Keep.keeping self.policy) (g.P.Keep.keeping c.finish.new.policy) (string_bytes self.log.path) _ (disk self.opened.value) (disk self.store) (disk c.finish.new.store) _ _
    self.later (c.finish.ensures.path ∙ c.prepare.ensures.path) (c.finish.ensures.kind ∙ c.prepare.ensures.kind) answered.2 (returns-clause-limited g c) (returns-clause-made g c) (returns-clause-grown g c)
