use Rattle.std.proofs.Common.{rules, ◌∙◌, ◌≤◌, ◌+◌, ◌∷◌, List, [], ℕ, Some, IsTrue, arith, length, ap, sym, subst, string_bytes, Ok, Err}
use Rattle.log4rs_rolling.specs.Change.{opened}
use Rattle.log4rs_rolling.specs.AtOpening.{opening_moves}
use Rattle.log4rs_rolling.specs.Disk.{Calls, Disk, Does, files_of}
use Rattle.log4rs_rolling.specs.LogFile.{log_path}
use Rattle.log4rs_rolling.specs.FileChanges.{OnlyOpens, way}
use Rattle.log4rs_rolling.specs.SinceOpening.{GoodSince}
use Rattle.log4rs_rolling.proofs.Appending.{later_on, since_opened, since_start, since_step_at}
use Rattle.log4rs_rolling.proofs.Calls.{calls_none}
use Rattle.log4rs_rolling.proofs.Found.{all_partly}
use Rattle.log4rs_rolling.proofs.Parts.{silent_first, then_later}
use Rattle.log4rs_rolling.proofs.Places.{names_same}
use Rattle.log4rs_rolling.specs.Keeping.{Keeping, rotation_cost}
use Rattle.log4rs_rolling.proofs.Costing.{caused_behind, makes_join, makes_within, uncounted_makes}
use Rattle.log4rs_rolling.proofs.Opening.{asked_at, asked_then_opened, asked_then_tried, not_well, ready_at, still_nothing}
use Rattle.log4rs_append.proofs.rolling_file.RollingFileAppender.open_log.Goals as goal

pub returns-in-Err-clause-tried : goal.returns-in-Err-clause-tried
returns-in-Err-clause-tried g c =
    let disk = g.S.Store.disk in
    let keeping = g.P.Keep.keeping in
    let path = log_path c.args.log in
    let k0 = keeping c.args.policy in
    let k1 = keeping c.at_open.new.self in
    let d0 = disk c.args.store in
    let d1 = disk c.at_open.new.store in
    let ready = ready_at k0 k1 path c.path.result.now (Err c.in-Err.fault) d0 d1 c.path.ensures c.in-Err.ensures.ready in
    asked_then_tried k0 k1 path c.args.append d0 d1 d1 ready.steps (λ built. (ready.made built).moves.partly)
    (λ once. still_nothing d0 d1 (ap disk (c.at_open.ensures.idle (once.0, ap k0.waiting c.path.ensures ∙ once.1)).1))
    (calls_none d1 (OnlyOpens path (way c.args.append)) tt)

pub returns-in-Err-clause-fault : goal.returns-in-Err-clause-fault
returns-in-Err-clause-fault g c = λ built.
    let k0 = g.P.Keep.keeping c.args.policy in (
      (c.in-Err.ensures.ready.made built).fault,
      λ once. absurd (not_well (c.in-Err.ensures.idle (once.0, ap k0.waiting c.path.ensures ∙ once.1)).2),
      (c.in-Err.ensures.ready.made built).cost.cause,
    )

pub returns-in-Err-clause-cost : goal.returns-in-Err-clause-cost
returns-in-Err-clause-cost g c = λ built.
    let r = rotation_cost (g.P.Keep.keeping c.args.policy) in
    makes_within r (r + 2) _ _ (c.in-Err.ensures.ready.made built).cost.made (omega arith)

pub returns-clause-asked : goal.returns-clause-asked
returns-clause-asked g c =
    let disk = g.S.Store.disk in
    let keeping = g.P.Keep.keeping in
    let path = log_path c.args.log in
    let k0 = keeping c.args.policy in
    let k1 = keeping c.at_open.new.self in
    let d0 = disk c.args.store in
    let d1 = disk c.at_open.new.store in
    let d2 = disk c.open_file.new.store in
    let does : Does d1 d2 (opened path (way c.args.append) ∷ []) d1.refusals (Some path) = search rules in
    asked_then_opened k0 k1 path c.args.append tt d0 d1 d2
    (ready_at k0 k1 path c.path.result.now (Ok tt) d0 d1 c.path.ensures c.in_default.ensures.ready)
    (λ once. ap disk (c.at_open.ensures.idle (once.0, ap k0.waiting c.path.ensures ∙ once.1)).1) does

pub returns-in-Err-open_file-clause-tried : goal.returns-in-Err-open_file-clause-tried
returns-in-Err-open_file-clause-tried g c =
    let disk = g.S.Store.disk in
    let keeping = g.P.Keep.keeping in
    let path = log_path c.args.log in
    let k0 = keeping c.args.policy in
    let k1 = keeping c.at_open.new.self in
    let d0 = disk c.args.store in
    let d1 = disk c.at_open.new.store in
    let d2 = disk c.roll.new.store in
    let d3 = disk c.open_file.new.store in
    let ready = ready_at k0 k1 path c.path.result.now (Ok tt) d0 d1 c.path.ensures c.in_default.ensures.ready in
    asked_then_tried k0 k1 path c.args.append d0 d1 d3 ready.steps (λ built. all_partly (opening_moves k0 path (files_of d0)) d0 d1 (ready.made built).moves.all)
    (λ once. still_nothing d0 d1 (ap disk (c.at_open.ensures.idle (once.0, ap k0.waiting c.path.ensures ∙ once.1)).1))
    (silent_first d1 d2 d3 (λ f. OnlyOpens path (way c.args.append)) c.roll.ensures.calls
    (subst (λ (p : List ℕ). Calls d2 d3 (OnlyOpens p (way c.args.append))) (c.roll.ensures.path) c.open_file.ensures.opened))

pub invariant_of-result-clause-good : goal.invariant_of-result-clause-good
invariant_of-result-clause-good g c =
    let disk = g.S.Store.disk in
    let keeping = g.P.Keep.keeping in
    let settings = keeping c.args.policy in
    let k = keeping c.at_open.new.self in
    let path = log_path c.args.log in
    let append = c.args.append in
    let d0 = disk c.args.store in
    let d1 = disk c.at_open.new.store in
    let d2 = disk c.roll.new.store in
    let d3 = disk c.open_file.new.store in
    let steps = asked_at settings k path c.path.result.now d0 d1 c.path.ensures c.at_open.ensures.ready.steps in
    let opens : Calls d1 d3 (OnlyOpens path (way append)) =
    silent_first d1 d2 d3 (λ f. OnlyOpens path (way append)) c.roll.ensures.calls
    (subst (λ (p : List ℕ). Calls d2 d3 (OnlyOpens p (way append))) (c.roll.ensures.path) c.open_file.ensures.opened) in
    ∣ subst (λ (s : Keeping). GoodSince s k (string_bytes c.open_file.new.log.path) append (disk c.of-opened.result.value) d3) (ap keeping (sym c.of-settings.ensures))
    (subst (λ (d : Disk). GoodSince settings k (string_bytes c.open_file.new.log.path) append d d3) (ap disk (sym c.of-opened.ensures))
    (subst (λ (p : List ℕ). GoodSince settings k p append d0 d3) (sym (c.open_file.ensures.path ∙ c.roll.ensures.path))
    (since_opened settings k path append d0 d1 d3 steps.names opens
    (since_step_at settings settings k path append d0 d0 d1 (names_same settings) steps (since_start settings path append d0))))) ∣₁

pub invariant_of-result-clause-later : goal.invariant_of-result-clause-later
invariant_of-result-clause-later g c =
    let disk = g.S.Store.disk in
    let d0 = disk c.args.store in
    let d1 = disk c.at_open.new.store in
    let d3 = disk c.open_file.new.store in
    subst (λ (d : Disk). IsTrue d3.tells → length d.changes ≤ length d3.changes) (ap disk (sym c.of-opened.ensures))
    (later_on (length d0.changes) d0 d3 (λ tells. omega arith)
    (then_later _ _ d0 d1 d3 c.at_open.ensures.ready.steps.store (then_later _ _ d1 (disk c.roll.new.store) d3 c.roll.ensures.calls c.open_file.ensures.opened)))

pub returns-in-Err-open_file-clause-fault : goal.returns-in-Err-open_file-clause-fault
returns-in-Err-open_file-clause-fault g c = λ built.
    let disk = g.S.Store.disk in
    let r = rotation_cost (g.P.Keep.keeping c.args.policy) in (
      search rules,
      search rules,
      caused_behind {T = Unit {0}} r (Err c.in-Err-open_file.fault) (disk c.args.store) (disk c.roll.new.store) (disk c.open_file.new.store)
          (makes_join r 0 r (disk c.args.store) (disk c.at_open.new.store) (disk c.roll.new.store) (c.in_default.ensures.ready.made built).cost.made
          (uncounted_makes _ _ c.roll.ensures.calls.tells c.roll.ensures.counted) (omega arith))
          c.in-Err-open_file.ensures.cost.cause,
    )

pub returns-in-Err-open_file-clause-cost : goal.returns-in-Err-open_file-clause-cost
returns-in-Err-open_file-clause-cost g c = λ built.
    let disk = g.S.Store.disk in
    let r = rotation_cost (g.P.Keep.keeping c.args.policy) in
    makes_join r 2 (r + 2) (disk c.args.store) (disk c.roll.new.store) (disk c.open_file.new.store)
    (makes_join r 0 r (disk c.args.store) (disk c.at_open.new.store) (disk c.roll.new.store) (c.in_default.ensures.ready.made built).cost.made
    (uncounted_makes _ _ c.roll.ensures.calls.tells c.roll.ensures.counted) (omega arith))
    c.open_file.ensures.cost.made (omega arith)

pub returns-clause-cost : goal.returns-clause-cost
returns-clause-cost g c = λ built.
    let disk = g.S.Store.disk in
    let r = rotation_cost (g.P.Keep.keeping c.args.policy) in
    makes_join r 2 (r + 2) (disk c.args.store) (disk c.roll.new.store) (disk c.open_file.new.store)
    (makes_join r 0 r (disk c.args.store) (disk c.at_open.new.store) (disk c.roll.new.store) (c.in_default.ensures.ready.made built).cost.made
    (uncounted_makes _ _ c.roll.ensures.calls.tells c.roll.ensures.counted) (omega arith))
    c.open_file.ensures.cost.made (omega arith)
