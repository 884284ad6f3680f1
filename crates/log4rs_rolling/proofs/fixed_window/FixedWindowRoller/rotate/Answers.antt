use Rattle.std.proofs.Common.{rules, ◌≡◌, [], ◌∙◌, List, ℕ, refl, sym, subst, IsTrue, arith}
use Rattle.log4rs_rolling.specs.Disk.{Calls, files_of}
use Rattle.log4rs_rolling.specs.Copies.{OnlyRenames}
use Rattle.log4rs_rolling.specs.Window.{NoCopies}
use Rattle.log4rs_rolling.specs.Moves.{Moved, MovedHalf}
use Rattle.log4rs_rolling.specs.Roller.{archive_name, moves_of}
use Rattle.log4rs_rolling.proofs.Calls.{calls_none}
use Rattle.log4rs_rolling.proofs.Costing.{costs_join, makes_join}
use Rattle.log4rs_rolling.proofs.Moving.{Rotating, on_err_map, on_ok_map, partly_none, rotation_goes_on, rotation_breaks, rotation_ends, moves_left_above, moves_left_last, not_moved}
use Rattle.log4rs_rolling.proofs.fixed_window.FixedWindowRoller.rotate.Goals as goal
use Rattle.log4rs_rolling.specs.Change.{Change, Files}

pub returns-in_err-newest-clause-moved : goal.returns-in_err-newest-clause-moved
returns-in_err-newest-clause-moved g c = not_moved _ _ _ _ _ _ (λ X. search rules) (partly_none _ _ _ _ (calls_none _ _ refl)) (λ tells none. none) (search rules)

pub returns-in_err-make_parent-clause-moved : goal.returns-in_err-make_parent-clause-moved
returns-in_err-make_parent-clause-moved g c = not_moved _ _ _ _ _ _ (λ X. search rules) (partly_none _ _ _ _ c.in_err-make_parent.ensures.calls) (search rules) (search rules)

pub returns-in_err-shift-clause-moved : goal.returns-in_err-shift-clause-moved
returns-in_err-shift-clause-moved g c =
    let disk = g.S.Store.disk in
    let self = c.args.self.now in
    let b = self.rename_only in
    let Before = OnlyRenames b (disk c.args.store.now) (disk c.loop-at.store) in
    let all = moves_of self c.args.file.now in
    let before = subst (λ (m : List (List ℕ × List ℕ)). Calls (disk c.args.store.now) (disk c.loop-at.store) (Rotating (disk c.args.store.now) all m Before))
    (moves_left_above (archive_name self) self.base c.loop-at.at c.args.file.now c.loop-at-test.true) c.loop-at.invariant.calls in
    not_moved _ _ _ _ _ _ (λ X. search rules) (rotation_breaks (disk c.args.store.now) (disk c.loop-at.store) (disk c.shift.new.store) all _ _ b before c.in_err-shift.ensures.moved.err) (search rules) (search rules)

pub loop-at-preserved : goal.loop-at-preserved
loop-at-preserved g c =
    let disk = g.S.Store.disk in
    let self = c.args.self.now in
    let name = archive_name self in
    let b = self.rename_only in
    let Before = OnlyRenames b (disk c.args.store.now) (disk c.loop-at.store) in
    let all = moves_of self c.args.file.now in
    let before = subst (λ (m : List (List ℕ × List ℕ)). Calls (disk c.args.store.now) (disk c.loop-at.store) (Rotating (disk c.args.store.now) all m Before))
    (moves_left_above name self.base c.loop-at.at c.args.file.now c.loop-at-test.true) c.loop-at.invariant.calls in
    record {
      below = let below = c.loop-at.invariant.below in omega arith;
      closed = λ tells none. c.in_ok-shift.ensures.moved.closed (subst IsTrue (sym c.loop-at.invariant.calls.tells) tells) (c.loop-at.invariant.closed tells none);
      unrefused = λ only. c.in_ok-shift.ensures.moved.unrefused only ∙ c.loop-at.invariant.unrefused only;
      made = let below = c.loop-at.invariant.below in let above = c.loop-at-test.true in
          makes_join _ 4 _ (disk c.args.store.now) (disk c.loop-at.store) (disk c.shift.new.store) c.loop-at.invariant.made c.shift.ensures.cost.made (omega arith);
      calls = rotation_goes_on (disk c.args.store.now) (disk c.loop-at.store) (disk c.shift.new.store) all _ _ b before c.in_ok-shift.ensures.moved.ok;
    }

pub returns-clause-moved : goal.returns-clause-moved
returns-clause-moved g c =
    let disk = g.S.Store.disk in
    let self = c.args.self.now in
    let name = archive_name self in
    let file = c.args.file.now in
    let b = self.rename_only in
    let d0 = disk c.args.store.now in
    let d1 = disk c.loop-at.store in
    let d2 = disk c.move_file.new.store in
    let all = moves_of self file in
    let before = subst (λ (m : List (List ℕ × List ℕ)). Calls d0 d1 (Rotating d0 all m (OnlyRenames b d0 d1))) (moves_left_last name self.base c.loop-at.at file c.loop-at-test.false) c.loop-at.invariant.calls in
    let newest : c.as_str-2.result.now ≡ name self.base = c.as_str-2.ensures.value ∙ c.in_ok-newest.ensures in
    let Made : (List ℕ → Files → List Change → Type 0) → List ℕ → Type 0 = λ P to. Calls d1 d2 (λ added. P to (files_of d1) added × (OnlyRenames b d1 d2 → NoCopies added)) in
    let All : List ℕ → Files → List Change → Type 0 = λ to f. Moved f file to in
    let Part : List ℕ → Files → List Change → Type 0 = λ to f. MovedHalf f file to in
    record {
      ok = on_ok_map c.move_file.result
          (λ (moved : Made All c.as_str-2.result.now). rotation_ends d0 d2 all (OnlyRenames b d0 d2) (rotation_goes_on d0 d1 d2 all [] (file, name self.base) b before (subst (Made All) newest moved))) c.move_file.ensures.moved.ok;
      err = on_err_map c.move_file.result
          (λ (moved : Made Part c.as_str-2.result.now). rotation_breaks d0 d1 d2 all [] (file, name self.base) b before (subst (Made Part) newest moved)) c.move_file.ensures.moved.err;
      unrefused = λ only. on_ok_map c.move_file.result (λ e. e ∙ c.loop-at.invariant.unrefused only) (c.move_file.ensures.moved.unrefused only);
      closed = search rules;
      fault = search rules;
    }

pub returns-in_err-shift-clause-cost : goal.returns-in_err-shift-clause-cost
returns-in_err-shift-clause-cost g c =
    let disk = g.S.Store.disk in
    let below = c.loop-at.invariant.below in
    let above = c.loop-at-test.true in
    costs_join _ 4 _ _ (disk c.args.store.now) (disk c.loop-at.store) (disk c.shift.new.store) c.loop-at.invariant.made
    (record { made = c.shift.ensures.cost.made; cause = search rules }) (omega arith)

pub returns-clause-cost : goal.returns-clause-cost
returns-clause-cost g c =
    let disk = g.S.Store.disk in
    let below = c.loop-at.invariant.below in
    costs_join _ 3 _ c.move_file.result (disk c.args.store.now) (disk c.loop-at.store) (disk c.move_file.new.store) c.loop-at.invariant.made c.move_file.ensures.cost (omega arith)
