use Rattle.std.proofs.Common.{rules, IsTrue, Ok, ◌≡◌, [], None, refl, sym, subst, arith}
use Rattle.log4rs_rolling.proofs.Calls.{calls_map}
use Rattle.log4rs_rolling.proofs.Costing.{makes_join, makes_within, roller_cost}
use Rattle.log4rs_rolling.specs.Keeping.{Silent}
use Rattle.log4rs_rolling.specs.Window.{NoCopies}
use Rattle.log4rs_rolling.specs.Disk.{Calls, files_of}
use Rattle.log4rs_rolling.specs.Moves.{AreLast, MovedAll}
use Rattle.log4rs_rolling.specs.Roller.{archive_name, kept_by, rest_by}
use Rattle.log4rs_rolling.proofs.Aside.{aside_calls, begun_partly, in_background_renames, keeps_some, left_after, rolled_after, rolled_not, silent_join, still_background}
use Rattle.log4rs_rolling.proofs.Moving.{on_err, on_err_map}
use Rattle.log4rs_rolling.proofs.Found.{rest_all}
use Rattle.log4rs_rolling.proofs.Opening.{aside_moves}
use Rattle.log4rs_rolling.proofs.Retiring.{moves_asked}
use Rattle.log4rs_rolling.proofs.Stepping.{driven_stops, last_none, rest_none}
use Rattle.log4rs_rolling.proofs.Parts.{clean_join, then_later}
use Rattle.log4rs_rolling.proofs.Places.{among_join, names_join}
use Rattle.log4rs_rolling.proofs.fixed_window.FixedWindowRoller.roll_aside.Goals as goal

pub returns-in_err-ask-clause-rolled : goal.returns-in_err-ask-clause-rolled
returns-in_err-ask-clause-rolled g c =
    let disk = g.S.Store.disk in
    let self = c.args.self.now in
    rolled_not (kept_by self) (kept_by c.ask.new.self) c.args.file.now _ (disk c.args.store.now) (disk c.ask.new.store) (λ X. search rules) (keeps_some self c.requires.some) c.ask.ensures.stepped
    (begun_partly self c.args.file.now _ (disk c.args.store.now) (disk c.ask.new.store) c.requires.background (λ asked. on_err _ (rest_all (kept_by self) c.args.file.now _ _ _ c.in_err-ask.ensures.moves asked).1))
    (λ known. on_err _ (c.in_err-ask.ensures.rest (moves_asked _ _ _ _ _ _ c.args.file.now c.requires.background known)))

pub returns-in_err-ask-clause-made : goal.returns-in_err-ask-clause-made
returns-in_err-ask-clause-made g c =
    let disk = g.S.Store.disk in
    let most = roller_cost c.args.self.now in
    let stepped = c.ask.ensures.stepped in
    record {
      silent = stepped.silent refl;
      copies = stepped.copies refl;
      unrefused = λ only. search rules;
      cost = makes_within _ _ (disk c.args.store.now) (disk c.ask.new.store) c.ask.ensures.cost.made (omega arith);
    }

pub set_aside-requires-clause-background : goal.set_aside-requires-clause-background
set_aside-requires-clause-background g c = still_background c.args.self.now c.ask.new.self c.ask.ensures.stepped.names c.requires.background

pub returns-clause-rolled : goal.returns-clause-rolled
returns-clause-rolled g c =
    let disk = g.S.Store.disk in
    let self = c.args.self.now in
    let file = c.args.file.now in
    let d0 = disk c.args.store.now in
    let d1 = disk c.ask.new.store in
    let d2 = disk c.set_aside.new.store in
    let driven : IsTrue self.asked → Calls d0 d1 (MovedAll (files_of d0) (rest_by self)) = λ asked. (rest_all (kept_by self) file (Ok tt) d0 d1 c.in_ok-ask.ensures.moves asked).0 in
    rolled_after (kept_by self) (kept_by c.ask.new.self) (kept_by c.set_aside.new.self) file c.set_aside.result d0 d1 d2 (keeps_some self c.requires.some)
    c.ask.ensures.stepped c.set_aside.ensures.rolled
    (aside_moves self file c.set_aside.result d0 d1 d2 c.requires.background driven c.set_aside.ensures.moved)
    (begun_partly self file c.set_aside.result d0 d2 c.requires.background (λ asked. on_err_map c.set_aside.result
    (λ (failed : (c.set_aside.new.self.job ≡ None) × Calls d1 d2 (λ added. added ≡ [])). driven_stops (rest_by self) d0 d1 d2 (driven asked) failed.1) c.set_aside.ensures.err))
    (λ known. on_err_map c.set_aside.result
    (λ (failed : (c.set_aside.new.self.job ≡ None) × Calls d1 d2 (λ added. added ≡ [])).
    let now = c.set_aside.new.self in
    subst (AreLast (rest_by self)) (sym (rest_none (archive_name now) now.base now.job failed.0)) (last_none (rest_by self))) c.set_aside.ensures.err)
    (left_after (kept_by self) (kept_by c.ask.new.self) (kept_by c.set_aside.new.self) file c.set_aside.result d0 d1 d2 c.ask.ensures.stepped.names
    (λ known. driven (moves_asked _ _ _ _ _ _ file c.requires.background known))
    (rest_none (archive_name c.ask.new.self) c.ask.new.self.base c.ask.new.self.job c.in_ok-ask.ensures.none) c.set_aside.ensures.rolled.left)

pub returns-clause-made : goal.returns-clause-made
returns-clause-made g c =
    let aside = aside_calls _ c.set_aside.result _ _ _ _ c.set_aside.ensures.moved c.set_aside.ensures.err in
    let stepped = c.ask.ensures.stepped in
    record {
      silent = silent_join _ _ _ (stepped.silent refl) (calls_map _ _ _ Silent aside (λ added tells told both. both.0));
      copies = λ none. clean_join _ _ _ (stepped.renames (in_background_renames c.args.self.now c.requires.background)) (calls_map _ _ _ NoCopies aside (λ added tells told both. both.1));
      unrefused = λ only. search rules;
      cost = let most = roller_cost c.args.self.now in let some = c.requires.some in makes_join _ _ _ _ _ _ c.ask.ensures.cost.made c.set_aside.ensures.cost.made (omega arith);
    }

pub returns-clause-limits : goal.returns-clause-limits
returns-clause-limits g c =
    let file = c.args.file.now in
    let one = c.ask.ensures.stepped in
    let aside = aside_calls _ c.set_aside.result _ _ _ _ c.set_aside.ensures.moved c.set_aside.ensures.err in
    record {
      renames = λ only. clean_join _ _ _ (one.renames only) (calls_map _ _ _ NoCopies aside (λ added tells told both. both.1));
      elsewhere = among_join (kept_by c.args.self.now) (kept_by c.ask.new.self) (kept_by c.set_aside.new.self) file file _ _ _ one.names refl one.elsewhere c.set_aside.ensures.elsewhere;
      names = names_join _ _ _ one.names c.set_aside.ensures.names;
      store = then_later _ _ _ _ _ one.store aside;
    }
