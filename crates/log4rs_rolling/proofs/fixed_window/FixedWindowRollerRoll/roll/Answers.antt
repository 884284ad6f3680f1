use Rattle.std.proofs.Common.{inl, inr, rules, arith}
use Rattle.log4rs_rolling.specs.Copies.{OnlyRenames}
use Rattle.log4rs_rolling.proofs.Aside.{at_once_renames}
use Rattle.log4rs_rolling.proofs.Costing.{makes_within, roller_cost}
use Rattle.log4rs_rolling.proofs.Places.{names_same, rotation_named}
use Rattle.log4rs_rolling.specs.Roller.{kept_by, moves_of}
use Rattle.log4rs_rolling.proofs.Rollers.{rotation_clean, rotation_rolled, rotation_silent}
use Rattle.log4rs_rolling.proofs.fixed_window.FixedWindowRollerRoll.roll.Goals as goal

pub returns-clause-rolled : goal.returns-clause-rolled
returns-clause-rolled g c =
    let disk = g.S.Store.disk in
    let self = c.args.self.now in
    rotation_rolled self c.args.file.now (OnlyRenames self.rename_only (disk c.args.store.now) (disk c.rotate.new.store)) (disk c.args.store.now) (disk c.rotate.new.store) c.rotate.result c.rotate.ensures.moved.ok c.rotate.ensures.moved.err
    (search rules) (search rules)

pub returns-clause-made : goal.returns-clause-made
returns-clause-made g c = λ built.
    let disk = g.S.Store.disk in
    let self = c.args.self.now in
    let only_renames = OnlyRenames self.rename_only (disk c.args.store.now) (disk c.rotate.new.store) in
    let moves = moves_of self c.args.file.now in record {
      silent = rotation_silent only_renames (disk c.args.store.now) (disk c.rotate.new.store) moves c.rotate.result c.rotate.ensures.moved.ok c.rotate.ensures.moved.err;
      copies = λ none. rotation_clean only_renames (disk c.args.store.now) (disk c.rotate.new.store) moves c.rotate.result c.rotate.ensures.moved.ok c.rotate.ensures.moved.err (inr none);
      unrefused = λ only. c.rotate.ensures.moved.unrefused (at_once_renames self (search rules) only);
      cost = let most = roller_cost self in makes_within _ _ (disk c.args.store.now) (disk c.rotate.new.store) c.rotate.ensures.cost.made (omega arith);
    }

pub returns-clause-limits : goal.returns-clause-limits
returns-clause-limits g c =
    let disk = g.S.Store.disk in
    let self = c.args.self.now in
    let only_renames = OnlyRenames self.rename_only (disk c.args.store.now) (disk c.rotate.new.store) in
    let moves = moves_of self c.args.file.now in record {
      renames = λ only. rotation_clean only_renames (disk c.args.store.now) (disk c.rotate.new.store) moves c.rotate.result c.rotate.ensures.moved.ok c.rotate.ensures.moved.err (inl (at_once_renames self (search rules) only));
      elsewhere = λ ours. (ours, λ built. rotation_named self c.args.file.now only_renames (disk c.args.store.now) (disk c.rotate.new.store) c.rotate.result c.rotate.ensures.moved.ok c.rotate.ensures.moved.err (search rules));
      names = names_same (kept_by self);
      store = search rules;
    }
