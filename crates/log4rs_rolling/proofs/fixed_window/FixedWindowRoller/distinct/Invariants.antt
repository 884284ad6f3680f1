use Rattle.std.proofs.Common.{◌≡◌, ℕ, List}
use Rattle.std.specs.BTreeSet.{contains_text}
use Rattle.log4rs_rolling.specs.Roller.{archive_name, names_beside}
use Rattle.log4rs_rolling.specs.Window.{AreDistinct}
use Rattle.log4rs_rolling.proofs.Distinct.{is_among, names_to}
use Rattle.log4rs_rolling.proofs.fixed_window.FixedWindowRoller.distinct.Given as goal

abbrev pub invariant-loop-at : goal.invariant-loop-at
invariant-loop-at l =
    let names = names_to (archive_name l.self) l.self.base (names_beside l.self.background l.active) l.at in
    record {
      distinct : AreDistinct names;
      known : (name : List ℕ) → contains_text l.names name ≡ is_among name names;
    }
