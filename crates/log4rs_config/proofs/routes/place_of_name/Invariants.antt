use Rattle.std.proofs.Common.{◌≡◌, ◌≤◌, ◌+◌, ◌-◌, length, map, drop}
use Rattle.std.specs.List.{position_or_len}
use Rattle.std.specs.Str.{bytes_eq}
use Rattle.log4rs_config.proofs.routes.place_of_name.Given as goal

-- the names that are left decide
abbrev pub invariant-loop-i : goal.invariant-loop-i
invariant-loop-i g l =
    (l.i ≤ length l.appenders)
    × (position_or_len (bytes_eq l.fn.name) (map g.A.Named.name l.appenders) ≡ l.i + position_or_len (bytes_eq l.fn.name) (map g.A.Named.name (drop l.i l.appenders)))

abbrev pub decreases-loop-i : goal.decreases-loop-i
decreases-loop-i g l = length l.appenders - l.i
