-- What a run saw of its lines.
use Rattle.std.specs.Prelude.{Bool, ◌&&◌}
use Rattle.log4rs_command.specs.declared.seen.Seen.{Seen}

-- what was seen of some lines and of others
abbrev pub both_seen : Seen → Seen → Seen
both_seen first second =
    record {
      all_read = first.all_read && second.all_read;
      all_logged = first.all_logged && second.all_logged;
    }

-- all lines and all appends were well
abbrev pub is_all_well : Seen → Bool
is_all_well seen = seen.all_read && seen.all_logged
