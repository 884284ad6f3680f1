-- How the logic stores an entry.
use denote.Signature.{static_lft}
use Rattle.std.specs.Coded.{Coded}
use Rattle.log4rs_base.specs.contracts.record.Entry.{the_row}
use Rattle.log4rs_base.specs.declared.record.Entry.{Entry}

-- the code of an entry is the same at each lifetime of its zone
abbrev pub entry_coded : Coded Entry
entry_coded = (the_row static_lft).coded
