-- The records of lines.
use Rattle.std.proofs.Common.{◌≡◌, inl, inr, MatchOption, Option, Some, String, Global, string_bytes, None, refl, sym, subst}
use Rattle.std.specs.Str.Lossy.{utf8_lossy}
use Rattle.log.specs.declared.level.Level.{Level}
use Rattle.log4rs_base.specs.Text.{Text}
use Rattle.log4rs_base.specs.declared.record.Record.{Record}
use Rattle.log4rs_command.specs.Arguments.{Plain}
use Rattle.log4rs_command.specs.Entry.{IsMalformed, IsPlainRecord, IsRecord, IsRecordOf}
use Rattle.log4rs_command.specs.Line.{IsLine, IsNoLine}

-- the record that is made of the parts of a line
pub record_of_line : (line : Text) (level : Level) (target message : Text) (t m : String Global) (r : Record) → IsLine line level target message
    → string_bytes t ≡ target → string_bytes m ≡ message
    → r ≡ record { level = level; target = t; message = m; module_path = None; file = None; line = None } → IsRecord line r
record_of_line line level target message t m r says et em e =
    let says' : IsLine line level (string_bytes t) (string_bytes m) = rw (et, em) says in
    let made : IsRecord line (record { level = level; target = t; message = m; module_path = None; file = None; line = None }) =
    record { says = says'; module_path = refl; file = refl; number = refl } in
    subst (λ q. IsRecord line q) (sym e) made

-- the record that a line tells of, whatever is given for others
pub told_of_line : (given : Option Plain) (line : Text) (r : Record) → IsRecord line r → IsRecordOf given line r
told_of_line None line r is = is
told_of_line (Some plain) line r is = inl is
