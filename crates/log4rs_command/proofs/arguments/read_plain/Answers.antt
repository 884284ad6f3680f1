use Rattle.std.proofs.Common.{◌≡◌, ap, sym, string_bytes, codes, length, true, Some, ◌∙◌, arith, rules}
use Rattle.std.specs.Result.{result_ok}
use Rattle.std.specs.Str.{bytes_eq}
use Rattle.std.proofs.lemmas.Slice.Eq.{bytes_eq-Decides}
use Rattle.log.specs.Level.{parse_level}
use Rattle.log4rs_command.proofs.Parsed.{parsed_some}
use Rattle.log4rs_command.proofs.SettingLemmas.{ArePlain-parts}
use Rattle.log4rs_command.proofs.arguments.read_plain.Goals as goal

pub returns-clause-plain : goal.returns-clause-plain
returns-clause-plain c =
    let same : bytes_eq c.as_str-2.result.now (codes "--plain") ≡ true = search rules in
    let is : string_bytes c.option-item.result ≡ codes "--plain" = sym c.as_str-2.ensures.value ∙ (bytes_eq-Decides c.as_str-2.result.now (codes "--plain")).0 same in
    let read : parse_level c.as_str.result.now ≡ Some c.in-Ok.level = parsed_some _ c.parse.result c.in-Ok.level c.parse.ensures.value (ap result_ok c.in-Ok.is) in
    let named : parse_level (string_bytes c.word-item.result) ≡ Some c.in-Ok.level = rw c.as_str.ensures.value at read in
    let three : length c.args.args.now ≡ 3 = omega (arith, c.in-len3.len_at_least, c.in-len3.len_below) in
    ArePlain-parts c.args.args.now c.option-item.result c.word-item.result c.target-item.result _ three
    c.option-item.is c.word-item.is c.target-item.is is named (sym c.as_str-3.ensures.value)
