use Rattle.std.proofs.Common.{rules, ◌≡◌, ◌++◌, encode_utf8}
use Rattle.std.proofs.lemmas.Str.{chars_past_char}
use Rattle.log4rs_base.proofs.paths.env.first.Goals as goal

pub returns-clause-chars : goal.returns-clause-chars
returns-clause-chars c =
    let split : c.args.text.now ≡ encode_utf8 c.in_ok-c.c ++ c.as_str.result.now = search rules in
    chars_past_char c.args.text.now c.as_str.result.now c.in_ok-c.c c.utf8.text split
