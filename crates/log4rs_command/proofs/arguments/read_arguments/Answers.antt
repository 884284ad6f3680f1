use Rattle.std.proofs.Common.{◌≡◌, sym, string_bytes, codes, true, ◌∙◌}
use Rattle.std.specs.Str.{bytes_eq}
use Rattle.std.proofs.lemmas.List.{take_rest}
use Rattle.std.proofs.lemmas.Slice.Eq.{bytes_eq-Decides}
use Rattle.log4rs_command.specs.Arguments.{asked_settings}
use Rattle.log4rs_command.proofs.SettingLemmas.{AreArguments-file, AreArguments-parts, AreArguments-threads}
use Rattle.log4rs_command.proofs.arguments.read_arguments.Goals as goal

pub returns-then-eq-clause-command : goal.returns-then-eq-clause-command
returns-then-eq-clause-command c =
    let same : bytes_eq c.as_str-2.result.now (codes "pattern") ≡ true = sym c.if-eq.ensures in
    let is : string_bytes c.command-item.result ≡ codes "pattern" = sym c.as_str-2.ensures.value ∙ (bytes_eq-Decides c.as_str-2.result.now (codes "pattern")).0 same in
    let rest = rw (take_rest c.args.args.now 2) at c.in_ok-settings.ensures.settings in
    rw c.as_str-then-eq.ensures.value (AreArguments-parts c.args.args.now c.command-item.result c.first-item.result (asked_settings c.in_ok-settings.settings.items)
    c.in-len2-up.len_at_least c.command-item.is c.first-item.is is rest)

pub returns-then-eq-2-clause-command : goal.returns-then-eq-2-clause-command
returns-then-eq-2-clause-command c =
    let same : bytes_eq c.as_str-3.result.now (codes "file") ≡ true = sym c.if-eq-2.ensures in
    let is : string_bytes c.command-item.result ≡ codes "file" = sym c.as_str-3.ensures.value ∙ (bytes_eq-Decides c.as_str-3.result.now (codes "file")).0 same in
    let plain = rw (take_rest c.args.args.now 2) at c.in_ok-plain.ensures.plain in
    rw c.as_str-then-eq-2.ensures.value (AreArguments-file c.args.args.now c.command-item.result c.first-item.result _ c.in-len2-up.len_at_least
    c.command-item.is c.first-item.is is plain)

pub returns-then-eq-3-clause-command : goal.returns-then-eq-3-clause-command
returns-then-eq-3-clause-command c =
    let same : bytes_eq c.as_str-4.result.now (codes "threads") ≡ true = sym c.if-eq-3.ensures in
    let is : string_bytes c.command-item.result ≡ codes "threads" = sym c.as_str-4.ensures.value ∙ (bytes_eq-Decides c.as_str-4.result.now (codes "threads")).0 same in
    let numbers = rw (c.as_str-then-eq-3.ensures.value, take_rest c.args.args.now 2) at c.in_ok-threads.ensures.numbers in
    AreArguments-threads c.args.args.now c.command-item.result c.first-item.result c.in_ok-threads.threads c.in_ok-threads.count c.in-len2-up.len_at_least
    c.command-item.is c.first-item.is is numbers
