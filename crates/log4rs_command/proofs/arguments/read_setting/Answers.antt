use Rattle.std.proofs.Common.{lit<, sym}
use Rattle.log4rs_command.specs.Arguments.{equals_sign}
use Rattle.log4rs_command.proofs.Parsed.{none_holds, parsed_none, parsed_some}
use Rattle.log4rs_command.proofs.SettingLemmas.{no_setting-no_name, no_setting-no_level}
use Rattle.log4rs_command.proofs.Splits.{rsplit_once_parts}
use Rattle.log4rs_command.proofs.arguments.read_setting.Goals as goal

pub returns-in_err-name-clause-none : goal.returns-in_err-name-clause-none
returns-in_err-name-clause-none c =
    let parts = rsplit_once_parts equals_sign c.args.arg.now c.rsplit_once.result c.rsplit_once.ensures.cases (lit< tt) in
    let no_name = rw c.in_err-name.was at parts in
    none_holds _ (no_setting-no_name c.args.arg.now no_name)

pub returns-in_err-level-clause-none : goal.returns-in_err-level-clause-none
returns-in_err-level-clause-none c =
    let parts = rsplit_once_parts equals_sign c.args.arg.now c.rsplit_once.result c.rsplit_once.ensures.cases (lit< tt) in
    let split = rw c.in_ok-name.was at parts in
    let unnamed = parsed_none _ c.parse.result c.parse.ensures.value (sym c.in_err-level.ensures.value) in
    none_holds _ (no_setting-no_level c.args.arg.now c.in_ok-name.name.now c.in_ok-name.word.now split unnamed)

pub returns-clause-setting : goal.returns-clause-setting
returns-clause-setting c =
    let parts = rsplit_once_parts equals_sign c.args.arg.now c.rsplit_once.result c.rsplit_once.ensures.cases (lit< tt) in
    let split = rw c.in_ok-name.was at parts in
    let named = parsed_some _ c.parse.result c.in_ok-level.level c.parse.ensures.value (sym c.in_ok-level.ensures.value) in
    record { word = c.in_ok-name.word.now; parts = split.0; word_begins = split.1; names = named }
