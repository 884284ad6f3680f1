use Rattle.std.proofs.Common.{lit<, subst, sym}
use Rattle.log4rs_command.specs.Line.{IsNoLine, space}
use Rattle.log4rs_command.proofs.LineLemmas.{line_of_parts, no_line-no_word, no_line-no_target, no_line-no_level}
use Rattle.log4rs_command.proofs.Parsed.{none_holds, parsed_none, parsed_some, checked_text}
use Rattle.log4rs_command.proofs.Splits.{split_once_parts}
use Rattle.log4rs_command.proofs.logging.parse_line.Goals as goal

pub returns-in_err-word-clause-none : goal.returns-in_err-word-clause-none
returns-in_err-word-clause-none c =
    let text = c.in_ok-text.text.now in
    let checked = checked_text c.args.bytes.now _ c.from_utf8.result c.in_ok-text.text c.from_utf8.ensures.cases c.in_ok-text.ensures.value in
    let parts = split_once_parts space text c.split_once.result c.split_once.ensures.cases (lit< tt) in
    let no_word = rw c.in_err-word.was at parts in
    none_holds _ (subst (λ l. IsNoLine l) checked.0 (no_line-no_word text no_word))

pub returns-in_err-target-clause-none : goal.returns-in_err-target-clause-none
returns-in_err-target-clause-none c =
    let text = c.in_ok-text.text.now in
    let checked = checked_text c.args.bytes.now _ c.from_utf8.result c.in_ok-text.text c.from_utf8.ensures.cases c.in_ok-text.ensures.value in
    let parts = split_once_parts space text c.split_once.result c.split_once.ensures.cases (lit< tt) in
    let first = rw c.in_ok-word.was at parts in
    let later = split_once_parts space c.in_ok-word.rest.now c.split_once-2.result c.split_once-2.ensures.cases (lit< tt) in
    let no_target = rw c.in_err-target.was at later in
    none_holds _ (subst (λ l. IsNoLine l) checked.0 (no_line-no_target text c.in_ok-word.word.now c.in_ok-word.rest.now first no_target))

pub returns-in_err-level-clause-none : goal.returns-in_err-level-clause-none
returns-in_err-level-clause-none c =
    let text = c.in_ok-text.text.now in
    let checked = checked_text c.args.bytes.now _ c.from_utf8.result c.in_ok-text.text c.from_utf8.ensures.cases c.in_ok-text.ensures.value in
    let parts = split_once_parts space text c.split_once.result c.split_once.ensures.cases (lit< tt) in
    let first = rw c.in_ok-word.was at parts in
    let unnamed = parsed_none _ c.parse.result c.parse.ensures.value (sym c.in_err-level.ensures.value) in
    none_holds _ (subst (λ l. IsNoLine l) checked.0 (no_line-no_level text c.in_ok-word.word.now c.in_ok-word.rest.now first unnamed))

pub returns-clause-line : goal.returns-clause-line
returns-clause-line c =
    let text = c.in_ok-text.text.now in
    let level = c.in_ok-level.level in
    let target = c.in_ok-target.target.now in
    let message = c.in_ok-target.message.now in
    let checked = checked_text c.args.bytes.now _ c.from_utf8.result c.in_ok-text.text c.from_utf8.ensures.cases c.in_ok-text.ensures.value in
    let parts = split_once_parts space text c.split_once.result c.split_once.ensures.cases (lit< tt) in
    let first = rw c.in_ok-word.was at parts in
    let later = split_once_parts space c.in_ok-word.rest.now c.split_once-2.result c.split_once-2.ensures.cases (lit< tt) in
    let second = rw c.in_ok-target.was at later in
    let named = parsed_some _ c.parse.result level c.parse.ensures.value (sym c.in_ok-level.ensures.value) in
    let whole = rw checked.0 at first in
    line_of_parts c.args.bytes.now c.in_ok-word.word.now c.in_ok-word.rest.now target message level checked.1 whole second named
