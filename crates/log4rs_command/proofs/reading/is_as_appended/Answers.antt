use Rattle.std.proofs.Common.{◌≡◌, ℕ, List, ◌++◌, sym, subst, ◌∙◌}
use Rattle.std.specs.Fmt.{decimal}
use Rattle.std.specs.Prelude.{codes}
use Rattle.std.proofs.lemmas.Slice.Eq.{bytes_eq-Decides}
use Rattle.log4rs_journal.specs.Receipts.{logged_of, context_of}
use Rattle.log4rs_journal.specs.Texts.{IsTextOf}
use Rattle.log4rs_command.specs.ThreadRecords.{target_of}
use Rattle.log4rs_command.proofs.ThreadRecordLemmas.{line_of_parts}
use Rattle.log4rs_command.proofs.reading.is_as_appended.Goals as goal

pub returns : goal.returns
returns g c =
    let receipt = c.args.receipt.now in let shown = c.text.result.now in let is = c.requires.receipt in
    let entry = subst (λ (p : List ℕ). IsTextOf p (logged_of receipt) (context_of receipt) shown) c.requires.pattern c.text.ensures.entry in
    let line : shown ≡ target_of c.args.thread ++ (codes " " ++ decimal c.args.number) =
    c.texts_are_lines.ensures _ _ shown entry ∙ line_of_parts _ _ _ _ is.target is.message in
    c.eq.ensures ∙ (bytes_eq-Decides shown c.as_str.result.now).1 (line ∙ sym c.in_ok-line.ensures ∙ sym c.as_str.ensures.value)
