use Rattle.std.proofs.Common.{string_bytes, subst}
use Rattle.log4rs_journal.specs.Receipts.{Journal, pattern_of}
use Rattle.log4rs_journal.specs.Texts.{IsTextOf}
use Rattle.log4rs_journal.proofs.Making.{text_made}
use Rattle.log4rs_journal.proofs.journal.SharedJournal.rendered.Goals as goal

pub returns : goal.returns
returns g c =
    let logged = c.args.logged.now in let context = c.args.context.now in
    subst (λ (j : Journal). IsTextOf (pattern_of j) logged context (string_bytes c.in_ok-text.text)) c.self.view_is
    (text_made _ _ logged context _ _ _ c.self.invariant c.new-styled.ensures c.in_default.ensures.ok c.in_ok-text.ensures.text)
