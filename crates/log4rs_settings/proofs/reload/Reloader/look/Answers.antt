use Rattle.std.proofs.Common.{◌≡◌, ◌≢◌, ◌∷◌, ◌++◌, [], true≢false, string_bytes, refl, sym, ◌∙◌}
use Rattle.std.proofs.lemmas.Slice.Eq.{bytes_eq-Decides}
use Rattle.std.proofs.lemmas.Result.{err_from_is_err_and}
use Rattle.log4rs_settings.specs.Answers.{no_text, has_text, stamped}
use Rattle.log4rs_settings.specs.Reload.{stamp_equal, text_refused, text_equal}
use Rattle.log4rs_settings.specs.declared.source.SourceError.TheVariants.{Refused}
use Rattle.log4rs_settings.proofs.Rows.{told_last, failed_ask}
use Rattle.log4rs_settings.proofs.reload.Reloader.look.Goals as goal

pub returns-in_err-ask : goal.returns-in_err-ask
returns-in_err-ask g c =
    let p = err_from_is_err_and c.from_residual.result c.from_residual.ensures.1 in
    rw (p.1, p.2) (failed_ask _ _ _ _ c.in_err-ask.ensures)

pub returns-in-Same : goal.returns-in-Same
returns-in-Same g c =
    let h = rw c.in-Same.is at c.in_ok-ask.ensures in
    (stamped h.0 ∷ [], h.2, stamp_equal h.0 h.1)

pub returns-in-Err-Refused : goal.returns-in-Err-Refused
returns-in-Err-Refused g c =
    let h = rw c.in-Changed.is at c.in_ok-ask.ensures in
    let n = rw c.in-Err-Refused.field-0-is at c.in-Err-Refused.ensures in
    (h.0 ++ no_text Refused ∷ [], told_last _ _ _ h.0 _ h.2 n, text_refused c.in-Changed.stamp h.0 h.1)

pub returns-then-eq : goal.returns-then-eq
returns-then-eq g c =
    let h = rw c.in-Changed.is at c.in_ok-ask.ensures in
    let eq : string_bytes c.in-Ok.text ≡ string_bytes c.args.self.now.source = sym c.as_str.ensures.value ∙ (bytes_eq-Decides _ _).0 (sym c.eq.ensures ∙ c.if-eq.true) ∙ c.as_str-2.ensures.value in
    let n = rw eq at c.in-Ok.ensures in
    (h.0 ++ has_text (string_bytes c.args.self.now.source) ∷ [], told_last _ _ _ h.0 _ h.2 n, text_equal c.in-Changed.stamp h.0 h.1)

pub returns : goal.returns
returns g c =
    let h = rw c.in-Changed.is at c.in_ok-ask.ensures in
    let new : string_bytes c.in-Ok.text ≢ string_bytes c.args.self.now.source =
    λ e. true≢false (sym ((bytes_eq-Decides _ _).1 (c.as_str.ensures.value ∙ e ∙ sym c.as_str-2.ensures.value)) ∙ sym c.eq.ensures ∙ c.if-eq.false) in
    (h.0, h.1, new, told_last _ _ _ h.0 _ h.2 c.in-Ok.ensures, refl)
