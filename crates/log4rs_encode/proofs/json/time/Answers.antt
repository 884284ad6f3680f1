use Rattle.std.proofs.Common.{rules, ◌≡◌, ◌++◌, [], Some, None, codes, true, if◌then◌else◌, refl, append-nil, string_bytes, ap, ◌∙◌, sym, unwrap_or}
use Rattle.log4rs_base.specs.Clock.{ClockFields}
use Rattle.log4rs_base.specs.DateFormat.{items_from, found_at, date_text, has_text_year}
use Rattle.log4rs_base.specs.Directive.{timestamp_text}
use Rattle.log4rs_encode.specs.Table.{error_text}
use Rattle.log4rs_encode.proofs.json.time.Goals as goal

-- the format that has the directive alone
timestamp_alone : (c : ClockFields) → date_text (codes "%+") c ≡ (if has_text_year c then Some (timestamp_text c ++ []) else None)
unfolding items_from found_at
timestamp_alone c = refl

pub returns : goal.returns
returns c =
    let shown : has_text_year c.local-clock.result ≡ true = search rules in
    let text : date_text (codes "%+") c.local-clock.result ≡ Some (timestamp_text c.local-clock.result) =
    timestamp_alone c.local-clock.result ∙ rw (shown, append-nil) refl in
    let written : string_bytes c.push_timestamp.new.out ≡ timestamp_text c.local-clock.result = rw c.requires at c.in_ok-push_timestamp.ensures in
    let error = error_text (codes "year out of range") in
    written ∙ ap (λ shown_text. unwrap_or shown_text error) (sym text) ∙ ap (λ clock. unwrap_or (date_text (codes "%+") clock) error) c.local-clock.ensures
