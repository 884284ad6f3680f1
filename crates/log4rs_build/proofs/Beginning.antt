-- A text that is read again.
use Rattle.std.proofs.Common.{◌≡◌, ◌∙◌, ℕ, List, [], ◌∷◌, ◌++◌, Option, Some, None, Result, Ok, ap, append_assoc}
use Rattle.std.specs.Result.{result_ok}
use Rattle.log4rs_build.specs.Raw.{settings_in}
use Rattle.log4rs_settings.specs.Answers.{Answer, Answered, Told, ToldOne, has_text, modified_answer}
use Rattle.log4rs_settings.specs.Named.{format_named}
use Rattle.log4rs_settings.specs.Reload.{ReloaderState}
use Rattle.log4rs_settings.specs.declared.source.SourceError.{SourceError}
use Rattle.log4rs_settings.specs.Top.{TopSettings}
use Rattle.log4rs_settings.specs.declared.text.Format.{Format}
use Rattle.log4rs_build.specs.Begins.{Begins}

-- one answer after another
told_two : (before mid after : Answered) (a b : Answer) → ToldOne before mid a → ToldOne mid after b → Told before after (a ∷ b ∷ [])
told_two None mid after a b m n = rw m at n
told_two (Some old) mid after a b m n =
    let last : after ≡ Some ((old ++ a ∷ []) ++ b ∷ []) = rw m at n in
    last ∙ ap Some (append_assoc old (a ∷ []) (b ∷ []))

-- a text that asks for a rate, and the stamp that came after it
pub begins_again : (extension : Option (List ℕ)) (before mid after : Answered) (top : TopSettings) (again : ReloaderState) (format : Format) (text : List ℕ) (rate : ℕ)
    (stamp : Result ℕ SourceError) → format_named extension ≡ Ok format → settings_in format text ≡ Ok top → ToldOne before mid (has_text text)
    → ToldOne mid after (modified_answer stamp) → top.rate ≡ Some rate
    → again ≡ record { format = format; source = text; stamp = result_ok stamp; rate = Some rate } → Begins extension before after top (Some again)
begins_again extension before mid after top again format text rate stamp named says read asked asks keeps =
    record {
      format = format;
      text = text;
      named = named;
      says = says;
      reads_again = rw asks (stamp, told_two before mid after (has_text text) (modified_answer stamp) read asked, ap Some keeps);
    }
