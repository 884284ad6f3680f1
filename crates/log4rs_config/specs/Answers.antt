-- The results of logging a list of entries.
use Rattle.std.specs.Prelude.{◌≡◌, List, [], ◌∷◌, Result}
use Rattle.log4rs_base.specs.declared.record.Entry.{Entry}
use Rattle.log4rs_append.specs.Sink.{Sink}
use Rattle.log4rs_config.specs.Routing.{Deliveries}
use Rattle.log4rs_config.specs.declared.delivery.CoreError.{CoreError}
use Rattle.log4rs_config.specs.Answer.{IsAnswer}

-- each entry has its result, in order
abbrev pub AreAnswers : Deliveries → List Entry
    → List (Result Unit CoreError) → List Sink → List Sink → Type 0
AreAnswers deliveries [] [] before after = after ≡ before
AreAnswers deliveries (e ∷ entries) (a ∷ answers) before after =
    (between : List Sink)
    × IsAnswer e.logged e.context (deliveries e.logged) a before between
    × AreAnswers deliveries entries answers between after
AreAnswers deliveries [] (_ ∷ _) before after = ⊥
AreAnswers deliveries (_ ∷ _) [] before after = ⊥
