-- Kinds that are put in one after another.
use Rattle.std.proofs.Common.{◌≡◌, ◌&&◌, List, ◌∷◌, ℕ, Some, if◌then◌else◌, ap, ◌∙◌}
use Rattle.std.specs.Str.{bytes_eq}
use Rattle.log4rs_settings.specs.Makers.{Kinds, class_of, with_kind, kinds_from}
use Rattle.log4rs_settings.specs.declared.makers.Maker.{Maker}

-- the kinds are these
abbrev pub AreFrom : List (List ℕ × Maker) → Kinds → Type 0
AreFrom ms kinds = (class : List ℕ) (kind : List ℕ) → kinds class kind ≡ kinds_from ms class kind

-- one kind more
pub then_kind : (name : List ℕ) (maker : Maker) (ms : List (List ℕ × Maker)) (old new : Kinds) → ((class : List ℕ) (kind : List ℕ) → new class kind ≡ with_kind name maker old class kind)
    → AreFrom ms old → AreFrom ((name, maker) ∷ ms) new
then_kind name maker ms old new here before class kind =
    here class kind ∙ ap (λ found. if bytes_eq (class_of maker) class && bytes_eq name kind then Some maker else found) (before class kind)
