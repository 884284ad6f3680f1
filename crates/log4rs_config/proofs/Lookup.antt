-- Routing by look-ups alone.
use Rattle.std.proofs.Common.{◌≡◌, Bool, List, [], ◌∷◌, refl, ap, ◌∙◌}
use Rattle.std.specs.Option.{option_map_or}
use Rattle.log4rs_base.specs.declared.record.Record.{Record}
use Rattle.log4rs_base.specs.Text.{Text}
use Rattle.log4rs_config.specs.Name.{path_of}
use Rattle.log4rs_config.specs.Settings.{LoggerSetting, RootSetting}
use Rattle.log4rs_config.specs.Routing.{let_through}
use Rattle.log4rs_config.specs.Routing.{governing, level_at, appender_list, places, deliveries}
use Rattle.log4rs_config.specs.Laws.{SameLookup}
use Rattle.std.proofs.Common.{Option, string_bytes}

pub governing_same : (xs ys : List LoggerSetting) → SameLookup xs ys → (path : List Text) → governing xs path ≡ governing ys path
governing_same xs ys h [] = refl
governing_same xs ys h (part ∷ above) = rw (h (part ∷ above), governing_same xs ys h above) refl

pub list_same : (names : List Text) (root : RootSetting) (xs ys : List LoggerSetting) → SameLookup xs ys → (path : List Text)
    → appender_list (record { appenders = names; root = root; loggers = xs }) path ≡ appender_list (record { appenders = names; root = root; loggers = ys }) path
list_same names root xs ys h [] = refl
list_same names root xs ys h (part ∷ above) = rw (h (part ∷ above), list_same names root xs ys h above) refl

pub deliveries_same : (names : List Text) (root : RootSetting) (xs ys : List LoggerSetting) (admits : Record → List Bool) (r : Record) → SameLookup xs ys
    → deliveries (record { appenders = names; root = root; loggers = xs }) admits r ≡ deliveries (record { appenders = names; root = root; loggers = ys }) admits r
deliveries_same names root xs ys admits r h =
    let path = path_of (string_bytes r.target) in
    ap (λ (g : Option LoggerSetting). let_through (option_map_or (λ (l : LoggerSetting). l.level) g root.level) (places names (appender_list (record { appenders = names; root = root; loggers = xs }) path)) (admits r) r.level) (governing_same xs ys h path)
    ∙ ap (λ (l : List Text). let_through (level_at (record { appenders = names; root = root; loggers = ys }) path) (places names l) (admits r) r.level) (list_same names root xs ys h path)
