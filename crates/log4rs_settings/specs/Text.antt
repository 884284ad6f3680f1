-- The tree that a text is, if it is one.
use Rattle.std.specs.Prelude.{ℕ, List, Option, Some, None, Result, Err}
use Rattle.serde_json.specs.Data as json
use Rattle.serde_json.specs.Read.{read}
use Rattle.toml.specs.Data as toml
use Rattle.toml.specs.Parse.{parse_document}
use Rattle.log4rs_settings.specs.Data.{Data}
use Rattle.log4rs_settings.specs.FromJson.{of_json}
use Rattle.log4rs_settings.specs.FromToml.{of_toml}
use Rattle.log4rs_settings.specs.declared.text.Format.{Format}
use Rattle.log4rs_settings.specs.declared.text.Format.TheVariants.{Json, Toml}
use Rattle.log4rs_settings.specs.declared.text.TextError.{TextError}
use Rattle.log4rs_settings.specs.Placeless.{not_of_format}

-- the tree of what the text of a JSON value is read as
abbrev pub json_tree : Option json.Data → Result Data TextError
json_tree (Some d) = of_json d
json_tree None = Err not_of_format

-- the tree of what the text of a TOML document is read as
abbrev pub toml_tree : Option toml.Members → Result Data TextError
toml_tree (Some ms) = of_toml (toml.table ms)
toml_tree None = Err not_of_format

-- the tree that a text of this format is
abbrev pub tree_of_text : Format → List ℕ → Result Data TextError
tree_of_text Json text = json_tree (read text)
tree_of_text Toml text = toml_tree (parse_document text)
