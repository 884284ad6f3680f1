-- The tree of a TOML value: a floating-point number or a date-time is refused,
-- the first of the walk.
use Rattle.std.specs.Prelude.{Result, Ok, Err}
use Rattle.toml.specs.Data as toml
use Rattle.log4rs_settings.specs.Data.{Data, boolean, number, text, list, map, Items, no_items}
use Rattle.log4rs_settings.specs.Data.{item, Members, no_members, member}
use Rattle.log4rs_settings.specs.Parts.{map_ok, both}
use Rattle.log4rs_settings.specs.declared.text.TextError.{TextError}
use Rattle.log4rs_settings.specs.declared.text.TextError.TheVariants.{FloatRefused}
use Rattle.log4rs_settings.specs.declared.text.TextError.TheVariants.{DateTimeRefused}

abbrev mutual
  pub of_toml : toml.Data → Result Data TextError
  of_toml (toml.string s) = Ok (text s)
  of_toml (toml.integer z) = Ok (number z)
  of_toml (toml.float x) = Err FloatRefused
  of_toml (toml.boolean b) = Ok (boolean b)
  of_toml (toml.datetime dt) = Err DateTimeRefused
  of_toml (toml.array ds) = map_ok list (of_toml_items ds)
  of_toml (toml.table ms) = map_ok map (of_toml_members ms)

  pub of_toml_items : toml.Items → Result Items TextError
  of_toml_items toml.no_items = Ok no_items
  of_toml_items (toml.item d ds) = both item (of_toml d) (of_toml_items ds)

  pub of_toml_members : toml.Members → Result Members TextError
  of_toml_members toml.no_members = Ok no_members
  of_toml_members (toml.member k d ms) = both (member k) (of_toml d) (of_toml_members ms)
