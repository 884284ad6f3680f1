-- The tree of a JSON value: a floating-point number is refused, the first of the walk.
use Rattle.std.specs.Prelude.{Result, Ok, Err, pos}
use Rattle.serde_json.specs.Data as json
use Rattle.log4rs_settings.specs.Data.{Data, null, boolean, number, text, list, map, Items}
use Rattle.log4rs_settings.specs.Data.{no_items, item, Members, no_members, member}
use Rattle.log4rs_settings.specs.Parts.{map_ok, both}
use Rattle.log4rs_settings.specs.declared.text.TextError.{TextError}
use Rattle.log4rs_settings.specs.declared.text.TextError.TheVariants.{FloatRefused}

abbrev pub of_number : json.Num → Result Data TextError
of_number (json.unsigned n) = Ok (number (pos n))
of_number (json.negative z) = Ok (number z)
of_number (json.float x) = Err FloatRefused

abbrev mutual
  pub of_json : json.Data → Result Data TextError
  of_json json.null = Ok null
  of_json (json.boolean b) = Ok (boolean b)
  of_json (json.number n) = of_number n
  of_json (json.string s) = Ok (text s)
  of_json (json.array ds) = map_ok list (of_json_items ds)
  of_json (json.object ms) = map_ok map (of_json_members ms)

  pub of_json_items : json.Items → Result Items TextError
  of_json_items json.no_items = Ok no_items
  of_json_items (json.item d ds) = both item (of_json d) (of_json_items ds)

  pub of_json_members : json.Members → Result Members TextError
  of_json_members json.no_members = Ok no_members
  of_json_members (json.member k d ms) = both (member k) (of_json d) (of_json_members ms)
