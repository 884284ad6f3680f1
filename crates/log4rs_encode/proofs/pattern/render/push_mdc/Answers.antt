use Rattle.std.proofs.Common.{◌≡◌, Some, None, string_bytes, sym}
use Rattle.std.specs.BTreeMap.{get_by_text}
use Rattle.log4rs_encode.proofs.Prints.{pushed_on}
use Rattle.log4rs_encode.proofs.pattern.render.push_mdc.Goals as goal

pub returns-in-Some : goal.returns-in-Some
returns-in-Some c =
    let here : get_by_text c.args.context.now.mdc c.args.key.now ≡ Some c.in-Some.found.now = sym (rw c.in-Some.is at c.get.ensures.value) in
    rw (here, ← c.deref.ensures) (pushed_on c.push_str.result (string_bytes c.args.text.now) (string_bytes c.push_str.new.self) c.deref.result.now c.push_str.ensures.bytes)

pub returns-in-None : goal.returns-in-None
returns-in-None c =
    let here : get_by_text c.args.context.now.mdc c.args.key.now ≡ None = sym (rw c.in-None.is at c.get.ensures.value) in
    rw here (pushed_on c.push_str-in-None.result (string_bytes c.args.text.now) (string_bytes c.push_str-in-None.new.self) c.args.default.now c.push_str-in-None.ensures.bytes)
