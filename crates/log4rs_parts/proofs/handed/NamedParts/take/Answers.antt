use Rattle.std.proofs.Common.{◌≡◌, map, ap, sym, ◌∙◌, position, Some, None}
use Rattle.log4rs_parts.specs.NamedParts.{is_for, entry}
use Rattle.log4rs_parts.proofs.Earliest.{nobody, taken}
use Rattle.log4rs_parts.proofs.handed.NamedParts.take.Goals as goal

pub returns-in-Some-clause-value : goal.returns-in-Some-clause-value
returns-in-Some-clause-value g c =
    let items = c.args.self.now.parts.items in
    let found : position (is_for c.args.appender.now) items ≡ Some c.in-Some.at = ap (position (is_for c.args.appender.now)) (sym c.deref.ensures.value) ∙ sym c.place_of.ensures ∙ c.in-Some.is in
    sym (taken c.args.appender.now items c.in-Some.at c.remove-part.result found c.remove-part.ensures.value).0

pub returns-in-Some-clause-left : goal.returns-in-Some-clause-left
returns-in-Some-clause-left g c =
    let items = c.args.self.now.parts.items in
    let found : position (is_for c.args.appender.now) items ≡ Some c.in-Some.at = ap (position (is_for c.args.appender.now)) (sym c.deref.ensures.value) ∙ sym c.place_of.ensures ∙ c.in-Some.is in
    ap (map entry) c.remove-part.ensures.items ∙ sym (taken c.args.appender.now items c.in-Some.at c.remove-part.result found c.remove-part.ensures.value).1

pub returns-in-None-clause-value : goal.returns-in-None-clause-value
returns-in-None-clause-value g c =
    let items = c.args.self.now.parts.items in
    let none : position (is_for c.args.appender.now) items ≡ None = ap (position (is_for c.args.appender.now)) (sym c.deref.ensures.value) ∙ sym c.place_of.ensures ∙ c.in-None.is in
    sym (nobody c.args.appender.now items none).0

pub returns-in-None-clause-left : goal.returns-in-None-clause-left
returns-in-None-clause-left g c =
    let items = c.args.self.now.parts.items in
    let none : position (is_for c.args.appender.now) items ≡ None = ap (position (is_for c.args.appender.now)) (sym c.deref.ensures.value) ∙ sym c.place_of.ensures ∙ c.in-None.is in
    sym (nobody c.args.appender.now items none).1
