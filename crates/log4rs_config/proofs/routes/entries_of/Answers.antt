use Rattle.std.proofs.Common.{◌≡◌, ◌∙◌, ◌<◌, ◌+◌, suc, sym, ap, refl, subst, arith, ℕ, List, [], Option, Some, None, map, length, take, get_or, slice_get, string_bytes}
use Rattle.std.proofs.lemmas.List.{take_all, length-take-le}
use Rattle.std.proofs.lemmas.Option.{slice_get-get_or}
use Rattle.log4rs_base.specs.Text.{Text}
use Rattle.log4rs_config.specs.Name.{components}
use Rattle.log4rs_config.specs.Order.{Rise}
use Rattle.log4rs_config.specs.Settings.{LoggerSetting}
use Rattle.log4rs_config.specs.Walk.{name_at, walk, chained}
use Rattle.log4rs_config.specs.declared.routes.Entry.{Entry}
use Rattle.log4rs_config.specs.declared.routes.Numbered.{Numbered}
use Rattle.log4rs_config.proofs.Climbing.{mapped-get, one-mapped}
use Rattle.log4rs_config.proofs.Halving.{get_there}
use Rattle.log4rs_config.proofs.Preceding.{above-lower, if-below, listed, own-list}
use Rattle.log4rs_config.proofs.Rising.{length-same}
use Rattle.log4rs_config.specs.Seeks.{keys_of}
use Rattle.log4rs_config.proofs.Settled.{maps}
use Rattle.log4rs_config.proofs.routes.entries_of.Goals as goal

pub list_of-requires : goal.list_of-requires
list_of-requires g c =
    let loggers : List Numbered = c.args.loggers.now in
    let above = c.args.above.now in
    let names : List Text = map (λ n. n.logger.now.name) loggers in
    let entries : List Entry = c.loop-one.entries.items in
    let i = c.loop-one.one-index in
    let lt : i < length loggers = omega (arith, c.loop-one-test.true) in
    let there = get_there loggers i c.one-item.result lt c.one-item.is in
    let named : slice_get names i ≡ Some c.one-item.result.logger.now.name = mapped-get (λ (n : Numbered). n.logger.now.name) loggers i c.one-item.result there in
    let rise : Rise (keys_of names) = subst Rise (sym (maps components (λ (n : Numbered). n.logger.now.name) loggers)) c.requires.rising in
    let many : length (map (λ (e : Entry). string_bytes e.name) entries) ≡ length (map (λ (n : Numbered). n.logger.now.name) (take i loggers)) = ap (λ (xs : List Text). length xs) c.loop-one.invariant.0 in
    let long : length entries ≡ i = omega (arith, many, length-same (λ (e : Entry). string_bytes e.name) entries, length-same (λ (n : Numbered). n.logger.now.name) (take i loggers), length-take-le i loggers (omega (arith, lt))) in
    let here : c.len.result ≡ i = omega (arith, c.len.ensures, long) in
    rw (c.deref.ensures.value, here)
    (if-below (get_or above i None) (length entries)
    (λ up is.
    let down = above-lower names above i c.one-item.result.logger.now.name up rise c.requires.above named (slice_get-get_or above i None (omega (arith, lt, c.requires.all)) ∙ ap (λ (o : Option ℕ). Some o) is) in
    omega (arith, down, long)))

pub loop-one-preserved : goal.loop-one-preserved
loop-one-preserved g c =
    let loggers : List Numbered = c.args.loggers.now in
    let above = c.args.above.now in
    let ns : List Text = map g.A.Named.name c.args.appenders.now in
    let names : List Text = map (λ n. n.logger.now.name) loggers in
    let ls : List LoggerSetting = map (λ n. n.logger.now) loggers in
    let entries : List Entry = c.loop-one.entries.items in
    let i = c.loop-one.one-index in
    let n : Numbered = c.one-item.result in
    let lt : i < length loggers = omega (arith, c.loop-one-test.true) in
    let there : slice_get loggers i ≡ Some n = get_there loggers i n lt c.one-item.is in
    let named : slice_get names i ≡ Some n.logger.now.name = mapped-get (λ (n : Numbered). n.logger.now.name) loggers i n there in
    let set : slice_get ls i ≡ Some n.logger.now = mapped-get (λ (n : Numbered). n.logger.now) loggers i n there in
    let rise : Rise (keys_of names) = subst Rise (sym (maps components (λ (n : Numbered). n.logger.now.name) loggers)) c.requires.rising in
    let inv = c.loop-one.invariant in
    let many : length (map (λ (e : Entry). string_bytes e.name) entries) ≡ length (map (λ (n : Numbered). n.logger.now.name) (take i loggers)) = ap (λ (xs : List Text). length xs) inv.0 in
    let long : length entries ≡ i = omega (arith, many, length-same (λ (e : Entry). string_bytes e.name) entries, length-same (λ (n : Numbered). n.logger.now.name) (take i loggers), length-take-le i loggers (omega (arith, lt))) in
    let here : c.len.result ≡ i = omega (arith, c.len.ensures, long) in
    let given = rw (c.deref.ensures.value, here) at c.list_of.ensures in
    let made = own-list ns ls names above (map (λ (e : Entry). e.route.places.items) entries) c.args.list.now i n.logger.now (get_or above i None) c.list_of.result.now c.in_ok-places.places.items
    rise c.requires.above set named (slice_get-get_or above i None (omega (arith, lt, c.requires.all)))
    (λ q k l kt. ap (λ (xs : List (List ℕ)). get_or xs q []) inv.3 ∙ listed (λ (n : Numbered). n.logger.now.name) (λ (name : Text). walk (chained ns ls) (name_at names) c.args.list.now (components name)) [] i loggers q k l kt)
    given c.in_ok-places.ensures in
    let next : i + 1 ≡ suc i = omega arith in
    let new = c.in_ok-push.ensures.items in (
      one-mapped (λ (e : Entry). string_bytes e.name) (λ (n : Numbered). n.logger.now.name) entries c.push.new.self.items loggers _ n i (i + 1) new there next inv.0 (c.in_ok-from_str.ensures.ok ∙ c.name.ensures),
      one-mapped (λ (e : Entry). e.place) (λ (n : Numbered). n.place) entries c.push.new.self.items loggers _ n i (i + 1) new there next inv.1 refl,
      one-mapped (λ (e : Entry). e.route.level) (λ (n : Numbered). n.logger.now.level) entries c.push.new.self.items loggers _ n i (i + 1) new there next inv.2 c.level.ensures,
      one-mapped (λ (e : Entry). e.route.places.items) (λ (n : Numbered). walk (chained ns ls) (name_at names) c.args.list.now (components n.logger.now.name)) entries c.push.new.self.items loggers _ n i (i + 1) new there next inv.3 made,
    )

pub returns-clause-lists : goal.returns-clause-lists
returns-clause-lists g c =
    let loggers : List Numbered = c.args.loggers.now in
    let ns : List Text = map g.A.Named.name c.args.appenders.now in
    let names : List Text = map (λ n. n.logger.now.name) loggers in
    let ls : List LoggerSetting = map (λ n. n.logger.now) loggers in
    c.loop-one.invariant.3
    ∙ ap (λ (xs : List Numbered). map (λ (n : Numbered). walk (chained ns ls) (name_at names) c.args.list.now (components n.logger.now.name)) xs)
    (take_all c.loop-one.one-index loggers (omega (arith, c.loop-one-test.false)))
