use Rattle.std.proofs.Common.{◌≡◌, ◌∙◌, ◌<◌, ◌≤◌, length, map, get_or, Option, Some, None, ℕ, sym, ap, subst, refl, arith}
use Rattle.std.proofs.lemmas.Bool.Decides.{Decides-ltb}
use Rattle.std.proofs.lemmas.Option.{slice_get-get_or}
use Rattle.log4rs_base.specs.Text.{Text}
use Rattle.log4rs_config.specs.Above.{IsBelow}
use Rattle.log4rs_config.specs.Name.{components}
use Rattle.log4rs_config.specs.Order.{Rise}
use Rattle.log4rs_config.proofs.Climbing.{Climbed, step-up, climbed-within}
use Rattle.log4rs_config.proofs.Ordered.{there_mapped}
use Rattle.log4rs_config.proofs.Preceding.{above-lower}
use Rattle.log4rs_config.proofs.Rising.{length-same}
use Rattle.log4rs_config.specs.Seeks.{keys_of}
use Rattle.log4rs_config.proofs.Settled.{maps}
use Rattle.log4rs_config.proofs.Sharing.{there-is}
use Rattle.log4rs_config.proofs.search.climb_on.Goals as goal

pub returns-in_default : goal.returns-in_default
returns-in_default g c =
    let names = map g.T.Keyed.key c.args.entries.now in
    let inv = c.loop-up.invariant in
    let link = get_or c.args.above.now c.loop-up.at None in
    let step : Climbed names c.args.front.now link = step-up g.T.Keyed.key c.args.entries.now c.args.above.now c.loop-up.at c.args.front.now link None c.requires.above (omega (arith, inv.0, c.requires.fewer)) inv.1 (sym ((Decides-ltb c.loop-up.at (length c.args.above.now)).1 inv.0)) refl in
    subst (Climbed names c.args.front.now) c.in_default.is step

pub offset_bounds-entries-up : goal.offset_bounds-entries-up
offset_bounds-entries-up g c =
    let names = map g.T.Keyed.key c.args.entries.now in
    let inv = c.loop-up.invariant in
    let link = get_or c.args.above.now c.loop-up.at None in
    let step : Climbed names c.args.front.now link = step-up g.T.Keyed.key c.args.entries.now c.args.above.now c.loop-up.at c.args.front.now link None c.requires.above (omega (arith, inv.0, c.requires.fewer)) inv.1 (sym ((Decides-ltb c.loop-up.at (length c.args.above.now)).1 inv.0)) refl in
    let l = climbed-within g.T.Keyed.key c.args.entries.now c.args.front.now link c.in-Some.up step c.in-Some.is in
    omega (arith, l)

pub bounds-entries-up : goal.bounds-entries-up
bounds-entries-up g c =
    let names = map g.T.Keyed.key c.args.entries.now in
    let inv = c.loop-up.invariant in
    let link = get_or c.args.above.now c.loop-up.at None in
    let step : Climbed names c.args.front.now link = step-up g.T.Keyed.key c.args.entries.now c.args.above.now c.loop-up.at c.args.front.now link None c.requires.above (omega (arith, inv.0, c.requires.fewer)) inv.1 (sym ((Decides-ltb c.loop-up.at (length c.args.above.now)).1 inv.0)) refl in
    climbed-within g.T.Keyed.key c.args.entries.now c.args.front.now link c.in-Some.up step c.in-Some.is

pub returns-then-key-front : goal.returns-then-key-front
returns-then-key-front g c =
    let names = map g.T.Keyed.key c.args.entries.now in
    let inv = c.loop-up.invariant in
    let link = get_or c.args.above.now c.loop-up.at None in
    let step : Climbed names c.args.front.now link = step-up g.T.Keyed.key c.args.entries.now c.args.above.now c.loop-up.at c.args.front.now link None c.requires.above (omega (arith, inv.0, c.requires.fewer)) inv.1 (sym ((Decides-ltb c.loop-up.at (length c.args.above.now)).1 inv.0)) refl in
    let l = climbed-within g.T.Keyed.key c.args.entries.now c.args.front.now link c.in-Some.up step c.in-Some.is in
    let there = there_mapped g.T.Keyed.key c.args.entries.now c.in-Some.up c.index-entries-up.result l c.index-entries-up.is ∙ ap (λ (x : Text). Some x) (sym c.key.ensures) in
    let (k, at, short, longer) = (let s : Climbed names c.args.front.now (Some c.in-Some.up) = subst (Climbed names c.args.front.now) c.in-Some.is step in s) in
    let same : c.key.result.now ≡ k = cc (at, there) in
    short (subst (λ (x : Text). length x ≤ length c.args.front.now) same c.if-key-front.true)

pub loop-up-smaller : goal.loop-up-smaller
loop-up-smaller g c =
    let names = map g.T.Keyed.key c.args.entries.now in
    let inv = c.loop-up.invariant in
    let link = get_or c.args.above.now c.loop-up.at None in
    let step : Climbed names c.args.front.now link = step-up g.T.Keyed.key c.args.entries.now c.args.above.now c.loop-up.at c.args.front.now link None c.requires.above (omega (arith, inv.0, c.requires.fewer)) inv.1 (sym ((Decides-ltb c.loop-up.at (length c.args.above.now)).1 inv.0)) refl in
    let rise : Rise (keys_of names) = subst Rise (sym (maps components g.T.Keyed.key c.args.entries.now)) c.requires.rising in
    let (name, here) = there-is names c.loop-up.at (omega (arith, inv.0, c.requires.fewer, length-same g.T.Keyed.key c.args.entries.now)) in
    let down = above-lower names c.args.above.now c.loop-up.at name c.in-Some.up rise c.requires.above here (slice_get-get_or c.args.above.now c.loop-up.at None inv.0 ∙ ap (λ (o : Option ℕ). Some o) c.in-Some.is) in
    down

pub loop-up-preserved : goal.loop-up-preserved
loop-up-preserved g c =
    let names = map g.T.Keyed.key c.args.entries.now in
    let inv = c.loop-up.invariant in
    let link = get_or c.args.above.now c.loop-up.at None in
    let step : Climbed names c.args.front.now link = step-up g.T.Keyed.key c.args.entries.now c.args.above.now c.loop-up.at c.args.front.now link None c.requires.above (omega (arith, inv.0, c.requires.fewer)) inv.1 (sym ((Decides-ltb c.loop-up.at (length c.args.above.now)).1 inv.0)) refl in
    let l = climbed-within g.T.Keyed.key c.args.entries.now c.args.front.now link c.in-Some.up step c.in-Some.is in
    let there = there_mapped g.T.Keyed.key c.args.entries.now c.in-Some.up c.index-entries-up.result l c.index-entries-up.is ∙ ap (λ (x : Text). Some x) (sym c.key.ensures) in
    let (k, at, short, longer) = (let s : Climbed names c.args.front.now (Some c.in-Some.up) = subst (Climbed names c.args.front.now) c.in-Some.is step in s) in
    let same : c.key.result.now ≡ k = cc (at, there) in
    let rise : Rise (keys_of names) = subst Rise (sym (maps components g.T.Keyed.key c.args.entries.now)) c.requires.rising in
    let (name, here) = there-is names c.loop-up.at (omega (arith, inv.0, c.requires.fewer, length-same g.T.Keyed.key c.args.entries.now)) in
    let down = above-lower names c.args.above.now c.loop-up.at name c.in-Some.up rise c.requires.above here (slice_get-get_or c.args.above.now c.loop-up.at None inv.0 ∙ ap (λ (o : Option ℕ). Some o) c.in-Some.is) in
    let more : length c.args.front.now < length c.key.result.now = omega (arith, c.if-key-front.false) in (
      omega (arith, down, inv.0),
      λ name here. let is : k ≡ name = cc (at, here) in
          subst (λ (x : Text). IsBelow x c.args.front.now) is (longer (subst (λ (x : Text). length c.args.front.now < length x) same more)),
    )
