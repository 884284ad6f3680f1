use Rattle.std.proofs.Common.{◌≡◌, List, None, length, map, sym, ◌∙◌, subst, arith}
use Rattle.std.proofs.lemmas.List.{length-map, length-take-le}
use Rattle.log4rs_base.specs.Text.{Text}
use Rattle.log4rs_config.specs.Above.{AreAbove}
use Rattle.log4rs_config.proofs.Fronts.{Stepped, as-measured, climb-begins, step-from, step-to, step-within}
use Rattle.log4rs_config.proofs.Seeking.{remains, remains-more, remains-none}
use Rattle.log4rs_config.proofs.Sharing.{there-is}
use Rattle.log4rs_config.proofs.Standings.{shared-within}
use Rattle.log4rs_config.proofs.search.climb.Goals as goal

pub loop-init : goal.loop-init
loop-init g c =
    let names : List Text = map g.T.Keyed.key c.args.looked.now.entries.now in
    let (e, there) = there-is names c.args.place (omega (arith, c.requires.place, length-map c.args.looked.now.entries.now g.T.Keyed.key)) in
    let (are, stands) = c.requires.before e there in
    (c.requires.place, climb-begins names c.args.target.now c.args.place c.args.shared e c.requires.indexed.rising c.requires.behind there are stands)

pub returns-in_default-link-clause-found : goal.returns-in_default-link-clause-found
returns-in_default-link-clause-found g c =
    let told = c.in-Some.ensures.lookup in
    let inv = c.loop.invariant in
    let s = step-from g.T.Keyed.key c.args.looked.now.entries.now c.above-above.result.now c.args.target.now c.args.shared c.loop.at c.in-Some.link.now _ (subst (AreAbove (map g.T.Keyed.key c.args.looked.now.entries.now)) (sym c.above-above.ensures) c.requires.indexed.above) inv.0 inv.1 told.0 told.1 in
    let s' : Stepped (map g.T.Keyed.key c.args.looked.now.entries.now) c.args.target.now c.args.shared None = subst (Stepped (map g.T.Keyed.key c.args.looked.now.entries.now) c.args.target.now c.args.shared) c.in_default-link.is s in s'

pub offset_bounds-lengths-up : goal.offset_bounds-lengths-up
offset_bounds-lengths-up g c =
    let told = c.in-Some.ensures.lookup in
    let inv = c.loop.invariant in
    let s = step-from g.T.Keyed.key c.args.looked.now.entries.now c.above-above.result.now c.args.target.now c.args.shared c.loop.at c.in-Some.link.now _ (subst (AreAbove (map g.T.Keyed.key c.args.looked.now.entries.now)) (sym c.above-above.ensures) c.requires.indexed.above) inv.0 inv.1 told.0 told.1 in
    let l = step-within g.T.Keyed.key c.args.looked.now.entries.now c.args.target.now c.args.shared c.in-Some.link.now c.in-Some-link.up s c.in-Some-link.is in
    let many : length c.lengths-lengths.result.now ≡ length c.args.looked.now.entries.now = as-measured g.T.Keyed.key c.args.looked.now.entries.now c.lengths-lengths.result.now (c.lengths-lengths.ensures ∙ c.requires.indexed.lengths) in
    let fits = c.lengths-lengths.type_inv.1 in
    omega (arith, l, many, fits)

pub bounds-lengths-up : goal.bounds-lengths-up
bounds-lengths-up g c =
    let told = c.in-Some.ensures.lookup in
    let inv = c.loop.invariant in
    let s = step-from g.T.Keyed.key c.args.looked.now.entries.now c.above-above.result.now c.args.target.now c.args.shared c.loop.at c.in-Some.link.now _ (subst (AreAbove (map g.T.Keyed.key c.args.looked.now.entries.now)) (sym c.above-above.ensures) c.requires.indexed.above) inv.0 inv.1 told.0 told.1 in
    let l = step-within g.T.Keyed.key c.args.looked.now.entries.now c.args.target.now c.args.shared c.in-Some.link.now c.in-Some-link.up s c.in-Some-link.is in
    let many : length c.lengths-lengths.result.now ≡ length c.args.looked.now.entries.now = as-measured g.T.Keyed.key c.args.looked.now.entries.now c.lengths-lengths.result.now (c.lengths-lengths.ensures ∙ c.requires.indexed.lengths) in
    omega (arith, l, many)

pub returns-then-lengths-up-clause-found : goal.returns-then-lengths-up-clause-found
returns-then-lengths-up-clause-found g c =
    let told = c.in-Some.ensures.lookup in
    let inv = c.loop.invariant in
    let s = step-from g.T.Keyed.key c.args.looked.now.entries.now c.above-above.result.now c.args.target.now c.args.shared c.loop.at c.in-Some.link.now _ (subst (AreAbove (map g.T.Keyed.key c.args.looked.now.entries.now)) (sym c.above-above.ensures) c.requires.indexed.above) inv.0 inv.1 told.0 told.1 in
    let (short, _) = step-to g.T.Keyed.key c.args.looked.now.entries.now c.args.target.now c.args.shared c.in-Some.link.now c.in-Some-link.up 0 c.lengths-lengths.result.now s c.in-Some-link.is (c.lengths-lengths.ensures ∙ c.requires.indexed.lengths) in
    short c.if-lengths-up.true

pub loop-preserved : goal.loop-preserved
loop-preserved g c =
    let told = c.in-Some.ensures.lookup in
    let inv = c.loop.invariant in
    let s = step-from g.T.Keyed.key c.args.looked.now.entries.now c.above-above.result.now c.args.target.now c.args.shared c.loop.at c.in-Some.link.now _ (subst (AreAbove (map g.T.Keyed.key c.args.looked.now.entries.now)) (sym c.above-above.ensures) c.requires.indexed.above) inv.0 inv.1 told.0 told.1 in
    let l = step-within g.T.Keyed.key c.args.looked.now.entries.now c.args.target.now c.args.shared c.in-Some.link.now c.in-Some-link.up s c.in-Some-link.is in
    let (_, long) = step-to g.T.Keyed.key c.args.looked.now.entries.now c.args.target.now c.args.shared c.in-Some.link.now c.in-Some-link.up 0 c.lengths-lengths.result.now s c.in-Some-link.is (c.lengths-lengths.ensures ∙ c.requires.indexed.lengths) in
    (l, long (omega (arith, c.if-lengths-up.false)))

pub slice_bounds-start_of-end : goal.slice_bounds-start_of-end
slice_bounds-start_of-end g c =
    let names : List Text = map g.T.Keyed.key c.args.looked.now.entries.now in
    let (e, there) = there-is names c.args.place (omega (arith, c.requires.place, length-map c.args.looked.now.entries.now g.T.Keyed.key)) in
    let (are, stands) = c.requires.before e there in
    sym (length-take-le c.args.shared c.args.target.now (shared-within e c.args.target.now c.args.shared are).1)

pub returns-then-start-lt2-clause-found : goal.returns-then-start-lt2-clause-found
returns-then-start-lt2-clause-found g c =
    let names : List Text = map g.T.Keyed.key c.args.looked.now.entries.now in
    let (e, there) = there-is names c.args.place (omega (arith, c.requires.place, length-map c.args.looked.now.entries.now g.T.Keyed.key)) in
    let (are, stands) = c.requires.before e there in
    let left = remains names c.args.target.now c.args.place c.args.shared e c.requires.indexed.rising c.requires.behind there are stands c.start_of-start.result c.start_of-start.ensures in
    remains-none names c.args.target.now e c.start_of-start.result left c.if-start-lt2.true

pub returns-clause-other : goal.returns-clause-other
returns-clause-other g c =
    let names : List Text = map g.T.Keyed.key c.args.looked.now.entries.now in
    let (e, there) = there-is names c.args.place (omega (arith, c.requires.place, length-map c.args.looked.now.entries.now g.T.Keyed.key)) in
    let (are, stands) = c.requires.before e there in
    let left = remains names c.args.target.now c.args.place c.args.shared e c.requires.indexed.rising c.requires.behind there are stands c.start_of-start.result c.start_of-start.ensures in
    (remains-more names c.args.target.now e c.start_of-start.result left (λ l. omega (arith, l, c.if-start-lt2.false))).0
