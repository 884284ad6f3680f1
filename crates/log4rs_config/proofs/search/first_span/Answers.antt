use Rattle.std.proofs.Common.{◌≡◌, ◌<◌, ◌≤◌, ◌∙◌, ℕ, ◌-◌, List, Some, length, map, slice_get, sym, ap, subst, arith, ⊎_elim}
use Rattle.log4rs_base.specs.Text.{Text}
use Rattle.log4rs_config.proofs.Alike.{all-bytes, leaves-early}
use Rattle.log4rs_config.proofs.Halving.{either}
use Rattle.log4rs_config.proofs.Narrowed.{first-high, first-low, first-name, none-in-front}
use Rattle.log4rs_config.proofs.Seeking.{seek-same}
use Rattle.log4rs_config.proofs.search.first_span.Goals as goal

pub returns-in_default-clause-known : goal.returns-in_default-clause-known
returns-in_default-clause-known g c =
    let names : List Text = map g.T.Keyed.key c.args.looked.now.entries.now in
    let part = c.narrow-high.ensures in
    let none : c.narrow-high.result.2.end ≡ 0 = c.in_default.ensures.none in
    let all : c.narrow-high.result.1 ≡ 0 =
    ⊎_elim (λ (l : c.narrow-high.result.0.end < c.narrow-high.result.1). absurd (let m = (part.middle l).0 in omega (arith, m, none)))
    (λ (l : c.narrow-high.result.1 ≤ c.narrow-high.result.0.end). let f = part.front l in omega (arith, f, l, none))
    (either c.narrow-high.result.0.end c.narrow-high.result.1) in
    none-in-front c.args.looked.now.digests.now names c.args.target.now c.args.wanted c.requires.indexed (all-bytes c.args.target.now (λ i. let l = c.type_inv.target i in omega (arith, l))) c.requires.wanted
    (subst (λ (n : ℕ). (value : ℕ) → slice_get c.args.looked.now.digests.now.values.items n ≡ Some value → c.args.wanted < value) all part.above)

pub returns-then-shared-common-clause-known : goal.returns-then-shared-common-clause-known
returns-then-shared-common-clause-known g c =
    let names : List Text = map g.T.Keyed.key c.args.looked.now.entries.now in
    let part = c.narrow-high.ensures in
    let there : slice_get names (c.narrow-high.result.2.end - 1) ≡ Some c.key.result.now = c.in-Some.ensures.entry ∙ ap (λ (x : Text). Some x) (sym c.key.ensures) in
    let f = first-name g.T.Keyed.key c.args.looked.now.entries.now c.args.looked.now.digests.now c.args.wanted c.narrow-high.result.0.end c.narrow-high.result.1 c.narrow-high.result.2.end c.key.result.now c.requires.indexed.digested part.within part.below part.above part.middle part.front c.in-Some.ensures.some there in
    let told = c.compare_from-standing.ensures in
    leaves-early c.compare_from-standing.result.0 names c.args.looked.now.digests.now.common.items c.key.result.now c.args.target.now c.compare_from-standing.result.1 c.requires.indexed.digested.common f.begins told.shared told.standing
    (let same = ap (λ (t : Text). length t) c.common-common.ensures in omega (arith, c.if-shared-common.true, same))

pub returns-in-Equal-clause-known : goal.returns-in-Equal-clause-known
returns-in-Equal-clause-known g c =
    let names : List Text = map g.T.Keyed.key c.args.looked.now.entries.now in
    let part = c.narrow-high.ensures in
    let there : slice_get names (c.narrow-high.result.2.end - 1) ≡ Some c.key.result.now = c.in-Some.ensures.entry ∙ ap (λ (x : Text). Some x) (sym c.key.ensures) in
    let f = first-name g.T.Keyed.key c.args.looked.now.entries.now c.args.looked.now.digests.now c.args.wanted c.narrow-high.result.0.end c.narrow-high.result.1 c.narrow-high.result.2.end c.key.result.now c.requires.indexed.digested part.within part.below part.above part.middle part.front c.in-Some.ensures.some there in
    let told = c.compare_from-standing.ensures in
    ap (λ (n : ℕ). Some (n - 1)) c.end.ensures
    ∙ seek-same names c.args.target.now (c.narrow-high.result.2.end - 1) c.key.result.now c.requires.indexed.rising f.there (told.order ∙ (sym c.order.ensures ∙ c.in-Equal.is))

pub returns-in-Less-clause-left : goal.returns-in-Less-clause-left
returns-in-Less-clause-left g c =
    let names : List Text = map g.T.Keyed.key c.args.looked.now.entries.now in
    let part = c.narrow-high.ensures in
    let there : slice_get names (c.narrow-high.result.2.end - 1) ≡ Some c.key.result.now = c.in-Some.ensures.entry ∙ ap (λ (x : Text). Some x) (sym c.key.ensures) in
    let f = first-name g.T.Keyed.key c.args.looked.now.entries.now c.args.looked.now.digests.now c.args.wanted c.narrow-high.result.0.end c.narrow-high.result.1 c.narrow-high.result.2.end c.key.result.now c.requires.indexed.digested part.within part.below part.above part.middle part.front c.in-Some.ensures.some there in
    let told = c.compare_from-standing.ensures in
    first-low c.args.looked.now.digests.now names c.args.target.now c.args.wanted c.narrow-high.result.0.end c.narrow-high.result.1 c.narrow-high.result.2.end c.compare_from-standing.result.1 (length c.common-common.result.now) c.key.result.now c.compare_from-standing.result.0
    c.requires.indexed (all-bytes c.args.target.now (λ i. let l = c.type_inv.target i in omega (arith, l))) c.requires.wanted f (told.shared, told.standing) (told.order ∙ (sym c.order.ensures ∙ c.in-Less.is)) (ap (λ (t : Text). length t) c.common-common.ensures) (omega (arith, c.if-shared-common.false))

pub returns-in-Greater-clause-left : goal.returns-in-Greater-clause-left
returns-in-Greater-clause-left g c =
    let names : List Text = map g.T.Keyed.key c.args.looked.now.entries.now in
    let part = c.narrow-high.ensures in
    let there : slice_get names (c.narrow-high.result.2.end - 1) ≡ Some c.key.result.now = c.in-Some.ensures.entry ∙ ap (λ (x : Text). Some x) (sym c.key.ensures) in
    let f = first-name g.T.Keyed.key c.args.looked.now.entries.now c.args.looked.now.digests.now c.args.wanted c.narrow-high.result.0.end c.narrow-high.result.1 c.narrow-high.result.2.end c.key.result.now c.requires.indexed.digested part.within part.below part.above part.middle part.front c.in-Some.ensures.some there in
    let told = c.compare_from-standing.ensures in
    first-high c.args.looked.now.digests.now names c.args.target.now c.args.wanted c.narrow-high.result.0.end c.narrow-high.result.1 c.narrow-high.result.2.end (c.end-in-Greater.result - 1) c.compare_from-standing.result.1 (length c.common-common.result.now) c.key.result.now c.compare_from-standing.result.0
    c.requires.indexed (all-bytes c.args.target.now (λ i. let l = c.type_inv.target i in omega (arith, l))) c.requires.wanted f (told.shared, told.standing) (told.order ∙ (sym c.order.ensures ∙ c.in-Greater.is)) (ap (λ (t : Text). length t) c.common-common.ensures) (omega (arith, c.if-shared-common.false))
    (omega (arith, c.end-in-Greater.ensures))
