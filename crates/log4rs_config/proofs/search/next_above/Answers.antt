use Rattle.std.proofs.Common.{◌≡◌, ◌∙◌, ◌<◌, ◌+◌, ◌-◌, length, map, take, slice_get, List, Some, None, ℕ, sym, ap, subst, arith}
use Rattle.std.proofs.lemmas.List.{length-take-le}
use Rattle.log4rs_base.specs.Text.{Text}
use Rattle.log4rs_config.specs.Above.{IsBelow, parents}
use Rattle.log4rs_config.specs.Name.{components}
use Rattle.log4rs_config.specs.Order.{Rise}
use Rattle.log4rs_config.specs.Walk.{longest, name_at}
use Rattle.log4rs_config.proofs.Ordered.{there_mapped}
use Rattle.log4rs_config.proofs.Preceding.{alone-above, begun-above, first-above, left-above}
use Rattle.log4rs_config.specs.Seeks.{keys_of}
use Rattle.log4rs_config.proofs.Settled.{maps}
use Rattle.log4rs_config.proofs.Standings.{shared-within}
use Rattle.log4rs_config.proofs.search.next_above.Goals as goal

pub returns-then-place-eq0 : goal.returns-then-place-eq0
returns-then-place-eq0 g c name here =
    let key = g.T.Keyed.key in
    let names : List Text = map key c.args.entries.now in
    let rise : Rise (keys_of names) = subst Rise (sym (maps components key c.args.entries.now)) c.requires.rising in
    let i : ℕ = length c.args.above.now in
    first-above names name rise (ap (slice_get names) (sym c.if-place-eq0.true) ∙ here)

pub returns-in-Same : goal.returns-in-Same
returns-in-Same g c name here =
    let key = g.T.Keyed.key in
    let names : List Text = map key c.args.entries.now in
    let rise : Rise (keys_of names) = subst Rise (sym (maps components key c.args.entries.now)) c.requires.rising in
    let i : ℕ = length c.args.above.now in
    let at : ℕ = i - 1 in
    let n : i ≡ at + 1 = omega (arith, c.if-place-eq0.false) in
    let lt : at < length c.args.entries.now = omega (arith, n, c.requires.fewer) in
    let e = c.key.result.now in
    let t = c.key-name.result.now in
    let et : slice_get names at ≡ Some e = there_mapped key c.args.entries.now at c.index-entries-place-2.result lt c.index-entries-place-2.is ∙ ap (λ (x : Text). Some x) (sym c.key.ensures) in
    let it : slice_get names i ≡ Some t = there_mapped key c.args.entries.now i c.index-entries-place.result c.requires.fewer c.index-entries-place.is ∙ ap (λ (x : Text). Some x) (sym c.key-name.ensures) in
    let told = c.compare_from-standing.ensures in
    let shared = c.compare_from-standing.result.1 in
    let is : t ≡ name = cc (it, here) in
    let over : longest (name_at names) None (parents (components t)) ≡ longest (name_at names) None (parents (components name)) = ap (λ (x : Text). longest (name_at names) None (parents (components x))) is in
    begun-above names at i shared e t c.compare_from-standing.result.0 rise n et it told.shared told.standing told.order c.in-Same.is ∙ over

pub slice_bounds-start_of-end : goal.slice_bounds-start_of-end
slice_bounds-start_of-end g c =
    sym (length-take-le c.compare_from-standing.result.1 c.key-name.result.now (shared-within c.key.result.now c.key-name.result.now c.compare_from-standing.result.1 c.compare_from-standing.ensures.shared).1)

pub returns-then-start-lt2 : goal.returns-then-start-lt2
returns-then-start-lt2 g c name here =
    let key = g.T.Keyed.key in
    let names : List Text = map key c.args.entries.now in
    let rise : Rise (keys_of names) = subst Rise (sym (maps components key c.args.entries.now)) c.requires.rising in
    let i : ℕ = length c.args.above.now in
    let at : ℕ = i - 1 in
    let n : i ≡ at + 1 = omega (arith, c.if-place-eq0.false) in
    let lt : at < length c.args.entries.now = omega (arith, n, c.requires.fewer) in
    let e = c.key.result.now in
    let t = c.key-name.result.now in
    let et : slice_get names at ≡ Some e = there_mapped key c.args.entries.now at c.index-entries-place-2.result lt c.index-entries-place-2.is ∙ ap (λ (x : Text). Some x) (sym c.key.ensures) in
    let it : slice_get names i ≡ Some t = there_mapped key c.args.entries.now i c.index-entries-place.result c.requires.fewer c.index-entries-place.is ∙ ap (λ (x : Text). Some x) (sym c.key-name.ensures) in
    let told = c.compare_from-standing.ensures in
    let shared = c.compare_from-standing.result.1 in
    let is : t ≡ name = cc (it, here) in
    let over : longest (name_at names) None (parents (components t)) ≡ longest (name_at names) None (parents (components name)) = ap (λ (x : Text). longest (name_at names) None (parents (components x))) is in
    alone-above names at i shared e t c.compare_from-standing.result.0 rise n et it told.shared told.standing told.order c.in-Before.is c.start_of-start.result c.start_of-start.ensures c.if-start-lt2.true ∙ over

pub slice_bounds-climb_on-length : goal.slice_bounds-climb_on-length
slice_bounds-climb_on-length g c =
    let key = g.T.Keyed.key in
    let names : List Text = map key c.args.entries.now in
    let rise : Rise (keys_of names) = subst Rise (sym (maps components key c.args.entries.now)) c.requires.rising in
    let i : ℕ = length c.args.above.now in
    let at : ℕ = i - 1 in
    let n : i ≡ at + 1 = omega (arith, c.if-place-eq0.false) in
    let lt : at < length c.args.entries.now = omega (arith, n, c.requires.fewer) in
    let e = c.key.result.now in
    let t = c.key-name.result.now in
    let et : slice_get names at ≡ Some e = there_mapped key c.args.entries.now at c.index-entries-place-2.result lt c.index-entries-place-2.is ∙ ap (λ (x : Text). Some x) (sym c.key.ensures) in
    let it : slice_get names i ≡ Some t = there_mapped key c.args.entries.now i c.index-entries-place.result c.requires.fewer c.index-entries-place.is ∙ ap (λ (x : Text). Some x) (sym c.key-name.ensures) in
    let told = c.compare_from-standing.ensures in
    let shared = c.compare_from-standing.result.1 in
    let start = c.start_of-start.result in
    let left = left-above names at i shared e t c.compare_from-standing.result.0 rise n et it told.shared told.standing told.order c.in-Before.is start c.start_of-start.ensures (λ l. omega (arith, l, c.if-start-lt2.false)) in
    let l = left.0 in
    sym (length-take-le (start - 2) t (omega (arith, l)))

pub climb_on-requires-clause-below : goal.climb_on-requires-clause-below
climb_on-requires-clause-below g c name here =
    let key = g.T.Keyed.key in
    let names : List Text = map key c.args.entries.now in
    let rise : Rise (keys_of names) = subst Rise (sym (maps components key c.args.entries.now)) c.requires.rising in
    let i : ℕ = length c.args.above.now in
    let at : ℕ = i - 1 in
    let n : i ≡ at + 1 = omega (arith, c.if-place-eq0.false) in
    let lt : at < length c.args.entries.now = omega (arith, n, c.requires.fewer) in
    let e = c.key.result.now in
    let t = c.key-name.result.now in
    let et : slice_get names at ≡ Some e = there_mapped key c.args.entries.now at c.index-entries-place-2.result lt c.index-entries-place-2.is ∙ ap (λ (x : Text). Some x) (sym c.key.ensures) in
    let it : slice_get names i ≡ Some t = there_mapped key c.args.entries.now i c.index-entries-place.result c.requires.fewer c.index-entries-place.is ∙ ap (λ (x : Text). Some x) (sym c.key-name.ensures) in
    let told = c.compare_from-standing.ensures in
    let shared = c.compare_from-standing.result.1 in
    let start = c.start_of-start.result in
    let left = left-above names at i shared e t c.compare_from-standing.result.0 rise n et it told.shared told.standing told.order c.in-Before.is start c.start_of-start.ensures (λ l. omega (arith, l, c.if-start-lt2.false)) in
    let is : e ≡ name = cc (et, here) in
    subst (λ (x : Text). IsBelow x (take (start - 2) t)) is left.1

pub returns : goal.returns
returns g c name here =
    let key = g.T.Keyed.key in
    let names : List Text = map key c.args.entries.now in
    let rise : Rise (keys_of names) = subst Rise (sym (maps components key c.args.entries.now)) c.requires.rising in
    let i : ℕ = length c.args.above.now in
    let at : ℕ = i - 1 in
    let n : i ≡ at + 1 = omega (arith, c.if-place-eq0.false) in
    let lt : at < length c.args.entries.now = omega (arith, n, c.requires.fewer) in
    let e = c.key.result.now in
    let t = c.key-name.result.now in
    let et : slice_get names at ≡ Some e = there_mapped key c.args.entries.now at c.index-entries-place-2.result lt c.index-entries-place-2.is ∙ ap (λ (x : Text). Some x) (sym c.key.ensures) in
    let it : slice_get names i ≡ Some t = there_mapped key c.args.entries.now i c.index-entries-place.result c.requires.fewer c.index-entries-place.is ∙ ap (λ (x : Text). Some x) (sym c.key-name.ensures) in
    let told = c.compare_from-standing.ensures in
    let shared = c.compare_from-standing.result.1 in
    let start = c.start_of-start.result in
    let left = left-above names at i shared e t c.compare_from-standing.result.0 rise n et it told.shared told.standing told.order c.in-Before.is start c.start_of-start.ensures (λ l. omega (arith, l, c.if-start-lt2.false)) in
    let is : t ≡ name = cc (it, here) in
    let over : longest (name_at names) None (parents (components t)) ≡ longest (name_at names) None (parents (components name)) = ap (λ (x : Text). longest (name_at names) None (parents (components x))) is in
    c.climb_on.ensures ∙ (left.2 ∙ over)
