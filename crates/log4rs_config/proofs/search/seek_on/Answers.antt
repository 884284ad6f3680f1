use Rattle.std.proofs.Common.{min, refl, ◌≡◌, ◌∙◌, ◌-◌, ◌+◌, ◌/◌, sym, ap, subst, arith, ⊎_elim, List, Some, map, drop, length, slice_get, ℕ}
use Rattle.log4rs_base.specs.Text.{Text}
use Rattle.log4rs_config.specs.Name.{components}
use Rattle.log4rs_config.specs.declared.order.Standing.{Standing}
use Rattle.log4rs_config.specs.declared.order.Standing.TheVariants.{Same, Begins, Before}
use Rattle.log4rs_config.specs.Seeks.{Seeks}
use Rattle.log4rs_config.specs.Standing.{tokens, next, AreShared, Stands, order_of}
use Rattle.log4rs_config.proofs.Narrowed.{half-left, smaller}
use Rattle.log4rs_config.proofs.Seeking.{key-there, seek-from, seek-low, seek-high, seek-same, seek-last, seek-none, seek-ends, stands-behind, stands-before}
use Rattle.log4rs_config.proofs.Sharing.{all-share, lesser-of}
use Rattle.log4rs_config.proofs.search.seek_on.Goals as goal

pub loop-high-init : goal.loop-high-init
loop-high-init g c = (c.requires.span, (λ digits few. (digits, omega arith, few)))

pub order_at-order-requires-clause-shared : goal.order_at-order-requires-clause-shared
order_at-order-requires-clause-shared g c =
    let names : List Text = map g.T.Keyed.key c.args.looked.now.entries.now in
    let common = length c.args.looked.now.digests.now.common.items in
    let s = c.loop-high.invariant.0 in
    let middle : ℕ = (c.end-in-loop-high.result + c.loop-high.high) / 2 in
    let e = c.key-name.result.now in
    let there : slice_get names middle ≡ Some e = c.at-digest.ensures.entry ∙ ap (λ (x : Text). Some x) (sym c.key-name.ensures) in
    seek-from names c.args.target.now common c.loop-high.front.end c.loop-high.high middle c.loop-high.left c.loop-high.right c.loop-high.told e c.requires.indexed.rising
    (all-share c.args.looked.now.digests.now names c.args.target.now c.requires.indexed.digested c.requires.begins) s (omega (arith, c.loop-high-test.true, c.end.ensures, c.end-in-loop-high.ensures)) (omega (arith, c.loop-high-test.true, c.end.ensures, c.end-in-loop-high.ensures)) there (min c.loop-high.left c.loop-high.right)
    (lesser-of (min c.loop-high.left c.loop-high.right) c.loop-high.left c.loop-high.right refl)

pub returns-in-Equal-clause-found : goal.returns-in-Equal-clause-found
returns-in-Equal-clause-found g c =
    let names : List Text = map g.T.Keyed.key c.args.looked.now.entries.now in
    let common = length c.args.looked.now.digests.now.common.items in
    let s = c.loop-high.invariant.0 in
    let middle : ℕ = (c.end-in-loop-high.result + c.loop-high.high) / 2 in
    let e = c.key-name.result.now in
    let there : slice_get names middle ≡ Some e = c.at-digest.ensures.entry ∙ ap (λ (x : Text). Some x) (sym c.key-name.ensures) in
    seek-same names c.args.target.now middle e c.requires.indexed.rising there (c.order_at-order.ensures.order ∙ c.in-Equal.is)

pub loop-high-preserved-in-Less : goal.loop-high-preserved-in-Less
loop-high-preserved-in-Less g c =
    let names : List Text = map g.T.Keyed.key c.args.looked.now.entries.now in
    let common = length c.args.looked.now.digests.now.common.items in
    let s = c.loop-high.invariant.0 in
    let middle : ℕ = (c.end-in-loop-high.result + c.loop-high.high) / 2 in
    let e = c.key-name.result.now in
    let there : slice_get names middle ≡ Some e = c.at-digest.ensures.entry ∙ ap (λ (x : Text). Some x) (sym c.key-name.ensures) in
    let told = c.order_at-order.ensures in
    let front = c.at-digest.ensures.front in (
      subst (λ (n : ℕ). Seeks names c.args.target.now common n c.loop-high.high c.order_at-order.result.2 c.loop-high.right c.order_at-order.result.1) (sym front)
          (seek-low names c.args.target.now common c.loop-high.front.end c.loop-high.high middle c.loop-high.left c.loop-high.right c.order_at-order.result.2 c.loop-high.told c.order_at-order.result.1 e c.requires.indexed.rising s
          (omega (arith, c.loop-high-test.true, c.end.ensures, c.end-in-loop-high.ensures)) there (told.order ∙ c.in-Less.is) told.known),
      (λ digits few.
          smaller (c.loop-high.high - c.at-digest.result.2.end) ((c.loop-high.high - c.loop-high.front.end) / 2) c.at-digest.new.turns (c.args.turns.now + digits)
          (omega (arith, front, c.loop-high-test.true, c.end.ensures, c.end-in-loop-high.ensures))
          (half-left (c.loop-high.high - c.loop-high.front.end) c.loop-high.turns c.at-digest.new.turns (c.args.turns.now + digits) (omega (arith, c.loop-high-test.true, c.end.ensures)) c.at-digest.ensures.turns (c.loop-high.invariant.1 digits few))),
    )

pub loop-high-preserved : goal.loop-high-preserved
loop-high-preserved g c =
    let names : List Text = map g.T.Keyed.key c.args.looked.now.entries.now in
    let common = length c.args.looked.now.digests.now.common.items in
    let s = c.loop-high.invariant.0 in
    let middle : ℕ = (c.end-in-loop-high.result + c.loop-high.high) / 2 in
    let e = c.key-name.result.now in
    let there : slice_get names middle ≡ Some e = c.at-digest.ensures.entry ∙ ap (λ (x : Text). Some x) (sym c.key-name.ensures) in
    let told = c.order_at-order.ensures in (
      seek-high names c.args.target.now common c.loop-high.front.end c.loop-high.high middle c.loop-high.left c.loop-high.right c.order_at-order.result.2 c.loop-high.told e c.requires.indexed.rising s
          (omega (arith, c.loop-high-test.true, c.end.ensures, c.end-in-loop-high.ensures)) (omega (arith, c.loop-high-test.true, c.end.ensures, c.end-in-loop-high.ensures)) there (told.order ∙ c.in-Greater.is) told.known.0,
      (λ digits few.
          smaller (middle - c.loop-high.front.end) ((c.loop-high.high - c.loop-high.front.end) / 2) c.at-digest.new.turns (c.args.turns.now + digits) (omega (arith, c.loop-high-test.true, c.end.ensures, c.end-in-loop-high.ensures))
          (half-left (c.loop-high.high - c.loop-high.front.end) c.loop-high.turns c.at-digest.new.turns (c.args.turns.now + digits) (omega (arith, c.loop-high-test.true, c.end.ensures)) c.at-digest.ensures.turns (c.loop-high.invariant.1 digits few))),
    )

pub returns-in_default-clause-found : goal.returns-in_default-clause-found
returns-in_default-clause-found g c =
    seek-none (map g.T.Keyed.key c.args.looked.now.entries.now) c.args.target.now (length c.args.looked.now.digests.now.common.items) c.loop-high.front.end c.loop-high.high c.loop-high.left c.loop-high.right c.loop-high.told c.loop-high.invariant.0
    (omega (arith, c.loop-high-test.false, c.end.ensures)) c.in_default.ensures.none

pub settle-standing-requires : goal.settle-standing-requires
settle-standing-requires g c =
    let names : List Text = map g.T.Keyed.key c.args.looked.now.entries.now in
    let common = length c.args.looked.now.digests.now.common.items in
    let s = c.loop-high.invariant.0 in
    let e = c.key.result.now in
    let there : slice_get names (c.loop-high.front.end - 1) ≡ Some e = c.in-Some.ensures.entry ∙ ap (λ (x : Text). Some x) (sym c.key.ensures) in
    seek-last names c.args.target.now common c.loop-high.front.end c.loop-high.high c.loop-high.left c.loop-high.right (c.loop-high.front.end - 1) c.loop-high.told e s (omega (arith, c.in-Some.ensures.some)) there

pub returns-in-Same-clause-found : goal.returns-in-Same-clause-found
returns-in-Same-clause-found g c =
    let names : List Text = map g.T.Keyed.key c.args.looked.now.entries.now in
    let common = length c.args.looked.now.digests.now.common.items in
    let s = c.loop-high.invariant.0 in
    let e = c.key.result.now in
    let at : ℕ = c.end-place.result - 1 in
    let behind : c.loop-high.front.end ≡ at + 1 = omega (arith, c.end-place.ensures, c.in-Some.ensures.some) in
    let there : slice_get names at ≡ Some e =
    subst (λ (n : ℕ). slice_get names n ≡ Some e) {x = c.loop-high.front.end - 1} {y = at} (omega (arith, c.end-place.ensures)) (c.in-Some.ensures.entry ∙ ap (λ (x : Text). Some x) (sym c.key.ensures)) in
    let told = c.settle-standing.ensures in
    let shared = c.settle-standing.result.1 in
    ⊎_elim
    (λ (is : c.settle-standing.result.0 ≡ Same). seek-same names c.args.target.now at e c.requires.indexed.rising there (told.order ∙ ap order_of is))
    (λ (is : c.settle-standing.result.0 ≡ Begins).
    seek-ends names c.args.target.now common c.loop-high.front.end c.loop-high.high c.loop-high.left c.loop-high.right at shared c.loop-high.told e c.requires.indexed.rising s (omega (arith, c.loop-high-test.false, c.end.ensures)) behind there told.shared
    (subst (λ (x : Standing). Stands x (next (tokens (drop shared e))) (next (tokens (drop shared c.args.target.now)))) is told.standing))
    c.in-Same.is

pub climb-requires-clause-behind : goal.climb-requires-clause-behind
climb-requires-clause-behind g c =
    stands-behind (map g.T.Keyed.key c.args.looked.now.entries.now) c.args.target.now (length c.args.looked.now.digests.now.common.items) c.loop-high.front.end c.loop-high.high c.loop-high.left c.loop-high.right (c.end-place.result - 1) c.loop-high.told c.loop-high.invariant.0 (omega (arith, c.loop-high-test.false, c.end.ensures))
    (omega (arith, c.end-place.ensures, c.in-Some.ensures.some))

pub climb-requires-clause-before : goal.climb-requires-clause-before
climb-requires-clause-before g c name here =
    let names : List Text = map g.T.Keyed.key c.args.looked.now.entries.now in
    let common = length c.args.looked.now.digests.now.common.items in
    let s = c.loop-high.invariant.0 in
    let e = c.key.result.now in
    let at : ℕ = c.end-place.result - 1 in
    let behind : c.loop-high.front.end ≡ at + 1 = omega (arith, c.end-place.ensures, c.in-Some.ensures.some) in
    let there : slice_get names at ≡ Some e =
    subst (λ (n : ℕ). slice_get names n ≡ Some e) {x = c.loop-high.front.end - 1} {y = at} (omega (arith, c.end-place.ensures)) (c.in-Some.ensures.entry ∙ ap (λ (x : Text). Some x) (sym c.key.ensures)) in
    let told = c.settle-standing.ensures in
    let shared = c.settle-standing.result.1 in
    let is : e ≡ name = cc (here, there) in
    let less = s.below at (components e) (omega (arith, behind)) (key-there names at e there) in
    subst (λ (x : Text). AreShared x c.args.target.now shared × Stands Before (next (tokens (drop shared x))) (next (tokens (drop shared c.args.target.now)))) is
    (told.shared, stands-before c.settle-standing.result.0 (next (tokens (drop shared e))) (next (tokens (drop shared c.args.target.now))) c.in-Before.is told.standing (sym told.order ∙ less))
