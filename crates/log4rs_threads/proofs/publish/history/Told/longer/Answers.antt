use Rattle.std.proofs.Common.{◌≤◌, ap, subst, List, arith}
use mathlib.Core.List.{IsPrefix}
use Rattle.log4rs_threads.proofs.Beginnings.{shorter}
use Rattle.log4rs_threads.proofs.publish.history.Told.longer.Goals as goal

pub returns-then-self-other-clause-this : goal.returns-then-self-other-clause-this
returns-then-self-other-clause-this g c =
    let both = c.learn.new.self.log in
    let one = c.self.inside in
    let two = c.other.inside in
    let this : IsPrefix one.seen.log both = subst (λ (l : List _). IsPrefix l both) (ap (λ s. s.log) c.again-both.ensures) c.learn.ensures.2 in
    let less : one.swaps ≤ two.swaps = omega (arith, c.if-self-other.true) in
    rw (← c.self.view_is, ← c.other.view_is) (shorter one.swaps two.swaps one.seen.log two.seen.log both c.self.invariant c.other.invariant this c.learn.ensures.3 less)

pub returns-else-self-other-clause-that : goal.returns-else-self-other-clause-that
returns-else-self-other-clause-that g c =
    let both = c.learn.new.self.log in
    let one = c.self.inside in
    let two = c.other.inside in
    let this : IsPrefix one.seen.log both = subst (λ (l : List _). IsPrefix l both) (ap (λ s. s.log) c.again-both.ensures) c.learn.ensures.2 in
    let less : two.swaps ≤ one.swaps = omega (arith, c.if-self-other.false) in
    rw (c.again.ensures, ← c.self.view_is, ← c.other.view_is) (shorter two.swaps one.swaps two.seen.log one.seen.log both c.other.invariant c.self.invariant c.learn.ensures.3 this less)
