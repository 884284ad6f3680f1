use Rattle.std.proofs.Common.{◌≤◌, ap, subst, List, arith}
use Rattle.std.proofs.lemmas.Bool.Decides.{nat_tests}
use mathlib.Core.List.{IsPrefix}
use Rattle.log4rs_threads.proofs.Beginnings.{shorter}
use Rattle.log4rs_threads.proofs.publish.history.Told.begins.Goals as goal

pub returns : goal.returns
returns g c =
    let both = c.learn.new.self.log in
    let one = c.self.inside in
    let two = c.other.inside in
    let this : IsPrefix one.seen.log both = subst (λ (l : List _). IsPrefix l both) (ap (λ s. s.log) c.again-both.ensures) c.learn.ensures.2 in
    rw (← c.self.view_is, ← c.other.view_is)
    (λ yes.
    let less : one.swaps ≤ two.swaps = grind (arith, nat_tests, yes) in
    shorter one.swaps two.swaps one.seen.log two.seen.log both c.self.invariant c.other.invariant this c.learn.ensures.3 less)
