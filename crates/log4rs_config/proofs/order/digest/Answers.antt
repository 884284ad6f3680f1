use Rattle.std.proofs.Common.{◌≡◌, ℕ, ◌+◌, ◌-◌, ◌*◌, ◌^◌, drop, arith, sym, ap, ◌∙◌}
use Rattle.log4rs_config.specs.Digests.{digest_of}
use Rattle.log4rs_config.specs.Standing.{tokens, next}
use Rattle.log4rs_config.proofs.Alike.{digest-further, digest-fits, bytes_of, bytes-one}
use Rattle.log4rs_config.proofs.order.digest.Goals as goal
use Rattle.log4rs_config.proofs.order.digest.Goals.{then-next-eq1, else-next-eq1+then-next-gt1, else-next-eq1+else-next-gt1}

pub token-next-requires : goal.token-next-requires
token-next-requires c = c.loop.invariant.0

pub overflow_mul-value : goal.overflow_mul-value
overflow_mul-value c =
    let fits = digest-fits c.args.name.now c.loop.value c.token-next.result (6 - c.loop.counter) (tokens (drop c.loop.at c.args.name.now)) (λ i. let f = c.type_inv.name i in omega (arith, f)) (omega (arith, c.loop-test.true)) c.loop.invariant.1 c.token-next.ensures in
    omega (arith, fits)

pub overflow_add-value : goal.overflow_add-value
overflow_add-value c =
    let fits = digest-fits c.args.name.now c.loop.value c.token-next.result (6 - c.loop.counter) (tokens (drop c.loop.at c.args.name.now)) (λ i. let f = c.type_inv.name i in omega (arith, f)) (omega (arith, c.loop-test.true)) c.loop.invariant.1 c.token-next.ensures in
    omega (arith, fits, c.from.ensures)

pub loop-preserved : goal.loop-preserved
loop-preserved c =
    let name = c.args.name.now in
    let is : c.from.result ≡ next (tokens (drop c.loop.at name)) = c.from.ensures ∙ c.token-next.ensures in
    let more : c.if-next-eq1.at ≡ c.loop.at + bytes_of c.from.result =
    elim c.if-next-eq1.branch [
      | then-next-eq1 w ↦ let e = ap bytes_of (c.from.ensures ∙ w.if-next-eq1.true) in omega (arith, w.at-is, e)
      | else-next-eq1+then-next-gt1 w ↦ let e = bytes-one c.from.result (omega (arith, c.from.ensures, w.if-next-gt1.true)) in omega (arith, w.at-is, e)
      | else-next-eq1+else-next-gt1 w ↦ let z : c.from.result ≡ 0 = omega (arith, c.from.ensures, w.if-next-eq1.false, w.if-next-gt1.false) in let e = ap bytes_of z in omega (arith, w.at-is, e)
    ] in
    let (within, rest) = digest-further name c.loop.value c.loop.at c.if-next-eq1.at c.from.result (6 - c.loop.counter) (digest_of 6 (tokens name)) (omega (arith, c.loop-test.true)) c.loop.invariant.0 c.loop.invariant.1 is more in
    let left : 6 - c.loop.counter - 1 ≡ 6 - (c.loop.counter + 1) = omega arith in
    (within, ap (λ (k : ℕ). (c.loop.value * 512 + c.from.result) * 512 ^ k + digest_of k (tokens (drop c.if-next-eq1.at name))) (sym left) ∙ rest)
