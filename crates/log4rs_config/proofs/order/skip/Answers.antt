use Rattle.std.proofs.Common.{◌≡◌, ◌-◌, ◌/◌, ◌+◌, ℕ, inl, inr, ⊎_elim, ap, ◌∙◌, arith, get_or}
use Rattle.log4rs_config.specs.Name.{colon}
use Rattle.log4rs_config.proofs.Cutting.{further-shared}
use Rattle.log4rs_config.proofs.Standings.{shared-within}
use Rattle.log4rs_config.proofs.order.skip.Goals as goal

pub same_to-end-requires : goal.same_to-end-requires
same_to-end-requires c = shared-within c.args.name.now c.args.target.now c.args.from c.requires

pub returns-clause-shared : goal.returns-clause-shared
returns-clause-shared c =
    let name = c.args.name.now in
    let from = c.args.from in
    let end = c.same_to-end.result in
    let begin = c.colons-begin.result in
    let told = c.colons-begin.ensures in
    let within = c.same_to-end.ensures.within in
    let k : ℕ = begin - from in
    let j : ℕ = (end - begin) / 2 in
    let at : from + k ≡ begin = omega (arith, told.within.0) in
    further-shared name c.args.target.now from k j end _ c.requires (omega (arith, told.within.0, told.within.1)) within.0 within.1 c.same_to-end.ensures.same
    (λ i l m. told.colons i (omega (arith, l, at)) m)
    (⊎_elim (λ (e : begin ≡ from). inl (omega (arith, e))) (λ (never : get_or name (begin - 1) 0 ≡ colon → ⊥). inr (λ e. never (ap (λ (i : ℕ). get_or name i 0) (omega (arith, at)) ∙ e))) told.first)
    (omega (arith, at))

pub returns-then-name-end-ne58-clause-shared : goal.returns-then-name-end-ne58-clause-shared
returns-then-name-end-ne58-clause-shared c =
    let name = c.args.name.now in
    let from = c.args.from in
    let end = c.same_to-end.result in
    let within = c.same_to-end.ensures.within in
    let k : ℕ = end - from in
    let at : from + k ≡ end = omega (arith, c.if-from-end.true) in
    let last : end - 1 ≡ from + k - 1 = omega (arith, at) in
    further-shared name c.args.target.now from k 0 end _ c.requires (omega (arith, at)) within.0 within.1 c.same_to-end.ensures.same
    (λ i l m. absurd (omega (arith, l, m, at)))
    (inr (λ e. c.if-name-end-ne58.true (ap (λ (i : ℕ). get_or name i 0) last ∙ e)))
    (omega (arith, at))
