use Rattle.std.proofs.Common.{◌≡◌, drop}
use Rattle.log4rs_base.specs.Filtering.{passes as passes_all}
use Rattle.log4rs_base.proofs.filter.passes.Given as goal

-- the filters that are left decide
abbrev pub invariant-loop-f : goal.invariant-loop-f
invariant-loop-f g l =
    passes_all (λ f. g.F.Filter.answer f l.fn.«record») l.filters
    ≡ passes_all (λ f. g.F.Filter.answer f l.fn.«record») (drop l.f-index l.filters)
