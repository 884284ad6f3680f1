-- Which types outlive all loans.
use Rattle.std.proofs.Common.{ℕ, List, [], ◌++◌}
use mathlib.Core.List.{Mem, Mem-prop, mem-append}
use mathlib.Core.Logic.Or

-- of no loan
pub none : (a : ℕ) → Mem a [] → Mem a []
none a m = m

-- of the loans of two types, of which each is of none
pub both : (one other : List ℕ) → ((a : ℕ) → Mem a one → Mem a []) → ((a : ℕ) → Mem a other → Mem a []) → (a : ℕ) → Mem a (one ++ other) → Mem a []
both one other first second a m = Or.elim Mem-prop (mem-append.0 m) (first a) (second a)
