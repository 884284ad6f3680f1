-- The opening of a file: what it copies, and why it fails.
use Rattle.std.proofs.Common.{◌≤◌, ℕ, List, [], ◌∷◌, Bool, IsTrue, Some, arith}
use Rattle.log4rs_rolling.specs.Change.{opened}
use Rattle.log4rs_rolling.specs.Disk.{Disk, Calls}
use Rattle.log4rs_rolling.proofs.Calls.{calls_one}
use Rattle.log4rs_rolling.specs.AtOpening.{AskedThenOpened, AskedThenTried}
use Rattle.log4rs_rolling.specs.Copies.{CopiesNeedRefusal}
use Rattle.log4rs_rolling.specs.Keeping.{Keeping}
use Rattle.log4rs_rolling.specs.FileChanges.{way}
use Rattle.log4rs_rolling.specs.Window.{NoCopies}
use Rattle.log4rs_rolling.proofs.Copying.{copies_join, more_above}
use Rattle.log4rs_rolling.proofs.Parts.{clean_join, opened_clean, then_later}
use Rattle.log4rs_restarts.specs.Failures.{MayFail}
use Rattle.log4rs_restarts.specs.declared.run.OpeningError.{OpeningError}
use Rattle.log4rs_restarts.specs.declared.run.OpeningError.TheVariants as error

pub made_then_may : (why : OpeningError) (a b c : ℕ) → a ≤ b → MayFail ⊥ b c why → MayFail ⊥ a c why
made_then_may error.Settings a b c less may = may
made_then_may error.Store a b c less may = more_above a b c less may
made_then_may error.Memory a b c less may = tt

pub began_clean : (k now : Keeping) (path : List ℕ) (append : Bool) (d0 d1 : Disk) → AskedThenOpened k now path append d0 d1 → IsTrue k.renames → Calls d0 d1 NoCopies
began_clean k now path append d0 d1 began only =
    clean_join d0 began.asked d1 (began.stepped.renames only) (calls_one began.asked d1 (Some path) NoCopies (opened path (way append) ∷ []) began.asked.refusals began.opens (omega arith) (λ tells. tt))

pub began_copies : (k now : Keeping) (path : List ℕ) (append : Bool) (d0 d1 : Disk) → AskedThenOpened k now path append d0 d1 → IsTrue k.is_built_in → CopiesNeedRefusal d0 d1
began_copies k now path append d0 d1 began built =
    copies_join _ _ d0 began.asked d1 began.stepped.store (calls_one began.asked d1 (Some path) (λ added. Unit {0}) (opened path (way append) ∷ []) began.asked.refusals began.opens (omega arith) (λ tells. tt))
    (began.stepped.copies built) (λ none. calls_one began.asked d1 (Some path) NoCopies (opened path (way append) ∷ []) began.asked.refusals began.opens (omega arith) (λ tells. tt))

pub tried_calls : (k : Keeping) (path : List ℕ) (append : Bool) (d0 d1 : Disk) → AskedThenTried k path append d0 d1 → Calls d0 d1 (λ added. Unit {0})
tried_calls k path append d0 d1 tried = then_later _ _ d0 tried.asked d1 tried.stepped.store tried.opens

pub tried_clean : (k : Keeping) (path : List ℕ) (append : Bool) (d0 d1 : Disk) → AskedThenTried k path append d0 d1 → IsTrue k.renames → Calls d0 d1 NoCopies
tried_clean k path append d0 d1 tried only = clean_join d0 tried.asked d1 (tried.stepped.renames only) (opened_clean path (way append) tried.asked d1 tried.opens)

pub tried_copies : (k : Keeping) (path : List ℕ) (append : Bool) (d0 d1 : Disk) → AskedThenTried k path append d0 d1 → IsTrue k.is_built_in → CopiesNeedRefusal d0 d1
tried_copies k path append d0 d1 tried built =
    copies_join _ _ d0 tried.asked d1 tried.stepped.store tried.opens (tried.stepped.copies built) (λ none. opened_clean path (way append) tried.asked d1 tried.opens)
