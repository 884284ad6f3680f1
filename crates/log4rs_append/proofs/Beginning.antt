-- The opening of a file, behind its folder and what was left of a rolling.
use Rattle.std.proofs.Common.{Result, Ok, Err, IfOk, IfErr, ◌≡◌, ℕ, List, [], ◌∷◌, ◌++◌, Bool, IsTrue, Option, Some, refl, sym, ap, subst, ◌∙◌, append-nil, arith}
use Rattle.log4rs_rolling.specs.Change.{Change, opened}
use Rattle.log4rs_rolling.specs.Disk.{Disk, Calls, Does, SameOpen, Told, files_of}
use Rattle.log4rs_rolling.proofs.Calls.{calls_join, calls_none, calls_one}
use Rattle.log4rs_rolling.specs.AtOpening.{AskedThenOpened, AskedThenTried, MadeReadyAll, MadeReadyPartly, opening_moves}
use Rattle.log4rs_rolling.specs.Keeping.{Keeping, Silent, SteppedAt}
use Rattle.log4rs_rolling.specs.FileChanges.{OnlyOpens, way}
use Rattle.log4rs_rolling.proofs.Beginning.{start_made}
use Rattle.log4rs_rolling.proofs.Found.{nothing_partly}
use Rattle.log4rs_rolling.proofs.Leaving.{leaves_still}
use Rattle.log4rs_rolling.proofs.Opening.{asked_then_tried}
use Rattle.log4rs_rolling.proofs.Parts.{silent_both, silent_first, then_later}
use Rattle.log4rs_rolling.proofs.Quiet.{nothing_more}
use Rattle.log4rs_rolling.proofs.Stepping.{stepped_at_join, stepped_none}
use Rattle.log4rs_append.specs.Rolling.{begun_empty, since_bytes}
use Rattle.log4rs_append.specs.Sink.{Reading, bytes_of}
use Rattle.log4rs_append.proofs.Rolling.{begins_empty, since_silent}
use Rattle.log4rs_rolling.specs.Faults.{IsOfStore, MayAnswer}
use Rattle.log4rs_base.specs.declared.error.LogError.{LogError}
use Rattle.log4rs_base.specs.declared.error.LogError.TheVariants.{Store, Memory, Policy, Custom}

-- Behind calls that change nothing

made_at : (k : Keeping) (path : List ℕ) (d0 d1 : Disk) → Calls d0 d1 (λ added. added ≡ []) → SameOpen d0 d1 → SteppedAt k k path d0 d1
made_at k path d0 d1 made same = stepped_none k k d0 d1 refl made (leaves_still d0 d1 made same) path

pub made_then_nothing : (k : Keeping) (path : List ℕ) (append : Bool) (d0 d1 : Disk) → Calls d0 d1 (λ added. added ≡ []) → SameOpen d0 d1 → AskedThenTried k path append d0 d1
made_then_nothing k path append d0 d1 made same =
    asked_then_tried k k path append d0 d1 d1 (made_at k path d0 d1 made same) (λ built. nothing_partly (opening_moves k path (files_of d0)) d0 d1 made) (λ once. made) (calls_none d1 (OnlyOpens path (way append)) tt)

pub tried_nothing : (k : Keeping) (path : List ℕ) (append : Bool) (disk : Disk) → AskedThenTried k path append disk disk
tried_nothing k path append disk = made_then_nothing k path append disk disk (calls_none disk (λ added. added ≡ []) refl) (λ tells. refl)

told_after : (d0 d1 d2 : Disk) (added : List Change) → Told d0 d1 [] → Told d1 d2 added → Told d0 d2 added
told_after d0 d1 d2 added first then = record {
  start = then.start ∙ first.start;
  changes = then.changes ∙ ap (λ (c : List Change). c ++ added) (first.changes ∙ append-nil d0.changes);
}

-- an operation behind one that changed nothing
does_after : (d0 d1 d2 : Disk) (added : List Change) (before at : Option (List ℕ)) → Does d0 d1 [] d0.refusals before → Does d1 d2 added d1.refusals at → Does d0 d2 added d0.refusals at
does_after d0 d1 d2 added before at first then =
    let tells : IsTrue d0.tells → IsTrue d1.tells = λ is. subst IsTrue (sym first.tells) is in
    record {
      tells = then.tells ∙ first.tells;
      refusals = then.refusals ∙ first.refusals;
      told = λ is. told_after d0 d1 d2 added (first.told is) (then.told (tells is));
      opened = λ is. then.opened (tells is);
    }

pub made_then_opened : (k now : Keeping) (path : List ℕ) (append : Bool) (d0 d1 d2 : Disk) → Does d0 d1 [] d0.refusals d0.opened → Calls d0 d1 (λ added. added ≡ []) → SameOpen d0 d1 → AskedThenOpened k now path append d1 d2
    → AskedThenOpened k now path append d0 d2
made_then_opened k now path append d0 d1 d2 ok made same began = record {
  asked = began.asked;
  stepped = stepped_at_join k k now path d0 d1 began.asked (made_at k path d0 d1 made same) began.stepped;
  moved = λ built. silent_first d0 d1 began.asked (MadeReadyAll k path) made (began.moved built);
  idle = λ once. nothing_more (λ added. added ≡ []) d0 d1 began.asked made (began.idle once);
  opens = began.opens;
  at_once = λ once. does_after d0 d1 d2 (opened path (way append) ∷ []) d0.opened (Some path) ok (began.at_once once);
  looked = began.looked;
  told = began.told;
  shown = λ built not on. start_made k path d0 d1 d2 made (began.shown built not on);
  unrefused = λ built. began.unrefused built ∙ ok.refusals;
}

pub made_then_tried : (k : Keeping) (path : List ℕ) (append : Bool) (d0 d1 d2 : Disk) → Calls d0 d1 (λ added. added ≡ []) → SameOpen d0 d1 → AskedThenTried k path append d1 d2 → AskedThenTried k path append d0 d2
made_then_tried k path append d0 d1 d2 made same tried =
    asked_then_tried k tried.now path append d0 tried.asked d2 (stepped_at_join k k tried.now path d0 d1 tried.asked (made_at k path d0 d1 made same) tried.stepped)
    (λ built. silent_first d0 d1 tried.asked (MadeReadyPartly k path) made (tried.moved built))
    (λ once. nothing_more (λ added. added ≡ []) d0 d1 tried.asked made (tried.idle once)) tried.opens

-- What an opening calls

pub began_calls : (k now : Keeping) (path : List ℕ) (append : Bool) (d0 d1 : Disk) → AskedThenOpened k now path append d0 d1 → Calls d0 d1 (λ added. Unit {0})
began_calls k now path append d0 d1 began =
    then_later _ _ d0 began.asked d1 began.stepped.store (calls_one began.asked d1 (Some path) (λ added. Unit {0}) (opened path (way append) ∷ []) began.asked.refusals began.opens (omega arith) (λ tells. tt))

-- What was written since

-- nothing was, at the end of an opening
pub begins_asked : (reading : Option Reading) (built0 built1 : Bool) (path : List ℕ) (k now : Keeping) (append : Bool) (opening d0 d1 : Disk) → built0 ≡ k.is_built_in → built1 ≡ built0
    → AskedThenOpened k now path append opening d1 → opening.tells ≡ d0.tells → bytes_of reading (since_bytes built1 path opening d1) ≡ bytes_of reading (begun_empty built0 d0)
begins_asked reading built0 built1 path k now append opening d0 d1 is same began tells =
    let silent : IsTrue built0 → Calls opening d1 Silent = λ built.
    calls_join opening began.asked d1 Silent Silent Silent (began.stepped.silent (subst IsTrue is built))
    (calls_one began.asked d1 (Some path) Silent (opened path (way append) ∷ []) began.asked.refusals began.opens (omega arith) (λ tells. λ q. refl))
    (λ xs ys tells told a b. λ q. silent_both q xs ys (a q) (b q)) in
    since_silent reading reading built0 built1 path path opening opening opening d1 refl same refl refl (λ tells. omega arith) (began_calls k now path append opening d1 began) silent
    ∙ begins_empty reading built0 built0 path opening d0 opening refl refl tells

-- the faults of a store and of memory
pub of_store : (fault : LogError) (a b : ℕ) → MayAnswer a b fault → IsOfStore fault
of_store Store a b may = tt
of_store Memory a b may = tt
of_store Policy a b may = absurd may
of_store (Custom text) a b may = absurd may

-- Results whose value is handed on

pub if_ok : {T E : Type 0} (r : Result T E) (P Q : T → Type 0) → ((x : T) → P x → Q x) → IfOk r P → IfOk r Q
if_ok (Ok x) P Q more is = more x is
if_ok (Err e) P Q more is = tt

pub if_ok_two : {T E : Type 0} (r : Result T E) (P Q R : T → Type 0) → ((x : T) → P x → Q x → R x) → IfOk r P → IfOk r Q → IfOk r R
if_ok_two (Ok x) P Q R more one other = more x one other
if_ok_two (Err e) P Q R more one other = tt

pub if_ok_when : {T E : Type 0} (r : Result T E) (A : Type 0) (P : T → Type 0) → (A → IfOk r P) → IfOk r (λ x. A → P x)
if_ok_when (Ok x) A P is = is
if_ok_when (Err e) A P is = tt

pub if_err : {T E : Type 0} (r : Result T E) (P Q : E → Type 0) → ((e : E) → P e → Q e) → IfErr r P → IfErr r Q
if_err (Ok x) P Q more is = tt
if_err (Err e) P Q more is = more e is
