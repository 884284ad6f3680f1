-- The segments that a roller shows from a start.
use Rattle.std.proofs.Common.{◌≡◌, ◌≢◌, ℕ, List, [], ◌∷◌, ◌++◌, Option, Some, None, refl, sym, ap, ◌∙◌, subst, Bool, true, false, IsTrue, reverse, if◌then◌else◌, arith}
use Rattle.std.specs.Option.{option_to_list}
use Rattle.std.proofs.lemmas.List.{append-nil}
use Rattle.log4rs_rolling.specs.Change.{Change, Files, opened, replay, bytes_at}
use Rattle.log4rs_rolling.specs.Disk.{Disk, Calls, Does, files_of}
use Rattle.log4rs_rolling.specs.declared.store.Open.TheVariants.{Append, Truncate}
use Rattle.log4rs_rolling.proofs.Calls.{calls_join, calls_map, calls_one, replay-append}
use Rattle.log4rs_rolling.specs.Archives.{waiting_name}
use Rattle.log4rs_rolling.specs.ArchiveEnds.{older_of}
use Rattle.log4rs_rolling.specs.Keeping.{Keeping, Stands, SteppedAt}
use Rattle.log4rs_rolling.specs.FileChanges.{way}
use Rattle.log4rs_rolling.specs.Roller.{archive_name, kept_by, vacancy_if, waiting_if}
use Rattle.log4rs_rolling.specs.Segments.{Segments, Shows, begun}
use Rattle.log4rs_rolling.specs.Window.{NoGaps, Window, around, contents, names, AreDistinct, NotAmong, Anywhere, VacantAt, Vacancy}
use Rattle.log4rs_rolling.specs.SegmentGrowth.{ShowsFromStart}
use Rattle.log4rs_rolling.specs.SegmentsShown.{StaysIn}
use Rattle.log4rs_rolling.specs.declared.fixed_window.FixedWindowRoller.{FixedWindowRoller}
use Rattle.log4rs_rolling.specs.declared.fixed_window.Job.{Job}
use Rattle.log4rs_rolling.proofs.Both.{calls_both}
use Rattle.log4rs_rolling.proofs.Growing.{opens_show}
use Rattle.log4rs_rolling.proofs.Parts.{silent_first, stands_still, if_map, if_all}
use Rattle.log4rs_rolling.proofs.Starting.{begins}
use Rattle.log4rs_rolling.proofs.Standing.{without_waiting}
use Rattle.log4rs_rolling.proofs.Windows.{contents-append}

-- One start

gapless_with : (files : Files) (waiting x : List ℕ) (older : List (List ℕ)) → files waiting ≡ Some x → NoGaps files older → NoGaps files (older ++ waiting ∷ [])
gapless_with files waiting x [] is gapless = tt
gapless_with files waiting x (n ∷ []) is gapless = (λ none. absurd (clash x (sym is ∙ none)), tt) where
  clash : (x : List ℕ) → Some x ≡ None → ⊥
  clash x e = cc
gapless_with files waiting x (n ∷ m ∷ ns) is gapless = (gapless.0, gapless_with files waiting x (m ∷ ns) is gapless.1)

begun_same : (older : List (List ℕ)) (waiting path : List ℕ) (files : Files) → files waiting ≡ None → begun (older ++ waiting ∷ []) path files ≡ begun older path files
begun_same older waiting path files none =
    let same : contents files (older ++ waiting ∷ []) ≡ contents files older =
    contents-append files older (waiting ∷ []) ∙ ap (λ (v : Option (List ℕ)). contents files older ++ (option_to_list v ++ [])) none ∙ append-nil (contents files older) in
    ap (λ (c : List (List ℕ)). record { closed = reverse c; current = bytes_at files path }) same

from_start : (older : List (List ℕ)) (waiting path : List ℕ) (files : Files) (added : List Change) (v : Option (List ℕ)) → files waiting ≡ v → AreDistinct (names (around older (Some waiting) path))
    → StaysIn Anywhere (VacantAt waiting) (around older (Some waiting) path) files added → (files waiting ≡ None → added ≡ [])
    → NoGaps files older → Shows (begun (older ++ waiting ∷ []) path files) older path (replay files added)
from_start older waiting path files added None is distinct stays idle gapless =
    subst (λ (c : List Change). Shows (begun (older ++ waiting ∷ []) path files) older path (replay files c)) (sym (idle is))
    (subst (λ (s : Segments). Shows s older path files) (sym (begun_same older waiting path files is)) (begins older path files gapless))
from_start older waiting path files added (Some x) is distinct stays idle gapless =
    let all = older ++ waiting ∷ [] in
    let shown = stays (begun all path files) (begins all path files (gapless_with files waiting x older is gapless)) in
    subst (λ (l : List (List ℕ)). Shows (begun all path files) l path (replay files added)) (without_waiting older waiting path distinct) shown

-- A roller that works at once

pub start_at_once : (roller : FixedWindowRoller) (path : List ℕ) (d0 d1 : Disk) → roller.background ≡ false → Calls d0 d1 (λ added. added ≡ []) → ShowsFromStart (kept_by roller) path d0 d1
start_at_once roller path d0 d1 off calls =
    let k = kept_by roller in
    if_all k.archives
    (λ older. let window = around older (k.waiting path) path in Stands window (k.vacant path) d0
    → Calls d0 d1 (λ added. NoGaps (files_of d0) older → Shows (begun (older_of window) path (files_of d0)) older path (replay (files_of d0) added)))
    (λ older. λ stands. calls_map d0 d1 _ _ calls (λ added tells told none gapless.
    subst (λ (b : Bool). Shows (begun (older_of (around older (waiting_if b path) path)) path (files_of d0)) older path (replay (files_of d0) added)) (sym off)
    (subst (λ (c : List Change). Shows (begun (older ++ []) path (files_of d0)) older path (replay (files_of d0) c)) (sym none)
    (subst (λ (l : List (List ℕ)). Shows (begun l path (files_of d0)) older path (files_of d0)) (sym (append-nil older)) (begins older path (files_of d0) gapless)))))

-- One in the background

pub vacant_now : (b a : Bool) (name : ℕ → List ℕ) (base count : ℕ) (job : Option Job) (path : List ℕ) → IsTrue b → IsTrue a → job ≡ None → vacancy_if b a name base count job path ≡ VacantAt (waiting_name path)
vacant_now true true name base count None path on knows none = refl
vacant_now true true name base count (Some job) path on knows none = cc
vacant_now true false name base count job path on knows none = cc
vacant_now false a name base count job path on knows none = cc

vacant_before : (b a : Bool) (name : ℕ → List ℕ) (base count : ℕ) (job : Option Job) (path : List ℕ) → a ≡ false → vacancy_if b a name base count job path ≡ Anywhere
vacant_before true true name base count job path not = cc
vacant_before true false name base count job path not = refl
vacant_before false a name base count job path not = refl

pub start_behind : (r0 r1 : FixedWindowRoller) (path : List ℕ) (d0 d1 : Disk) → IsTrue r0.background → r0.asked ≡ false → IsTrue r1.background → IsTrue r1.asked → r1.job ≡ None
    → SteppedAt (kept_by r0) (kept_by r1) path d0 d1 → Calls d0 d1 (λ added. files_of d0 (waiting_name path) ≡ None → added ≡ [])
    → ShowsFromStart (kept_by r0) path d0 d1
start_behind r0 r1 path d0 d1 on not on1 knows none stepped idle =
    let k0 = kept_by r0 in
    let k1 = kept_by r1 in
    let w0 : k0.vacant path ≡ Anywhere = vacant_before r0.background r0.asked (archive_name r0) r0.base r0.count r0.job path not in
    let w1 : k1.vacant path ≡ VacantAt (waiting_name path) = vacant_now r1.background r1.asked (archive_name r1) r1.base r1.count r1.job path on1 knows none in
    let waits : k0.waiting path ≡ Some (waiting_name path) = ap (λ (b : Bool). waiting_if b path) on in
    if_map k0.archives
    (λ older. let w = around older (k0.waiting path) path in Stands w (k0.vacant path) d0 → Calls d0 d1 (StaysIn (k0.vacant path) (k1.vacant path) w (files_of d0)))
    (λ older. let w = around older (k0.waiting path) path in Stands w (k0.vacant path) d0
    → Calls d0 d1 (λ added. NoGaps (files_of d0) older → Shows (begun (older_of w) path (files_of d0)) older path (replay (files_of d0) added)))
    stepped.shown
    (λ older shown. λ stands.
    let Goal : Option (List ℕ) → List Change → Type 0 = λ o added. NoGaps (files_of d0) older → Shows (begun (older_of (around older o path)) path (files_of d0)) older path (replay (files_of d0) added) in
    let distinct : AreDistinct (names (around older (Some (waiting_name path)) path)) = subst (λ (o : Option (List ℕ)). AreDistinct (names (around older o path))) waits stands.0 in
    calls_map d0 d1 _ _ (calls_both d0 d1 _ _ (shown stands) idle) (λ added tells told is.
    let stays : StaysIn Anywhere (VacantAt (waiting_name path)) (around older (Some (waiting_name path)) path) (files_of d0) added =
    subst (λ (o : Option (List ℕ)). StaysIn Anywhere (VacantAt (waiting_name path)) (around older o path) (files_of d0) added) waits
    (subst (λ (v : Vacancy). StaysIn v (VacantAt (waiting_name path)) (around older (k0.waiting path) path) (files_of d0) added) w0
    (subst (λ (v : Vacancy). StaysIn (k0.vacant path) v (around older (k0.waiting path) path) (files_of d0) added) w1 is.0)) in
    subst (λ (o : Option (List ℕ)). Goal o added) (sym waits)
    (λ gapless. from_start older (waiting_name path) path (files_of d0) added (files_of d0 (waiting_name path)) refl distinct stays is.1 gapless)))

-- and then the file is opened

at_end : (n : List ℕ) (mid : List (List ℕ)) (path : List ℕ) → NotAmong n (mid ++ path ∷ []) → n ≢ path
at_end n [] path not = not.0
at_end n (m ∷ mid) path not = at_end n mid path not.1

not_middle : (n : List ℕ) (ns mid : List (List ℕ)) (path : List ℕ) → NotAmong n ((ns ++ mid) ++ path ∷ []) → NotAmong n (ns ++ path ∷ [])
not_middle n [] mid path not = (at_end n mid path not, tt)
not_middle n (m ∷ ns) mid path not = (not.0, not_middle n ns mid path not.1)

drop_middle : (ns mid : List (List ℕ)) (path : List ℕ) → AreDistinct ((ns ++ mid) ++ path ∷ []) → AreDistinct (ns ++ path ∷ [])
drop_middle [] mid path distinct = (tt, tt)
drop_middle (n ∷ ns) mid path distinct = (not_middle n ns mid path distinct.0, drop_middle ns mid path distinct.1)

pub start_opened : (k : Keeping) (path : List ℕ) (append : Bool) (d0 d1 d2 : Disk) → IsTrue append → ShowsFromStart k path d0 d1 → Does d1 d2 (opened path (way append) ∷ []) d1.refusals (Some path)
    → ShowsFromStart k path d0 d2
start_opened k path append d0 d1 d2 on start does =
    let Of : Disk → List (List ℕ) → Type 0 = λ d older. let w = around older (k.waiting path) path in Stands w (k.vacant path) d0
    → Calls d0 d (λ added. NoGaps (files_of d0) older → Shows (begun (older_of w) path (files_of d0)) older path (replay (files_of d0) added)) in
    let calls : Calls d1 d2 (λ added. added ≡ opened path (way append) ∷ []) =
    calls_one d1 d2 (Some path) (λ added. added ≡ opened path (way append) ∷ []) (opened path (way append) ∷ []) d1.refusals does (omega arith) (λ tells. refl) in
    if_map k.archives (Of d1) (Of d2) start
    (λ older begin. λ stands.
    let w : Window = around older (k.waiting path) path in
    calls_join d0 d1 d2 _ _ _ (begin stands) calls
    (λ xs ys tells told x y. λ gapless.
    let s = begun (older_of w) path (files_of d0) in
    let f1 = replay (files_of d0) xs in
    subst (λ (f : Files). Shows s older path f) (sym (replay-append (files_of d0) xs ys))
    (subst (λ (c : List Change). Shows s older path (replay f1 c)) (sym y)
    (subst (λ (a : Bool). Shows s older path (replay f1 (opened path (if a then Append else Truncate) ∷ []))) (sym on)
    (opens_show s older path f1 (opened path Append ∷ []) (drop_middle older (option_to_list (k.waiting path)) path stands.0) (refl, refl, tt) (x gapless))))))

-- and before it nothing was done
pub start_made : (k : Keeping) (path : List ℕ) (d0 d1 d2 : Disk) → Calls d0 d1 (λ added. added ≡ []) → ShowsFromStart k path d1 d2 → ShowsFromStart k path d0 d2
start_made k path d0 d1 d2 none start =
    let Of : Disk → List (List ℕ) → Type 0 = λ d older. let w = around older (k.waiting path) path in Stands w (k.vacant path) d
    → Calls d d2 (λ added. NoGaps (files_of d) older → Shows (begun (older_of w) path (files_of d)) older path (replay (files_of d) added)) in
    if_map k.archives (Of d1) (Of d0) start
    (λ older begin. λ stands.
    let w : Window = around older (k.waiting path) path in
    silent_first d0 d1 d2 (λ f added. NoGaps f older → Shows (begun (older_of w) path f) older path (replay f added)) none (begin (stands_still w (k.vacant path) d0 d1 none stands)))
