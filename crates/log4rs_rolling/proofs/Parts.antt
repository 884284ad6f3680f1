-- The parts of an append, one after another.
use Rattle.std.proofs.Common.{◌≡◌, ◌≢◌, ◌≤◌, ℕ, ◌+◌, List, [], ◌∷◌, ◌++◌, Option, Some, None, refl, sym, ap, ◌∙◌, subst, IsTrue, Bool, true, false, if◌then◌else◌, arith, length, length-append, take, Result, Ok, Err, OnOk, OnErr, min, cond, append_assoc, unwrap_or, IsSome}
use Rattle.std.specs.Option.{IfSome}
use Rattle.std.proofs.lemmas.List.{append-nil}
use Rattle.log4rs_rolling.specs.Change.{Change, copied, opened, wrote, renamed, removed, Files, bytes_at, put, after, replay, written, written_by}
use Rattle.std.proofs.lemmas.List.{length-take}
use Rattle.std.proofs.Math.Nat.{min-eq_left}
use Rattle.std.proofs.Common.{◌^◌, ◌-◌, string_bytes}
use Rattle.log4rs_rolling.specs.Disk.{Disk, Told, Calls, files_of, SameOpen, open_path}
use Rattle.log4rs_rolling.specs.declared.log_file.LogFile.{LogFile}
use Rattle.log4rs_rolling.specs.FileChanges.{WroteFirst, OnlyWrites, OnlyOpens, IsBeginning, OnlyAppends}
use Rattle.log4rs_rolling.specs.declared.store.Open.{Open}
use Rattle.log4rs_rolling.specs.declared.store.Open.TheVariants.{Append, Truncate}
use Rattle.log4rs_base.specs.declared.record.Context.{Context}
use Rattle.log4rs_base.specs.declared.error.LogError.{LogError}
use Rattle.log4rs_rolling.specs.Window.{Window, names, around, GoodWithin, NoCopies, Vacancy, Anywhere, VacantAt, OfAnother, Vacant, drops_into, drops_after}
use Rattle.log4rs_rolling.specs.Asking.{Asking, Kind, Untold, BySize, First, Asked, is_told, is_first, asks_first, Noted}
use Rattle.log4rs_rolling.specs.ArchiveEnds.{IsAt, longer, EndsAt, EndsUnder}
use Rattle.log4rs_rolling.proofs.Ending.{longer_both, EndsAt-append, EndsAt-last, none_yes, opens_end, writes_end}
use Rattle.log4rs_rolling.specs.Keeping.{Keeping, Removed, RolledIn, RolledAs, Stands, SameNames, Silent}
use Rattle.log4rs_rolling.specs.PolicyResults.{Processed}
use Rattle.log4rs_rolling.specs.LogFile.{Agrees, estimate}
use Rattle.log4rs_rolling.specs.AppendParts.{Part, Prepared, Finished, FinishedText, TextIn, TakesAway, TakenAfter}
use Rattle.log4rs_rolling.specs.Moves.{Begins, MovedAll, MovedPartly, each_to_the_older}
use Rattle.log4rs_rolling.proofs.Moving.{on_err_map}
use Rattle.log4rs_rolling.specs.Appends.{SaidAt, Appended, AppendedTo, WroteText}
use Rattle.log4rs_rolling.proofs.Replays.{put_there, put_here}
use Rattle.log4rs_rolling.specs.SegmentsShown.{ClosesIn}
use Rattle.log4rs_rolling.proofs.Both.{calls_both}
use Rattle.log4rs_rolling.proofs.Calls.{replay-append, same_path}
use Rattle.log4rs_rolling.proofs.Calls.{calls_map, calls_join, files_after}
use Rattle.log4rs_rolling.proofs.Written.{written-append}
use Rattle.log4rs_rolling.proofs.Windows.{opens_keep, opens_silent, writes_keep, GoodWithin-append, GoodWithin-behind, NoCopies-front, NoCopies-back, NoCopies-append, appends_clean}
use Rattle.log4rs_rolling.proofs.Quiet.{opened_quiet, opens_append, writes_append}

pub not_yes : true ≡ false → ⊥
not_yes e = cc

pub not_both : {X : Type 0} (b : Bool) → b ≡ true → b ≡ false → X
not_both b is not = absurd (not_yes (sym is ∙ not))

-- What is known where there are archives

pub if_map : {X : Type 0} (o : Option X) (P Q : X → Type 0) → IfSome o P → ((x : X) → P x → Q x) → IfSome o Q
if_map None P Q h f = tt
if_map (Some x) P Q h f = f x h

pub if_two : {X : Type 0} (o : Option X) (P Q R : X → Type 0) → IfSome o P → IfSome o Q → ((x : X) → P x → Q x → R x) → IfSome o R
if_two None P Q R h k f = tt
if_two (Some x) P Q R h k f = f x h k

pub if_all : {X : Type 0} (o : Option X) (P : X → Type 0) → ((x : X) → P x) → IfSome o P
if_all None P f = tt
if_all (Some x) P f = f x

-- Changes of the active file alone leave the others as they are

after_opened : (files : Files) (path : List ℕ) (how : Open) (name : List ℕ) → name ≢ path → after files (opened path how) name ≡ files name
after_opened files path Append name other = put_there files path (Some (bytes_at files path)) name other
after_opened files path Truncate name other = put_there files path (Some []) name other

appends_apart : (files : Files) (active : List ℕ) (how : Open) (changes : List Change) (name : List ℕ) → OnlyAppends active how changes → name ≢ active → replay files changes name ≡ files name
appends_apart files active how [] name only other = refl
appends_apart files active how (opened at way ∷ changes) name only other =
    appends_apart (after files (opened at way)) active how changes name only.2 other ∙ after_opened files at way name (λ e. other (e ∙ only.0))
appends_apart files active how (wrote at bytes ∷ changes) name only other =
    appends_apart (after files (wrote at bytes)) active how changes name only.1 other ∙ put_there files at (Some (bytes_at files at ++ bytes)) name (λ e. other (e ∙ only.0))
appends_apart files active how (renamed from to ∷ changes) name only other = absurd only
appends_apart files active how (copied from to ∷ changes) name only other = absurd only
appends_apart files active how (removed at ∷ changes) name only other = absurd only

pub opens_apart : (files : Files) (active : List ℕ) (how : Open) (changes : List Change) (name : List ℕ) → OnlyOpens active how changes → name ≢ active → replay files changes name ≡ files name
opens_apart files active how changes name only other = appends_apart files active how changes name (opens_append active how changes only) other

pub writes_apart : (files : Files) (active : List ℕ) (changes : List Change) (name : List ℕ) → OnlyWrites active changes → name ≢ active → replay files changes name ≡ files name
writes_apart files active changes name only other = appends_apart files active Append changes name (writes_append active Append changes only) other

pub appends_vacant : (name : Vacancy) (files : Files) (active : List ℕ) (how : Open) (changes : List Change) → OnlyAppends active how changes → Vacant name active files → Vacant name active (replay files changes)
appends_vacant Anywhere files active how changes only vacant = tt
appends_vacant OfAnother files active how changes only vacant = vacant
appends_vacant (VacantAt name) files active how changes only vacant = λ other. appends_apart files active how changes name only other ∙ vacant other

pub opens_vacant : (name : Vacancy) (files : Files) (active : List ℕ) (how : Open) (changes : List Change) → OnlyOpens active how changes → Vacant name active files → Vacant name active (replay files changes)
opens_vacant name files active how changes only vacant = appends_vacant name files active how changes (opens_append active how changes only) vacant

pub writes_vacant : (name : Vacancy) (files : Files) (active : List ℕ) (changes : List Change) → OnlyWrites active changes → Vacant name active files → Vacant name active (replay files changes)
writes_vacant name files active changes only vacant = appends_vacant name files active Append changes (writes_append active Append changes only) vacant

-- The bytes of the active file

pub of_some : (files : Files) (path : List ℕ) (bytes : List ℕ) → bytes_at (put files path (Some bytes)) path ≡ bytes
of_some files path bytes = ap (λ (v : Option (List ℕ)). unwrap_or v []) (put_here files path (Some bytes))

pub opens_bytes : (files : Files) (path : List ℕ) (changes : List Change) → OnlyOpens path Append changes → bytes_at (replay files changes) path ≡ bytes_at files path
opens_bytes files path [] only = refl
opens_bytes files path (opened at way ∷ changes) only =
    opens_bytes (after files (opened at way)) path changes only.2
    ∙ ap (λ (h : Open). bytes_at (after files (opened at h)) path) only.1
    ∙ ap (λ (p : List ℕ). bytes_at (put files p (Some (bytes_at files p))) path) only.0
    ∙ of_some files path (bytes_at files path)
opens_bytes files path (wrote at bytes ∷ changes) only = absurd only
opens_bytes files path (renamed from to ∷ changes) only = absurd only
opens_bytes files path (copied from to ∷ changes) only = absurd only
opens_bytes files path (removed at ∷ changes) only = absurd only

-- and that it is there
writes_there : (files : Files) (path : List ℕ) (changes : List Change) → OnlyWrites path changes → IsSome (files path) → IsSome (replay files changes path)
writes_there files path [] only some = some
writes_there files path (wrote at bytes ∷ changes) only some =
    writes_there (after files (wrote at bytes)) path changes only.1
    (subst (λ (p : List ℕ). IsSome (put files p (Some (bytes_at files p ++ bytes)) path)) (sym only.0)
    (subst IsSome (sym (put_here files path (Some (bytes_at files path ++ bytes)))) refl))
writes_there files path (opened at how ∷ changes) only some = absurd only
writes_there files path (renamed from to ∷ changes) only some = absurd only
writes_there files path (copied from to ∷ changes) only some = absurd only
writes_there files path (removed at ∷ changes) only some = absurd only

pub emptied_bytes : (files : Files) (path : List ℕ) → bytes_at (after files (opened path Truncate)) path ≡ []
emptied_bytes files path = of_some files path []

pub writes_bytes : (files : Files) (path : List ℕ) (changes : List Change) → OnlyWrites path changes → bytes_at (replay files changes) path ≡ bytes_at files path ++ written path changes
writes_bytes files path [] only = sym (append-nil (bytes_at files path))
writes_bytes files path (wrote at bytes ∷ changes) only =
    let here : bytes_at (after files (wrote at bytes)) path ≡ bytes_at files path ++ bytes =
    ap (λ (p : List ℕ). bytes_at (put files p (Some (bytes_at files p ++ bytes))) path) only.0 ∙ of_some files path (bytes_at files path ++ bytes) in
    let mine : written_by path (wrote at bytes) ≡ bytes = ap (λ (p : List ℕ). written_by path (wrote p bytes)) only.0 ∙ ap (λ (b : Bool). cond b bytes []) (same_path path) in
    writes_bytes (after files (wrote at bytes)) path changes only.1
    ∙ ap (λ (b : List ℕ). b ++ written path changes) here
    ∙ append_assoc (bytes_at files path) bytes (written path changes)
    ∙ ap (λ (b : List ℕ). bytes_at files path ++ (b ++ written path changes)) (sym mine)
writes_bytes files path (opened at how ∷ changes) only = absurd only
writes_bytes files path (renamed from to ∷ changes) only = absurd only
writes_bytes files path (copied from to ∷ changes) only = absurd only
writes_bytes files path (removed at ∷ changes) only = absurd only

-- Parts

pub appending : (append : Bool) (path : List ℕ) (changes : List Change) → IsTrue append → OnlyOpens path (if append then Append else Truncate) changes → OnlyOpens path Append changes
appending true path changes on only = only
appending false path changes on only = cc

pub opens_part : (asking : Asking) (context : Context) (len : ℕ) (name : Vacancy) (w : Window) (append : Bool) (d0 d1 : Disk) → IsTrue append → Stands w name d0
    → Calls d0 d1 (OnlyOpens w.active (if append then Append else Truncate))
    → Calls d0 d1 (λ added. OnlyOpens w.active Append added × Part asking context None name name len [] w (files_of d0) added)
opens_part asking context len name w append d0 d1 on stands calls =
    calls_map d0 d1 _ (λ added. OnlyOpens w.active Append added × Part asking context None name name len [] w (files_of d0) added) calls
    (λ added tells told opens.
    let only = appending append w.active added on opens in (
      only,
      record {
        good = λ clean. opens_keep w (files_of d0) added stands.0 only;
        vacant = opens_vacant name (files_of d0) w.active Append added only (stands.1 tells);
        said = λ is. tt;
        ends = λ clean places at are cut. opens_end w (files_of d0) added places at stands.0 only are;
      },
    ))

pub writes_part : (asking : Asking) (context : Context) (len : ℕ) (name : Vacancy) (w : Window) (Q : List Change → Type 0) (d0 d1 : Disk) → Stands w name d0
    → Calls d0 d1 (λ added. OnlyWrites w.active added × Q added)
    → Calls d0 d1 (λ added. OnlyWrites w.active added × Part asking context None name name len [] w (files_of d0) added)
writes_part asking context len name w Q d0 d1 stands calls =
    calls_map d0 d1 _ (λ added. OnlyWrites w.active added × Part asking context None name name len [] w (files_of d0) added) calls
    (λ added tells told writes. (
      writes.0,
      record {
        good = λ clean. writes_keep w (files_of d0) added stands.0 writes.0;
        vacant = writes_vacant name (files_of d0) w.active added writes.0 (stands.1 tells);
        said = λ is. tt;
        ends = λ clean places at are cut. writes_end w (files_of d0) added places at stands.0 writes.0 are;
      },
    ))

-- what a part that may ask adds, where there are these archives
abbrev pub PartOf : Asking → Context → Option Bool → Keeping → Keeping → ℕ → List ℕ → Disk → Disk → List (List ℕ) → Type 0
PartOf asking context answer before now len path old new older =
    let window = around older (before.waiting path) path in
    Stands window (before.vacant path) old → Calls old new (λ added. (written path added ≡ []) × Part asking context answer (before.vacant path) (now.vacant path) len [] window (files_of old) added)

still_part : (asking : Asking) (context : Context) (answer : Option Bool) (k0 k1 : Keeping) (len : ℕ) (path : List ℕ) (d0 d1 : Disk) (older : List (List ℕ))
    → SaidAt asking context answer len → k1 ≡ k0 → Calls d0 d1 (λ added. added ≡ []) → PartOf asking context answer k0 k1 len path d0 d1 older
still_part asking context answer k0 k1 len path d0 d1 older said same calls = λ stands.
    let w : Window = around older (k0.waiting path) path in
    calls_map d0 d1 (λ added. added ≡ []) (λ added. (written path added ≡ []) × Part asking context answer (k0.vacant path) (k1.vacant path) len [] w (files_of d0) added) calls
    (λ added tells told none. (
      ap (written path) none,
      record {
        good = λ clean. subst (GoodWithin (drops_after answer (k0.vacant path)) w (files_of d0)) (sym none) tt;
        vacant = subst (λ (k : Keeping). Vacant (k.vacant path) path (replay (files_of d0) added)) (sym same)
            (subst (λ (c : List Change). Vacant (k0.vacant path) path (replay (files_of d0) c)) (sym none) (stands.1 tells));
        said = said;
        ends = λ clean places at are cut. subst (EndsAt places w (files_of d0) at) (sym none) are;
      },
    ))

abbrev KeptOf : Keeping → Keeping → List ℕ → Disk → Disk → List (List ℕ) → Type 0
KeptOf before now path old new older =
    let window = around older (before.waiting path) path in
    Stands window (before.vacant path) old → Calls old new (RolledIn (drops_into (before.vacant path)) (now.vacant path) window (files_of old))

pub process_part : (asking : Asking) (context : Context) (answer : Option Bool) (r : Result Unit LogError) (k0 k1 : Keeping) (len : ℕ) (path : List ℕ) (d0 d1 : Disk)
    → Asked asking len context r answer → Processed k0 k1 answer path r d0 d1
    → IfSome k0.archives (PartOf asking context answer k0 k1 len path d0 d1)
process_part asking context (Some true) r k0 k1 len path d0 d1 asked done =
    if_map k0.archives (KeptOf k0 k1 path d0 d1) (PartOf asking context (Some true) k0 k1 len path d0 d1) done.kept
    (λ older kept. λ stands.
    let w : Window = around older (k0.waiting path) path in
    calls_map d0 d1 _ (λ added. (written path added ≡ []) × Part asking context (Some true) (k0.vacant path) (k1.vacant path) len [] w (files_of d0) added) (kept stands)
    (λ added tells told rolled. (rolled.0.0.0, record { good = rolled.0.0.1; vacant = rolled.0.1; said = λ is. (asked is).0; ends = λ clean places at are cut. rolled.1 clean places at are cut })))
process_part asking context (Some false) r k0 k1 len path d0 d1 asked done =
    if_all k0.archives (PartOf asking context (Some false) k0 k1 len path d0 d1)
    (λ older. still_part asking context (Some false) k0 k1 len path d0 d1 older (λ is. (asked is).0) done.0 done.1)
process_part asking context None r k0 k1 len path d0 d1 asked done =
    if_all k0.archives (PartOf asking context None k0 k1 len path d0 d1)
    (λ older. still_part asking context None k0 k1 len path d0 d1 older (λ is. tt) done.0 done.1)

-- the window stands after a call
pub stands_on : (w : Window) (before now : Vacancy) (P : List Change → Type 0) (d0 d1 : Disk) → Stands w before d0 → Calls d0 d1 P
    → ((added : List Change) → P added → Vacant now w.active (replay (files_of d0) added)) → Stands w now d1
stands_on w before now P d0 d1 stands calls vacant = (
  stands.0,
  λ tells.
      let was = calls.told (subst IsTrue calls.tells tells) in
      subst (Vacant now w.active) (sym (files_after d0 d1 was.0 was.1)) (vacant was.0 was.2),
)

vacant_on : (name : Vacancy) (w : Window) (files : Files) (xs ys : List Change) → Vacant name w.active (replay (replay files xs) ys) → Vacant name w.active (replay files (xs ++ ys))
vacant_on name w files xs ys vacant = subst (Vacant name w.active) (sym (replay-append files xs ys)) vacant

-- a part that asked nothing, and then another
pub part_behind : (a asking : Asking) (context : Context) (answer : Option Bool) (name now : Vacancy) (l len : ℕ) (asked : List ℕ) (w : Window) (files : Files) (xs ys : List Change)
    → Part a context None name name l [] w files xs → Part asking context answer name now len asked w (replay files xs) ys → Part asking context answer name now len (written w.active xs ++ asked) w files (xs ++ ys)
part_behind a asking context answer name now l len asked w files xs ys x y =
    record {
      good = λ clean. GoodWithin-append (drops_after answer name) w files xs ys (x.good (NoCopies-front xs ys clean)) (y.good (NoCopies-back xs ys clean));
      vacant = vacant_on now w files xs ys y.vacant;
      said = y.said;
      ends = λ clean places at are cut.
          let first = x.ends (NoCopies-front xs ys clean) places at are (λ e. none_yes e) in
          EndsAt-append places w files at xs ys first
          (y.ends (NoCopies-back xs ys clean) places (longer (written w.active xs) at) (EndsAt-last places w files at xs first)
          (λ e. subst (λ (n : ℕ). IsAt places n 0) (longer_both (written w.active xs) asked at) (cut e)));
    }

-- a part, and then one that asks nothing
pub part_before : (a asking : Asking) (context : Context) (answer : Option Bool) (name now : Vacancy) (l len : ℕ) (asked : List ℕ) (w : Window) (files : Files) (xs ys : List Change)
    → Part asking context answer name now len asked w files xs → Part a context None now now l [] w (replay files xs) ys → Part asking context answer name now len asked w files (xs ++ ys)
part_before a asking context answer name now l len asked w files xs ys x y =
    record {
      good = λ clean. GoodWithin-behind (drops_after answer name) w files xs ys (x.good (NoCopies-front xs ys clean)) (y.good (NoCopies-back xs ys clean));
      vacant = vacant_on now w files xs ys y.vacant;
      said = x.said;
      ends = λ clean places at are cut.
          let first = x.ends (NoCopies-front xs ys clean) places at are cut in
          EndsAt-append places w files at xs ys first
          (y.ends (NoCopies-back xs ys clean) places (longer (written w.active xs) at) (EndsAt-last places w files at xs first) (λ e. none_yes e));
    }

pub silent_both : (path : List ℕ) (xs ys : List Change) → written path xs ≡ [] → written path ys ≡ [] → written path (xs ++ ys) ≡ []
silent_both path xs ys x y = written-append path xs ys ∙ ap (λ (c : List ℕ). c ++ written path ys) x ∙ y

pub silent_ahead : (path : List ℕ) (xs ys : List Change) → written path xs ≡ [] → written path (xs ++ ys) ≡ written path ys
silent_ahead path xs ys silent = written-append path xs ys ∙ ap (λ (c : List ℕ). c ++ written path ys) silent

pub silent_behind : (path : List ℕ) (xs ys : List Change) → written path ys ≡ [] → written path (xs ++ ys) ≡ written path xs
silent_behind path xs ys silent = written-append path xs ys ∙ ap (λ (c : List ℕ). written path xs ++ c) silent ∙ append-nil (written path xs)

-- Preparing

abbrev PreparedOf : Bool → Asking → Context → Option Bool → Keeping → Keeping → Type 0 → List ℕ → Disk → Disk → List (List ℕ) → Type 0
PreparedOf append asking context answer before now A path old new older =
    IsTrue append → A → PartOf asking context answer before now (estimate (length (bytes_at (files_of old) path))) path old new older

pub prepared_open : (append : Bool) (asking : Asking) (context : Context) (k : Keeping) (A : Type 0) (path : List ℕ) (d0 d1 : Disk)
    → Calls d0 d1 (OnlyOpens path (if append then Append else Truncate)) → Prepared append asking context None k k A path d0 d1
prepared_open append asking context k A path d0 d1 calls =
    let len : ℕ = estimate (length (bytes_at (files_of d0) path)) in
    if_all k.archives (PreparedOf append asking context None k k A path d0 d1) (λ older. λ on agrees stands.
    let w : Window = around older (k.waiting path) path in
    calls_map d0 d1 _ (λ added. (written path added ≡ []) × Part asking context None (k.vacant path) (k.vacant path) len [] w (files_of d0) added)
    (opens_part asking context len (k.vacant path) w append d0 d1 on stands calls)
    (λ added tells told x. (opens_silent path Append added x.0, x.1)))

pub prepared_asked : (append : Bool) (asking : Asking) (context : Context) (answer : Option Bool) (r : Result Unit LogError) (k0 k1 : Keeping) (A : Type 0) (path other : List ℕ) (len : ℕ) (d0 d1 d2 : Disk)
    → other ≡ path → Calls d0 d1 (OnlyOpens path (if append then Append else Truncate))
    → (A → IsTrue d1.tells → len ≡ estimate (length (bytes_at (files_of d1) other)))
    → Asked asking len context r answer → Processed k0 k1 answer other r d1 d2 → Prepared append asking context answer k0 k1 A path d0 d2
prepared_asked append asking context answer r k0 k1 A path other len d0 d1 d2 same calls known asked done =
    let here = subst (λ (t : List ℕ). Processed k0 k1 answer t r d1 d2) same done in
    let target : ℕ = estimate (length (bytes_at (files_of d0) path)) in
    if_map k0.archives (PartOf asking context answer k0 k1 len path d1 d2) (PreparedOf append asking context answer k0 k1 A path d0 d2)
    (process_part asking context answer r k0 k1 len path d1 d2 asked here)
    (λ older part. λ on agrees stands.
    let w : Window = around older (k0.waiting path) path in
    let v0 = k0.vacant path in
    let v1 = k1.vacant path in
    let opens = opens_part asking context 0 v0 w append d0 d1 on stands calls in
    let stands1 = stands_on w v0 v0 _ d0 d1 stands opens (λ added x. x.1.vacant) in
    calls_join d0 d1 d2 _ _ (λ added. (written path added ≡ []) × Part asking context answer v0 v1 target [] w (files_of d0) added) opens (part stands1)
    (λ xs ys tells told x y.
    let later : Part asking context answer v0 v1 len [] w (replay (files_of d0) xs) ys = subst (λ (f : Files). Part asking context answer v0 v1 len [] w f ys) (files_after d0 d1 xs told) y.1 in
    let is : len ≡ target =
    known agrees (subst IsTrue (sym calls.tells) tells)
    ∙ ap (λ (p : List ℕ). estimate (length (bytes_at (files_of d1) p))) same
    ∙ ap (λ (f : Files). estimate (length (bytes_at f path))) (files_after d0 d1 xs told)
    ∙ ap (λ (b : List ℕ). estimate (length b)) (opens_bytes (files_of d0) path xs x.0) in (
      silent_both path xs ys (opens_silent path Append xs x.0) y.0,
      subst (λ (n : ℕ). Part asking context answer v0 v1 n [] w (files_of d0) (xs ++ ys)) is
          (subst (λ (b : List ℕ). Part asking context answer v0 v1 len b w (files_of d0) (xs ++ ys)) (append-nil (written path xs) ∙ opens_silent path Append xs x.0)
          (part_behind asking asking context answer v0 v1 0 len [] w (files_of d0) xs ys x.1 later)),
    )))

pub prepared_again : (append : Bool) (asking : Asking) (context : Context) (answer : Option Bool) (k0 k1 : Keeping) (A : Type 0) (path other : List ℕ) (d0 d2 d3 : Disk)
    → other ≡ path → Prepared append asking context answer k0 k1 A path d0 d2 → Calls d2 d3 (OnlyOpens other (if append then Append else Truncate))
    → Prepared append asking context answer k0 k1 A path d0 d3
prepared_again append asking context answer k0 k1 A path other d0 d2 d3 same before calls =
    let len : ℕ = estimate (length (bytes_at (files_of d0) path)) in
    let here = subst (λ (t : List ℕ). Calls d2 d3 (OnlyOpens t (if append then Append else Truncate))) same calls in
    if_map k0.archives (PreparedOf append asking context answer k0 k1 A path d0 d2) (PreparedOf append asking context answer k0 k1 A path d0 d3) before
    (λ older part. λ on agrees stands.
    let w : Window = around older (k0.waiting path) path in
    let v0 = k0.vacant path in
    let v1 = k1.vacant path in
    let was = part on agrees stands in
    let stands2 = stands_on w v0 v1 _ d0 d2 stands was (λ added x. x.1.vacant) in
    let opens = opens_part asking context 0 v1 w append d2 d3 on stands2 here in
    calls_join d0 d2 d3 _ _ (λ added. (written path added ≡ []) × Part asking context answer v0 v1 len [] w (files_of d0) added) was opens
    (λ xs ys tells told x y.
    let later : Part asking context None v1 v1 0 [] w (replay (files_of d0) xs) ys = subst (λ (f : Files). Part asking context None v1 v1 0 [] w f ys) (files_after d0 d2 xs told) y.1 in (
      silent_both path xs ys x.0 (opens_silent path Append ys y.0),
      part_before asking asking context answer v0 v1 0 len [] w (files_of d0) xs ys x.1 later,
    )))

-- Finishing

abbrev FinishedOf : Asking → Context → Option Bool → Keeping → Keeping → Type 0 → List ℕ → Disk → Disk → List (List ℕ) → Type 0
FinishedOf asking context answer before now A path old new older =
    let window = around older (before.waiting path) path in A → Stands window (before.vacant path) old →
    Calls old new (λ added. Part asking context answer (before.vacant path) (now.vacant path) (estimate (length (bytes_at (files_of old) path) + length (written path added))) (written path added) window (files_of old) added)

pub finished_writing : (Q : List Change → Type 0) (asking : Asking) (context : Context) (k : Keeping) (A : Type 0) (path : List ℕ) (d0 d1 : Disk)
    → (A → Calls d0 d1 (λ added. OnlyWrites path added × Q added)) → Finished asking context None k k A path d0 d1
finished_writing Q asking context k A path d0 d1 calls =
    if_all k.archives (FinishedOf asking context None k k A path d0 d1) (λ older. λ agrees stands.
    let w : Window = around older (k.waiting path) path in
    let v = k.vacant path in
    calls_map d0 d1 _ (λ added. Part asking context None v v (estimate (length (bytes_at (files_of d0) path) + length (written path added))) (written path added) w (files_of d0) added)
    (writes_part asking context 0 v w Q d0 d1 stands (calls agrees))
    (λ added tells told x. record { good = x.1.good; vacant = x.1.vacant; said = λ is. tt; ends = λ clean places at are cut. x.1.ends clean places at are (λ e. none_yes e) }))

pub finished_asked : (Q : List Change → Type 0) (asking : Asking) (context : Context) (answer : Option Bool) (r : Result Unit LogError) (k0 k1 : Keeping) (A : Type 0) (path other : List ℕ) (len : ℕ) (d0 d1 d2 : Disk)
    → other ≡ path → (A → Calls d0 d1 (λ added. OnlyWrites path added × Q added))
    → (A → IsTrue d1.tells → len ≡ estimate (length (bytes_at (files_of d1) other)))
    → Asked asking len context r answer → Processed k0 k1 answer other r d1 d2 → Finished asking context answer k0 k1 A path d0 d2
finished_asked Q asking context answer r k0 k1 A path other len d0 d1 d2 same calls known asked done =
    let here = subst (λ (t : List ℕ). Processed k0 k1 answer t r d1 d2) same done in
    if_map k0.archives (PartOf asking context answer k0 k1 len path d1 d2) (FinishedOf asking context answer k0 k1 A path d0 d2)
    (process_part asking context answer r k0 k1 len path d1 d2 asked here)
    (λ older part. λ agrees stands.
    let w : Window = around older (k0.waiting path) path in
    let v0 = k0.vacant path in
    let v1 = k1.vacant path in
    let writes = writes_part asking context 0 v0 w Q d0 d1 stands (calls agrees) in
    let stands1 = stands_on w v0 v0 _ d0 d1 stands writes (λ added x. x.1.vacant) in
    calls_join d0 d1 d2 _ _
    (λ added. Part asking context answer v0 v1 (estimate (length (bytes_at (files_of d0) path) + length (written path added))) (written path added) w (files_of d0) added) writes (part stands1)
    (λ xs ys tells told x y.
    let later : Part asking context answer v0 v1 len [] w (replay (files_of d0) xs) ys = subst (λ (f : Files). Part asking context answer v0 v1 len [] w f ys) (files_after d0 d1 xs told) y.1 in
    let is : len ≡ estimate (length (bytes_at (files_of d0) path) + length (written path (xs ++ ys))) =
    known agrees (subst IsTrue (sym (calls agrees).tells) tells)
    ∙ ap (λ (p : List ℕ). estimate (length (bytes_at (files_of d1) p))) same
    ∙ ap (λ (f : Files). estimate (length (bytes_at f path))) (files_after d0 d1 xs told)
    ∙ ap (λ (b : List ℕ). estimate (length b)) (writes_bytes (files_of d0) path xs x.0)
    ∙ ap estimate (length-append (bytes_at (files_of d0) path) (written path xs))
    ∙ ap (λ (b : List ℕ). estimate (length (bytes_at (files_of d0) path) + length b)) (sym (silent_behind path xs ys y.0)) in
    subst (λ (n : ℕ). Part asking context answer v0 v1 n (written path (xs ++ ys)) w (files_of d0) (xs ++ ys)) is
    (subst (λ (b : List ℕ). Part asking context answer v0 v1 len b w (files_of d0) (xs ++ ys)) (append-nil (written path xs) ∙ sym (silent_behind path xs ys y.0))
    (part_behind asking asking context answer v0 v1 0 len [] w (files_of d0) xs ys x.1 later))))

-- The text of a record

on_ok : {T E X : Type 0} (r : Result T E) → X → OnOk r X
on_ok (Ok t) x = x
on_ok (Err e) x = tt

pub text_written : (text : List ℕ) (first : Bool) (asking : Asking) (context : Context) (r : Result Unit LogError) (k : Keeping) (A : Type 0) (path : List ℕ) (d0 d1 : Disk)
    → first ≡ true → (A → Calls d0 d1 (λ added. OnlyWrites path added × WroteText path text r added)) → FinishedText text first asking context None r k A path d0 d1
text_written text first asking context (Err fault) k A path d0 d1 is calls = λ a. tt
text_written text first asking context (Ok u) k A path d0 d1 is calls = λ a. (
  λ no told. not_both first is no,
  calls_map d0 d1 _ (TextIn text asking context None (TakesAway k path) path (files_of d0)) (calls a)
      (λ added tells told x. (λ is. tt, (added, [], sym (append-nil added), x.0, x.1.1, refl))),
)

moved_by : (known : Option (List (List ℕ × List ℕ))) (d0 d1 : Disk) → IfSome known (λ moves. Calls d0 d1 (MovedAll (files_of d0) moves)) → Calls d0 d1 (λ added. Unit {0})
    → Calls d0 d1 (λ added. IfSome known (λ moves. MovedAll (files_of d0) moves added))
moved_by None d0 d1 moved calls = calls
moved_by (Some moves) d0 d1 moved calls = moved

removed_by : (b : Bool) (path : List ℕ) (u : Unit {0}) (d0 d1 : Disk) → (IsTrue b → Calls d0 d1 (Removed path (Ok u))) → Calls d0 d1 (λ added. Unit {0})
    → Calls d0 d1 (λ added. IsTrue b → added ≡ removed path ∷ [])
removed_by true path u d0 d1 gone calls = calls_map d0 d1 _ _ (gone refl) (λ added tells told x. λ is. x.0)
removed_by false path u d0 d1 gone calls = calls_map d0 d1 _ _ calls (λ added tells told x. λ is. absurd (not_yes (sym is)))

pub processed_moves : (answer : Option Bool) (k0 k1 : Keeping) (path : List ℕ) (u : Unit {0}) (d0 d1 : Disk) → Processed k0 k1 answer path (Ok u) d0 d1 → Calls d0 d1 (λ added. Unit {0})
    → Calls d0 d1 (TakenAfter answer (TakesAway k0 path) (files_of d0))
processed_moves (Some true) k0 k1 path u d0 d1 done calls = calls_both d0 d1 _ _ (moved_by (k0.moves path) d0 d1 done.moved calls) (removed_by k0.removes path u d0 d1 done.removed calls)
processed_moves (Some false) k0 k1 path u d0 d1 done calls = done.1
processed_moves None k0 k1 path u d0 d1 done calls = done.1

pub text_asked : (u : Unit {0}) (text : List ℕ) (first : Bool) (asking : Asking) (context : Context) (answer : Option Bool) (r : Result Unit LogError) (k0 k1 : Keeping) (A : Type 0) (path other : List ℕ) (len : ℕ) (d0 d1 d2 : Disk)
    → other ≡ path → (A → Calls d0 d1 (λ added. OnlyWrites path added × WroteText path text (Ok u) added))
    → (A → IsTrue d1.tells → len ≡ estimate (length (bytes_at (files_of d1) other)))
    → Asked asking len context r answer → Processed k0 k1 answer other r d1 d2 → Calls d1 d2 (λ added. Unit {0})
    → FinishedText text first asking context answer r k0 A path d0 d2
text_asked v text first asking context answer (Err fault) k0 k1 A path other len d0 d1 d2 same calls known asked done later = λ a. tt
text_asked v text first asking context answer (Ok u) k0 k1 A path other len d0 d1 d2 same calls known asked done later = λ a.
    let here = subst (λ (t : List ℕ). Processed k0 k1 answer t (Ok u) d1 d2) same done in
    let f0 = files_of d0 in (
      λ no told. (asked told).1,
      calls_join d0 d1 d2 _ _ (TextIn text asking context answer (TakesAway k0 path) path f0) (calls a) (processed_moves answer k0 k1 path u d1 d2 here later)
          (λ xs ys tells told x y.
          let is : len ≡ estimate (length (bytes_at f0 path) + length text) =
          known a (subst IsTrue (sym (calls a).tells) tells)
          ∙ ap (λ (p : List ℕ). estimate (length (bytes_at (files_of d1) p))) same
          ∙ ap (λ (f : Files). estimate (length (bytes_at f path))) (files_after d0 d1 xs told)
          ∙ ap (λ (b : List ℕ). estimate (length b)) (writes_bytes f0 path xs x.0)
          ∙ ap estimate (length-append (bytes_at f0 path) (written path xs))
          ∙ ap (λ (b : List ℕ). estimate (length (bytes_at f0 path) + length b)) x.1.1 in (
            subst (SaidAt asking context answer) is (λ t. (asked t).0),
            (xs, ys, refl, x.0, x.1.1, subst (λ (f : Files). TakenAfter answer (TakesAway k0 path) f ys) (files_after d0 d1 xs told) y),
          )),
    )

-- a text, and then what writes nothing
pub text_kept : (u : Unit {0}) (text : List ℕ) (r : Result Unit LogError) (path : List ℕ) (d0 d1 d2 : Disk)
    → Calls d0 d1 (λ added. OnlyWrites path added × WroteText path text (Ok u) added) → Calls d1 d2 Silent → Calls d0 d2 (WroteText path text r)
text_kept u text r path d0 d1 d2 calls silent =
    calls_join d0 d1 d2 _ _ (WroteText path text r) calls silent
    (λ xs ys tells told x y.
    let is : written path (xs ++ ys) ≡ written path xs = silent_behind path xs ys (y path) in
    (subst (λ (b : List ℕ). IsBeginning b text) (sym is) x.1.0, on_ok r (is ∙ x.1.1)))

-- The whole append

-- what is finished, with these ways to wait and to leave a name vacant
abbrev pub FinishedAs : Asking → Context → Option Bool → (List ℕ → Option (List ℕ)) → (List ℕ → Vacancy) → (List ℕ → Vacancy) → Type 0 → List ℕ → Disk → Disk → List (List ℕ) → Type 0
FinishedAs asking context answer waits before now A path old new older =
    let window = around older (waits path) path in A → Stands window (before path) old →
    Calls old new (λ added. Part asking context answer (before path) (now path) (estimate (length (bytes_at (files_of old) path) + length (written path added))) (written path added) window (files_of old) added)

pub finished_names : (asking : Asking) (context : Context) (answer : Option Bool) (k0 k1 k2 : Keeping) (A : Type 0) (path other : List ℕ) (d1 d2 : Disk) → SameNames k0 k1 → other ≡ path
    → Finished asking context answer k1 k2 A other d1 d2 → IfSome k0.archives (FinishedAs asking context answer k0.waiting k1.vacant k2.vacant A path d1 d2)
finished_names asking context answer k0 k1 k2 A path other d1 d2 names same finished =
    subst (λ (o : Option (List (List ℕ))). IfSome o (FinishedAs asking context answer k0.waiting k1.vacant k2.vacant A path d1 d2)) names.archives
    (subst (λ (f : List ℕ → Option (List ℕ)). IfSome k1.archives (FinishedAs asking context answer f k1.vacant k2.vacant A path d1 d2)) names.waiting
    (subst (λ (p : List ℕ). IfSome k1.archives (FinishedAs asking context answer k1.waiting k1.vacant k2.vacant A p d1 d2)) same finished))

abbrev AppendedOf : Asking → Context → Option Bool → Keeping → Keeping → List ℕ → Disk → Disk → List (List ℕ) → Type 0
AppendedOf asking context answer before now path old new older =
    let window = around older (before.waiting path) path in
    Stands window (before.vacant path) old → Calls old new (Appended asking context answer (before.vacant path) (now.vacant path) window (files_of old))

-- nothing was written
pub appended_nothing : (asking : Asking) (context : Context) (answer : Option Bool) (append : Bool) (A : Type 0) (path : List ℕ) (k0 k1 : Keeping) (d0 d1 : Disk)
    → A → Prepared append asking context answer k0 k1 A path d0 d1 → IsTrue append → AppendedTo asking context answer k0 k1 path d0 d1
appended_nothing asking context answer append A path k0 k1 d0 d1 agrees prepared on =
    if_map k0.archives (PreparedOf append asking context answer k0 k1 A path d0 d1) (AppendedOf asking context answer k0 k1 path d0 d1) prepared
    (λ older part. λ stands.
    let w : Window = around older (k0.waiting path) path in
    calls_map d0 d1 _ (Appended asking context answer (k0.vacant path) (k1.vacant path) w (files_of d0)) (part on agrees stands)
    (λ added tells told x.
    record {
      good = x.1.good;
      vacant = x.1.vacant;
      said = subst (SaidAt asking context answer) (none_more (is_first asking.kind) (length (bytes_at (files_of d0) path)) (written path added) x.0) x.1.said;
      ends = λ told. subst (λ (b : List ℕ). EndsUnder answer b w (files_of d0) added) (none_asked (is_first asking.kind) (written path added) x.0) x.1.ends;
    })) where
      none_asked : (first : Bool) (bytes : List ℕ) → bytes ≡ [] → [] ≡ (if first then [] else bytes)
      none_asked true bytes is = refl
      none_asked false bytes is = sym is

      none_more : (first : Bool) (n : ℕ) (bytes : List ℕ) → bytes ≡ [] → estimate n ≡ estimate (n + (if first then 0 else length bytes))
      none_more true n bytes is = ap estimate (omega arith)
      none_more false n bytes is = let e : length bytes ≡ 0 = ap (λ (b : List ℕ). length b) is in ap estimate (omega arith)

-- the trigger was asked first
pub appended_first : (asking later : Asking) (context : Context) (answer : Option Bool) (append : Bool) (A A1 : Type 0) (path : List ℕ) (k0 k1 : Keeping) (d0 d1 d2 : Disk)
    → (IsTrue (is_told asking.kind) → is_first asking.kind ≡ true) → A → A1
    → Prepared append asking context answer k0 k1 A path d0 d1
    → IfSome k0.archives (FinishedAs later context None k0.waiting k1.vacant k1.vacant A1 path d1 d2)
    → IsTrue append → AppendedTo asking context answer k0 k1 path d0 d2
appended_first asking later context answer append A A1 path k0 k1 d0 d1 d2 is agrees agrees1 prepared finished on =
    if_two k0.archives (PreparedOf append asking context answer k0 k1 A path d0 d1) (FinishedAs later context None k0.waiting k1.vacant k1.vacant A1 path d1 d2) (AppendedOf asking context answer k0 k1 path d0 d2)
    prepared finished
    (λ older part writing. λ stands.
    let w : Window = around older (k0.waiting path) path in
    let v0 = k0.vacant path in
    let v1 = k1.vacant path in
    let was = part on agrees stands in
    let stands1 = stands_on w v0 v1 _ d0 d1 stands was (λ added x. x.1.vacant) in
    let n : ℕ = length (bytes_at (files_of d0) path) in
    calls_join d0 d1 d2 _ _ (Appended asking context answer v0 v1 w (files_of d0)) was (writing agrees1 stands1)
    (λ xs ys tells told x y.
    let more : Part later context None v1 v1 0 [] w (replay (files_of d0) xs) ys =
    subst (λ (f : Files). Part later context None v1 v1 0 [] w f ys) (files_after d0 d1 xs told)
    (record { good = y.good; vacant = y.vacant; said = λ is. tt; ends = λ clean places at are cut. y.ends clean places at are (λ e. none_yes e) }) in
    let both = part_before later asking context answer v0 v1 0 (estimate n) [] w (files_of d0) xs ys x.1 more in
    record {
      good = both.good;
      vacant = both.vacant;
      said = λ told. subst (λ (b : Bool). SaidAt asking context answer (estimate (n + (if b then 0 else length (written path (xs ++ ys)))))) (sym (is told))
          (subst (SaidAt asking context answer) (let e : n ≡ n + 0 = omega arith in ap estimate e) both.said) told;
      ends = λ told. subst (λ (b : Bool). EndsUnder answer (if b then [] else written path (xs ++ ys)) w (files_of d0) (xs ++ ys)) (sym (is told)) both.ends;
    }))

-- the trigger was asked at the end
pub appended_last : (asking : Asking) (context : Context) (answer : Option Bool) (append : Bool) (A1 : Type 0) (path : List ℕ) (k0 k2 : Keeping) (d0 d1 d2 : Disk)
    → (IsTrue (is_told asking.kind) → is_first asking.kind ≡ false) → A1
    → Calls d0 d1 (OnlyOpens path (if append then Append else Truncate))
    → IfSome k0.archives (FinishedAs asking context answer k0.waiting k0.vacant k2.vacant A1 path d1 d2)
    → IsTrue append → AppendedTo asking context answer k0 k2 path d0 d2
appended_last asking context answer append A1 path k0 k2 d0 d1 d2 is agrees1 calls finished on =
    if_map k0.archives (FinishedAs asking context answer k0.waiting k0.vacant k2.vacant A1 path d1 d2) (AppendedOf asking context answer k0 k2 path d0 d2) finished
    (λ older writing. λ stands.
    let w : Window = around older (k0.waiting path) path in
    let v0 = k0.vacant path in
    let v2 = k2.vacant path in
    let opens = opens_part asking context 0 v0 w append d0 d1 on stands calls in
    let stands1 = stands_on w v0 v0 _ d0 d1 stands opens (λ added x. x.1.vacant) in
    calls_join d0 d1 d2 _ _ (Appended asking context answer v0 v2 w (files_of d0)) opens (writing agrees1 stands1)
    (λ xs ys tells told x y.
    let f0 = files_of d0 in
    let Later : Files → Type 0 = λ f. Part asking context answer v0 v2 (estimate (length (bytes_at f path) + length (written path ys))) (written path ys) w f ys in
    let more : Later (replay f0 xs) = subst Later (files_after d0 d1 xs told) y in
    let both = part_behind asking asking context answer v0 v2 0 (estimate (length (bytes_at (replay f0 xs) path) + length (written path ys))) (written path ys) w f0 xs ys x.1 more in
    let n : estimate (length (bytes_at (replay f0 xs) path) + length (written path ys)) ≡ estimate (length (bytes_at f0 path) + length (written path (xs ++ ys))) =
    ap (λ (b : List ℕ). estimate (length b + length (written path ys))) (opens_bytes f0 path xs x.0)
    ∙ ap (λ (b : List ℕ). estimate (length (bytes_at f0 path) + length b)) (sym (silent_ahead path xs ys (opens_silent path Append xs x.0))) in
    record {
      good = both.good;
      vacant = both.vacant;
      said = λ told. subst (λ (b : Bool). SaidAt asking context answer (estimate (length (bytes_at f0 path) + (if b then 0 else length (written path (xs ++ ys)))))) (sym (is told))
          (subst (SaidAt asking context answer) n both.said) told;
      ends = λ told. subst (λ (b : Bool). EndsUnder answer (if b then [] else written path (xs ++ ys)) w f0 (xs ++ ys)) (sym (is told))
          (subst (λ (b : List ℕ). EndsUnder answer b w f0 (xs ++ ys)) (sym (written-append path xs ys)) both.ends);
    }))

pub first_kind : (kind : Kind) (first : Bool) → IfSome (asks_first kind) (λ b. first ≡ b) → IsTrue (is_told kind) → is_first kind ≡ first
first_kind Untold first is told = absurd (not_yes (sym told))
first_kind (BySize limit) first is told = sym is
first_kind First first is told = sym is

pub appended_whole : {P : Type 0} (asking : P → Asking) (keeping : P → Keeping) (notes : P → Option Bool → P → Type 0) (p0 p1 p2 : P) (first append : Bool) (context : Context) (A A1 : Type 0) (path other : List ℕ) (a1 a2 : Option Bool) (d0 d1 d2 : Disk)
    → IfSome (asks_first (asking p0).kind) (λ b. first ≡ b) → A → A1 → other ≡ path → SameNames (keeping p0) (keeping p1)
    → Noted notes p0 a1 p1 → (first ≡ false → (p1 ≡ p0) × (a1 ≡ None)) → Prepared append (asking p0) context a1 (keeping p0) (keeping p1) A path d0 d1
    → (first ≡ false → Calls d0 d1 (OnlyOpens path (if append then Append else Truncate)))
    → Noted notes p1 a2 p2 → (first ≡ true → (p2 ≡ p1) × (a2 ≡ None)) → Finished (asking p1) context a2 (keeping p1) (keeping p2) A1 other d1 d2
    → (W : Option Bool → Type 0) → (first ≡ true → W a1) → (first ≡ false → W a2)
    → (answer : Option Bool) × Noted notes p0 answer p2 × (IsTrue append → AppendedTo (asking p0) context answer (keeping p0) (keeping p2) path d0 d2) × W answer
appended_whole {P = P} asking keeping notes p0 p1 p2 true append context A A1 path other a1 a2 d0 d1 d2 is a b same names noted1 still1 prepared opens noted2 still2 finished W early late =
    let stayed = still2 refl in
    let finished0 : Finished (asking p1) context None (keeping p1) (keeping p1) A1 other d1 d2 =
    subst (λ (q : P). Finished (asking p1) context None (keeping p1) (keeping q) A1 other d1 d2) stayed.0
    (subst (λ (x : Option Bool). Finished (asking p1) context x (keeping p1) (keeping p2) A1 other d1 d2) stayed.1 finished) in
    let ends = finished_names (asking p1) context None (keeping p0) (keeping p1) (keeping p1) A1 path other d1 d2 names same finished0 in
    let result = appended_first (asking p0) (asking p1) context a1 append A A1 path (keeping p0) (keeping p1) d0 d1 d2 (first_kind (asking p0).kind true is) a b prepared ends in (
      a1,
      subst (Noted notes p0 a1) (sym stayed.0) noted1,
      λ on. subst (λ (q : P). AppendedTo (asking p0) context a1 (keeping p0) (keeping q) path d0 d2) (sym stayed.0) (result on),
      early refl,
    )
appended_whole {P = P} asking keeping notes p0 p1 p2 false append context A A1 path other a1 a2 d0 d1 d2 is a b same names noted1 still1 prepared opens noted2 still2 finished W early late =
    let stayed = still1 refl in
    let finished0 : Finished (asking p0) context a2 (keeping p0) (keeping p2) A1 path d1 d2 =
    subst (λ (t : List ℕ). Finished (asking p0) context a2 (keeping p0) (keeping p2) A1 t d1 d2) same
    (subst (λ (q : P). Finished (asking q) context a2 (keeping q) (keeping p2) A1 other d1 d2) stayed.0 finished) in (
      a2,
      subst (λ (q : P). Noted notes q a2 p2) stayed.0 noted2,
      appended_last (asking p0) context a2 append A1 path (keeping p0) (keeping p2) d0 d1 d2 (first_kind (asking p0).kind false is) b (opens refl) finished0,
      late refl,
    )

-- What copies nothing

pub appended_clean : (path : List ℕ) (how : Open) (d0 d1 : Disk) → Calls d0 d1 (OnlyAppends path how) → Calls d0 d1 NoCopies
appended_clean path how d0 d1 calls = calls_map d0 d1 _ NoCopies calls (λ added tells told only. appends_clean path how added only)

pub opened_clean : (path : List ℕ) (how : Open) (d0 d1 : Disk) → Calls d0 d1 (OnlyOpens path how) → Calls d0 d1 NoCopies
opened_clean path how d0 d1 calls = appended_clean path how d0 d1 (opened_quiet path how d0 d1 calls)

pub wrote_clean : (bytes : List ℕ) (n : ℕ) (d0 d1 : Disk) → Calls d0 d1 (WroteFirst d0 bytes n) → Calls d0 d1 NoCopies
wrote_clean bytes n d0 d1 calls = calls_map d0 d1 _ NoCopies calls (λ added tells told wrote. appends_clean (open_path d0) Append added (writes_append (open_path d0) Append added wrote.0))

pub clean_join : (d0 d1 d2 : Disk) → Calls d0 d1 NoCopies → Calls d1 d2 NoCopies → Calls d0 d2 NoCopies
clean_join d0 d1 d2 x y = calls_join d0 d1 d2 _ _ NoCopies x y (λ xs ys tells told a b. NoCopies-append xs ys a b)

-- What writes nothing

pub opened_silent : (path : List ℕ) (how : Open) (d0 d1 : Disk) → Calls d0 d1 (OnlyOpens path how) → Calls d0 d1 (λ added. written path added ≡ [])
opened_silent path how d0 d1 calls = calls_map d0 d1 _ (λ added. written path added ≡ []) calls (λ added tells told opens. opens_silent path how added opens)

pub silent_join : (path : List ℕ) (d0 d1 d2 : Disk) → Calls d0 d1 (λ added. written path added ≡ []) → Calls d1 d2 (λ added. written path added ≡ []) → Calls d0 d2 (λ added. written path added ≡ [])
silent_join path d0 d1 d2 x y = calls_join d0 d1 d2 _ _ (λ added. written path added ≡ []) x y (λ xs ys tells told a b. silent_both path xs ys a b)

pub silent_at : (path : List ℕ) (d0 d1 : Disk) → Calls d0 d1 Silent → Calls d0 d1 (λ added. written path added ≡ [])
silent_at path d0 d1 calls = calls_map d0 d1 _ (λ added. written path added ≡ []) calls (λ added tells told silent. silent path)

pub then_later : (P Q : List Change → Type 0) (d0 d1 d2 : Disk) → Calls d0 d1 P → Calls d1 d2 Q → Calls d0 d2 (λ added. Unit {0})
then_later P Q d0 d1 d2 x y = calls_join d0 d1 d2 P Q (λ added. Unit {0}) x y (λ xs ys tells told a b. tt)

pub emptied_length : (path : List ℕ) (d0 d1 : Disk) → Told d0 d1 (opened path Truncate ∷ []) → 0 ≡ estimate (length (bytes_at (files_of d1) path))
emptied_length path d0 d1 told =
    sym (ap (λ (f : Files). estimate (length (bytes_at f path))) (files_after d0 d1 (opened path Truncate ∷ []) told) ∙ ap (λ (b : List ℕ). estimate (length b)) (emptied_bytes (files_of d0) path))

-- The log file after a write

grown : (a len n taken : ℕ) → len ≡ estimate a → n ≡ min (len + taken) (2 ^ 64 - 1) → n ≡ estimate (a + taken)
grown a len n taken e is = is ∙ ap (λ (l : ℕ). min (l + taken) (2 ^ 64 - 1)) e ∙ (grind arith)

pub wrote_agrees : (log : LogFile) (bytes : List ℕ) (taken n : ℕ) (d0 d1 : Disk) → IsTrue log.is_open → taken ≤ length bytes → n ≡ min (log.len + taken) (2 ^ 64 - 1)
    → Calls d0 d1 (WroteFirst d0 bytes taken) → SameOpen d0 d1 → Agrees log d0 → Agrees (record log { len = n }) d1
wrote_agrees log bytes taken n d0 d1 is_open fits is calls same agrees =
    let path = string_bytes log.path in
    record {
      opened = λ tells. let tells0 = subst IsTrue calls.tells tells in same tells0 ∙ agrees.opened tells0;
      len = λ tells is_open1.
          let tells0 = subst IsTrue calls.tells tells in
          let was = calls.told tells0 in
          let here : open_path d0 ≡ path = ap (λ (o : Option (List ℕ)). unwrap_or o []) (agrees.opened tells0) ∙ open_is log.is_open path is_open in
          let only : OnlyWrites path was.0 = subst (λ (p : List ℕ). OnlyWrites p was.0) here was.2.0 in
          let piece : written path was.0 ≡ take taken bytes = subst (λ (p : List ℕ). written p was.0 ≡ take taken bytes) here was.2.1 in
          let count : length (written path was.0) ≡ taken = ap (λ (b : List ℕ). length b) piece ∙ length-take taken bytes ∙ min-eq_left fits in
          grown (length (bytes_at (files_of d0) path)) log.len n taken (agrees.len tells0 is_open) is
          ∙ ap (λ (k : ℕ). estimate (length (bytes_at (files_of d0) path) + k)) (sym count)
          ∙ ap estimate (sym (length-append (bytes_at (files_of d0) path) (written path was.0)))
          ∙ ap (λ (b : List ℕ). estimate (length b)) (sym (writes_bytes (files_of d0) path was.0 only))
          ∙ ap (λ (f : Files). estimate (length (bytes_at f path))) (sym (files_after d0 d1 was.0 was.1));
      present = λ tells is_open1.
          let tells0 = subst IsTrue calls.tells tells in
          let was = calls.told tells0 in
          let here : open_path d0 ≡ path = ap (λ (o : Option (List ℕ)). unwrap_or o []) (agrees.opened tells0) ∙ open_is log.is_open path is_open in
          subst (λ (f : Files). IsSome (f path)) (sym (files_after d0 d1 was.0 was.1))
          (writes_there (files_of d0) path was.0 (subst (λ (p : List ℕ). OnlyWrites p was.0) here was.2.0) (agrees.present tells0 is_open));
    } where
      open_is : (b : Bool) (path : List ℕ) → IsTrue b → unwrap_or (if b then Some path else None) [] ≡ path
      open_is true path is = refl
      open_is false path is = absurd (not_yes (sym is))

-- A closed log file, and calls behind one that changed nothing

same_files : (d0 d1 : Disk) → Calls d0 d1 (λ added. added ≡ []) → IsTrue d0.tells → files_of d1 ≡ files_of d0
same_files d0 d1 none tells =
    let was = none.told tells in
    files_after d0 d1 was.0 was.1 ∙ ap (replay (files_of d0)) was.2

pub silent_first : (d0 d1 d2 : Disk) (P : Files → List Change → Type 0) → Calls d0 d1 (λ added. added ≡ []) → Calls d1 d2 (P (files_of d1)) → Calls d0 d2 (P (files_of d0))
silent_first d0 d1 d2 P none calls =
    calls_join d0 d1 d2 (λ added. added ≡ []) (P (files_of d1)) (P (files_of d0)) none calls
    (λ xs ys tells told was is.
    subst (λ (c : List Change). P (files_of d0) (c ++ ys)) (sym was)
    (subst (λ (f : Files). P f ys) (files_after d0 d1 xs told ∙ ap (replay (files_of d0)) was) is))

on_ok_step : {T E : Type 0} (r : Result T E) (X Y : Type 0) → OnOk r X → (X → Y) → OnOk r Y
on_ok_step (Ok t) X Y x f = f x
on_ok_step (Err e) X Y x f = tt

pub stands_still : (w : Window) (v : Vacancy) (d0 d1 : Disk) → Calls d0 d1 (λ added. added ≡ []) → Stands w v d0 → Stands w v d1
stands_still w v d0 d1 none stands = (
  stands.0,
  λ tells.
      let tells0 = subst IsTrue none.tells tells in
      subst (Vacant v w.active) (sym (same_files d0 d1 none tells0)) (stands.1 tells0),
)

abbrev ClosesOf : Keeping → Keeping → List ℕ → Result Unit LogError → Disk → Disk → List (List ℕ) → Type 0
ClosesOf k0 k1 path r old new older = let w = around older (k0.waiting path) path in
    IsTrue k0.is_built_in → Stands w (k0.vacant path) old → OnOk r (Calls old new (ClosesIn (k0.vacant path) (k1.vacant path) w (files_of old)))

-- what is left behind a rolling
abbrev pub LeftOf : Keeping → Keeping → List ℕ → Result Unit LogError → Disk → Disk → List (List ℕ) → Type 0
LeftOf k0 k1 path r old new older =
    IfSome (k0.waiting path) (λ waiting.
    IsSome (k0.moves path) → OnOk r (Calls old new (Begins (files_of old) k0.rest path (each_to_the_older (older ++ waiting ∷ [])) k1.rest)))

pub rolled_behind : (k0 k1 : Keeping) (r : Result Unit LogError) (path other : List ℕ) (d0 d1 d2 : Disk) → other ≡ path
    → Calls d0 d1 (λ added. added ≡ []) → RolledAs k0 k1 other r d1 d2 → RolledAs k0 k1 path r d0 d2
rolled_behind k0 k1 r path other d0 d1 d2 same none rolled =
    let here = subst (λ (t : List ℕ). RolledAs k0 k1 t r d1 d2) same rolled in
    record {
      kept = if_map k0.archives (KeptOf k0 k1 path d1 d2) (KeptOf k0 k1 path d0 d2) here.kept
          (λ older kept. λ stands.
          let w : Window = around older (k0.waiting path) path in
          let v = k0.vacant path in
          silent_first d0 d1 d2 (RolledIn (drops_into v) (k1.vacant path) w) none (kept (stands_still w v d0 d1 none stands)));
      moved = if_map (k0.moves path) (λ moves. OnOk r (Calls d1 d2 (MovedAll (files_of d1) moves))) (λ moves. OnOk r (Calls d0 d2 (MovedAll (files_of d0) moves))) here.moved
          (λ moves moved. on_ok_step r (Calls d1 d2 (MovedAll (files_of d1) moves)) (Calls d0 d2 (MovedAll (files_of d0) moves)) moved
          (λ calls. silent_first d0 d1 d2 (λ f. MovedAll f moves) none calls));
      removed = λ is. silent_first d0 d1 d2 (λ f. Removed path r) none (here.removed is);
      closes = if_map k0.archives (ClosesOf k0 k1 path r d1 d2) (ClosesOf k0 k1 path r d0 d2) here.closes
          (λ older closes. λ known stands.
          let w : Window = around older (k0.waiting path) path in
          let Closed : Files → List Change → Type 0 = λ f. ClosesIn (k0.vacant path) (k1.vacant path) w f in
          on_ok_step r (Calls d1 d2 (Closed (files_of d1))) (Calls d0 d2 (Closed (files_of d0))) (closes known (stands_still w (k0.vacant path) d0 d1 none stands))
          (λ calls. silent_first d0 d1 d2 Closed none calls));
      fewer = if_map k0.archives
          (λ older. Stands (around older (k0.waiting path) path) (k0.vacant path) d1 → OnErr r (drops_into (k1.vacant path) ≤ drops_into (k0.vacant path)))
          (λ older. Stands (around older (k0.waiting path) path) (k0.vacant path) d0 → OnErr r (drops_into (k1.vacant path) ≤ drops_into (k0.vacant path)))
          here.fewer
          (λ older fewer. λ stands. fewer (stands_still (around older (k0.waiting path) path) (k0.vacant path) d0 d1 none stands));
      partly = if_map (k0.moves path) (λ moves. OnErr r (Calls d1 d2 (MovedPartly (files_of d1) moves))) (λ moves. OnErr r (Calls d0 d2 (MovedPartly (files_of d0) moves))) here.partly
          (λ moves partly. on_err_map r (λ (calls : Calls d1 d2 (MovedPartly (files_of d1) moves)). silent_first d0 d1 d2 (λ f. MovedPartly f moves) none calls) partly);
      begun = here.begun;
      left = if_map k0.archives (LeftOf k0 k1 path r d1 d2) (LeftOf k0 k1 path r d0 d2) here.left
          (λ older left. let Left : Disk → List ℕ → Type 0 = λ d waiting. IsSome (k0.moves path) → OnOk r (Calls d d2 (Begins (files_of d) k0.rest path (each_to_the_older (older ++ waiting ∷ [])) k1.rest)) in
          if_map (k0.waiting path) (Left d1) (Left d0) left
          (λ waiting left. λ known.
          let moves = each_to_the_older (older ++ waiting ∷ []) in
          on_ok_step r (Calls d1 d2 (Begins (files_of d1) k0.rest path moves k1.rest)) (Calls d0 d2 (Begins (files_of d0) k0.rest path moves k1.rest)) (left known) (λ calls. silent_first d0 d1 d2 (λ f. Begins f k0.rest path moves k1.rest) none calls)));
    }
