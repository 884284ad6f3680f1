-- Segments grow by a record.
use Rattle.std.proofs.Common.{◌≡◌, ◌≢◌, ◌<◌, ◌^◌, ◌-◌, ◌+◌, ℕ, zero, suc, List, [], ◌∷◌, ◌++◌, length, Option, Some, None, refl, sym, ap, ◌∙◌, subst, Bool, true, false, IsTrue, arith, length-append, unwrap_or, nat_lt, if◌then◌else◌, Result, Ok, Err, OnOk}
use Rattle.std.specs.Option.{IfSome, IsSome}
use Rattle.std.proofs.lemmas.Bool.Decides.{nat_tests}
use Rattle.log4rs_rolling.specs.Change.{Change, Files, bytes_at, replay, written}
use Rattle.log4rs_rolling.specs.Disk.{Disk, Calls, files_of}
use Rattle.log4rs_rolling.specs.declared.store.Open.TheVariants.{Append, Truncate}
use Rattle.log4rs_base.specs.declared.record.Context.{Context}
use Rattle.log4rs_base.specs.declared.record.Record.{Record}
use Rattle.log4rs_base.specs.declared.error.LogError.{LogError}
use Rattle.log4rs_rolling.specs.Window.{NotAmong, AreDistinct, NoGaps, Shifted}
use Rattle.log4rs_rolling.specs.Moves.{MovedAll, each_to_the_older}
use Rattle.log4rs_rolling.specs.FileChanges.{OnlyWrites, OnlyOpens}
use Rattle.log4rs_rolling.specs.LogFile.{estimate}
use Rattle.log4rs_rolling.specs.Asking.{Asking, Kind, BySize, is_told, is_first, AnswersBy}
use Rattle.log4rs_rolling.specs.Keeping.{Keeping}
use Rattle.log4rs_rolling.specs.AppendParts.{TakesAway, TakenAfter, TextIn, FinishedText}
use Rattle.log4rs_rolling.specs.Appends.{Reading, SaidAt, IsWhole, Segmented}
use Rattle.log4rs_rolling.specs.Segments.{Segments, nth, Holds, Shows, ShowsAfter, add}
use Rattle.log4rs_rolling.proofs.Calls.{replay-append}
use Rattle.log4rs_rolling.proofs.Calls.{calls_join, files_after}
use Rattle.log4rs_rolling.proofs.Windows.{not_last}
use Rattle.log4rs_rolling.proofs.Shifting.{moves_shift}
use Rattle.log4rs_rolling.proofs.Parts.{not_yes, opens_apart, writes_apart, opens_bytes, writes_bytes, appending}

-- The same archives

pub holds_same : (f g : Files) (path : List ℕ) (older : List (List ℕ)) (closed : List (List ℕ)) → ((name : List ℕ) → name ≢ path → g name ≡ f name) → NotAmong path older → Holds f older closed → Holds g older closed
holds_same f g path [] closed same other holds = tt
holds_same f g path (name ∷ newer) closed same other holds =
    (same name (λ e. other.0 (sym e)) ∙ holds.0, holds_same f g path newer closed same other.1 holds.1)

-- Shifted archives

pub nth_gap : (n : ℕ) (xs : List (List ℕ)) → nth n xs ≡ None → nth (suc n) xs ≡ None
nth_gap n [] none = refl
nth_gap zero (x ∷ []) none = refl
nth_gap zero (x ∷ y ∷ xs) none = cc
nth_gap (suc n) (x ∷ xs) none = nth_gap n xs none

pub some_none : {X : Type 0} (v : Option (List ℕ)) (s : List ℕ) → v ≡ Some s → v ≡ None → X
some_none v s is none = absurd (clash s (sym is ∙ none)) where
  clash : (s : List ℕ) → Some s ≡ None → ⊥
  clash s e = cc

pub gapless : (f : Files) (path s : List ℕ) (older closed : List (List ℕ)) → Holds f older closed → f path ≡ Some s → NoGaps f (older ++ path ∷ [])
gapless f path s [] closed holds present = tt
gapless f path s (n ∷ []) closed holds present = (λ none. some_none (f path) s present none, tt)
gapless f path s (n ∷ m ∷ ns) closed holds present =
    (λ none. holds.0 ∙ nth_gap (length ns) closed (sym holds.1.0 ∙ none), gapless f path s (m ∷ ns) closed holds.1 present)

pub holds_shifted : (f g : Files) (path s : List ℕ) (older closed : List (List ℕ)) → Holds f older closed → f path ≡ Some s → Shifted f g (older ++ path ∷ []) → Holds g older (s ∷ closed) × (g path ≡ None)
holds_shifted f g path s [] closed holds present shifted = (tt, shifted)
holds_shifted f g path s (n ∷ []) closed holds present shifted = ((shifted.0 ∙ present, tt), shifted.1)
holds_shifted f g path s (n ∷ m ∷ ns) closed holds present shifted =
    let later = holds_shifted f g path s (m ∷ ns) closed holds.1 present shifted.1 in
    ((shifted.0 ∙ holds.1.0, later.0), later.1)

pub shift_all : (f : Files) (path : List ℕ) (older : List (List ℕ)) (changes : List Change) → 0 < length older → AreDistinct (older ++ path ∷ []) → NoGaps f (older ++ path ∷ [])
    → MovedAll f (each_to_the_older (older ++ path ∷ [])) changes → Shifted f (replay f changes) (older ++ path ∷ [])
shift_all f path [] changes some distinct gaps moved = absurd (omega arith)
shift_all f path (n ∷ []) changes some distinct gaps moved = moves_shift n path [] f changes distinct gaps moved
shift_all f path (n ∷ m ∷ ns) changes some distinct gaps moved = moves_shift n m (ns ++ path ∷ []) f changes distinct gaps moved

-- The active file

pub present : (v : Option (List ℕ)) (s : List ℕ) → unwrap_or v [] ≡ s → 0 < length s → v ≡ Some s
present None s is some = absurd (let e : length s ≡ 0 = ap (λ (b : List ℕ). length b) (sym is) in omega arith)
present (Some b) s is some = ap Some is

pub over : (limit n : ℕ) → limit < 2 ^ 64 - 1 → nat_lt limit (estimate n) ≡ nat_lt limit n
over limit n below = grind (arith, nat_tests)

pub above : (limit n : ℕ) → nat_lt limit n ≡ true → limit < n
above limit n is = grind (arith, nat_tests)

pub not_above : {X : Type 0} (limit n : ℕ) → nat_lt limit n ≡ false → limit < n → X
not_above limit n is more = absurd (wrong limit n is more) where
  wrong : (limit n : ℕ) → nat_lt limit n ≡ false → limit < n → ⊥
  wrong limit n is more = grind (arith, nat_tests)

-- a text is added, and the file is rolled where it is over the limit
text_grows : (b : Bool) (limit : ℕ) (segments : Segments) (text path : List ℕ) (older : List (List ℕ)) (f : Files) (xs ys : List Change)
    → 0 < length older → AreDistinct (older ++ path ∷ [])
    → b ≡ nat_lt limit (length (segments.current ++ text))
    → OnlyWrites path xs → written path xs ≡ text → TakenAfter (Some b) (λ g. MovedAll g (each_to_the_older (older ++ path ∷ []))) (replay f xs) ys
    → Shows segments older path f → ShowsAfter limit segments text older path (replay f (xs ++ ys))
text_grows true limit segments text path older f xs ys some distinct is only wrote moved shows =
    let whole = segments.current ++ text in
    let f1 = replay f xs in
    let long = above limit (length whole) (sym is) in
    let bytes : bytes_at f1 path ≡ whole = writes_bytes f path xs only ∙ ap (λ (b : List ℕ). b ++ written path xs) shows.current ∙ ap (λ (b : List ℕ). segments.current ++ b) wrote in
    let here : f1 path ≡ Some whole = present (f1 path) whole bytes (omega arith) in
    let holds = holds_same f f1 path older segments.closed (λ name other. writes_apart f path xs name only other) (not_last older path distinct) shows.closed in
    let shifted = shift_all f1 path older ys some distinct (gapless f1 path whole older segments.closed holds here) moved in
    let after = holds_shifted f1 (replay f1 ys) path whole older segments.closed holds here shifted in
    let files = replay-append f xs ys in
    let segments1 : add limit segments text ≡ record { closed = whole ∷ segments.closed; current = [] } =
    ap (λ (t : Bool). if t then record { closed = whole ∷ segments.closed; current = [] } else record { closed = segments.closed; current = whole }) (sym is) in
    record {
      shows = subst (λ (s : Segments). Shows s older path (replay f (xs ++ ys))) (sym segments1)
          (subst (Shows (record { closed = whole ∷ segments.closed; current = [] }) older path) (sym files)
          (record { closed = after.0; current = ap (λ (v : Option (List ℕ)). unwrap_or v []) after.1 }));
      absent = λ more. ap (λ (g : Files). g path) files ∙ after.1;
    }
text_grows false limit segments text path older f xs ys some distinct is only wrote moved shows =
    let whole = segments.current ++ text in
    let f1 = replay f xs in
    let bytes : bytes_at f1 path ≡ whole = writes_bytes f path xs only ∙ ap (λ (b : List ℕ). b ++ written path xs) shows.current ∙ ap (λ (b : List ℕ). segments.current ++ b) wrote in
    let holds = holds_same f f1 path older segments.closed (λ name other. writes_apart f path xs name only other) (not_last older path distinct) shows.closed in
    let files : replay f (xs ++ ys) ≡ f1 = replay-append f xs ys ∙ ap (replay f1) moved in
    let segments1 : add limit segments text ≡ record { closed = segments.closed; current = whole } =
    ap (λ (t : Bool). if t then record { closed = whole ∷ segments.closed; current = [] } else record { closed = segments.closed; current = whole }) (sym is) in
    record {
      shows = subst (λ (s : Segments). Shows s older path (replay f (xs ++ ys))) (sym segments1)
          (subst (Shows (record { closed = segments.closed; current = whole }) older path) (sym files) (record { closed = holds; current = bytes }));
      absent = λ more. not_above limit (length whole) (sym is) more;
    }

moves_known : (b : Bool) (k : Keeping) (path : List ℕ) (moves : List (List ℕ × List ℕ)) (f : Files) (ys : List Change) → k.moves path ≡ Some moves → TakenAfter (Some b) (TakesAway k path) f ys
    → TakenAfter (Some b) (λ g. MovedAll g moves) f ys
moves_known true k path moves f ys is taken = subst (λ (o : Option (List (List ℕ × List ℕ))). IfSome o (λ m. MovedAll f m ys)) is taken.0
moves_known false k path moves f ys is taken = taken

-- the same behind an answer that was told
text_answered : (answer : Option Bool) (limit : ℕ) (segments : Segments) (text path : List ℕ) (older : List (List ℕ)) (f : Files) (xs ys : List Change) (k : Keeping)
    → k.moves path ≡ Some (each_to_the_older (older ++ path ∷ [])) → IsSome answer → limit < 2 ^ 64 - 1
    → IfSome answer (λ b. b ≡ nat_lt limit (estimate (length (bytes_at f path) + length text)))
    → 0 < length older → AreDistinct (older ++ path ∷ [])
    → OnlyWrites path xs → written path xs ≡ text → TakenAfter answer (TakesAway k path) (replay f xs) ys
    → Shows segments older path f → ShowsAfter limit segments text older path (replay f (xs ++ ys))
text_answered None limit segments text path older f xs ys k whole some below said full distinct only wrote moved shows = absurd (not_yes (sym some))
text_answered (Some b) limit segments text path older f xs ys k whole some below said full distinct only wrote moved shows =
    text_grows b limit segments text path older f xs ys full distinct
    (said
    ∙ over limit (length (bytes_at f path) + length text) below
    ∙ ap (λ (c : List ℕ). nat_lt limit (length c + length text)) shows.current
    ∙ ap (nat_lt limit) (sym (length-append segments.current text)))
    only wrote (moves_known b k path (each_to_the_older (older ++ path ∷ [])) (replay f xs) ys whole moved) shows

pub opens_show : (segments : Segments) (older : List (List ℕ)) (path : List ℕ) (f : Files) (changes : List Change) → AreDistinct (older ++ path ∷ []) → OnlyOpens path Append changes
    → Shows segments older path f → Shows segments older path (replay f changes)
opens_show segments older path f changes distinct only shows =
    record {
      closed = holds_same f (replay f changes) path older segments.closed (λ name other. opens_apart f path Append changes name only other) (not_last older path distinct) shows.closed;
      current = opens_bytes f path changes only ∙ shows.current;
    }

pub on_ok_with : (r : Result Unit LogError) (X Y : Type 0) → OnOk r X → (X → Y) → OnOk r Y
on_ok_with (Ok t) X Y x f = f x
on_ok_with (Err e) X Y x f = tt

pub said_by_size : (asking : Asking) (limit : ℕ) (context : Context) (answer : Option Bool) (len : ℕ) → asking.kind ≡ BySize limit → SaidAt asking context answer len → IfSome answer (λ b. b ≡ nat_lt limit len)
said_by_size asking limit context answer len is said =
    let Answer : Kind → Type 0 = λ k. IsTrue (is_told k) → IfSome answer (AnswersBy k asking.answer len context) in
    (subst Answer is said) refl

-- an append whose text was written
pub segments_grow : (reading : Option Reading) (r : Record) (c : Context) (asking : Asking) (k : Keeping) (append first : Bool) (answer : Option Bool) (result : Result Unit LogError) (A1 : Type 0) (text path : List ℕ) (d0 d1 d2 : Disk)
    → IsTrue append → (IsTrue (is_told asking.kind) → is_first asking.kind ≡ first) → A1 → IfSome reading (λ read. text ≡ read r c)
    → (first ≡ false → Calls d0 d1 (OnlyOpens path (if append then Append else Truncate)))
    → (first ≡ false → FinishedText text first asking c answer result k A1 path d1 d2)
    → Segmented reading r c asking k path result d0 d2
segments_grow reading r c asking k append first answer result A1 text path d0 d1 d2 on kind agrees made opens finished =
    archived k.archives where
      archived : (o : Option (List (List ℕ))) → IfSome o (λ older. IfSome reading (λ read. (limit : ℕ) → asking.kind ≡ BySize limit → limit < 2 ^ 64 - 1 → IsWhole k path older → 0 < length older →
          AreDistinct (older ++ path ∷ []) → OnOk result ((segments : Segments) →
          Calls d0 d2 (λ added. Shows segments older path (files_of d0) → ShowsAfter limit segments (read r c) older path (replay (files_of d0) added)))))
      archived None = tt
      archived (Some older) = read_as reading made where
        read_as : (o : Option Reading) → IfSome o (λ read. text ≡ read r c) → IfSome o (λ read. (limit : ℕ) → asking.kind ≡ BySize limit → limit < 2 ^ 64 - 1 → IsWhole k path older → 0 < length older →
            AreDistinct (older ++ path ∷ []) → OnOk result ((segments : Segments) →
            Calls d0 d2 (λ added. Shows segments older path (files_of d0) → ShowsAfter limit segments (read r c) older path (replay (files_of d0) added))))
        read_as None is = tt
        read_as (Some read) is = λ limit size below whole full distinct.
            let last : first ≡ false = sym (kind (subst (λ (k : Kind). IsTrue (is_told k)) (sym size) refl)) ∙ ap is_first size in
            on_ok_with result _ ((segments : Segments) → Calls d0 d2 (λ added. Shows segments older path (files_of d0) → ShowsAfter limit segments (read r c) older path (replay (files_of d0) added)))
            (finished last agrees)
            (λ done. λ segments.
            let some = done.0 last (subst (λ (k : Kind). IsTrue (is_told k)) (sym size) refl) in
            calls_join d0 d1 d2 _ _ (λ added. Shows segments older path (files_of d0) → ShowsAfter limit segments (read r c) older path (replay (files_of d0) added)) (opens last) done.1
            (λ xs ys tells told x y. λ shows.
            let f0 = files_of d0 in
            let only = appending append path xs on x in
            let in_text = subst (λ (f : Files). TextIn text asking c answer (TakesAway k path) path f ys) (files_after d0 d1 xs told) y in
            let f1 = replay f0 xs in
            let wrote = in_text.1 in
            let grows = text_answered answer limit segments text path older f1 wrote.0 wrote.1 k whole some below
            (said_by_size asking limit c answer _ size in_text.0) full distinct wrote.3 wrote.4 wrote.5 (opens_show segments older path f0 xs distinct only shows) in
            subst (λ (t : List ℕ). ShowsAfter limit segments t older path (replay f0 (xs ++ ys))) is
            (subst (ShowsAfter limit segments text older path) (ap (replay f1) (sym wrote.2) ∙ sym (replay-append f0 xs ys)) grows)))
