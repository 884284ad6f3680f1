-- What came to the history of a holder.
use Rattle.std.proofs.Common.{◌≡◌, ◌↔◌, ◌∙◌, arith, string_bytes, Contains, Bool, true, false, List, [], ◌∷◌, ◌++◌, All, Option, Some, None, Result, Ok, Err, IfOk, IfErr, OnErr, ℕ, zero, suc, ◌+◌, ◌<◌, ◌≤◌, map, take, length, get_or, set, refl, sym, ap, subst, append_assoc, inr}
use Rattle.std.proofs.lemmas.List.{append-nil, take_more, take_all, map-append, get_or-map, length-map}
use Rattle.std.proofs.lemmas.List.Elements.{All-nil, All-cons, All-push}
use Rattle.log4rs_build.specs.Again.{AllStand, TriesAgain}
use Rattle.log4rs_config.specs.Holder.{EndsBy, HolderEvent, History, Happened, HasReread, IsReply, IsUndone, OnlyReplies, OnlyRetires, answers_retired, presents, retirements, resumptions}
use Rattle.log4rs_config.specs.declared.runtime.shared.SharedAppender.{SharedAppender}
use Rattle.log4rs_config.proofs.Holding.{nothing_happened}
use Rattle.log4rs_plans.specs.Effective.{Planned}
use Rattle.log4rs_settings.specs.Reload.{ReloaderState, Outcome, Settles, same, swap, failed}
use Rattle.log4rs_settings.specs.declared.load.LoadError.{LoadError}
use Rattle.log4rs_settings.specs.declared.load.LoadError.TheVariants as load
use Rattle.log4rs_settings.specs.declared.load.LoadedText.{LoadedText}
use Rattle.log4rs_settings.specs.declared.reload.ReloadError.{ReloadError}
use Rattle.log4rs_settings.specs.declared.reload.ReloadError.TheVariants.{Modified, Read, Parse}
use Rattle.log4rs_settings.specs.declared.reload.ReloadError.TheVariants as errors
use Rattle.log4rs_build.specs.Rebuilt.{Ends, LeavesAfter, LeavesHolder, LeavesOrSwaps, leaving_in}
use Rattle.log4rs_build.specs.Retiring.{Asks, IsSame, Retires, Stands, leaving_appender}
use Rattle.log4rs_build.specs.Keeping.{planned}
use Rattle.log4rs_build.specs.Leaving.{IsKeptUnder, Leaves}
use Rattle.log4rs_build.specs.declared.in_force.Leaver.{Leaver}
use Rattle.log4rs_build.specs.declared.in_force.InForce.{InForce}
use Rattle.log4rs_build.specs.declared.rereading.Rebuilt.{Rebuilt}

module _ {B : Type 0} where
  pub happened_then : (a b c : History B) (xs ys : List (HolderEvent B)) → Happened a b xs → Happened b c ys → Happened a c (xs ++ ys)
  happened_then None b c xs ys h k = subst (λ m. Happened m c ys) h k
  happened_then (Some old) b c xs ys h k =
      let k' : Happened (Some (old ++ xs)) c ys = subst (λ m. Happened m c ys) h k in
      k' ∙ ap Some (append_assoc old xs ys)

  -- one more was asked, and stands or does not
  abbrev pub Adds : Bool → InForce B → List (InForce B) → List (InForce B) → Type 0
  Adds true one still still' = still' ≡ still
  Adds false one still still' = (same : InForce B) × IsSame one same × (still' ≡ still ++ same ∷ [])

  step : (x one : InForce B) (xs still still' ms : List (InForce B)) (asked ma : List (HolderEvent B)) (l left : Bool)
      → ((ms' : List (InForce B)) → Adds left one ms ms' → Asks (xs ++ one ∷ []) ms' (ma ++ answers_retired one.lock left ∷ []))
      → asked ≡ answers_retired x.lock l ∷ ma → Stands l x ms still → Adds left one still still'
      → Asks (x ∷ (xs ++ one ∷ [])) still' (asked ++ answers_retired one.lock left ∷ [])
  step x one xs still still' ms asked ma true left ih e st s =
      let s' : Adds left one ms still' = subst (λ (l : List (InForce B)). Adds left one l still') st s in
      (true, still', ma ++ answers_retired one.lock left ∷ [], ih still' s', ap (λ l. l ++ answers_retired one.lock left ∷ []) e, refl)
  step x one xs still still' ms asked ma false true ih e st s =
      (false, ms, ma ++ answers_retired one.lock true ∷ [], ih ms refl, ap (λ l. l ++ answers_retired one.lock true ∷ []) e, (st.0, st.1, s ∙ st.2))
  step x one xs still still' ms asked ma false false ih e st s =
      (false, ms ++ s.0 ∷ [], ma ++ answers_retired one.lock false ∷ [], ih (ms ++ s.0 ∷ []) (s.0, s.1, refl), ap (λ l. l ++ answers_retired one.lock false ∷ []) e, (st.0, st.1, s.2 ∙ ap (λ l. l ++ s.0 ∷ []) st.2))

  -- one more was asked
  pub asks_more : (xs still still' : List (InForce B)) (asked : List (HolderEvent B)) (one : InForce B) (left : Bool) → Asks xs still asked → Adds left one still still'
      → Asks (xs ++ one ∷ []) still' (asked ++ answers_retired one.lock left ∷ [])
  asks_more [] still still' asked one true h s = (true, [], [], (refl, refl), ap (λ l. l ++ answers_retired one.lock true ∷ []) h.1, s ∙ h.0)
  asks_more [] still still' asked one false h s =
      (false, [], [], (refl, refl), ap (λ l. l ++ answers_retired one.lock false ∷ []) h.1, (s.0, s.1, s.2 ∙ ap (λ l. l ++ s.0 ∷ []) h.0))
  asks_more (x ∷ xs) still still' asked one left h s = step x one xs still still' h.1 asked h.2 h.0 left (λ ms' a. asks_more xs h.1 ms' h.2 one left h.3 a) h.4 h.5 s

  -- all that the holder was asked it answered
  pub asks_are_answers : (xs still : List (InForce B)) (asked : List (HolderEvent B)) → Asks xs still asked → All IsReply asked
  asks_are_answers [] still asked h = subst (λ (l : List (HolderEvent B)). All IsReply l) (sym h.1) (All-nil IsReply)
  asks_are_answers (x ∷ xs) still asked h =
      let both = All-cons IsReply (answers_retired x.lock h.0) h.2 tt (asks_are_answers xs h.1 h.2 h.3) in
      subst (λ (l : List (HolderEvent B)). All IsReply l) (sym h.4) both

  -- it gave one answer more
  pub only_more : (a b c : History B) (xs still : List (InForce B)) (asked : List (HolderEvent B)) (e : HolderEvent B) → Asks xs still asked → Happened a b asked → Happened b c (e ∷ []) → IsReply e → OnlyReplies a c
  only_more a b c xs still asked e are h k is = (asked ++ e ∷ [], All-push IsReply asked e (asks_are_answers xs still asked are) is, happened_then a b c asked (e ∷ []) h k)

  -- it gave no more
  pub only_asked : (a b c : History B) (xs still : List (InForce B)) (asked : List (HolderEvent B)) → Asks xs still asked → Happened a b asked → c ≡ b → OnlyReplies a c
  only_asked a b c xs still asked are h is = (asked, asks_are_answers xs still asked are, rw is h)

  module _ {Y : Type 0} (f : Y → HolderEvent B) where
    -- what happened for one more
    pub each_at : (ys : List Y) (i : ℕ) (y : Y) (a b c : History B) → i < length ys → y ≡ get_or ys i y → Happened a b (map f (take i ys)) → Happened b c (f y ∷ []) → Happened a c (map f (take (i + 1) ys))
    each_at ys i y a b c within at h k =
        let grown : map f (take (i + 1) ys) ≡ map f (take i ys) ++ f y ∷ [] =
        ap (map f) (take_more ys i y within ∙ ap (λ z. take i ys ++ z ∷ []) (sym at)) ∙ map-append f (take i ys) (y ∷ []) in
        subst (λ (es : List (HolderEvent B)). Happened a c es) (sym grown) (happened_then a b c (map f (take i ys)) (f y ∷ []) h k)

    module _ {X : Type 0} (seen : X → Y) where
      pub each_seen : (xs : List X) (i : ℕ) (x : X) (a b c : History B) → i < length xs → x ≡ get_or xs i x → Happened a b (map f (take i (map seen xs))) → Happened b c (f (seen x) ∷ [])
          → Happened a c (map f (take (i + 1) (map seen xs)))
      each_seen xs i x a b c within at h k =
          let inside : i < length (map seen xs) = rw length-map within in
          each_at (map seen xs) i (seen x) a b c inside (rw (get_or-map seen xs i x (seen x) within, ← at) refl) h k

      -- the same, where what is seen stays
      pub each_kept : (xs : List X) (ys : List Y) (i : ℕ) (x : X) (a b c : History B) → map seen xs ≡ ys → i < length xs → x ≡ get_or xs i x → Happened a b (map f (take i ys)) → Happened b c (f (seen x) ∷ [])
          → Happened a c (map f (take (i + 1) ys))
      each_kept xs ys i x a b c is within at h k =
          let P : List Y → Type 0 = λ l. Happened a b (map f (take i l)) → Happened a c (map f (take (i + 1) l)) in
          subst P is (λ (h' : Happened a b (map f (take i (map seen xs)))). each_seen xs i x a b c within at h' k) h

      -- what happened for all
      pub all_seen : (xs : List X) (i : ℕ) (a b : History B) → length xs ≤ i → Happened a b (map f (take i (map seen xs))) → Happened a b (map f (map seen xs))
      all_seen xs i a b all h =
          let outside : length (map seen xs) ≤ i = rw length-map all in
          subst (λ (l : List Y). Happened a b (map f l)) (take_all i (map seen xs) outside) h

  -- nothing happened, so nothing is to be undone
  pub undone_at_once : (made : Option ℕ) (h : History B) → IsUndone made h h
  undone_at_once made h = record { replies = []; leaving = []; only = All-nil IsReply; happened = nothing_happened h }

  -- there were answers alone
  pub undone_after_answers : (made : Option ℕ) (a b : History B) → OnlyReplies a b → IsUndone made a b
  undone_after_answers made a b only =
      record {
        replies = only.0;
        leaving = [];
        only = only.1;
        happened = subst (λ (es : List (HolderEvent B)). Happened a b es) (sym (append-nil (only.0 ++ []) ∙ append-nil only.0)) only.2;
      }

  -- what is asked for may be said otherwise
  pub retires_as : (asked others : List Planned) (in_force : List (InForce B)) (made : Option ℕ) (a b : History B) (still : List (InForce B)) (leaving : List (SharedAppender B))
      → asked ≡ others → Retires asked in_force made a b still leaving → Retires others in_force made a b still leaving
  retires_as asked others in_force made a b still leaving is r = subst (λ (l : List Planned). Retires l in_force made a b still leaving) is r

  pub resumed_as : (xs ys : List (Leaver B)) (a b : History B) → xs ≡ ys → Happened a b (resumptions (map leaving_appender xs)) → Happened a b (resumptions (map leaving_appender ys))
  resumed_as xs ys a b is h = subst (λ (l : List (Leaver B)). Happened a b (resumptions (map leaving_appender l))) is h

  -- nothing else was done
  pub retired_only : (asked : List Planned) (in_force : List (InForce B)) (made : Option ℕ) (a b : History B) (still : List (InForce B)) (leaving : List (SharedAppender B))
      → Retires asked in_force made a b still leaving → OnlyRetires made a b leaving
  retired_only asked in_force made a b still leaving r =
      let all : r.answers ++ presents r.present ∷ retirements made leaving ≡ (r.answers ++ presents r.present ∷ []) ++ retirements made leaving =
      sym (append_assoc r.answers (presents r.present ∷ []) (retirements made leaving)) in (
        r.answers ++ presents r.present ∷ [],
        All-push IsReply r.answers (presents r.present) (asks_are_answers in_force still r.answers r.stands) tt,
        subst (λ (es : List (HolderEvent B)). Happened a b es) all r.happened,
      )

  -- what was retired was resumed
  pub undone_by_resuming : (made : Option ℕ) (a b c : History B) (leaving : List (SharedAppender B)) → OnlyRetires made a b leaving → Happened b c (resumptions leaving) → IsUndone made a c
  undone_by_resuming made a b c leaving r h =
      record {
        replies = r.0;
        leaving = leaving;
        only = r.1;
        happened = happened_then a b c _ (resumptions leaving) r.2 h;
      }

  -- an error of a look leaves the holder alone
  pub failed_leaves : (made : Option ℕ) (h : History B) (e : ReloadError) → LeavesAfter made h h e
  failed_leaves made h Modified = refl
  failed_leaves made h Read = refl
  failed_leaves made h Parse = refl
  failed_leaves made h errors.Memory = undone_at_once made h

  -- so does an error of loading before anything was asked
  load_leaves : (made : Option ℕ) (h : History B) (e : LoadError) → LeavesHolder made h h e
  load_leaves made h load.Refused = refl
  load_leaves made h load.Memory = undone_at_once made h

  pub err_leaves : {T : Type 0} (made : Option ℕ) (h : History B) (r : Result T LoadError) → IfErr r (LeavesHolder made h h)
  err_leaves made h (Ok t) = tt
  err_leaves made h (Err e) = load_leaves made h e

  -- so does what a text gave that is none; for one that it gave, what leaves was retired
  pub settled_leaves : {C A E : Type 0} (made : Option ℕ) (a b : History B) (k k' : ReloaderState) (text : List ℕ) (stamp : Option ℕ) (loaded : Result (LoadedText (Rebuilt C B) A E) LoadError) (answer : Outcome (Rebuilt C B) A E)
      → Settles k text stamp loaded answer k' → IfOk loaded (λ one. OnlyRetires made a b (leaving_in one.config)) → IfErr loaded (LeavesHolder made a b) → LeavesOrSwaps made a b answer
  settled_leaves made a b k k' text stamp (Ok loaded) answer s ok h = rw s.0 ok
  settled_leaves made a b k k' text stamp (Err load.Refused) answer s ok h = rw s.0 h
  settled_leaves made a b k k' text stamp (Err load.Memory) answer s ok h = rw s.0 h

  -- an error of a reading leaves everything as it was
  pub undone_by_error : (made : Option ℕ) (a b : History B) (e : ReloadError) → LeavesAfter made a b e → IsUndone made a b
  undone_by_error made a b Modified h = rw h (undone_at_once made a)
  undone_by_error made a b Read h = rw h (undone_at_once made a)
  undone_by_error made a b Parse h = rw h (undone_at_once made a)
  undone_by_error made a b errors.Memory h = h

  -- a reading ends by an error
  pub fails_at_last : (left : List (SharedAppender B)) (made : Option ℕ) (a tried b : History B) (e : ReloadError) → Happened a tried (retirements made left) → LeavesAfter made tried b e → HasReread left made a b
  fails_at_last left made a tried b e again h =
      let u = undone_by_error made tried b e h in
      record {
        tried = tried;
        again = again;
        replies = u.replies;
        only = u.only;
        leaving = u.leaving;
        end = resumptions u.leaving;
        ends = inr refl;
        happened = u.happened;
      }

  -- or by what it read
  pub ends_at_last : {C A E : Type 0} (left : List (SharedAppender B)) (made : Option ℕ) (a tried b c : History B) (o : Outcome (Rebuilt C B) A E)
      → Happened a tried (retirements made left) → LeavesOrSwaps made tried b o → Ends b c o → HasReread left made a c
  ends_at_last left made a tried b c (swap loaded) again h t =
      let leaving = leaving_in loaded.config in
      record {
        tried = tried;
        again = again;
        replies = h.0;
        only = h.1;
        leaving = leaving;
        end = t.0;
        ends = t.1;
        happened = happened_then tried b c _ t.0 h.2 t.2;
      }
  ends_at_last left made a tried b c same again h t =
      record {
        tried = tried;
        again = again;
        replies = [];
        only = All-nil IsReply;
        leaving = [];
        end = [];
        ends = inr refl;
        happened = rw (t, h) (nothing_happened tried);
      }
  ends_at_last left made a tried b c (failed e) again h t = rw t (fails_at_last left made a tried b e again h)

  -- nothing was asked
  pub no_replies : (h : History B) → OnlyReplies h h
  no_replies h = ([], All-nil IsReply, nothing_happened h)

  -- nothing more happened after replies
  pub only_tried : (a b : History B) → OnlyReplies a b → TriesAgain a b
  only_tried a b only = (only.0, only.1, [], inr refl, subst (λ (es : List (HolderEvent B)). Happened a b es) (sym (append-nil only.0)) only.2)

  -- another configuration was put in force, or not
  pub tried_then : (a b c : History B) → OnlyReplies a b → (end : List (HolderEvent B)) × EndsBy [] end × Happened b c end → TriesAgain a c
  tried_then a b c only e = (only.0, only.1, e.0, e.1, happened_then a b c only.0 e.0 only.2 e.2)

  -- nothing was tried
  pub untried : (h : History B) → TriesAgain h h
  untried h = ([], All-nil IsReply, [], inr refl, nothing_happened h)

  -- a reading ends by a try
  pub tries_at_last : (left : List (SharedAppender B)) (made : Option ℕ) (a tried b c : History B) → Happened a tried (retirements made left) → b ≡ tried → TriesAgain b c → HasReread left made a c
  tries_at_last left made a tried b c again is t = record {
    tried = tried;
    again = again;
    replies = t.0;
    only = t.1;
    leaving = [];
    end = t.2;
    ends = t.3;
    happened =
        let since : Happened tried c (t.0 ++ t.2) = subst (λ (m : History B). Happened m c (t.0 ++ t.2)) is t.4 in
        subst (λ (es : List (HolderEvent B)). Happened tried c (es ++ t.2)) (sym (append-nil t.0)) since;
  }

  -- all that were in force stand
  pub all_stand : (asked : List Planned) (in_force still read seen : List (InForce B)) (present leaving left : List (SharedAppender B)) (a b c : History B) (answers : List (HolderEvent B))
      → read ≡ still → seen ≡ still → left ≡ leaving → Asks in_force still answers → Happened a b answers → Happened b c (presents present ∷ [])
      → ((one : SharedAppender B) → Contains leaving one ↔ Leaves asked (map planned read) present one)
      → length seen ≡ length in_force → All (λ one. IsKeptUnder asked (map planned seen) (string_bytes one.name)) seen → left ≡ []
      → AllStand asked in_force a c still
  all_stand asked in_force still read seen present leaving left a b c answers is_read is_seen is_left stands h k leaves none_retired kept none =
      record {
        answers = answers;
        present = present;
        stands = stands;
        none_retired = subst (λ (l : List (InForce B)). length l ≡ length in_force) is_seen none_retired;
        asked_again = subst (λ (l : List (InForce B)). All (λ (one : InForce B). IsKeptUnder asked (map planned l) (string_bytes one.name)) l) is_seen kept;
        none_leaves = λ one goes.
            let P : List (InForce B) → Type 0 = λ l. Contains leaving one ↔ Leaves asked (map planned l) present one in
            let there : Contains leaving one = (subst P is_read (leaves one)).1 goes in
            let nowhere : Contains [] one = subst (λ (l : List (SharedAppender B)). Contains l one) (sym is_left ∙ none) there in
            omega (arith, nowhere.1);
        happened = happened_then a b c answers (presents present ∷ []) h k;
      }

  -- what is asked for may be said otherwise
  pub stand_as : (asked others : List Planned) (in_force : List (InForce B)) (a b : History B) (still : List (InForce B))
      → asked ≡ others → AllStand asked in_force a b still → AllStand others in_force a b still
  stand_as asked others in_force a b still is s = subst (λ (l : List Planned). AllStand l in_force a b still) is s

pub on_err : {T E X : Type 0} (r : Result T E) → X → OnErr r X
on_err (Ok t) x = tt
on_err (Err e) x = x

-- one is set to another that is seen as the same
pub map_set_same : {X Y : Type 0} (f : X → Y) (xs : List X) (i : ℕ) (y d : X) → f y ≡ f (get_or xs i d) → map f (set xs i y) ≡ map f xs
map_set_same f [] i y d h = refl
map_set_same f (x ∷ xs) zero y d h = ap (λ z. z ∷ map f xs) h
map_set_same f (x ∷ xs) (suc i) y d h = ap (λ l. f x ∷ l) (map_set_same f xs i y d h)

pub as_long : {X Y : Type 0} (f : X → Y) (xs zs : List X) → map f xs ≡ map f zs → length xs ≡ length zs
as_long f xs zs e = sym (length-map xs f) ∙ ap length e ∙ length-map zs f
