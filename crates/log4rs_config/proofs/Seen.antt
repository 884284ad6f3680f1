-- Names in a set, and the names of the items so far.
use Rattle.std.proofs.Common.{◌≡◌, ℕ, ◌<◌, ◌+◌, Bool, true, false, not, ◌||◌, List, [], ◌∷◌, ◌++◌, map, filter, take, length, get_or, Bor, refl, sym, ap, ◌∙◌}
use Rattle.std.specs.declared.cmp.Ordering.{Ordering}
use Rattle.std.specs.declared.cmp.Ordering.TheVariants.{Less, Equal, Greater}
use Rattle.std.specs.Ordering.{nat_cmp, is_eq, match_ordering}
use Rattle.std.specs.List.{list_any}
use Rattle.std.specs.Str.{bytes_eq}
use Rattle.std.specs.Cmp.Lexicographic.{slice_cmp}
use Rattle.std.specs.BTreeMap.{is_at}
use Rattle.std.specs.BTreeSet.{insert_key}
use Rattle.std.proofs.lemmas.List.{take_more, map-append}
use Rattle.std.proofs.lemmas.Map.Text.{is_eq-slice_cmp}
use Rattle.std.proofs.lemmas.Slice.Eq.{bytes_eq-Decides}
use Rattle.log4rs_base.specs.Text.{Text}
use Rattle.log4rs_config.specs.Settings.{LoggerSetting, is_among}
use Rattle.log4rs_config.specs.Faults.{unknown, logger_faults}
use Rattle.log4rs_config.specs.Lossy.{with_known}

-- a look-up finds what is among the names
pub found : (keys : List (Bor Text)) (name : Text) → list_any (is_at (λ k. slice_cmp nat_cmp name k.now)) keys ≡ is_among (map (λ k. k.now) keys) name
found [] name = refl
found (key ∷ keys) name =
    ap (λ (b : Bool). b || list_any (is_at (λ k. slice_cmp nat_cmp name k.now)) keys) (is_eq-slice_cmp name key.now)
    ∙ ap (λ (b : Bool). bytes_eq name key.now || b) (found keys name)

pub or-swap : (a b c : Bool) → ((a || b) || c) ≡ (b || (a || c))
or-swap true true c = refl
or-swap true false c = refl
or-swap false true c = refl
or-swap false false c = refl

pub or-false : (b : Bool) → (b || false) ≡ b
or-false true = refl
or-false false = refl

or-once : (a b : Bool) → (a || b) ≡ (a || (a || b))
or-once true b = refl
or-once false b = refl

or-under : (a b c : Bool) → (b || (a || c)) ≡ (a || (b || c))
or-under true true c = refl
or-under true false c = refl
or-under false true c = refl
or-under false false c = refl

added_step : (first key : Bor Text) (keys more : List (Bor Text)) (name : Text) (o : Ordering) → slice_cmp nat_cmp key.now first.now ≡ o
    → is_among (map (λ k. k.now) more) name ≡ (bytes_eq name key.now || is_among (map (λ k. k.now) keys) name)
    → is_among (map (λ k. k.now) (match_ordering o (key ∷ first ∷ keys) (first ∷ keys) (first ∷ more))) name
    ≡ (bytes_eq name key.now || (bytes_eq name first.now || is_among (map (λ k. k.now) keys) name))
added_step first key keys more name Less e h = refl
added_step first key keys more name Equal e h =
    let same : key.now ≡ first.now = (bytes_eq-Decides key.now first.now).0 (sym (is_eq-slice_cmp key.now first.now) ∙ ap is_eq e) in
    or-once (bytes_eq name first.now) (is_among (map (λ k. k.now) keys) name)
    ∙ ap (λ (t : Text). bytes_eq name t || (bytes_eq name first.now || is_among (map (λ k. k.now) keys) name)) (sym same)
added_step first key keys more name Greater e h =
    ap (λ (b : Bool). bytes_eq name first.now || b) h
    ∙ or-under (bytes_eq name key.now) (bytes_eq name first.now) (is_among (map (λ k. k.now) keys) name)

-- a key more
pub added : (keys : List (Bor Text)) (key : Bor Text) (name : Text)
    → is_among (map (λ k. k.now) (insert_key (λ x y. slice_cmp nat_cmp x.now y.now) keys key)) name ≡ (bytes_eq name key.now || is_among (map (λ k. k.now) keys) name)
added [] key name = refl
added (first ∷ keys) key name =
    added_step first key keys (insert_key (λ x y. slice_cmp nat_cmp x.now y.now) keys key) name (slice_cmp nat_cmp key.now first.now) refl (added keys key name)

-- the names of the items so far, and one more
pub next_names : {X : Type 0} (name : X → Text) (xs : List X) (i : ℕ) (x : X) → i < length xs → x ≡ get_or xs i x → map name (take (i + 1) xs) ≡ map name (take i xs) ++ name x ∷ []
next_names {X} name xs i x h e =
    ap (map name) (take_more xs i x h ∙ ap (λ (y : X). take i xs ++ y ∷ []) (sym e)) ∙ map-append name (take i xs) (x ∷ [])

among_last : (names : List Text) (last name : Text) → is_among (names ++ last ∷ []) name ≡ (bytes_eq name last || is_among names name)
among_last [] last name = refl
among_last (n ∷ names) last name =
    ap (λ (b : Bool). bytes_eq name n || b) (among_last names last name) ∙ or-under (bytes_eq name last) (bytes_eq name n) (is_among names name)

pub seen-more : {X : Type 0} (name : X → Text) (xs : List X) (i : ℕ) (x : X) (old new : List Text) (last : Text) → i < length xs → x ≡ get_or xs i x → last ≡ name x
    → ((n : Text) → is_among old n ≡ is_among (map name (take i xs)) n) → ((n : Text) → is_among new n ≡ (bytes_eq n last || is_among old n))
    → (n : Text) → is_among new n ≡ is_among (map name (take (i + 1) xs)) n
seen-more {X} name xs i x old new last h e is before more n =
    more n
    ∙ ap (λ (b : Bool). bytes_eq n last || b) (before n)
    ∙ ap (λ (t : Text). bytes_eq n t || is_among (map name (take i xs)) n) is
    ∙ sym (among_last (map name (take i xs)) (name x) n)
    ∙ ap (λ (ns : List Text). is_among ns n) (sym (next_names name xs i x h e))

-- two lists of the same names
pub same_tests : (xs ys : List Text) → ((n : Text) → is_among xs n ≡ is_among ys n) → is_among xs ≡ is_among ys
same_tests xs ys h = λ i n. h n i

pub same_unknown : (xs ys names : List Text) → ((n : Text) → is_among xs n ≡ is_among ys n) → unknown xs names ≡ unknown ys names
same_unknown xs ys names h = ap (λ (test : Text → Bool). filter (λ n. not (test n)) names) (same_tests xs ys h)

pub same_faults : (xs ys earlier names : List Text) (logger : LoggerSetting) → ((n : Text) → is_among xs n ≡ is_among ys n) → is_among earlier logger.name ≡ is_among names logger.name
    → logger_faults xs earlier logger ≡ logger_faults ys names logger
same_faults xs ys earlier names logger h e = rw (same_unknown xs ys logger.appenders h) (rw e refl)

pub same_known : (xs ys : List Text) → ((n : Text) → is_among xs n ≡ is_among ys n) → with_known xs ≡ with_known ys
same_known xs ys h = ap {B = LoggerSetting → LoggerSetting} (λ (test : Text → Bool) (l : LoggerSetting). record l { appenders = filter test l.appenders }) (same_tests xs ys h)

twice : (b : Bool) → b ≡ not (not b)
twice true = refl
twice false = refl

pub turned : (a b t : Bool) → a ≡ not b → a ≡ not t → b ≡ t
turned a b t e f = twice b ∙ ap not (sym e ∙ f) ∙ sym (twice t)

pub same_filter : (xs ys names : List Text) → ((n : Text) → is_among xs n ≡ is_among ys n) → filter (is_among xs) names ≡ filter (is_among ys) names
same_filter xs ys names h = ap (λ (test : Text → Bool). filter test names) (same_tests xs ys h)
