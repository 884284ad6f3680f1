-- What has no fault is accepted, and so is what is kept.
use Rattle.std.proofs.Common.{◌≡◌, Bool, true, false, cond, not, ◌&&◌, ◌||◌, List, [], ◌∷◌, ◌++◌, map, filter, refl, sym, ap, ◌∙◌, subst}
use Rattle.std.specs.List.{list_all}
use Rattle.std.specs.Str.{bytes_eq}
use Rattle.std.proofs.lemmas.List.{map-id}
use Rattle.std.proofs.lemmas.Slice.Eq.{bytes_eq-Decides}
use Rattle.log4rs_base.specs.Text.{Text}
use Rattle.log4rs_config.specs.Name.{is_valid}
use Rattle.log4rs_config.specs.Settings.{Settings, LoggerSetting, IsAccepted, is_among, is_distinct, logger_names}
use Rattle.log4rs_config.specs.Faults.{RepeatedAppender, UnknownAppender, RepeatedLogger, InvalidLogger, repeats, unknown, logger_faults, loggers_faults, faults}
use Rattle.log4rs_config.specs.Lossy.{firsts, with_known, kept}

first_none : {X : Type 0} (xs ys : List X) → xs ++ ys ≡ [] → xs ≡ []
first_none [] ys e = refl
first_none (x ∷ xs) ys e = cc

second_none : {X : Type 0} (xs ys : List X) → xs ++ ys ≡ [] → ys ≡ []
second_none [] ys e = e
second_none (x ∷ xs) ys e = cc

map_none : {X Y : Type 0} (f : X → Y) (xs : List X) → map f xs ≡ [] → xs ≡ []
map_none f [] e = refl
map_none f (x ∷ xs) e = cc

both : (a b : Bool) → a ≡ true → b ≡ true → (a && b) ≡ true
both true b p q = q
both false b p q = p

-- a name that is among them, or equal to the first
or_second : (a b : Bool) → b ≡ true → (a || b) ≡ true
or_second true b e = refl
or_second false b e = e

or_first : (a b : Bool) → a ≡ true → (a || b) ≡ true
or_first true b e = refl
or_first false b e = cc

neither : (a b : Bool) → (a ≡ true → false ≡ true) → b ≡ false → (a || b) ≡ false
neither true b p q = sym (p refl)
neither false b p q = q

same_text : (n : Text) → bytes_eq n n ≡ true
same_text n = (bytes_eq-Decides n n).1 refl

-- a name of the earlier ones is not the first of the others
not_first : (earlier : List Text) (m n : Text) → is_among earlier m ≡ false → is_among earlier n ≡ true → bytes_eq n m ≡ true → false ≡ true
not_first earlier m n f t e = sym f ∙ (ap (is_among earlier) (sym ((bytes_eq-Decides n m).0 e)) ∙ t)

-- of names without repeats none is among the earlier ones
repeats_step : (earlier names : List Text) (m n : Text) (b : Bool) → is_among earlier m ≡ b → cond b (m ∷ repeats earlier names) (repeats (m ∷ earlier) names) ≡ [] → is_among earlier n ≡ true
    → (repeats (m ∷ earlier) names ≡ [] → is_among (m ∷ earlier) n ≡ true → is_among names n ≡ false) → (bytes_eq n m || is_among names n) ≡ false
repeats_step earlier names m n true b e t k = cc
repeats_step earlier names m n false b e t k =
    neither (bytes_eq n m) (is_among names n) (not_first earlier m n b t) (k e (or_second (bytes_eq n m) (is_among earlier n) t))

none_earlier : (earlier names : List Text) (n : Text) → repeats earlier names ≡ [] → is_among earlier n ≡ true → is_among names n ≡ false
none_earlier earlier [] n e t = refl
none_earlier earlier (m ∷ names) n e t =
    repeats_step earlier names m n (is_among earlier m) refl e t (λ (f : repeats (m ∷ earlier) names ≡ []) (u : is_among (m ∷ earlier) n ≡ true). none_earlier (m ∷ earlier) names n f u)

distinct_step : (earlier names : List Text) (m : Text) (b : Bool) → cond b (m ∷ repeats earlier names) (repeats (m ∷ earlier) names) ≡ []
    → (repeats (m ∷ earlier) names ≡ [] → is_distinct names ≡ true) → (not (is_among names m) && is_distinct names) ≡ true
distinct_step earlier names m true e k = cc
distinct_step earlier names m false e k =
    both (not (is_among names m)) (is_distinct names)
    (ap not (none_earlier (m ∷ earlier) names m e (or_first (bytes_eq m m) (is_among earlier m) (same_text m)))) (k e)

distinct_of_repeats : (earlier names : List Text) → repeats earlier names ≡ [] → is_distinct names ≡ true
distinct_of_repeats earlier [] e = refl
distinct_of_repeats earlier (m ∷ names) e = distinct_step earlier names m (is_among earlier m) e (λ (f : repeats (m ∷ earlier) names ≡ []). distinct_of_repeats (m ∷ earlier) names f)

known_step : (known names : List Text) (n : Text) (b : Bool) → cond (not b) (n ∷ unknown known names) (unknown known names) ≡ [] → (unknown known names ≡ [] → list_all (is_among known) names ≡ true)
    → (b && list_all (is_among known) names) ≡ true
known_step known names n true e k = k e
known_step known names n false e k = cc

known_of_unknown : (known names : List Text) → unknown known names ≡ [] → list_all (is_among known) names ≡ true
known_of_unknown known [] e = refl
known_of_unknown known (n ∷ names) e = known_step known names n (is_among known n) e (λ (f : unknown known names ≡ []). known_of_unknown known names f)

-- a logger without faults has a new and valid name, and known appenders
logger_new : (known earlier : List Text) (logger : LoggerSetting) (b v : Bool)
    → cond b (RepeatedLogger logger.name ∷ []) (cond v (map (λ name. UnknownAppender name) (unknown known logger.appenders)) (InvalidLogger logger.name ∷ [])) ≡ []
    → (b ≡ false) × (v ≡ true) × (list_all (is_among known) logger.appenders ≡ true)
logger_new known earlier logger true v e = cc
logger_new known earlier logger false false e = cc
logger_new known earlier logger false true e = (refl, refl, known_of_unknown known logger.appenders (map_none (λ (n : Text). UnknownAppender n) (unknown known logger.appenders) e))

loggers_none : (known earlier : List Text) (loggers : List LoggerSetting) → loggers_faults known earlier loggers ≡ []
    → (repeats earlier (map (λ l. l.name) loggers) ≡ []) × (list_all is_valid (map (λ l. l.name) loggers) ≡ true) × (list_all (λ l. list_all (is_among known) l.appenders) loggers ≡ true)
loggers_none known earlier [] e = (refl, refl, refl)
loggers_none known earlier (logger ∷ loggers) e =
    let rest = loggers_faults known (logger.name ∷ earlier) loggers in
    let (new, valid, all) = logger_new known earlier logger (is_among earlier logger.name) (is_valid logger.name) (first_none (logger_faults known earlier logger) rest e) in
    let (others, valids, alls) = loggers_none known (logger.name ∷ earlier) loggers (second_none (logger_faults known earlier logger) rest e) in (
      (rw new others),
      both (is_valid logger.name) (list_all is_valid (map (λ (l : LoggerSetting). l.name) loggers)) valid valids,
      both (list_all (is_among known) logger.appenders) (list_all (λ l. list_all (is_among known) l.appenders) loggers) all alls,
    )

-- settings without faults are accepted
pub accepted_of_faults : (s : Settings) → faults s ≡ [] → IsAccepted s
accepted_of_faults s e =
    let appenders = map (λ (n : Text). RepeatedAppender n) (repeats [] s.appenders) in
    let root = map (λ (n : Text). UnknownAppender n) (unknown s.appenders s.root.appenders) in
    let loggers = loggers_faults s.appenders [] s.loggers in
    let lists = first_none (appenders ++ root) loggers e in
    let (new, valid, all) = loggers_none s.appenders [] s.loggers (second_none (appenders ++ root) loggers e) in
    record {
      distinct_appenders = distinct_of_repeats [] s.appenders (map_none (λ (n : Text). RepeatedAppender n) (repeats [] s.appenders) (first_none appenders root lists));
      distinct_loggers = distinct_of_repeats [] (logger_names s) new;
      valid_loggers = valid;
      root_known = known_of_unknown s.appenders s.root.appenders (map_none (λ (n : Text). UnknownAppender n) (unknown s.appenders s.root.appenders) (second_none appenders root lists));
      loggers_known = all;
    }

-- the first ones of each name are new
fresh_step : {X : Type 0} (name : X → Text) (earlier : List Text) (x : X) (xs : List X) (n : Text) (b : Bool) → is_among earlier (name x) ≡ b → is_among earlier n ≡ true
    → is_among (map name (firsts name earlier xs)) n ≡ false
    → (is_among (name x ∷ earlier) n ≡ true → is_among (map name (firsts name (name x ∷ earlier) xs)) n ≡ false)
    → is_among (map name (cond b (firsts name earlier xs) (x ∷ firsts name (name x ∷ earlier) xs))) n ≡ false
fresh_step name earlier x xs n true e t h k = h
fresh_step name earlier x xs n false e t h k =
    neither (bytes_eq n (name x)) (is_among (map name (firsts name (name x ∷ earlier) xs)) n) (not_first earlier (name x) n e t) (k (or_second (bytes_eq n (name x)) (is_among earlier n) t))

firsts_fresh : {X : Type 0} (name : X → Text) (earlier : List Text) (xs : List X) (n : Text) → is_among earlier n ≡ true → is_among (map name (firsts name earlier xs)) n ≡ false
firsts_fresh name earlier [] n t = refl
firsts_fresh name earlier (x ∷ xs) n t =
    fresh_step name earlier x xs n (is_among earlier (name x)) refl t (firsts_fresh name earlier xs n t)
    (λ (u : is_among (name x ∷ earlier) n ≡ true). firsts_fresh name (name x ∷ earlier) xs n u)

apart_step : {X : Type 0} (name : X → Text) (earlier : List Text) (x : X) (xs : List X) (b : Bool)
    → is_distinct (map name (firsts name earlier xs)) ≡ true → is_distinct (map name (firsts name (name x ∷ earlier) xs)) ≡ true
    → is_distinct (map name (cond b (firsts name earlier xs) (x ∷ firsts name (name x ∷ earlier) xs))) ≡ true
apart_step name earlier x xs true h k = h
apart_step name earlier x xs false h k =
    both (not (is_among (map name (firsts name (name x ∷ earlier) xs)) (name x))) (is_distinct (map name (firsts name (name x ∷ earlier) xs)))
    (ap not (firsts_fresh name (name x ∷ earlier) xs (name x) (or_first (bytes_eq (name x) (name x)) (is_among earlier (name x)) (same_text (name x))))) k

firsts_distinct : {X : Type 0} (name : X → Text) (earlier : List Text) (xs : List X) → is_distinct (map name (firsts name earlier xs)) ≡ true
firsts_distinct name earlier [] = refl
firsts_distinct name earlier (x ∷ xs) = apart_step name earlier x xs (is_among earlier (name x)) (firsts_distinct name earlier xs) (firsts_distinct name (name x ∷ earlier) xs)

-- what is filtered keeps no name that was not there
absent_step : {X : Type 0} (name : X → Text) (x : X) (kept rest : List X) (n : Text) (b a : Bool) → (a || is_among (map name rest) n) ≡ false → a ≡ bytes_eq n (name x)
    → (is_among (map name rest) n ≡ false → is_among (map name kept) n ≡ false) → is_among (map name (cond b (x ∷ kept) kept)) n ≡ false
absent_step name x kept rest n b true e a k = cc
absent_step name x kept rest n true false e a k = rw (← a) (k e)
absent_step name x kept rest n false false e a k = k e

filter_absent : {X : Type 0} (name : X → Text) (p : X → Bool) (xs : List X) (n : Text) → is_among (map name xs) n ≡ false → is_among (map name (filter p xs)) n ≡ false
filter_absent name p [] n e = refl
filter_absent name p (x ∷ xs) n e =
    absent_step name x (filter p xs) xs n (p x) (bytes_eq n (name x)) e refl (λ (f : is_among (map name xs) n ≡ false). filter_absent name p xs n f)

filter_step : {X : Type 0} (name : X → Text) (x : X) (kept rest : List X) (b a : Bool) → a ≡ is_among (map name rest) (name x) → (not a && is_distinct (map name rest)) ≡ true
    → (is_among (map name rest) (name x) ≡ false → is_among (map name kept) (name x) ≡ false) → (is_distinct (map name rest) ≡ true → is_distinct (map name kept) ≡ true)
    → is_distinct (map name (cond b (x ∷ kept) kept)) ≡ true
filter_step name x kept rest b true a e h k = cc
filter_step name x kept rest true false a e h k = both (not (is_among (map name kept) (name x))) (is_distinct (map name kept)) (ap not (h (sym a))) (k e)
filter_step name x kept rest false false a e h k = k e

filter_distinct : {X : Type 0} (name : X → Text) (p : X → Bool) (xs : List X) → is_distinct (map name xs) ≡ true → is_distinct (map name (filter p xs)) ≡ true
filter_distinct name p [] e = refl
filter_distinct name p (x ∷ xs) e =
    filter_step name x (filter p xs) xs (p x) (is_among (map name xs) (name x)) refl e (λ (f : is_among (map name xs) (name x) ≡ false). filter_absent name p xs (name x) f)
    (λ (f : is_distinct (map name xs) ≡ true). filter_distinct name p xs f)

passing_step : {X : Type 0} (p : X → Bool) (x : X) (xs : List X) (b : Bool) → p x ≡ b → list_all p xs ≡ true → list_all p (cond b (x ∷ xs) xs) ≡ true
passing_step p x xs true e h = both (p x) (list_all p xs) e h
passing_step p x xs false e h = h

filter_passes : {X : Type 0} (p : X → Bool) (xs : List X) → list_all p (filter p xs) ≡ true
filter_passes p [] = refl
filter_passes p (x ∷ xs) = passing_step p x (filter p xs) (p x) refl (filter_passes p xs)

names_kept : (known : List Text) (loggers : List LoggerSetting) → map (λ l. l.name) (map (with_known known) loggers) ≡ map (λ l. l.name) loggers
names_kept known [] = refl
names_kept known (logger ∷ loggers) = ap (λ (ns : List Text). logger.name ∷ ns) (names_kept known loggers)

names_pass : (loggers : List LoggerSetting) → list_all is_valid (map (λ l. l.name) loggers) ≡ list_all (λ l. is_valid l.name) loggers
names_pass [] = refl
names_pass (logger ∷ loggers) = ap (λ (b : Bool). is_valid logger.name && b) (names_pass loggers)

all_known : (known : List Text) (loggers : List LoggerSetting) → list_all (λ l. list_all (is_among known) l.appenders) (map (with_known known) loggers) ≡ true
all_known known [] = refl
all_known known (logger ∷ loggers) =
    both (list_all (is_among known) (filter (is_among known) logger.appenders)) (list_all (λ l. list_all (is_among known) l.appenders) (map (with_known known) loggers))
    (filter_passes (is_among known) logger.appenders) (all_known known loggers)

-- what is kept is accepted
pub accepted_kept : (s : Settings) → IsAccepted (kept s)
accepted_kept s =
    let names = firsts (λ (n : Text). n) [] s.appenders in
    let news = firsts (λ (l : LoggerSetting). l.name) [] s.loggers in
    let valids = filter (λ (l : LoggerSetting). is_valid l.name) news in
    record {
      distinct_appenders = subst (λ (ns : List Text). is_distinct ns ≡ true) (map-id names) (firsts_distinct (λ (n : Text). n) [] s.appenders);
      distinct_loggers = subst (λ (ns : List Text). is_distinct ns ≡ true) (sym (names_kept names valids))
          (filter_distinct (λ (l : LoggerSetting). l.name) (λ (l : LoggerSetting). is_valid l.name) news (firsts_distinct (λ (l : LoggerSetting). l.name) [] s.loggers));
      valid_loggers = subst (λ (ns : List Text). list_all is_valid ns ≡ true) (sym (names_kept names valids))
          (names_pass valids ∙ filter_passes (λ (l : LoggerSetting). is_valid l.name) news);
      root_known = filter_passes (is_among names) s.root.appenders;
      loggers_known = all_known names valids;
    }
