-- Levels that are set at a name.
use Rattle.std.proofs.Common.{◌≡◌, ◌<◌, Bool, true, false, cond, ◌||◌, List, [], ◌∷◌, ◌++◌, Option, Some, None, map, find, length, refl, sym, ap, ◌∙◌, arith}
use Rattle.std.specs.Prelude.{option_map}
use Rattle.std.specs.List.{list_any}
use Rattle.std.specs.Option.{option_or, option_map_or}
use Rattle.std.specs.Str.{bytes_eq}
use Rattle.std.proofs.lemmas.Slice.Eq.{bytes_eq-Decides}
use Rattle.log.specs.declared.level.LevelFilter.{LevelFilter}
use Rattle.log4rs_base.specs.Text.{Text}
use Rattle.log4rs_config.specs.Name.{path_of}
use Rattle.log4rs_config.specs.Settings.{Settings, LoggerSetting}
use Rattle.log4rs_config.specs.Levels.{leveled, bare_logger, with_level_at, with_level}
use Rattle.log4rs_config.specs.Routing.{is_at, governing, appender_list, places}
use Rattle.log4rs_config.specs.Laws.{LevelIsSet, NameGovernsItself, PlacesStay}
use Rattle.log4rs_config.proofs.Distinct.{path-injective}
use Rattle.log4rs_config.proofs.Governing.{path-long}
use Rattle.log4rs_config.proofs.Walks.{is_at-Decides, find-passes}

-- a logger with another level, if the test says so
abbrev told : Bool → LevelFilter → LoggerSetting → LoggerSetting
told b level l = cond b (record l { level = level }) l

told-name : (b : Bool) (level : LevelFilter) (l : LoggerSetting) → (told b level l).name ≡ l.name
told-name true level l = refl
told-name false level l = refl

told-level : (b : Bool) (level : LevelFilter) (l : LoggerSetting) → (told b level l).level ≡ cond b level l.level
told-level true level l = refl
told-level false level l = refl

leveled-name : (name : Text) (level : LevelFilter) (l : LoggerSetting) → (leveled name level l).name ≡ l.name
leveled-name name level l = told-name (bytes_eq l.name name) level l

leveled-at : (path : List Text) (name : Text) (level : LevelFilter) (l : LoggerSetting) → is_at path (leveled name level l) ≡ is_at path l
leveled-at path name level l = ap (λ (n : Text). is_at path (record l { name = n })) (leveled-name name level l)

found_or : {X : Type 0} (f : X → X) (x : X) (o r : Option X) (b : Bool)
    → cond b (Some (f x)) (option_or (option_map f o) r) ≡ option_or (option_map f (cond b (Some x) o)) r
found_or f x o r true = refl
found_or f x o r false = refl

-- what is found among what a function made that the test does not tell from what it was made of
find-made : {X : Type 0} (p : X → Bool) (f : X → X) → ((x : X) → p (f x) ≡ p x) → (xs more : List X)
    → find p (map f xs ++ more) ≡ option_or (option_map f (find p xs)) (find p more)
find-made p f h [] more = refl
find-made {X} p f h (x ∷ xs) more =
    ap (λ (b : Bool). cond b (Some (f x)) (find p (map f xs ++ more))) (h x)
    ∙ (ap (λ (r : Option X). cond (p x) (Some (f x)) r) (find-made p f h xs more)
    ∙ found_or f x (find p xs) (find p more) (p x))

-- the logger that comes in where there is none of the name
abbrev added : Bool → Text → LevelFilter → List LoggerSetting
added b name level = cond b [] (bare_logger name level ∷ [])

abbrev has_name : Text → List LoggerSetting → Bool
has_name name loggers = list_any (λ (l : LoggerSetting). bytes_eq l.name name) loggers

find-leveled : (loggers : List LoggerSetting) (name : Text) (level : LevelFilter) (path : List Text)
    → find (is_at path) (with_level_at loggers name level)
    ≡ option_or (option_map (leveled name level) (find (is_at path) loggers)) (find (is_at path) (added (has_name name loggers) name level))
find-leveled loggers name level path =
    find-made (is_at path) (leveled name level) (λ l. leveled-at path name level l) loggers (added (has_name name loggers) name level)

-- none, or the logger that comes in
data Comes (name : Text) (level : LevelFilter) : Option LoggerSetting → Type 0 where
  no_one : Comes name level None
  bare : Comes name level (Some (bare_logger name level))

comes_if : (name : Text) (level : LevelFilter) (b : Bool) → Comes name level (cond b (Some (bare_logger name level)) None)
comes_if name level true = bare
comes_if name level false = no_one

comes : (b : Bool) (name : Text) (level : LevelFilter) (path : List Text) → Comes name level (find (is_at path) (added b name level))
comes true name level path = no_one
comes false name level path = comes_if name level (is_at path (bare_logger name level))

itself : (name : Text) → bytes_eq name name ≡ true
itself name = (bytes_eq-Decides name name).1 refl

abbrev level_of : LevelFilter → Option LoggerSetting → LevelFilter
level_of root o = option_map_or (λ (l : LoggerSetting). l.level) o root

abbrev is_of : Text → Option LoggerSetting → Bool
is_of name o = option_map_or (λ (l : LoggerSetting). bytes_eq l.name name) o false

level-step : (name : Text) (level root : LevelFilter) (found more old now : Option LoggerSetting) → Comes name level more
    → level_of root now ≡ cond (is_of name now) level (level_of root old)
    → level_of root (option_or (option_or (option_map (leveled name level) found) more) now)
    ≡ cond (is_of name (option_or (option_or (option_map (leveled name level) found) more) now)) level (level_of root (option_or found old))
level-step name level root (Some l) more old now c h =
    told-level (bytes_eq l.name name) level l
    ∙ ap (λ (n : Text). cond (bytes_eq n name) level l.level) (sym (leveled-name name level l))
level-step name level root None _ old now bare h = ap (λ (b : Bool). cond b level (level_of root old)) (sym (itself name))
level-step name level root None _ old now no_one h = h

level-set : (loggers : List LoggerSetting) (root level : LevelFilter) (name : Text) (path : List Text)
    → level_of root (governing (with_level_at loggers name level) path)
    ≡ cond (is_of name (governing (with_level_at loggers name level) path)) level (level_of root (governing loggers path))
level-set loggers root level name [] = refl
level-set loggers root level name (part ∷ above) =
    let now = governing (with_level_at loggers name level) above in
    let old = governing loggers above in
    let found = find (is_at (part ∷ above)) loggers in
    let more = find (is_at (part ∷ above)) (added (has_name name loggers) name level) in
    rw (find-leveled loggers name level (part ∷ above))
    (level-step name level root found more old now (comes (has_name name loggers) name level (part ∷ above)) (level-set loggers root level name above))

pub level-is_set : LevelIsSet
level-is_set s name level path = level-set s.loggers s.root.level level name path

abbrev list_of : List Text → LoggerSetting → List Text
list_of above l = l.appenders ++ cond l.additive above []

told-list : (b : Bool) (level : LevelFilter) (above : List Text) (l : LoggerSetting) → list_of above (told b level l) ≡ list_of above l
told-list true level above l = refl
told-list false level above l = refl

list-step : (name : Text) (level : LevelFilter) (above : List Text) (found more : Option LoggerSetting) → Comes name level more
    → option_map_or (list_of above) (option_or (option_map (leveled name level) found) more) above ≡ option_map_or (list_of above) found above
list-step name level above (Some l) more c = told-list (bytes_eq l.name name) level above l
list-step name level above None _ bare = refl
list-step name level above None _ no_one = refl

list-stays : (s : Settings) (name : Text) (level : LevelFilter) (path : List Text) → appender_list (with_level s name level) path ≡ appender_list s path
list-stays s name level [] = refl
list-stays s name level (part ∷ above) =
    let found = find (is_at (part ∷ above)) s.loggers in
    let more = find (is_at (part ∷ above)) (added (has_name name s.loggers) name level) in
    rw (find-leveled s.loggers name level (part ∷ above), list-stays s name level above)
    (list-step name level (appender_list s above) found more (comes (has_name name s.loggers) name level (part ∷ above)))

pub places-stay : PlacesStay
places-stay s name level path = ap (places s.appenders) (list-stays s name level path)

any_step : {X : Type 0} (x : X) (b c a : Bool) (r : Option X) → (b ≡ true → c ≡ true) → cond c (Some x) r ≡ None → (r ≡ None → a ≡ false) → (b || a) ≡ false
any_step x true true a r h e k = cc
any_step x true false a r h e k = let t = h refl in cc
any_step x false true a r h e k = cc
any_step x false false a r h e k = k e

-- where nothing is found, none passes a stronger test
none-any : {X : Type 0} (p q : X → Bool) (xs : List X) → ((x : X) → p x ≡ true → q x ≡ true) → find q xs ≡ None → list_any p xs ≡ false
none-any p q [] h e = refl
none-any p q (x ∷ xs) h e = any_step x (p x) (q x) (list_any p xs) (find q xs) (h x) e (λ (f : find q xs ≡ None). none-any p q xs h f)

named-at : (name : Text) (l : LoggerSetting) → bytes_eq l.name name ≡ true → is_at (path_of name) l ≡ true
named-at name l e = (is_at-Decides (path_of name) l).1 (ap path_of ((bytes_eq-Decides l.name name).0 e))

at-named : (name : Text) (l : LoggerSetting) → is_at (path_of name) l ≡ true → bytes_eq l.name name ≡ true
at-named name l e = (bytes_eq-Decides l.name name).1 (path-injective l.name name ((is_at-Decides (path_of name) l).0 e))

itself-step : (loggers : List LoggerSetting) (name : Text) (level : LevelFilter) (found : Option LoggerSetting) (now : Option LoggerSetting) → find (is_at (path_of name)) loggers ≡ found
    → is_of name (option_or (option_or (option_map (leveled name level) found) (find (is_at (path_of name)) (added (has_name name loggers) name level))) now) ≡ true
itself-step loggers name level (Some l) now e =
    ap (λ (n : Text). bytes_eq n name) (leveled-name name level l) ∙ at-named name l (find-passes (is_at (path_of name)) loggers l e)
itself-step loggers name level None now e =
    rw (none-any (λ (l : LoggerSetting). bytes_eq l.name name) (is_at (path_of name)) loggers (λ l t. named-at name l t) e, named-at name (bare_logger name level) (itself name))
    (itself name)

itself-at : (loggers : List LoggerSetting) (name : Text) (level : LevelFilter) (path : List Text) → path_of name ≡ path → 0 < length path
    → is_of name (governing (with_level_at loggers name level) path) ≡ true
itself-at loggers name level [] e h = absurd (omega arith)
itself-at loggers name level (part ∷ above) e h =
    rw (find-leveled loggers name level (part ∷ above), sym e)
    (itself-step loggers name level (find (is_at (path_of name)) loggers) (governing (with_level_at loggers name level) above) refl)

pub name-governs_itself : NameGovernsItself
name-governs_itself s name level = itself-at s.loggers name level (path_of name) refl (path-long name)
