-- The faults of a configuration, one more at a time.
use Rattle.std.proofs.Common.{◌≡◌, ℕ, ◌<◌, ◌+◌, Bool, true, false, cond, ◌||◌, List, [], ◌∷◌, ◌++◌, map, take, length, get_or, refl, sym, ap, ◌∙◌}
use Rattle.std.specs.Str.{bytes_eq}
use Rattle.std.proofs.lemmas.List.{append_assoc, append-nil, map-append, take_more}
use Rattle.std.proofs.lemmas.Slice.Eq.{bytes_eq-Decides}
use Rattle.log4rs_base.specs.Text.{Text}
use Rattle.log4rs_config.specs.declared.runtime.error.ConfigError.{ConfigError}
use Rattle.log4rs_config.specs.Errors.{fault_of, faults_of}
use Rattle.log4rs_config.specs.Settings.{LoggerSetting, is_among}
use Rattle.log4rs_config.proofs.Seen.{next_names, same_unknown, or-swap, or-false}
use Rattle.log4rs_config.specs.Faults.{Fault, RepeatedAppender, UnknownAppender, repeats, unknown, logger_faults, loggers_faults}

-- one fault more
pub faults-push : (errors more : List ConfigError) (error : ConfigError) (fault : Fault) → more ≡ errors ++ error ∷ [] → fault_of error ≡ fault → faults_of more ≡ faults_of errors ++ fault ∷ []
faults-push errors more error fault e f =
    ap faults_of e ∙ map-append fault_of errors (error ∷ []) ∙ ap (λ (x : Fault). faults_of errors ++ x ∷ []) f

-- a name that is an earlier one is among the earlier ones
or_seen : (earlier : List Text) (m n : Text) (b a : Bool) → bytes_eq n m ≡ b → is_among earlier m ≡ true → (is_among earlier n || a) ≡ (is_among earlier n || (b || a))
or_seen earlier m n true a e t =
    let same : n ≡ m = (bytes_eq-Decides n m).0 e in
    let seen : is_among earlier n ≡ true = ap (is_among earlier) same ∙ t in
    rw seen refl
or_seen earlier m n false a e t = refl

repeats_step : (earlier names : List Text) (m n : Text) (b : Bool) → is_among earlier m ≡ b
    → repeats earlier (names ++ n ∷ []) ≡ repeats earlier names ++ cond (is_among earlier n || is_among names n) (n ∷ []) []
    → repeats (m ∷ earlier) (names ++ n ∷ []) ≡ repeats (m ∷ earlier) names ++ cond (is_among (m ∷ earlier) n || is_among names n) (n ∷ []) []
    → cond b (m ∷ repeats earlier (names ++ n ∷ [])) (repeats (m ∷ earlier) (names ++ n ∷ []))
    ≡ cond b (m ∷ repeats earlier names) (repeats (m ∷ earlier) names) ++ cond (is_among earlier n || (bytes_eq n m || is_among names n)) (n ∷ []) []
repeats_step earlier names m n true e h k =
    ap (λ (x : List Text). m ∷ x) h
    ∙ ap (λ (t : Bool). m ∷ repeats earlier names ++ cond t (n ∷ []) []) (or_seen earlier m n (bytes_eq n m) (is_among names n) refl e)
repeats_step earlier names m n false e h k =
    k ∙ ap (λ (t : Bool). repeats (m ∷ earlier) names ++ cond t (n ∷ []) []) (or-swap (bytes_eq n m) (is_among earlier n) (is_among names n))

-- a name more is reported where it stands earlier
repeats-more : (earlier names : List Text) (n : Text) → repeats earlier (names ++ n ∷ []) ≡ repeats earlier names ++ cond (is_among earlier n || is_among names n) (n ∷ []) []
repeats-more earlier [] n = ends (is_among earlier n)
  where
    ends : (b : Bool) → cond b (n ∷ []) [] ≡ cond (b || false) (n ∷ []) []
    ends true = refl
    ends false = refl
repeats-more earlier (m ∷ names) n =
    repeats_step earlier names m n (is_among earlier m) refl (repeats-more earlier names n) (repeats-more (m ∷ earlier) names n)

-- the appenders so far, and one more
pub noted_repeated : {X : Type 0} (name : X → Text) (xs : List X) (i : ℕ) (x : X) (b : Bool) (base old now : List Fault) → i < length xs → x ≡ get_or xs i x
    → is_among (map name (take i xs)) (name x) ≡ b → old ≡ base ++ map (λ n. RepeatedAppender n) (repeats [] (map name (take i xs)))
    → now ≡ old ++ cond b (RepeatedAppender (name x) ∷ []) []
    → now ≡ base ++ map (λ n. RepeatedAppender n) (repeats [] (map name (take (i + 1) xs)))
noted_repeated {X} name xs i x b base old now h e t o n =
    let report = λ (n : Text). RepeatedAppender n in
    let names = map name (take i xs) in
    let more : repeats [] (map name (take (i + 1) xs)) ≡ repeats [] names ++ cond b (name x ∷ []) [] =
    ap (repeats []) (next_names name xs i x h e) ∙ repeats-more [] names (name x) ∙ ap (λ (c : Bool). repeats [] names ++ cond c (name x ∷ []) []) t in
    let pick : (c : Bool) → map report (cond c (name x ∷ []) []) ≡ cond c (report (name x) ∷ []) [] = λ c. elim c as (λ v. map report (cond v (name x ∷ []) []) ≡ cond v (report (name x) ∷ []) []) [ true ↦ refl | false ↦ refl ] in
    n ∙ ap (λ (f : List Fault). f ++ cond b (report (name x) ∷ []) []) o
    ∙ append_assoc base (map report (repeats [] names)) (cond b (report (name x) ∷ []) [])
    ∙ ap (λ (f : List Fault). base ++ (map report (repeats [] names) ++ f)) (sym (pick b))
    ∙ ap (λ (f : List Fault). base ++ f) (sym (map-append report (repeats [] names) (cond b (name x ∷ []) [])))
    ∙ ap (λ (f : List Text). base ++ map report f) (sym more)

-- a logger's faults depend on the earlier names only by whether its own is among them
same_faults : (known xs ys : List Text) (logger : LoggerSetting) → is_among xs logger.name ≡ is_among ys logger.name → logger_faults known xs logger ≡ logger_faults known ys logger
same_faults known xs ys logger e = rw e refl

loggers-more : (known earlier : List Text) (loggers : List LoggerSetting) (logger : LoggerSetting) (names : List Text)
    → is_among names logger.name ≡ (is_among earlier logger.name || is_among (map (λ l. l.name) loggers) logger.name)
    → loggers_faults known earlier (loggers ++ logger ∷ []) ≡ loggers_faults known earlier loggers ++ logger_faults known names logger
loggers-more known earlier [] logger names e =
    append-nil (logger_faults known earlier logger) ∙ same_faults known earlier names logger (sym (e ∙ or-false (is_among earlier logger.name)))
loggers-more known earlier (m ∷ loggers) logger names e =
    ap (λ (f : List Fault). logger_faults known earlier m ++ f) (loggers-more known (m.name ∷ earlier) loggers logger names
    (e ∙ sym (or-swap (bytes_eq logger.name m.name) (is_among earlier logger.name) (is_among (map (λ (l : LoggerSetting). l.name) loggers) logger.name))))
    ∙ sym (append_assoc (logger_faults known earlier m) (loggers_faults known (m.name ∷ earlier) loggers) (logger_faults known names logger))

-- the loggers so far, and one more
pub noted_logger : (known : List Text) (loggers : List LoggerSetting) (i : ℕ) (logger : LoggerSetting) (base old now : List Fault) → i < length loggers → logger ≡ get_or loggers i logger
    → old ≡ base ++ loggers_faults known [] (take i loggers) → now ≡ old ++ logger_faults known (map (λ l. l.name) (take i loggers)) logger
    → now ≡ base ++ loggers_faults known [] (take (i + 1) loggers)
noted_logger known loggers i logger base old now h e o n =
    let names = map (λ (l : LoggerSetting). l.name) (take i loggers) in
    n ∙ ap (λ (f : List Fault). f ++ logger_faults known names logger) o
    ∙ append_assoc base (loggers_faults known [] (take i loggers)) (logger_faults known names logger)
    ∙ ap (λ (f : List Fault). base ++ f) (sym (loggers-more known [] (take i loggers) logger names refl))
    ∙ ap (λ (f : List LoggerSetting). base ++ loggers_faults known [] f) (sym (take_more loggers i logger h ∙ ap (λ (l : LoggerSetting). take i loggers ++ l ∷ []) (sym e)))

-- the faults of the appenders and the root, before those of the loggers
pub noted_lists : (known names wanted root : List Text) (none base told : List Fault) → none ≡ [] → base ≡ none ++ map (λ n. RepeatedAppender n) (repeats [] names)
    → told ≡ base ++ map (λ n. UnknownAppender n) (unknown known wanted) → ((n : Text) → is_among known n ≡ is_among names n) → wanted ≡ root
    → told ≡ (map (λ n. RepeatedAppender n) (repeats [] names) ++ map (λ n. UnknownAppender n) (unknown names root)) ++ []
noted_lists known names wanted root none base told n b t k w =
    let repeated = map (λ (n : Text). RepeatedAppender n) (repeats [] names) in
    t ∙ ap (λ (f : List Fault). f ++ map (λ n. UnknownAppender n) (unknown known wanted)) (b ∙ ap (λ (f : List Fault). f ++ repeated) n)
    ∙ ap (λ (l : List Text). repeated ++ map (λ n. UnknownAppender n) l) (same_unknown known names wanted k ∙ ap (unknown names) w)
    ∙ sym (append-nil (repeated ++ map (λ n. UnknownAppender n) (unknown names root)))
