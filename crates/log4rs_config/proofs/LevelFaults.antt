-- An accepted configuration has no faults, and another level at a name adds none but for a name that no logger may have.
use Rattle.std.proofs.Common.{◌≡◌, Bool, true, false, cond, not, ◌&&◌, ◌||◌, List, [], ◌∷◌, ◌++◌, map, refl, sym, ap, ◌∙◌}
use Rattle.std.specs.List.{list_any, list_all}
use Rattle.std.specs.Str.{bytes_eq}
use Rattle.std.proofs.lemmas.Bool.{and_parts}
use Rattle.std.proofs.lemmas.List.{map-id, append-nil}
use Rattle.std.proofs.lemmas.Slice.Eq.{bytes_eq-Decides}
use Rattle.log.specs.declared.level.LevelFilter.{LevelFilter}
use Rattle.log4rs_base.specs.Text.{Text}
use Rattle.log4rs_config.specs.Name.{is_valid}
use Rattle.log4rs_config.specs.Settings.{Settings, LoggerSetting, IsAccepted, is_among, is_distinct, logger_names}
use Rattle.log4rs_config.specs.Faults.{Fault, RepeatedAppender, UnknownAppender, InvalidLogger, repeats, unknown, logger_faults, loggers_faults, faults}
use Rattle.log4rs_config.specs.Levels.{leveled, bare_logger}
use Rattle.log4rs_config.specs.Laws.{Faultless, LevelFaults}

not-of_true : (b : Bool) → not b ≡ true → b ≡ false
not-of_true true e = sym e
not-of_true false e = refl

same-either_way : (a b : Text) (t : Bool) → bytes_eq a b ≡ t → bytes_eq b a ≡ t
same-either_way a b true e = (bytes_eq-Decides b a).1 (sym ((bytes_eq-Decides a b).0 e))
same-either_way a b false e = turned (bytes_eq b a) refl e where
  turned : (u : Bool) → bytes_eq b a ≡ u → bytes_eq a b ≡ false → u ≡ false
  turned true f n = sym ((bytes_eq-Decides a b).1 (sym ((bytes_eq-Decides b a).0 f))) ∙ n
  turned false f n = refl

known_step : (n : Text) (b rest : Bool) (more : List Text) → (b && rest) ≡ true → (rest ≡ true → more ≡ []) → cond (not b) (n ∷ more) more ≡ []
known_step n true rest more e k = k e
known_step n false rest more e k = cc

none_unknown : (known names : List Text) → list_all (is_among known) names ≡ true → unknown known names ≡ []
none_unknown known [] e = refl
none_unknown known (n ∷ names) e =
    known_step n (is_among known n) (list_all (is_among known) names) (unknown known names) e (λ (f : list_all (is_among known) names ≡ true). none_unknown known names f)

-- no name of these is among the earlier ones
abbrev are_new : List Text → List Text → Bool
are_new earlier names = list_all (λ (n : Text). not (is_among earlier n)) names

new_step : (a b c d e : Bool) → (not a && d) ≡ true → (b || c) ≡ false → (c ≡ false → d ≡ true → e ≡ true) → (not (b || a) && e) ≡ true
new_step true b c d e p q k = cc
new_step false true c d e p q k = cc
new_step false false c d e p q k = k q p

newer : (earlier names : List Text) (m : Text) → are_new earlier names ≡ true → is_among names m ≡ false → are_new (m ∷ earlier) names ≡ true
newer earlier [] m p q = refl
newer earlier (n ∷ names) m p q =
    new_step (is_among earlier n) (bytes_eq n m) (is_among names m) (are_new earlier names) (are_new (m ∷ earlier) names) p
    (ap (λ (b : Bool). b || is_among names m) (same-either_way m n (bytes_eq m n) refl) ∙ q)
    (λ (f : is_among names m ≡ false) (t : are_new earlier names ≡ true). newer earlier names m t f)

none_repeats : (earlier names : List Text) → are_new earlier names ≡ true → is_distinct names ≡ true → repeats earlier names ≡ []
none_repeats earlier [] p d = refl
none_repeats earlier (n ∷ names) p d =
    let (new, news) = and_parts (not (is_among earlier n)) (are_new earlier names) p in
    let (apart, rest) = and_parts (not (is_among names n)) (is_distinct names) d in
    rw (not-of_true (is_among earlier n) new)
    (none_repeats (n ∷ earlier) names (newer earlier names n news (not-of_true (is_among names n) apart)) rest)

all_new : (names : List Text) → are_new [] names ≡ true
all_new [] = refl
all_new (n ∷ names) = all_new names

-- the names of loggers, the last one first, in front of the earlier ones
abbrev seen : List Text → List LoggerSetting → List Text
seen earlier [] = earlier
seen earlier (l ∷ loggers) = seen (l.name ∷ earlier) loggers

leveled-faults : (known earlier : List Text) (level : LevelFilter) (l : LoggerSetting) (b : Bool)
    → logger_faults known earlier (cond b (record l { level = level }) l) ≡ logger_faults known earlier l
leveled-faults known earlier level l true = refl
leveled-faults known earlier level l false = refl

leveled-name : (level : LevelFilter) (l : LoggerSetting) (b : Bool) → (cond b (record l { level = level }) l).name ≡ l.name
leveled-name level l true = refl
leveled-name level l false = refl

faultless : (known earlier : List Text) (l : LoggerSetting) → is_among earlier l.name ≡ false → is_valid l.name ≡ true → list_all (is_among known) l.appenders ≡ true
    → logger_faults known earlier l ≡ []
faultless known earlier l new valid known_all = rw (new, valid, none_unknown known l.appenders known_all) refl

-- loggers without faults add none to those of what comes behind them
through : (known earlier : List Text) (made : LoggerSetting → LoggerSetting) (loggers more : List LoggerSetting)
    → ((e : List Text) (l : LoggerSetting) → logger_faults known e (made l) ≡ logger_faults known e l) → ((l : LoggerSetting) → (made l).name ≡ l.name)
    → are_new earlier (map (λ l. l.name) loggers) ≡ true → is_distinct (map (λ l. l.name) loggers) ≡ true → list_all is_valid (map (λ l. l.name) loggers) ≡ true
    → list_all (λ l. list_all (is_among known) l.appenders) loggers ≡ true
    → loggers_faults known earlier (map made loggers ++ more) ≡ loggers_faults known (seen earlier loggers) more
through known earlier made [] more f n new apart valid all = refl
through known earlier made (l ∷ loggers) more f n new apart valid all =
    let names = map (λ (x : LoggerSetting). x.name) loggers in
    let (new0, news) = and_parts (not (is_among earlier l.name)) (are_new earlier names) new in
    let (apart0, aparts) = and_parts (not (is_among names l.name)) (is_distinct names) apart in
    let (valid0, valids) = and_parts (is_valid l.name) (list_all is_valid names) valid in
    let (all0, alls) = and_parts (list_all (is_among known) l.appenders) (list_all (λ (x : LoggerSetting). list_all (is_among known) x.appenders) loggers) all in
    let own : logger_faults known earlier (made l) ≡ [] = f earlier l ∙ faultless known earlier l (not-of_true (is_among earlier l.name) new0) valid0 all0 in
    ap (λ (fs : List Fault). fs ++ loggers_faults known ((made l).name ∷ earlier) (map made loggers ++ more)) own
    ∙ (ap (λ (t : Text). loggers_faults known (t ∷ earlier) (map made loggers ++ more)) (n l)
    ∙ through known (l.name ∷ earlier) made loggers more f n (newer earlier names l.name news (not-of_true (is_among names l.name) apart0)) aparts valids alls)

lists_faultless : (s : Settings) → IsAccepted s
    → (map (λ name. RepeatedAppender name) (repeats [] s.appenders) ≡ []) × (map (λ name. UnknownAppender name) (unknown s.appenders s.root.appenders) ≡ [])
lists_faultless s ok = (
  ap (map (λ (n : Text). RepeatedAppender n)) (none_repeats [] s.appenders (all_new s.appenders) ok.distinct_appenders),
  ap (map (λ (n : Text). UnknownAppender n)) (none_unknown s.appenders s.root.appenders ok.root_known),
)

through_all : (s : Settings) (made : LoggerSetting → LoggerSetting) (more : List LoggerSetting) → IsAccepted s
    → ((e : List Text) (l : LoggerSetting) → logger_faults s.appenders e (made l) ≡ logger_faults s.appenders e l) → ((l : LoggerSetting) → (made l).name ≡ l.name)
    → faults (record s { loggers = map made s.loggers ++ more }) ≡ loggers_faults s.appenders (seen [] s.loggers) more
through_all s made more ok f n =
    let (repeated, strange) = lists_faultless s ok in
    rw (repeated, strange) (through s.appenders [] made s.loggers more f n (all_new (logger_names s)) ok.distinct_loggers ok.valid_loggers ok.loggers_known)

pub faultless_where_accepted : Faultless
faultless_where_accepted s ok =
    ap (λ (ls : List LoggerSetting). faults (record s { loggers = ls })) (sym (append-nil (map (λ (l : LoggerSetting). l) s.loggers) ∙ map-id s.loggers))
    ∙ through_all s (λ l. l) [] ok (λ e l. refl) (λ l. refl)

-- a name that no logger has is not seen
not_seen : (earlier : List Text) (loggers : List LoggerSetting) (name : Text) → is_among earlier name ≡ false → list_any (λ l. bytes_eq l.name name) loggers ≡ false
    → is_among (seen earlier loggers) name ≡ false
not_seen earlier [] name p q = p
not_seen earlier (l ∷ loggers) name p q =
    let (other, others) = neither (bytes_eq l.name name) (list_any (λ (x : LoggerSetting). bytes_eq x.name name) loggers) q in
    not_seen (l.name ∷ earlier) loggers name (ap (λ (b : Bool). b || is_among earlier name) (same-either_way l.name name false other) ∙ p) others where
      neither : (a b : Bool) → (a || b) ≡ false → (a ≡ false) × (b ≡ false)
      neither true b e = cc
      neither false b e = (refl, e)

valid_step : (a b c v : Bool) → (a || b) ≡ true → (a ≡ true → v ≡ c) → (v && b) ≡ (v && b) → (b ≡ true → c ≡ true) → v ≡ true → c ≡ true
valid_step true b c v e same r k t = sym (same refl) ∙ t
valid_step false b c v e same r k t = k e

-- the name of a logger of an accepted configuration is one that a logger may have
valid_where_named : (loggers : List LoggerSetting) (name : Text) → list_all is_valid (map (λ l. l.name) loggers) ≡ true → list_any (λ l. bytes_eq l.name name) loggers ≡ true
    → is_valid name ≡ true
valid_where_named [] name v e = cc
valid_where_named (l ∷ loggers) name v e =
    let names = map (λ (x : LoggerSetting). x.name) loggers in
    let (valid, valids) = and_parts (is_valid l.name) (list_all is_valid names) v in
    valid_step (bytes_eq l.name name) (list_any (λ (x : LoggerSetting). bytes_eq x.name name) loggers) (is_valid name) (is_valid l.name) e
    (λ (t : bytes_eq l.name name ≡ true). ap is_valid ((bytes_eq-Decides l.name name).0 t)) refl
    (λ (f : list_any (λ (x : LoggerSetting). bytes_eq x.name name) loggers ≡ true). valid_where_named loggers name valids f) valid

abbrev invalid_name : Text → Bool → List Fault
invalid_name name valid = cond valid [] (InvalidLogger name ∷ [])

bare-faults : (known earlier : List Text) (name : Text) (level : LevelFilter) (b : Bool) → is_among earlier name ≡ false → is_valid name ≡ b
    → loggers_faults known earlier (bare_logger name level ∷ []) ≡ invalid_name name b
bare-faults known earlier name level true new v = rw (new, v) refl
bare-faults known earlier name level false new v = rw (new, v) refl

added-faults : (s : Settings) (name : Text) (level : LevelFilter) (b : Bool) → IsAccepted s → list_any (λ l. bytes_eq l.name name) s.loggers ≡ b
    → loggers_faults s.appenders (seen [] s.loggers) (cond b [] (bare_logger name level ∷ [])) ≡ invalid_name name (is_valid name)
added-faults s name level true ok e = sym (ap (invalid_name name) (valid_where_named s.loggers name ok.valid_loggers e))
added-faults s name level false ok e = bare-faults s.appenders (seen [] s.loggers) name level (is_valid name) (not_seen [] s.loggers name refl e) refl

pub level-faults : LevelFaults
level-faults s name level ok =
    through_all s (leveled name level) (cond (list_any (λ (l : LoggerSetting). bytes_eq l.name name) s.loggers) [] (bare_logger name level ∷ [])) ok
    (λ e l. leveled-faults s.appenders e level l (bytes_eq l.name name)) (λ l. leveled-name level l (bytes_eq l.name name))
    ∙ added-faults s name level (list_any (λ (l : LoggerSetting). bytes_eq l.name name) s.loggers) ok refl
