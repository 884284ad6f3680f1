-- Two entries.
use Rattle.std.proofs.Common.{◌≡◌, List, [], ◌∷◌, ◌++◌, Bool, true, string_bytes, refl, ap, subst, ◌∙◌, arith}
use Rattle.std.specs.Prelude.{codes, map}
use Rattle.log.specs.declared.level.Level.TheVariants.{Info, Warn}
use Rattle.log4rs_base.specs.declared.record.Record.{Record}
use Rattle.log4rs_base.specs.declared.record.Context.{Context}
use Rattle.log4rs_base.specs.declared.record.Entry.{Entry}
use Rattle.log4rs_append.specs.Sink.{Sink, Items, Bytes}
use Rattle.log4rs_config.specs.Routing.{Deliveries, deliveries}
use Rattle.log4rs_config.specs.Received.{HaveReceived}
use Rattle.log4rs_base.specs.Filtering.{passes}
use Rattle.log4rs_base.specs.declared.filter.Response.{Response}
use Rattle.log4rs_config.specs.Appender.{name_of, filters_of, appender_of}
use Rattle.log4rs_config.specs.Settings.{Settings, RootSetting, LoggerSetting, settings_of}
use Rattle.log4rs_config.specs.declared.runtime.appender.Filtered.{Filtered}
use Rattle.guide.specs.Line.{line_text}
use Rattle.guide.specs.Two.{reading, two_settings, empty_memory, empty_console, empty_sinks, HoldTwo, app_root, app_logger}

pub deliver_first : (admits : Record → List Bool) (r : Record) → admits r ≡ true ∷ true ∷ [] → string_bytes r.target ≡ codes "app" → r.level ≡ Info
    → deliveries two_settings admits r ≡ 0 ∷ []
deliver_first admits r a t l = rw (a, t, l) refl

pub deliver_second : (admits : Record → List Bool) (r : Record) → admits r ≡ true ∷ true ∷ [] → string_bytes r.target ≡ codes "app::x" → r.level ≡ Warn
    → deliveries two_settings admits r ≡ 1 ∷ 0 ∷ []
deliver_second admits r a t l = rw (a, t, l) refl

pub first_line : (r : Record) → r.level ≡ Info → string_bytes r.target ≡ codes "app" → string_bytes r.message ≡ codes "hello" → line_text r ≡ codes "INFO app - hello\n"
first_line r l t m = rw (l, t, m) refl

pub second_line : (r : Record) → r.level ≡ Warn → string_bytes r.target ≡ codes "app::x" → string_bytes r.message ≡ codes "world" → line_text r ≡ codes "WARN app::x - world\n"
second_line r l t m = rw (l, t, m) refl

pub two : (D : Deliveries) (a b : Entry) → D a.logged ≡ 0 ∷ [] → D b.logged ≡ 1 ∷ 0 ∷ []
    → reading a.logged a.context ≡ codes "INFO app - hello\n" → reading b.logged b.context ≡ codes "WARN app::x - world\n"
    → (after : List Sink) → HaveReceived D (a ∷ b ∷ []) empty_sinks after → HoldTwo after
two D a b da db ta tb after h =
    record {
      memory = h.received 0 (omega arith) ∙ ap (Items reading) (rw (da, db, ta, tb) refl);
      console = h.received 1 (omega arith) ∙ ap (Bytes reading) (rw (da, db, tb) refl);
    }

pub given_two : {X : Type 0} (all two one none : List X) (x y : X) → all ≡ two → two ≡ one ++ y ∷ [] → one ≡ none ++ x ∷ [] → none ≡ [] → all ≡ x ∷ y ∷ []
given_two all two one none x y e f g h = e ∙ f ∙ ap (λ l. l ++ y ∷ []) (g ∙ ap (λ l. l ++ x ∷ []) h)

pub one_logger : (all none : List LoggerSetting) (x : LoggerSetting) → all ≡ none ++ x ∷ [] → none ≡ [] → x ≡ app_logger → all ≡ app_logger ∷ []
one_logger all none x e f g = e ∙ ap (λ l. l ++ x ∷ []) f ∙ ap (λ l. l ∷ []) g

pub two_set : {A F : Type 0} (xs : List (Filtered A F)) (x y : Filtered A F) (root : RootSetting) (ls : List LoggerSetting)
    → xs ≡ x ∷ y ∷ [] → name_of x ≡ codes "memory" → name_of y ≡ codes "console" → root ≡ app_root → ls ≡ app_logger ∷ []
    → settings_of (map (λ a. name_of a) xs) root ls ≡ two_settings
two_set xs x y root ls e n m r l =
    ap (λ zs. settings_of (map (λ a. name_of a) zs) root ls) e
    ∙ ap (λ w. settings_of (w ∷ name_of y ∷ []) root ls) n
    ∙ ap (λ w. settings_of (codes "memory" ∷ w ∷ []) root ls) m
    ∙ ap (λ w. settings_of (codes "memory" ∷ codes "console" ∷ []) w ls) r
    ∙ ap (λ w. settings_of (codes "memory" ∷ codes "console" ∷ []) app_root w) l

pub sinks_two : {A F : Type 0} (sink : A → Sink) (xs : List (Filtered A F)) (x y : Filtered A F) (a b : A)
    → xs ≡ x ∷ y ∷ [] → appender_of x ≡ a → appender_of y ≡ b → sink a ≡ empty_memory → sink b ≡ empty_console
    → map (λ z. sink (appender_of z)) xs ≡ empty_sinks
sinks_two sink xs x y a b e f g h k =
    ap (λ zs. map (λ z. sink (appender_of z)) zs) e
    ∙ ap (λ w. sink w ∷ sink (appender_of y) ∷ []) f
    ∙ ap (λ w. sink a ∷ sink w ∷ []) g
    ∙ ap (λ w. w ∷ sink b ∷ []) h
    ∙ ap (λ w. empty_memory ∷ w ∷ []) k

pub whole : (s : Settings) (admits : Record → List Bool) (before after : List Sink) (a b : Entry)
    → s ≡ two_settings → ((r : Record) → admits r ≡ true ∷ true ∷ []) → before ≡ empty_sinks
    → a.logged.level ≡ Info → string_bytes a.logged.target ≡ codes "app" → string_bytes a.logged.message ≡ codes "hello"
    → b.logged.level ≡ Warn → string_bytes b.logged.target ≡ codes "app::x" → string_bytes b.logged.message ≡ codes "world"
    → ((r : Record) (c : Context) → reading r c ≡ line_text r)
    → HaveReceived (deliveries s admits) (a ∷ b ∷ []) before after → HoldTwo after
whole s admits before after a b e ad f la ta ma lb tb mb lines h =
    two (deliveries two_settings admits) a b (deliver_first admits a.logged (ad a.logged) ta la) (deliver_second admits b.logged (ad b.logged) tb lb)
    (lines a.logged a.context ∙ first_line a.logged la ta ma) (lines b.logged b.context ∙ second_line b.logged lb tb mb) after
    (subst (λ x. HaveReceived (deliveries two_settings admits) (a ∷ b ∷ []) x after) f
    (subst (λ x. HaveReceived (deliveries x admits) (a ∷ b ∷ []) before after) e h))
