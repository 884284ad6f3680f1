-- The answer to a record, of its deliveries.
use Rattle.std.proofs.Common.{◌≡◌, ℕ, Bool, false, List, [], ◌∷◌, Vec, Global, refl, map, ap, ◌∙◌, string_bytes}
use Rattle.log.specs.Level.{allows}
use Rattle.log.specs.declared.level.Level.{Level}
use Rattle.log.specs.declared.level.LevelFilter.{LevelFilter}
use Rattle.log4rs_append.specs.Sink.{Sink}
use Rattle.log4rs_base.specs.declared.filter.Response.{Response}
use Rattle.log4rs_base.specs.declared.record.Context.{Context}
use Rattle.log4rs_base.specs.declared.record.Record.{Record}
use Rattle.log4rs_config.specs.Answer.{Delivered, faults}
use Rattle.log4rs_config.specs.Builder.{admits_of, config_admits, config_settings, sinks_of}
use Rattle.log4rs_config.specs.Delivery.{AreMade}
use Rattle.log4rs_config.specs.Destinations.{AppendedAt, Outcome}
use Rattle.log4rs_config.specs.Name.{path_of}
use Rattle.log4rs_config.specs.Routing.{deliveries, let_through, level_at, places_at}
use Rattle.log4rs_config.specs.Settings.{Settings}
use Rattle.log4rs_config.specs.declared.delivery.AppendError.{AppendError}
use Rattle.log4rs_config.specs.declared.runtime.appender.Filtered.{Filtered}
use Rattle.log4rs_config.specs.declared.runtime.config.ConfigOf.{ConfigOf}
use Rattle.log4rs_config.proofs.Deliveries.{seen_by}

-- of no delivery there is no fault
pub nothing_told : (made : List (ℕ × Outcome)) (limit : LevelFilter) (places : List ℕ) (admits : List Bool) (level : Level) → allows limit level ≡ false
    → map (λ d. d.0) made ≡ let_through limit places admits level → faults made ≡ []
nothing_told [] limit places admits level below is = refl
nothing_told (d ∷ made) limit places admits level below is = absurd (cc (rw below at is))

-- an append to one of some appenders
abbrev pub Appended : {A F : Type 0} → (A → Sink) → Record → Context → ℕ → Outcome → Vec (Filtered A F) Global → Vec (Filtered A F) Global → Type 0
Appended sink r c at outcome old new = AppendedAt r c at outcome (sinks_of sink old.items) (sinks_of sink new.items)

module _ {A F : Type 0} (sink : A → Sink) (answer : F → Record → Response) (r : Record) (c : Context) where
  -- deliveries to appenders, by a route that was found, are seen at their sinks
  pub delivered : (s : Settings) (limit : LevelFilter) (places : List ℕ) (made : List (ℕ × Outcome)) (errors : List AppendError) (before after : Vec (Filtered A F) Global)
      → limit ≡ level_at s (path_of (string_bytes r.target)) → places ≡ places_at s (path_of (string_bytes r.target)) → errors ≡ faults made
      → AreMade (Appended sink r c) (let_through limit places (admits_of answer before.items r) r.level) made before after
      → Delivered r c (deliveries s (admits_of answer before.items) r) errors (sinks_of sink before.items) (sinks_of sink after.items)
  delivered s limit places made errors before after l p told are = (
    made,
    record {
      at_places = are.at_places
          ∙ ap (λ (x : LevelFilter). let_through x places (admits_of answer before.items r) r.level) l
          ∙ ap (λ (x : List ℕ). let_through (level_at s (path_of (string_bytes r.target))) x (admits_of answer before.items r) r.level) p;
      delivered = seen_by (λ v. sinks_of sink v.items) (Appended sink r c) (AppendedAt r c) (λ at o old new one. one) made before after are.delivered;
    },
    told,
  )

  -- where a configuration routes as before, each record has the same deliveries
  pub same_deliveries : (old new : ConfigOf A F) (q : Record) → config_settings new ≡ config_settings old → config_admits answer new q ≡ config_admits answer old q
      → deliveries (config_settings new) (config_admits answer new) q ≡ deliveries (config_settings old) (config_admits answer old) q
  same_deliveries old new q settings admits =
      ap (λ (s : Settings). deliveries s (config_admits answer new) q) settings
      ∙ ap (λ (bs : List Bool). let_through (level_at (config_settings old) (path_of (string_bytes q.target))) (places_at (config_settings old) (path_of (string_bytes q.target))) bs q.level) admits
