-- The configuration of a shape.
use Rattle.std.proofs.Common.{◌≡◌, ◌∙◌, ℕ, Bool, List, [], ◌∷◌, ◌++◌, refl, sym, ap, subst, map}
use Rattle.std.proofs.lemmas.List.{map-append}
use Rattle.std.proofs.lemmas.Option.{none-some}
use Rattle.std.specs.Prelude.{Option, Some, string_bytes, slice_get, option_map}
use Rattle.std.specs.Str.{chars}
use Rattle.log4rs_append.specs.declared.memory.MemoryAppender.{MemoryAppender}
use Rattle.log4rs_base.specs.Text.{Text}
use Rattle.log4rs_base.specs.declared.filter.ThresholdFilter.{ThresholdFilter}
use Rattle.log4rs_base.specs.declared.record.Record.{Record}
use Rattle.log4rs_base.specs.declared.record.Context.{Context}
use Rattle.log4rs_encode.specs.Runs.{Run}
use Rattle.log4rs_append.specs.Sink.{Sink, Texts, items_sink, items_of, plain_reading}
use Rattle.log4rs_config.specs.Appender.{appender_of}
use Rattle.log4rs_config.specs.Builder.{appenders_of, config_sinks}
use Rattle.log4rs_config.specs.declared.runtime.appender.Filtered.{Filtered}
use Rattle.log4rs_config.specs.declared.runtime.config.ConfigOf.{ConfigOf}
use Rattle.log4rs_config.specs.Routing.{deliveries}
use Rattle.log4rs_config.specs.Settings.{Settings}
use Rattle.log4rs_encode.specs.declared.pattern.PatternEncoder.{PatternEncoder}
use Rattle.log4rs_encode.specs.Rendering.{Renders}
use Rattle.log4rs_encode.specs.Spelling.{IsPattern}
use Rattle.log4rs_threads.specs.Shapes.{settings_in, admits_in, deliveries_in}
use Rattle.log4rs_threads.specs.Held.{Holds, AreEmpty, all_texts, memory_sink, items_in}
use Rattle.log4rs_threads.specs.declared.schedule.shape.Shape.{Shape}
use Rattle.log4rs_threads.specs.declared.schedule.shape.ShapeAppender.{ShapeAppender}
use Rattle.log4rs_threads.proofs.ListFacts.{both_more, slice_get-map}

-- an appender in memory behind thresholds
abbrev pub BuiltAppender : Type 0
BuiltAppender = Filtered (MemoryAppender PatternEncoder) ThresholdFilter

-- a sink that holds nothing yet
pub holds_nothing : (a : ShapeAppender) (pattern : Text) (told : Option (Record → Context → List Run)) (sink : Sink) → pattern ≡ string_bytes a.pattern → Renders (chars pattern) told → sink ≡ items_sink told []
    → Holds (Some a) [] (Some sink.texts)
holds_nothing a pattern told sink of renders is = (
  renders.pieces,
  subst (λ (t : Text). IsPattern (chars t) renders.pieces) of renders.spelled,
  ap (λ (s : Sink). Some s.texts) is ∙ ap (λ (t : Option (Record → Context → List Run)). Some (items_of (plain_reading t) [])) renders.renders,
)

-- the deliveries by equal settings and filters are the same
pub delivered : (s : Settings) (admits : Record → List Bool) (shape : Shape) (r : Record) → s ≡ settings_in shape → admits r ≡ admits_in shape r → deliveries s admits r ≡ deliveries_in shape r
delivered s admits shape r same passes = subst (λ (t : Settings). deliveries s admits r ≡ deliveries t (admits_in shape) r) same (rw passes refl)

-- one sink more that holds nothing
pub empty_more : (given : List ShapeAppender) (ts : List Texts) (a : ShapeAppender) (t : Texts) → AreEmpty given ts → Holds (Some a) [] (Some t) → AreEmpty (given ++ a ∷ []) (ts ++ t ∷ [])
empty_more given ts a t all last =
    both_more (λ a t. Holds a [] t) (λ a h. none-some _ h.2) (λ t h. none-some t (sym h)) refl given ts a t all last

-- one appender more whose sink holds nothing
pub one_more : (given : List ShapeAppender) (made : List BuiltAppender) (a : ShapeAppender) (m : BuiltAppender) → AreEmpty given (all_texts (map (λ k. memory_sink (appender_of k)) made)) → Holds (Some a) [] (Some (memory_sink (appender_of m)).texts)
    → AreEmpty (given ++ a ∷ []) (all_texts (map (λ k. memory_sink (appender_of k)) (made ++ m ∷ [])))
one_more given made a m all last =
    let sink : BuiltAppender → Sink = λ k. memory_sink (appender_of k) in
    let more : all_texts (map sink (made ++ m ∷ [])) ≡ all_texts (map sink made) ++ (sink m).texts ∷ [] =
    ap all_texts (map-append sink made (m ∷ [])) ∙ map-append (λ (s : Sink). s.texts) (map sink made) (sink m ∷ []) in
    subst (AreEmpty (given ++ a ∷ [])) (sym more) (empty_more given (all_texts (map sink made)) a (sink m).texts all last)

-- the configuration of appenders whose sinks hold nothing
pub empty_in : (given : List ShapeAppender) (made : List BuiltAppender) (config : ConfigOf (MemoryAppender PatternEncoder) ThresholdFilter) → appenders_of config ≡ made
    → AreEmpty given (all_texts (map (λ k. memory_sink (appender_of k)) made)) → AreEmpty given (all_texts (config_sinks memory_sink config))
empty_in given made config is all = subst (λ (ks : List BuiltAppender). AreEmpty given (all_texts (map (λ k. memory_sink (appender_of k)) ks))) (sym is) all

-- the items in the sink at a place
pub items_are : (config : ConfigOf (MemoryAppender PatternEncoder) ThresholdFilter) (place : ℕ) (k : BuiltAppender) (items : List Text) → slice_get (appenders_of config) place ≡ Some k → items ≡ items_in (memory_sink (appender_of k)).texts
    → Some items ≡ option_map items_in (slice_get (all_texts (config_sinks memory_sink config)) place)
items_are config place k items at is =
    let sink : BuiltAppender → Sink = λ k. memory_sink (appender_of k) in
    let texts : Sink → Texts = λ s. s.texts in
    ap Some is
    ∙ sym (ap (option_map items_in) (slice_get-map texts (map sink (appenders_of config)) place ∙ (ap (option_map texts) (slice_get-map sink (appenders_of config) place) ∙ ap (λ (o : Option BuiltAppender). option_map texts (option_map sink o)) at)))
