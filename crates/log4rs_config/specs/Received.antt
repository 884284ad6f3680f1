-- The texts that each sink receives of a list of entries.
use Rattle.std.specs.Prelude.{◌≡◌, ℕ, ◌<◌, ◌==◌, List, ◌++◌, length, count_by, replicate}
use Rattle.std.specs.Prelude.{slice_index_or}
use Rattle.std.specs.List.{flat_map}
use Rattle.log4rs_base.specs.declared.record.Entry.{Entry}
use Rattle.log4rs_base.specs.Text.{Text}
use Rattle.log4rs_append.specs.Sink.{Reading, Sink, untold, Texts, Untold, Items, Bytes}
use Rattle.log4rs_config.specs.Routing.{Deliveries}

-- the texts of the entries at a place: each as often as it is delivered there
abbrev pub texts_at : Deliveries → List Entry → ℕ → Reading → List Text
texts_at deliveries entries at read =
    flat_map
    (λ e.
    replicate (count_by (λ place. place == at) (deliveries e.logged)) (read e.logged e.context))
    entries

-- visible texts received these, behind what they held
abbrev pub HasReceived : (Reading → List Text) → Texts → Texts → Type 0
HasReceived texts Untold after = Unit {0}
HasReceived texts (Items read held) after = after ≡ Items read (held ++ texts read)
HasReceived texts (Bytes read held) after =
    after ≡ Bytes read (held ++ flat_map (λ text. text) (texts read))

-- the texts of the sink at a place
abbrev pub texts_in : List Sink → ℕ → Texts
texts_in sinks at = (slice_index_or sinks at untold).texts

-- each sink received, in order, the text of each entry as often as it was delivered there,
-- and there are no other sinks
pub record HaveReceived
    (deliveries : Deliveries) (entries : List Entry) (before after : List Sink) : Type 0 where
  pub received : (at : ℕ) → at < length before
      → HasReceived (texts_at deliveries entries at) (texts_in before at) (texts_in after at)
  pub as_many : length after ≡ length before
