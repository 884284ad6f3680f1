-- What one append adds to the texts of sinks.
use Rattle.std.proofs.Common.{◌≡◌, ◌∙◌, ℕ, List, sym, ap, map, set}
use Rattle.std.proofs.lemmas.List.{map-set}
use Rattle.std.proofs.Math.ListN.{get_or-map}
use Rattle.std.specs.Prelude.{Ok, slice_set, slice_index_or}
use Rattle.log4rs_base.specs.declared.record.Record.{Record}
use Rattle.log4rs_base.specs.declared.record.Context.{Context}
use Rattle.log4rs_append.specs.Sink.{Sink, Texts, Untold, Items, Bytes, Gains, untold}
use Rattle.log4rs_config.specs.Destinations.{AppendedAt}
use Rattle.log4rs_threads.specs.Held.{all_texts, gained}

gained_is : (r : Record) (c : Context) (x : Unit {0}) (before after : Texts) → Gains r c (Ok x) before after → after ≡ gained r c before
gained_is r c x Untold after g = g
gained_is r c x (Items read held) after g = g
gained_is r c x (Bytes read held) after g = g

-- after an append at a place the texts there have one record more, and the others stay
pub texts_after : (r : Record) (c : Context) (at : ℕ) (x : Unit {0}) (before after : List Sink) → AppendedAt r c at (Ok x) before after
    → all_texts after ≡ slice_set (all_texts before) at (gained r c (slice_index_or (all_texts before) at Untold))
texts_after r c at x before after a =
    let texts : Sink → Texts = λ sink. sink.texts in
    ap all_texts a.2
    ∙ (map-set texts before at a.0
    ∙ ap (λ (t : Texts). set (map texts before) at t)
    (gained_is r c x _ _ a.1.gains ∙ ap (gained r c) (sym (get_or-map texts before at untold))))
