use Rattle.std.proofs.Common.{◌<◌, ◌∙◌, sym, ap, length, map, arith, string_bytes}
use Rattle.std.proofs.lemmas.Bool.Decides.{Decides-ltb}
use Rattle.log4rs_config.specs.Name.{components}
use Rattle.log4rs_config.proofs.Rising.{length-same}
use Rattle.log4rs_config.proofs.Settled.{longest-within}
use Rattle.log4rs_config.proofs.routes.Routes.governor.Goals as goal

pub nearest-requires : goal.nearest-requires
nearest-requires g c = record { indexed = rw (c.new-looked.ensures.entries, c.new-looked.ensures.digests, c.deref.ensures.value) c.args.self.now.indexed }

pub returns-in_err-get-clause-place : goal.returns-in_err-get-clause-place
returns-in_err-get-clause-place g c =
    let names = map (λ e. string_bytes e.name) c.new-looked.result.entries.now in
    let l = longest-within names (components c.as_bytes.result.now) c.in_ok-index.index (sym c.in_ok-index.ensures.place) in
    let same = length-same (λ e. string_bytes e.name) c.new-looked.result.entries.now in
    let one = ap length (c.new-looked.ensures.entries ∙ (c.deref.ensures.value ∙ sym c.deref-2.ensures.value)) in
    let lt : c.in_ok-index.index < length c.deref-2.result.now = omega (arith, l, same, one) in
    let yes = (Decides-ltb c.in_ok-index.index (length c.deref-2.result.now)).1 lt in
    let no = c.in_err-get.ensures.lookup in
    absurd (cc (yes, no.0))
