use Rattle.std.proofs.Common.{◌≡◌, ◌∙◌, ℕ, ap, sym, subst, List, Option, map, string_bytes}
use Rattle.log4rs_base.specs.Text.{Text}
use Rattle.log4rs_config.specs.Above.{AreAbove}
use Rattle.log4rs_config.specs.Name.{components}
use Rattle.log4rs_config.specs.Routing.{places}
use Rattle.log4rs_config.specs.Order.{Rise}
use Rattle.log4rs_config.proofs.Settled.{maps, is-routed}
use Rattle.log4rs_config.proofs.routes.Routes.new.Goals as goal

pub above_of-requires : goal.above_of-requires
above_of-requires g c = rw c.deref.ensures.value c.in_ok-kept.ensures.rising

pub of-requires : goal.of-requires
of-requires g c =
    let kept = c.in_ok-kept.kept.items in
    let entries = c.in_ok-entries.entries.items in
    let named : map (λ e. string_bytes e.name) entries ≡ map (λ n. n.logger.now.name) kept = rw c.deref-2.ensures.value at c.in_ok-entries.ensures.names in
    rw c.deref-5.ensures.value
    (subst Rise (sym (maps components (λ n. n.logger.now.name) kept) ∙ (sym (ap (map components) named) ∙ maps components (λ e. string_bytes e.name) entries)) c.in_ok-kept.ensures.rising)

pub invariant_of-result : goal.invariant_of-result
invariant_of-result g c =
    let kept = c.in_ok-kept.kept.items in
    let entries = c.in_ok-entries.entries.items in
    let named : map (λ e. string_bytes e.name) entries ≡ map (λ n. n.logger.now.name) kept = rw c.deref-2.ensures.value at c.in_ok-entries.ensures.names in
    record {
      indexed = record {
        rising = subst Rise (sym (maps components (λ n. n.logger.now.name) kept) ∙ sym (ap (map components) named)) c.in_ok-kept.ensures.rising;
        digested = rw c.deref-5.ensures.value at c.in_ok-digests.ensures.digested;
        lengths = rw c.deref-5.ensures.value at c.in_ok-digests.ensures.lengths;
        above = subst (λ (ns : List Text). AreAbove ns c.in_ok-digests.digests.above.items) (sym named)
            (subst (λ (above : List (Option ℕ)). AreAbove (map (λ n. n.logger.now.name) kept) above) (ap (λ (v : _). v.items) (sym c.in_ok-digests.ensures.above)) (rw c.deref.ensures.value at c.in_ok-above.ensures.above));
      };
    }

pub returns : goal.returns
returns g c =
    let names = map g.A.Named.name c.args.appenders.now in
    let e = c.in_ok-entries.ensures in
    is-routed names c.args.root.now c.args.loggers.now c.in_ok-kept.kept.items _
    c.in_ok-kept.ensures.places c.in_ok-kept.ensures.fewer c.in_ok-kept.ensures.same
    (rw c.deref-2.ensures.value at c.in_ok-entries.ensures.names) (rw c.deref-2.ensures.value at c.in_ok-entries.ensures.places)
    (rw c.deref-2.ensures.value at c.in_ok-entries.ensures.levels) (rw (c.deref-2.ensures.value, c.deref-4.ensures.value) at c.in_ok-entries.ensures.lists)
    c.level.ensures (c.in_ok-places.ensures ∙ ap (places names) c.appenders.ensures)
