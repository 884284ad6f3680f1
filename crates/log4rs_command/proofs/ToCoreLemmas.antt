-- Lines whose records are logged to a core.
use Rattle.std.proofs.Common.{◌≡◌, Bool, inl, inr, List, [], ◌∷◌, None, sym, ap, subst}
use Rattle.log4rs_base.specs.Text.{Text}
use Rattle.log4rs_base.specs.declared.record.Record.{Record}
use Rattle.log4rs_append.specs.Sink.{Sink}
use Rattle.log4rs_config.specs.Routing.{deliveries}
use Rattle.log4rs_config.specs.Settings.{Settings}
use Rattle.log4rs_command.specs.EachLine.{LogsLine, LogsLines}
use Rattle.log4rs_command.specs.Logs.{Logs}
use Rattle.log4rs_command.specs.ToCore.{LogsRecord}
use Rattle.log4rs_command.specs.declared.seen.Seen.{Seen}
use Rattle.log4rs_command.proofs.LogsLemmas.{Logs-none, Logs-malformed, Logs-one, Logs-append, deliveries-same}

module _ {C : Type 0} (settings : C → Settings) (admits : C → Record → List Bool) (sinks : C → List Sink) where
  -- one line
  line_logged : (line : Text) (before after : C) (seen : Seen) → LogsLine (LogsRecord settings admits sinks) None line before after seen
      → Logs (deliveries (settings before) (admits before)) (line ∷ []) (sinks before) (sinks after) seen
  line_logged line before after seen (inl p) =
      let d = deliveries (settings before) (admits before) in
      subst (λ t. Logs d (line ∷ []) (sinks before) (sinks t) seen) (sym p.1)
      (subst (λ t. Logs d (line ∷ []) (sinks before) (sinks before) t) (sym p.2) (Logs-malformed d line (sinks before) p.0))
  line_logged line before after seen (inr p) =
      let d = deliveries (settings before) (admits before) in
      subst (λ t. Logs d (line ∷ []) (sinks before) (sinks after) t) (sym p.4)
      (Logs-one d line p.0 p.3.answer (sinks before) (sinks after) p.1 p.2 p.3.answered p.3.found p.3.well)

  -- it routes as before
  line_routes : (line : Text) (before after : C) (seen : Seen) → LogsLine (LogsRecord settings admits sinks) None line before after seen
      → (r : Record) → deliveries (settings after) (admits after) r ≡ deliveries (settings before) (admits before) r
  line_routes line before after seen (inl p) r = ap (λ t. deliveries (settings t) (admits t) r) p.1
  line_routes line before after seen (inr p) r =
      deliveries-same (settings before) (settings after) (admits before) (admits after) p.3.routes.settings p.3.routes.admits r

  -- all lines
  pub lines_logged : (lines : List Text) (before after : C) (seen : Seen) → LogsLines (LogsRecord settings admits sinks) None lines before after seen
      → Logs (deliveries (settings before) (admits before)) lines (sinks before) (sinks after) seen
  lines_logged [] before after seen p =
      let d = deliveries (settings before) (admits before) in
      subst (λ t. Logs d [] (sinks before) (sinks t) seen) (sym p.0)
      (subst (λ t. Logs d [] (sinks before) (sinks before) t) (sym p.1) (Logs-none d (sinks before)))
  lines_logged (line ∷ lines) before after seen p =
      Logs-append _ _ (line ∷ []) lines (sinks before) (sinks p.0) (sinks after) p.1 p.2 seen (line_routes line before p.0 p.1 p.3) p.5
      (line_logged line before p.0 p.1 p.3) (lines_logged lines p.0 after p.2 p.4)
