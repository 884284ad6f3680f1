use Rattle.std.proofs.Common.{◌≡◌, ◌∷◌, ◌++◌, [], List, ℕ, true, false, Some, string_bytes, sym, ap, ◌∙◌, arith}
use Rattle.std.proofs.lemmas.Result.{on_ok_weaker}
use Rattle.std.proofs.lemmas.List.{append_assoc, append-nil}
use Rattle.log4rs_encode.specs.Chunk.{Chunk, value, group, no_chunks}
use Rattle.log4rs_encode.specs.ChunkView.{before, chunk_view, chunks_view, value_view}
use Rattle.log4rs_encode.specs.Fit.{fit, fitted, has_width}
use Rattle.log4rs_encode.specs.Rendering.{value_text, grouped, rendered, rendered_all, level_style, default_style}
use Rattle.log4rs_encode.specs.Runs.{Run, text, style, join}
use Rattle.log4rs_encode.specs.declared.pattern.chunk.Field.TheVariants as fields
use Rattle.log4rs_encode.specs.declared.styles.Style.{Style}
use Rattle.log4rs_encode.proofs.Prints.{nothing_more, between, ends_begun, text_grown, field_printed, beside, unfitted, in_column, chunk_more, chunk_end}
use Rattle.log4rs_encode.proofs.Tables.{view-text, view-level, view-target, view-message, view-field, view-value, view-group}
use Rattle.log4rs_encode.proofs.pattern.render.+render.Goals as goal

pub render_all-loop-chunk-preserved : goal.render_all-loop-chunk-preserved
render_all-loop-chunk-preserved t c =
    chunk_more c.args.record.now c.args.context.now (c.loop-chunk.out ++ text (string_bytes c.loop-chunk.text) ∷ []) (c.render.new.out ++ text (string_bytes c.render.new.text) ∷ [])
    _ c.args.chunks.now c.loop-chunk.chunk-index c.chunk-item.result
    (omega arith) c.chunk-item.is c.in_ok-render.ensures c.loop-chunk.invariant

pub render_all-returns : goal.render_all-returns
render_all-returns t c =
    on_ok_weaker c.push_string.result (λ e. e ∙ chunk_end c.args.record.now c.args.context.now (c.loop-chunk.out ++ text (string_bytes c.loop-chunk.text) ∷ []) _ c.args.chunks.now c.loop-chunk.chunk-index (omega arith) c.loop-chunk.invariant)
    c.push_string.ensures.ok

pub render_all-loop-chunk-init : goal.render_all-loop-chunk-init
render_all-loop-chunk-init t c =
    ends_begun (c.take_end-text.new.self ++ text (string_bytes c.take_end-text.result) ∷ []) c.args.out.now (rendered_all c.args.record.now c.args.context.now (chunks_view c.args.chunks.now)) c.take_end-text.ensures

pub render-returns-then-not-has_width : goal.render-returns-then-not-has_width
render-returns-then-not-has_width t c =
    let r = c.args.record.now in
    let k = c.args.context.now in
    let front : List Run = c.args.out.now ++ text (string_bytes c.args.text.now) ∷ [] in
    let shown = value_text r k (value_view c.in-Value.value) in
    let none : has_width c.in-Value.parameters ≡ false = sym c.has_width.ensures ∙ c.if-not-has_width.true in
    ap (λ (w : List ℕ). join (c.args.out.now ++ text w ∷ [])) c.in_ok-push_value-in-Value.ensures
    ∙ text_grown c.args.out.now (string_bytes c.args.text.now) shown
    ∙ ap (λ (ws : List Run). join (front ++ ws)) (sym (unfitted c.in-Value.parameters (text shown ∷ []) none) ∙ sym (append-nil (rendered r k (value (value_view c.in-Value.value) c.in-Value.parameters))))
    ∙ ap (λ (p : List Chunk). join (front ++ rendered_all r k (before p no_chunks))) (sym (view-value c.in-Value.value c.in-Value.parameters))
    ∙ ap (λ p. join (front ++ rendered_all r k (before (chunk_view p) no_chunks))) (sym c.in-Value.is)

pub render-returns-in_ok-push_literal-in-Text : goal.render-returns-in_ok-push_literal-in-Text
render-returns-in_ok-push_literal-in-Text t c =
    rw (c.in-Text.is, view-text c.in-Text.literal, c.in_ok-push_literal-in-Text.ensures, c.deref.ensures) (text_grown c.args.out.now (string_bytes c.args.text.now) (string_bytes c.in-Text.literal))

pub render-returns-in_ok-push_level_before-in-Level : goal.render-returns-in_ok-push_level_before-in-Level
render-returns-in_ok-push_level_before-in-Level t c =
    field_printed c.args.record.now c.args.context.now c.args.out.now fields.Level (string_bytes c.args.text.now) _ c.deref-in-Level.result.now (string_bytes c.in-Level.behind) c.args.chunk.now _
    c.in_ok-push_level_before-in-Level.ensures c.deref-in-Level.ensures (view-level c.in-Level.behind) c.in-Level.is

pub render-returns-in_ok-push_before-in-Target : goal.render-returns-in_ok-push_before-in-Target
render-returns-in_ok-push_before-in-Target t c =
    field_printed c.args.record.now c.args.context.now c.args.out.now fields.Target (string_bytes c.args.text.now) _ c.deref-in-Target-2.result.now (string_bytes c.in-Target.behind) c.args.chunk.now _
    (c.in_ok-push_before-in-Target.ensures ∙ ap (λ (w : List ℕ). (string_bytes c.args.text.now ++ w) ++ c.deref-in-Target-2.result.now) c.deref-in-Target.ensures) c.deref-in-Target-2.ensures (view-target c.in-Target.behind) c.in-Target.is

pub render-returns-in_ok-push_before-in-Message : goal.render-returns-in_ok-push_before-in-Message
render-returns-in_ok-push_before-in-Message t c =
    field_printed c.args.record.now c.args.context.now c.args.out.now fields.Message (string_bytes c.args.text.now) _ c.deref-in-Message-2.result.now (string_bytes c.in-Message.behind) c.args.chunk.now _
    (c.in_ok-push_before-in-Message.ensures ∙ ap (λ (w : List ℕ). (string_bytes c.args.text.now ++ w) ++ c.deref-in-Message-2.result.now) c.deref-in-Message.ensures) c.deref-in-Message-2.ensures (view-message c.in-Message.behind) c.in-Message.is

pub render-returns-in_ok-push_shown-in-Field : goal.render-returns-in_ok-push_shown-in-Field
render-returns-in_ok-push_shown-in-Field t c =
    field_printed c.args.record.now c.args.context.now c.args.out.now c.in-Field.field (string_bytes c.args.text.now) _ c.deref-in-Field.result.now (string_bytes c.in-Field.behind) c.args.chunk.now _
    c.in_ok-push_shown-in-Field.ensures c.deref-in-Field.ensures (view-field c.in-Field.field c.in-Field.behind) c.in-Field.is

pub render-returns-in_ok-take_in-in-Value : goal.render-returns-in_ok-take_in-in-Value
render-returns-in_ok-take_in-in-Value t c =
    let r = c.args.record.now in
    let k = c.args.context.now in
    let front : List Run = c.args.out.now ++ text (string_bytes c.args.text.now) ∷ [] in
    let shown = value_text r k (value_view c.in-Value.value) in
    let some : has_width c.in-Value.parameters ≡ true = sym c.has_width.ensures ∙ c.if-not-has_width.false in
    on_ok_weaker c.push_column.result (λ e.
    beside c.args.out.now c.take_in.new.out c.push_column.new.out (fit c.in-Value.parameters (join (text shown ∷ []))) (string_bytes c.args.text.now) (string_bytes c.take_in.new.text)
    c.in_ok-take_in-in-Value.ensures.ok c.in_ok-take_in-in-Value.ensures.empty e
    ∙ ap (λ (ws : List Run). join (front ++ ws)) (sym (in_column c.in-Value.parameters (text shown ∷ []) some) ∙ sym (append-nil (rendered r k (value (value_view c.in-Value.value) c.in-Value.parameters))))
    ∙ ap (λ (p : List Chunk). join (front ++ rendered_all r k (before p no_chunks))) (sym (view-value c.in-Value.value c.in-Value.parameters))
    ∙ ap (λ p. join (front ++ rendered_all r k (before (chunk_view p) no_chunks))) (sym c.in-Value.is)) c.push_column.ensures

pub render-returns-in_ok-take_in-in-Group : goal.render-returns-in_ok-take_in-in-Group
render-returns-in_ok-take_in-in-Group t c =
    let r = c.args.record.now in
    let k = c.args.context.now in
    let front : List Run = c.args.out.now ++ text (string_bytes c.args.text.now) ∷ [] in
    on_ok_weaker c.render_argument.result (λ e.
    beside c.args.out.now c.take_in-in-Group.new.out c.render_argument.new.out (fitted c.in-Group.parameters (grouped c.in-Group.group r k (rendered_all r k (chunks_view c.as_slice.result.now))))
    (string_bytes c.args.text.now) (string_bytes c.take_in-in-Group.new.text)
    c.in_ok-take_in-in-Group.ensures.ok c.in_ok-take_in-in-Group.ensures.empty e
    ∙ ap (λ cs. join (front ++ fitted c.in-Group.parameters (grouped c.in-Group.group r k (rendered_all r k (chunks_view cs))))) c.as_slice.ensures.value
    ∙ ap (λ (ws : List Run). join (front ++ ws)) (sym (append-nil (rendered r k (group c.in-Group.group (chunks_view c.in-Group.chunks.items) c.in-Group.parameters))))
    ∙ ap (λ (p : List Chunk). join (front ++ rendered_all r k (before p no_chunks))) (sym (view-group c.in-Group.group c.in-Group.chunks c.in-Group.parameters))
    ∙ ap (λ p. join (front ++ rendered_all r k (before (chunk_view p) no_chunks))) (sym c.in-Group.is)) c.render_argument.ensures

pub render_where-returns : goal.render_where-returns
render_where-returns t c = rw c.if-is_shown.false (nothing_more c.args.out.now c.runs-joined.ensures.joined)

pub render_highlighted-returns : goal.render_highlighted-returns
render_highlighted-returns t c =
    let is : level_style c.args.record.now.level ≡ Some c.in-Some.style = sym c.style_of.ensures ∙ c.in-Some.is in
    let inner = rendered_all c.args.record.now c.args.context.now (chunks_view c.args.chunks.now) in
    let printed = c.render_all-2.new.out in
    rw is (on_ok_weaker c.set_style-2.result (λ e.
    e ∙ ap (λ (s : Style). printed ++ style s ∷ []) c.new.ensures
    ∙ between c.args.out.now c.set_style.new.self inner printed c.in-Some.style default_style c.in_ok-set_style.ensures.ok c.in_ok-render_all.ensures) c.set_style-2.ensures.ok)
