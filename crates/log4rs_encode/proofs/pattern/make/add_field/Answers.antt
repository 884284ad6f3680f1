use Rattle.std.proofs.Common.{◌≡◌, ◌<◌, ◌∷◌, ◌++◌, [], List, map, length, string_bytes, ap, ◌∙◌, arith}
use Rattle.std.proofs.lemmas.Bool.Decides.{nat_tests}
use Rattle.log4rs_encode.specs.Chunk.{Chunk, text}
use Rattle.log4rs_encode.specs.ChunkView.{all_of, chunk_view}
use Rattle.log4rs_encode.specs.declared.pattern.chunk.Chunk as source
use Rattle.log4rs_encode.specs.declared.pattern.chunk.Chunk.TheVariants as variants
use Rattle.log4rs_encode.proofs.Tables.{pushed_field, pushed_two, view-field}
use Rattle.log4rs_encode.proofs.pattern.make.add_field.Goals as goal

pub returns-then-not-is_empty : goal.returns-then-not-is_empty
returns-then-not-is_empty c =
    let none : length (string_bytes c.args.behind) ≡ 0 = grind (arith, nat_tests, c.is_empty.ensures, c.if-is_empty.true) in
    let some : 0 < length (string_bytes c.args.text) = grind (arith, nat_tests, c.is_empty-then-is_empty.ensures, c.if-not-is_empty.true) in
    pushed_field c.args.chunks.now.items c.push.new.self.items c.field_before.result c.args.field c.args.behind c.args.text c.in_ok-push.ensures.items c.field_before.ensures none some

pub returns : goal.returns
returns c =
    let old = c.args.chunks.now.items in
    let field = variants.Field c.args.field c.args.behind in
    pushed_two old c.push-3.new.self.items field c.args.text
    (c.in_ok-push-3.ensures.items ∙ ap (λ (w : List source.Chunk). w ++ variants.Text c.args.text ∷ []) c.in_ok-push-2.ensures.items)
    ∙ ap (λ (w : List Chunk). all_of (map chunk_view old ++ w ∷ (text (string_bytes c.args.text) ∷ []) ∷ [])) (view-field c.args.field c.args.behind)
