-- The chunks of pieces.
use Rattle.std.proofs.Common.{◌≡◌, ◌≢◌, ℕ, ◌+◌, ◌<◌, ◌≤◌, List, [], ◌∷◌, ◌++◌, Option, Some, String, string_bytes, Vec, length, map, drop, get_or, codes, refl, ap, ap₂, sym, ◌∙◌, arith}
use Rattle.std.proofs.lemmas.List.{append_assoc, append-nil, map-append, at_drop_more, drop_all}
use Rattle.std.specs.declared.alloc.Global.{Global}
use Rattle.log4rs_encode.specs.Chunk.{field, text, Chunk, Chunks, value, group, no_chunks}
use Rattle.log4rs_encode.specs.ChunkView.{chunk_step, value_view, chunk_view, chunks_view, before, all_of, field_before, some_text, uncolumned, PrintAlike, PrintsAs}
use Rattle.log4rs_encode.specs.Fit.{fitted}
use Rattle.log4rs_encode.specs.Rendering.{rendered, rendered_all, grouped}
use Rattle.log4rs_encode.specs.Runs.{Run}
use Rattle.log4rs_base.specs.declared.record.Context.{Context}
use Rattle.log4rs_base.specs.declared.record.Record.{Record}
use Rattle.log4rs_encode.specs.Table.{error, named_chunk, group_chunk, mdc_error, mdc_value, word, mdc_chunk, date_chunk, piece_format, written_format, chunk_of, chunks_of, chunk_lists}
use Rattle.log4rs_encode.specs.View as seen
use Rattle.log4rs_encode.specs.declared.pattern.chunk.Field.{Field}
use Rattle.log4rs_encode.specs.declared.pattern.chunk.Field.TheVariants as fields
use Rattle.log4rs_encode.specs.declared.pattern.chunk.Group.{Group}
use Rattle.log4rs_encode.specs.declared.pattern.chunk.Value as values
use Rattle.log4rs_encode.specs.declared.pattern.chunk.Chunk as source
use Rattle.log4rs_encode.specs.declared.pattern.chunk.Chunk.TheFolds.{fold-roll-Chunk}
use Rattle.log4rs_encode.specs.declared.pattern.chunk.Chunk.TheOpen as opened
use Rattle.log4rs_encode.specs.declared.pattern.chunk.Chunk.TheVariants as variants
use Rattle.log4rs_encode.specs.declared.pattern.piece.Parameters.{Parameters}
use Rattle.log4rs_encode.specs.declared.pattern.piece.Piece as pieces

-- chunks before others print first
pub rendered-before : (r : Record) (k : Context) (cs : List Chunk) (more : Chunks) → rendered_all r k (before cs more) ≡ rendered_all r k (before cs no_chunks) ++ rendered_all r k more
rendered-before r k [] more = refl
rendered-before r k (c ∷ cs) more =
    ap (λ (w : List Run). rendered r k c ++ w) (rendered-before r k cs more)
    ∙ sym (append_assoc (rendered r k c) (rendered_all r k (before cs no_chunks)) (rendered_all r k more))

-- chunks at the end print last
rendered-last : (r : Record) (k : Context) (css : List (List Chunk)) (cs : List Chunk) → rendered_all r k (all_of (css ++ cs ∷ [])) ≡ rendered_all r k (all_of css) ++ rendered_all r k (before cs no_chunks)
rendered-last r k [] cs = refl
rendered-last r k (ds ∷ css) cs =
    let first = rendered_all r k (before ds no_chunks) in
    let last = rendered_all r k (before cs no_chunks) in
    rendered-before r k ds (all_of (css ++ cs ∷ []))
    ∙ ap (λ (w : List Run). first ++ w) (rendered-last r k css cs)
    ∙ sym (append_assoc first (rendered_all r k (all_of css)) last)
    ∙ ap (λ (w : List Run). w ++ last) (sym (rendered-before r k ds (all_of css)))

-- one chunk prints what it stands for
pub exactly : (c : source.Chunk) (d : Chunk) → chunk_view c ≡ d ∷ [] → PrintsAs c d
exactly c d is r k = ap (λ (cs : List Chunk). rendered_all r k (before cs no_chunks)) is

-- what the compiled chunks print, and then the pieces that are left
abbrev pub PrintFirst : List source.Chunk → List pieces.Piece → Chunks → Type 0
PrintFirst cs ps all = (r : Record) (k : Context) → rendered_all r k (chunks_view cs) ++ rendered_all r k (chunks_of (seen.pieces_view ps)) ≡ rendered_all r k all

-- one piece more
pub piece_more : (cs ds : List source.Chunk) (c : source.Chunk) (ps : List pieces.Piece) (i : ℕ) (p : pieces.Piece) (all : Chunks)
    → i < length ps → p ≡ get_or ps i p → PrintsAs c (chunk_of (seen.piece_view p)) → chunks_view ds ≡ all_of (map chunk_view cs ++ chunk_view c ∷ [])
    → PrintFirst cs (drop i ps) all → PrintFirst ds (drop (i + 1) ps) all
piece_more cs ds c ps i p all l is same pushed before' r k =
    let rest = rendered_all r k (chunks_of (seen.pieces_view (drop (i + 1) ps))) in
    let first = rendered_all r k (chunks_view cs) in
    let one = rendered_all r k (before (chunk_view c) no_chunks) in
    let here = rendered r k (chunk_of (seen.piece_view p)) in
    ap (λ (w : Chunks). rendered_all r k w ++ rest) pushed
    ∙ ap (λ (w : List Run). w ++ rest) (rendered-last r k (map chunk_view cs) (chunk_view c))
    ∙ append_assoc first one rest
    ∙ ap (λ (w : List Run). first ++ (w ++ rest)) (same r k ∙ append-nil here)
    ∙ sym (at_drop_more (λ (qs : List pieces.Piece). first ++ rendered_all r k (chunks_of (seen.pieces_view qs))) ps i p l
    ∙ ap (λ (q : pieces.Piece). first ++ (rendered r k (chunk_of (seen.piece_view q)) ++ rest)) (sym is))
    ∙ before' r k

pub piece_end : (cs : List source.Chunk) (ps : List pieces.Piece) (i : ℕ) (all : Chunks) → length ps ≤ i → PrintFirst cs (drop i ps) all → PrintAlike (chunks_view cs) all
piece_end cs ps i all l before' r k =
    let first = rendered_all r k (chunks_view cs) in
    sym (append-nil first) ∙ sym (ap (λ (qs : List pieces.Piece). first ++ rendered_all r k (chunks_of (seen.pieces_view qs))) (drop_all i ps l)) ∙ before' r k

-- two chunks at the end as one
all_of-two : (css : List (List Chunk)) (c d : Chunk) → all_of (css ++ (c ∷ d ∷ []) ∷ []) ≡ all_of (css ++ (c ∷ []) ∷ (d ∷ []) ∷ [])
all_of-two [] c d = refl
all_of-two (cs ∷ css) c d = ap (before cs) (all_of-two css c d)

some_text-some : (t : List ℕ) → 0 < length t → some_text t ≡ text t ∷ []
some_text-some [] l = absurd (omega arith)
some_text-some (b ∷ bs) l = refl

some_text-none : (t : List ℕ) → length t ≡ 0 → some_text t ≡ []
some_text-none [] l = refl
some_text-none (b ∷ bs) l = absurd (omega arith)

-- a field with arguments
pub field_with_lists : (f : Field) (found : Option Field) (name : List ℕ) (ls : List (Vec pieces.Piece Global)) (ps : Parameters)
    → found ≡ Some f → 0 < length ls → named_chunk found name (seen.lists_view ls) ps ≡ error (codes "unexpected arguments")
field_with_lists f found name [] ps is h = absurd (omega arith)
field_with_lists f found name (l ∷ ls) ps is h = rw is refl

-- a field without arguments
pub field_alone : (f : Field) (found : Option Field) (name : List ℕ) (ls : List (Vec pieces.Piece Global)) (ps : Parameters)
    → found ≡ Some f → length ls ≡ 0 → named_chunk found name (seen.lists_view ls) ps ≡ value (field f) ps
field_alone f found name [] ps is h = rw is refl
field_alone f found name (l ∷ ls) ps is h = absurd (omega arith)

-- a group that has not one argument
pub group_of_others : (g : Group) (ls : List (Vec pieces.Piece Global)) (ps : Parameters) → length ls ≢ 1
    → group_chunk g (chunk_lists (seen.lists_view ls)) ps ≡ error (codes "expected exactly one argument")
group_of_others g [] ps h = refl
group_of_others g (l ∷ []) ps h = absurd (h refl)
group_of_others g (l ∷ m ∷ ls) ps h = refl

-- a group with one argument
pub group_of_one : (g : Group) (ls : List (Vec pieces.Piece Global)) (l : Vec pieces.Piece Global) (ps : Parameters) → length ls ≡ 1 → l ≡ get_or ls 0 l
    → group_chunk g (chunk_lists (seen.lists_view ls)) ps ≡ group g (chunks_of (seen.pieces_view l.items)) ps
group_of_one g [] l ps h is = absurd (omega arith)
group_of_one g (m ∷ []) l ps h is = ap (λ (w : Vec pieces.Piece Global). group g (chunks_of (seen.pieces_view w.items)) ps) (sym is)
group_of_one g (m ∷ n ∷ ls) l ps h is = absurd (omega arith)

-- a value of the context with more than two arguments
pub mdc_of_more : (ls : List (Vec pieces.Piece Global)) (ps : Parameters) → 2 < length ls
    → mdc_chunk (seen.lists_view ls) ps ≡ mdc_error (codes "expected at most two arguments")
mdc_of_more [] ps h = absurd (omega arith)
mdc_of_more (l ∷ []) ps h = absurd (omega arith)
mdc_of_more (l ∷ m ∷ []) ps h = absurd (omega arith)
mdc_of_more (l ∷ m ∷ n ∷ ls) ps h = refl

-- a value of the context with two arguments
pub mdc_of_two : (ls : List (Vec pieces.Piece Global)) (k d : Vec pieces.Piece Global) (ps : Parameters) → length ls ≡ 2 → k ≡ get_or ls 0 k → d ≡ get_or ls 1 d
    → mdc_chunk (seen.lists_view ls) ps ≡ mdc_value (word (codes "invalid key") (seen.pieces_view k.items)) (word (codes "invalid default") (seen.pieces_view d.items)) ps
mdc_of_two [] k d ps two is is' = absurd (omega arith)
mdc_of_two (l ∷ []) k d ps two is is' = absurd (omega arith)
mdc_of_two (l ∷ m ∷ []) k d ps two is is' =
    ap₂ (λ (a b : Vec pieces.Piece Global). mdc_value (word (codes "invalid key") (seen.pieces_view a.items)) (word (codes "invalid default") (seen.pieces_view b.items)) ps) (sym is) (sym is')
mdc_of_two (l ∷ m ∷ n ∷ ls) k d ps two is is' = absurd (omega arith)

pub view-text : (t : String Global) → chunk_view (variants.Text t) ≡ text (string_bytes t) ∷ []
view-text t = ap chunk_view (sym (variants.rolls-Text t)) ∙ fold-roll-Chunk (List Chunk) chunk_step (opened.Chunk-F.Text t)

pub view-group : (g : Group) (cs : Vec source.Chunk Global) (ps : Parameters) → chunk_view (variants.Group g cs ps) ≡ group g (chunks_view cs.items) ps ∷ []
view-group g cs ps = ap chunk_view (sym (variants.rolls-Group g cs ps)) ∙ fold-roll-Chunk (List Chunk) chunk_step (opened.Chunk-F.Group g cs ps)

pub view-value : (v : values.Value) (ps : Parameters) → chunk_view (variants.Value v ps) ≡ value (value_view v) ps ∷ []
view-value v ps = ap chunk_view (sym (variants.rolls-Value v ps)) ∙ fold-roll-Chunk (List Chunk) chunk_step (opened.Chunk-F.Value v ps)

pub view-field : (f : Field) (t : String Global) → chunk_view (variants.Field f t) ≡ field_before f (string_bytes t)
view-field f t = ap chunk_view (sym (variants.rolls-Field f t)) ∙ fold-roll-Chunk (List Chunk) chunk_step (opened.Chunk-F.Field f t)

pub view-level : (t : String Global) → chunk_view (variants.Level t) ≡ field_before fields.Level (string_bytes t)
view-level t = ap chunk_view (sym (variants.rolls-Level t)) ∙ fold-roll-Chunk (List Chunk) chunk_step (opened.Chunk-F.Level t)

pub view-target : (t : String Global) → chunk_view (variants.Target t) ≡ field_before fields.Target (string_bytes t)
view-target t = ap chunk_view (sym (variants.rolls-Target t)) ∙ fold-roll-Chunk (List Chunk) chunk_step (opened.Chunk-F.Target t)

pub view-message : (t : String Global) → chunk_view (variants.Message t) ≡ field_before fields.Message (string_bytes t)
view-message t = ap chunk_view (sym (variants.rolls-Message t)) ∙ fold-roll-Chunk (List Chunk) chunk_step (opened.Chunk-F.Message t)

-- a group of chunks that print the same
pub group_alike : (g : Group) (cs : Vec source.Chunk Global) (ds : Chunks) (ps : Parameters) → PrintAlike (chunks_view cs.items) ds → PrintsAs (variants.Group g cs ps) (group g ds ps)
group_alike g cs ds ps same r k =
    ap (λ (ws : List Chunk). rendered_all r k (before ws no_chunks)) (view-group g cs ps)
    ∙ ap (λ (w : List Run). fitted ps (grouped g r k w) ++ []) (same r k)

-- a chunk and a text behind it
pub pushed_two : (cs ds : List source.Chunk) (c : source.Chunk) (t : String Global) → ds ≡ (cs ++ c ∷ []) ++ variants.Text t ∷ []
    → chunks_view ds ≡ all_of (map chunk_view cs ++ chunk_view c ∷ (text (string_bytes t) ∷ []) ∷ [])
pushed_two cs ds c t is =
    ap chunks_view (is ∙ append_assoc cs (c ∷ []) (variants.Text t ∷ []))
    ∙ ap all_of (map-append chunk_view cs (c ∷ variants.Text t ∷ []))
    ∙ ap (λ (w : List Chunk). all_of (map chunk_view cs ++ chunk_view c ∷ w ∷ [])) (view-text t)

-- a field and a text behind it as one chunk
pub pushed_field : (cs ds : List source.Chunk) (c : source.Chunk) (f : Field) (old t : String Global) → ds ≡ cs ++ c ∷ [] → chunk_view c ≡ field_before f (string_bytes t) → length (string_bytes old) ≡ 0 → 0 < length (string_bytes t)
    → chunks_view ds ≡ all_of (map chunk_view cs ++ field_before f (string_bytes old) ∷ (text (string_bytes t) ∷ []) ∷ [])
pushed_field cs ds c f old t is shows none some =
    let v = value (field f) uncolumned in
    ap chunks_view is
    ∙ ap all_of (map-append chunk_view cs (c ∷ []))
    ∙ ap (λ (w : List Chunk). all_of (map chunk_view cs ++ w ∷ [])) (shows ∙ ap (λ (w : List Chunk). v ∷ w) (some_text-some (string_bytes t) some))
    ∙ all_of-two (map chunk_view cs) v (text (string_bytes t))
    ∙ ap (λ (w : List Chunk). all_of (map chunk_view cs ++ w ∷ (text (string_bytes t) ∷ []) ∷ [])) (sym (ap (λ (w : List Chunk). v ∷ w) (some_text-none (string_bytes old) none)))

-- a chunk at the end
pub pushed_one : (cs ds : List source.Chunk) (c : source.Chunk) → ds ≡ cs ++ c ∷ [] → chunks_view ds ≡ all_of (map chunk_view cs ++ chunk_view c ∷ [])
pushed_one cs ds c is = ap chunks_view is ∙ ap all_of (map-append chunk_view cs (c ∷ []))

-- the last chunk taken off, and put back with a text behind it
pub pushed_behind : (cs rest ds : List source.Chunk) (c : source.Chunk) (t : String Global) → cs ≡ rest ++ c ∷ []
    → chunks_view ds ≡ all_of (map chunk_view rest ++ chunk_view c ∷ (text (string_bytes t) ∷ []) ∷ [])
    → chunks_view ds ≡ all_of (map chunk_view cs ++ chunk_view (variants.Text t) ∷ [])
pushed_behind cs rest ds c t is now =
    now
    ∙ sym (ap (λ (w : List (List Chunk)). all_of (w ++ chunk_view (variants.Text t) ∷ [])) (ap (map chunk_view) is ∙ map-append chunk_view rest (c ∷ []))
    ∙ ap all_of (append_assoc (map chunk_view rest) (chunk_view c ∷ []) (chunk_view (variants.Text t) ∷ []))
    ∙ ap (λ (w : List Chunk). all_of (map chunk_view rest ++ chunk_view c ∷ w ∷ [])) (view-text t))

-- a date with more than two arguments
pub date_of_more : (ls : List (Vec pieces.Piece Global)) (ps : Parameters) → 2 < length ls
    → date_chunk (seen.lists_view ls) ps ≡ error (codes "expected at most two arguments")
date_of_more [] ps h = absurd (omega arith)
date_of_more (l ∷ []) ps h = absurd (omega arith)
date_of_more (l ∷ m ∷ []) ps h = absurd (omega arith)
date_of_more (l ∷ m ∷ n ∷ ls) ps h = refl

-- one piece more of a format
pub format_more : (old new : List ℕ) (ps : List pieces.Piece) (i : ℕ) (p : pieces.Piece) (all : List ℕ) → i < length ps → p ≡ get_or ps i p
    → new ≡ old ++ piece_format (seen.piece_view p) → old ++ written_format (seen.pieces_view (drop i ps)) ≡ all
    → new ++ written_format (seen.pieces_view (drop (i + 1) ps)) ≡ all
format_more old new ps i p all l is pushed before =
    let rest = written_format (seen.pieces_view (drop (i + 1) ps)) in
    ap (λ (w : List ℕ). w ++ rest) pushed ∙ append_assoc old (piece_format (seen.piece_view p)) rest
    ∙ sym (at_drop_more (λ (qs : List pieces.Piece). old ++ written_format (seen.pieces_view qs)) ps i p l
    ∙ ap (λ (q : pieces.Piece). old ++ (piece_format (seen.piece_view q) ++ rest)) (sym is))
    ∙ before
