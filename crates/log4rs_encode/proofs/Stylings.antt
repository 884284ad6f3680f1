-- Styles, each behind a text, and a text behind them all.
use Rattle.std.proofs.Common.{◌≡◌, ◌<◌, ℕ, List, [], ◌∷◌, ◌++◌, drop, slice_index_or, Some, None, Result, Ok, Err, OnErr, String, string_bytes, length, refl, sym, ap, ◌∙◌, arith}
use Rattle.std.proofs.lemmas.List.{append-nil}
use Rattle.std.proofs.lemmas.Str.{IsUtf8-string_bytes}
use Rattle.std.specs.Str.{IsUtf8}
use Rattle.std.specs.declared.alloc.Global.{Global}
use Rattle.log4rs_encode.specs.declared.styles.Style.{Style}
use Rattle.log4rs_encode.specs.declared.runs.Styling.{Styling}
use Rattle.log4rs_encode.specs.Runs.{Run, text, style, before, join, plain_bytes, runs_in, only_text, IsJoined, AreWhole}
use Rattle.log4rs_encode.proofs.Joined.{before_join, before_joined, join_back, join-IsJoined, one_text}

pub IsJoined-runs : (ss : List Styling) (t : List ℕ) → IsJoined (runs_in ss t)
IsJoined-runs [] t = before_joined (text t) [] tt
IsJoined-runs (s ∷ ss) t = before_joined (text (string_bytes s.text)) (style s.style ∷ runs_in ss t) (IsJoined-runs ss t)

whole_alone : (t : List ℕ) → IsUtf8 t → AreWhole (before (text t) [])
whole_alone [] u = tt
whole_alone (b ∷ bs) u = (u, tt)

whole_styled : (t : List ℕ) (s : Style) (rs : List Run) → IsUtf8 t → AreWhole rs → AreWhole (before (text t) (style s ∷ rs))
whole_styled [] s rs u h = h
whole_styled (b ∷ bs) s rs u h = (u, h)

-- the texts of strings are of whole characters
pub AreWhole-runs : (ss : List Styling) (t : String Global) → AreWhole (runs_in ss (string_bytes t))
AreWhole-runs [] t = whole_alone (string_bytes t) (IsUtf8-string_bytes t)
AreWhole-runs (s ∷ ss) t = whole_styled (string_bytes s.text) s.style (runs_in ss (string_bytes t)) (IsUtf8-string_bytes s.text) (AreWhole-runs ss t)

-- a text at the end that takes another one in
pub grown : (ss : List Styling) (t u : List ℕ) → runs_in ss (t ++ u) ≡ join (runs_in ss t ++ text u ∷ [])
grown [] [] u = refl
grown [] (b ∷ bs) u = sym (one_text (b ∷ bs) u)
grown (s ∷ ss) t u =
    ap (λ (rs : List Run). before (text (string_bytes s.text)) (style s.style ∷ rs)) (grown ss t u)
    ∙ sym (before_join (text (string_bytes s.text)) (style s.style ∷ runs_in ss t) (text u ∷ []))

-- a text that stands behind the last style
pub begun : (ss : List Styling) (t u : List ℕ) → t ≡ [] → runs_in ss u ≡ join (runs_in ss t ++ text u ∷ [])
begun ss t u none = grown ss [] u ∙ ap (λ (w : List ℕ). join (runs_in ss w ++ text u ∷ [])) (sym none)

apart : (t : List ℕ) (s : Style) (rs ys : List Run) → before (text t) (style s ∷ (rs ++ ys)) ≡ before (text t) (style s ∷ rs) ++ ys
apart [] s rs ys = refl
apart (b ∷ bs) s rs ys = refl

alone : (t : List ℕ) (s : Style) → before (text t) (style s ∷ []) ≡ before (text t) [] ++ style s ∷ []
alone [] s = refl
alone (b ∷ bs) s = refl

-- one style more
pub styled_more : (ss : List Styling) (t : List ℕ) (s : Styling) → string_bytes s.text ≡ t → runs_in (ss ++ s ∷ []) [] ≡ runs_in ss t ++ style s.style ∷ []
styled_more [] t s e = ap (λ (w : List ℕ). before (text w) (style s.style ∷ [])) e ∙ alone t s.style
styled_more (x ∷ ss) t s e =
    ap (λ (rs : List Run). before (text (string_bytes x.text)) (style x.style ∷ rs)) (styled_more ss t s e)
    ∙ apart (string_bytes x.text) x.style (runs_in ss t) (style s.style ∷ [])

-- a text taken in by the one before it
taken_in : (t u : List ℕ) (s : Style) (rs : List Run) → before (text (t ++ u)) (style s ∷ rs) ≡ before (text t) (before (text u) (style s ∷ rs))
taken_in [] u s rs = refl
taken_in (b ∷ bs) [] s rs = ap (λ (w : List ℕ). text (b ∷ w) ∷ style s ∷ rs) (append-nil bs)
taken_in (b ∷ bs) (c ∷ cs) s rs = refl

-- styles behind others, of which the first takes the text between them in
pub appended : (ss : List Styling) (t : List ℕ) (p q : Styling) (qs : List Styling) (u : List ℕ) → string_bytes p.text ≡ t ++ string_bytes q.text → p.style ≡ q.style
    → runs_in (ss ++ p ∷ qs) u ≡ join (runs_in ss t ++ runs_in (q ∷ qs) u)
appended [] t p q qs u e f =
    let rest = runs_in qs u in
    let back = before (text (string_bytes q.text)) (style q.style ∷ rest) in
    ap (λ (w : List ℕ). before (text w) (style p.style ∷ rest)) e
    ∙ ap (λ (s : Style). before (text (t ++ string_bytes q.text)) (style s ∷ rest)) f
    ∙ taken_in t (string_bytes q.text) q.style rest
    ∙ ap (before (text t)) (sym (join-IsJoined back (IsJoined-runs (q ∷ qs) u)))
    ∙ sym (before_join (text t) [] back)
appended (x ∷ ss) t p q qs u e f =
    ap (λ (rs : List Run). before (text (string_bytes x.text)) (style x.style ∷ rs)) (appended ss t p q qs u e f)
    ∙ sym (before_join (text (string_bytes x.text)) (style x.style ∷ runs_in ss t) (runs_in (q ∷ qs) u))

-- the first of some
pub first_of : (ss : List Styling) (s : Styling) → 0 < length ss → s ≡ slice_index_or ss 0 s → ss ≡ s ∷ drop 1 ss
first_of [] s l e = absurd (omega (arith, l))
first_of (x ∷ ss) s l e = ap (λ (y : Styling). y ∷ ss) (sym e)

-- a text alone behind others
pub text_appended : (xs : List Run) (ss : List Styling) (u : List ℕ) → ss ≡ [] → join (xs ++ text u ∷ []) ≡ join (xs ++ runs_in ss u)
text_appended xs ss u none = sym (join_back xs (text u ∷ [])) ∙ ap (λ (w : List Styling). join (xs ++ runs_in w u)) (sym none)

nothing : (t : List ℕ) → before (text t) [] ≡ [] → t ≡ []
nothing [] e = refl
nothing (b ∷ bs) e = absurd (cc e)

something : (t : List ℕ) (s : Style) (rs : List Run) → before (text t) (style s ∷ rs) ≡ [] → ⊥
something [] s rs e = cc e
something (b ∷ bs) s rs e = cc e

-- where there is no run, there is no text and no style
pub no_text : (ss : List Styling) (t : List ℕ) → runs_in ss t ≡ [] → t ≡ []
no_text [] t e = nothing t e
no_text (s ∷ ss) t e = absurd (something (string_bytes s.text) s.style (runs_in ss t) e)

pub no_style : (ss : List Styling) (t : List ℕ) → runs_in ss t ≡ [] → ss ≡ []
no_style [] t e = refl
no_style (s ∷ ss) t e = absurd (something (string_bytes s.text) s.style (runs_in ss t) e)

pub nothing_left : (ss : List Styling) (t : List ℕ) → ss ≡ [] → t ≡ [] → runs_in ss t ≡ []
nothing_left ss t e f = ap (λ (w : List Styling). runs_in w t) e ∙ ap (λ (w : List ℕ). before (text w) []) f

only_one : (t : List ℕ) → Some t ≡ only_text (before (text t) [])
only_one [] = refl
only_one (b ∷ bs) = refl

-- the text of runs without a style
pub only_text-none : (ss : List Styling) (t : List ℕ) → ss ≡ [] → Some t ≡ only_text (runs_in ss t)
only_text-none ss t e = only_one t ∙ ap (λ (w : List Styling). only_text (runs_in w t)) (sym e)

some_style : (t : List ℕ) (s : Style) (rs : List Run) → None ≡ only_text (before (text t) (style s ∷ rs))
some_style [] s [] = refl
some_style [] s (r ∷ rs) = refl
some_style (b ∷ bs) s rs = refl

pub only_text-some : (ss : List Styling) (t : List ℕ) → 0 < length ss → None ≡ only_text (runs_in ss t)
only_text-some [] t l = absurd (omega (arith, l))
only_text-some (s ∷ ss) t l = some_style (string_bytes s.text) s.style (runs_in ss t)

plain_one : (t : List ℕ) → t ≡ plain_bytes (before (text t) [])
plain_one [] = refl
plain_one (b ∷ bs) = sym (append-nil (b ∷ bs))

pub plain_alone : (ss : List Styling) (t : List ℕ) → ss ≡ [] → t ≡ plain_bytes (runs_in ss t)
plain_alone ss t e = plain_one t ∙ ap (λ (w : List Styling). plain_bytes (runs_in w t)) (sym e)

-- what holds, holds of each error
pub on_any_error : {V E P : Type 0} (r : Result V E) → P → OnErr r P
on_any_error (Ok v) p = tt
on_any_error (Err e) p = p
