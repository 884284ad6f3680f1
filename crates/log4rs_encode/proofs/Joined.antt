-- Joined runs.
use Rattle.std.proofs.Common.{◌≡◌, ℕ, List, [], ◌∷◌, ◌++◌, refl, sym, ap, subst, ◌∙◌, arith}
use Rattle.std.proofs.lemmas.List.{append_assoc, append-nil}
use Rattle.log4rs_encode.specs.declared.styles.Style.{Style}
use Rattle.log4rs_encode.specs.Runs.{Run, text, style, before, join, IsJoined}

pub join-IsJoined : (rs : List Run) → IsJoined rs → join rs ≡ rs
join-IsJoined [] h = refl
join-IsJoined (text [] ∷ rs) h = absurd (omega (arith, h.0))
join-IsJoined (text (b ∷ bs) ∷ []) h = refl
join-IsJoined (text (b ∷ bs) ∷ text t ∷ rs) h = absurd h.1
join-IsJoined (text (b ∷ bs) ∷ style s ∷ rs) h = ap (before (text (b ∷ bs))) (join-IsJoined (style s ∷ rs) h.2)
join-IsJoined (style s ∷ rs) h = ap (λ x. style s ∷ x) (join-IsJoined rs h)

pub before_joined : (r : Run) (rs : List Run) → IsJoined rs → IsJoined (before r rs)
before_joined (text []) rs h = h
before_joined (text (b ∷ bs)) [] h = (omega arith, tt, tt)
before_joined (text (b ∷ bs)) (text t ∷ rs) h = (omega arith, h.1, h.2)
before_joined (text (b ∷ bs)) (style s ∷ rs) h = (omega arith, tt, h)
before_joined (style s) rs h = h

-- what is joined is joined
pub IsJoined-join : (rs : List Run) → IsJoined (join rs)
IsJoined-join [] = tt
IsJoined-join (r ∷ rs) = before_joined r (join rs) (IsJoined-join rs)

pub IsJoined-style : (rs : List Run) (s : Style) → IsJoined rs → IsJoined (rs ++ style s ∷ [])
IsJoined-style [] s h = tt
IsJoined-style (text t ∷ []) s h = (h.0, tt, tt)
IsJoined-style (text t ∷ text u ∷ rs) s h = absurd h.1
IsJoined-style (text t ∷ style u ∷ rs) s h = (h.0, tt, IsJoined-style (style u ∷ rs) s h.2)
IsJoined-style (style u ∷ rs) s h = IsJoined-style rs s h

-- a run before others that are joined later
pub before_join : (r : Run) (xs ys : List Run) → join (before r xs ++ ys) ≡ before r (join (xs ++ ys))
before_join (text []) xs ys = refl
before_join (text (b ∷ bs)) [] ys = refl
before_join (text (b ∷ bs)) (text [] ∷ xs) ys = ap (λ w. before (text (b ∷ w)) (join (xs ++ ys))) (append-nil bs)
before_join (text (b ∷ bs)) (text (d ∷ ds) ∷ xs) ys = two b bs d ds (join (xs ++ ys))
  where
    two : (b : ℕ) (bs : List ℕ) (d : ℕ) (ds : List ℕ) (zs : List Run) → before (text ((b ∷ bs) ++ d ∷ ds)) zs ≡ before (text (b ∷ bs)) (before (text (d ∷ ds)) zs)
    two b bs d ds [] = refl
    two b bs d ds (text t ∷ zs) = ap (λ w. text w ∷ zs) (append_assoc (b ∷ bs) (d ∷ ds) t)
    two b bs d ds (style s ∷ zs) = refl
before_join (text (b ∷ bs)) (style s ∷ xs) ys = refl
before_join (style s) xs ys = refl

-- joining the front first changes nothing
pub join_front : (xs ys : List Run) → join (join xs ++ ys) ≡ join (xs ++ ys)
join_front [] ys = refl
join_front (r ∷ xs) ys = before_join r (join xs) ys ∙ ap (before r) (join_front xs ys)

-- joining the back first changes nothing
pub join_back : (xs ys : List Run) → join (xs ++ join ys) ≡ join (xs ++ ys)
join_back [] ys = join-IsJoined (join ys) (IsJoined-join ys)
join_back (r ∷ xs) ys = ap (before r) (join_back xs ys)

-- an empty text adds nothing
pub join-empty : (xs : List Run) → IsJoined xs → xs ≡ join (xs ++ text [] ∷ [])
join-empty xs h = sym (sym (join_back xs (text [] ∷ [])) ∙ ap join (append-nil xs) ∙ join-IsJoined xs h)

pub IsJoined-from : (ys xs : List Run) → ys ≡ join xs → IsJoined ys
IsJoined-from ys xs e = subst IsJoined (sym e) (IsJoined-join xs)

-- one text after another
pub one_text : (t u : List ℕ) → before (text t) (before (text u) []) ≡ before (text (t ++ u)) []
one_text [] u = refl
one_text (b ∷ bs) [] = ap (λ (w : List ℕ). text (b ∷ w) ∷ []) (sym (append-nil bs))
one_text (b ∷ bs) (c ∷ cs) = refl
