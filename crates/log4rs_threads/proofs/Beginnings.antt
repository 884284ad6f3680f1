-- Beginnings of one history, and what they say was published.
use Rattle.std.proofs.Common.{◌≡◌, ℕ, ◌+◌, ◌≤◌, List, [], ◌∷◌, ◌++◌, length, Some, refl, ap, sym, ◌∙◌, arith, append_assoc, append-nil, length-append}
use Rattle.std.specs.Prelude.{Option}
use Rattle.std.specs.Option.{option_to_list}
use mathlib.Core.List.{IsPrefix}
use Rattle.logbook.specs.Pages.{Book}
use Rattle.log4rs_threads.specs.Entries.{published, IsCounted}
use Rattle.log4rs_threads.specs.Swaps.{StartsWith, Tidings}

pub starts_same : {L : Type 0} (xs : List L) → StartsWith xs xs
starts_same xs = ([], sym (append-nil xs))

pub starts_empty : {L : Type 0} (xs : List L) → StartsWith xs []
starts_empty xs = (xs, refl)

pub starts_more : {L : Type 0} (xs ys zs : List L) → StartsWith zs ys → StartsWith ys xs → StartsWith zs xs
starts_more xs ys zs s t = (t.0 ++ s.0, s.1 ∙ (ap (λ (w : List _). w ++ s.0) t.1 ∙ append_assoc xs t.0 s.0))

-- a beginning as long as the whole is the whole
pub prefix_whole : {A : Type 0} (xs ys : List A) → IsPrefix xs ys → length ys ≤ length xs → xs ≡ ys
prefix_whole [] [] p le = refl
prefix_whole [] (y ∷ ys) p le = absurd (omega arith)
prefix_whole (x ∷ xs) [] p le = absurd (cc (p.1))
prefix_whole (x ∷ xs) (y ∷ ys) p le =
    let rest = prefix_whole xs ys (p.0, cc (p.1)) (omega arith) in cc (p.1, rest)

-- of two beginnings of one list the shorter begins the longer
pub prefix_shorter : {A : Type 0} (xs ys zs : List A) → IsPrefix xs zs → IsPrefix ys zs → length xs ≤ length ys → IsPrefix xs ys
prefix_shorter [] ys zs p q le = (ys, refl)
prefix_shorter (x ∷ xs) [] zs p q le = absurd (omega arith)
prefix_shorter (x ∷ xs) (y ∷ ys) [] p q le = absurd (cc (p.1))
prefix_shorter (x ∷ xs) (y ∷ ys) (z ∷ zs) p q le =
    let heads : x ≡ y = cc (p.1, q.1) in
    let rest = prefix_shorter xs ys zs (p.0, cc (p.1)) (q.0, cc (q.1)) (omega arith) in
    (rest.0, cc (heads, rest.1))

pub prefix_more : {A : Type 0} (xs ys zs : List A) → IsPrefix xs ys → IsPrefix ys zs → IsPrefix xs zs
prefix_more xs ys zs p q = (p.0 ++ q.0, sym (append_assoc xs p.0 q.0) ∙ (ap (λ (w : List _). w ++ q.0) p.1 ∙ q.1))

-- what more entries publish
pub published-append : {L : Type 0} (xs ys : List (Option L × ℕ)) → published (xs ++ ys) ≡ published xs ++ published ys
published-append [] ys = refl
published-append (x ∷ xs) ys = ap (λ (zs : List _). option_to_list x.0 ++ zs) (published-append xs ys) ∙ sym (append_assoc (option_to_list x.0) (published xs) (published ys))

-- more entries publish what fewer did, and more
pub published_more : {L : Type 0} (xs ys : List (Option L × ℕ)) → IsPrefix xs ys → StartsWith (published ys) (published xs)
published_more xs ys p = (published p.0, ap published (sym p.1) ∙ published-append xs p.0)

-- of two beginnings that publish so much, the one that publishes no more begins the other
pub shorter : {L : Type 0} (m n : ℕ) (xs ys zs : List (Option L × ℕ)) → IsCounted m xs → IsCounted n ys → IsPrefix xs zs → IsPrefix ys zs → m ≤ n → StartsWith (published ys) (published xs)
shorter m n xs ys zs c d p q le =
    let less : length xs ≤ length ys = omega (arith, c.1, d.1) in published_more xs ys (prefix_shorter xs ys zs p q less)

-- what one entry more publishes
pub published_next : {L : Type 0} (log new : List (Option L × ℕ)) (lists : L) (key : ℕ) → new ≡ log ++ (Some lists, key) ∷ [] → published new ≡ published log ++ lists ∷ []
published_next log new lists key is = ap published is ∙ published-append log ((Some lists, key) ∷ [])

-- and how much
pub counted_next : {L : Type 0} (swaps : ℕ) (log new : List (Option L × ℕ)) (lists : L) (key : ℕ) → IsCounted swaps log → new ≡ log ++ (Some lists, key) ∷ [] → IsCounted (swaps + 1) new
counted_next swaps log new lists key c is = (
  omega (arith, c.0, ap length (published_next log new lists key is), length-append (published log) (lists ∷ [])),
  omega (arith, c.1, ap length is, length-append log ((Some lists, key) ∷ [])),
)

-- tidings of these parts
abbrev pub tidings : {L : Type 0} → List L → Book → Tidings L
tidings s b = record { swaps = s; book = b }

-- what is told after one entry more
pub tidings_next : {L : Type 0} (log new : List (Option L × ℕ)) (lists : L) (key : ℕ) (book book' : Book) → new ≡ log ++ (Some lists, key) ∷ [] → book' ≡ book
    → tidings (published new) book' ≡ tidings (published log ++ lists ∷ []) book
tidings_next log new lists key book book' is same = rw (published_next log new lists key is, same) refl
