-- Segments from a start.
use Rattle.std.proofs.Common.{◌≡◌, ◌≤◌, ◌<◌, ℕ, zero, suc, List, [], ◌∷◌, ◌++◌, length, reverse, Option, Some, None, refl, sym, ap, ◌∙◌, subst, Bool, true, false, arith, nat_lt, if◌then◌else◌}
use Rattle.std.specs.Option.{option_to_list}
use Rattle.std.proofs.lemmas.Bool.Decides.{nat_tests}
use Rattle.std.proofs.lemmas.List.{reverse-append, length-reverse}
use Rattle.log4rs_rolling.specs.Change.{Files, bytes_at}
use Rattle.log4rs_rolling.specs.Window.{contents, NoGaps}
use Rattle.log4rs_rolling.specs.Segments.{Segments, nth, Holds, Shows, ShowsAfter, add, add_all, begun, Grows, texts_of, files_behind}

-- Places of lists

nth_front : (i : ℕ) (xs ys : List (List ℕ)) → i < length xs → nth i (xs ++ ys) ≡ nth i xs
nth_front i [] ys below = absurd (omega arith)
nth_front zero (x ∷ xs) ys below = refl
nth_front (suc i) (x ∷ xs) ys below = nth_front i xs ys (omega arith)

nth_behind : (i : ℕ) (xs : List (List ℕ)) (x : List ℕ) → length xs ≡ i → nth i (xs ++ x ∷ []) ≡ Some x
nth_behind zero [] x is = refl
nth_behind (suc i) [] x is = absurd (omega arith)
nth_behind zero (y ∷ xs) x is = absurd (omega arith)
nth_behind (suc i) (y ∷ xs) x is = nth_behind i xs x (omega arith)

nth_past : (i : ℕ) (xs : List (List ℕ)) → length xs ≤ i → nth i xs ≡ None
nth_past i [] past = refl
nth_past zero (x ∷ xs) past = absurd (omega arith)
nth_past (suc i) (x ∷ xs) past = nth_past i xs (omega arith)

-- The archives of a start

some_not : (x : List ℕ) → Some x ≡ None → ⊥
some_not x e = cc

gapless_behind : (files : Files) (name : List ℕ) (newer : List (List ℕ)) → NoGaps files (name ∷ newer) → NoGaps files newer
gapless_behind files name [] gapless = tt
gapless_behind files name (next ∷ newer) gapless = gapless.1

-- where a name has a file, the next newer one has one
there : (files : Files) (name next x : List ℕ) (v : Option (List ℕ)) → files next ≡ v → (files next ≡ None → files name ≡ None) → files name ≡ Some x → (y : List ℕ) × (files next ≡ Some y)
there files name next x None none gapless is = absurd (some_not x (sym is ∙ gapless none))
there files name next x (Some y) some gapless is = (y, some)

all_there : (files : Files) (name x : List ℕ) (newer : List (List ℕ)) → NoGaps files (name ∷ newer) → files name ≡ Some x → length (contents files newer) ≡ length newer
all_there files name x [] gapless is = refl
all_there files name x (next ∷ newer) gapless is =
    let found = there files name next x (files next) refl gapless.0 is in
    ap (λ (v : Option (List ℕ)). length (option_to_list v ++ contents files newer)) found.1 ∙ ap suc (all_there files next found.0 newer gapless.1 found.1)

one_more : (v : Option (List ℕ)) (rest : List (List ℕ)) (n : ℕ) → length rest ≤ n → length (option_to_list v ++ rest) ≤ suc n
one_more None rest n most = omega arith
one_more (Some x) rest n most = omega arith

at_most : (files : Files) (ns : List (List ℕ)) → length (contents files ns) ≤ length ns
at_most files [] = omega arith
at_most files (n ∷ ns) = one_more (files n) (contents files ns) (length ns) (at_most files ns)

holds_more : (files : Files) (ns closed more : List (List ℕ)) → length ns ≤ length closed → Holds files ns closed → Holds files ns (closed ++ more)
holds_more files [] closed more fits holds = tt
holds_more files (n ∷ ns) closed more fits holds =
    (holds.0 ∙ sym (nth_front (length ns) closed more (omega arith)), holds_more files ns closed more (omega arith) holds.1)

holds_next : (files : Files) (n : List ℕ) (ns : List (List ℕ)) (v : Option (List ℕ)) → files n ≡ v → NoGaps files (n ∷ ns) → Holds files ns (reverse (contents files ns))
    → Holds files (n ∷ ns) (reverse (option_to_list v ++ contents files ns))
holds_next files n ns None none gapless behind =
    (none ∙ sym (nth_past (length ns) (reverse (contents files ns)) (let most = at_most files ns in let same = length-reverse (contents files ns) in omega arith)), behind)
holds_next files n ns (Some x) some gapless behind =
    let newer = contents files ns in
    let count : length (reverse newer) ≡ length ns = length-reverse newer ∙ all_there files n x ns gapless some in
    subst (Holds files (n ∷ ns)) (sym (reverse-append (x ∷ []) newer))
    (some ∙ sym (nth_behind (length ns) (reverse newer) x count), holds_more files ns (reverse newer) (x ∷ []) (omega arith) behind)

holds_first : (files : Files) (ns : List (List ℕ)) → NoGaps files ns → Holds files ns (reverse (contents files ns))
holds_first files [] gapless = tt
holds_first files (n ∷ ns) gapless = holds_next files n ns (files n) refl gapless (holds_first files ns (gapless_behind files n ns gapless))

pub begins : (archives : List (List ℕ)) (active : List ℕ) (files : Files) → NoGaps files archives → Shows (begun archives active files) archives active files
begins archives active files gapless = record { closed = holds_first files archives gapless; current = refl }

-- Runs

pub goes_on : (limit : ℕ) (archives : List (List ℕ)) (active : List ℕ) (files : Files) (steps : List (List ℕ × Files)) (segments : Segments)
    → Grows limit archives active files steps → Shows segments archives active files
    → Shows (add_all limit segments (texts_of steps)) archives active (files_behind files steps)
goes_on limit archives active files [] segments grows shows = shows
goes_on limit archives active files (step ∷ steps) segments grows shows =
    goes_on limit archives active step.1 steps (add limit segments step.0) grows.1 (grows.0 segments shows).shows

-- The open segment

abbrev closed_if : Bool → List ℕ → List (List ℕ) → Segments
closed_if b whole closed = if b then record { closed = whole ∷ closed; current = [] } else record { closed = closed; current = whole }

closed_or_not : (limit : ℕ) (whole : List ℕ) (closed : List (List ℕ)) (b : Bool) → nat_lt limit (length whole) ≡ b → length (closed_if b whole closed).current ≤ limit
closed_or_not limit whole closed true is = omega arith
closed_or_not limit whole closed false is = grind (arith, nat_tests)

within_limit : (limit : ℕ) (segments : Segments) (text : List ℕ) → length (add limit segments text).current ≤ limit
within_limit limit segments text =
    let whole = segments.current ++ text in
    closed_or_not limit whole segments.closed (nat_lt limit (length whole)) refl

pub within : (limit : ℕ) (segments : Segments) (text : List ℕ) (archives : List (List ℕ)) (active : List ℕ) (files : Files)
    → ShowsAfter limit segments text archives active files → length (bytes_at files active) ≤ limit
within limit segments text archives active files after =
    subst (λ (bytes : List ℕ). length bytes ≤ limit) (sym after.shows.current) (within_limit limit segments text)
