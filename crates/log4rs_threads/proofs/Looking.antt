-- Each step keeps the rule over what is published.
use Rattle.std.proofs.Common.{◌≡◌, ◌≢◌, ℕ, List, [], ◌∷◌, ◌++◌, set, refl, sym, ◌∙◌, ap, subst, ⊎_elim, Some}
use Rattle.std.specs.Prelude.{fold, IfSome, None, Option, Result, Ok, Err, MatchResult}
use Rattle.std.specs.Arc.{arc_value}
use mathlib.Core.Option.{some}
use lib.ListN.{get_elem?}
use Rattle.crossbeam_utils.specs.Register.{Admits, TurnsAt, Turns, Forks, Merges}
use Rattle.atomic_table.proofs.Lists.{at_set, at_snoc}
use Rattle.log4rs_config.specs.Settings.{Settings}
use Rattle.log4rs_threads.specs.declared.publish.published.PublishedSwap.{PublishedSwap}
use Rattle.log4rs_threads.specs.declared.publish.published.Opening.{Opening}
use Rattle.log4rs_threads.specs.declared.publish.published.Published.{Published}
use Rattle.log4rs_threads.specs.declared.publish.published.Shown.{Shown}
use Rattle.log4rs_threads.specs.declared.publish.published.View.{View}
use Rattle.log4rs_threads.specs.Rule.{Fits, newcomer, taught, LearnsOpening, HoldsFor, Holds, Looks}
use Rattle.log4rs_threads.specs.Shows.{shown, after, with_told, IsOf}
use Rattle.log4rs_threads.specs.Swaps.{StartsWith, Tidings}
use Rattle.log4rs_threads.proofs.Beginnings.{starts_same, starts_empty, starts_more}

fits_newcomer : (opening : Opening) (swaps : List Settings) → Fits opening swaps newcomer
fits_newcomer opening swaps = record { known = tt; seen = starts_empty swaps }

fits_more : (opening : Opening) (swaps more : List Settings) (v : View) → StartsWith more swaps → Fits opening swaps v → Fits opening more v
fits_more opening swaps more v s f = record { known = f.known; seen = starts_more v.seen swaps more s f.seen }

-- one view changes to one that fits
fits_set : (opening : Opening) (swaps : List Settings) (views : List View) (seat : ℕ) (w : View)
    → ((j : ℕ) (u : View) → get_elem? views j ≡ some u → Fits opening swaps u) → Fits opening swaps w
    → (j : ℕ) (u : View) → get_elem? (set views seat w) j ≡ some u → Fits opening swaps u
fits_set opening swaps views seat w all f j u e =
    ⊎_elim (λ (t : (j ≡ seat) × (w ≡ u)). let P : View → Type 0 = Fits opening swaps in subst P t.1 f)
    (λ (t : (j ≢ seat) × (get_elem? views j ≡ some u)). all j u t.1) (at_set views seat j w u e)

-- one view more, which fits
fits_snoc : (opening : Opening) (swaps : List Settings) (views : List View) (w : View)
    → ((j : ℕ) (u : View) → get_elem? views j ≡ some u → Fits opening swaps u) → Fits opening swaps w
    → (j : ℕ) (u : View) → get_elem? (views ++ w ∷ []) j ≡ some u → Fits opening swaps u
fits_snoc opening swaps views w all f j u e =
    ⊎_elim (all j u) (λ (is : w ≡ u). let P : View → Type 0 = Fits opening swaps in subst P is f) (at_snoc views w u j e)

-- a reader who knows nothing is let in
pub admits : Admits Holds newcomer
admits p views holds =
    let opening = (shown p).opening in
    let swaps = (shown p).told.swaps in
    (holds.0, fits_snoc opening swaps views newcomer holds.1 (fits_newcomer opening swaps))

-- a reading takes in all that is published
pub looks : (seat : ℕ) (v : View) → Turns Holds seat v (λ p. p) Looks
looks seat v p views holds at =
    let swaps = (shown p).told.swaps in
    let f = holds.1 seat v at in
    let w : View = record { opening = Some (shown p).opening; seen = swaps } in (
      w,
      (holds.0, fits_set (shown p).opening swaps views seat w holds.1 record { known = refl; seen = starts_same swaps }),
      record { seen = f.seen; all = refl; opening = refl; known = f.known; fits = holds.0 },
    )

-- what is shown is shown once more, and its opening learned
pub opens : (seat : ℕ) (v : View) (p q : Published) → shown q ≡ shown p → TurnsAt Holds seat v p q LearnsOpening
opens seat v p q is views holds at =
    let swaps = (shown p).told.swaps in
    let w : View = record { opening = Some (shown q).opening; seen = [] } in
    let P : Shown → Type 0 = λ s. HoldsFor s (set views seat (record { opening = Some s.opening; seen = [] })) in (
      w,
      subst P (sym is) (holds.0, fits_set (shown p).opening swaps views seat _ holds.1 record { known = refl; seen = starts_empty swaps }),
      refl,
    )

-- what begins with what was shown is shown
pub shows : (seat : ℕ) (v : View) (p q : Published) (told : Tidings Settings) → shown q ≡ with_told (shown p) told → IsOf (shown p).opening told
    → StartsWith told.swaps (shown p).told.swaps → TurnsAt Holds seat v p q (λ v p q w. w ≡ v)
shows seat v p q told is of more views holds at =
    let opening = (shown p).opening in
    let old = (shown p).told.swaps in
    let P : Shown → Type 0 = λ s. HoldsFor s (set views seat v) in (
      v,
      subst P (sym is) (
        of,
        fits_set opening told.swaps views seat v (λ j u e. fits_more opening old told.swaps u more (holds.1 j u e)) (fits_more opening old told.swaps v more (holds.1 seat v at)),
      ),
      refl,
    )

-- what one knows is cut off as a view of its own
pub forks : (seat : ℕ) (v : View) → Forks Holds seat v v v
forks seat v p views holds at =
    let opening = (shown p).opening in
    let swaps = (shown p).told.swaps in
    (holds.0, fits_snoc opening swaps (set views seat v) v (fits_set opening swaps views seat v holds.1 (holds.1 seat v at)) (holds.1 seat v at))

-- and another takes it in
pub merges : (seat : ℕ) (v : View) (other : ℕ) (note : View) → Merges Holds seat v other note (taught v note) newcomer
merges seat v other note p views holds at apart there =
    let opening = (shown p).opening in
    let swaps = (shown p).told.swaps in
    let f = holds.1 seat v at in
    let note_at : get_elem? views other ≡ some note =
    ⊎_elim (λ (t : (other ≡ seat) × (taught v note ≡ note)). absurd (apart t.0)) (λ (t : (other ≢ seat) × (get_elem? views other ≡ some note)). t.1)
    (at_set views seat other (taught v note) note there) in
    let g = holds.1 other note note_at in
    let fits : Fits opening swaps (taught v note) = record { known = g.known; seen = f.seen } in
    (holds.0, fits_set opening swaps (set views seat (taught v note)) other newcomer (fits_set opening swaps views seat (taught v note) holds.1 fits) (fits_newcomer opening swaps))

-- of the swaps that are absorbed the last one stays
last_stays : (s : Shown) (swaps : List (Option PublishedSwap)) (published_swap : PublishedSwap) → fold after s (swaps ++ Some published_swap ∷ []) ≡ with_told s published_swap.told
last_stays s [] published_swap = refl
last_stays s (None ∷ swaps) published_swap = last_stays s swaps published_swap
last_stays s (Some e ∷ swaps) published_swap = last_stays (with_told s e.told) swaps published_swap

-- what is shown after an published_swap behind others
pub shown_next : (s next : Shown) (swaps : List (Option PublishedSwap)) (published_swap : PublishedSwap) (all : List (Option PublishedSwap)) → all ≡ swaps ++ Some published_swap ∷ []
    → next ≡ fold after s all → next ≡ with_told s published_swap.told
shown_next s next swaps published_swap all is e = e ∙ (ap (fold after s) is ∙ last_stays s swaps published_swap)

-- what is shown after no published swap
pub shown_same : (s next : Shown) (before all : List (Option PublishedSwap)) → before ≡ [] → all ≡ before ++ None ∷ [] → next ≡ fold after s all → next ≡ s
shown_same s next before all none is e = e ∙ ap (fold after s) (is ∙ ap (λ (l : List (Option PublishedSwap)). l ++ None ∷ []) none)

-- a published swap over appenders of the opening's names, in the history that began there
pub is_of : (opening : Opening) (published_swap : PublishedSwap) → published_swap.told.book ≡ opening.began.book → (arc_value published_swap.lists).appenders ≡ opening.names → IsOf opening published_swap.told
is_of opening published_swap book names =
    let P : Option Settings → Type 0 = λ o. IfSome o (λ lists. lists.appenders ≡ opening.names) in
    (book, subst P (sym published_swap.last) names)

-- what is so where a call answered Ok
pub at_ok : {X Y : Type 0} (r : Result X Y) (x : X) (P Q : Type 0) → r ≡ Ok x → MatchResult r (λ _. P) (λ _. Q) → P
at_ok (Ok y) x P Q is m = m
at_ok (Err e) x P Q is m = absurd (cc is)
