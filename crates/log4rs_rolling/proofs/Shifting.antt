-- A rotation that was answered Ok shifts the files of a window by one name.
use Rattle.std.proofs.Common.{◌≡◌, ◌≢◌, ℕ, List, [], ◌∷◌, Option, Some, None, refl, sym, ap, ◌∙◌, subst, ◌⊎◌, inl, inr}
use Rattle.std.specs.Option.{MatchOption}
use Rattle.log4rs_rolling.specs.Change.{Change, copied, renamed, removed, Files, put, replay}
use Rattle.log4rs_rolling.specs.Window.{NotAmong, AreDistinct, NoGaps, Shifted}
use Rattle.log4rs_rolling.specs.Moves.{MovedAll, each_to_the_older}
use Rattle.log4rs_rolling.proofs.Replays.{put_here, put_there}
use Rattle.log4rs_rolling.proofs.Calls.{replay-append}
use Rattle.log4rs_rolling.proofs.Windows.{renamed_from, renamed_to}

-- one move, where the source is there or the target is not
pub record MovedTo (old new : Files) (from to : List ℕ) : Type 0 where
  pub there : new to ≡ old from
  pub here : new from ≡ None
  pub others : (q : List ℕ) → q ≢ to → q ≢ from → new q ≡ old q

pub move_effect : (files : Files) (from to : List ℕ) (changes : List Change) (v : Option (List ℕ)) → files from ≡ v → from ≢ to → (files from ≡ None → files to ≡ None)
    → MatchOption v (changes ≡ []) (λ _. (changes ≡ renamed from to ∷ []) ⊎ (changes ≡ copied from to ∷ removed from ∷ []))
    → MovedTo files (replay files changes) from to
move_effect files from to changes None is differ gapless moved =
    subst (λ (c : List Change). MovedTo files (replay files c) from to) (sym moved)
    (record { there = gapless is ∙ sym is; here = is; others = λ q _ _. refl })
move_effect files from to changes (Some content) is differ gapless moved =
    elim moved [
      | inl once ↦ subst (λ (c : List Change). MovedTo files (replay files c) from to) (sym once)
          (record {
            there = renamed_to files from to;
            here = renamed_from files from to differ;
            others = λ q a b. put_there (put files from None) to (files from) q a ∙ put_there files from None q b;
          })
      | inr twice ↦ subst (λ (c : List Change). MovedTo files (replay files c) from to) (sym twice)
          (record {
            there = put_there (put files to (files from)) from None to (λ e. differ (sym e)) ∙ put_here files to (files from);
            here = put_here (put files to (files from)) from None;
            others = λ q a b. put_there (put files to (files from)) from None q b ∙ put_there files to (files from) q a;
          })
    ]

-- the moves along some names leave another name as it is
one_elsewhere : (files : Files) (from to q : List ℕ) (changes : List Change) (v : Option (List ℕ))
    → MatchOption v (changes ≡ []) (λ _. (changes ≡ renamed from to ∷ []) ⊎ (changes ≡ copied from to ∷ removed from ∷ []))
    → q ≢ to → q ≢ from → replay files changes q ≡ files q
one_elsewhere files from to q changes None moved a b = ap (λ (c : List Change). replay files c q) moved
one_elsewhere files from to q changes (Some content) moved a b =
    elim moved [
      | inl once ↦ ap (λ (c : List Change). replay files c q) once ∙ put_there (put files from None) to (files from) q a ∙ put_there files from None q b
      | inr twice ↦ ap (λ (c : List Change). replay files c q) twice ∙ put_there (put files to (files from)) from None q b ∙ put_there files to (files from) q a
    ]

moves_elsewhere : (ns : List (List ℕ)) (files : Files) (changes : List Change) (q : List ℕ) → NotAmong q ns → MovedAll files (each_to_the_older ns) changes → replay files changes q ≡ files q
moves_elsewhere [] files changes q other moved = ap (λ (c : List Change). replay files c q) moved
moves_elsewhere (n ∷ []) files changes q other moved = ap (λ (c : List Change). replay files c q) moved
moves_elsewhere (to ∷ from ∷ ns) files changes q other moved =
    ap (λ (c : List Change). replay files c q) moved.2
    ∙ ap (λ (f : Files). f q) (replay-append files moved.0 moved.1)
    ∙ moves_elsewhere (from ∷ ns) (replay files moved.0) moved.1 q other.1 moved.4
    ∙ one_elsewhere files from to q moved.0 (files from) moved.3 other.0 other.1.0

-- the same files at these names
abbrev SameOn : Files → Files → List (List ℕ) → Type 0
SameOn f g [] = Unit {0}
SameOn f g (n ∷ ns) = (f n ≡ g n) × SameOn f g ns

same_on : (old new : Files) (from to : List ℕ) (ns : List (List ℕ)) → MovedTo old new from to → NotAmong to ns → NotAmong from ns → SameOn new old ns
same_on old new from to [] effect a b = tt
same_on old new from to (n ∷ ns) effect a b = (effect.others n (λ e. a.0 (sym e)) (λ e. b.0 (sym e)), same_on old new from to ns effect a.1 b.1)

gapless_behind : (old new : Files) (n : List ℕ) (ns : List (List ℕ)) → SameOn new old (n ∷ ns) → NoGaps old (n ∷ ns) → NoGaps new (n ∷ ns)
gapless_behind old new n [] same gapless = tt
gapless_behind old new n (m ∷ ns) same gapless =
    (λ none. same.0 ∙ gapless.0 (sym same.1.0 ∙ none), gapless_behind old new m ns same.1 gapless.1)

gapless_after : (old new : Files) (n m : List ℕ) (ns : List (List ℕ)) → new n ≡ None → SameOn new old (m ∷ ns) → NoGaps old (m ∷ ns) → NoGaps new (n ∷ m ∷ ns)
gapless_after old new n m ns vacant same gapless = (λ _. vacant, gapless_behind old new m ns same gapless)

shifted_on : (old mid new : Files) (n : List ℕ) (ns : List (List ℕ)) → SameOn mid old ns → Shifted mid new (n ∷ ns) → Shifted old new (n ∷ ns)
shifted_on old mid new n [] same shifted = shifted
shifted_on old mid new n (m ∷ ns) same shifted = (shifted.0 ∙ same.0, shifted_on old mid new m ns same.1 shifted.1)

-- distinct names without a gap are shifted by one
pub moves_shift : (older newer : List ℕ) (ns : List (List ℕ)) (files : Files) (changes : List Change) → AreDistinct (older ∷ newer ∷ ns) → NoGaps files (older ∷ newer ∷ ns)
    → MovedAll files (each_to_the_older (older ∷ newer ∷ ns)) changes → Shifted files (replay files changes) (older ∷ newer ∷ ns)
moves_shift older newer [] files changes distinct gapless moved =
    let effect = move_effect files newer older moved.0 (files newer) refl (λ e. distinct.0.0 (sym e)) gapless.0 moved.3 in
    let is : replay files changes ≡ replay files moved.0 =
    ap (replay files) moved.2 ∙ replay-append files moved.0 moved.1 ∙ ap (replay (replay files moved.0)) moved.4 in
    subst (λ (f : Files). Shifted files f (older ∷ newer ∷ [])) (sym is) (effect.there, effect.here)
moves_shift older newer (newest ∷ ns) files changes distinct gapless moved =
    let mid = replay files moved.0 in
    let effect = move_effect files newer older moved.0 (files newer) refl (λ e. distinct.0.0 (sym e)) gapless.0 moved.3 in
    let same = same_on files mid newer older (newest ∷ ns) effect distinct.0.1 distinct.1.0 in
    let later = moves_shift newer newest ns mid moved.1 distinct.1 (gapless_after files mid newer newest ns effect.here same gapless.1.1) moved.4 in
    let is : replay files changes ≡ replay mid moved.1 = ap (replay files) moved.2 ∙ replay-append files moved.0 moved.1 in
    subst (λ (f : Files). Shifted files f (older ∷ newer ∷ newest ∷ ns)) (sym is) (
      moves_elsewhere (newer ∷ newest ∷ ns) mid moved.1 older distinct.0 moved.4 ∙ effect.there,
      shifted_on files mid (replay mid moved.1) newer (newest ∷ ns) same later,
    )
