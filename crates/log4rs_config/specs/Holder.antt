-- What the holder of a configuration was asked and did.
use Rattle.std.specs.Prelude.{◌≡◌, ◌⊎◌, ℕ, Bool, List, [], ◌∷◌, ◌++◌, map, All, Option, Some, None, ⊤}
use Rattle.log4rs_append.specs.declared.locked.Locked.{Locked}
use Rattle.log4rs_config.specs.declared.runtime.shared.SharedAppender.{SharedAppender}

-- it returned the present appenders, or whether one is retired;
-- it retired one, when so many stores had been made, or resumed one; it put another
-- configuration in force
pub data HolderEvent (A : Type 0) : Type 0 where
  presents : List (SharedAppender A) → HolderEvent A
  answers_retired : Locked A → Bool → HolderEvent A
  retires : Locked A → Option ℕ → HolderEvent A
  resumes : Locked A → HolderEvent A
  swaps : HolderEvent A

-- all of that in order, of a holder that shows it
abbrev pub History : Type 0 → Type 0
History A = Option (List (HolderEvent A))

-- these came since; false of a holder that shows nothing more, where there are some
abbrev pub Happened : {A : Type 0} → History A → History A → List (HolderEvent A) → Type 0
Happened None new events = new ≡ None
Happened (Some old) new events = new ≡ Some (old ++ events)

module _ {A : Type 0} where
  -- each is retired, in order, when so many stores have been made; each is resumed, in order
  abbrev pub retirements : Option ℕ → List (SharedAppender A) → List (HolderEvent A)
  retirements made leaving = map (λ one. retires one.lock made) leaving

  abbrev pub resumptions : List (SharedAppender A) → List (HolderEvent A)
  resumptions leaving = map (λ one. resumes one.lock) leaving

  -- the holder replied, and did nothing
  abbrev pub IsReply : HolderEvent A → Type 0
  IsReply (retires lock made) = ⊥
  IsReply (resumes lock) = ⊥
  IsReply swaps = ⊥
  IsReply _ = ⊤

  abbrev pub OnlyReplies : History A → History A → Type 0
  OnlyReplies before after =
      (replies : List (HolderEvent A)) × All IsReply replies × Happened before after replies

  -- after replies, these were retired, in order; false where another one was, too, or one was resumed
  abbrev pub OnlyRetires
      : Option ℕ → History A → History A → List (SharedAppender A) → Type 0
  OnlyRetires made before after leaving =
      (replies : List (HolderEvent A)) × All IsReply replies
      × Happened before after (replies ++ retirements made leaving)

  -- each that was retired was resumed after that; false where one was not
  pub record IsUndone (made : Option ℕ) (before after : History A) : Type 0 where
    pub replies : List (HolderEvent A)
    pub leaving : List (SharedAppender A)
    pub only : All IsReply replies
    pub happened : Happened before after
        (replies ++ retirements made leaving ++ resumptions leaving)

  -- another configuration was put in force, or each that leaves was resumed, in order
  abbrev pub EndsBy : List (SharedAppender A) → List (HolderEvent A) → Type 0
  EndsBy leaving end = (end ≡ swaps ∷ []) ⊎ (end ≡ resumptions leaving)

  -- of one reading: what had left was retired again; then, after replies, what leaves was retired
  -- and another configuration put in force; false where one stays retired, and none was put there
  pub record HasReread
      (left : List (SharedAppender A)) (made : Option ℕ) (before after : History A)
      : Type 0 where
    pub tried : History A
    pub again : Happened before tried (retirements made left)
    pub replies : List (HolderEvent A)
    pub only : All IsReply replies
    pub leaving : List (SharedAppender A)
    pub end : List (HolderEvent A)
    pub ends : EndsBy leaving end
    pub happened : Happened tried after (replies ++ retirements made leaving ++ end)
