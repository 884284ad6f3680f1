-- The reload step, row by row.
use Rattle.std.specs.Prelude.{◌≡◌, ◌≢◌, ◌⊎◌, ℕ, List, [], ◌∷◌, ◌++◌, Option, Some, None, Result, Ok}
use Rattle.std.specs.Prelude.{Err, string_bytes, ⊤}
use Rattle.log4rs_settings.specs.declared.text.Format.{Format}
use Rattle.log4rs_settings.specs.Answers.{Answer, Answered, stamped, no_stamp, has_text, no_text}
use Rattle.log4rs_settings.specs.Answers.{Told}
use Rattle.log4rs_settings.specs.declared.load.LoadedText.{LoadedText}
use Rattle.log4rs_settings.specs.declared.source.SourceError.TheVariants.{Refused}
use Rattle.log4rs_settings.specs.declared.reload.ReloadOf.{ReloadOf}
use Rattle.log4rs_settings.specs.declared.reload.ReloadOf.TheVariants.{Same, Swap}
use Rattle.log4rs_settings.specs.declared.reload.ReloadError.{ReloadError}
use Rattle.log4rs_settings.specs.declared.reload.ReloadError.TheVariants.{Modified, Read, Parse}
use Rattle.log4rs_settings.specs.declared.reload.ReloadError.TheVariants.{Memory}
use Rattle.log4rs_settings.specs.declared.reload.Asked.{Asked}
use Rattle.log4rs_settings.specs.declared.reload.Asked.TheVariants.{Same as Unchanged, Changed}
use Rattle.log4rs_settings.specs.declared.load.LoadError.{LoadError}
use Rattle.log4rs_settings.specs.declared.load.LoadError.TheVariants.{Refused as no_configuration, Memory as NoMemory}
use Rattle.log4rs_settings.specs.declared.reload.ChangedText.{ChangedText}
use Rattle.log4rs_settings.specs.declared.reload.Reloader.{Reloader}

-- what a reloader knows of its source
pub record ReloaderState : Type 0 where
  pub format : Format
  pub source : List ℕ
  pub stamp : Option ℕ
  pub rate : Option ℕ

-- what this reloader knows
abbrev pub state_of : Reloader → ReloaderState
state_of r = record {
  format = r.format;
  source = string_bytes r.source;
  stamp = r.stamp;
  rate = r.rate;
}

-- what a step answers
pub data Outcome (C A E : Type 0) : Type 0 where
  same : Outcome C A E
  swap : LoadedText C A E → Outcome C A E
  failed : ReloadError → Outcome C A E

-- the answer that this result is
abbrev pub answer_of : {C A E : Type 0} → Result (ReloadOf C A E) ReloadError → Outcome C A E
answer_of (Ok Same) = same
answer_of (Ok (Swap c a e r)) =
    swap (record { config = c; appender_errors = a; config_errors = e; rate = r })
answer_of (Err e) = failed e

-- the stamp is asked for where one is kept, and the text where none is or another one came
abbrev pub Asks : ReloaderState → Option ℕ → List Answer → Type 0
Asks k None asked = (k.stamp ≡ None) × (asked ≡ [])
Asks k (Some now) asked =
    (last : ℕ) × (k.stamp ≡ Some last) × (now ≢ last) × (asked ≡ stamped now ∷ [])

-- what is found: the same text, another one under a stamp, or an error
pub data Found : Type 0 where
  unchanged : Found
  changed : List ℕ → Option ℕ → Found
  none_found : ReloadError → Found

-- what was found, as this result says
abbrev pub found_of : Result (Option ChangedText) ReloadError → Found
found_of (Ok None) = unchanged
found_of (Ok (Some c)) = changed (string_bytes c.text) c.stamp
found_of (Err e) = none_found e

-- the rows in which nothing is loaded: what was kept, what the source answered, what is found,
-- and what is kept then
pub data LookRow (k : ReloaderState) : List Answer → Found → ReloaderState → Type 0 where
  stamp_refused : (last : ℕ) → k.stamp ≡ Some last
      → LookRow k (no_stamp Refused ∷ []) (none_found Modified) k
  stamp_equal : (last : ℕ) → k.stamp ≡ Some last → LookRow k (stamped last ∷ []) unchanged k
  text_refused : (stamp : Option ℕ) (asked : List Answer) → Asks k stamp asked
      → LookRow k (asked ++ no_text Refused ∷ []) (none_found Read) (record k { stamp = stamp })
  text_equal : (stamp : Option ℕ) (asked : List Answer) → Asks k stamp asked
      → LookRow k (asked ++ has_text k.source ∷ []) unchanged (record k { stamp = stamp })

-- such a row, with the new answers of a source that tells them; or another text, which is not kept;
-- or want of memory, which leaves what is kept as it was
abbrev pub Looks : Answered → Answered → ReloaderState → Found → ReloaderState → Type 0
Looks old told k (changed text stamp) k' =
    (asked : List Answer) × Asks k stamp asked × (text ≢ k.source)
    × Told old told (asked ++ has_text text ∷ []) × (k' ≡ k)
Looks old told k (none_found Memory) k' = k' ≡ k
Looks old told k found k' = (asked : List Answer) × Told old told asked × LookRow k asked found k'

-- over what a text gives, or that it is refused, and what loads it before and after
module _ {C A E L : Type 0} (Gives : List ℕ → Option (LoadedText C A E) → L → L → Type 0) where
  -- the rows: nothing is loaded; another text is no configuration; or it is one
  pub data Row (k : ReloaderState) (loader : L)
      : List Answer → Outcome C A E → ReloaderState → L → Type 0 where
    stays_same : (asked : List Answer) (k' : ReloaderState) → LookRow k asked unchanged k'
        → Row k loader asked same k' loader
    finds_none : (asked : List Answer) (e : ReloadError) (k' : ReloaderState)
        → LookRow k asked (none_found e) k' → Row k loader asked (failed e) k' loader
    text_wrong : (stamp : Option ℕ) (asked : List Answer) (text : List ℕ) (loader' : L)
        → Asks k stamp asked → text ≢ k.source → Gives text None loader loader'
        → Row k loader (asked ++ has_text text ∷ []) (failed Parse)
        (record k { source = text; stamp = stamp }) loader'
    text_new : (stamp : Option ℕ) (asked : List Answer) (text : List ℕ)
        (loaded : LoadedText C A E) (loader' : L)
        → Asks k stamp asked → text ≢ k.source → Gives text (Some loaded) loader loader'
        → Row k loader (asked ++ has_text text ∷ []) (swap loaded)
        (record k { source = text; stamp = stamp; rate = loaded.rate }) loader'

  -- a row with some answers, which are the new ones of a source that tells them
  abbrev pub Steps : Answered → Answered → ReloaderState → L → Outcome C A E → ReloaderState → L
      → Type 0
  Steps old told k l o k' l' = (asked : List Answer) × Told old told asked × Row k l asked o k' l'

  -- a row, or want of memory, which leaves what is kept as it was
  abbrev pub Reloads : Answered → Answered → ReloaderState → L → Outcome C A E → ReloaderState → L
      → Type 0
  Reloads old told k l same k' l' = Steps old told k l same k' l'
  Reloads old told k l (swap loaded) k' l' = Steps old told k l (swap loaded) k' l'
  Reloads old told k l (failed Memory) k' l' = k' ≡ k
  Reloads old told k l (failed e) k' l' = Steps old told k l (failed e) k' l'

-- what stays of a maker and of what loads texts stayed,
-- or nothing was loaded and both are as they were
abbrev pub StaysOrSame : {M L : Type 0} → (M → L → M → L → Type 0) → M → L → M → L → Type 0
StaysOrSame Stays maker loader maker' loader' =
    Stays maker loader maker' loader' ⊎ ((loader' ≡ loader) × (maker' ≡ maker))

-- what a changed text gave, is answered: a configuration is taken over with its rate, a text that is none is kept,
-- and want of memory leaves what is kept as it was
abbrev pub Settles : {C A E : Type 0} → ReloaderState → List ℕ → Option ℕ
    → Result (LoadedText C A E) LoadError → Outcome C A E → ReloaderState → Type 0
Settles k text stamp (Ok loaded) answer k' =
    (answer ≡ swap loaded)
    × (k' ≡ record k { source = text; stamp = stamp; rate = loaded.rate })
Settles k text stamp (Err no_configuration) answer k' =
    (answer ≡ failed Parse) × (k' ≡ record k { source = text; stamp = stamp })
Settles k text stamp (Err NoMemory) answer k' = (answer ≡ failed Memory) × (k' ≡ k)

-- for a private clause: the stamp was asked for, where one is kept
abbrev pub AsksStamp : Answered → Answered → ReloaderState → Result Asked ReloadError → Type 0
AsksStamp old told k (Ok Unchanged) =
    (last : ℕ) × (k.stamp ≡ Some last) × Told old told (stamped last ∷ [])
AsksStamp old told k (Ok (Changed stamp)) =
    (asked : List Answer) × Asks k stamp asked × Told old told asked
AsksStamp old told k (Err Modified) =
    (last : ℕ) × (k.stamp ≡ Some last) × Told old told (no_stamp Refused ∷ [])
AsksStamp old told k (Err Memory) = ⊤
AsksStamp old told k (Err e) = ⊥
