-- The rows, from what was told.
use Rattle.std.proofs.Common.{ℕ, List, [], ◌∷◌, ◌++◌, Option, Some, None, Result, Ok, Err, IfOk, IfErr, refl, ap, subst, ◌≡◌, ◌∙◌, append_assoc}
use Rattle.log4rs_settings.specs.Answers.{Answer, Answered, ToldOne, Told, has_text, no_stamp}
use Rattle.log4rs_settings.specs.Reload.{ReloaderState, Outcome, same, failed, unchanged, changed, none_found, Looks, AsksStamp, stamp_refused, stays_same, finds_none, text_wrong, text_new, Reloads, Settles}
use Rattle.log4rs_settings.specs.declared.load.LoadError.{LoadError}
use Rattle.log4rs_settings.specs.declared.load.LoadError.TheVariants as load
use Rattle.log4rs_settings.specs.declared.load.LoadedText.{LoadedText}
use Rattle.log4rs_settings.specs.declared.reload.ReloadError.{ReloadError}
use Rattle.log4rs_settings.specs.declared.source.SourceError.TheVariants.{Refused}
use Rattle.log4rs_settings.specs.declared.reload.ReloadError.TheVariants.{Modified, Read, Parse, Memory}

-- answers and one more
pub told_last : (old mid told : Answered) (asked : List Answer) (a : Answer) → Told old mid asked → ToldOne mid told a → Told old told (asked ++ a ∷ [])
told_last None mid told asked a t n = subst (λ m. ToldOne m told a) t n
told_last (Some old) mid told asked a t n =
    let n' : ToldOne (Some (old ++ asked)) told a = subst (λ m. ToldOne m told a) t n in
    n' ∙ ap Some (append_assoc old asked (a ∷ []))

-- no stamp came
pub failed_ask : (old told : Answered) (k : ReloaderState) (e : ReloadError) → AsksStamp old told k (Err e) → Looks old told k (none_found e) k
failed_ask old told k Modified h = (no_stamp Refused ∷ [], h.2, stamp_refused h.0 h.1)
failed_ask old told k Memory h = refl
failed_ask old told k Read h = absurd h
failed_ask old told k Parse h = absurd h

module _ {C A E L : Type 0} (Gives : List ℕ → Option (LoadedText C A E) → L → L → Type 0) where
  -- the same text was found
  pub reloads_same : (old told : Answered) (k k' : ReloaderState) (l : L) → Looks old told k unchanged k' → Reloads Gives old told k l same k' l
  reloads_same old told k k' l h = (h.0, h.1, stays_same h.0 k' h.2)

  -- none was found
  pub reloads_none : (old told : Answered) (k k' : ReloaderState) (l : L) (e : ReloadError) → Looks old told k (none_found e) k' → Reloads Gives old told k l (failed e) k' l
  reloads_none old told k k' l Modified h = (h.0, h.1, finds_none h.0 Modified k' h.2)
  reloads_none old told k k' l Read h = (h.0, h.1, finds_none h.0 Read k' h.2)
  reloads_none old told k k' l Parse h = (h.0, h.1, finds_none h.0 Parse k' h.2)
  reloads_none old told k k' l Memory h = h

  -- another text was found, and loaded
  pub reloads_loaded : (old told : Answered) (k mid k' : ReloaderState) (l l' : L) (text : List ℕ) (stamp : Option ℕ) (loaded : Result (LoadedText C A E) LoadError) (answer : Outcome C A E)
      → Looks old told k (changed text stamp) mid → IfOk loaded (λ one. Gives text (Some one) l l') → IfErr loaded (λ e. e ≡ load.Refused → Gives text None l l')
      → Settles mid text stamp loaded answer k' → Reloads Gives old told k l answer k' l'
  reloads_loaded old told k mid k' l l' text stamp (Ok loaded) answer h ok err s =
      rw (s.0, s.1, h.4) (h.0 ++ has_text text ∷ [], h.3, text_new stamp h.0 text loaded l' h.1 h.2 ok)
  reloads_loaded old told k mid k' l l' text stamp (Err load.Refused) answer h ok err s =
      rw (s.0, s.1, h.4) (h.0 ++ has_text text ∷ [], h.3, text_wrong stamp h.0 text l' h.1 h.2 (err refl))
  reloads_loaded old told k mid k' l l' text stamp (Err load.Memory) answer h ok err s =
      rw s.0 (s.1 ∙ h.4)
