-- Where kept archives end, in the stream of runs.
use Rattle.std.proofs.Common.{◌≡◌, ◌≤◌, ◌+◌, ◌-◌, ◌∙◌, ℕ, zero, suc, List, [], ◌∷◌, ◌++◌, Option, Some, None, length, map, take, drop, All, Contains, refl, sym, ap, subst, inl, inr, arith, unwrap_or}
use Rattle.std.proofs.lemmas.List.{append-nil, length-append}
use Rattle.std.proofs.lemmas.List.Elements.{All-nil, All-cons, Contains-append_right}
use Rattle.std.specs.Option.{option_to_list}
use Rattle.std.specs.List.{concat}
use Rattle.log4rs_rolling.specs.Change.{Change, Files, bytes_at, replay, written}
use Rattle.log4rs_rolling.specs.Window.{Window, NoCopies, AreDistinct, names, contents, kept}
use Rattle.log4rs_rolling.specs.ArchiveEnds.{total, ends_of, older_of, ends, IsAt, AreAt, EndsAt, longer}
use Rattle.log4rs_rolling.specs.Appends.{Reading}
use Rattle.log4rs_rolling.proofs.Windows.{contents-append}
use Rattle.log4rs_rolling.proofs.Ending.{EndsAt-front, EndsAt-last}
use Rattle.log4rs_restarts.specs.Acts.{RunDone, all_changes, AreAmong}
use Rattle.log4rs_restarts.specs.Runs.{AreRuns, all_cuts}
use Rattle.log4rs_restarts.specs.Cuts.{kept_places, EndAtCuts}
use Rattle.log4rs_restarts.specs.declared.settings.TriggerSettings.{TriggerSettings}
use Rattle.log4rs_restarts.specs.declared.run.RunReport.{RunReport}
use Rattle.log4rs_restarts.specs.declared.run.Run.{Run}
use Rattle.log4rs_restarts.proofs.Keeping.{runs_end}

-- The length of what is kept

joined_length : (cs : List (List ℕ)) (o : Option (List ℕ)) → length (concat (cs ++ (option_to_list o ++ []))) ≡ total cs (length (unwrap_or o []))
joined_length [] None = refl
joined_length [] (Some x) = ap (λ (b : List ℕ). length b) (append-nil x)
joined_length (c ∷ cs) o = length-append c (concat (cs ++ (option_to_list o ++ []))) ∙ ap (λ (n : ℕ). length c + n) (joined_length cs o)

kept_length : (w : Window) (files : Files) → length (kept w files) ≡ total (contents files (older_of w)) (length (bytes_at files w.active))
kept_length w files =
    ap (λ (cs : List (List ℕ)). length (concat cs)) (contents-append files (older_of w) (w.active ∷ []))
    ∙ joined_length (contents files (older_of w)) (files w.active)

-- Places

abbrev Below : ℕ → List ℕ → Type 0
Below at [] = Unit {0}
Below at (d ∷ ds) = (d ≤ at) × Below at ds

below_ends : (cs : List (List ℕ)) (a at : ℕ) → total cs a ≤ at → Below at (ends_of cs a)
below_ends [] a at less = (less, tt)
below_ends (c ∷ cs) a at less = (less, below_ends cs a at (omega arith))

at_more : (place : ℕ) (places ds : List ℕ) (at : ℕ) → AreAt places at ds → AreAt (place ∷ places) at ds
at_more place places [] at are = tt
at_more place places (d ∷ ds) at are = (inr are.0, at_more place places ds at are.1)

start_at : (ds cuts : List ℕ) (at : ℕ) → Below at ds → AreAt (map (λ d. at - d) ds ++ cuts) at ds
start_at [] cuts at below = tt
start_at (d ∷ ds) cuts at below = (inl (let less = below.0 in omega arith), at_more (at - d) (map (λ d. at - d) ds ++ cuts) ds at (start_at ds cuts at below.1))

among_more : (place : ℕ) (places cuts : List ℕ) → AreAmong places cuts → AreAmong (place ∷ places) cuts
among_more place places [] among = tt
among_more place places (c ∷ cuts) among = (inr among.0, among_more place places cuts among.1)

among_themselves : (cuts : List ℕ) → AreAmong cuts cuts
among_themselves [] = tt
among_themselves (c ∷ cuts) = (inl (omega arith), among_more c cuts cuts (among_themselves cuts))

among_behind : (places cuts : List ℕ) → AreAmong (places ++ cuts) cuts
among_behind [] cuts = among_themselves cuts
among_behind (p ∷ places) cuts = among_more p (places ++ cuts) cuts (among_behind places cuts)

is_in : (places : List ℕ) (at d : ℕ) → IsAt places at d → Contains places (at - d)
is_in [] at d is = absurd is
is_in (p ∷ places) at d is =
    elim is [
      | inl here ↦ (0, omega arith, (let e : p ≡ at - d = omega arith in e))
      | inr there ↦ Contains-append_right (p ∷ []) places (at - d) (is_in places at d there)
    ]

all_in : (places ds : List ℕ) (at : ℕ) → AreAt places at ds → All (Contains places) (map (λ d. at - d) ds)
all_in places [] at are = All-nil (Contains places)
all_in places (d ∷ ds) at are = All-cons (Contains places) (at - d) (map (λ d. at - d) ds) (is_in places at d are.0) (all_in places ds at are.1)

longer_is : (bytes : List ℕ) (at : ℕ) → longer bytes at ≡ at + length bytes
longer_is [] at = omega arith
longer_is (b ∷ bytes) at = let e = longer_is bytes at in omega arith

pub split : (n : ℕ) (xs : List Change) → xs ≡ take n xs ++ drop n xs
split zero xs = refl
split (suc n) [] = refl
split (suc n) (x ∷ xs) = ap (λ (c : List Change). x ∷ c) (split n xs)

-- runs end where they cut
pub end_at_cuts : (trigger : TriggerSettings) (reading : Option Reading) (w : Window) (files : Files) (runs : List Run) (reports : List RunReport) (dones : List RunDone)
    → AreDistinct (names w) → AreRuns trigger reading w files runs reports dones → NoCopies (all_changes dones)
    → EndAtCuts (all_cuts w.active (length (kept w files)) dones) w files (all_changes dones)
end_at_cuts trigger reading w files runs reports dones distinct are clean =
    λ n.
    let start = length (kept w files) in
    let cuts = all_cuts w.active start dones in
    let added = all_changes dones in
    let places = map (λ d. start - d) (ends w files) ++ cuts in
    let here : kept_places w files [] ++ cuts ≡ places = ap (λ (m : ℕ). map (λ d. m - d) (ends w files) ++ cuts) (omega arith) in
    let all : EndsAt places w files start added =
    runs_end trigger reading w files runs reports dones places start distinct are clean
    (start_at (ends w files) cuts start (below_ends (contents files (older_of w)) (length (bytes_at files w.active)) start (let e = kept_length w files in omega arith)))
    (among_behind (map (λ d. start - d) (ends w files)) cuts) in
    let front : EndsAt places w files start (take n added) = EndsAt-front places w files start (take n added) (drop n added) (subst (EndsAt places w files start) (split n added) all) in
    subst (λ (ps : List ℕ). All (Contains ps) (kept_places w files (take n added))) (sym here)
    (subst (λ (m : ℕ). All (Contains places) (map (λ d. m - d) (ends w (replay files (take n added))))) (longer_is (written w.active (take n added)) start)
    (all_in places (ends w (replay files (take n added))) (longer (written w.active (take n added)) start) (EndsAt-last places w files start (take n added) front)))
