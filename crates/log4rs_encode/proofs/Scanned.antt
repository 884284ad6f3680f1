-- Runs of characters of one class.
use Rattle.std.proofs.Common.{◌≡◌, ℕ, ◌-◌, Bool, true, false, ◌++◌, List, [], ◌∷◌, length, take, drop, encode_utf8, encode_utf8_all, refl, sym, ap, ◌∙◌, arith, append_assoc, length-append}
use Rattle.std.proofs.Math.Seq.{take-append_seam, drop-append_seam}
use Rattle.std.proofs.lemmas.List.{append-nil}
use Rattle.std.proofs.lemmas.Grind.{common_steps}
use Rattle.std.proofs.lemmas.Str.{encodes-append, IsCharBoundary-at_seam}
use Rattle.std.specs.Str.{chars, IsUtf8, IsCharBoundary}
use Rattle.log4rs_encode.specs.Scan.{leading, after_leading}

-- the text begins with characters that pass, and goes on with the rest
pub record Passed (p : ℕ → Bool) (text rest : List ℕ) : Type 0 where
  pub front : List ℕ
  pub whole : text ≡ encode_utf8_all front ++ rest
  pub run : leading p (chars text) ≡ front ++ leading p (chars rest)
  pub after : after_leading p (chars text) ≡ after_leading p (chars rest)

pub Passed-none : (p : ℕ → Bool) (text : List ℕ) → Passed p text text
Passed-none p text = record { front = []; whole = refl; run = refl; after = refl }

pub Passed-more : (p : ℕ → Bool) (text rest behind : List ℕ) (c : ℕ) → p c ≡ true → Passed p text rest
    → rest ≡ encode_utf8 c ++ behind → chars rest ≡ c ∷ chars behind → Passed p text behind
Passed-more p text rest behind c pass h bytes cs = record {
  front = h.front ++ c ∷ [];
  whole = h.whole ∙ ap (λ (r : List ℕ). encode_utf8_all h.front ++ r) bytes ∙ rw (encodes-append h.front (c ∷ [])) (grind (arith, common_steps));
  run = h.run ∙ rw (cs, pass) (sym (append_assoc h.front (c ∷ []) _));
  after = h.after ∙ rw (cs, pass) refl;
}

-- no character at the front of the rest passes
abbrev pub Stops : (ℕ → Bool) → List ℕ → Type 0
Stops p cs = (leading p cs ≡ []) × (after_leading p cs ≡ cs)

pub Stops-nil : (p : ℕ → Bool) (cs : List ℕ) → cs ≡ [] → Stops p cs
Stops-nil p cs e = rw e (refl, refl)

pub Stops-cons : (p : ℕ → Bool) (cs ds : List ℕ) (c : ℕ) → cs ≡ c ∷ ds → p c ≡ false → Stops p cs
Stops-cons p cs ds c e fail = rw (e, fail) (refl, refl)

pub Passed-whole : (p : ℕ → Bool) (text rest : List ℕ) → Passed p text rest → Stops p (chars rest)
    → text ≡ encode_utf8_all (leading p (chars text)) ++ rest
Passed-whole p text rest h stops =
    let front : h.front ≡ leading p (chars text) = sym (h.run ∙ rw stops.0 (append-nil h.front)) in
    h.whole ∙ ap (λ (f : List ℕ). encode_utf8_all f ++ rest) front

-- a text cut where its second part begins
pub record Cuts (text front rest : List ℕ) (at : ℕ) : Type 0 where
  pub boundary : IsCharBoundary text at
  pub front_is : take at text ≡ front
  pub rest_is : drop at text ≡ rest

pub cut_before : (text front rest : List ℕ) → text ≡ front ++ rest → IsUtf8 rest → Cuts text front rest (length text - length rest)
cut_before text front rest whole utf8 =
    let at : length text - length rest ≡ length front = rw whole (omega (arith, length-append front rest)) in
    rw at (record {
      boundary = IsCharBoundary-at_seam text front rest whole utf8;
      front_is = ap (take (length front)) whole ∙ take-append_seam front rest;
      rest_is = ap (drop (length front)) whole ∙ drop-append_seam front rest;
    })
