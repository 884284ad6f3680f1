-- An escaped text spells itself.
use Rattle.std.proofs.Common.{◌≡◌, ℕ, ◌<◌, Bool, true, false, List, [], ◌∷◌, ◌++◌, refl, sym, ap, ◌∙◌, arith, encode_utf8_all, Some}
use Rattle.std.proofs.lemmas.Str.{encode_ascii, encodes-append}
use Rattle.std.proofs.lemmas.Bool.Decides.{nat_tests}
use Rattle.log4rs_encode.specs.Scan.{is_plain, leading, after_leading}
use Rattle.log4rs_encode.specs.Syntax.{Piece, text, Pieces, no_pieces, piece}
use Rattle.log4rs_encode.specs.Escaped.{escaped, text_of}
use Rattle.log4rs_encode.specs.Spelling.{Spells, Leads, IsFirst, plain_run, literal, max_nesting}

run_of-escaped : (cs : List ℕ) → leading is_plain (escaped cs) ≡ leading is_plain cs
run_of-escaped [] = refl
run_of-escaped (c ∷ cs) = by_test (run_of-escaped cs) (is_plain c) refl
  where
    by_test : (leading is_plain (escaped cs) ≡ leading is_plain cs) → (b : Bool) → is_plain c ≡ b → leading is_plain (escaped (c ∷ cs)) ≡ leading is_plain (c ∷ cs)
    by_test others true e = rw (e, e) (ap (λ r. c ∷ r) others)
    by_test others false e = rw e refl

after_leading-escaped : (cs : List ℕ) → after_leading is_plain (escaped cs) ≡ escaped (after_leading is_plain cs)
after_leading-escaped [] = refl
after_leading-escaped (c ∷ cs) = by_test (after_leading-escaped cs) (is_plain c) refl
  where
    by_test : (after_leading is_plain (escaped cs) ≡ escaped (after_leading is_plain cs)) → (b : Bool) → is_plain c ≡ b → after_leading is_plain (escaped (c ∷ cs)) ≡ escaped (after_leading is_plain (c ∷ cs))
    by_test others true e = rw (e, e) others
    by_test others false e = rw (e, e) refl

run-after : (cs : List ℕ) → leading is_plain cs ++ after_leading is_plain cs ≡ cs
run-after [] = refl
run-after (c ∷ cs) = by_test (run-after cs) (is_plain c) refl
  where
    by_test : (leading is_plain cs ++ after_leading is_plain cs ≡ cs) → (b : Bool) → is_plain c ≡ b → leading is_plain (c ∷ cs) ++ after_leading is_plain (c ∷ cs) ≡ c ∷ cs
    by_test others true e = rw e (ap (λ r. c ∷ r) others)
    by_test others false e = rw e refl

special_ascii : (c : ℕ) → is_plain c ≡ false → c < 128
special_ascii c e = grind (arith, nat_tests)

-- the first piece of an escaped text, and what it leaves
pub record FirstOf (cs : List ℕ) (p : Piece) (mid : List ℕ) : Type 0 where
  pub shown : List ℕ
  pub behind : List ℕ
  pub whole : cs ≡ shown ++ behind
  pub piece_is : p ≡ text (encode_utf8_all shown)
  pub mid_is : mid ≡ escaped behind

first_of : (c : ℕ) (cs : List ℕ) (p : Piece) (mid : List ℕ) → Spells max_nesting (escaped (c ∷ cs)) p mid → FirstOf (c ∷ cs) p mid
first_of c cs p mid h = by_test (is_plain c) refl
  where
    by_test : (b : Bool) → is_plain c ≡ b → FirstOf (c ∷ cs) p mid
    by_test true e =
        let first : IsFirst (plain_run (c ∷ escaped cs)) p mid = rw e (rw e at (rw e at h)) in
        let here : escaped (c ∷ cs) ≡ c ∷ escaped cs = rw e refl in
        record {
          shown = leading is_plain (c ∷ cs);
          behind = after_leading is_plain (c ∷ cs);
          whole = sym (run-after (c ∷ cs));
          piece_is = first.0 ∙ ap (λ r. text (encode_utf8_all (leading is_plain r))) (sym here) ∙ ap (λ r. text (encode_utf8_all r)) (run_of-escaped (c ∷ cs));
          mid_is = first.1 ∙ ap (after_leading is_plain) (sym here) ∙ after_leading-escaped (c ∷ cs);
        }
    by_test false e =
        let first : IsFirst (literal c, escaped cs) p mid = rw e at (rw e at h) in
        record {
          shown = c ∷ [];
          behind = cs;
          whole = refl;
          piece_is = first.0 ∙ ap text (sym (rw (encode_ascii c (special_ascii c e)) refl));
          mid_is = first.1;
        }

pub text_of-escaped : (cs : List ℕ) (ps : Pieces) → Leads (Spells max_nesting) (escaped cs) ps [] → text_of ps ≡ Some (encode_utf8_all cs)
text_of-escaped [] no_pieces h = refl
text_of-escaped [] (piece p ps) h = absurd h.1
text_of-escaped (c ∷ cs) no_pieces h = absurd (by_test (is_plain c) refl)
  where
    by_test : (b : Bool) → is_plain c ≡ b → ⊥
    by_test true e = let made : c ∷ escaped cs ≡ [] = rw e at h in cc
    by_test false e = let made : 92 ∷ c ∷ escaped cs ≡ [] = rw e at h in cc
text_of-escaped (c ∷ cs) (piece p ps) h =
    let f = first_of c cs p h.0 h.1 in
    let others : text_of ps ≡ Some (encode_utf8_all f.behind) = text_of-escaped f.behind ps (rw f.mid_is at h.2) in
    rw (f.piece_is, others) (ap Some (sym (ap encode_utf8_all f.whole ∙ encodes-append f.shown f.behind)))
