-- Makers are asked one after another.
use Rattle.std.proofs.Common.{◌≡◌, List, [], ◌∷◌, ◌++◌, refl, sym, ap, ◌∙◌}
use Rattle.log4rs_base.specs.Text.{Text}
use Rattle.log4rs_parts.specs.Waits.{Waits, with_part}
use Rattle.log4rs_parts.specs.Refilled.{AreMade, with_parts, Fills}
use Rattle.log4rs_parts.specs.declared.handed.HandedInOf.{HandedInOf}

made-last : {P Q : Type 0} (Makes : P → Q → Type 0) (ms : List (Text × P)) (ps : List (Text × Q)) (m : Text × P) (p : Text × Q)
    → AreMade Makes ms ps → p.0 ≡ m.0 → Makes m.1 p.1 → AreMade Makes (ms ++ m ∷ []) (ps ++ p ∷ [])
made-last Makes [] [] m p before named made = (named, made, tt)
made-last Makes [] (q ∷ ps) m p before named made = absurd before
made-last Makes (n ∷ ms) [] m p before named made = absurd before
made-last Makes (n ∷ ms) (q ∷ ps) m p before named made = (before.0, before.1, made-last Makes ms ps m p before.2 named made)

module _ {A F E T : Type 0} where
  with-last : (ps : List (Text × HandedInOf A F E T)) (p : Text × HandedInOf A F E T) (w : Waits A F E T)
      → with_parts (ps ++ p ∷ []) w ≡ with_part p.0 p.1 (with_parts ps w)
  with-last [] p w = refl
  with-last (q ∷ ps) p w = with-last ps p (with_part q.0 q.1 w)

  module _ {P : Type 0} (Makes : P → HandedInOf A F E T → Type 0) where
    pub fills-none : (w : Waits A F E T) → Fills Makes [] w w
    fills-none w = ([], tt, refl)

    pub fills-more : (ms : List (Text × P)) (m : Text × P) (part : HandedInOf A F E T) (w before now : Waits A F E T)
        → Fills Makes ms w before → Makes m.1 part → now ≡ with_part m.0 part before → Fills Makes (ms ++ m ∷ []) w now
    fills-more ms m part w before now filled made grown =
        let p : Text × HandedInOf A F E T = (m.0, part) in
        (filled.0 ++ p ∷ [], made-last Makes ms filled.0 m p filled.1 refl made, grown ∙ ap (with_part m.0 part) filled.2 ∙ sym (with-last filled.0 p w))
