-- A text may be cut just where a place lies between its characters.
use Rattle.std.proofs.Common.{◌≡◌, ℕ, true, List, [], ◌∷◌, ◌++◌, length, take, IsUtf8, sym, refl, ap, ◌∙◌, subst}
use lib.Utf8.{encodes, scalar, scalars}
use Rattle.std.specs.Str.{IsCharBoundary}
use Rattle.std.proofs.lemmas.List.{length-take-le, take-append-drop}
use Rattle.std.proofs.lemmas.Bool.{and_from, and_parts}
use Rattle.std.proofs.lemmas.Str.{IsCharBoundary-at_seam, IsUtf8-take, IsUtf8-drop}
use Rattle.source.specs.Characters.{BetweenCharacters}

both_valid : (cs ds : List ℕ) → scalars cs ≡ true → scalars ds ≡ true → scalars (cs ++ ds) ≡ true
both_valid [] ds a b = b
both_valid (c ∷ cs) ds a b = let h = and_parts (scalar c) (scalars cs) a in and_from (scalar c) _ h.0 (both_valid cs ds h.1 b)

second_valid : (cs ds : List ℕ) → scalars (cs ++ ds) ≡ true → scalars ds ≡ true
second_valid [] ds a = a
second_valid (c ∷ cs) ds a = second_valid cs ds (and_parts (scalar c) (scalars (cs ++ ds)) a).1

pub between_from : (text : List ℕ) (place : ℕ) → IsUtf8 text → IsCharBoundary text place → BetweenCharacters text place
between_from text place u cut =
    let front = IsUtf8-take text place u cut in
    let back = IsUtf8-drop text place u cut in
    record {
      before = front.0;
      after = back.0;
      valid = both_valid front.0 back.0 front.1.0 back.1.0;
      spells = ap (λ (l : List ℕ). l ++ encodes back.0) front.1.1 ∙ ap (λ (l : List ℕ). take place text ++ l) back.1.1 ∙ take-append-drop place text;
      reached = ap length front.1.1 ∙ length-take-le place text cut.0;
    }

pub boundary_from : (text : List ℕ) (place : ℕ) → BetweenCharacters text place → IsCharBoundary text place
boundary_from text place h =
    subst (IsCharBoundary text) h.reached (IsCharBoundary-at_seam text (encodes h.before) (encodes h.after) (sym h.spells) (h.after, (second_valid h.before h.after h.valid, refl)))
