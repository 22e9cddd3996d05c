-- A text as its characters.
use Rattle.std.specs.Prelude.{◌≡◌, ℕ, true, List, ◌++◌, length}
use Rattle.std.proofs.Math.Utf8.{encodes, scalars}

-- a place lies between characters: the text is the bytes of some characters up to it, and of others from it on
pub record BetweenCharacters (text : List ℕ) (place : ℕ) : Type 0 where
  pub before : List ℕ
  pub after : List ℕ
  pub valid : scalars (before ++ after) ≡ true
  pub spells : encodes before ++ encodes after ≡ text
  pub reached : length (encodes before) ≡ place
