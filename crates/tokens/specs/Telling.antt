-- What a token reader tells of a text at a place, and what is fair to tell.
use Rattle.std.specs.Prelude.{ℕ, ◌<◌, ◌≤◌, List, length, Some, None, Option}
use Rattle.std.specs.Str.{IsCharBoundary}
use Rattle.kinds.specs.Kinds.{number_of}
use Rattle.tokens.specs.declared.token_reader.Told.{Told}

-- for each text and place, the token that stands there, if one does
abbrev pub Telling : Type 0
Telling = List ℕ → ℕ → Option Told

-- a token told at a place of a text: it is of a token's kind (4 to 168), has a length, lies in the text,
-- and both its ends lie between characters
pub record Fair (text : List ℕ) (place : ℕ) (t : Told) : Type 0 where
  pub low : 4 ≤ number_of t.kind
  pub high : number_of t.kind ≤ 168
  pub onward : place < t.end
  pub inside : t.end ≤ length text
  pub begins : IsCharBoundary text place
  pub lands : IsCharBoundary text t.end

abbrev pub FairAt : List ℕ → ℕ → Option Told → Type 0
FairAt text place None = Unit {0}
FairAt text place (Some t) = Fair text place t
