-- Gaps and the tokens after them, worked out by hand.
use Rattle.std.specs.Prelude.{◌≡◌, ℕ, Bool, true, false, List, [], ◌∷◌, map, Some, None, codes, Option}
use Rattle.kinds.specs.declared.kind.Kind.TheVariants.{Eof, HashbangComment}
use Rattle.scanner.specs.Gaps.{gap_from, measured}
use Rattle.tokens.specs.Telling.{Telling}
use Rattle.reader.specs.declared.token_row.Found.{Found}
use Rattle.reader.specs.Reading.{found, token_after}

-- a text, a place, whether `#!` opens the text, and the token that is found
pub record Reading : Type 0 where
  pub text : List ℕ
  pub place : ℕ
  pub banged : Bool
  pub comes : Option Found

-- tells no token
abbrev silent : Telling
silent text place = None

abbrev comes_to : Reading → Option Found
comes_to r = token_after r.banged silent r.text (measured None None (gap_from r.text r.place))

abbrev pub readings : List Reading
readings =
    record { text = codes "a /*x"; place = 1; banged = false; comes = Some (found Eof 2 5 false true) }
    ∷ record { text = codes "/*/"; place = 0; banged = false; comes = Some (found Eof 0 3 false true) }
    ∷ record { text = codes "a /*x*/"; place = 1; banged = false; comes = Some (found Eof 7 7 false false) }
    ∷ record { text = []; place = 0; banged = false; comes = Some (found Eof 0 0 false false) }
    ∷ record { text = codes "#!n"; place = 0; banged = true; comes = Some (found HashbangComment 0 3 false false) }
    ∷ record { text = codes "#!n"; place = 0; banged = false; comes = None }
    ∷ []

-- the definitions give what was worked out
abbrev pub TokensFound : Type 0
TokensFound = map comes_to readings ≡ map (λ (r : Reading). r.comes) readings
