-- What a source holds.
use Rattle.std.specs.Prelude.{ℕ, List}
use Rattle.source.specs.declared.source.Source.{Source}

-- the bytes of its text
abbrev pub text_of : Source → List ℕ
text_of s = s.text.now

abbrev pub place_of : Source → ℕ
place_of s = s.place
