-- What is printed where a case gives no text; where memory ran out, that is the library's to say.
use Rattle.std.specs.Prelude.{ℕ, List, Some, None, Option, codes}
use Rattle.cases.specs.declared.error.CaseError.{CaseError}
use Rattle.cases.specs.declared.error.CaseError.TheVariants.{Malformed, Alloc}

abbrev pub words_of : CaseError → Option (List ℕ)
words_of Malformed = Some (codes "! a field that is missing, not hexadecimal, or repeated too often")
words_of (Alloc e) = None
