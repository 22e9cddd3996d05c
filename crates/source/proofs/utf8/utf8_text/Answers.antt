use Rattle.std.proofs.Common.{◌≡◌, ℕ, List, Ok, Err, IsUtf8, Option, Result, rules, MatchOption, MatchResult}
use Rattle.std.specs.Result.{result_ok}
use Rattle.source.specs.Rfc3629.{Utf8Octets}
use Rattle.source.proofs.Octets.{octets_from_utf8, utf8_from_octets}
use Rattle.source.proofs.utf8.utf8_text.Goals as goal

-- what is kept of a library's answer
by_octets : {S E : Type 0} (bytes : List ℕ) (text : S → List ℕ) (X : E → Type 0) (r : Result S E) (o : Option S) → o ≡ result_ok r → MatchResult r (λ s. (text s ≡ bytes) × IsUtf8 bytes) (λ e. (IsUtf8 bytes → ⊥) × X e) → MatchOption o (Utf8Octets bytes → ⊥) (λ s. Utf8Octets bytes × (text s ≡ bytes))
by_octets bytes text X (Ok s) o is h = rw is (octets_from_utf8 bytes h.1, h.0)
by_octets bytes text X (Err e) o is h = rw is (λ u. h.0 (utf8_from_octets u))

pub returns : goal.returns
returns c = by_octets c.args.bytes.now (λ s. s.now) _ c.from_utf8.result _ (search rules) c.from_utf8.ensures.cases
