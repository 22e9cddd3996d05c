-- What JSON's telling tells of numbers: a token of a number's kind is a number, and where a number stands, one at least as long is told.
use Rattle.std.proofs.Common.{◌≡◌, ℕ, ◌≤◌, true, false, List, length, IfSome, Some, None, Option, ◌∙◌, refl, subst}
use Rattle.std.proofs.lemmas.Bool.{both_ways}
use Rattle.kinds.specs.declared.kind.Kind.{Kind}
use Rattle.tokens.specs.Grammar.{Structural, begin_array, begin_object, end_array, end_object, name_separator, value_separator, LiteralName, name_true, name_false, name_null, Number, of_number, Numbers, NumberOf, decimal, float, negative, positive, JsonToken, structural_character, literal_name, string, number}
use Rattle.tokens.specs.Grammatical.{sound, number_alone}
use Rattle.tokens.specs.Json.{json_telling}
use Rattle.tokens.specs.Longest.{is_number, number_stands}
use Rattle.tokens.specs.Numbers.{number_sound}
use Rattle.tokens.specs.Rules.{between, Stands}
use Rattle.tokens.specs.declared.token_reader.Told.{Told}

structural_other : {kind : Kind} {bs : List ℕ} → Structural kind bs → of_number kind ≡ false
structural_other begin_array = refl
structural_other begin_object = refl
structural_other end_array = refl
structural_other end_object = refl
structural_other name_separator = refl
structural_other value_separator = refl

literal_other : {kind : Kind} {bs : List ℕ} → LiteralName kind bs → of_number kind ≡ false
literal_other name_true = refl
literal_other name_false = refl
literal_other name_null = refl

numeric : {kind : Kind} {bs : List ℕ} → NumberOf kind bs → of_number kind ≡ true
numeric (decimal h) = refl
numeric (float h) = refl
numeric (negative h) = refl
numeric (positive h) = refl

told_is_number : {text : List ℕ} {place : ℕ} {kind : Kind} {end : ℕ} → JsonToken text place kind end → of_number kind ≡ true → Number (between text place end)
told_is_number (structural_character (inside, h)) e = absurd (both_ways _ (structural_other h) e)
told_is_number (literal_name (inside, h) stops) e = absurd (both_ways _ (literal_other h) e)
told_is_number (string (inside, h)) e = absurd (both_ways _ refl e)
told_is_number (number (inside, h) most) e = is_number h

told : (text : List ℕ) (place : ℕ) (o : Option Told) → IfSome o (λ t. JsonToken text place t.kind t.end)
    → IfSome o (λ t. of_number t.kind ≡ true → Number (between text place t.end))
told text place None h = tt
told text place (Some t) h = told_is_number h

longest : (text : List ℕ) (place end : ℕ) → end ≤ length text → Number (between text place end)
    → (t : Told) × (json_telling text place ≡ Some t) × (of_number t.kind ≡ true) × (end ≤ t.end)
longest text place end inside h =
    let o = (number_stands text place end inside h).1 in
    let stands = subst (λ o. IfSome o (λ t. Stands (NumberOf t.kind) text place t.end)) o.is (number_sound text place) in
    (o.what, number_alone text place o.begins ∙ o.is, numeric stands.1, o.far)

pub numbers : (text : List ℕ) (place : ℕ) → Numbers text place (json_telling text place)
numbers text place = record { told = told text place (json_telling text place) (sound text place); longest = longest text place }
