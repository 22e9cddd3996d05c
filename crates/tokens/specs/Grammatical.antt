-- What JSON's telling tells is the one token of the grammar that stands at the place.
use Rattle.std.specs.Prelude.{◌≡◌, ℕ, ◌+◌, ◌-◌, ◌<◌, ◌≤◌, true, false, cond, List, [], ◌∷◌, ◌++◌, length, take, drop, IfSome, Some, None, codes, Option, ◌==◌, slice_index, slice_index_or, refl}
use Rattle.std.proofs.Common.{inl, inr, sym, ap, subst, ◌∙◌, arith}
use Rattle.std.specs.Option.{option_or}
use Rattle.std.specs.Str.{bytes_eq}
use Rattle.std.proofs.lemmas.Slice.Eq.{bytes_eq-Decides}
use Rattle.std.proofs.lemmas.List.{append_assoc, get_or-drop, length-append, length-drop, length-take}
use Rattle.std.proofs.lemmas.Bool.{cases_lt, cond_both, eqb-true}
use Rattle.std.proofs.lemmas.Bool.Decides.{nat_tests as tests}
use Rattle.kinds.specs.declared.kind.Kind.{Kind}
use Rattle.kinds.specs.declared.kind.Kind.TheVariants.{LCurly, RCurly, LBrack, RBrack, Colon, Comma, True, False, Null, Str}
use Rattle.tokens.specs.declared.token_reader.Told.{Told}
use Rattle.tokens.specs.Grammar.{letter, quote, Structural, begin_array, begin_object, end_array, end_object, name_separator, value_separator, LiteralName, name_true, name_false, name_null, Chars, String, NumberOf, Longest, JsonToken, structural_character, literal_name, string, number, Tells}
use Rattle.tokens.specs.Json.{run_end, told, structural, structural_at, literal, literal_at, string_from, told_string, string_at, number_at, json_telling}
use Rattle.tokens.specs.Rules.{byte_at, between, one, many, ◌then◌, Stands}
use Rattle.tokens.specs.Longest.{Begins, is_number, number_over, number_told}
use Rattle.tokens.specs.Numbers.{number_sound}
use Rattle.tokens.specs.Parts.{between_empty, between_length, between_one, byte_inside, first, front, one_at, over, then_at}
use Rattle.tokens.specs.Runs.{leading_none, run_ends, run_inside, run_over}
use Rattle.tokens.specs.Strings.{Closes, string_closes, string_over}

abbrev Token : List ℕ → ℕ → Told → Type 0
Token text place t = JsonToken text place t.kind t.end

-- what is told is a token: structural characters
abbrev Character : ℕ → Kind → Type 0
Character b kind = Structural kind (b ∷ []) × (0 < b)

character : (b n : ℕ) (kind : Kind) (o : Option Kind) → Structural kind (n ∷ []) → 0 < n → IfSome o (Character b) → IfSome (cond (b == n) (Some kind) o) (Character b)
character b n kind o h some rest =
    cond_both (b == n) (Some kind) o (λ o. IfSome o (Character b))
    (λ e. let is = eqb-true b n e in (subst (λ m. Structural kind (m ∷ [])) (sym is) h, omega arith))
    (λ _. rest)

structural_is : (b : ℕ) → IfSome (structural b) (Character b)
structural_is b =
    character b 91 LBrack _ begin_array (omega arith) (character b 123 LCurly _ begin_object (omega arith) (character b 93 RBrack _ end_array (omega arith)
    (character b 125 RCurly _ end_object (omega arith) (character b 58 Colon _ name_separator (omega arith) (character b 44 Comma None value_separator (omega arith) tt)))))

structural_sound : (text : List ℕ) (place : ℕ) (o : Option Kind) → IfSome o (Character (byte_at text place)) → IfSome (told o (place + 1)) (Token text place)
structural_sound text place None h = tt
structural_sound text place (Some kind) h =
    let inside = byte_inside text place h.1 in
    structural_character (omega arith, subst (Structural kind) (sym (between_one text place inside)) h.0)

-- literal names
name : (word w : List ℕ) (kind : Kind) (o : Option Kind) → LiteralName kind w → IfSome o (λ k. LiteralName k word) → IfSome (cond (bytes_eq word w) (Some kind) o) (λ k. LiteralName k word)
name word w kind o h rest =
    cond_both (bytes_eq word w) (Some kind) o (λ o. IfSome o (λ k. LiteralName k word)) (λ e. subst (LiteralName kind) (sym ((bytes_eq-Decides word w).0 e)) h) (λ _. rest)

literal_is : (word : List ℕ) → IfSome (literal word) (λ kind. LiteralName kind word)
literal_is word = name word (codes "true") True _ name_true (name word (codes "false") False _ name_false (name word (codes "null") Null None name_null tt))

-- a literal name is letters, and no structural character begins it
record Named (kind : Kind) (bs : List ℕ) : Type 0 where
  is : literal bs ≡ Some kind
  letters : many letter bs
  some : 0 < length bs
  apart : (t : List ℕ) → structural (slice_index (bs ++ t) 0) ≡ None

named : {kind : Kind} {bs : List ℕ} → LiteralName kind bs → Named kind bs
named name_true = record { is = refl; letters = (refl, (refl, (refl, (refl, tt)))); some = omega arith; apart = λ t. refl }
named name_false = record { is = refl; letters = (refl, (refl, (refl, (refl, (refl, tt))))); some = omega arith; apart = λ t. refl }
named name_null = record { is = refl; letters = (refl, (refl, (refl, (refl, tt)))); some = omega arith; apart = λ t. refl }

literal_sound : (text : List ℕ) (place : ℕ) (o : Option Kind) → IfSome o (λ kind. LiteralName kind (between text place (run_end letter text place)))
    → IfSome (told o (run_end letter text place)) (Token text place)
literal_sound text place None h = tt
literal_sound text place (Some kind) h =
    let end = run_end letter text place in
    let within : place ≤ length text = omega (arith, (named h).some, length-take (end - place) (drop place text), length-drop place text) in
    literal_name (run_inside letter text place within, h) (run_ends letter text place refl)

-- strings
string_told : (text : List ℕ) (place : ℕ) → quote (byte_at text place) ≡ true → (o : Option ℕ) → IfSome o (Closes false (place + 1) (drop (place + 1) text)) → IfSome (told_string o) (Token text place)
string_told text place q None h = tt
string_told text place q (Some end) h =
    let k = h.0 in
    let close = place + 1 + k in
    let opens = eqb-true (byte_at text place) 34 q in
    let closes : byte_at text close ≡ 34 = sym (get_or-drop (place + 1) text k 0) ∙ h.3 in
    let chars : Chars (between text (place + 1) close) = let n : k ≡ close - (place + 1) = omega arith in subst (λ m. Chars (take m (drop (place + 1) text))) n h.4 in
    let whole : String (between text place (close + 1)) =
    then_at (one quote) (Chars then one quote) text place (place + 1) (close + 1) (omega arith) (omega arith) (one_at quote text place (omega arith) q)
    (then_at Chars (one quote) text (place + 1) close (close + 1) (omega arith) (omega arith) chars (one_at quote text close (omega arith) (ap quote closes))) in
    string (omega (arith, h.1, h.2, length-drop (place + 1) text), subst (λ n. String (between text place n)) (sym h.1) whole)

string_sound : (text : List ℕ) (place : ℕ) → IfSome (string_at text place) (Token text place)
string_sound text place =
    cond_both (quote (byte_at text place)) _ None (λ o. IfSome o (Token text place))
    (λ q. string_told text place q (string_from false (place + 1) (drop (place + 1) text)) (string_closes false (place + 1) (drop (place + 1) text)))
    (λ _. tt)

-- numbers
longest : (text : List ℕ) (place : ℕ) (t : Told) → number_at text place ≡ Some t → Longest text place t.end
longest text place t is further lt h =
    let n = number_told text place further h.0 h.1 in
    let e : t.end ≡ n.0.end = cc (is, n.1) in
    omega (arith, e, n.2)

numbers : (text : List ℕ) (place : ℕ) (o : Option Told) → number_at text place ≡ o → IfSome o (λ t. Stands (NumberOf t.kind) text place t.end) → IfSome o (Token text place)
numbers text place None is h = tt
numbers text place (Some t) is h = number h (longest text place t is)

either : (P : Told → Type 0) (o p : Option Told) → IfSome o P → IfSome p P → IfSome (option_or o p) P
either P None p h k = k
either P (Some t) p h k = h

pub sound : (text : List ℕ) (place : ℕ) → IfSome (json_telling text place) (Token text place)
sound text place =
    let P = Token text place in
    either P (structural_at text place) _ (structural_sound text place (structural (byte_at text place)) (structural_is (byte_at text place)))
    (either P (literal_at text place) _ (literal_sound text place (literal (between text place (run_end letter text place))) (literal_is (between text place (run_end letter text place))))
    (either P (string_at text place) (number_at text place) (string_sound text place)
    (numbers text place (number_at text place) refl (number_sound text place))))

-- each token is told
skip : (o q : Option Told) → o ≡ None → option_or o q ≡ q
skip o q e = ap (λ z. option_or z q) e

take_first : (o q : Option Told) (t : Told) → o ≡ Some t → option_or o q ≡ Some t
take_first o q t e = ap (λ z. option_or z q) e

abbrev token : Kind → ℕ → Told
token kind end = record { kind = kind; end = end }

no_literal : (text : List ℕ) (place : ℕ) → letter (byte_at text place) ≡ false → literal_at text place ≡ None
no_literal text place h =
    let e : run_end letter text place ≡ place = run_over letter text place [] (drop place text) refl tt ∙ (let z = leading_none letter (drop place text) (ap letter (sym (first text place (drop place text) refl)) ∙ h) in omega (arith, z)) in
    ap (λ n. told (literal (between text place n)) n) e ∙ ap (λ w. told (literal w) place) (between_empty text place)

character_is : {kind : Kind} {bs : List ℕ} → Structural kind bs → (b : ℕ) × (bs ≡ b ∷ []) × (structural b ≡ Some kind)
character_is begin_array = (91, refl, refl)
character_is begin_object = (123, refl, refl)
character_is end_array = (93, refl, refl)
character_is end_object = (125, refl, refl)
character_is name_separator = (58, refl, refl)
character_is value_separator = (44, refl, refl)

structural_complete : (text : List ℕ) (place end : ℕ) (kind : Kind) → end ≤ length text → Structural kind (between text place end) → json_telling text place ≡ Some (token kind end)
structural_complete text place end kind inside h =
    let c = character_is h in
    let is = first text place _ (front text place end (c.0 ∷ []) c.1) in
    let long : place + 1 ≡ end = omega (arith, between_length text place end inside, ap length c.1) in
    take_first (structural_at text place) _ (token kind end) (ap (λ k. told k (place + 1)) (ap structural is ∙ c.2) ∙ ap (λ n. Some (token kind n)) long)

literal_complete : (text : List ℕ) (place end : ℕ) (kind : Kind) → end ≤ length text → LiteralName kind (between text place end) → letter (byte_at text end) ≡ false
    → json_telling text place ≡ Some (token kind end)
literal_complete text place end kind inside h stops =
    let n = named h in
    let word = between text place end in
    let rest = drop (end - place) (drop place text) in
    let stands : drop place text ≡ word ++ rest = front text place end word refl in
    let some = n.some in
    let long : place + length word ≡ end = omega (arith, between_length text place end inside) in
    let after : byte_at text end ≡ slice_index_or rest 0 0 = first text end rest (ap (λ m. drop m text) (sym long) ∙ over text place word rest stands) in
    let none = leading_none letter rest (ap letter (sym after) ∙ stops) in
    let run : run_end letter text place ≡ end = omega (arith, run_over letter text place word rest stands n.letters, none) in
    skip (structural_at text place) _ (ap (λ k. told k (place + 1)) (ap structural (first text place (word ++ rest) stands) ∙ n.apart rest))
    ∙ take_first (literal_at text place) _ (token kind end) (ap (λ m. told (literal (between text place m)) m) run ∙ ap (λ k. told k end) n.is)

quote_is : (bs : List ℕ) → one quote bs → bs ≡ 34 ∷ []
quote_is bs h = h.1 ∙ ap (λ b. b ∷ []) (eqb-true h.0 34 h.2)

string_complete : (text : List ℕ) (place end : ℕ) → end ≤ length text → String (between text place end) → json_telling text place ≡ Some (token Str end)
string_complete text place end inside h =
    let q = h.4 in
    let cs = q.0 in
    let rest = drop (end - place) (drop place text) in
    let parts : between text place end ≡ 34 ∷ (cs ++ (34 ∷ [])) =
    h.2 ∙ ap (λ z. z ++ h.1) (quote_is h.0 h.3) ∙ ap (λ z. 34 ∷ z) (q.2 ∙ ap (λ z. cs ++ z) (quote_is q.1 q.4)) in
    let stands : drop place text ≡ 34 ∷ (cs ++ (34 ∷ rest)) = front text place end (34 ∷ (cs ++ (34 ∷ []))) parts ∙ ap (λ z. 34 ∷ z) (append_assoc cs (34 ∷ []) rest) in
    let is : byte_at text place ≡ 34 = first text place (34 ∷ (cs ++ (34 ∷ rest))) stands in
    let on : drop (place + 1) text ≡ cs ++ (34 ∷ rest) = over text place (34 ∷ []) (cs ++ (34 ∷ rest)) stands in
    let long : place + 1 + length cs + 1 ≡ end = omega (arith, between_length text place end inside, ap length parts, length-append cs (34 ∷ [])) in
    skip (structural_at text place) _ (ap (λ b. told (structural b) (place + 1)) is)
    ∙ skip (literal_at text place) _ (no_literal text place (ap letter is))
    ∙ take_first (string_at text place) _ (token Str end)
    (ap (λ b. cond (quote b) (told_string (string_from false (place + 1) (drop (place + 1) text))) None) is
    ∙ ap (λ z. told_string (string_from false (place + 1) z)) on ∙ ap told_string (string_over (place + 1) rest q.3) ∙ ap (λ n. Some (token Str n)) long)

-- where a number may begin, nothing else does
no_structural : (b : ℕ) → Begins b → structural b ≡ None
no_structural b (inl h) = grind (arith, tests)
no_structural b (inr h) = grind (arith, tests)

no_letter : (b : ℕ) → Begins b → letter b ≡ false
no_letter b (inl h) = grind (arith, tests)
no_letter b (inr h) = grind (arith, tests)

no_quote : (b : ℕ) → Begins b → quote b ≡ false
no_quote b (inl h) = grind (arith, tests)
no_quote b (inr h) = grind (arith, tests)

pub number_alone : (text : List ℕ) (place : ℕ) → Begins (byte_at text place) → json_telling text place ≡ number_at text place
number_alone text place h =
    skip (structural_at text place) _ (ap (λ k. told k (place + 1)) (no_structural (byte_at text place) h))
    ∙ skip (literal_at text place) _ (no_literal text place (no_letter (byte_at text place) h))
    ∙ skip (string_at text place) _ (ap (λ v. cond v (told_string (string_from false (place + 1) (drop (place + 1) text))) None) (no_quote (byte_at text place) h))

number_complete : (text : List ℕ) (place end : ℕ) (kind : Kind) → end ≤ length text → NumberOf kind (between text place end) → Longest text place end
    → json_telling text place ≡ Some (token kind end)
number_complete text place end kind inside h most =
    let n = number_over text place end kind inside h in
    let t = n.what in
    let far = n.far in
    let is = subst (λ o. IfSome o (λ t. Stands (NumberOf t.kind) text place t.end)) n.is (number_sound text place) in
    let same : t.end ≡ end = elim (cases_lt end t.end) [ inl lt ↦ absurd (most t.end lt (is.0, is_number is.1)) | inr le ↦ omega arith ] in
    number_alone text place n.begins ∙ n.is ∙ ap (λ k. Some (token k t.end)) (n.same same) ∙ ap (λ e. Some (token kind e)) same

complete : (text : List ℕ) (place : ℕ) {kind : Kind} {end : ℕ} → JsonToken text place kind end → json_telling text place ≡ Some (token kind end)
complete text place (structural_character (inside, h)) = structural_complete text place _ _ inside h
complete text place (literal_name (inside, h) stops) = literal_complete text place _ _ inside h stops
complete text place (string (inside, h)) = string_complete text place _ inside h
complete text place (number (inside, h) most) = number_complete text place _ _ inside h most

pub tells : (text : List ℕ) (place : ℕ) → Tells text place (json_telling text place)
tells text place = record { sound = sound text place; complete = λ kind end h. complete text place h }
