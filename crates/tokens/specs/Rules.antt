-- The bytes of a text, and the rules that a grammar over bytes is made of.
use Rattle.std.specs.Prelude.{◌≡◌, ℕ, ◌≤◌, Bool, true, ◌⊎◌, List, [], ◌∷◌, ◌++◌, length, slice_index, slice_range}
use Rattle.std.specs.Borrow.{Bor}
use Rattle.std.specs.Fn.{Shared, FnReturnsAt}

-- the byte at a place, or 0 past the end
abbrev pub byte_at : List ℕ → ℕ → ℕ
byte_at text place = slice_index text place

-- the bytes from one place to another
abbrev pub between : List ℕ → ℕ → ℕ → List ℕ
between text from end = slice_range text from end

-- each call of a closure answers whether the byte is of a class
abbrev pub Tests : {F : Type 0} → Shared F (Bor ℕ × Unit {0}) Bool → F → (ℕ → Bool) → Type 0
Tests g passes class = (b : ℕ) (answer : Bool) → FnReturnsAt g passes b answer → answer ≡ class b

-- a rule is the lists of bytes that it holds of
abbrev pub Rule : Type 1
Rule = List ℕ → Type 0

-- one byte of a class
abbrev pub one : (ℕ → Bool) → Rule
one p bs = (b : ℕ) × (bs ≡ b ∷ []) × (p b ≡ true)

-- any number of bytes of a class
abbrev pub many : (ℕ → Bool) → Rule
many p [] = Unit {0}
many p (b ∷ bs) = (p b ≡ true) × many p bs

infixr 15 ◌or◌
infixr 20 ◌then◌
-- one rule or the other: P / Q
abbrev pub ◌or◌ : Rule → Rule → Rule
◌or◌ P Q bs = P bs ⊎ Q bs

-- one rule and after it the other: P Q
abbrev pub ◌then◌ : Rule → Rule → Rule
◌then◌ P Q bs = (xs : List ℕ) × (ys : List ℕ) × (bs ≡ xs ++ ys) × P xs × Q ys

-- the rule or nothing: [ P ]
abbrev pub optional : Rule → Rule
optional P bs = (bs ≡ []) ⊎ P bs

-- the rule holds of the bytes of a text from a place to an end
abbrev pub Stands : Rule → List ℕ → ℕ → ℕ → Type 0
Stands P text place end = (end ≤ length text) × P (between text place end)
