-- The bytes of the fields of a line, one after another.
use Rattle.std.proofs.Common.{◌≡◌, ℕ, zero, suc, ◌<◌, cond, List, [], ◌∷◌, ◌++◌, length, get_or, take, drop, Some, None, Option, sym, refl, ap, ◌∙◌, append_assoc, arith}
use Rattle.std.proofs.lemmas.List.{append-nil}
use Rattle.std.proofs.lemmas.Bool.{ne_eqb}
use Rattle.std.specs.List.{repeat}
use Rattle.cases.specs.Hex.{hex_bytes, some_bytes}
use Rattle.cases.specs.Fields.{word_of, loose_times, counted, times_of, multiplied, field_bytes, loosely, loose_bytes, fields_of, joined, gathered, text_of}
use Rattle.cases.proofs.Pairs.{after}
use Rattle.cases.proofs.Times.{repeated}

-- bytes that were added to no others
pub alone : (empty once : List ℕ) → empty ≡ [] → (o : Option (List ℕ)) → after empty o ≡ Some once → o ≡ Some once
alone empty once none (Some bs) k = ap (λ xs. Some (xs ++ bs)) (sym none) ∙ k
alone empty once none None k = cc

-- the bytes of a field by its digits and how often they stand
pub uncounted : (field : List ℕ) → times_of field ≡ None → field_bytes field ≡ None
uncounted field e = ap (λ t. multiplied t (some_bytes (word_of 42 field))) e

module _ (field digits : List ℕ) (n : ℕ) (word : digits ≡ word_of 42 field) (count : times_of field ≡ Some n) where
  by_digits : (o : Option (List ℕ)) → some_bytes digits ≡ o → field_bytes field ≡ multiplied (Some n) o
  by_digits o e = ap (λ t. multiplied t (some_bytes (word_of 42 field))) count ∙ ap (multiplied (Some n)) (ap some_bytes (sym word) ∙ e)

  pub unspelt : some_bytes digits ≡ None → field_bytes field ≡ None
  unspelt e = by_digits None e

  pub spelt : (empty once bytes : List ℕ) → empty ≡ [] → after empty (some_bytes digits) ≡ Some once → bytes ≡ repeat n once → field_bytes field ≡ Some bytes
  spelt empty once bytes none h e = by_digits (Some once) (alone empty once none (some_bytes digits) h) ∙ ap (λ ys. Some ys) (sym e)

-- the same for a field that is read loosely
pub uncounted_loosely : (field : List ℕ) → counted loose_times field ≡ None → loose_bytes field ≡ None
uncounted_loosely field e = ap (λ t. loosely t (word_of 42 field)) e

module _ (field digits : List ℕ) (n : ℕ) (word : digits ≡ word_of 42 field) (count : counted loose_times field ≡ Some n) where
  pub never : n ≡ 0 → (text : List ℕ) → after text (loose_bytes field) ≡ Some text
  never z text = ap (after text) (ap (λ t. loosely t (word_of 42 field)) (count ∙ ap (λ m. Some m) z)) ∙ ap (λ ys. Some ys) (append-nil text)

  by_digits_loosely : (n ≡ 0 → ⊥) → (o : Option (List ℕ)) → hex_bytes digits ≡ o → loose_bytes field ≡ multiplied (Some n) o
  by_digits_loosely some o e =
      ap (λ t. loosely t (word_of 42 field)) count
      ∙ ap (λ b. cond b (Some []) (multiplied (Some n) (hex_bytes (word_of 42 field)))) (ne_eqb n 0 some)
      ∙ ap (multiplied (Some n)) (ap hex_bytes (sym word) ∙ e)

  pub unspelt_loosely : (n ≡ 0 → ⊥) → hex_bytes digits ≡ None → loose_bytes field ≡ None
  unspelt_loosely some e = by_digits_loosely some None e

  pub pushed_loosely : (n ≡ 0 → ⊥) → (text once all : List ℕ) → after text (hex_bytes digits) ≡ Some once → all ≡ take (length text) once ++ repeat n (drop (length text) once) → after text (loose_bytes field) ≡ Some all
  pushed_loosely some text once all h is = ap (after text) (by_digits_loosely some (hex_bytes digits) refl) ∙ repeated text once all n (hex_bytes digits) h is

joined_none : (o : Option (List ℕ)) → joined o None ≡ None
joined_none (Some xs) = refl
joined_none None = refl

joined_nil : (o : Option (List ℕ)) → joined o (Some []) ≡ joined (Some []) o
joined_nil (Some xs) = ap (λ ys. Some ys) (append-nil xs)
joined_nil None = refl

joined_after : (text : List ℕ) (o : Option (List ℕ)) → joined (Some text) o ≡ after text o
joined_after text (Some xs) = refl
joined_after text None = refl

joined_assoc : (o p q : Option (List ℕ)) → joined o (joined p q) ≡ joined (joined o p) q
joined_assoc (Some xs) (Some ys) (Some zs) = ap (λ ws. Some ws) (sym (append_assoc xs ys zs))
joined_assoc (Some xs) (Some ys) None = refl
joined_assoc (Some xs) None q = refl
joined_assoc None p q = refl

module _ (bytes : List ℕ → Option (List ℕ)) where
  gathered_push : (fields : List (List ℕ)) (field : List ℕ) → gathered bytes (fields ++ (field ∷ [])) ≡ joined (gathered bytes fields) (bytes field)
  gathered_push [] field = joined_nil (bytes field)
  gathered_push (first ∷ fields) field =
      ap (joined (bytes first)) (gathered_push fields field) ∙ joined_assoc (bytes first) (gathered bytes fields) (bytes field)

  -- one field more
  pub gathered_more : (fields : List (List ℕ)) (field text all : List ℕ) → gathered bytes fields ≡ Some text → after text (bytes field) ≡ Some all → gathered bytes (fields ++ (field ∷ [])) ≡ Some all
  gathered_more fields field text all e f = gathered_push fields field ∙ ap (λ o. joined o (bytes field)) e ∙ joined_after text (bytes field) ∙ f

  -- a malformed field among them
  pub gathered_none : (fields : List (List ℕ)) (i : ℕ) (d : List ℕ) → i < length fields → bytes (get_or fields i d) ≡ None → gathered bytes fields ≡ None
  gathered_none [] i d lt e = absurd (omega arith)
  gathered_none (first ∷ fields) zero d lt e = ap (λ o. joined o (gathered bytes fields)) e
  gathered_none (first ∷ fields) (suc i) d lt e = ap (joined (bytes first)) (gathered_none fields i d (omega arith) e) ∙ joined_none (bytes first)

-- a line that is not empty has fields
pub some_fields : (line : List ℕ) → (length line ≡ 0 → ⊥) → text_of line ≡ gathered field_bytes (fields_of line)
some_fields [] h = absurd (h refl)
some_fields (b ∷ bs) h = refl
