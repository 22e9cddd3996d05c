-- Bytes laid one after another into a buffer, and a line of decimal fields.
use Rattle.std.specs.Prelude.{◌≡◌, ℕ, ◌+◌, min, List, [], ◌∷◌, ◌++◌, length, decimal, slice_set}
use Rattle.listing.specs.declared.out.Out.{Out}

-- a buffer with bytes written from a place on; what lies past its end is left out
abbrev pub laid : List ℕ → ℕ → List ℕ → List ℕ
laid buffer at [] = buffer
laid buffer at (x ∷ xs) = laid (slice_set buffer at x) (at + 1) xs

-- these bytes were written, from the start of the buffer, and counted
pub record Wrote (buffer xs : List ℕ) (o : Out) : Type 0 where
  pub long : o.len ≡ min (length xs) 18446744073709551615
  pub bytes : o.bytes.now ≡ laid buffer 0 xs

-- more bytes were written, after what was written before, whatever that was
pub record Writes (more : List ℕ) (o p : Out) : Type 0 where
  pub wrote : (buffer xs : List ℕ) → Wrote buffer xs o → Wrote buffer (xs ++ more) p
  pub lender : p.bytes.ghost_name ≡ o.bytes.ghost_name

-- fields in decimal digits, each after one space
abbrev pub fields_of : List ℕ → List ℕ
fields_of [] = []
fields_of (n ∷ ns) = 32 ∷ (decimal n ++ fields_of ns)

-- a mark, the fields and a line feed
abbrev pub line_of : ℕ → List ℕ → List ℕ
line_of mark ns = mark ∷ (fields_of ns ++ (10 ∷ []))
