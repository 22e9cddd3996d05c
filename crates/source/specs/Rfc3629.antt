-- The syntax of UTF-8 byte sequences: the rules of RFC 3629, section 4, each under its own words.
use Rattle.std.specs.Prelude.{ℕ, List, [], ◌∷◌, ◌++◌}
use Rattle.std.specs.Int.{IsInRange}

-- UTF8-tail = %x80-BF
abbrev pub Utf8Tail : ℕ → Type 0
Utf8Tail b = IsInRange 0x80 0xBF b

-- UTF8-1 = %x00-7F
pub data Utf8-1 : List ℕ → Type 0 where
  row_00_7f : {a : ℕ} → IsInRange 0x00 0x7F a → Utf8-1 (a ∷ [])

-- UTF8-2 = %xC2-DF UTF8-tail
pub data Utf8-2 : List ℕ → Type 0 where
  row_c2_df : {a b : ℕ} → IsInRange 0xC2 0xDF a → Utf8Tail b → Utf8-2 (a ∷ b ∷ [])

-- UTF8-3 = %xE0 %xA0-BF UTF8-tail / %xE1-EC 2( UTF8-tail ) / %xED %x80-9F UTF8-tail / %xEE-EF 2( UTF8-tail )
pub data Utf8-3 : List ℕ → Type 0 where
  row_e0 : {b c : ℕ} → IsInRange 0xA0 0xBF b → Utf8Tail c → Utf8-3 (0xE0 ∷ b ∷ c ∷ [])
  row_e1_ec : {a b c : ℕ} → IsInRange 0xE1 0xEC a → Utf8Tail b → Utf8Tail c → Utf8-3 (a ∷ b ∷ c ∷ [])
  row_ed : {b c : ℕ} → IsInRange 0x80 0x9F b → Utf8Tail c → Utf8-3 (0xED ∷ b ∷ c ∷ [])
  row_ee_ef : {a b c : ℕ} → IsInRange 0xEE 0xEF a → Utf8Tail b → Utf8Tail c → Utf8-3 (a ∷ b ∷ c ∷ [])

-- UTF8-4 = %xF0 %x90-BF 2( UTF8-tail ) / %xF1-F3 3( UTF8-tail ) / %xF4 %x80-8F 2( UTF8-tail )
pub data Utf8-4 : List ℕ → Type 0 where
  row_f0 : {b c d : ℕ} → IsInRange 0x90 0xBF b → Utf8Tail c → Utf8Tail d → Utf8-4 (0xF0 ∷ b ∷ c ∷ d ∷ [])
  row_f1_f3 : {a b c d : ℕ} → IsInRange 0xF1 0xF3 a → Utf8Tail b → Utf8Tail c → Utf8Tail d → Utf8-4 (a ∷ b ∷ c ∷ d ∷ [])
  row_f4 : {b c d : ℕ} → IsInRange 0x80 0x8F b → Utf8Tail c → Utf8Tail d → Utf8-4 (0xF4 ∷ b ∷ c ∷ d ∷ [])

-- UTF8-char = UTF8-1 / UTF8-2 / UTF8-3 / UTF8-4
pub data Utf8Char : List ℕ → Type 0 where
  utf8_1 : {char : List ℕ} → Utf8-1 char → Utf8Char char
  utf8_2 : {char : List ℕ} → Utf8-2 char → Utf8Char char
  utf8_3 : {char : List ℕ} → Utf8-3 char → Utf8Char char
  utf8_4 : {char : List ℕ} → Utf8-4 char → Utf8Char char

-- UTF8-octets = *( UTF8-char )
pub data Utf8Octets : List ℕ → Type 0 where
  no_char : Utf8Octets []
  one_more : {char rest : List ℕ} → Utf8Char char → Utf8Octets rest → Utf8Octets (char ++ rest)
