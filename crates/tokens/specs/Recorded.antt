-- A recorded list of tokens: which token a record tells of a text, and which record is told.
use Rattle.std.specs.Prelude.{◌≡◌, ℕ, zero, suc, ◌/◌, ◌≤◌, Bool, true, cond, ◌&&◌, ◌||◌, List, length, is_some, IfSome, Some, None, Option, ◌==◌, nat_le, nat_lt, slice_index}
use Rattle.std.specs.Option.{option_or}
use Rattle.kinds.specs.Kinds.{number_of}
use Rattle.tokens.specs.Layout.{Spells, record_of, record_bytes}
use Rattle.tokens.specs.Telling.{Telling, Fair}
use Rattle.tokens.specs.declared.layout.Record.{Record}
use Rattle.tokens.specs.declared.token_reader.Told.{Told}

-- record n of a list tells a token at a place of a text: it spells the token, which starts there,
-- and counts, since the token keeps the laws of a token reader
pub record RecordTells (list : List ℕ) (n : ℕ) (text : List ℕ) (place : ℕ) (t : Told) : Type 0 where
  pub says : Spells (record_bytes list n) (record { kind = t.kind; start = place; end = t.end })
  pub counts : Fair text place t

-- what is told at a place is what the first record tells that tells a token there
pub record FirstTold (list text : List ℕ) (place : ℕ) (o : Option Told) : Type 0 where
  -- a token that is told is told by a record, and none before it tells any
  pub sound : IfSome o (λ t. (n : ℕ) × RecordTells list n text place t × ((m : ℕ) (u : Told) → RecordTells list m text place u → n ≤ m))
  -- where a record tells a token, one is told
  pub complete : (n : ℕ) (t : Told) → RecordTells list n text place t → is_some o ≡ true

-- whether a text may be cut at a place: at its end, and before each byte that begins a character
abbrev pub boundary : List ℕ → ℕ → Bool
boundary text place = place == length text || (nat_lt place (length text) && (nat_lt (slice_index text place) 128 || nat_le 192 (slice_index text place)))

-- whether a record counts for a text: it has a token's kind and a length, and both its ends lie in the text, between characters
abbrev pub counts_for : List ℕ → Record → Bool
counts_for text r = nat_le 4 (number_of r.kind) && (nat_lt r.start r.end && (boundary text r.start && boundary text r.end))

-- what a record tells at a place of a text
abbrev pub told_by : List ℕ → ℕ → Option Record → Option Told
told_by text place None = None
told_by text place (Some r) = cond (r.start == place && counts_for text r) (Some (record { kind = r.kind; end = r.end })) None

-- what the first of n records tells that tells a token at a place
abbrev pub first_of : List ℕ → List ℕ → ℕ → ℕ → Option Told
first_of list text place zero = None
first_of list text place (suc n) = option_or (first_of list text place n) (told_by text place (record_of (record_bytes list n)))

-- the telling of a list: of all its records
abbrev pub recorded_telling : List ℕ → Telling
recorded_telling list text place = first_of list text place (length list / 11)
