-- The layout of a recorded token: what eleven bytes spell.
use Rattle.std.specs.Prelude.{◌≡◌, ℕ, ◌+◌, ◌*◌, Bool, cond, ◌&&◌, List, length, take, drop, Some, None, codes, Option, Result, IfOk, Ok, ok_or, ◌==◌, slice_index, slice_index_or}
use Rattle.kinds.specs.Kinds.{number_of, kind_of}
use Rattle.kinds.specs.declared.kind.Kind.{Kind}
use Rattle.tokens.specs.declared.layout.NotARecord.{NotARecord}
use Rattle.tokens.specs.declared.layout.Record.{Record}

-- the number that four bytes from a place on spell, the least byte first
abbrev pub little_endian : List ℕ → ℕ → ℕ
little_endian bytes at =
    slice_index bytes at + 256 * (slice_index bytes (at + 1) + 256 * (slice_index bytes (at + 2) + 256 * slice_index bytes (at + 3)))

-- bytes that spell a record: eleven, the mark `T `, the kind's number, the start and the end
pub record Spells (bytes : List ℕ) (r : Record) : Type 0 where
  pub whole : length bytes ≡ 11
  pub mark : take 2 bytes ≡ codes "T "
  pub kind : slice_index_or bytes 2 0 ≡ number_of r.kind
  pub start : little_endian bytes 3 ≡ r.start
  pub end : little_endian bytes 7 ≡ r.end

-- whether the bytes are eleven and begin with the mark
abbrev pub marked : List ℕ → Bool
marked bytes = length bytes == 11 && (slice_index bytes 0 == 84 && slice_index bytes 1 == 32)

-- a record of a kind, if there is one, with a start and an end
abbrev pub record_of_kind : Option Kind → ℕ → ℕ → Option Record
record_of_kind None start end = None
record_of_kind (Some kind) start end = Some (record { kind = kind; start = start; end = end })

-- the record that the bytes spell, if they spell one
abbrev pub record_of : List ℕ → Option Record
record_of bytes = cond (marked bytes) (record_of_kind (kind_of (slice_index bytes 2)) (little_endian bytes 3) (little_endian bytes 7)) None

-- what is told of bytes: the record that they spell, or an error
pub record GivesRecord (bytes : List ℕ) (r : Result Record NotARecord) : Type 0 where
  pub value : r ≡ ok_or (record_of bytes) (record {})
  pub spells : IfOk r (Spells bytes)
  pub every : (x : Record) → Spells bytes x → r ≡ Ok x

-- the bytes of record n of a list; they are fewer than eleven where the list has no such record
abbrev pub record_bytes : List ℕ → ℕ → List ℕ
record_bytes list n = take 11 (drop (11 * n) list)
