-- Appending to rows that are kept in the order of where they start.
use Rattle.std.specs.Prelude.{◌≡◌, ℕ, ◌+◌, ◌-◌, ◌<◌, Bool, true, cond, List, map, length, take, Some, None, Ok, Err, Option, Result, ◌==◌, ◌≢◌, nat_lt, slice_index, slice_set}
use Rattle.table.specs.declared.Appended.{Appended}
use Rattle.table.specs.declared.Appended.TheVariants.{Added, Dropped}
use Rattle.table.specs.declared.Full.{Full}

-- where the rows on record start
abbrev pub starts : {R : Type 0} → (R → ℕ) → List R → ℕ → List ℕ
starts at rows count = map at (take count rows)

-- the last of a list of starts, if there is one
abbrev pub last_start : List ℕ → Option ℕ
last_start ss = cond (length ss == 0) None (Some (slice_index ss (length ss - 1)))

-- whether a start is above the last of a list of starts
abbrev pub follows : List ℕ → ℕ → Bool
follows ss start = cond (length ss == 0) true (nat_lt (slice_index ss (length ss - 1)) start)

-- each start is above those before it
abbrev pub Rising : List ℕ → Type 0
Rising ss = (i j : ℕ) → i < j → j < length ss → slice_index ss i < slice_index ss j

-- the index that was found has that start; where none was found in rising starts, none has
abbrev pub Found : List ℕ → ℕ → Option ℕ → Type 0
Found ss start None = Rising ss → (k : ℕ) → k < length ss → slice_index ss k ≢ start
Found ss start (Some i) = (i < length ss) × (slice_index ss i ≡ start)

-- a row that does not follow is dropped; one that does is added where there is room
abbrev pub outcome : {R : Type 0} → (R → ℕ) → List R → ℕ → R → Result Appended Full
outcome at rows count row = cond (follows (starts at rows count) (at row)) (cond (nat_lt count (length rows)) (Ok Added) (Err (record {}))) (Ok Dropped)

abbrev pub rows_with : {R : Type 0} → Result Appended Full → List R → ℕ → R → List R
rows_with (Ok Added) rows count row = slice_set rows count row
rows_with (Ok Dropped) rows count row = rows
rows_with (Err full) rows count row = rows

abbrev pub count_with : Result Appended Full → ℕ → ℕ
count_with (Ok Added) count = count + 1
count_with (Ok Dropped) count = count
count_with (Err full) count = count
