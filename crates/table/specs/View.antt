-- What a table has on record.
use Rattle.std.specs.Prelude.{ℕ, List, take}
use Rattle.table.specs.declared.Table.{Table}
use Rattle.table.specs.Order.{starts}

-- all of its rows, on record or not
abbrev pub rows_of : {R : Type 0} → Table R → List R
rows_of t = t.rows.now

abbrev pub count_of : {R : Type 0} → Table R → ℕ
count_of t = t.count

-- the rows on record, for any count
abbrev pub kept_of : {R : Type 0} → Table R → List R
kept_of t = take t.count t.rows.now

-- where they start
abbrev pub starts_of : {R : Type 0} → (R → ℕ) → Table R → List ℕ
starts_of at t = starts at (rows_of t) (count_of t)
