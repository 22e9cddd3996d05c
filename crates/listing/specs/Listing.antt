-- The listing of a reading.
use Rattle.std.specs.Prelude.{ℕ, ◌+◌, ◌-◌, ◌*◌, ◌/◌, min, Bool, false, cond, List, [], ◌∷◌, ◌++◌, length, drop, Some, None, Ok, Err, Option, Result, ◌==◌, nat_lt, slice_index_or}
use Rattle.kinds.specs.declared.kind.Kind.TheVariants.{Eof}
use Rattle.refusals.specs.declared.Refusal.{Refusal}
use Rattle.refusals.specs.declared.Refusal.TheVariants.{ListingTooLong}
use Rattle.comments.specs.declared.comment.Comment.{Comment}
use Rattle.comments.specs.Rows.{kind_number, content_number, position_number}
use Rattle.builder.specs.declared.span.Span.{Span}
use Rattle.table.specs.View.{kept_of}
use Rattle.reader.specs.declared.tables.Tables.{Tables}
use Rattle.reader.specs.declared.token_row.TokenRow.{TokenRow}
use Rattle.refusals.specs.Numbers.{number_of}
use Rattle.listing.specs.Bytes.{line_of}

abbrev pub bit : Bool → ℕ
bit b = cond b 1 0

-- `C ` start end kind class position target newline-before newline-after
abbrev pub comment_fields : Comment → List ℕ
comment_fields c =
    c.start ∷ c.end ∷ kind_number c.kind ∷ content_number c.content ∷ position_number c.position ∷ c.attached_to ∷ bit c.preceded_by_newline ∷ bit c.followed_by_newline ∷ []

abbrev pub comment_line : Comment → List ℕ
comment_line c = line_of 67 (comment_fields c)

-- `W ` start end
abbrev pub space_line : Span → List ℕ
space_line s = line_of 87 (s.start ∷ s.end ∷ [])

-- the lines of rows, one after another
abbrev pub lines_of : {R : Type 0} → (R → List ℕ) → List R → List ℕ
lines_of line [] = []
lines_of line (r ∷ rs) = line r ++ lines_of line rs

-- `U ` start end, if the last token is an unterminated Eof
abbrev pub no_token_row : TokenRow
no_token_row = record { token = record { kind = Eof; start = 0; end = 0; is_on_new_line = false }; pure_comments = None; no_side_effects_comments = None; unterminated = false }

abbrev pub unterminated_line : TokenRow → List ℕ
unterminated_line row = cond row.unterminated (line_of 85 (row.token.start ∷ row.token.end ∷ [])) []

abbrev pub last_row : List TokenRow → TokenRow
last_row rows = slice_index_or rows (length rows - 1) no_token_row

-- how many bytes are of comments; all numbers of a listing fit 64 bits
abbrev pub most : ℕ
most = 18446744073709551615

abbrev pub bytes_in : List Comment → ℕ
bytes_in [] = 0
bytes_in (c ∷ cs) = (c.end - c.start) + bytes_in cs

abbrev pub comment_bytes : List Comment → ℕ
comment_bytes cs = min (bytes_in cs) most

-- thousandths of the text, cut off; 0 of an empty text
abbrev pub share : ℕ → ℕ → ℕ
share bytes long = cond (long == 0) 0 (min (bytes * 1000) most / long)

-- `E ` comments, spaces, comment bytes, thousandths of the text that are comment
abbrev pub end_fields : List Comment → List Span → ℕ → List ℕ
end_fields cs ss long = length cs ∷ length ss ∷ comment_bytes cs ∷ share (comment_bytes cs) long ∷ []

abbrev pub listing : List TokenRow → List Comment → List Span → ℕ → List ℕ
listing ts cs ss long = lines_of comment_line cs ++ (lines_of space_line ss ++ (unterminated_line (last_row ts) ++ line_of 69 (end_fields cs ss long)))

-- the listing of what the tables have on record
abbrev pub listing_of : Tables → ℕ → List ℕ
listing_of t long = listing (kept_of t.tokens) (kept_of t.comments) (kept_of t.spaces) long

-- what listing answers: the refusal of the text, then whether the listing fits, then how many bytes it has
abbrev pub listed : Option Refusal → List ℕ → ℕ → Result ℕ Refusal
listed (Some refusal) bytes room = Err refusal
listed None bytes room = cond (nat_lt room (length bytes)) (Err ListingTooLong) (Ok (length bytes))

-- the buffer after that: the listing and then its other bytes, or all as it was
abbrev pub listed_bytes : Result ℕ Refusal → List ℕ → List ℕ → List ℕ
listed_bytes (Ok n) bytes buffer = bytes ++ drop (length bytes) buffer
listed_bytes (Err refusal) bytes buffer = buffer

-- `R ` number
abbrev pub refusal_line : Refusal → List ℕ
refusal_line refusal = line_of 82 (number_of refusal ∷ [])
