-- What reading a token comes to.
use Rattle.std.specs.Prelude.{ℕ, ◌+◌, Bool, false, cond, ◌&&◌, ◌||◌, List, length, drop, Some, None, Ok, Err, Option, Result, ◌==◌, nat_le, nat_lt, slice_index}
use Rattle.std.specs.Str.{IsCharBoundary}
use Rattle.kinds.specs.declared.kind.Kind.{Kind}
use Rattle.kinds.specs.declared.kind.Kind.TheVariants.{Eof, HashbangComment}
use Rattle.refusals.specs.declared.Refusal.{Refusal}
use Rattle.refusals.specs.declared.Refusal.TheVariants as refusal
use Rattle.scanner.specs.declared.gap.GapMeasure.{GapMeasure}
use Rattle.scanner.specs.Ends.{line_end}
use Rattle.tokens.specs.declared.token_reader.Told.{Told}
use Rattle.tokens.specs.Telling.{Telling}
use Rattle.reader.specs.declared.OpenError.{OpenError}
use Rattle.reader.specs.declared.OpenError.TheVariants.{TooLong, NotUtf8}
use Rattle.reader.specs.declared.token_row.Found.{Found}

abbrev pub found : Kind → ℕ → ℕ → Bool → Bool → Found
found kind start end newline unterminated =
    record { token = record { kind = kind; start = start; end = end; is_on_new_line = newline }; unterminated = unterminated }

-- the text begins with `#!`
abbrev pub opens_hashbang : List ℕ → Bool
opens_hashbang text = slice_index text 0 == 35 && slice_index text 1 == 33

abbrev pub told_at : GapMeasure → Option Told → Option Found
told_at g None = None
told_at g (Some t) = Some (found t.kind g.end t.end g.newline false)

-- the token after a gap: Eof at the end or from an unterminated block on, a hashbang line at the very start, else what is told
abbrev pub token_after : Bool → Telling → List ℕ → GapMeasure → Option Found
token_after banged tell text g =
    cond (g.unterminated || nat_le (length text) g.end) (Some (found Eof g.end (length text) g.newline g.unterminated))
    (cond (banged && (g.end == 0 && opens_hashbang text)) (Some (found HashbangComment g.end (2 + line_end (drop 2 text)) g.newline false))
    (told_at g (tell text g.end)))

-- is there a token, and do the gap's new comments, its new spaces and the token fit; the rooms are in the order of the tables of comments, spaces and tokens
abbrev pub fitting : GapMeasure → ℕ → ℕ → ℕ → Option Found → Result Found Refusal
fitting g comments spaces tokens None = Err (refusal.NoToken g.end)
fitting g comments spaces tokens (Some f) =
    cond (nat_lt comments g.comments) (Err refusal.CommentsFull)
    (cond (nat_lt spaces g.spaces) (Err refusal.SpacesFull)
    (cond (tokens == 0) (Err refusal.TokensFull)
    (Ok f)))

abbrev pub refusal_of : OpenError → Refusal
refusal_of TooLong = refusal.TooLong
refusal_of NotUtf8 = refusal.NotUtf8

abbrev pub opening_refusal : Result (Unit {0}) OpenError → Option Refusal
opening_refusal (Ok opened) = None
opening_refusal (Err why) = Some (refusal_of why)

-- the questions in their order: the opening, the end of the text, and then the above
abbrev pub verdict : Result (Unit {0}) OpenError → Bool → Result Found Refusal → Result Found Refusal
verdict (Err why) ended answer = Err (refusal_of why)
verdict (Ok opened) ended answer = cond ended (Err refusal.AfterEof) answer

-- a result without its value
abbrev pub unless : {X : Type 0} → Result X Refusal → Result (Unit {0}) Refusal
unless (Ok x) = Ok tt
unless (Err e) = Err e

-- a token that was found ends where the text may be cut
abbrev pub FoundLands : List ℕ → Option Found → Type 0
FoundLands text None = Unit {0}
FoundLands text (Some f) = IsCharBoundary text f.token.end
