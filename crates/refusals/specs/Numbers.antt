-- The number of each refusal.
use Rattle.std.specs.Prelude.{ℕ}
use Rattle.refusals.specs.declared.Refusal.{Refusal}
use Rattle.refusals.specs.declared.Refusal.TheVariants.{TooLong, NotUtf8, AfterEof, NoToken, CommentsFull, SpacesFull, TokensFull, BadComment, ListingTooLong}

abbrev pub number_of : Refusal → ℕ
number_of TooLong = 1
number_of NotUtf8 = 2
number_of AfterEof = 3
number_of (NoToken place) = 4
number_of CommentsFull = 5
number_of SpacesFull = 6
number_of TokensFull = 7
number_of BadComment = 10
number_of ListingTooLong = 12
