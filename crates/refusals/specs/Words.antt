-- What is printed of each refusal.
use Rattle.std.specs.Prelude.{ℕ, List, ◌++◌, codes, decimal}
use Rattle.refusals.specs.declared.Refusal.{Refusal}
use Rattle.refusals.specs.declared.Refusal.TheVariants.{TooLong, NotUtf8, AfterEof, NoToken, CommentsFull, SpacesFull, TokensFull, BadComment, ListingTooLong}

abbrev pub words_of : Refusal → List ℕ
words_of TooLong = codes "the text is longer than the limit"
words_of NotUtf8 = codes "the text is not UTF-8"
words_of AfterEof = codes "nothing follows the end of the text"
words_of (NoToken place) = codes "no token stands at " ++ decimal place
words_of CommentsFull = codes "the table of comments is full"
words_of SpacesFull = codes "the table of irregular white space is full"
words_of TokensFull = codes "the table of tokens is full"
words_of BadComment = codes "the comment does not lie in the text"
words_of ListingTooLong = codes "the buffer is too short for the listing"
