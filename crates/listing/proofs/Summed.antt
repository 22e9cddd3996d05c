-- The bytes of comments, folded up.
use Rattle.std.proofs.Common.{◌≡◌, ℕ, ◌+◌, ◌-◌, ◌≤◌, min, List, [], ◌∷◌, arith, ◌∙◌}
use Rattle.std.specs.List.{fold}
use Rattle.comments.specs.declared.comment.Comment.{Comment}
use Rattle.listing.specs.Listing.{most, bytes_in, comment_bytes}

-- a sum of bytes with those of one comment more, as far as a number goes
abbrev pub add_bytes : ℕ → Comment → ℕ
add_bytes n c = min (n + (c.end - c.start)) most

folded : (cs : List Comment) (n : ℕ) → n ≤ most → fold add_bytes n cs ≡ min (n + bytes_in cs) most
folded [] n le = omega (arith, le)
folded (c ∷ cs) n le = folded cs (add_bytes n c) (omega arith) ∙ omega arith

pub bytes_folded : (cs : List Comment) → fold add_bytes 0 cs ≡ comment_bytes cs
bytes_folded cs = folded cs 0 (omega arith) ∙ omega arith
