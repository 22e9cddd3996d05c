-- The run of white space that a search passes, and that it is ASCII.
use Rattle.std.proofs.Common.{◌≡◌, ℕ, ◌+◌, ◌<◌, Bool, false, not, List, map, get_or, drop, sym, ap, ◌∙◌, zero-add, arith}
use Rattle.std.specs.List.{prefix_len, range_with_len}
use Rattle.std.proofs.lemmas.List.FromFn.{get_or-map-range_with_len}
use Rattle.std.proofs.Math.Bool.{not-not}
use Rattle.std.proofs.lemmas.Bool.Decides.{nat_tests}
use Rattle.source.specs.Search.{hits, misses, ends_regular_whitespace, regular_whitespace}
use Rattle.scanner.proofs.Lines.{missed, leading_same}

small : (b : ℕ) → ends_regular_whitespace b ≡ false → b < 128
small b h = grind (arith, nat_tests)

-- white space that is no irregular space is ASCII
pub white_ascii : (t : List Bool) (b : ℕ) → b < 256 → hits t b ≡ false → t ≡ map ends_regular_whitespace (range_with_len 0 256) → b < 128
white_ascii t b fits miss is = small b (sym (get_or-map-range_with_len ends_regular_whitespace 0 256 b b false fits (zero-add b)) ∙ ap (λ (l : List Bool). get_or l b false) (sym is) ∙ miss)

-- a search over the table of what ends white space passes the white space
pub white_run : (t : List Bool) (xs : List ℕ) (i j : ℕ) → j ≡ i + prefix_len (misses t) (drop i xs) → ((k : ℕ) → get_or xs k 0 < 256) → t ≡ map ends_regular_whitespace (range_with_len 0 256) → j ≡ i + prefix_len regular_whitespace (drop i xs)
white_run t xs i j e fits is =
    e ∙ ap (λ (n : ℕ). i + n) (missed ends_regular_whitespace t is xs i fits ∙ leading_same (λ b. not (ends_regular_whitespace b)) regular_whitespace (drop i xs) (λ k. not-not _))
