-- The gap that is computed is the chain of pieces as long as possible, and the only one; a line terminator stands in it exactly if the measure says so.
use Rattle.std.proofs.Common.{◌≡◌, ℕ, zero, suc, ◌+◌, ◌<◌, ◌≤◌, Bool, true, List, [], ◌∷◌, length, get_or, Some, None, IsUtf8, Option, sym, refl, ap, ◌∙◌, subst, inl, inr, ⊎_elim, arith}
use lib.Utf8.{encode}
use Rattle.std.specs.Char.{len_utf8}
use Rattle.std.specs.Str.{IsCharBoundary}
use Rattle.std.proofs.lemmas.Bool.{cases_lt}
use Rattle.std.proofs.lemmas.Str.{IsCharBoundary-after_ascii, IsCharBoundary-end, IsCharBoundary-past_char, IsUtf8-drop, len_utf8_bounds}
use Rattle.std.proofs.lemmas.Bool.Decides.{nat_tests}
use Rattle.source.specs.Search.{regular_whitespace}
use Rattle.scanner.specs.Ecma.{BytesAt, LineEnds, LineSwallowed, line_break, Shape, space, newline, irregular_space, irregular_newline, line, block, PieceIs, OpenBlock, NoPiece, Standing, piece, unterminated, nothing, Stands, Placed, Chain, Gap, GapStops, GapIs}
use Rattle.scanner.specs.Pieces.{piece_at, Lands}
use Rattle.scanner.specs.Gaps.{gap_by, gap_on, gap_from}
use Rattle.scanner.proofs.Lines.{get_or-within}
use Rattle.scanner.proofs.Cuts.{cut_before_terminator, cut_after_ascii}
use Rattle.scanner.proofs.Terminators.{some_terminator}
use Rattle.scanner.proofs.LineLaws.{line_within}
use Rattle.scanner.proofs.BlockLaws.{pair_bytes}
use Rattle.scanner.proofs.PieceLaws.{piece_stands, piece_only}

white_low : (b : ℕ) → regular_whitespace b ≡ true → b < 128
white_low b e = grind (arith, nat_tests)

-- LF and CR take a byte
break_width : (c : ℕ) → line_break c ≡ true → len_utf8 c ≡ 1
break_width c e = grind (arith, nat_tests)

module _ (text : List ℕ) (u : IsUtf8 text) where
  past_char : (at c end : ℕ) → IsCharBoundary text at → BytesAt (encode c) text at → end ≡ at + len_utf8 c → (at < end) × IsCharBoundary text end
  past_char at c end here h w =
      let B : ℕ → Type 0 = λ k. (at < k) × IsCharBoundary text k in
      subst B (sym w) (omega (arith, (len_utf8_bounds c).0), IsCharBoundary-past_char text h.0 at c here.0 (IsUtf8-drop text at u here) h.1)

  past_swallowed : (at stop end : ℕ) → at < stop → LineEnds text (at + 2) stop → LineSwallowed text stop end → (at < end) × IsCharBoundary text end
  past_swallowed at stop end on ends (inl (last, same)) = let B : ℕ → Type 0 = λ k. (at < k) × IsCharBoundary text k in subst B (sym (same ∙ last)) (omega (arith, last), IsCharBoundary-end text)
  past_swallowed at stop end on ends (inr (c, is, h, w)) =
      let cut : IsCharBoundary text stop = cut_before_terminator text stop (line_within text (at + 2) stop ends) (λ _. some_terminator text stop (c, is, h)) in
      let past = past_char stop c end cut h w in
      (omega (arith, past.0), past.1)

  -- a piece goes on, to where the text may be cut
  pub piece_lands : (at end : ℕ) (shape : Shape) → IsCharBoundary text at → PieceIs text at end shape → (at < end) × IsCharBoundary text end
  piece_lands at end space here (c, is, h, w) = past_char at c end here h w
  piece_lands at end irregular_space here (c, is, h, w) = past_char at c end here h w
  piece_lands at end irregular_newline here (c, is, h, w) = past_char at c end here h w
  piece_lands at end newline here ((c, is, h), run) =
      let first = past_char at c (at + len_utf8 c) here h refl in
      ⊎_elim
      (λ (lt : at + 1 < end). (omega arith, cut_after_ascii text (at + 1) end u lt run.within (λ k on before. white_low (get_or text k 0) (run.each k on before))))
      (λ (ge : end ≤ at + 1). let e : at + len_utf8 c ≡ end = omega (arith, run.onward, break_width c is) in (omega (arith, run.onward), subst (IsCharBoundary text) e first.1))
      (cases_lt (at + 1) end)
  piece_lands at end (line bytes) here (h, (stop, ends, past, is)) = past_swallowed at stop end (omega (arith, ends.onward)) ends past
  piece_lands at end (block multi bytes) here (h, (ends, flag), is) =
      let star = pair_bytes text ends.close 42 47 ends.shut in
      let B : ℕ → Type 0 = λ k. IsCharBoundary text k in
      let e : ends.close + 1 + 1 ≡ end = omega (arith, ends.ends) in
      (omega (arith, ends.ends, ends.onward), subst B e (IsCharBoundary-after_ascii text (ends.close + 1) u (get_or-within text (ends.close + 1) (omega (arith, star.1))) (omega (arith, star.1))))

  -- what stands at a place, if it is a piece, does so
  pub stands_lands : (at : ℕ) (s : Standing) → IsCharBoundary text at → Stands text at s → Lands text at s
  stands_lands at (piece start end shape) here (e, is) = piece_lands at end shape here is
  stands_lands at (unterminated multi) here is = tt
  stands_lands at nothing here is = tt

  -- at most n pieces reach from a place to the end of the text
  gap_by_is : (n at : ℕ) (s : Standing) → IsCharBoundary text at → length text ≤ n + at → Stands text at s → ((end : ℕ) → IsCharBoundary text end → at < end → GapIs text end (gap_on text n end)) → GapIs text at (gap_by s (gap_on text n) at)
  gap_by_is n at (piece start end shape) here enough (e, is) go =
      let lands = piece_lands at end shape here is in
      let rest = go end lands.1 lands.0 in
      record { chain = (e, is, rest.chain); stops = rest.stops }
  gap_by_is n at (unterminated multi) here enough is go = record { chain = refl; stops = is }
  gap_by_is n at nothing here enough is go = record { chain = refl; stops = is }

  -- the gap that is computed is the gap
  gap_on_is : (n at : ℕ) → IsCharBoundary text at → length text ≤ n + at → GapIs text at (gap_on text (suc n) at)
  gap_on_is zero at here enough =
      gap_by_is zero at (piece_at text at) here enough (piece_stands text at u here) (λ end cut on. absurd (omega (arith, cut.0)))
  gap_on_is (suc n) at here enough =
      gap_by_is (suc n) at (piece_at text at) here enough (piece_stands text at u here) (λ end cut on. gap_on_is n end cut (omega arith))

  pub gap_is : (at : ℕ) → IsCharBoundary text at → GapIs text at (gap_from text at)
  gap_is at here = gap_on_is (length text) at here (omega arith)

  -- there is no other
  stop_only : (n at end : ℕ) (unended : Option Bool) → IsCharBoundary text at → end ≡ at → GapStops text end unended → record { pieces = []; end = end; unended = unended } ≡ gap_by (piece_at text at) (gap_on text n) at
  stop_only n at end None here e stops =
      let S : ℕ → Type 0 = λ k. NoPiece text k in
      ap (λ (k : ℕ). record { pieces = []; end = k; unended = None }) e ∙ ap (λ (s : Standing). gap_by s (gap_on text n) at) (piece_only text at u here nothing (subst S e stops))
  stop_only n at end (Some multi) here e stops =
      let S : ℕ → Type 0 = λ k. OpenBlock text k multi in
      ap (λ (k : ℕ). record { pieces = []; end = k; unended = Some multi }) e ∙ ap (λ (s : Standing). gap_by s (gap_on text n) at) (piece_only text at u here (unterminated multi) (subst S e stops))

  chain_only : (pieces : List Placed) (n at end : ℕ) (unended : Option Bool) → IsCharBoundary text at → length text ≤ n + at → Chain text at pieces end → GapStops text end unended → record { pieces = pieces; end = end; unended = unended } ≡ gap_on text (suc n) at
  chain_only [] n at end unended here enough e stops = stop_only n at end unended here e stops
  chain_only (p ∷ pieces) zero at end unended here enough (e, is, rest) stops =
      let lands = piece_lands at p.end p.shape here is in absurd (omega (arith, lands.0, lands.1.0))
  chain_only (p ∷ pieces) (suc n) at end unended here enough (e, is, rest) stops =
      let lands = piece_lands at p.end p.shape here is in
      let more = chain_only pieces n p.end end unended lands.1 (omega (arith, lands.0)) rest stops in
      ap (λ (g : Gap). record { pieces = p ∷ g.pieces; end = g.end; unended = g.unended }) more
      ∙ ap (λ (s : Standing). gap_by s (gap_on text (suc n)) at) (piece_only text at u here (piece p.start p.end p.shape) (e, is))

  pub gap_only : (at : ℕ) → IsCharBoundary text at → (g : Gap) → GapIs text at g → g ≡ gap_from text at
  gap_only at here g h = chain_only g.pieces (length text) at g.end g.unended here (omega arith) h.chain h.stops
