-- What the scanner computes at a place is what stands there, and nothing else stands there.
use Rattle.std.proofs.Common.{◌≡◌, ℕ, ◌+◌, ◌<◌, ◌≤◌, Bool, true, false, ◌||◌, eqb, leb, List, [], ◌∷◌, ◌++◌, length, get_or, drop, codes, Ok, Err, Result, IsUtf8, sym, refl, ap, ◌∙◌, subst, inl, inr, ⊎_elim, arith, lit<}
use lib.Utf8.{encode, encodes}
use Rattle.std.specs.Char.{len_utf8}
use Rattle.std.specs.Str.{IsCharBoundary}
use Rattle.std.specs.List.{prefix_len}
use Rattle.std.proofs.lemmas.List.{drop_all, length-append, length-drop}
use Rattle.std.proofs.lemmas.Bool.{both_ways, cases_lt, cond_both, cond-true, cond-false, eqb-true, eqb-false, le-leb, lt-leb, or_cases, or_left, or_right}
use Rattle.std.proofs.lemmas.Str.{encode_same, length-encode, IsUtf8-drop, len_utf8_ascii, len_utf8_bounds}
use Rattle.std.proofs.lemmas.Bool.Decides.{nat_tests}
use Rattle.source.specs.Search.{regular_whitespace}
use Rattle.source.specs.Unicode.{irregular_whitespace, irregular_line_terminator, first_char}
use Rattle.source.proofs.Spelt.{first_spelt}
use Rattle.scanner.specs.declared.comment.Block.{Block}
use Rattle.scanner.specs.declared.comment.Unterminated.{Unterminated}
use Rattle.scanner.specs.Ecma.{BytesAt, cut, LineEnds, LineSwallowed, BlockIs, plain_space, line_break, gap_character, space, newline, irregular_space, irregular_newline, line, block, NoPiece, Standing, piece, unterminated, nothing, Stands}
use Rattle.scanner.specs.Ends.{terminator, line_end}
use Rattle.scanner.specs.Pieces.{line_to, line_from, block_piece, comment_from, white_from, piece_from, piece_at}
use Rattle.scanner.proofs.Lines.{ended, unended, get_or-within}
use Rattle.scanner.proofs.Terminators.{head_byte, term_of, stands_from, some_terminator}
use Rattle.scanner.proofs.LineLaws.{line_ends, line_only}
use Rattle.scanner.proofs.BlockLaws.{pair_at, pair_bytes, block_from_is, block_only}
use Rattle.scanner.proofs.RunLaws.{run_ends, run_only}

slash : encode 47 ≡ 47 ∷ []
unfolding encode
slash = refl

no_gap_character : (c : ℕ) → plain_space c ≡ false → line_break c ≡ false → irregular_whitespace c ≡ false → irregular_line_terminator c ≡ false → gap_character c ≡ false
no_gap_character c a b d e = grind (arith, nat_tests)

irregular_others : (c : ℕ) → irregular_whitespace c ≡ true → (eqb c 0x2F ≡ false) × (plain_space c ≡ false) × (line_break c ≡ false)
irregular_others c e = (grind (arith, nat_tests), grind (arith, nat_tests), grind (arith, nat_tests))

break_gap : (c : ℕ) → line_break c ≡ true → gap_character c ≡ true
break_gap c e = grind (arith, nat_tests)

odd_gap : (c : ℕ) → irregular_line_terminator c ≡ true → gap_character c ≡ true
odd_gap c e = grind (arith, nat_tests)

low : (A B : Bool) (c m n : ℕ) → m < 128 → n < 128 → (A ≡ true → c ≡ m) → (B ≡ true → c ≡ n) → (A || B) ≡ true → c < 128
low A B c m n lm ln fa fb e = ⊎_elim (λ a. omega (arith, fa a)) (λ b. omega (arith, fb b)) (or_cases A B e)

module _ (text : List ℕ) (at : ℕ) where
  -- some bytes stand at a place within the text
  inside : (c : ℕ) → BytesAt (encode c) text at → at < length text
  inside c h = omega (arith, ap length h.1 ∙ length-append (encode c) h.0, length-encode c, (len_utf8_bounds c).0, length-drop at text)

  same_char : (c d : ℕ) → BytesAt (encode c) text at → BytesAt (encode d) text at → c ≡ d
  same_char c d h k = (encode_same c d h.0 k.0 (sym h.1 ∙ k.1)).0

  slash_at : (b : ℕ) → BytesAt (47 ∷ b ∷ []) text at → BytesAt (encode 47) text at
  slash_at b h = (b ∷ h.0, h.1 ∙ ap (λ (l : List ℕ). l ++ (b ∷ h.0)) (sym slash))

  at_char : (c : ℕ) → BytesAt (encode c) text at → piece_at text at ≡ piece_from text at c
  at_char c h =
      cond-false (leb (length text) at) nothing (piece_from text at (first_char (drop at text))) (lt-leb (length text) at (inside c h))
      ∙ ap (piece_from text at) (ap first_char h.1 ∙ first_spelt c h.0)

  -- where no character stands, nothing does
  gone : length text ≤ at → NoPiece text at
  gone ge =
      let none : (c : ℕ) → BytesAt (encode c) text at → ⊥ = λ c h. omega (arith, inside c h) in
      record { no_space = λ h. none h.0 h.2; no_line = λ h. none 47 (slash_at 47 h); no_block = λ h. none 47 (slash_at 42 h) }

  swallowed : (end : ℕ) → LineEnds text (at + 2) end → LineSwallowed text end (end + terminator (drop end text))
  swallowed end h =
      ⊎_elim (λ (some : 0 < terminator (drop end text)). inr (stands_from text end some))
      (λ (none : terminator (drop end text) ≤ 0). inl (⊎_elim (λ e. e) (λ t. absurd (omega (arith, some_terminator text end t))) h.stops, omega arith))
      (cases_lt 0 (terminator (drop end text)))

  line_stands : BytesAt (codes "//") text at → Stands text at (line_from text at)
  line_stands h =
      let le : at + 2 ≤ length text = omega (arith, get_or-within text (at + 1) (omega (arith, (pair_bytes text at 47 47 h).1))) in
      let ends = line_ends text (at + 2) le in
      (refl, (h, (at + 2 + line_end (drop (at + 2) text), ends, swallowed _ ends, refl)))

  block_stands : BytesAt (codes "/*") text at → (b : Result Block Unterminated) → BlockIs text (at + 2) b → Stands text at (block_piece text at b)
  block_stands h (Ok b) is = (refl, (h, is, refl))
  block_stands h (Err b) is = (h, is)

  comment_stands : BytesAt (encode 47) text at → Stands text at (comment_from text at (get_or text (at + 1) 0))
  comment_stands h =
      let first : get_or text at 0 ≡ 47 = head_byte text at 47 h.0 (h.1 ∙ ap (λ (l : List ℕ). l ++ h.0) slash) in
      cond_both (eqb (get_or text (at + 1) 0) 47) _ _ (Stands text at)
      (λ e. line_stands (pair_at text at 47 47 (lit< tt) (lit< tt) first (eqb-true _ _ e)))
      (λ e. cond_both (eqb (get_or text (at + 1) 0) 42) _ nothing (Stands text at)
      (λ f. block_stands (pair_at text at 47 42 (lit< tt) (lit< tt) first (eqb-true _ _ f)) _ (block_from_is text (at + 2)))
      (λ f. record {
        no_space = λ k. both_ways (gap_character 47) refl (ap gap_character (same_char 47 k.0 h k.2) ∙ k.1);
        no_line = λ k. eqb-false _ _ e (pair_bytes text at 47 47 k).1;
        no_block = λ k. eqb-false _ _ f (pair_bytes text at 47 42 k).1;
      }))

  white_stands : (c : ℕ) → (c ≡ 47 → ⊥) → BytesAt (encode c) text at → Stands text at (white_from text at c)
  white_stands c other h =
      let lt = inside c h in
      cond_both (plain_space c) (piece at (at + 1) space) _ (Stands text at)
      (λ e. (refl, (c, e, h, ap (λ (n : ℕ). at + n) (sym (len_utf8_ascii c (low _ _ c 32 9 (lit< tt) (lit< tt) (eqb-true c 32) (eqb-true c 9) e))))))
      (λ e. cond_both (line_break c) (piece at (at + 1 + prefix_len regular_whitespace (drop (at + 1) text)) newline) _ (Stands text at)
      (λ f. (refl, ((c, f, h), run_ends text (at + 1) (omega arith))))
      (λ f. cond_both (irregular_whitespace c) (piece at (at + len_utf8 c) irregular_space) _ (Stands text at)
      (λ g. (refl, (c, g, h, refl)))
      (λ g. cond_both (irregular_line_terminator c) (piece at (at + len_utf8 c) irregular_newline) nothing (Stands text at)
      (λ i. (refl, (c, i, h, refl)))
      (λ i. record {
        no_space = λ k. both_ways (gap_character c) (no_gap_character c e f g i) (ap gap_character (same_char c k.0 h k.2) ∙ k.1);
        no_line = λ k. other (same_char c 47 h (slash_at 47 k));
        no_block = λ k. other (same_char c 47 h (slash_at 42 k));
      }))))

  char_stands : (c : ℕ) → BytesAt (encode c) text at → Stands text at (piece_from text at c)
  char_stands c h =
      cond_both (eqb c 0x2F) _ _ (Stands text at)
      (λ e. comment_stands (let B : ℕ → Type 0 = λ d. BytesAt (encode d) text at in subst B (eqb-true c 47 e) h))
      (λ e. white_stands c (eqb-false c 47 e) h)

  -- at a boundary within a text a character stands
  char_here : IsUtf8 text → IsCharBoundary text at → at < length text → (c : ℕ) × BytesAt (encode c) text at
  char_here u here lt = first (IsUtf8-drop text at u here).0 (IsUtf8-drop text at u here).1.1
    where
      first : (cs : List ℕ) → encodes cs ≡ drop at text → (c : ℕ) × BytesAt (encode c) text at
      first [] e = absurd (omega (arith, ap length e, length-drop at text))
      first (c ∷ cs) e = (c, (encodes cs, sym e))

  -- what is computed stands there
  pub piece_stands : IsUtf8 text → IsCharBoundary text at → Stands text at (piece_at text at)
  piece_stands u here =
      ⊎_elim
      (λ (lt : at < length text). let h = char_here u here lt in subst (Stands text at) (sym (at_char h.0 h.1)) (char_stands h.0 h.1))
      (λ (ge : length text ≤ at). subst (Stands text at) (sym (cond-true (leb (length text) at) nothing _ (le-leb (length text) at ge))) (gone ge))
      (cases_lt at (length text))

  -- the piece of each shape is the one computed
  space_only : (c end : ℕ) → plain_space c ≡ true → BytesAt (encode c) text at → end ≡ at + len_utf8 c → piece at end space ≡ piece_at text at
  space_only c end is h w =
      ap (λ (k : ℕ). piece at k space) (w ∙ ap (λ (n : ℕ). at + n) (len_utf8_ascii c (low _ _ c 32 9 (lit< tt) (lit< tt) (eqb-true c 32) (eqb-true c 9) is)))
      ∙ sym (at_char c h ∙ let P : ℕ → Type 0 = λ d. piece_from text at d ≡ piece at (at + 1) space in ⊎_elim (λ e. subst P (sym (eqb-true c 32 e)) refl) (λ e. subst P (sym (eqb-true c 9 e)) refl) (or_cases _ _ is))

  newline_only : (c end : ℕ) → line_break c ≡ true → BytesAt (encode c) text at → end ≡ at + 1 + prefix_len regular_whitespace (drop (at + 1) text) → piece at end newline ≡ piece_at text at
  newline_only c end is h e =
      ap (λ (k : ℕ). piece at k newline) e
      ∙ sym (at_char c h ∙ let P : ℕ → Type 0 = λ d. piece_from text at d ≡ piece at (at + 1 + prefix_len regular_whitespace (drop (at + 1) text)) newline in ⊎_elim (λ x. subst P (sym (eqb-true c 10 x)) refl) (λ x. subst P (sym (eqb-true c 13 x)) refl) (or_cases _ _ is))

  irregular_only : (c end : ℕ) → irregular_whitespace c ≡ true → BytesAt (encode c) text at → end ≡ at + len_utf8 c → piece at end irregular_space ≡ piece_at text at
  irregular_only c end is h w =
      let n = irregular_others c is in
      ap (λ (k : ℕ). piece at k irregular_space) w
      ∙ sym (at_char c h ∙ cond-false _ _ _ n.0 ∙ cond-false _ _ _ n.1 ∙ cond-false _ _ _ n.2 ∙ cond-true _ _ _ is)

  break_only : (c end : ℕ) → irregular_line_terminator c ≡ true → BytesAt (encode c) text at → end ≡ at + len_utf8 c → piece at end irregular_newline ≡ piece_at text at
  break_only c end is h w =
      ap (λ (k : ℕ). piece at k irregular_newline) w
      ∙ sym (at_char c h ∙ let P : ℕ → Type 0 = λ d. piece_from text at d ≡ piece at (at + len_utf8 d) irregular_newline in ⊎_elim (λ x. subst P (sym (eqb-true c 8232 x)) refl) (λ x. subst P (sym (eqb-true c 8233 x)) refl) (or_cases _ _ is))

  after_slash : (b : ℕ) → BytesAt (47 ∷ b ∷ []) text at → piece_at text at ≡ comment_from text at b
  after_slash b h = at_char 47 (slash_at b h) ∙ ap (comment_from text at) (pair_bytes text at 47 b h).1

  past_line : (stop end : ℕ) → LineEnds text (at + 2) stop → LineSwallowed text stop end → end ≡ stop + terminator (drop stop text)
  past_line stop end ends (inl (last, same)) = omega (arith, ap terminator (drop_all stop text (omega arith)))
  past_line stop end ends (inr (c, is, h, w)) = omega (arith, w, term_of text stop c is h)

  line_only_here : (stop end : ℕ) (bytes : List ℕ) → BytesAt (codes "//") text at → LineEnds text (at + 2) stop → LineSwallowed text stop end → bytes ≡ cut text at stop → piece at end (line bytes) ≡ piece_at text at
  line_only_here stop end bytes h ends past is =
      let le : at + 2 ≤ length text = omega (arith, get_or-within text (at + 1) (omega (arith, (pair_bytes text at 47 47 h).1))) in
      ap (λ (l : List ℕ). piece at end (line l)) is ∙ ap (λ (k : ℕ). piece at k (line (cut text at stop))) (past_line stop end ends past)
      ∙ ap (line_to text at) (line_only text (at + 2) stop _ ends (line_ends text (at + 2) le)) ∙ sym (after_slash 47 h)

  block_only_here : BytesAt (codes "/*") text at → (b : Result Block Unterminated) → BlockIs text (at + 2) b → block_piece text at b ≡ piece_at text at
  block_only_here h b is = ap (block_piece text at) (block_only text (at + 2) b _ is (block_from_is text (at + 2))) ∙ sym (after_slash 42 h)

  -- where no piece begins, none is computed
  none_stands : (s : Standing) → Stands text at s → NoPiece text at → nothing ≡ s
  none_stands (piece start end space) (e, (c, is, h, w)) none = absurd (none.no_space (c, or_left _ _ (or_left _ _ is), h))
  none_stands (piece start end newline) (e, ((c, is, h), r)) none = absurd (none.no_space (c, break_gap c is, h))
  none_stands (piece start end irregular_space) (e, (c, is, h, w)) none = absurd (none.no_space (c, or_left _ _ (or_right (plain_space c) _ is), h))
  none_stands (piece start end irregular_newline) (e, (c, is, h, w)) none = absurd (none.no_space (c, odd_gap c is, h))
  none_stands (piece start end (line bytes)) (e, (h, more)) none = absurd (none.no_line h)
  none_stands (piece start end (block multi bytes)) (e, (h, more, is)) none = absurd (none.no_block h)
  none_stands (unterminated multi) (h, more) none = absurd (none.no_block h)
  none_stands nothing h none = refl

  -- and nothing else stands there
  pub piece_only : IsUtf8 text → IsCharBoundary text at → (s : Standing) → Stands text at s → s ≡ piece_at text at
  piece_only u here (piece start end space) (e, (c, is, h, w)) = ap (λ (k : ℕ). piece k end space) e ∙ space_only c end is h w
  piece_only u here (piece start end newline) (e, ((c, is, h), r)) =
      ap (λ (k : ℕ). piece k end newline) e ∙ newline_only c end is h (run_only text (at + 1) end _ r (run_ends text (at + 1) (omega (arith, inside c h))))
  piece_only u here (piece start end irregular_space) (e, (c, is, h, w)) = ap (λ (k : ℕ). piece k end irregular_space) e ∙ irregular_only c end is h w
  piece_only u here (piece start end irregular_newline) (e, (c, is, h, w)) = ap (λ (k : ℕ). piece k end irregular_newline) e ∙ break_only c end is h w
  piece_only u here (piece start end (line bytes)) (e, (h, (stop, ends, past, is))) = ap (λ (k : ℕ). piece k end (line bytes)) e ∙ line_only_here stop end bytes h ends past is
  piece_only u here (piece start end (block multi bytes)) (e, (h, b, is)) =
      ap (λ (k : ℕ). piece k end (block multi bytes)) e ∙ ap (λ (l : List ℕ). piece at end (block multi l)) is ∙ block_only_here h (ended end multi) b
  piece_only u here (unterminated multi) (h, b) = block_only_here h (unended multi) b
  piece_only u here nothing h = none_stands (piece_at text at) (piece_stands u here) h

  -- the same of an answer that was computed
  pub standing_is : IsUtf8 text → IsCharBoundary text at → (r : Standing) → r ≡ piece_at text at → Stands text at r
  standing_is u here r e = subst (Stands text at) (sym e) (piece_stands u here)

  pub standing_only : IsUtf8 text → IsCharBoundary text at → (r : Standing) → r ≡ piece_at text at → (s : Standing) → Stands text at s → s ≡ r
  standing_only u here r e s h = piece_only u here s h ∙ sym e
