-- A line terminator stands in a gap exactly if one stands in a piece of it or in the unterminated block at its end.
use Rattle.std.proofs.Common.{◌≡◌, ℕ, zero, suc, ◌+◌, ◌-◌, ◌/◌, ◌%◌, ◌<◌, ◌≤◌, Bool, true, false, cond, ◌||◌, ltb, ◌⊎◌, List, [], ◌∷◌, length, get_or, drop, is_some, Some, None, IsUtf8, Decides, Option, unwrap_or, sym, refl, ap, ◌∙◌, subst, inl, inr, ⊎_elim, arith, get_or-drop}
use lib.Utf8.{encode}
use Rattle.std.specs.Char.{len_utf8}
use Rattle.std.specs.Str.{IsCharBoundary}
use Rattle.std.specs.List.{AllByRecursion}
use Rattle.std.proofs.lemmas.List.{get_or_append_left, length-drop, length-take}
use Rattle.std.proofs.lemmas.Bool.{both_ways, cases_lt, cases_order, false≢true, lt-ltb, ltb-true}
use Rattle.std.proofs.lemmas.Str.{encode_same, length-encode, len_utf8_bounds}
use Rattle.std.proofs.lemmas.Bool.Decides.{nat_tests, Decides-like, Decides-or}
use Rattle.source.specs.Unicode.{irregular_whitespace, irregular_line_terminator, line_terminator}
use Rattle.scanner.specs.Ecma.{BytesAt, LineTerminatorAt, LineTerminatorIn, LineEnds, LineSwallowed, plain_space, line_break, Shape, space, newline, irregular_space, irregular_newline, line, block, PieceIs, Placed, Chain, Gap, GapStops, GapIs, CutOut}
use Rattle.scanner.specs.Gaps.{gap_from, newline_in, newline_among, measured}
use Rattle.scanner.specs.declared.gap.GapMeasure.{GapMeasure}
use Rattle.scanner.proofs.Terminators.{no_line_terminator}
use Rattle.scanner.proofs.LineLaws.{line_within}
use Rattle.scanner.proofs.BlockLaws.{pair_bytes}
use Rattle.scanner.proofs.GapLaws.{piece_lands, gap_is, gap_only}

-- the bytes of a character after its first are 128 to 191
by_width : (c k : ℕ) (x y z : Bool) → 0 < k → k < length (cond x (c ∷ []) (cond y ((192 + c / 64) ∷ (128 + c % 64) ∷ []) (cond z ((224 + c / 4096) ∷ (128 + c / 64 % 64) ∷ (128 + c % 64) ∷ []) ((240 + c / 262144) ∷ (128 + c / 4096 % 64) ∷ (128 + c / 64 % 64) ∷ (128 + c % 64) ∷ []))))
    → (128 ≤ get_or (cond x (c ∷ []) (cond y ((192 + c / 64) ∷ (128 + c % 64) ∷ []) (cond z ((224 + c / 4096) ∷ (128 + c / 64 % 64) ∷ (128 + c % 64) ∷ []) ((240 + c / 262144) ∷ (128 + c / 4096 % 64) ∷ (128 + c / 64 % 64) ∷ (128 + c % 64) ∷ [])))) k 0)
    × (get_or (cond x (c ∷ []) (cond y ((192 + c / 64) ∷ (128 + c % 64) ∷ []) (cond z ((224 + c / 4096) ∷ (128 + c / 64 % 64) ∷ (128 + c % 64) ∷ []) ((240 + c / 262144) ∷ (128 + c / 4096 % 64) ∷ (128 + c / 64 % 64) ∷ (128 + c % 64) ∷ [])))) k 0 < 192)
by_width c zero x y z some lt = absurd (omega arith)
by_width c (suc k) true y z some lt = absurd (omega arith)
by_width c (suc zero) false true z some lt = (omega arith, omega arith)
by_width c (suc (suc k)) false true z some lt = absurd (omega arith)
by_width c (suc zero) false false true some lt = (omega arith, omega arith)
by_width c (suc (suc zero)) false false true some lt = (omega arith, omega arith)
by_width c (suc (suc (suc k))) false false true some lt = absurd (omega arith)
by_width c (suc zero) false false false some lt = (omega arith, omega arith)
by_width c (suc (suc zero)) false false false some lt = (omega arith, omega arith)
by_width c (suc (suc (suc zero))) false false false some lt = (omega arith, omega arith)
by_width c (suc (suc (suc (suc k)))) false false false some lt = absurd (omega arith)

inner_byte : (c k : ℕ) → 0 < k → k < length (encode c) → (128 ≤ get_or (encode c) k 0) × (get_or (encode c) k 0 < 192)
unfolding encode
inner_byte c k some lt = by_width c k (ltb c 128) (ltb c 2048) (ltb c 65536) some lt

space_no_break : (c : ℕ) → plain_space c ≡ true → line_terminator c ≡ false
space_no_break c e = grind (arith, nat_tests)

irregular_no_break : (c : ℕ) → irregular_whitespace c ≡ true → line_terminator c ≡ false
irregular_no_break c e = grind (arith, nat_tests)

break_is : (c : ℕ) → line_break c ≡ true → line_terminator c ≡ true
break_is c e = grind (arith, nat_tests)

odd_break_is : (c : ℕ) → irregular_line_terminator c ≡ true → line_terminator c ≡ true
odd_break_is c e = grind (arith, nat_tests)

-- a flag that is set where one stands, and one that is not where none does
yes_flag : {P : Type 0} → P → Decides true P
yes_flag p = (λ _. p, λ _. refl)

no_flag : {P : Type 0} → (P → ⊥) → Decides false P
no_flag none = (λ e. absurd (false≢true e), λ p. absurd (none p))

module _ (text : List ℕ) where
  -- no line terminator stands within another character
  no_break : (at c end : ℕ) → line_terminator c ≡ false → BytesAt (encode c) text at → end ≡ at + len_utf8 c → LineTerminatorIn text at end → ⊥
  no_break at c end other h w (k, on, lt, (d, is, b)) =
      ⊎_elim
      (λ (e : k ≡ at). let B : ℕ → Type 0 = λ i. BytesAt (encode d) text i in let same = subst B e b in both_ways (line_terminator c) other (ap line_terminator (encode_same c d h.0 same.0 (sym h.1 ∙ same.1)).0 ∙ is))
      (⊎_elim (λ (before : k < at). omega arith)
      (λ (past : at < k).
      let short : k - at < length (encode c) = omega (arith, length-encode c) in
      let e : at + (k - at) ≡ k = omega arith in
      let byte : get_or text k 0 ≡ get_or (encode c) (k - at) 0 = ap (λ (i : ℕ). get_or text i 0) (sym e) ∙ sym (get_or-drop at text (k - at) 0) ∙ ap (λ (l : List ℕ). get_or l (k - at) 0) h.1 ∙ get_or_append_left (encode c) h.0 0 (k - at) short in
      let high = inner_byte c (k - at) (omega arith) short in
      no_line_terminator text k (λ x. omega (arith, x, byte, high.0)) (λ x. omega (arith, x, byte, high.0)) (λ x. omega (arith, x, byte, high.1)) (d, is, b)))
      (cases_order k at)

  -- none stands on the two bytes that open a comment
  past_opening : (at b k : ℕ) → (b ≡ 47) ⊎ (b ≡ 42) → BytesAt (47 ∷ b ∷ []) text at → at ≤ k → LineTerminatorAt text k → at + 2 ≤ k
  past_opening at b k opens h on t =
      let bytes = pair_bytes text at 47 b h in
      let no_byte : (i v : ℕ) → (v ≡ 47) ⊎ (v ≡ 42) → get_or text i 0 ≡ v → k ≡ i → ⊥ = λ i v which is e.
      let byte : get_or text k 0 ≡ v = ap (λ (j : ℕ). get_or text j 0) e ∙ is in
      ⊎_elim (λ w. no_line_terminator text k (λ x. omega (arith, x, byte, w)) (λ x. omega (arith, x, byte, w)) (λ x. omega (arith, x, byte, w)) t) (λ w. no_line_terminator text k (λ x. omega (arith, x, byte, w)) (λ x. omega (arith, x, byte, w)) (λ x. omega (arith, x, byte, w)) t) which in
      ⊎_elim
      (λ (lt : k < at + 2). absurd (⊎_elim (λ (first : k < at + 1). no_byte at 47 (inl refl) bytes.0 (omega arith)) (λ (second : at + 1 ≤ k). no_byte (at + 1) b opens bytes.1 (omega arith)) (cases_lt k (at + 1))))
      (λ ge. ge)
      (cases_lt k (at + 2))

  -- of a block: those in its content are those in all of it
  block_flag : (at end : ℕ) (multi : Bool) → BytesAt (47 ∷ 42 ∷ []) text at → Decides multi (LineTerminatorIn text (at + 2) end) → Decides multi (LineTerminatorIn text at end)
  block_flag at end multi h d =
      Decides-like multi (λ x. (x.0, omega (arith, x.1), x.2, x.3)) (λ x. (x.0, past_opening at 42 x.0 (inr refl) h x.1 x.3, x.2, x.3)) d

  line_flag : (at stop end : ℕ) (bytes : List ℕ) → BytesAt (47 ∷ 47 ∷ []) text at → LineEnds text (at + 2) stop → LineSwallowed text stop end → length bytes ≡ stop - at → Decides (ltb (length bytes) (end - at)) (LineTerminatorIn text at end)
  line_flag at stop end bytes h ends past long =
      let swallows : stop < end → LineTerminatorAt text stop = λ lt. ⊎_elim (λ x. absurd (omega (arith, x.1))) (λ x. (x.0, x.1, x.2)) past in (
        λ e. let lt : stop < end = omega (arith, ltb-true _ _ e, ends.onward) in (stop, omega (arith, ends.onward), lt, swallows lt),
        λ x. lt-ltb _ _ (⊎_elim
            (λ (before : x.0 < stop). absurd (ends.clear (x.0, past_opening at 47 x.0 (inl refl) h x.1 x.3, before, x.3)))
            (λ (reached : stop ≤ x.0). omega (arith, x.2, ends.onward))
            (cases_lt x.0 stop)),
      )

  module _ (u : IsUtf8 text) where
    piece_newline : (at end : ℕ) (shape : Shape) → PieceIs text at end shape → Decides (newline_in at end shape) (LineTerminatorIn text at end)
    piece_newline at end space (c, is, h, w) = no_flag (no_break at c end (space_no_break c is) h w)
    piece_newline at end newline ((c, is, h), run) = yes_flag (at, omega arith, omega (arith, run.onward), (c, break_is c is, h))
    piece_newline at end irregular_space (c, is, h, w) = no_flag (no_break at c end (irregular_no_break c is) h w)
    piece_newline at end irregular_newline (c, is, h, w) = yes_flag (at, omega arith, omega (arith, w, (len_utf8_bounds c).0), (c, odd_break_is c is, h))
    piece_newline at end (line bytes) (h, (stop, ends, past, is)) =
        line_flag at stop end bytes h ends past (ap length is ∙ omega (arith, length-take (stop - at) (drop at text), length-drop at text, line_within text (at + 2) stop ends, ends.onward))
    piece_newline at end (block multi bytes) (h, (ends, flag), is) = block_flag at end multi h flag

    -- one after another
    joined : (at mid end : ℕ) → at ≤ mid → mid ≤ end → LineTerminatorIn text at mid ⊎ LineTerminatorIn text mid end → LineTerminatorIn text at end
    joined at mid end a b = ⊎_elim (λ x. (x.0, x.1, omega (arith, x.2), x.3)) (λ x. (x.0, omega (arith, x.1), x.2, x.3))

    parted : (at mid end : ℕ) → LineTerminatorIn text at end → LineTerminatorIn text at mid ⊎ LineTerminatorIn text mid end
    parted at mid end x = ⊎_elim (λ (lt : x.0 < mid). inl (x.0, x.1, lt, x.3)) (λ (ge : mid ≤ x.0). inr (x.0, ge, x.2, x.3)) (cases_lt x.0 mid)

    both : (at mid end : ℕ) (x y : Bool) → at ≤ mid → mid ≤ end → Decides x (LineTerminatorIn text at mid) → Decides y (LineTerminatorIn text mid end) → Decides (x || y) (LineTerminatorIn text at end)
    both at mid end x y a b d e = Decides-like (x || y) (joined at mid end a b) (parted at mid end) (Decides-or x y d e)

    chain_on : (pieces : List Placed) (at end : ℕ) → IsCharBoundary text at → Chain text at pieces end → (at ≤ end) × IsCharBoundary text end
    chain_on [] at end here e = (omega arith, subst (IsCharBoundary text) (sym e) here)
    chain_on (p ∷ pieces) at end here (e, is, rest) =
        let lands = piece_lands text u at p.end p.shape here is in
        let more = chain_on pieces p.end end lands.1 rest in
        (omega (arith, lands.0, more.0), more.1)

    chain_cuts : (pieces : List Placed) (at end : ℕ) → IsCharBoundary text at → Chain text at pieces end → AllByRecursion (CutOut text) pieces
    chain_cuts [] at end here e = tt
    chain_cuts (p ∷ pieces) at end here (e, is, rest) =
        let lands = piece_lands text u at p.end p.shape here is in
        (record { long = omega (arith, lands.0); begins = subst (IsCharBoundary text) (sym e) here; ends = lands.1 }, chain_cuts pieces p.end end lands.1 rest)

    chain_newline : (pieces : List Placed) (at end : ℕ) → IsCharBoundary text at → Chain text at pieces end → Decides (newline_among pieces) (LineTerminatorIn text at end)
    chain_newline [] at end here e = no_flag (λ x. omega (arith, x.1, x.2))
    chain_newline (p ∷ pieces) at end here (e, is, rest) =
        let lands = piece_lands text u at p.end p.shape here is in
        let starts : (s : ℕ) → s ≡ at → Decides (newline_in s p.end p.shape) (LineTerminatorIn text at p.end) = λ s same. let D : ℕ → Type 0 = λ k. Decides (newline_in k p.end p.shape) (LineTerminatorIn text at p.end) in subst D (sym same) (piece_newline at p.end p.shape is) in
        both at p.end end _ _ (omega (arith, lands.0)) (chain_on pieces p.end end lands.1 rest).0 (starts p.start e) (chain_newline pieces p.end end lands.1 rest)

    -- up to where a gap reaches: its end, or that of the text where a block has none
    stop_newline : (at end : ℕ) (among : Bool) (unended : Option Bool) → at ≤ end → end ≤ length text → Decides among (LineTerminatorIn text at end) → GapStops text end unended → Decides (among || unwrap_or unended false) (LineTerminatorIn text at (cond (is_some unended) (length text) end))
    stop_newline at end true None on within d stops = d
    stop_newline at end false None on within d stops = d
    stop_newline at end among (Some multi) on within d (h, (never, flag)) = both at end (length text) among multi on within d (block_flag end (length text) multi h flag)

    pub gap_newline : (at : ℕ) (g : Gap) → IsCharBoundary text at → GapIs text at g → Decides (newline_among g.pieces || unwrap_or g.unended false) (LineTerminatorIn text at (cond (is_some g.unended) (length text) g.end))
    gap_newline at g here h =
        let reach = chain_on g.pieces at g.end here h.chain in
        stop_newline at g.end _ g.unended reach.0 reach.1.0 (chain_newline g.pieces at g.end here h.chain) h.stops

    -- each piece may be cut out of the text
    pub gap_cuts : (at : ℕ) (g : Gap) → IsCharBoundary text at → GapIs text at g → AllByRecursion (CutOut text) g.pieces
    gap_cuts at g here h = chain_cuts g.pieces at g.end here h.chain

    -- a gap ends where the text may be cut
    pub gap_cut : (at : ℕ) (g : Gap) → IsCharBoundary text at → GapIs text at g → (at ≤ g.end) × IsCharBoundary text g.end
    gap_cut at g here h = chain_on g.pieces at g.end here h.chain

-- what a measure of the gap at a place says
pub record Measures (text : List ℕ) (at : ℕ) (last_comment last_space : Option ℕ) (m : GapMeasure) : Type 0 where
  pub gap : GapIs text at (gap_from text at)
  pub only : (g : Gap) → GapIs text at g → (g ≡ gap_from text at) × (m ≡ measured last_comment last_space g)
  pub cuts : AllByRecursion (CutOut text) (gap_from text at).pieces
  pub newline : Decides m.newline (LineTerminatorIn text at (cond m.unterminated (length text) m.end))
  pub cut : IsCharBoundary text m.end

pub measures : (text : List ℕ) (at : ℕ) (last_comment last_space : Option ℕ) (m : GapMeasure) → IsUtf8 text → IsCharBoundary text at → m ≡ measured last_comment last_space (gap_from text at) → Measures text at last_comment last_space m
measures text at last_comment last_space m u here e =
    let is = gap_is text u at here in
    let only : (g : Gap) → GapIs text at g → (g ≡ gap_from text at) × (measured last_comment last_space (gap_from text at) ≡ measured last_comment last_space g) =
    (λ g h. let same = gap_only text u at here g h in (same, ap (measured last_comment last_space) (sym same))) in
    subst (Measures text at last_comment last_space) (sym e) (record { gap = is; only = only; cuts = gap_cuts text u at (gap_from text at) here is; newline = gap_newline text u at (gap_from text at) here is; cut = (gap_cut text u at (gap_from text at) here is).1 })
