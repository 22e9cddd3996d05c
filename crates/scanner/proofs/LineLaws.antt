-- The end of a line is the first place at which a line terminator stands, or the end of the text, and no other place is.
use Rattle.std.proofs.Common.{◌≡◌, ℕ, zero, suc, ◌+◌, ◌-◌, ◌<◌, ◌≤◌, eqb, List, [], ◌∷◌, length, drop, sym, ap, ◌∙◌, subst, inl, inr, ⊎_elim, one-add, arith}
use Rattle.std.proofs.lemmas.List.{drop_all, drop-drop, length-drop}
use Rattle.std.proofs.lemmas.Bool.{cond_both, cases_lt, cases_order, eqb-true, eqb-false}
use Rattle.scanner.specs.Ecma.{LineTerminatorAt, LineEnds}
use Rattle.scanner.specs.Ends.{terminator, line_end}
use Rattle.scanner.proofs.Terminators.{stands_at, some_terminator}

-- the first terminator of a list, or its end
record First (xs : List ℕ) (n : ℕ) : Type 0 where
  within : n ≤ length xs
  clear : (k : ℕ) → k < n → terminator (drop k xs) ≡ 0
  stops : n < length xs → 0 < terminator (drop n xs)

later : (b : ℕ) (bs : List ℕ) (n : ℕ) → terminator (b ∷ bs) ≡ 0 → First bs n → First (b ∷ bs) (suc n)
later b bs n none h = record { within = omega (arith, h.within); clear = before; stops = λ lt. h.stops (omega arith) }
  where
    before : (k : ℕ) → k < suc n → terminator (drop k (b ∷ bs)) ≡ 0
    before zero lt = none
    before (suc k) lt = h.clear k (omega arith)

first_line : (xs : List ℕ) → First xs (line_end xs)
first_line [] = record { within = omega arith; clear = λ k lt. absurd (omega arith); stops = λ lt. absurd (omega arith) }
first_line (b ∷ bs) =
    cond_both (eqb (terminator (b ∷ bs)) 0) (1 + line_end bs) 0 (First (b ∷ bs))
    (λ e. subst (First (b ∷ bs)) (sym (one-add (line_end bs))) (later b bs (line_end bs) (eqb-true (terminator (b ∷ bs)) 0 e) (first_line bs)))
    (λ e. record { within = omega arith; clear = λ k lt. absurd (omega arith); stops = λ _. let some = eqb-false (terminator (b ∷ bs)) 0 e in ⊎_elim (λ h. h) (λ (h : terminator (b ∷ bs) ≤ 0). absurd (some (omega arith))) (cases_lt 0 (terminator (b ∷ bs))) })

module _ (text : List ℕ) (from : ℕ) where
  from_here : (k : ℕ) → terminator (drop k (drop from text)) ≡ terminator (drop (from + k) text)
  from_here k = ap terminator (drop-drop k from text)

  -- what the search for the end of a line finds
  pub line_ends : from ≤ length text → LineEnds text from (from + line_end (drop from text))
  line_ends le =
      let h = first_line (drop from text) in
      let long = length-drop from text in
      record {
        onward = omega arith;
        clear = λ x. let e : from + (x.0 - from) ≡ x.0 = omega (arith, x.1) in
            omega (arith, some_terminator text x.0 x.3, h.clear (x.0 - from) (omega (arith, x.1, x.2)), from_here (x.0 - from) ∙ ap (λ (k : ℕ). terminator (drop k text)) e);
        stops = ⊎_elim
            (λ (lt : line_end (drop from text) < length (drop from text)). inr (stands_at text (from + line_end (drop from text)) (omega (arith, h.stops lt, from_here (line_end (drop from text))))))
            (λ (ge : length (drop from text) ≤ line_end (drop from text)). inl (omega (arith, h.within, long)))
            (cases_lt (line_end (drop from text)) (length (drop from text)));
      }

-- a line terminator stands within the text
pub terminator_within : (text : List ℕ) (at : ℕ) → LineTerminatorAt text at → at < length text
terminator_within text at h =
    ⊎_elim (λ lt. lt) (λ (ge : length text ≤ at). absurd (omega (arith, some_terminator text at h, ap terminator (drop_all at text ge)))) (cases_lt at (length text))

-- the text goes on at most at its end
pub line_within : (text : List ℕ) (from end : ℕ) → LineEnds text from end → end ≤ length text
line_within text from end h = ⊎_elim (λ e. omega arith) (λ t. omega (arith, terminator_within text end t)) h.stops

shorter : (text : List ℕ) (from a b : ℕ) → LineEnds text from a → LineEnds text from b → a < b → ⊥
shorter text from a b h k lt =
    ⊎_elim (λ e. omega (arith, line_within text from b k)) (λ t. k.clear (a, h.onward, lt, t)) h.stops

-- a line has one end
pub line_only : (text : List ℕ) (from a b : ℕ) → LineEnds text from a → LineEnds text from b → a ≡ b
line_only text from a b h k =
    ⊎_elim (λ e. e) (⊎_elim (λ lt. absurd (shorter text from a b h k lt)) (λ lt. absurd (shorter text from b a k h lt))) (cases_order a b)

-- the same of an end that was computed
pub line_is : (text : List ℕ) (from end : ℕ) → end ≡ from + line_end (drop from text) → from ≤ length text → LineEnds text from end
line_is text from end e le = subst (LineEnds text from) (sym e) (line_ends text from le)

pub line_is_only : (text : List ℕ) (from end : ℕ) → end ≡ from + line_end (drop from text) → (other : ℕ) → LineEnds text from other → other ≡ end
line_is_only text from end e other h = line_only text from other end h (line_is text from end e (omega (arith, h.onward, line_within text from other h)))
