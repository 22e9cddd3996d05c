-- The end of a block is that of its first `*/`, and no other place is; a line terminator stands in it exactly if the flag says so.
use Rattle.std.proofs.Common.{◌≡◌, ℕ, zero, suc, ◌+◌, ◌-◌, ◌<◌, ◌≤◌, Bool, true, false, ◌||◌, ltb, ◌⊎◌, List, [], ◌∷◌, length, get_or, drop, Ok, Err, Result, codes, Decides, sym, refl, ap, ◌∙◌, subst, inl, inr, ⊎_elim, arith, lit<, get_or-drop}
use Rattle.std.proofs.lemmas.List.{drop-drop, drop_more, length-drop}
use Rattle.std.proofs.lemmas.Bool.{and_from, and_parts, both_ways, cases_eq, cases_lt, cases_order, cond_both, eq-eqb, eqb-true, false≢true, lt-ltb, ltb-true, or_cases, or_left, or_right}
use Rattle.std.proofs.lemmas.Bool.Decides.{Decides-like, same_from_decides}
use Rattle.scanner.specs.declared.comment.Block.{Block}
use Rattle.scanner.specs.declared.comment.Unterminated.{Unterminated}
use Rattle.scanner.specs.Ecma.{BytesAt, LineTerminatorAt, LineTerminatorIn, BlockEnds, BlockIs}
use Rattle.scanner.specs.Ends.{terminator, closes, block_from}
use Rattle.scanner.proofs.Lines.{ended, unended, get_or-within}
use Rattle.scanner.proofs.Terminators.{head_byte, stands_at, some_terminator, no_line_terminator}

-- two bytes that stand at a place
pub pair_at : (text : List ℕ) (at a b : ℕ) → 0 < a → 0 < b → get_or text at 0 ≡ a → get_or text (at + 1) 0 ≡ b → BytesAt (a ∷ b ∷ []) text at
pair_at text at a b some more e f = (
  drop (at + 1 + 1) text,
  drop_more text at 0 (get_or-within text at (omega arith)) ∙ ap (λ (x : ℕ). x ∷ drop (at + 1) text) e
      ∙ ap (λ (l : List ℕ). a ∷ l) (drop_more text (at + 1) 0 (get_or-within text (at + 1) (omega arith)) ∙ ap (λ (x : ℕ). x ∷ drop (at + 1 + 1) text) f),
)

pub pair_bytes : (text : List ℕ) (at a b : ℕ) → BytesAt (a ∷ b ∷ []) text at → (get_or text at 0 ≡ a) × (get_or text (at + 1) 0 ≡ b)
pair_bytes text at a b h =
    let next : drop (at + 1) text ≡ b ∷ h.0 = sym (drop-drop 1 at text) ∙ ap (drop 1) h.1 in
    (head_byte text at a (b ∷ h.0) h.1, head_byte text (at + 1) b h.0 next)

shut_at : (text : List ℕ) (at : ℕ) → closes (get_or text at 0) (get_or text (at + 1) 0) ≡ true → BytesAt (codes "*/") text at
shut_at text at e = let h = and_parts _ _ e in pair_at text at 42 47 (lit< tt) (lit< tt) (eqb-true _ _ h.0) (eqb-true _ _ h.1)

shuts : (text : List ℕ) (at : ℕ) → BytesAt (codes "*/") text at → closes (get_or text at 0) (get_or text (at + 1) 0) ≡ true
shuts text at h = let e = pair_bytes text at 42 47 h in and_from _ _ (eq-eqb _ _ e.0) (eq-eqb _ _ e.1)

-- what the search for the end of a block finds, over the list from the content on
abbrev Broken : List ℕ → ℕ → Type 0
Broken xs n = (k : ℕ) × (k < n) × (0 < terminator (drop k xs))

abbrev Closing : ℕ → Bool → List ℕ → Result Block Unterminated → Type 0
Closing at m xs (Ok r) = (j : ℕ) × (r.end ≡ at + j + 2) × (closes (get_or xs j 0) (get_or xs (suc j) 0) ≡ true) × ((k : ℕ) → k < j → closes (get_or xs k 0) (get_or xs (suc k) 0) ≡ false) × Decides r.multi ((m ≡ true) ⊎ Broken xs j)
Closing at m xs (Err r) = ((k : ℕ) → closes (get_or xs k 0) (get_or xs (suc k) 0) ≡ false) × Decides r.multi ((m ≡ true) ⊎ Broken xs (length xs))

module _ (m : Bool) (b : ℕ) (bs : List ℕ) where
  broken_on : (n : ℕ) → ((m || ltb 0 (terminator (b ∷ bs))) ≡ true) ⊎ Broken bs n → (m ≡ true) ⊎ Broken (b ∷ bs) (suc n)
  broken_on n (inl h) = ⊎_elim inl (λ t. inr (0, omega arith, ltb-true 0 (terminator (b ∷ bs)) t)) (or_cases m _ h)
  broken_on n (inr h) = inr (suc h.0, omega (arith, h.1), h.2)

  broken_back : (n : ℕ) → (m ≡ true) ⊎ Broken (b ∷ bs) (suc n) → ((m || ltb 0 (terminator (b ∷ bs))) ≡ true) ⊎ Broken bs n
  broken_back n (inl h) = inl (or_left m _ h)
  broken_back n (inr (zero, lt, some)) = inl (or_right m _ (lt-ltb 0 (terminator (b ∷ bs)) some))
  broken_back n (inr (suc k, lt, some)) = inr (k, omega arith, some)

  flag_on : (n : ℕ) (multi : Bool) → Decides multi (((m || ltb 0 (terminator (b ∷ bs))) ≡ true) ⊎ Broken bs n) → Decides multi ((m ≡ true) ⊎ Broken (b ∷ bs) (suc n))
  flag_on n multi d = Decides-like multi (broken_on n) (broken_back n) d

  not_yet : (n : ℕ) → closes b (get_or bs 0 0) ≡ false → ((k : ℕ) → k < n → closes (get_or bs k 0) (get_or bs (suc k) 0) ≡ false) → (k : ℕ) → k < suc n → closes (get_or (b ∷ bs) k 0) (get_or (b ∷ bs) (suc k) 0) ≡ false
  not_yet n ajar h zero lt = ajar
  not_yet n ajar h (suc k) lt = h k (omega arith)

  never_yet : closes b (get_or bs 0 0) ≡ false → ((k : ℕ) → closes (get_or bs k 0) (get_or bs (suc k) 0) ≡ false) → (k : ℕ) → closes (get_or (b ∷ bs) k 0) (get_or (b ∷ bs) (suc k) 0) ≡ false
  never_yet ajar h zero = ajar
  never_yet ajar h (suc k) = h k

  closing_on : (at : ℕ) (r : Result Block Unterminated) → closes b (get_or bs 0 0) ≡ false → Closing (at + 1) (m || ltb 0 (terminator (b ∷ bs))) bs r → Closing at m (b ∷ bs) r
  closing_on at (Ok r) ajar h = (suc h.0, omega (arith, h.1), h.2, not_yet h.0 ajar h.3, flag_on h.0 r.multi h.4)
  closing_on at (Err r) ajar h = (never_yet ajar h.0, flag_on (length bs) r.multi h.1)

closing : (at : ℕ) (m : Bool) (xs : List ℕ) → Closing at m xs (block_from at m xs)
closing at m [] = (λ k. refl, (inl, ⊎_elim (λ e. e) (λ h. absurd (omega (arith, h.1)))))
closing at m (b ∷ bs) =
    cond_both (closes b (get_or bs 0 0)) _ _ (Closing at m (b ∷ bs))
    (λ e. (0, omega arith, e, λ k lt. absurd (omega arith), (inl, ⊎_elim (λ e. e) (λ h. absurd (omega (arith, h.1))))))
    (λ e. closing_on m b bs at _ e (closing (at + 1) (m || ltb 0 (terminator (b ∷ bs))) bs))

module _ (text : List ℕ) (from : ℕ) where
  byte_here : (k : ℕ) → get_or (drop from text) k 0 ≡ get_or text (from + k) 0
  byte_here k = get_or-drop from text k 0

  close_here : (k : ℕ) → closes (get_or (drop from text) k 0) (get_or (drop from text) (suc k) 0) ≡ closes (get_or text (from + k) 0) (get_or text (from + k + 1) 0)
  close_here k =
      let next : from + suc k ≡ from + k + 1 = omega arith in
      ap (λ (x : ℕ). closes x (get_or (drop from text) (suc k) 0)) (byte_here k) ∙ ap (λ (y : ℕ). closes (get_or text (from + k) 0) y) (byte_here (suc k) ∙ ap (λ (i : ℕ). get_or text i 0) next)

  -- no `*/` in the list, none in the text
  still : (at : ℕ) → from ≤ at → closes (get_or (drop from text) (at - from) 0) (get_or (drop from text) (suc (at - from)) 0) ≡ false → BytesAt (codes "*/") text at → ⊥
  still at on none h =
      let e : from + (at - from) ≡ at = omega arith in
      both_ways _ none (close_here (at - from) ∙ ap (λ (i : ℕ). closes (get_or text i 0) (get_or text (i + 1) 0)) e ∙ shuts text at h)

  broken_in : (n end : ℕ) → from + n ≤ end → Broken (drop from text) n → LineTerminatorIn text from end
  broken_in n end le h = (from + h.0, omega arith, omega (arith, h.1), stands_at text (from + h.0) (omega (arith, h.2, ap terminator (drop-drop h.0 from text))))

  in_broken : (n at : ℕ) → from ≤ at → at < from + n → LineTerminatorAt text at → Broken (drop from text) n
  in_broken n at on lt h =
      let e : from + (at - from) ≡ at = omega arith in
      (at - from, omega arith, omega (arith, some_terminator text at h, ap terminator (drop-drop (at - from) from text ∙ ap (λ (i : ℕ). drop i text) e)))

  -- a line terminator in the block stands before its `*/`
  before_close : (close at : ℕ) → BytesAt (codes "*/") text close → at < close + 2 → LineTerminatorAt text at → at < close
  before_close close at shut-there lt h =
      let star = pair_bytes text close 42 47 shut-there in
      ⊎_elim (λ e. e)
      (λ (past : close ≤ at). ⊎_elim
      (λ (e : at ≡ close). absurd (let b : get_or text at 0 ≡ 42 = ap (λ (i : ℕ). get_or text i 0) e ∙ star.0 in no_line_terminator text at (λ x. omega (arith, x, b)) (λ x. omega (arith, x, b)) (λ x. omega (arith, x, b)) h))
      (λ (ne : at ≡ close → ⊥). absurd (let e : at ≡ close + 1 = ⊎_elim (λ (x : at < close + 1). absurd (ne (omega arith))) (λ (x : close + 1 ≤ at). omega arith) (cases_lt at (close + 1)) in
      let b : get_or text at 0 ≡ 47 = ap (λ (i : ℕ). get_or text i 0) e ∙ star.1 in no_line_terminator text at (λ x. omega (arith, x, b)) (λ x. omega (arith, x, b)) (λ x. omega (arith, x, b)) h))
      (cases_eq at close))
      (cases_lt at close)

  block_is : (r : Result Block Unterminated) → Closing from false (drop from text) r → BlockIs text from r
  block_is (Ok r) h =
      let close : ℕ = from + h.0 in
      let shut-there : BytesAt (codes "*/") text close = shut_at text close (sym (close_here h.0) ∙ h.2) in (
        record {
          close = close;
          onward = omega arith;
          shut = shut-there;
          first = λ at on lt. still at on (h.3 (at - from) (omega arith));
          ends = h.1;
        },
        Decides-like r.multi
            (⊎_elim (λ e. absurd (false≢true e)) (λ x. broken_in h.0 r.end (omega (arith, h.1)) x))
            (λ x. inr (in_broken h.0 x.0 x.1 (before_close close x.0 shut-there (omega (arith, x.2, h.1)) x.3) x.3))
            h.4,
      )
  block_is (Err r) h = (
    λ at on. still at on (h.0 (at - from)),
    Decides-like r.multi
        (⊎_elim (λ e. absurd (false≢true e)) (λ x. (from + x.0, omega arith, omega (arith, x.1, length-drop from text), stands_at text (from + x.0) (omega (arith, x.2, ap terminator (drop-drop x.0 from text))))))
        (λ x. inr (in_broken (length (drop from text)) x.0 x.1 (omega (arith, x.1, x.2, length-drop from text)) x.3))
        h.1,
  )

  -- what the search finds is what becomes of the block
  pub block_from_is : BlockIs text from (block_from from false (drop from text))
  block_from_is = block_is _ (closing from false (drop from text))

  same_close : (a b : ℕ) (h : BlockEnds text from a) (k : BlockEnds text from b) → a ≡ b
  same_close a b h k =
      ⊎_elim (λ e. omega (arith, h.ends, k.ends, e))
      (⊎_elim (λ lt. absurd (k.first h.close h.onward lt h.shut)) (λ lt. absurd (h.first k.close k.onward lt k.shut)))
      (cases_order h.close k.close)

  -- and nothing else is
  pub block_only : (a b : Result Block Unterminated) → BlockIs text from a → BlockIs text from b → a ≡ b
  block_only (Ok a) (Ok b) h k =
      let e = same_close a.end b.end h.0 k.0 in
      let D : ℕ → Type 0 = λ (i : ℕ). Decides b.multi (LineTerminatorIn text from i) in
      let f : a.multi ≡ b.multi = same_from_decides a.multi b.multi h.1 (subst D (sym e) k.1) in
      ap (λ (i : ℕ). ended i a.multi) e ∙ ap (ended b.end) f
  block_only (Ok a) (Err b) h k = absurd (k.0 h.0.close h.0.onward h.0.shut)
  block_only (Err a) (Ok b) h k = absurd (h.0 k.0.close k.0.onward k.0.shut)
  block_only (Err a) (Err b) h k = ap unended (same_from_decides a.multi b.multi h.1 k.1)

  -- the same of an answer that was computed
  pub block_is_law : (r : Result Block Unterminated) → r ≡ block_from from false (drop from text) → BlockIs text from r
  block_is_law r e = subst (BlockIs text from) (sym e) block_from_is

  pub block_is_only : (r : Result Block Unterminated) → r ≡ block_from from false (drop from text) → (other : Result Block Unterminated) → BlockIs text from other → other ≡ r
  block_is_only r e other h = block_only other r h (block_is_law r e)
