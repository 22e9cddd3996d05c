-- What a search skips is no part of the end of a line or of a block.
use Rattle.std.proofs.Common.{◌≡◌, ℕ, suc, ◌+◌, ◌-◌, ◌<◌, ◌≤◌, Bool, true, false, cond, not, ◌&&◌, ◌||◌, eqb, ltb, List, [], ◌∷◌, map, length, get_or, drop, Ok, Err, Result, sym, refl, ap, ◌∙◌, subst, ⊎_elim, add-zero, add_assoc, zero-add, one-add, arith, get_or-drop}
use Rattle.std.specs.List.{prefix_len, range_with_len, slice_range}
use Rattle.std.proofs.lemmas.List.{drop_more, drop_all, drop-drop, get_or_past, length-drop, take_all}
use Rattle.std.proofs.Math.Bool.{or-false}
use Rattle.std.proofs.lemmas.Bool.Decides.{nat_tests}
use Rattle.std.proofs.lemmas.Bool.{cases_lt}
use Rattle.source.specs.Search.{begins_line_break, begins_multiline_stop, hits, misses}
use Rattle.std.proofs.lemmas.List.FromFn.{get_or-map-range_with_len}
use Rattle.scanner.specs.declared.comment.Block.{Block}
use Rattle.scanner.specs.declared.comment.Unterminated.{Unterminated}
use Rattle.scanner.specs.Ends.{term, terminator, line_end, closes, block_from}

abbrev pub plain : ℕ → Bool
plain b = not (begins_line_break b)

-- the terminator at a place, by three bytes
pub term-drop : (xs : List ℕ) (i : ℕ) → terminator (drop i xs) ≡ term (get_or xs i 0) (get_or xs (i + 1) 0) (get_or xs (i + 2) 0)
term-drop xs i = simp (get_or-drop, add-zero)

pick_no : (n m : ℕ) → 0 < n → cond (eqb n 0) m 0 ≡ 0
pick_no n m h = grind (arith, nat_tests)

pick_yes : (n m : ℕ) → n ≡ 0 → cond (eqb n 0) m 0 ≡ m
pick_yes n m e = subst (λ (k : ℕ). cond (eqb k 0) m 0 ≡ m) (sym e) refl

pub line_stop : (xs : List ℕ) → 0 < terminator xs → line_end xs ≡ 0
line_stop [] h = refl
line_stop (b ∷ bs) h = pick_no (terminator (b ∷ bs)) (1 + line_end bs) h

pub line_on : (xs : List ℕ) (i : ℕ) → i < length xs → terminator (drop i xs) ≡ 0 → line_end (drop i xs) ≡ 1 + line_end (drop (i + 1) xs)
line_on xs i lt e =
    let d = drop_more xs i 0 lt in
    ap line_end d ∙ pick_yes (terminator (get_or xs i 0 ∷ drop (i + 1) xs)) (1 + line_end (drop (i + 1) xs)) (sym (ap terminator d) ∙ e)

-- one byte of the search: generic in the tests
step : (A B C L : Bool) (F : List ℕ → ℕ) (b n : ℕ) (bs : List ℕ) → F (b ∷ bs) ≡ cond (eqb (cond (A || B) 1 (cond (C && L) 3 0)) 0) (1 + F bs) 0 → F bs ≡ n + F (drop n bs) → F (b ∷ bs) ≡ cond (not (A || (B || C))) (1 + n) 0 + F (drop (cond (not (A || (B || C))) (1 + n) 0) (b ∷ bs))
step true B C L F b n bs e ih = sym (zero-add _)
step false true C L F b n bs e ih = sym (zero-add _)
step false false true L F b n bs e ih = sym (zero-add _)
step false false false L F b n bs e ih =
    let d : drop (1 + n) (b ∷ bs) ≡ drop n bs = ap (λ (k : ℕ). drop k (b ∷ bs)) (one-add n) in
    let f = ap F d in
    omega (arith, e, ih, f)

pub line_skip : (xs : List ℕ) → line_end xs ≡ prefix_len plain xs + line_end (drop (prefix_len plain xs) xs)
line_skip [] = refl
line_skip (b ∷ bs) = step (eqb b 10) (eqb b 13) (eqb b 226) (eqb (get_or bs 0 0) 128 && (eqb (get_or bs 1 0) 168 || eqb (get_or bs 1 0) 169)) line_end b (prefix_len plain bs) bs refl (line_skip bs)

pub leading_same : (p q : ℕ → Bool) (xs : List ℕ) → ((i : ℕ) → p (get_or xs i 0) ≡ q (get_or xs i 0)) → prefix_len p xs ≡ prefix_len q xs
leading_same p q [] h = refl
leading_same p q (x ∷ xs) h = ap (λ (b : Bool). cond b (1 + prefix_len p xs) 0) (h 0) ∙ ap (λ (n : ℕ). cond (q x) (1 + n) 0) (leading_same p q xs (λ i. h (suc i)))

-- a search over a table that is a rule passes what the rule does not match
pub missed : (rule : ℕ → Bool) (t : List Bool) → t ≡ map rule (range_with_len 0 256) → (xs : List ℕ) (i : ℕ) → ((k : ℕ) → get_or xs k 0 < 256) → prefix_len (misses t) (drop i xs) ≡ prefix_len (λ b. not (rule b)) (drop i xs)
missed rule t is xs i small =
    let at : (b : ℕ) → b < 256 → get_or t b false ≡ rule b = (λ b h. ap (λ (l : List Bool). get_or l b false) is ∙ get_or-map-range_with_len rule 0 256 b b false h (zero-add b)) in
    leading_same (misses t) (λ b. not (rule b)) (drop i xs) (λ k. ap not (ap (hits t) (get_or-drop i xs k 0) ∙ at (get_or xs (i + k) 0) (small (i + k)) ∙ ap rule (sym (get_or-drop i xs k 0))))

-- what one search of the table does to the rest of the line
pub line_search : (xs : List ℕ) (t : List Bool) (i j : ℕ) → t ≡ map begins_line_break (range_with_len 0 256) → ((k : ℕ) → get_or xs k 0 < 256) → j ≡ i + prefix_len (misses t) (drop i xs) → i + line_end (drop i xs) ≡ j + line_end (drop j xs)
line_search xs t i j is small e =
    let same : prefix_len (misses t) (drop i xs) ≡ prefix_len plain (drop i xs) = missed begins_line_break t is xs i small in
    let go : line_end (drop i xs) ≡ prefix_len plain (drop i xs) + line_end (drop (prefix_len plain (drop i xs)) (drop i xs)) = line_skip (drop i xs) in
    let at : j ≡ i + prefix_len plain (drop i xs) = e ∙ ap (λ (n : ℕ). i + n) same in
    let there : line_end (drop (prefix_len plain (drop i xs)) (drop i xs)) ≡ line_end (drop j xs) = ap line_end (drop-drop (prefix_len plain (drop i xs)) i xs ∙ ap (λ (n : ℕ). drop n xs) (sym at)) in
    omega (arith, go, at, there)

pub line_end_past : (xs : List ℕ) (i : ℕ) → length xs ≤ i → line_end (drop i xs) ≡ 0
line_end_past xs i e = ap line_end (drop_all i xs e)

-- ---- blocks

-- the two answers about a block, by their parts
abbrev pub ended : ℕ → Bool → Result Block Unterminated
ended end multi = Ok (record { end = end; multi = multi })

abbrev pub unended : Bool → Result Block Unterminated
unended multi = Err (record { multi = multi })

abbrev pub quiet : ℕ → Bool
quiet b = not (begins_multiline_stop b)

bstep : (S A B C L E : Bool) (F : ℕ → Bool → List ℕ → Result Block Unterminated) (at b n : ℕ) (m : Bool) (bs : List ℕ) → F at m (b ∷ bs) ≡ cond (S && E) (ended (at + 2) m) (F (at + 1) (m || ltb 0 (cond (A || B) 1 (cond (C && L) 3 0))) bs) → F (at + 1) m bs ≡ F (at + 1 + n) m (drop n bs) → F at m (b ∷ bs) ≡ F (at + cond (not (S || (A || (B || C)))) (1 + n) 0) m (drop (cond (not (S || (A || (B || C)))) (1 + n) 0) (b ∷ bs))
bstep true A B C L E F at b n m bs e ih = ap (λ (k : ℕ). F k m (b ∷ bs)) (sym (add-zero at))
bstep false true B C L E F at b n m bs e ih = ap (λ (k : ℕ). F k m (b ∷ bs)) (sym (add-zero at))
bstep false false true C L E F at b n m bs e ih = ap (λ (k : ℕ). F k m (b ∷ bs)) (sym (add-zero at))
bstep false false false true L E F at b n m bs e ih = ap (λ (k : ℕ). F k m (b ∷ bs)) (sym (add-zero at))
bstep false false false false L E F at b n m bs e ih =
    e ∙ ap (λ (k : Bool). F (at + 1) k bs) (or-false m) ∙ ih ∙ ap (λ (k : ℕ). F k m (drop n bs)) (add_assoc at 1 n) ∙ ap (λ (k : ℕ). F (at + (1 + n)) m (drop k (b ∷ bs))) (sym (one-add n))

pub block_skip : (xs : List ℕ) (at : ℕ) (m : Bool) → block_from at m xs ≡ block_from (at + prefix_len quiet xs) m (drop (prefix_len quiet xs) xs)
block_skip [] at m = refl
block_skip (b ∷ bs) at m =
    bstep (eqb b 42) (eqb b 10) (eqb b 13) (eqb b 226) (eqb (get_or bs 0 0) 128 && (eqb (get_or bs 1 0) 168 || eqb (get_or bs 1 0) 169)) (eqb (get_or bs 0 0) 47) block_from at b (prefix_len quiet bs) m bs refl (block_skip bs (at + 1) m)

pub block_search : (xs : List ℕ) (t : List Bool) (i j : ℕ) (m : Bool) → t ≡ map begins_multiline_stop (range_with_len 0 256) → ((k : ℕ) → get_or xs k 0 < 256) → j ≡ i + prefix_len (misses t) (drop i xs) → block_from i m (drop i xs) ≡ block_from j m (drop j xs)
block_search xs t i j m is small e =
    let same : prefix_len (misses t) (drop i xs) ≡ prefix_len quiet (drop i xs) = missed begins_multiline_stop t is xs i small in
    let at : j ≡ i + prefix_len quiet (drop i xs) = e ∙ ap (λ (n : ℕ). i + n) same in
    block_skip (drop i xs) i m ∙ ap (block_from (i + prefix_len quiet (drop i xs)) m) (drop-drop (prefix_len quiet (drop i xs)) i xs) ∙ ap (λ (n : ℕ). block_from n m (drop n xs)) (sym at)

pub block_end : (xs : List ℕ) (i : ℕ) (m : Bool) → length xs ≤ i → block_from i m (drop i xs) ≡ unended m
block_end xs i m e = ap (block_from i m) (drop_all i xs e)

pub block_close : (xs : List ℕ) (j : ℕ) (m : Bool) → j < length xs → closes (get_or xs j 0) (get_or xs (j + 1) 0) ≡ true → block_from j m (drop j xs) ≡ ended (j + 2) m
block_close xs j m lt e =
    let rest = block_from (j + 1) (m || ltb 0 (terminator (get_or xs j 0 ∷ drop (j + 1) xs))) (drop (j + 1) xs) in
    let next : get_or (drop (j + 1) xs) 0 0 ≡ get_or xs (j + 1) 0 = get_or-drop (j + 1) xs 0 0 ∙ ap (λ (k : ℕ). get_or xs k 0) (add-zero (j + 1)) in
    ap (block_from j m) (drop_more xs j 0 lt) ∙ ap (λ (b : Bool). cond b (ended (j + 2) m) rest) (ap (closes (get_or xs j 0)) next ∙ e)

pub block_on : (xs : List ℕ) (j : ℕ) (m : Bool) → j < length xs → closes (get_or xs j 0) (get_or xs (j + 1) 0) ≡ false → block_from j m (drop j xs) ≡ block_from (j + 1) (m || ltb 0 (terminator (drop j xs))) (drop (j + 1) xs)
block_on xs j m lt e =
    let d = drop_more xs j 0 lt in
    let rest = block_from (j + 1) (m || ltb 0 (terminator (get_or xs j 0 ∷ drop (j + 1) xs))) (drop (j + 1) xs) in
    let next : get_or (drop (j + 1) xs) 0 0 ≡ get_or xs (j + 1) 0 = get_or-drop (j + 1) xs 0 0 ∙ ap (λ (k : ℕ). get_or xs k 0) (add-zero (j + 1)) in
    ap (block_from j m) d ∙ ap (λ (b : Bool). cond b (ended (j + 2) m) rest) (ap (closes (get_or xs j 0)) next ∙ e) ∙ ap (λ (l : List ℕ). block_from (j + 1) (m || ltb 0 (terminator l)) (drop (j + 1) xs)) (sym d)

-- what is lent of a text from a place on
pub rest_from : (xs : List ℕ) (i : ℕ) → slice_range xs i (length xs) ≡ drop i xs
rest_from xs i = take_all (length xs - i) (drop i xs) (omega (arith, length-drop i xs))

-- the two bytes that close, in what is lent of the text from a place on
pub shut_at : (xs : List ℕ) (i : ℕ) → closes (get_or (slice_range xs i (length xs)) 0 0) (get_or (slice_range xs i (length xs)) 1 0) ≡ closes (get_or xs i 0) (get_or xs (i + 1) 0)
shut_at xs i =
    let here : get_or (drop i xs) 0 0 ≡ get_or xs i 0 = get_or-drop i xs 0 0 ∙ ap (λ (k : ℕ). get_or xs k 0) (add-zero i) in
    ap (λ (l : List ℕ). closes (get_or l 0 0) (get_or l 1 0)) (rest_from xs i) ∙ ap (λ (b : ℕ). closes b (get_or (drop i xs) 1 0)) here ∙ ap (closes (get_or xs i 0)) (get_or-drop i xs 1 0)

-- other bytes close nothing
pub others : (b c : ℕ) → (b ≡ 42 → c ≡ 47 → ⊥) → closes b c ≡ false
others b c h = grind (arith, nat_tests)

-- nor does one byte
pub short : (xs : List ℕ) → length xs < 2 → closes (get_or xs 0 0) (get_or xs 1 0) ≡ false
short [] h = refl
short (b ∷ []) h = grind (arith, nat_tests)
short (b ∷ c ∷ bs) h = absurd (omega (arith, h))

-- a star closes only with two bytes in hand
pub close_within : (xs : List ℕ) (j : ℕ) → closes (get_or xs j 0) (get_or xs (j + 1) 0) ≡ true → get_or xs (j + 1) 0 ≡ 47
close_within xs j e = grind (arith, nat_tests)

-- a line terminator begins a character
pub begins : (b c d : ℕ) → 0 < term b c d → 128 ≤ b → 192 ≤ b
begins b c d h high = grind (arith, nat_tests)

-- a byte that is not 0 stands in the list
pub get_or-within : (xs : List ℕ) (k : ℕ) → 0 < get_or xs k 0 → k < length xs
get_or-within xs k some = ⊎_elim (λ h. h) (λ (past : length xs ≤ k). absurd (omega (arith, get_or_past xs k 0 past))) (cases_lt k (length xs))
