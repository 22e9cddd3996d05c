-- Where a piece ends the text may be cut.
use Rattle.std.proofs.Common.{◌≡◌, ℕ, ◌+◌, ◌-◌, ◌<◌, ◌≤◌, Bool, true, false, cond, ◌&&◌, ◌||◌, ◌⊎◌, List, [], ◌∷◌, ◌++◌, length, get_or, drop, IsUtf8, sym, refl, ap, ◌∙◌, subst, inl, inr, add_assoc, arith}
use lib.Utf8.{encode}
use Rattle.std.specs.Str.{IsCharBoundary}
use Rattle.std.proofs.lemmas.List.{drop_more}
use Rattle.std.proofs.lemmas.Str.{IsCharBoundary-after_ascii}
use Rattle.scanner.specs.Ends.{terminator}
use Rattle.scanner.proofs.Lines.{term-drop, begins, get_or-within}

-- the three ways of the test for a line terminator
pub split : (A B C D E F : Bool) → (◌≡◌ {A = ℕ} (cond (A || B) 1 (cond (C && (D && (E || F))) 3 0)) 0) ⊎ (((◌≡◌ {A = ℕ} (cond (A || B) 1 (cond (C && (D && (E || F))) 3 0)) 1) × ((A ≡ true) ⊎ (B ≡ true))) ⊎ ((◌≡◌ {A = ℕ} (cond (A || B) 1 (cond (C && (D && (E || F))) 3 0)) 3) × ((C ≡ true) × (D ≡ true) × ((E ≡ true) ⊎ (F ≡ true)))))
split true B C D E F = inr (inl (refl, inl refl))
split false true C D E F = inr (inl (refl, inr refl))
split false false false D E F = inl refl
split false false true false E F = inl refl
split false false true true true F = inr (inr (refl, (refl, refl, inl refl)))
split false false true true false true = inr (inr (refl, (refl, refl, inr refl)))
split false false true true false false = inl refl

-- three bytes that spell a line terminator
pub wide : (bs : List ℕ) (i mark : ℕ) → encode mark ≡ 226 ∷ 128 ∷ (mark - 8064) ∷ [] → 0 < mark - 8064 → get_or bs i 0 ≡ 226 → get_or bs (i + 1) 0 ≡ 128 → get_or bs (i + 2) 0 ≡ mark - 8064 → (rest : List ℕ) × (drop i bs ≡ encode mark ++ rest)
wide bs i mark spelt some a b c =
    let l0 : i < length bs = get_or-within bs i (omega arith) in
    let l1 : i + 1 < length bs = get_or-within bs (i + 1) (omega arith) in
    let l2 : i + 2 < length bs = get_or-within bs (i + 2) (omega arith) in
    let two : i + 1 + 1 ≡ i + 2 = add_assoc i 1 1 in
    let d0 = drop_more bs i 0 l0 in
    let d1 = drop_more bs (i + 1) 0 l1 in
    let d2 = drop_more bs (i + 2) 0 l2 in
    let e2 : drop (i + 1 + 1) bs ≡ (mark - 8064) ∷ drop (i + 2 + 1) bs = ap (λ (k : ℕ). drop k bs) two ∙ d2 ∙ ap (λ (x : ℕ). x ∷ drop (i + 2 + 1) bs) c in
    let e1 : drop (i + 1) bs ≡ 128 ∷ (mark - 8064) ∷ drop (i + 2 + 1) bs = d1 ∙ ap (λ (x : ℕ). x ∷ drop (i + 1 + 1) bs) b ∙ ap (λ (l : List ℕ). 128 ∷ l) e2 in
    (drop (i + 2 + 1) bs, d0 ∙ ap (λ (x : ℕ). x ∷ drop (i + 1) bs) a ∙ ap (λ (l : List ℕ). 226 ∷ l) e1 ∙ ap (λ (l : List ℕ). l ++ drop (i + 2 + 1) bs) (sym spelt))

pub ls : encode 8232 ≡ 226 ∷ 128 ∷ 168 ∷ []
unfolding encode
ls = refl

pub ps : encode 8233 ≡ 226 ∷ 128 ∷ 169 ∷ []
unfolding encode
ps = refl

-- a line terminator begins where the text may be cut
pub cut_before_terminator : (bs : List ℕ) (i : ℕ) → i ≤ length bs → (i < length bs → 0 < terminator (drop i bs)) → IsCharBoundary bs i
cut_before_terminator bs i le stops = (le, λ lt high. begins (get_or bs i 0) (get_or bs (i + 1) 0) (get_or bs (i + 2) 0) (omega (arith, stops lt, term-drop bs i)) high)

-- after a run of ASCII bytes the text may be cut
pub cut_after_ascii : (bs : List ℕ) (from to : ℕ) → IsUtf8 bs → from < to → to ≤ length bs → ((k : ℕ) → from ≤ k → k < to → get_or bs k 0 < 128) → IsCharBoundary bs to
cut_after_ascii bs from to u lt le low =
    let P : ℕ → Type 0 = λ k. IsCharBoundary bs k in
    let e : to - 1 + 1 ≡ to = omega arith in
    subst P e (IsCharBoundary-after_ascii bs (to - 1) u (omega arith) (low (to - 1) (omega arith) (omega arith)))
