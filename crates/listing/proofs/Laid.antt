-- Bytes written one after another.
use Rattle.std.proofs.Common.{◌≡◌, ℕ, ◌+◌, ◌^◌, ◌<◌, ◌≤◌, min, List, [], ◌∷◌, ◌++◌, length, get_or, take, drop, set, decimal, sym, refl, ap, ◌∙◌, subst, ⊎_elim, append_assoc, add-zero, arith, length-set}
use Rattle.std.proofs.lemmas.List.{length_push, set_past, set_at, take_more, append-nil}
use Rattle.std.proofs.lemmas.Bool.{cases_lt}
use Rattle.listing.specs.declared.out.Out.{Out}
use Rattle.listing.specs.Bytes.{laid, Wrote, Writes, fields_of}

pub length-laid : (buffer : List ℕ) (at : ℕ) (xs : List ℕ) → length (laid buffer at xs) ≡ length buffer
length-laid buffer at [] = refl
length-laid buffer at (x ∷ xs) = length-laid (set buffer at x) (at + 1) xs ∙ simp length-set

laid_push : (buffer : List ℕ) (at : ℕ) (xs : List ℕ) (b : ℕ) → laid buffer at (xs ++ b ∷ []) ≡ set (laid buffer at xs) (at + length xs) b
laid_push buffer at [] b = ap (λ (k : ℕ). set buffer k b) (sym (add-zero at))
laid_push buffer at (x ∷ xs) b = laid_push (set buffer at x) (at + 1) xs b ∙ ap (λ (k : ℕ). set (laid (set buffer at x) (at + 1) xs) k b) (omega arith)

-- one byte more
pub wrote_push : (buffer xs : List ℕ) (o p : Out) (b : ℕ) → Wrote buffer xs o → p.len ≡ min (o.len + 1) 18446744073709551615 → p.bytes.now ≡ set o.bytes.now o.len b → length o.bytes.now < 2 ^ 64 → Wrote buffer (xs ++ b ∷ []) p
wrote_push buffer xs o p b h longer after fits =
    let room : length (laid buffer 0 xs) ≡ length o.bytes.now = ap length (sym h.bytes) in
    let at : set (laid buffer 0 xs) o.len b ≡ set (laid buffer 0 xs) (0 + length xs) b =
    ⊎_elim
    (λ (past : 18446744073709551615 < length xs). set_past (laid buffer 0 xs) o.len b (omega (arith, h.long)) ∙ sym (set_past (laid buffer 0 xs) (0 + length xs) b (omega arith)))
    (λ (in_reach : length xs ≤ 18446744073709551615). ap (λ (k : ℕ). set (laid buffer 0 xs) k b) (omega (arith, h.long)))
    (cases_lt 18446744073709551615 (length xs)) in
    record { long = omega (arith, h.long, length_push xs b); bytes = after ∙ ap (λ (l : List ℕ). set l o.len b) h.bytes ∙ at ∙ sym (laid_push buffer 0 xs b) }

-- nothing more, one part and then another, and a part by another name
pub writes_none : (o : Out) → Writes [] o o
writes_none o = record { wrote = λ buffer xs h. let W : List ℕ → Type 0 = λ l. Wrote buffer l o in subst W (sym (append-nil xs)) h; lender = refl }

pub writes_then : {xs ys : List ℕ} {o p q : Out} → Writes xs o p → Writes ys p q → Writes (xs ++ ys) o q
writes_then {xs = xs} {ys = ys} {q = q} h k = record {
  wrote = λ buffer front w. let W : List ℕ → Type 0 = λ l. Wrote buffer l q in subst W (append_assoc front xs ys) (k.wrote buffer (front ++ xs) (h.wrote buffer front w));
  lender = k.lender ∙ h.lender;
}

pub writes_is : {xs ys : List ℕ} {o p : Out} → xs ≡ ys → Writes xs o p → Writes ys o p
writes_is {o = o} {p = p} e h = let W : List ℕ → Type 0 = λ l. Writes l o p in subst W e h

-- the fields, one more
fields_push : (ns : List ℕ) (n : ℕ) → fields_of (ns ++ n ∷ []) ≡ fields_of ns ++ (32 ∷ decimal n)
fields_push [] n = ap (λ (l : List ℕ). 32 ∷ l) (append-nil (decimal n))
fields_push (m ∷ ns) n = ap (λ (l : List ℕ). 32 ∷ (decimal m ++ l)) (fields_push ns n) ∙ ap (λ (l : List ℕ). 32 ∷ l) (sym (append_assoc (decimal m) (fields_of ns) (32 ∷ decimal n)))

pub fields_more : (ns : List ℕ) (i : ℕ) → i < length ns → fields_of (take i ns) ++ (32 ∷ decimal (get_or ns i 0)) ≡ fields_of (take (i + 1) ns)
fields_more ns i lt = sym (ap fields_of (take_more ns i 0 lt) ∙ fields_push (take i ns) (get_or ns i 0))

-- what is written whole is followed by the rest of the buffer
laid_at : (front buffer : List ℕ) (xs : List ℕ) → length xs ≤ length buffer → laid (front ++ buffer) (length front) xs ≡ front ++ (xs ++ drop (length xs) buffer)
laid_at front buffer [] fits = refl
laid_at front [] (x ∷ xs) fits = absurd (omega arith)
laid_at front (b ∷ buffer) (x ∷ xs) fits =
    ap (λ (l : List ℕ). laid l (length front + 1) xs) (set_at front b buffer x (length front) refl)
    ∙ ap (λ (l : List ℕ). laid l (length front + 1) xs) (sym (append_assoc front (x ∷ []) buffer))
    ∙ ap (λ (k : ℕ). laid ((front ++ x ∷ []) ++ buffer) k xs) (sym (length_push front x))
    ∙ laid_at (front ++ x ∷ []) buffer xs (omega arith)
    ∙ append_assoc front (x ∷ []) (xs ++ drop (length xs) buffer)

pub laid_whole : (buffer xs : List ℕ) → length xs ≤ length buffer → laid buffer 0 xs ≡ xs ++ drop (length xs) buffer
laid_whole buffer xs fits = laid_at [] buffer xs fits
