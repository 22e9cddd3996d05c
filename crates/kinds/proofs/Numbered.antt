-- The kinds stand in the list in the order of their numbers, so a number gives its kind back.
use Rattle.std.proofs.Common.{◌≡◌, ℕ, ◌<◌, ◌≤◌, map, get_or, IfSome, Some, None, Option, IfOk, Bor, sym, refl, ap, ◌∙◌, subst, ⊎_elim, zero-add, arith}
use Rattle.std.specs.List.{range_with_len}
use Rattle.std.specs.Option.{ok_or, option_copied}
use Rattle.std.specs.Slice.{IsItemAt}
use Rattle.std.proofs.lemmas.List.FromFn.{get_or-range_with_len}
use Rattle.std.proofs.lemmas.List.{get_or-map}
use Rattle.std.proofs.lemmas.Option.{slice_get-get_or, slice_get_past}
use Rattle.std.proofs.lemmas.Bool.{cases_lt}
use Rattle.kinds.specs.declared.kind.Kind.{Kind}
use Rattle.kinds.specs.declared.kind.Kind.TheVariants.{Eof}
use Rattle.kinds.specs.declared.kind.UnknownKind.{UnknownKind}
use Rattle.kinds.specs.Kinds.{kinds, kind_of, number_of}
use Rattle.kinds.specs.Conversions.{GivesKind}

-- one case for each kind
kind_of_number : (k : Kind) → kind_of (number_of k) ≡ Some k
unfolding kind_of
kind_of_number k = grind arith

kind_read : (n : ℕ) (d : Kind) → n < 169 → kind_of n ≡ Some (get_or kinds n d)
unfolding kind_of
kind_read n d small = slice_get-get_or kinds n d small

kind_past : (n : ℕ) → 169 ≤ n → kind_of n ≡ None
unfolding kind_of
kind_past n past = slice_get_past kinds n past

numbers : map number_of kinds ≡ range_with_len 0 169
numbers = refl

number_read : (n : ℕ) (d : Kind) → n < 169 → number_of (get_or kinds n d) ≡ n
number_read n d small =
    sym (get_or-map number_of kinds n d 0 small) ∙ (ap (λ ns. get_or ns n 0) numbers ∙ (get_or-range_with_len 0 169 n 0 small ∙ zero-add n))

pub kind_has : (n : ℕ) → IfSome (kind_of n) (λ k. number_of k ≡ n)
kind_has n =
    ⊎_elim
    (λ small. subst (λ o. IfSome o (λ k. number_of k ≡ n)) (sym (kind_read n Eof small)) (number_read n Eof small))
    (λ past. subst (λ o. IfSome o (λ k. number_of k ≡ n)) (sym (kind_past n past)) tt)
    (cases_lt n 169)

pub kind_every : (n : ℕ) (k : Kind) → number_of k ≡ n → kind_of n ≡ Some k
kind_every n k is = ap kind_of (sym is) ∙ kind_of_number k

has : (n : ℕ) (o : Option Kind) (e : UnknownKind) → IfSome o (λ k. number_of k ≡ n) → IfOk (ok_or o e) (λ k. number_of k ≡ n)
has n None e h = tt
has n (Some k) e h = h

pub gives_kind : (n : ℕ) → GivesKind n (ok_or (kind_of n) (record { 0 = n }))
gives_kind n = record { value = refl; has = has n (kind_of n) (record { 0 = n }) (kind_has n); every = λ k is. ap (λ o. ok_or o (record { 0 = n })) (kind_every n k is) }

-- what the table of kinds has at a number
pub looked_up : (n : ℕ) (r : Option (Bor Kind)) → IsItemAt kinds n r → option_copied r ≡ kind_of n
looked_up n None h = sym (kind_past n h.3)
looked_up n (Some x) h = ap Some h.1 ∙ sym (kind_read n x.now h.3.0)

pub number_high : (k : Kind) → number_of k ≤ 168
number_high k = grind arith
