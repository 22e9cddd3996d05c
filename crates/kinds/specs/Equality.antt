-- What `==` says of two kinds: it compares their numbers, and is true of one kind alone.
use Rattle.std.specs.Prelude.{◌≡◌, Bool, Decides, ◌==◌}
use Rattle.std.proofs.Common.{sym, subst, ap, ◌∙◌, arith}
use denote.Enum.Bare.{sameb, same_true, true_same}
use denote.Enum.Declared.{tag_of}
use Rattle.kinds.specs.Kinds.{number_of}
use Rattle.kinds.specs.contracts.kind.Kind.{the_type}
use Rattle.kinds.specs.declared.kind.Kind.{Kind}

-- the answer of `j == k`
abbrev pub equal : Kind → Kind → Bool
equal = sameb the_type

-- the place of a kind's variant in the enum is its number; one case for each kind
pub tag_number : (k : Kind) → tag_of the_type k ≡ number_of k
tag_number k = grind arith

pub equal_value : (j k : Kind) → equal j k ≡ (number_of j == number_of k)
equal_value j k = ap (λ n. n == tag_of the_type k) (tag_number j) ∙ ap (λ n. number_of j == n) (tag_number k)

pub equal_same : (j k : Kind) → Decides (equal j k) (j ≡ k)
equal_same j k = (same_true the_type tt j k, true_same the_type j k)

-- the same of whatever answers as `==` does
pub is_value : (j k : Kind) (b : Bool) → b ≡ equal j k → b ≡ (number_of j == number_of k)
is_value j k b e = e ∙ equal_value j k

pub is_same : (j k : Kind) (b : Bool) → b ≡ equal j k → Decides b (j ≡ k)
is_same j k b e = let Is : Bool → Type 0 = λ r. Decides r (j ≡ k) in subst Is (sym e) (equal_same j k)
