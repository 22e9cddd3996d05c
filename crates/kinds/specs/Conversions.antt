-- What is told of a kind's number, and of the kind that has a number.
use Rattle.std.specs.Prelude.{◌≡◌, ℕ, ◌<◌, Result, IfOk, Ok, ok_or}
use Rattle.kinds.specs.Kinds.{number_of, kind_of}
use Rattle.kinds.specs.declared.kind.Kind.{Kind}
use Rattle.kinds.specs.declared.kind.UnknownKind.{UnknownKind}

-- the number that is told of a kind
pub record GivesNumber (kind : Kind) (n : ℕ) : Type 0 where
  pub value : n ≡ number_of kind
  pub bound : n < 169

-- the kind that is told of a number, or an error that tells the number
pub record GivesKind (n : ℕ) (r : Result Kind UnknownKind) : Type 0 where
  pub value : r ≡ ok_or (kind_of n) (record { 0 = n })
  pub has : IfOk r (λ k. number_of k ≡ n)
  pub every : (k : Kind) → number_of k ≡ n → r ≡ Ok k
