-- Appending keeps the starts rising.
use Rattle.std.proofs.Common.{◌≡◌, ℕ, ◌+◌, ◌-◌, ◌<◌, true, List, [], ◌∷◌, ◌++◌, map, length, get_or, take, set, sym, ap, ◌∙◌, subst, arith}
use Rattle.std.proofs.lemmas.List.{length_push, get_or_push, get_or_append_left, take_more_set, map_push}
use Rattle.std.proofs.lemmas.Bool.Decides.{nat_tests}
use Rattle.table.specs.Order.{starts, follows, Rising}

-- what follows is above all starts
above : (ss : List ℕ) (s : ℕ) → Rising ss → follows ss s ≡ true → (i : ℕ) → i < length ss → get_or ss i 0 < s
above ss s rising yes-follows i lt = grind (arith, nat_tests, rising i (length ss - 1), λ (e : i ≡ length ss - 1). ap (λ (k : ℕ). get_or ss k 0) e)

rising_push : (ss : List ℕ) (s : ℕ) → Rising ss → follows ss s ≡ true → Rising (ss ++ s ∷ [])
rising_push ss s rising yes-follows i j lt within =
    let long = length_push ss s in
    let left = get_or_append_left ss (s ∷ []) 0 in
    grind (arith, long, left i, left j, rising i j, above ss s rising yes-follows i, get_or_push ss s 0 j)

-- a row that follows, added where there is room
pub rising_more : {R : Type 0} (at : R → ℕ) (rows : List R) (count : ℕ) (row : R) → count < length rows → follows (starts at rows count) (at row) ≡ true → Rising (starts at rows count) → Rising (starts at (set rows count row) (count + 1))
rising_more at rows count row room yes-follows rising =
    subst Rising (sym (ap (map at) (take_more_set rows count row room) ∙ map_push at (take count rows) row)) (rising_push (starts at rows count) (at row) rising yes-follows)
