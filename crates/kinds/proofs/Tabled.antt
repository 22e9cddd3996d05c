-- A table that is a rule over all kinds answers by the rule at each kind.
use Rattle.std.proofs.Common.{◌≡◌, ◌<◌, false, List, map, get_or, ap, ◌∙◌, zero-add, arith}
use Rattle.std.specs.List.{range_with_len}
use Rattle.std.proofs.lemmas.List.FromFn.{get_or-map-range_with_len}
use denote.Enum.Declared.{tag_of}
use Rattle.kinds.specs.contracts.kind.Kind.{the_type}
use Rattle.kinds.specs.declared.kind.Kind.{Kind}
use Rattle.kinds.specs.Equality.{tag_number}
use Rattle.kinds.specs.Kinds.{among, number_of}
use Rattle.kinds.proofs.Numbered.{number_high}

pub tabled : (ks : List Kind) (k : Kind) → get_or (map (among ks) (range_with_len 0 169)) (tag_of the_type k) false ≡ among ks (number_of k)
tabled ks k =
    let is = tag_number k in
    let small : tag_of the_type k < 169 = omega (arith, is, number_high k) in
    get_or-map-range_with_len (among ks) 0 169 (tag_of the_type k) (tag_of the_type k) false small (zero-add (tag_of the_type k)) ∙ ap (among ks) is
