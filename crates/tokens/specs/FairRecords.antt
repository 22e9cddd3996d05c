-- What a recorded list tells is fair: a record that counts keeps the laws of a token reader.
use Rattle.std.specs.Prelude.{◌≡◌, ℕ, zero, suc, ◌/◌, true, ◌&&◌, List, length, Some, None, Decides, Option, ◌==◌}
use Rattle.std.proofs.Common.{subst, arith}
use Rattle.std.specs.Option.{option_or}
use Rattle.std.specs.Str.{IsCharBoundary}
use Rattle.std.proofs.lemmas.Bool.{cond_both, and_parts, leb-true, ltb-true, eqb-true}
use Rattle.std.proofs.lemmas.Bool.Decides.{nat_tests}
use Rattle.kinds.specs.Kinds.{number_of}
use Rattle.kinds.proofs.Numbered.{number_high}
use Rattle.tokens.specs.Layout.{record_of, record_bytes}
use Rattle.tokens.specs.Recorded.{boundary, counts_for, told_by, first_of, recorded_telling}
use Rattle.tokens.specs.Telling.{Fair, FairAt}
use Rattle.tokens.specs.declared.layout.Record.{Record}
use Rattle.tokens.specs.declared.token_reader.Told.{Told}

pub boundary_decides : (text : List ℕ) (place : ℕ) → Decides (boundary text place) (IsCharBoundary text place)
boundary_decides text place = grind (arith, nat_tests)

pub counts_fair : (text : List ℕ) (r : Record) → counts_for text r ≡ true → Fair text r.start (record { kind = r.kind; end = r.end })
counts_fair text r h =
    let kinded = and_parts _ _ h in
    let long = and_parts _ _ kinded.1 in
    let cut = and_parts _ _ long.1 in
    let lands = (boundary_decides text r.end).0 cut.1 in
    record {
      low = leb-true 4 (number_of r.kind) kinded.0;
      high = number_high r.kind;
      onward = ltb-true r.start r.end long.0;
      inside = lands.0;
      begins = (boundary_decides text r.start).0 cut.0;
      lands = lands;
    }

fair_by : (text : List ℕ) (place : ℕ) (o : Option Record) → FairAt text place (told_by text place o)
fair_by text place None = tt
fair_by text place (Some r) =
    cond_both (r.start == place && counts_for text r) (Some (record { kind = r.kind; end = r.end })) None (FairAt text place)
    (λ h.
    let both = and_parts _ _ h in
    subst (λ p. Fair text p (record { kind = r.kind; end = r.end })) (eqb-true r.start place both.0) (counts_fair text r both.1))
    (λ _. tt)

fair_or : (text : List ℕ) (place : ℕ) (o p : Option Told) → FairAt text place o → FairAt text place p → FairAt text place (option_or o p)
fair_or text place None p h k = k
fair_or text place (Some t) p h k = h

fair_first : (list text : List ℕ) (place n : ℕ) → FairAt text place (first_of list text place n)
fair_first list text place zero = tt
fair_first list text place (suc n) =
    fair_or text place (first_of list text place n) (told_by text place (record_of (record_bytes list n))) (fair_first list text place n)
    (fair_by text place (record_of (record_bytes list n)))

pub fair_recorded : (list text : List ℕ) (place : ℕ) → FairAt text place (recorded_telling list text place)
fair_recorded list text place = fair_first list text place (length list / 11)
