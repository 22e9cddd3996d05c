-- What a record tells at a place, and what its bytes then spell.
use Rattle.std.proofs.Common.{◌≡◌, ℕ, ◌/◌, ◌<◌, true, ◌&&◌, eqb, List, length, get_or, IfSome, Some, None, Option, sym, refl, ap, ◌∙◌, subst, arith}
use Rattle.std.proofs.lemmas.List.{length-take, length-drop}
use Rattle.std.proofs.lemmas.Bool.{cond_both, cond-true, and_parts, and_from, eqb-true, le-leb, lt-ltb, eq-eqb}
use Rattle.std.proofs.lemmas.Bool.Decides.{nat_tests}
use Rattle.kinds.specs.Kinds.{number_of, kind_of}
use Rattle.kinds.specs.declared.kind.Kind.{Kind}
use Rattle.kinds.proofs.Numbered.{kind_has, kind_every}
use Rattle.tokens.specs.FairRecords.{boundary_decides, counts_fair}
use Rattle.tokens.specs.Layout.{little_endian, Spells, marked, record_of_kind, record_of, record_bytes}
use Rattle.tokens.specs.Recorded.{RecordTells, counts_for, told_by}
use Rattle.tokens.specs.Telling.{Fair}
use Rattle.tokens.specs.declared.layout.Record.{Record}
use Rattle.tokens.specs.declared.token_reader.Told.{Told}

marked_spells : (bytes : List ℕ) (k : Kind) → marked bytes ≡ true → number_of k ≡ get_or bytes 2 0
    → Spells bytes (record { kind = k; start = little_endian bytes 3; end = little_endian bytes 7 })
marked_spells bytes k m is = grind (arith, nat_tests)

spells_marked : (bytes : List ℕ) (r : Record) → Spells bytes r → marked bytes ≡ true
spells_marked bytes r s = grind (arith, nat_tests)

kind_record : (bytes : List ℕ) (o : Option Kind) → marked bytes ≡ true → IfSome o (λ k. number_of k ≡ get_or bytes 2 0)
    → IfSome (record_of_kind o (little_endian bytes 3) (little_endian bytes 7)) (Spells bytes)
kind_record bytes None m h = tt
kind_record bytes (Some k) m h = marked_spells bytes k m h

record_spells : (bytes : List ℕ) → IfSome (record_of bytes) (Spells bytes)
record_spells bytes =
    cond_both (marked bytes) (record_of_kind (kind_of (get_or bytes 2 0)) (little_endian bytes 3) (little_endian bytes 7)) None (λ o. IfSome o (Spells bytes))
    (λ m. kind_record bytes (kind_of (get_or bytes 2 0)) m (kind_has (get_or bytes 2 0))) (λ _. tt)

record_every : (bytes : List ℕ) (r : Record) → Spells bytes r → record_of bytes ≡ Some r
record_every bytes r s =
    let m = spells_marked bytes r s in
    let k = kind_every (get_or bytes 2 0) r.kind (sym s.kind) in
    grind arith

fair_counts : (text : List ℕ) (r : Record) → Fair text r.start (record { kind = r.kind; end = r.end }) → counts_for text r ≡ true
fair_counts text r f =
    and_from _ _ (le-leb 4 (number_of r.kind) f.low) (and_from _ _ (lt-ltb r.start r.end f.onward)
    (and_from _ _ ((boundary_decides text r.start).1 f.begins) ((boundary_decides text r.end).1 f.lands)))

module _ (list : List ℕ) (n : ℕ) (text : List ℕ) (place : ℕ) where
  tells_from : (o : Option Record) → IfSome o (Spells (record_bytes list n)) → IfSome (told_by text place o) (RecordTells list n text place)
  tells_from None h = tt
  tells_from (Some r) s =
      cond_both (eqb r.start place && counts_for text r) (Some (record { kind = r.kind; end = r.end })) None
      (λ o. IfSome o (RecordTells list n text place))
      (λ h.
      let both = and_parts _ _ h in
      let at = eqb-true r.start place both.0 in
      record {
        says = subst (λ p. Spells (record_bytes list n) (record { kind = r.kind; start = p; end = r.end })) at s;
        counts = subst (λ p. Fair text p (record { kind = r.kind; end = r.end })) at (counts_fair text r both.1);
      })
      (λ _. tt)

  -- what the bytes of a record give is what the record tells, and all of it
  pub tells_sound : IfSome (told_by text place (record_of (record_bytes list n))) (RecordTells list n text place)
  tells_sound = tells_from (record_of (record_bytes list n)) (record_spells (record_bytes list n))

  pub tells_complete : (t : Told) → RecordTells list n text place t → told_by text place (record_of (record_bytes list n)) ≡ Some t
  tells_complete t h =
      ap (told_by text place) (record_every (record_bytes list n) (record { kind = t.kind; start = place; end = t.end }) h.says)
      ∙ cond-true _ _ _ (and_from _ _ (eq-eqb place place refl) (fair_counts text (record { kind = t.kind; start = place; end = t.end }) h.counts))

  -- a record that tells a token is one of the whole records
  pub tells_whole : (t : Told) → RecordTells list n text place t → n < length list / 11
  tells_whole t h = let w = simp (length-take, length-drop) at h.says.whole in omega arith
