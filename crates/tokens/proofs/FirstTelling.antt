-- What the first record tells that tells a token at a place.
use Rattle.std.proofs.Common.{◌≡◌, ℕ, zero, suc, ◌+◌, ◌*◌, ◌/◌, ◌<◌, ◌≤◌, List, length, take, drop, Bor, IsTrue, IfSome, IsSomeAnd, MatchOption, Some, None, Option, sym, refl, ap, ◌∙◌, subst, ⊎_elim, arith}
use Rattle.std.specs.Fn.{Called, Mut}
use Rattle.std.specs.Iterator.Runs.{Run, AllItemsGive, IsFirstToGive, IsChunksExactRun}
use Rattle.std.specs.List.{IsSubsliceAt}
use Rattle.std.specs.Option.{option_map, option_or}
use Rattle.std.proofs.lemmas.Bool.{cases_lt}
use Rattle.tokens.specs.Layout.{record_of, record_bytes}
use Rattle.tokens.specs.Recorded.{RecordTells, FirstTold, told_by, first_of, recorded_telling}
use Rattle.tokens.specs.declared.token_reader.Told.{Told}
use Rattle.tokens.proofs.Records.{tells_sound, tells_complete, tells_whole}

module _ (list text : List ℕ) (place : ℕ) where
  -- what was found among the first n records
  abbrev Among : ℕ → Option Told → Type 0
  Among n None = (m : ℕ) (u : Told) → RecordTells list m text place u → n ≤ m
  Among n (Some t) = (k : ℕ) × RecordTells list k text place t × ((m : ℕ) (u : Told) → RecordTells list m text place u → k ≤ m)

  one_more : (n : ℕ) (o p : Option Told) → Among n o → IfSome p (RecordTells list n text place)
      → ((t : Told) → RecordTells list n text place t → p ≡ Some t) → Among (suc n) (option_or o p)
  one_more n (Some t) p before sound complete = before
  one_more n None (Some t) before sound complete = (n, sound, before)
  one_more n None None before sound complete = λ m u h.
      let le = before m u h in
      ⊎_elim (λ lt. omega arith)
      (λ ge.
      let is : m ≡ n = omega arith in
      let no-told = complete u (subst (λ k. RecordTells list k text place u) is h) in
      let z : ◌≡◌ {A = ℕ} 0 1 = cc in
      omega arith)
      (cases_lt n m)

  among : (n : ℕ) → Among n (first_of list text place n)
  among zero = λ m u h. omega arith
  among (suc n) =
      one_more n (first_of list text place n) (told_by text place (record_of (record_bytes list n))) (among n)
      (tells_sound list n text place) (tells_complete list n text place)

  among_all : (o : Option Told) → Among (length list / 11) o → FirstTold list text place o
  among_all None before = record { sound = tt; complete = λ n t h. absurd (omega (arith, before n t h, tells_whole list n text place t h)) }
  among_all (Some t) first = record { sound = first; complete = λ _ _ _. refl }

  pub first_told : FirstTold list text place (recorded_telling list text place)
  first_told = among_all (recorded_telling list text place) (among (length list / 11))

  -- a token found among the first records is found among more of them
  pub first_stays : (n m : ℕ) (t : Told) → n ≤ m → first_of list text place n ≡ Some t → first_of list text place m ≡ Some t
  first_stays n zero t le h = let is : n ≡ zero = omega arith in subst (λ k. first_of list text place k ≡ Some t) is h
  first_stays n (suc m) t le h =
      ⊎_elim
      (λ lt. let is : n ≡ suc m = omega arith in subst (λ k. first_of list text place k ≡ Some t) is h)
      (λ ge. ap (λ o. option_or o (told_by text place (record_of (record_bytes list m)))) (first_stays n m t ge h))
      (cases_lt m n)

  -- records that tell nothing, and then one that tells a token
  none_among : (n : ℕ) → ((k : ℕ) → k < n → told_by text place (record_of (record_bytes list k)) ≡ None) → first_of list text place n ≡ None
  none_among zero h = refl
  none_among (suc n) h =
      ap (λ o. option_or o (told_by text place (record_of (record_bytes list n)))) (none_among n (λ k lt. h k (omega arith))) ∙ h n (omega arith)

  first_at : (i n : ℕ) (t : Told) → i < n → ((k : ℕ) → k < i → told_by text place (record_of (record_bytes list k)) ≡ None)
      → told_by text place (record_of (record_bytes list i)) ≡ Some t → first_of list text place n ≡ Some t
  first_at i n t lt before here =
      first_stays (suc i) n t (omega arith) (ap (λ o. option_or o (told_by text place (record_of (record_bytes list i)))) (none_among i before) ∙ here)

  -- a run over the records of the list, that asks each what it tells
  module _ {S F : Type 0} {steps : S → Option (Bor (List ℕ)) → S → Type 0} (p : Run steps) (chunks : IsChunksExactRun p 11 list)
      (g : Mut F (Bor (List ℕ) × Unit {0}) (Option Told)) (f : F) where
    abbrev Says : Type 0
    Says = (x : Bor (List ℕ)) (o : Option Told) (f' : F) → Called g f (x, tt) o f' → (f' ≡ f) × (o ≡ told_by text place (record_of x.now))

    item : Says → (k : ℕ) (o : Option Told) (r : Option (Bor (List ℕ))) → IfSome r (λ x. (length x.now ≡ 11) × (k * 11 + 11 ≤ length list) × IsSubsliceAt 11 list (k * 11) x.now)
        → IsSomeAnd r (λ x. Called g f (x, tt) o f) → told_by text place (record_of (record_bytes list k)) ≡ o
    item says k o None is h = absurd h
    item says k o (Some x) is h =
        let at : k * 11 ≡ 11 * k = omega arith in
        ap (λ bs. told_by text place (record_of bs)) (sym (is.2.0 ∙ ap (λ n. take 11 (drop n list)) at)) ∙ sym (says x o f h).1

    gives : Says → (k : ℕ) (o : Option Told) → IsSomeAnd (p.at k) (λ x. Called g f (x, tt) o f) → told_by text place (record_of (record_bytes list k)) ≡ o
    gives says k o h = item says k o (p.at k) (chunks.2 k) h

    there : (P : Bor (List ℕ) → Type 0) (r : Option (Bor (List ℕ))) (x : Bor (List ℕ)) → option_map (λ y. y) r ≡ Some x → IfSome r P → IsSomeAnd r P
    there P None x e h = cc
    there P (Some y) x e h = h

    pub first_given : Bor (List ℕ) → (o : Option Told)
        → MatchOption o (IsTrue p.whole × AllItemsGive p g f None) (λ t. (i : ℕ) × (i < p.len) × (p.len ≡ i + 1) × IsFirstToGive p g f (Some t) None i)
        → Says → o ≡ recorded_telling list text place
    first_given any None h says =
        let all : p.len ≡ length list / 11 = chunks.1 h.0 in
        let each = h.1 (λ a o f' k. (says a.0 o f' k).0) in
        sym (none_among (length list / 11) (λ k lt. gives says k None (there (λ x. Called g f (x, tt) None f) (p.at k) _ (p.reads k any (omega (arith, all, lt))) (each k))))
    first_given any (Some t) (i, lt, len, h) says =
        let told = h (λ a o f' k. (says a.0 o f' k).0) in
        sym (first_at i (length list / 11) t (omega (arith, len, chunks.0)) (λ k lt. gives says k None (told.1 k lt)) (gives says i (Some t) told.0))
