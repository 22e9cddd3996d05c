-- The class by tests is the class by rules, and the rules give no other.
use Rattle.std.proofs.Common.{◌≡◌, ℕ, ◌≤◌, Bool, true, false, cond, ◌&&◌, leb, ◌⊎◌, List, [], ◌∷◌, get_or, codes, IsUtf8, Decides, sym, refl, ap, ◌∙◌, subst, inl, inr, ⊎_elim}
use Rattle.std.specs.Str.{bytes_eq}
use Rattle.std.proofs.lemmas.Slice.Eq.{bytes_eq-Decides}
use Rattle.std.proofs.lemmas.Bool.Decides.{Decides-and, Decides-or, Decides-like, not_from_Decides}
use Rattle.comments.specs.declared.comment.CommentContent.{CommentContent}
use Rattle.comments.specs.declared.comment.CommentContent.TheVariants.{None, Legal, Jsdoc, JsdocLegal, PureNotApplied, NoSideEffectsNotApplied, PropertyKey, Webpack, Vite, Turbopack, CoverageIgnore, CoverageIgnoreFile}
use Rattle.comments.specs.Classing.{begins, license_ahead, licensed, empty, stars, blank, skip_blanks, trimmed, property_key, marked, key_ahead, capital_after, coverage_ignore, coverage_ignore_file, first_of, starred, rest_class, class_of}
use Rattle.comments.specs.Rules.{Blank, TrimmedOf, Starred, KeyAhead, JustKey, rules, Decided, ClassedBy}
use Rattle.comments.proofs.Conditions.{decides_leb, decides_empty, decides_begins, decides_licensed, decides_stars, decides_blank, decides_first, decides_capital_after, decides_directive, decides_marked, past_is, past_only}
use Rattle.comments.proofs.Trims.{trimmed_is, trimmed_only}

-- each test decides the condition of its rule, and has its class
data Agree : List (Bool × CommentContent) → List (Type 0 × CommentContent) → Type 1 where
  done : Agree [] []
  ◌then◌ : {t : Bool} {P : Type 0} {class : CommentContent} {tests : List (Bool × CommentContent)} {rules : List (Type 0 × CommentContent)} → Decides t P → Agree tests rules → Agree ((t, class) ∷ tests) ((P, class) ∷ rules)

infixr 5 ◌then◌
decided_here : (t : Bool) (P : Type 0) (class later : CommentContent) (R : CommentContent → Type 0) → Decides t P → R later → (P × (cond t class later ≡ class)) ⊎ ((P → ⊥) × R (cond t class later))
decided_here true P class later R h r = inl (h.0 refl, refl)
decided_here false P class later R h r = inr (not_from_Decides false h refl, r)

-- the first test that passes gives the class of the first rule that fits
decided_first : {tests : List (Bool × CommentContent)} {rules : List (Type 0 × CommentContent)} (other : CommentContent) → Agree tests rules → Decided rules other (first_of tests other)
decided_first other done = refl
decided_first other (◌then◌ {t} {P} {class} {tests} {rules} h more) =
    decided_here t P class (first_of tests other) (Decided rules other) h (decided_first other more)

only_here : (t : Bool) (P : Type 0) (class later found : CommentContent) (R : Type 0) → Decides t P → (R → found ≡ later) → (P × (found ≡ class)) ⊎ ((P → ⊥) × R) → found ≡ cond t class later
only_here true P class later found R h r (inl f) = f.1
only_here true P class later found R h r (inr n) = absurd (n.0 (h.0 refl))
only_here false P class later found R h r (inl f) = absurd (not_from_Decides false h refl f.0)
only_here false P class later found R h r (inr n) = r n.1

-- and only that
decided_only : {tests : List (Bool × CommentContent)} {rules : List (Type 0 × CommentContent)} (other found : CommentContent) → Agree tests rules → Decided rules other found → found ≡ first_of tests other
decided_only other found done d = d
decided_only other found (◌then◌ {t} {P} {class} {tests} {rules} h more) d =
    only_here t P class (first_of tests other) found (Decided rules other found) h (decided_only other found more) d

decides_same : (b : Bool) → Decides b (b ≡ true)
decides_same b = (λ h. h, λ h. h)

decides_starred : (block : Bool) (content : List ℕ) → Decides (starred block content) (Starred block content)
decides_starred block content = Decides-and block (begins (codes "*") content) (decides_same block) (decides_begins (codes "*") content)

-- nested sums are one sum
decides_key_ahead : (rest : List ℕ) → Decides (key_ahead rest) (KeyAhead rest)
decides_key_ahead rest =
    Decides-like (key_ahead rest)
    (⊎_elim (⊎_elim inl (λ h. inr (inl h))) (λ h. inr (inr h)))
    (⊎_elim (λ h. inl (inl h)) (⊎_elim (λ h. inl (inr h)) inr))
    (Decides-or (marked (codes "__KEY__") rest) (leb 128 (get_or rest 0 0)) (decides_marked (codes "__KEY__") rest) (decides_first (leb 128) (λ b. 128 ≤ b) (decides_leb 128) refl rest))

decides_trimmed : (content word : List ℕ) → IsUtf8 content → Decides (bytes_eq (trimmed content) word) (TrimmedOf content word)
decides_trimmed content word u =
    Decides-like (bytes_eq (trimmed content) word)
    (λ e. subst (TrimmedOf content) e (trimmed_is content u))
    (λ h. sym (trimmed_only content word u h))
    (bytes_eq-Decides (trimmed content) word)

decides_just_key : (content : List ℕ) → IsUtf8 content → Decides (property_key content) (JustKey content)
decides_just_key content u =
    Decides-or (bytes_eq (trimmed content) (codes "@__KEY__")) (bytes_eq (trimmed content) (codes "#__KEY__"))
    (decides_trimmed content (codes "@__KEY__") u) (decides_trimmed content (codes "#__KEY__") u)

-- the tests of all rules in one list
abbrev tests : Bool → List ℕ → List ℕ → List (Bool × CommentContent)
tests block content rest =
    (empty content, None)
    ∷ (begins (codes "!") content, Legal)
    ∷ (starred block content && stars content, None)
    ∷ (starred block content && licensed content, JsdocLegal)
    ∷ (starred block content, Jsdoc)
    ∷ (empty rest, None)
    ∷ (key_ahead rest && property_key content, PropertyKey)
    ∷ (bytes_eq rest (codes "@"), None)
    ∷ (begins (codes "@vite") rest, Vite)
    ∷ (license_ahead rest, Legal)
    ∷ (capital_after (codes "webpack") rest, Webpack)
    ∷ (capital_after (codes "turbopack") rest, Turbopack)
    ∷ (coverage_ignore_file rest, CoverageIgnoreFile)
    ∷ (coverage_ignore rest, CoverageIgnore)
    ∷ (marked (codes "__PURE__") rest, PureNotApplied)
    ∷ (marked (codes "__NO_SIDE_EFFECTS__") rest, NoSideEffectsNotApplied)
    ∷ (licensed content, Legal)
    ∷ []

star_cases : (s a l : Bool) (other : CommentContent) → cond (s && a) None (cond (s && l) JsdocLegal (cond s Jsdoc other)) ≡ cond s (cond a None (cond l JsdocLegal Jsdoc)) other
star_cases true a l other = refl
star_cases false a l other = refl

tests_class : (block : Bool) (content : List ℕ) → first_of (tests block content (skip_blanks content)) None ≡ class_of block content
unfolding rest_class class_of
tests_class block content =
    ap (λ (c : CommentContent). cond (empty content) None (cond (begins (codes "!") content) Legal c))
    (star_cases (starred block content) (stars content) (licensed content) (rest_class content (skip_blanks content)))

agree : (block : Bool) (content rest : List ℕ) → IsUtf8 content → Agree (tests block content rest) (rules block content rest)
agree block content rest u =
    decides_empty content
    then decides_begins (codes "!") content
    then Decides-and (starred block content) (stars content) (decides_starred block content) (decides_stars content)
    then Decides-and (starred block content) (licensed content) (decides_starred block content) (decides_licensed content)
    then decides_starred block content
    then decides_empty rest
    then Decides-and (key_ahead rest) (property_key content) (decides_key_ahead rest) (decides_just_key content u)
    then bytes_eq-Decides rest (codes "@")
    then decides_begins (codes "@vite") rest
    then Decides-or _ _ (decides_begins (codes "@license") rest) (decides_begins (codes "@preserve") rest)
    then decides_capital_after (codes "webpack") rest
    then decides_capital_after (codes "turbopack") rest
    then Decides-or _ _ (decides_directive (codes "v8 ignore file") rest) (decides_directive (codes "istanbul ignore file") rest)
    then Decides-or _ _ (decides_begins (codes "v8 ignore") rest) (Decides-or _ _ (decides_begins (codes "c8 ignore") rest) (Decides-or _ _ (decides_begins (codes "node:coverage") rest) (decides_begins (codes "istanbul ignore") rest)))
    then decides_marked (codes "__PURE__") rest
    then decides_marked (codes "__NO_SIDE_EFFECTS__") rest
    then decides_licensed content
    then done

-- the class by tests is the class by rules,
pub classed_by : (block : Bool) (content : List ℕ) (class : CommentContent) → IsUtf8 content → class ≡ class_of block content → ClassedBy block content class
unfolding ClassedBy
classed_by block content class u e =
    let rest = skip_blanks content in
    let first = decided_first None (agree block content rest u) in
    (rest, past_is blank Blank decides_blank content, subst (Decided (rules block content rest) None) (tests_class block content ∙ sym e) first)

-- and the rules give no other
pub classed_only : (block : Bool) (content : List ℕ) (class other : CommentContent) → IsUtf8 content → class ≡ class_of block content → ClassedBy block content other → other ≡ class
unfolding ClassedBy
classed_only block content class other u e h =
    let rest = skip_blanks content in
    let same = past_only blank Blank decides_blank content h.0 h.1 in
    let fits = subst (λ (r : List ℕ). Decided (rules block content r) None other) same h.2 in
    decided_only None other (agree block content rest u) fits ∙ tests_class block content ∙ sym e
