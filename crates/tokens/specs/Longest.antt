-- Where a number of the grammar stands, JSON's telling tells one that is at least as long, and if it is as long, of its kind.
use Rattle.std.specs.Prelude.{◌≡◌, ℕ, ◌+◌, ◌-◌, ◌<◌, ◌≤◌, Bool, true, false, cond, ◌&&◌, ◌⊎◌, List, [], ◌∷◌, ◌++◌, length, drop, IfSome, Some, None, Option, ◌==◌, nat_eq, slice_index, slice_index_or, refl}
use Rattle.std.proofs.Common.{inl, inr, sym, ap, subst, ◌∙◌, arith}
use Rattle.std.specs.List.{prefix_len}
use Rattle.std.proofs.lemmas.List.{append_assoc, append-nil, length-append}
use Rattle.std.proofs.lemmas.Bool.{eq-eqb, ne_eqb, and_from, or_left, or_right}
use Rattle.std.proofs.lemmas.Bool.Decides.{nat_tests}
use Rattle.kinds.specs.declared.kind.Kind.{Kind}
use Rattle.kinds.specs.declared.kind.Kind.TheVariants.{Decimal, Float, PositiveExponential, NegativeExponential}
use Rattle.tokens.specs.declared.token_reader.Told.{Told}
use Rattle.tokens.specs.Json.{run_end, int_start, int_end, frac_end, after_sign, exp_at, told_number, number_at}
use Rattle.tokens.specs.Grammar.{digit, minus, plus, zero_digit, decimal_point, digit1_9, exp_mark, Digits, Int, Frac, Exp, Number, NumberOf, decimal, float, negative, positive}
use Rattle.tokens.specs.Rules.{byte_at, between, one, many, ◌or◌, ◌then◌, optional}
use Rattle.tokens.specs.Numbers.{SignOf, ExpOf, IsExp, frac_on, exp_is}
use Rattle.tokens.specs.Parts.{between_length, first, front, over}
use Rattle.tokens.specs.Runs.{leading_stops, run_over}

-- a rule that begins with a byte of a class
abbrev Led : (ℕ → Bool) → (List ℕ → Type 0) → List ℕ → Type 0
Led p Q bs = (b : ℕ) × (ys : List ℕ) × (bs ≡ b ∷ ys) × (p b ≡ true) × Q ys

led : (p : ℕ → Bool) (Q : List ℕ → Type 0) (bs xs ys : List ℕ) → bs ≡ xs ++ ys → one p xs → Q ys → Led p Q bs
led p Q bs xs ys e o q = (o.0, ys, e ∙ ap (λ z. z ++ ys) o.1, o.2, q)

digits_led : (bs : List ℕ) → Digits bs → Led digit (many digit) bs
digits_led bs h = led digit (many digit) bs h.0 h.1 h.2 h.3 h.4

digits_run : (text : List ℕ) (from : ℕ) (ds t : List ℕ) → drop from text ≡ ds ++ t → Digits ds
    → (digit (byte_at text from) ≡ true) × (from + length ds ≤ run_end digit text from) × (prefix_len digit t ≡ 0 → run_end digit text from ≡ from + length ds)
digits_run text from ds t h g =
    let l = digits_led ds g in
    let stands = h ∙ ap (λ z. z ++ t) l.2 in
    let e = run_over digit text from (l.0 ∷ l.1) t stands (l.3, l.4) in
    let long = ap length l.2 in
    (ap digit (first text from (l.0 ∷ (l.1 ++ t)) stands) ∙ l.3, omega (arith, e, long), λ z. omega (arith, e, long, z))

-- int
record IntOver (text : List ℕ) (s : ℕ) (i t : List ℕ) : Type 0 where
  some : 0 < length i
  first : digit (byte_at text s) ≡ true
  least : s + length i ≤ int_end text s
  exact : prefix_len digit t ≡ 0 → int_end text s ≡ s + length i

int_zero : (text : List ℕ) (s : ℕ) (i t : List ℕ) → drop s text ≡ i ++ t → one zero_digit i → IntOver text s i t
int_zero text s i t h o =
    let is = first text s (o.0 ∷ t) (h ∙ ap (λ z. z ++ t) o.1) in
    let zero = ap zero_digit is ∙ o.2 in
    let e : int_end text s ≡ s + 1 = ap (λ v. cond v (s + 1) (cond (digit1_9 (byte_at text s)) (run_end digit text (s + 1)) s)) zero in
    let long = ap length o.1 in
    record { some = omega (arith, long); first = grind (arith, nat_tests); least = omega (arith, e, long); exact = λ _. omega (arith, e, long) }

int_digits : (text : List ℕ) (s : ℕ) (i t : List ℕ) → drop s text ≡ i ++ t → Led digit1_9 (many digit) i → IntOver text s i t
int_digits text s i t h l =
    let stands = h ∙ ap (λ z. z ++ t) l.2 in
    let is = ap digit1_9 (first text s (l.0 ∷ (l.1 ++ t)) stands) ∙ l.3 in
    let apart : zero_digit (byte_at text s) ≡ false = grind (arith, nat_tests) in
    let run = run_over digit text (s + 1) l.1 t (over text s (l.0 ∷ []) (l.1 ++ t) stands) l.4 in
    let e : int_end text s ≡ run_end digit text (s + 1) = ap (λ v. cond v (s + 1) (cond (digit1_9 (byte_at text s)) (run_end digit text (s + 1)) s)) apart
    ∙ ap (λ v. cond v (run_end digit text (s + 1)) s) is in
    let long = ap length l.2 in
    record { some = omega (arith, long); first = grind (arith, nat_tests); least = omega (arith, e, run, long); exact = λ z. omega (arith, e, run, long, z) }

int_over : (text : List ℕ) (s : ℕ) (i t : List ℕ) → drop s text ≡ i ++ t → Int i → IntOver text s i t
int_over text s i t h (inl o) = int_zero text s i t h o
int_over text s i t h (inr o) = int_digits text s i t h (led digit1_9 (many digit) i o.0 o.1 o.2 o.3 o.4)

-- frac
record FracOver (text : List ℕ) (p : ℕ) (f t : List ℕ) : Type 0 where
  least : p + length f ≤ frac_end text p
  exact : prefix_len digit t ≡ 0 → decimal_point (slice_index t 0) ≡ false → frac_end text p ≡ p + length f

frac_led : (f : List ℕ) → Frac f → Led decimal_point Digits f
frac_led f h = led decimal_point Digits f h.0 h.1 h.2 h.3 h.4

frac_over : (text : List ℕ) (p : ℕ) (f t : List ℕ) → drop p text ≡ f ++ t → optional Frac f → FracOver text p f t
frac_over text p f t h (inl none) =
    let long = ap length none in
    let on = frac_on text p in
    let at : byte_at text p ≡ slice_index_or t 0 0 = first text p t (h ∙ ap (λ z. z ++ t) none) in
    record {
      least = omega (arith, long, on);
      exact = λ _ d. let e : frac_end text p ≡ p = ap (λ v. cond (v && digit (byte_at text (p + 1))) (run_end digit text (p + 1)) p) (ap decimal_point at ∙ d) in omega (arith, e, long);
    }
frac_over text p f t h (inr o) =
    let l = frac_led f o in
    let stands = h ∙ ap (λ z. z ++ t) l.2 in
    let point = ap decimal_point (first text p (l.0 ∷ (l.1 ++ t)) stands) ∙ l.3 in
    let run = digits_run text (p + 1) l.1 t (over text p (l.0 ∷ []) (l.1 ++ t) stands) l.4 in
    let e : frac_end text p ≡ run_end digit text (p + 1) = ap (λ v. cond v (run_end digit text (p + 1)) p) (and_from _ _ point run.0) in
    let long = ap length l.2 in
    record { least = omega (arith, e, long, run.1); exact = λ z _. omega (arith, e, long, run.2 z) }

-- exp
exp_led : (v : Bool) (x : List ℕ) → ExpOf v x → Led exp_mark (SignOf v then Digits) x
exp_led v x h = led exp_mark (SignOf v then Digits) x h.0 h.1 h.2 h.3 h.4

sign_over : (v : Bool) (text : List ℕ) (p : ℕ) (s ds t : List ℕ) → drop p text ≡ s ++ (ds ++ t) → SignOf v s → Digits ds → (after_sign text p ≡ p + length s) × (minus (byte_at text p) ≡ v)
sign_over true text p s ds t h m g =
    let is = ap minus (first text p (m.0 ∷ (ds ++ t)) (h ∙ ap (λ z. z ++ (ds ++ t)) m.1)) ∙ m.2 in
    (ap (λ v. cond v (p + 1) p) (or_left (minus (byte_at text p)) (plus (byte_at text p)) is) ∙ ap (λ n. p + n) (sym (ap length m.1)), is)
sign_over false text p s ds t h (inl none) g =
    let d = (digits_run text p ds t (h ∙ ap (λ z. z ++ (ds ++ t)) none) g).0 in
    let long = ap length none in
    (grind (arith, nat_tests), grind (arith, nat_tests))
sign_over false text p s ds t h (inr m) g =
    let is = ap plus (first text p (m.0 ∷ (ds ++ t)) (h ∙ ap (λ z. z ++ (ds ++ t)) m.1)) ∙ m.2 in
    (ap (λ v. cond v (p + 1) p) (or_right (minus (byte_at text p)) (plus (byte_at text p)) is) ∙ ap (λ n. p + n) (sym (ap length m.1)), grind (arith, nat_tests))

exp_over : (v : Bool) (text : List ℕ) (p : ℕ) (x t : List ℕ) → drop p text ≡ x ++ t → ExpOf v x
    → (y : Told) × (exp_at text p ≡ Some y) × (p + length x ≤ y.end) × (y.kind ≡ cond v NegativeExponential PositiveExponential)
exp_over v text p x t h o =
    let l = exp_led v x o in
    let q = l.4 in
    let stands = h ∙ ap (λ z. z ++ t) l.2 in
    let mark = ap exp_mark (first text p (l.0 ∷ (l.1 ++ t)) stands) ∙ l.3 in
    let rest : drop (p + 1) text ≡ q.0 ++ (q.1 ++ t) = over text p (l.0 ∷ []) (l.1 ++ t) stands ∙ ap (λ z. z ++ t) q.2 ∙ append_assoc q.0 q.1 t in
    let sign = sign_over v text (p + 1) q.0 q.1 t rest q.3 q.4 in
    let at : drop (after_sign text (p + 1)) text ≡ q.1 ++ t = ap (λ n. drop n text) sign.0 ∙ over text (p + 1) q.0 (q.1 ++ t) rest in
    let run = digits_run text (after_sign text (p + 1)) q.1 t at q.4 in
    let long = ap length (l.2 ∙ ap (λ z. l.0 ∷ z) q.2) in
    let y : Told = record { kind = cond (minus (byte_at text (p + 1))) NegativeExponential PositiveExponential; end = run_end digit text (after_sign text (p + 1)) } in
    (y, ap (λ w. cond w (Some y) None) (and_from _ _ mark run.0), omega (arith, long, length-append q.0 q.1, sign.0, run.1), ap (λ w. cond w NegativeExponential PositiveExponential) sign.1)

-- what goes on after an int
exp_stops : (v : Bool) (x t : List ℕ) → ExpOf v x → (prefix_len digit (x ++ t) ≡ 0) × (decimal_point (slice_index (x ++ t) 0) ≡ false)
exp_stops v x t o =
    let l = exp_led v x o in
    let mark = l.3 in
    let d : digit l.0 ≡ false = grind (arith, nat_tests) in
    let p : decimal_point l.0 ≡ false = grind (arith, nat_tests) in
    (ap (λ z. prefix_len digit (z ++ t)) l.2 ∙ leading_stops digit l.0 (l.1 ++ t) d, ap (λ z. decimal_point (slice_index (z ++ t) 0)) l.2 ∙ p)

frac_stops : (f t : List ℕ) → Frac f → prefix_len digit (f ++ t) ≡ 0
frac_stops f t o =
    let l = frac_led f o in
    let point = l.3 in
    let d : digit l.0 ≡ false = grind (arith, nat_tests) in
    ap (λ z. prefix_len digit (z ++ t)) l.2 ∙ leading_stops digit l.0 (l.1 ++ t) d

goes_on : (v : Bool) (f x t : List ℕ) → optional Frac f → ExpOf v x → prefix_len digit (f ++ (x ++ t)) ≡ 0
goes_on v f x t (inl none) o = ap (λ z. prefix_len digit (z ++ (x ++ t))) none ∙ (exp_stops v x t o).0
goes_on v f x t (inr q) o = frac_stops f (x ++ t) q

-- the kind of a number with this frac and this exp
data Shape : Kind → List ℕ → List ℕ → Type 0 where
  bare : {f x : List ℕ} → f ≡ [] → x ≡ [] → Shape Decimal f x
  fraction : {f x : List ℕ} → Frac f → x ≡ [] → Shape Float f x
  exponent : {f x : List ℕ} (v : Bool) → optional Frac f → ExpOf v x → Shape (cond v NegativeExponential PositiveExponential) f x

-- what is told ends at the place or after it, and if at the place, it is of the kind
abbrev Over : ℕ → Kind → Told → Type 0
Over end kind t = (end ≤ t.end) × (t.end ≡ end → t.kind ≡ kind)

no_exp : (int frac end : ℕ) (kind : Kind) (o : Option Told) → IfSome o (λ y. frac < y.end) → end ≤ frac → (frac ≡ end → cond (frac == int) Decimal Float ≡ kind)
    → Over end kind (told_number int frac o)
no_exp int frac end kind None more low is = (low, is)
no_exp int frac end kind (Some y) more low is = (omega arith, λ e. absurd (omega arith))

more : (text : List ℕ) (frac : ℕ) (o : Option Told) → IfSome o (IsExp text frac) → IfSome o (λ y. frac < y.end)
more text frac None h = tt
more text frac (Some y) h = h.3

told_over : {kind : Kind} (text : List ℕ) (s : ℕ) (i f x t : List ℕ) → drop s text ≡ i ++ (f ++ (x ++ t)) → IntOver text s i (f ++ (x ++ t)) → Shape kind f x
    → Over (s + (length i + (length f + length x))) kind (told_number (int_end text s) (frac_end text (int_end text s)) (exp_at text (frac_end text (int_end text s))))
told_over text s i f x t h io (bare f0 x0) =
    let int = int_end text s in
    let frac = frac_end text int in
    let a = io.least in
    let b = frac_on text int in
    let c = ap length f0 in
    let d = ap length x0 in
    no_exp int frac (s + (length i + (length f + length x))) Decimal (exp_at text frac) (more text frac (exp_at text frac) (exp_is text frac)) (omega arith)
    (λ e. ap (λ v. cond v Decimal Float) (eq-eqb frac int (omega arith)))
told_over text s i f x t h io (fraction o x0) =
    let int = int_end text s in
    let frac = frac_end text int in
    let a = io.exact (frac_stops f (x ++ t) o) in
    let at : drop int text ≡ f ++ (x ++ t) = ap (λ n. drop n text) a ∙ over text s i (f ++ (x ++ t)) h in
    let b = (frac_over text int f (x ++ t) at (inr o)).least in
    let c = ap length (frac_led f o).2 in
    let d = ap length x0 in
    no_exp int frac (s + (length i + (length f + length x))) Float (exp_at text frac) (more text frac (exp_at text frac) (exp_is text frac)) (omega arith)
    (λ _. ap (λ v. cond v Decimal Float) (ne_eqb frac int (λ z. omega arith)))
told_over text s i f x t h io (exponent v q o) =
    let int = int_end text s in
    let frac = frac_end text int in
    let a = io.exact (goes_on v f x t q o) in
    let at : drop int text ≡ f ++ (x ++ t) = ap (λ n. drop n text) a ∙ over text s i (f ++ (x ++ t)) h in
    let stops = exp_stops v x t o in
    let b = (frac_over text int f (x ++ t) at q).exact stops.0 stops.1 in
    let on : drop frac text ≡ x ++ t = ap (λ n. drop n text) b ∙ over text int f (x ++ t) at in
    let y = exp_over v text frac x t on o in
    subst (λ z. Over (s + (length i + (length f + length x))) (cond v NegativeExponential PositiveExponential) (told_number int frac z)) (sym y.1)
    (omega (arith, a, b, y.2), λ _. y.3)

start_over : (text : List ℕ) (p : ℕ) (m i t : List ℕ) → drop p text ≡ m ++ (i ++ t) → optional (one minus) m → Int i → int_start text p ≡ p + length m
start_over text p m i t h (inl none) g =
    let d = (int_over text p i t (h ∙ ap (λ z. z ++ (i ++ t)) none) g).first in
    let long = ap length none in
    grind (arith, nat_tests)
start_over text p m i t h (inr o) g =
    let is = ap minus (first text p (o.0 ∷ (i ++ t)) (h ∙ ap (λ z. z ++ (i ++ t)) o.1)) ∙ o.2 in
    ap (λ v. cond v (p + 1) p) is ∙ ap (λ n. p + n) (sym (ap length o.1))

-- a number may begin with this byte
abbrev pub Begins : ℕ → Type 0
Begins b = (minus b ≡ true) ⊎ (digit b ≡ true)

begins : (text : List ℕ) (p : ℕ) (m i t : List ℕ) → drop p text ≡ m ++ (i ++ t) → optional (one minus) m → Int i → Begins (byte_at text p)
begins text p m i t h (inl none) g = inr (int_over text p i t (h ∙ ap (λ z. z ++ (i ++ t)) none) g).first
begins text p m i t h (inr o) g = inl (ap minus (first text p (o.0 ∷ (i ++ t)) (h ∙ ap (λ z. z ++ (i ++ t)) o.1)) ∙ o.2)

-- a number of a kind by its parts
record Made (kind : Kind) (bs : List ℕ) : Type 0 where
  m : List ℕ
  i : List ℕ
  f : List ℕ
  x : List ℕ
  is : bs ≡ m ++ (i ++ (f ++ x))
  sign : optional (one minus) m
  int : Int i
  shape : Shape kind f x

made : {kind : Kind} {bs : List ℕ} → NumberOf kind bs → Made kind bs
made (decimal h) = record { m = h.0; i = h.1; f = []; x = []; is = h.2 ∙ ap (λ z. h.0 ++ z) (sym (append-nil h.1)); sign = h.3; int = h.4; shape = bare refl refl }
made (float h) =
    let q = h.4 in
    record {
      m = h.0;
      i = q.0;
      f = q.1;
      x = [];
      is = h.2 ∙ ap (λ z. h.0 ++ z) (q.2 ∙ ap (λ z. q.0 ++ z) (sym (append-nil q.1)));
      sign = h.3;
      int = q.3;
      shape = fraction q.4 refl;
    }
made (negative h) =
    let q = h.4 in
    let r = q.4 in
    record { m = h.0; i = q.0; f = r.0; x = r.1; is = h.2 ∙ ap (λ z. h.0 ++ z) (q.2 ∙ ap (λ z. q.0 ++ z) r.2); sign = h.3; int = q.3; shape = exponent true r.3 r.4 }
made (positive h) =
    let q = h.4 in
    let r = q.4 in
    record { m = h.0; i = q.0; f = r.0; x = r.1; is = h.2 ∙ ap (λ z. h.0 ++ z) (q.2 ∙ ap (λ z. q.0 ++ z) r.2); sign = h.3; int = q.3; shape = exponent false r.3 r.4 }

-- any number is of some kind
shaped : (f x : List ℕ) → optional Frac f → optional Exp x → (kind : Kind) × Shape kind f x
shaped f x (inl f0) (inl x0) = (Decimal, bare f0 x0)
shaped f x (inr o) (inl x0) = (Float, fraction o x0)
shaped f x q (inr (xs, ys, e, mark, (ss, ds, d, inl s, digits))) = (PositiveExponential, exponent false q (xs, ys, e, mark, (ss, ds, d, inl s, digits)))
shaped f x q (inr (xs, ys, e, mark, (ss, ds, d, inr (inl s), digits))) = (NegativeExponential, exponent true q (xs, ys, e, mark, (ss, ds, d, s, digits)))
shaped f x q (inr (xs, ys, e, mark, (ss, ds, d, inr (inr s), digits))) = (PositiveExponential, exponent false q (xs, ys, e, mark, (ss, ds, d, inr s, digits)))

number_made : (bs : List ℕ) → Number bs → (kind : Kind) × Made kind bs
number_made bs h =
    let q = h.4 in
    let r = q.4 in
    let k = shaped r.0 r.1 r.3 r.4 in
    (k.0, record { m = h.0; i = q.0; f = r.0; x = r.1; is = h.2 ∙ ap (λ z. h.0 ++ z) (q.2 ∙ ap (λ z. q.0 ++ z) r.2); sign = h.3; int = q.3; shape = k.1 })

-- and a number of some kind is a number
frac_of : {kind : Kind} {f x : List ℕ} → Shape kind f x → optional Frac f
frac_of (bare f0 x0) = inl f0
frac_of (fraction o x0) = inr o
frac_of (exponent v q o) = q

sign_of : (v : Bool) (s : List ℕ) → SignOf v s → optional (one minus or one plus) s
sign_of true s h = inr (inl h)
sign_of false s (inl none) = inl none
sign_of false s (inr h) = inr (inr h)

exp_of : {kind : Kind} {f x : List ℕ} → Shape kind f x → optional Exp x
exp_of (bare f0 x0) = inl x0
exp_of (fraction o x0) = inl x0
exp_of (exponent v q o) = inr (o.0, o.1, o.2, o.3, (o.4.0, o.4.1, o.4.2, sign_of v o.4.0 o.4.3, o.4.4))

pub is_number : {kind : Kind} {bs : List ℕ} → NumberOf kind bs → Number bs
is_number h =
    let k = made h in
    (k.m, k.i ++ (k.f ++ k.x), k.is, k.sign, (k.i, k.f ++ k.x, refl, k.int, (k.f, k.x, refl, frac_of k.shape, exp_of k.shape)))

-- what is told where a number of a kind stands
pub record NumberOver (text : List ℕ) (p end : ℕ) (kind : Kind) : Type 0 where
  pub what : Told
  pub is : number_at text p ≡ Some what
  pub far : end ≤ what.end
  pub same : what.end ≡ end → what.kind ≡ kind
  pub begins : Begins (byte_at text p)

made_over : (text : List ℕ) (p end : ℕ) (kind : Kind) → end ≤ length text → Made kind (between text p end) → NumberOver text p end kind
made_over text p end kind inside k =
    let t = drop (end - p) (drop p text) in
    let rest = k.f ++ (k.x ++ t) in
    let stands : drop p text ≡ k.m ++ (k.i ++ rest) = front text p end (k.m ++ (k.i ++ (k.f ++ k.x))) k.is ∙ append_assoc k.m (k.i ++ (k.f ++ k.x)) t
    ∙ ap (λ z. k.m ++ z) (append_assoc k.i (k.f ++ k.x) t ∙ ap (λ z. k.i ++ z) (append_assoc k.f k.x t)) in
    let s = start_over text p k.m k.i rest stands k.sign k.int in
    let start = int_start text p in
    let at : drop start text ≡ k.i ++ rest = ap (λ n. drop n text) s ∙ over text p k.m (k.i ++ rest) stands in
    let io = int_over text start k.i rest at k.int in
    let int = int_end text start in
    let frac = frac_end text int in
    let o = told_over text start k.i k.f k.x t at io k.shape in
    let some = io.some in
    let apart : nat_eq int start ≡ false = ne_eqb int start (λ z. omega (arith, z, io.least)) in
    let long : start + (length k.i + (length k.f + length k.x)) ≡ end = omega (
      arith,
      s,
      between_length text p end inside,
      ap length k.is,
      length-append k.m (k.i ++ (k.f ++ k.x)),
      length-append k.i (k.f ++ k.x),
      length-append k.f k.x,
    ) in
    record {
      what = told_number int frac (exp_at text frac);
      is = ap (λ v. cond v None (Some (told_number int frac (exp_at text frac)))) apart;
      far = omega (arith, long, o.0);
      same = λ e. o.1 (e ∙ sym long);
      begins = begins text p k.m k.i rest stands k.sign k.int;
    }

pub number_over : (text : List ℕ) (p end : ℕ) (kind : Kind) → end ≤ length text → NumberOf kind (between text p end) → NumberOver text p end kind
number_over text p end kind inside h = made_over text p end kind inside (made h)

-- where a number stands, one at least as long is told
pub number_stands : (text : List ℕ) (p end : ℕ) → end ≤ length text → Number (between text p end) → (kind : Kind) × NumberOver text p end kind
number_stands text p end inside h = let k = number_made (between text p end) h in (k.0, made_over text p end k.0 inside k.1)

pub number_told : (text : List ℕ) (p end : ℕ) → end ≤ length text → Number (between text p end) → (t : Told) × (number_at text p ≡ Some t) × (end ≤ t.end)
number_told text p end inside h = let o = (number_stands text p end inside h).1 in (o.what, o.is, o.far)
