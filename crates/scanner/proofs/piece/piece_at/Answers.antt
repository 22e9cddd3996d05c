use Rattle.std.proofs.Common.{◌≡◌, ℕ, Bool, true, false, cond, eqb, leb, List, length, drop, Some, None, Ok, IsUtf8, sym, ap, ◌∙◌, rules}
use Rattle.std.specs.Str.{IsCharBoundary}
use Rattle.std.proofs.lemmas.Bool.{cond-false, ne_eqb}
use Rattle.source.specs.Unicode.{first_char}
use Rattle.source.specs.View.{text_of, place_of}
use Rattle.scanner.specs.Ecma.{Standing, Stands, nothing}
use Rattle.scanner.specs.Pieces.{piece_at, piece_from, white_from, Lands}
use Rattle.scanner.specs.View.{standing_of}
use Rattle.scanner.proofs.PieceLaws.{standing_is, standing_only}
use Rattle.scanner.proofs.GapLaws.{stands_lands}
use Rattle.scanner.proofs.piece.piece_at.Goals as goal

-- the character at a place decides what stands there
told : {Y : Type 0} (B : Bool) (c d : ℕ) (n : Y) (f : ℕ → Y) (x : Y) → Some c ≡ cond B None (Some d) → x ≡ f c → x ≡ cond B n (f d)
told true c d n f x e h = cc
told false c d n f x e h = let same : c ≡ d = cc in h ∙ ap f same

-- what is promised of an answer that was computed
record Promised (text : List ℕ) (at : ℕ) (s : Standing) : Type 0 where
  value : s ≡ piece_at text at
  stands : Stands text at s
  only : (o : Standing) → Stands text at o → o ≡ s
  lands : Lands text at s

promised : (text : List ℕ) (at : ℕ) → IsUtf8 text → IsCharBoundary text at → (s : Standing) → s ≡ piece_at text at → Promised text at s
promised text at u cut s is =
    let stands : Stands text at s = standing_is text at u cut s is in
    record { value = is; stands = stands; only = standing_only text at u cut s is; lands = stands_lands text u at s cut stands }

pub returns-in-None : goal.returns-in-None
returns-in-None c =
    let p = promised (text_of c.args.source.now) (place_of c.args.source.now) c.peek_char.ensures.utf8 c.args.source.now.cut nothing (search rules) in
    record { value = p.value; stands = p.stands; only = p.only; lands = p.lands }

pub returns-in-Some-eq47 : goal.returns-in-Some-eq47
returns-in-Some-eq47 c =
    let p = promised (text_of c.args.source.now) (place_of c.args.source.now) c.peek_char.ensures.utf8 c.args.source.now.cut (standing_of c.comment_from.result) (search rules) in
    record { value = p.value; stands = p.stands; only = p.only; lands = p.lands }

pub returns-in-Some : goal.returns-in-Some
returns-in-Some c =
    let text : List ℕ = text_of c.args.source.now in
    let at : ℕ = place_of c.args.source.now in
    let s : Standing = standing_of (Ok c.white_from.result) in
    let from : s ≡ piece_from text at c.in-Some.c = c.white_from.ensures ∙ sym (cond-false (eqb c.in-Some.c 47) _ (white_from text at c.in-Some.c) (ne_eqb c.in-Some.c 47 c.in-Some.c-test.1)) in
    let p = promised text at c.peek_char.ensures.utf8 c.args.source.now.cut s (told (leb (length text) at) c.in-Some.c (first_char (drop at text)) nothing (piece_from text at) s c.in-Some.ensures.value from) in
    record { value = p.value; stands = p.stands; only = p.only; lands = p.lands }
