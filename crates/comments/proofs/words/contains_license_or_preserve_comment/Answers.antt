-- A word at some sign is a word anywhere.
use Rattle.std.proofs.Common.{◌&&◌, ◌∙◌, drop, refl, rules}
use Rattle.std.proofs.lemmas.Iterator.{YieldsList-from_slice}
use Rattle.std.proofs.lemmas.Iterator.Consumers.{YieldsList-from_enumerate}
use Rattle.std.proofs.lemmas.Iterator.Search.{any_from_yields_List}
use Rattle.std.proofs.lemmas.List.{take_rest}
use Rattle.comments.specs.Classing.{license_ahead}
use Rattle.comments.proofs.Searches.{at_sign, searched}
use Rattle.comments.proofs.words.contains_license_or_preserve_comment.Goals as goal

pub returns : goal.returns
returns c =
    any_from_yields_List (λ p. at_sign p.1 && license_ahead (drop p.0 c.args.bytes.now)) _ _ _ c.any.ensures.ran (YieldsList-from_enumerate (YieldsList-from_slice c.args.bytes.now cc) (cc)) (λ x b q k. let e = take_rest c.args.bytes.now x.0 in (search rules, rw (← e) (search rules)))
    ∙ searched c.args.bytes.now c.args.bytes.now 0 refl
