use Rattle.std.proofs.Common.{◌∙◌}
use Rattle.source.specs.Unicode.{Spelt}
use Rattle.source.proofs.First.{first_char_is, spelt_char}
use Rattle.source.proofs.unicode.char_at.Goals as goal

pub returns : goal.returns
returns c =
    let h : Spelt c.args.text.now c.args.at c.next.result = first_char_is _ _ _ _ _ _ c.requires.0 (c.chars.ensures.rest ∙ c.range_from.ensures.value) c.next.ensures.steps.0 in
    record { value = spelt_char _ c.args.text.now c.args.at c.requires.0 h; spelt = h }
