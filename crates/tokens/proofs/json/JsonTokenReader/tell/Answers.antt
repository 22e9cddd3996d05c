use Rattle.std.proofs.Common.{◌≡◌, sym, ap, ◌∙◌, subst}
use Rattle.tokens.specs.Grammar.{Numbers, Tells}
use Rattle.tokens.specs.Json.{json_telling}
use Rattle.tokens.specs.Grammatical.{tells}
use Rattle.tokens.proofs.NumberTelling.{numbers}
use Rattle.tokens.proofs.json.JsonTokenReader.tell.Goals as goal

pub returns : goal.returns
returns c =
    let text = c.args.text.now in
    let place = c.args.place in
    let is : c.token_at.result ≡ json_telling text place = c.token_at.ensures ∙ ap (λ bs. json_telling bs place) c.as_bytes.ensures.value in
    record {
      value = is;
      numbers = subst (Numbers text place) (sym is) (numbers text place);
      grammar = subst (Tells text place) (sym is) (tells text place);
    }
