use Rattle.std.proofs.Common.{sym, ap, ◌∙◌, subst}
use Rattle.std.specs.Option.{ok_or}
use Rattle.kinds.specs.Conversions.{GivesKind}
use Rattle.kinds.proofs.Numbered.{gives_kind, looked_up}
use Rattle.kinds.proofs.kind.KindTryFromU8.try_from.Goals as goal

pub returns : goal.returns
returns c =
    let n = c.args.number in
    let found = c.copied.ensures ∙ looked_up n c.get.result c.get.ensures.lookup in
    subst (GivesKind n) (sym (c.ok_or.ensures.value ∙ ap (λ o. ok_or o (record { 0 = n })) found)) (gives_kind n)
