use Rattle.std.proofs.Common.{◌≡◌, Result, ap, ◌∙◌, subst, rules}
use Rattle.kinds.specs.Equality.{equal_value}
use Rattle.kinds.specs.declared.kind.Kind.TheVariants.{Eof}
use Rattle.table.specs.declared.Appended.{Appended}
use Rattle.table.specs.declared.Full.{Full}
use Rattle.table.specs.declared.Table.{Table}
use Rattle.table.specs.Order.{rows_with, count_with}
use Rattle.table.specs.View.{rows_of, count_of}
use Rattle.reader.specs.declared.token_row.TokenRow.{TokenRow}
use Rattle.reader.specs.Feeding.{fed_state}
use Rattle.reader.specs.View.{row_of, token_outcome}
use Rattle.reader.proofs.Reader.take_in.Goals as goal

pub returns-clause-taken : goal.returns-clause-taken
returns-clause-taken c =
    let new : Table TokenRow = c.append.new.self in
    let Rows : Table TokenRow → TokenRow → Type 0 = λ t row. (rows_of new ≡ rows_with (token_outcome t row) (rows_of t) (count_of t) row) × (count_of new ≡ count_with (token_outcome t row) (count_of t)) in
    let Of : TokenRow → Type 0 = Rows c.args.tables.now.tokens in
    let appended : Rows c.feed_gap.new.tables.tokens c.new-row.result = (
      c.append.ensures.rows ∙ ap (λ (a : Result Appended Full). rows_with a (rows_of c.feed_gap.new.tables.tokens) (count_of c.feed_gap.new.tables.tokens) c.new-row.result) c.append.ensures.answer,
      c.append.ensures.count ∙ ap (λ (a : Result Appended Full). count_with a (count_of c.feed_gap.new.tables.tokens)) c.append.ensures.answer,
    ) in
    let On : Table TokenRow → Type 0 = λ t. Rows t c.new-row.result in
    let rows : Rows c.args.tables.now.tokens (row_of c.args.found c.handle_token.new.self) = subst Of c.new-row.ensures (subst On c.feed_gap.ensures.tokens appended) in
    record {
      opening = search rules;
      text = search rules;
      place = search rules;
      ended = c.eq-self.ensures ∙ equal_value c.args.found.token.kind Eof;
      fed = (fed_state c.feed_gap.new.builder c.feed_gap.new.tables, search rules, search rules);
      rows = rows.0;
      count = rows.1;
    }
