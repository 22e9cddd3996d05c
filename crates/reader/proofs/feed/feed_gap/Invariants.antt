-- The pieces so far are fed, and the rest makes the whole gap.
use Rattle.std.proofs.Common.{◌≡◌, ◌-◌, length}
use Rattle.source.specs.View.{text_of, place_of}
use Rattle.reader.specs.Feeding.{fed_state}
use Rattle.reader.specs.View.{SameLenders}
use Rattle.reader.proofs.Feeds.{Feeding}
use Rattle.reader.proofs.feed.feed_gap.Given as goal

abbrev pub invariant-loop-piece : goal.invariant-loop-piece
invariant-loop-piece l = (l.ahead.text ≡ l.source.text) × (l.tables.tokens ≡ l.initial.tables.tokens) × SameLenders l.initial.tables l.tables
    × Feeding (text_of l.source) (place_of l.source) (fed_state l.initial.builder l.initial.tables) (place_of l.ahead) (fed_state l.builder l.tables)

abbrev pub decreases-loop-piece : goal.decreases-loop-piece
decreases-loop-piece l = length (text_of l.source) - place_of l.ahead
