-- Opening by the syntax of RFC 3629.
use Rattle.std.proofs.Common.{ℕ, List}
use Rattle.source.proofs.Octets.{utf8_from_octets, octets_from_utf8}
use Rattle.reader.specs.declared.Reader.{Reader}
use Rattle.reader.specs.View.{Opened, OpenedOctets}

pub opened_octets : (bytes : List ℕ) (limit : ℕ) (r : Reader) → Opened bytes limit r → OpenedOctets bytes limit r
opened_octets bytes limit r h = record { wrong = λ le none. h.wrong le (λ u. none (octets_from_utf8 bytes u)); fine = λ le u. h.fine le (utf8_from_octets u) }
