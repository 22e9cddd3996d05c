-- The classes of the examples are computed, and compared with those worked out by hand.
use Rattle.std.proofs.Common.{refl}
use lib.Utf8.{encode}
use Rattle.std.specs.Str.{chars}
use Rattle.comments.specs.Classing.{trimmed, rest_class, class_of}
use Rattle.comments.proofs.annotation.classing_examples.Goals as goal

pub returns : goal.returns
unfolding encode chars trimmed rest_class class_of
returns c = record { count = refl; classed = refl }
