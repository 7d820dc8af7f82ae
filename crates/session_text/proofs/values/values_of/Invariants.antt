use Rattle.std.proofs.Common.{◌≡◌, ◌++◌, length, map}
use Rattle.std.specs.List.{list_any}
use Rattle.session_text.specs.Words.{word_value}
use Rattle.session_text.specs.Cuts.{words, is_nothing}
use Rattle.session_text.proofs.values.values_of.Given as goal

abbrev pub invariant-words : goal.invariant-words
invariant-words l = (l.values ++ map word_value (words l.rest) ≡ map word_value (words l.text))
    × (list_any is_nothing (words l.rest) ≡ list_any is_nothing (words l.text))

abbrev pub decreases-words : goal.decreases-words
decreases-words l = length l.rest
