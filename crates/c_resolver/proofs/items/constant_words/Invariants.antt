use Rattle.std.proofs.Common.{◌≡◌, ◌++◌, map, drop}
use Rattle.c_resolver.specs.Resolving.{constant_word}
use Rattle.c_resolver.proofs.items.constant_words.Given as goal

abbrev pub invariant-loop-value : goal.invariant-loop-value
invariant-loop-value l = map constant_word l.values ≡ l.words ++ map constant_word (drop l.value-index l.values)
