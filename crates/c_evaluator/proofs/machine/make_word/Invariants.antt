use Rattle.std.proofs.Common.{◌≡◌, ℕ, ◌+◌, ◌-◌, length, slice_index}
use Rattle.c_evaluator.proofs.machine.make_word.Given as goal

abbrev pub invariant-loop-words : goal.invariant-loop-words
invariant-loop-words l = (i : ℕ) → slice_index l.words i ≡ slice_index l.fn.words i

abbrev pub decreases-loop-words : goal.decreases-loop-words
decreases-loop-words l = l.index + 1 - length l.words
