use Rattle.std.proofs.Common.{◌≡◌, ◌+◌, ◌≤◌, length, take, ℕ, not}
use Rattle.std.specs.List.{suffix_len}
use Rattle.source_place.specs.Places.{is_feed}
use Rattle.source_place.proofs.line.line_start.Given as goal

-- the bytes from `start` on end no line
abbrev pub invariant-loop-start : goal.invariant-loop-start
invariant-loop-start l = record {
  within : l.start ≤ length l.text;
  kept : l.start + suffix_len (λ (byte : ℕ). not (is_feed byte)) l.text ≡ length l.text + suffix_len (λ (byte : ℕ). not (is_feed byte)) (take l.start l.text);
}

abbrev pub decreases-loop-start : goal.decreases-loop-start
decreases-loop-start l = l.start
