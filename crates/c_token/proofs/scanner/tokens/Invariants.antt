use Rattle.std.proofs.Common.{◌≡◌, ◌-◌, ◌≤◌, length, drop, vec_len}
use Rattle.c_token.specs.TextTokens.{tokens_from}
use Rattle.c_token.proofs.Scan.{joined}
use Rattle.c_token.proofs.scanner.tokens.Given as goal

-- the tokens so far and those of the rest are those of the text
abbrev pub invariant-each : goal.invariant-each
invariant-each l = record {
  within : l.at ≤ length l.text;
  count : vec_len l.tokens ≤ l.at;
  told : joined l.tokens.items (tokens_from l.at 0 (drop l.at l.text)) ≡ tokens_from 0 0 l.text;
}

abbrev pub decreases-each : goal.decreases-each
decreases-each l = length l.text - l.at
