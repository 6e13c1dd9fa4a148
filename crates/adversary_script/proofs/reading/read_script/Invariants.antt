use Rattle.std.proofs.Common.{◌≡◌, ◌+◌, ◌≤◌, length}
use Rattle.std.specs.Str.Lines.{lines}
use Rattle.adversary_script.specs.ScriptGrammar.{changes_from, script_of}
use Rattle.adversary_script.proofs.reading.read_script.Given as goal

-- the changes so far, and those of the rest after them, are those of the text
abbrev pub invariant-lines : goal.invariant-lines
invariant-lines l = record {
  numbered : l.n + length l.rest ≤ length l.text + 1;
  told : changes_from l.n l.draft (lines l.rest) ≡ script_of l.text;
}

abbrev pub decreases-lines : goal.decreases-lines
decreases-lines l = length l.rest
