-- Promise: what the parser on lists makes of a whole list of tokens, and its laws.
use Rattle.std.specs.Prelude.{◌≡◌, ◌↔◌, List, [], length}
use Rattle.aegis_num.specs.declared.limits.TheConstants.{MAX_BINARY_OPERATORS, MAX_NESTING}
use Rattle.c_token.specs.declared.kinds.Kind.{Kind}
use Rattle.c_grammar.specs.declared.item.Program.{Program}
use Rattle.c_grammar.specs.BoundedTokens.{Tok, numbered}
use Rattle.c_grammar.specs.TokenPrograms.{AreProgram, IsExpectedAt, IsDeepAt, IsShallowBefore}
use Rattle.c_descent.proofs.ListParser.{expected, deep, ParseOutcome, done, stop, place_or}
use Rattle.c_descent.proofs.ProgramParser.{program}

-- what the parser makes of tokens of these kinds, numbered from 0
abbrev pub parsed : List Kind → ParseOutcome Program
parsed kinds = program MAX_BINARY_OPERATORS MAX_NESTING (numbered 0 kinds)

-- it reads them all as a program where they are that program, and only there
abbrev pub ReadsPrograms : Type 0
ReadsPrograms = (kinds : List Kind) (p : Program) → (parsed kinds ≡ done p []) ↔ AreProgram kinds p

-- where it stops at a token, or at the end, with which no program goes on, the text is refused there
abbrev pub StopsAtExpected : Type 0
StopsAtExpected = (kinds : List Kind) (left : List Tok) → parsed kinds ≡ stop expected left
    → IsExpectedAt kinds (place_or (length kinds) left) × IsShallowBefore kinds (place_or (length kinds) left)

-- where it stops for the depth, the first token that is left nests too deep
abbrev pub StopsAtDeep : Type 0
StopsAtDeep = (kinds : List Kind) (left : List Tok) → parsed kinds ≡ stop deep left → IsDeepAt kinds (place_or (length kinds) left)
