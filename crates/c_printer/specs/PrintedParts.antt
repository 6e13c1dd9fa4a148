-- Device: the bytes that the printer has written on its way, and the tokens of parts that its functions print.
use Rattle.std.specs.Prelude.{ℕ, List, [], ◌∷◌, ◌++◌, Option, ◌==◌, if◌then◌else◌}
use Rattle.std.specs.List.{flat_map}
use Rattle.c_token.specs.declared.kinds.Kind.{Kind}
use Rattle.c_token.specs.declared.kinds.Kind.TheVariants as kinds
use Rattle.c_token.specs.declared.words.Word.TheVariants as words
use Rattle.c_token.specs.declared.signs.Sign.TheVariants as signs
use Rattle.c_token.specs.PlainText.{plain_spelling}
use Rattle.c_grammar.specs.declared.Expr.{Expr}
use Rattle.c_printer.specs.PrintedTokens.{maybe_kinds, after_commas}

-- the plain spelling of a token, and a space, which is 32
unfoldable pub spaced_token : Kind → List ℕ
spaced_token kind = plain_spelling kind ++ 32 ∷ []

-- tokens, each with a space after it
abbrev pub spaced_tokens : List Kind → List ℕ
spaced_tokens kinds = flat_map spaced_token kinds

-- tokens between parentheses
abbrev pub between : List Kind → List Kind
between inner = kinds.Sign signs.LeftParenthesis ∷ (inner ++ kinds.Sign signs.RightParenthesis ∷ [])

-- parentheses with nothing between them
abbrev pub no_arguments : List Kind
no_arguments = kinds.Sign signs.LeftParenthesis ∷ kinds.Sign signs.RightParenthesis ∷ []

-- the head of a `for`, up to its first sign `;` and after it, with the tokens of its parts
abbrev pub head_begin_kinds : List Kind → List Kind
head_begin_kinds first = kinds.Word words.For ∷ kinds.Sign signs.LeftParenthesis ∷ (first ++ kinds.Sign signs.Semicolon ∷ [])

abbrev pub head_end_kinds : Option Expr → List Kind → List Kind
head_end_kinds test step = maybe_kinds test ++ (kinds.Sign signs.Semicolon ∷ (step ++ kinds.Sign signs.RightParenthesis ∷ []))

-- a function of the untrusted code
abbrev pub untrusted_kinds : List ℕ → List Kind
untrusted_kinds name =
    kinds.Word words.Untrusted ∷ kinds.Word words.Void ∷ kinds.Name name ∷ kinds.Sign signs.LeftParenthesis ∷ kinds.Word words.Void ∷ kinds.Sign signs.RightParenthesis ∷ kinds.Sign signs.Semicolon ∷ []

-- the sign `,` before each part of a list but the first
abbrev pub commas_before : ℕ → List Kind
commas_before part = if part == 0 then [] else kinds.Sign signs.Comma ∷ []

-- the parts of a list from this one on, with a sign `,` before each but the first of all
abbrev pub parts_from : ℕ → List (List Kind) → List Kind
parts_from part [] = []
parts_from part (first ∷ more) = commas_before part ++ (first ++ after_commas more)
