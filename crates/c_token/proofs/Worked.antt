-- The definition of tokens on worked texts.
use Rattle.std.proofs.Common.{◌≡◌, ℕ, true, false, [], ◌∷◌, Some, None, Ok, Err, refl}
use Rattle.std.specs.Prelude.{codes, map}
use Rattle.std.specs.Fmt.{digits}
use Rattle.c_token.specs.declared.words.Word.TheVariants as words
use Rattle.c_token.specs.declared.signs.Sign.TheVariants as signs
use Rattle.c_token.specs.declared.kinds.TokenError.TheVariants.{BadByte, OpenComment, LongName, BadNumber, BigNumber}
use Rattle.c_token.specs.declared.kinds.Kind.{Kind}
use Rattle.c_token.specs.declared.kinds.Kind.TheVariants as kinds
use Rattle.c_token.specs.declared.kinds.Token.{Token}
use Rattle.c_token.specs.PlainText.{plain_text, is_in_form, plain_tokens}
use Rattle.c_token.specs.WordSpelling.{word_spelled}
use Rattle.c_token.specs.SignSpelling.{sign_spelled}
use Rattle.c_token.specs.TokenSpelling.{is_name, spelled}
use Rattle.c_token.specs.TextTokens.{is_blank, tokens_of, tokens_from, front_at, front_then, put_before, token_of_len, judged, block_comment}

abbrev placed : ℕ → Kind → Token
placed at kind = record { kind = kind; at = at }

open_comment : tokens_of (codes "/* a") ≡ Err (OpenComment 0)
unfolding tokens_of tokens_from front_at front_then put_before token_of_len judged block_comment
open_comment = refl

-- the closing `*/` starts after the two opening bytes
overlapping_comment : tokens_of (codes "a /*/") ≡ Err (OpenComment 2)
unfolding tokens_of tokens_from front_at front_then put_before token_of_len judged block_comment
overlapping_comment = refl

comments : tokens_of (codes "/***/a/*b*/c//d") ≡ Ok (placed 5 (kinds.Name (codes "a")) ∷ placed 11 (kinds.Name (codes "c")) ∷ [])
unfolding tokens_of tokens_from front_at front_then put_before token_of_len judged block_comment
comments = refl

leading_zero : tokens_of (codes "089") ≡ Err (BadNumber 0)
unfolding tokens_of tokens_from front_at front_then put_before token_of_len judged block_comment
leading_zero = refl

bare_prefix : tokens_of (codes " 0x") ≡ Err (BadNumber 1)
unfolding tokens_of tokens_from front_at front_then put_before token_of_len judged block_comment
bare_prefix = refl

letter_after : tokens_of (codes "0x1G") ≡ Err (BadNumber 0)
unfolding tokens_of tokens_from front_at front_then put_before token_of_len judged block_comment
letter_after = refl

too_big : tokens_of (codes "4294967296") ≡ Err (BigNumber 0)
unfolding tokens_of tokens_from front_at front_then put_before token_of_len judged block_comment
too_big = refl

bad_byte : tokens_of (codes "a$") ≡ Err (BadByte 1)
unfolding tokens_of tokens_from front_at front_then put_before token_of_len judged block_comment
bad_byte = refl

long_name : tokens_of (codes "+ abcdefghijklmnopqrstuvwxyzabcdef") ≡ Err (LongName 2)
unfolding tokens_of tokens_from front_at front_then put_before token_of_len judged block_comment
long_name = refl

numbers : tokens_of (codes "2147483647 2147483648 0XfFu 7U 0")
    ≡ Ok (placed 0 (kinds.Number 2147483647 false) ∷ placed 11 (kinds.Number 2147483648 true) ∷ placed 22 (kinds.Number 255 true) ∷ placed 28 (kinds.Number 7 true) ∷ placed 31 (kinds.Number 0 false) ∷ [])
unfolding tokens_of tokens_from front_at front_then put_before token_of_len judged block_comment
numbers = refl

longest_signs : tokens_of (codes "<<=> =") ≡ Ok (placed 0 (kinds.Sign signs.ShiftLeft) ∷ placed 2 (kinds.Sign signs.Assign) ∷ placed 3 (kinds.Sign signs.GreaterThan) ∷ placed 5 (kinds.Sign signs.Assign) ∷ [])
unfolding tokens_of tokens_from front_at front_then put_before token_of_len judged block_comment
longest_signs = refl

first_program : tokens_of (codes "int main(void){release(72);") ≡ Ok (
    placed 0 (kinds.Word words.Int) ∷ placed 4 (kinds.Name (codes "main")) ∷ placed 8 (kinds.Sign signs.LeftParenthesis) ∷ placed 9 (kinds.Word words.Void)
    ∷ placed 13 (kinds.Sign signs.RightParenthesis) ∷ placed 14 (kinds.Sign signs.LeftBrace) ∷ placed 15 (kinds.Word words.Release) ∷ placed 22 (kinds.Sign signs.LeftParenthesis)
    ∷ placed 23 (kinds.Number 72 false) ∷ placed 25 (kinds.Sign signs.RightParenthesis) ∷ placed 26 (kinds.Sign signs.Semicolon) ∷ [])
unfolding tokens_of tokens_from front_at front_then put_before token_of_len judged block_comment
first_program = refl

-- a plain text, and what it reads as
plain_row : plain_text (kinds.Word words.Release ∷ kinds.Sign signs.LeftParenthesis ∷ kinds.Number 72 false ∷ kinds.Number 105 true ∷ kinds.Name (codes "_a") ∷ kinds.Sign signs.ShiftRight ∷ []) ≡ codes "release ( 72 105u _a >>"
unfolding digits
plain_row = refl

plain_places : plain_tokens 0 (kinds.Word words.Int ∷ kinds.Name (codes "ab") ∷ kinds.Number 7 true ∷ []) ≡ placed 0 (kinds.Word words.Int) ∷ placed 4 (kinds.Name (codes "ab")) ∷ placed 7 (kinds.Number 7 true) ∷ []
unfolding digits
plain_places = refl

-- a word is no name, a number above 2147483647 is unsigned, and none is above 4294967295
out_of_form : (is_in_form (kinds.Name (codes "int")) ≡ false) × (is_in_form (kinds.Number 2147483648 false) ≡ false) × (is_in_form (kinds.Number 4294967296 true) ≡ false)
    × (is_in_form (kinds.Name (codes "abcdefghijklmnopqrstuvwxyzabcdef")) ≡ false) × (is_in_form (kinds.Name (codes "1a")) ≡ false)
out_of_form = (refl, refl, refl, refl, refl)

-- each word and each sign, by its spelling, and spellings of none
word_table : map word_spelled (codes "int" ∷ codes "unsigned" ∷ codes "void" ∷ codes "const" ∷ codes "if" ∷ codes "else"
    ∷ codes "while" ∷ codes "for" ∷ codes "return" ∷ codes "break" ∷ codes "continue" ∷ codes "release"
    ∷ codes "input" ∷ codes "check" ∷ codes "__verified" ∷ codes "__private" ∷ codes "__shared" ∷ codes "__logged"
    ∷ codes "__untrusted" ∷ [])
    ≡ Some words.Int ∷ Some words.Unsigned ∷ Some words.Void ∷ Some words.Const ∷ Some words.If ∷ Some words.Else
    ∷ Some words.While ∷ Some words.For ∷ Some words.Return ∷ Some words.Break ∷ Some words.Continue ∷ Some words.Release
    ∷ Some words.Input ∷ Some words.Check ∷ Some words.Verified ∷ Some words.Private ∷ Some words.Shared ∷ Some words.Logged
    ∷ Some words.Untrusted ∷ []
word_table = refl

no_words : map word_spelled (codes "Int" ∷ codes "i" ∷ codes "ints" ∷ codes "private" ∷ codes "goto" ∷ []) ≡ None ∷ None ∷ None ∷ None ∷ None ∷ []
no_words = refl

sign_table : map sign_spelled (codes "(" ∷ codes ")" ∷ codes "{" ∷ codes "}" ∷ codes "[" ∷ codes "]" ∷ codes ";" ∷ codes ","
    ∷ codes "=" ∷ codes "+" ∷ codes "-" ∷ codes "*" ∷ codes "/" ∷ codes "%" ∷ codes "&" ∷ codes "|"
    ∷ codes "^" ∷ codes "~" ∷ codes "!" ∷ codes "<" ∷ codes ">" ∷ codes "<=" ∷ codes ">=" ∷ codes "=="
    ∷ codes "!=" ∷ codes "<<" ∷ codes ">>" ∷ codes "&&" ∷ codes "||" ∷ [])
    ≡ Some signs.LeftParenthesis ∷ Some signs.RightParenthesis ∷ Some signs.LeftBrace ∷ Some signs.RightBrace ∷ Some signs.LeftBracket ∷ Some signs.RightBracket
    ∷ Some signs.Semicolon ∷ Some signs.Comma ∷ Some signs.Assign ∷ Some signs.Plus ∷ Some signs.Minus ∷ Some signs.Star
    ∷ Some signs.Slash ∷ Some signs.Percent ∷ Some signs.Ampersand ∷ Some signs.VerticalBar ∷ Some signs.Caret ∷ Some signs.Tilde
    ∷ Some signs.Exclamation ∷ Some signs.LessThan ∷ Some signs.GreaterThan ∷ Some signs.LessOrEqual ∷ Some signs.GreaterOrEqual ∷ Some signs.EqualTo
    ∷ Some signs.NotEqualTo ∷ Some signs.ShiftLeft ∷ Some signs.ShiftRight ∷ Some signs.LogicalAnd ∷ Some signs.LogicalOr ∷ []
sign_table = refl

no_signs : map sign_spelled (codes "" ∷ codes "++" ∷ codes "->" ∷ codes "." ∷ codes "<<=" ∷ codes "?" ∷ []) ≡ None ∷ None ∷ None ∷ None ∷ None ∷ None ∷ []
no_signs = refl

-- the longest name and a longer one, names of each class of bytes, and bytes that are no blanks
longest_name : spelled (codes "abcdefghijklmnopqrstuvwxyzABCDE") ≡ Some (kinds.Name (codes "abcdefghijklmnopqrstuvwxyzABCDE"))
longest_name = refl

names : map is_name (codes "_" ∷ codes "_9" ∷ codes "Zz0" ∷ codes "9a" ∷ codes "a-b" ∷ codes "" ∷ []) ≡ true ∷ true ∷ true ∷ false ∷ false ∷ false ∷ []
names = refl

blanks : map is_blank (32 ∷ 9 ∷ 13 ∷ 10 ∷ 11 ∷ 12 ∷ 0 ∷ 160 ∷ []) ≡ true ∷ true ∷ true ∷ true ∷ false ∷ false ∷ false ∷ false ∷ []
blanks = refl

two_suffixes : tokens_of (codes "1uu") ≡ Err (BadNumber 0)
unfolding tokens_of tokens_from front_at front_then put_before token_of_len judged block_comment
two_suffixes = refl
