-- Promise: the words of the source language (ISO/IEC 9899, section 6.4.1, and the words of this profile).
use Rattle.std.specs.Prelude.{ℕ, List, [], ◌∷◌, Option, codes, find}
use Rattle.std.specs.Str.{bytes_eq}
use Rattle.c_token.specs.declared.words.Word.{Word}
use Rattle.c_token.specs.declared.words.Word.TheVariants.{Int, Unsigned, Void, Const, If, Else, While, For, Return, Break, Continue, Release, Input, Check, Verified, Private, Shared, Logged, Untrusted}

-- the bytes that spell a word
abbrev pub word_spelling : Word → List ℕ
word_spelling Int = codes "int"
word_spelling Unsigned = codes "unsigned"
word_spelling Void = codes "void"
word_spelling Const = codes "const"
word_spelling If = codes "if"
word_spelling Else = codes "else"
word_spelling While = codes "while"
word_spelling For = codes "for"
word_spelling Return = codes "return"
word_spelling Break = codes "break"
word_spelling Continue = codes "continue"
word_spelling Release = codes "release"
word_spelling Input = codes "input"
word_spelling Check = codes "check"
word_spelling Verified = codes "__verified"
word_spelling Private = codes "__private"
word_spelling Shared = codes "__shared"
word_spelling Logged = codes "__logged"
word_spelling Untrusted = codes "__untrusted"

-- every word
abbrev pub words : List Word
words = Int ∷ Unsigned ∷ Void ∷ Const ∷ If ∷ Else ∷ While ∷ For ∷ Return ∷ Break ∷ Continue ∷ Release ∷ Input ∷ Check
    ∷ Verified ∷ Private ∷ Shared ∷ Logged ∷ Untrusted ∷ []

-- the word that these bytes spell, if they spell one
abbrev pub word_spelled : List ℕ → Option Word
word_spelled bytes = find (λ word. bytes_eq (word_spelling word) bytes) words
