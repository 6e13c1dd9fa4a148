-- The tokens of a made source.
use Rattle.std.proofs.Common.{◌≡◌, ◌<◌, ◌≤◌, ◌&&◌, ℕ, zero, suc, ◌+◌, Bool, true, false, List, [], ◌∷◌, ◌++◌, length, Some, Ok, refl, sym, ap, ◌∙◌, subst, ⊎_elim, append_assoc, arith}
use Rattle.std.specs.Prelude.{codes}
use Rattle.std.specs.List.{flat_map, list_all, range_with_len}
use Rattle.std.specs.Fmt.{decimal, digits}
use Rattle.std.proofs.lemmas.Bool.{and_parts, false≢true, cases_lt}
use Rattle.std.proofs.lemmas.List.{append-nil, drop_at, length-append}
use Rattle.c_token.specs.declared.words.Word.{Word}
use Rattle.c_token.specs.declared.words.Word.TheVariants as words
use Rattle.c_token.specs.declared.kinds.Kind.{Kind}
use Rattle.c_token.specs.declared.kinds.Kind.TheVariants as kinds
use Rattle.c_token.specs.declared.kinds.Token.{Token}
use Rattle.c_token.specs.WordSpelling.{word_spelling}
use Rattle.c_token.specs.TokenSpelling.{is_name}
use Rattle.c_token.proofs.PlainFronts.{word_is_name}
use Rattle.c_token.proofs.PlainNumbers.{number_some}
use Rattle.c_token.proofs.PlainSigns.{sign_some}
use Rattle.c_token.specs.TextTokens.{is_blank, token, gap, put_before, tokens_from, tokens_of, front_at}
use Rattle.c_token.specs.PlainText.{plain_spelling, is_in_form, kinds_of}
use Rattle.c_token.proofs.Cases.{front_is_blank}
use Rattle.c_token.proofs.Scan.{front_first, put_before-none}
use Rattle.c_grammar.specs.TokenPrograms.{HasProgram, AreProgram}
use Rattle.work_maker.specs.MadeSource.{line, function_line, call_line, made_source}
use Rattle.made_program.proofs.MadeItems.{kinds_of_a, kinds_of_g, function_kinds, main_kinds, call_kinds, last_kinds, made_kinds, made_program}
use Rattle.made_program.proofs.MadeDerived.{made_derived}
use Rattle.made_program.proofs.TightTokens.{is_apart, tight_front}

-- a token, or a blank
data Piece : Type 0 where
  Tok : Kind → Piece
  Gap : ℕ → Piece

abbrev text_of : List Piece → List ℕ
text_of [] = []
text_of (Tok kind ∷ more) = plain_spelling kind ++ text_of more
text_of (Gap b ∷ more) = b ∷ text_of more

abbrev kinds_in : List Piece → List Kind
kinds_in [] = []
kinds_in (Tok kind ∷ more) = kind ∷ kinds_in more
kinds_in (Gap b ∷ more) = kinds_in more

-- the first byte makes the token no longer
abbrev is_before : Kind → List ℕ → Bool
is_before kind [] = false
is_before kind (b ∷ bs) = is_apart kind b

-- each token is in form, and is followed by a byte that makes it no longer
abbrev fits : List Piece → Bool
fits [] = true
fits (Tok kind ∷ more) = is_in_form kind && (is_before kind (text_of more) && fits more)
fits (Gap b ∷ more) = is_blank b && fits more

-- a text from this place on has tokens of these kinds
record Reads (at : ℕ) (text : List ℕ) (ks : List Kind) : Type 0 where
  pub tokens : List Token
  pub lexed : tokens_from at 0 text ≡ Ok tokens
  pub same : kinds_of tokens ≡ ks

reads_nothing : (at : ℕ) → Reads at [] []
unfolding tokens_from
reads_nothing at = record { tokens = []; lexed = refl; same = refl }

-- no spelling is empty
name_some : (bytes : List ℕ) → is_name bytes ≡ true → 0 < length bytes
name_some [] is = absurd (false≢true is)
name_some (b ∷ bs) is = omega arith

spelling_some : (kind : Kind) → is_in_form kind ≡ true → 0 < length (plain_spelling kind)
spelling_some (kinds.Name bytes) form = name_some bytes (and_parts _ _ form).0
spelling_some (kinds.Number value unsigned) form = number_some value unsigned form
spelling_some (kinds.Word w) form = name_some (word_spelling w) (word_is_name w)
spelling_some (kinds.Sign s) form = sign_some s

-- a list that begins with such a byte still does with more after it
first_byte : (kind : Kind) (more rest : List ℕ) → is_in_form kind ≡ true → is_before kind more ≡ true → (at : ℕ) → front_at at (plain_spelling kind ++ (more ++ rest)) ≡ Ok (token kind (length (plain_spelling kind)))
first_byte kind [] rest form before at = absurd (false≢true before)
first_byte kind (b ∷ bs) rest form before at = tight_front at kind b (bs ++ rest) form before

after_token : (at : ℕ) (kind : Kind) (text : List ℕ) (ks : List Kind) → front_at at (plain_spelling kind ++ text) ≡ Ok (token kind (length (plain_spelling kind)))
    → is_in_form kind ≡ true → Reads (at + length (plain_spelling kind)) text ks → Reads at (plain_spelling kind ++ text) (kind ∷ ks)
unfolding put_before
after_token at kind text ks front form rest =
    let bytes = plain_spelling kind in
    record {
      tokens = record { kind = kind; at = at } ∷ rest.tokens;
      lexed =
          front_first at (bytes ++ text) (token kind (length bytes)) (spelling_some kind form) (omega (arith, length-append bytes text)) front
          ∙ ap (λ rest. put_before at (Some kind) (tokens_from (at + length bytes) 0 rest)) (drop_at bytes text (length bytes) refl)
          ∙ ap (put_before at (Some kind)) rest.lexed;
      same = ap (λ ks. kind ∷ ks) rest.same;
    }

after_gap : (at b : ℕ) (text : List ℕ) (ks : List Kind) → is_blank b ≡ true → Reads (at + 1) text ks → Reads at (b ∷ text) ks
after_gap at b text ks blank rest = record {
  tokens = rest.tokens;
  lexed = front_first at (b ∷ text) (gap 1) (omega arith) (omega arith) (front_is_blank at (b ∷ text) blank) ∙ put_before-none at _ ∙ rest.lexed;
  same = rest.same;
}

reads_pieces : (ps : List Piece) (rest : List ℕ) (ks : List Kind) → fits ps ≡ true → ((at : ℕ) → Reads at rest ks) → (at : ℕ) → Reads at (text_of ps ++ rest) (kinds_in ps ++ ks)
reads_pieces [] rest ks all more at = more at
reads_pieces (Tok kind ∷ ps) rest ks all more at =
    let parts = and_parts (is_in_form kind) _ all in
    let last = and_parts (is_before kind (text_of ps)) _ parts.1 in
    subst (λ text. Reads at text (kind ∷ (kinds_in ps ++ ks))) (sym (append_assoc (plain_spelling kind) (text_of ps) rest))
    (after_token at kind (text_of ps ++ rest) (kinds_in ps ++ ks) (first_byte kind (text_of ps) rest parts.0 last.0 at) parts.0
    (reads_pieces ps rest ks last.1 more (at + length (plain_spelling kind))))
reads_pieces (Gap b ∷ ps) rest ks all more at =
    let parts = and_parts (is_blank b) _ all in
    after_gap at b (text_of ps ++ rest) (kinds_in ps ++ ks) parts.0 (reads_pieces ps rest ks parts.1 more (at + 1))

-- ---- lines

-- a space after `int`, `return` and `__logged`, but for `int` before none
abbrev gap_after : Word → List Piece → List Piece
gap_after words.Int ps = Gap 32 ∷ ps
gap_after words.Return ps = Gap 32 ∷ ps
gap_after words.Logged ps = Gap 32 ∷ ps
gap_after w ps = ps

abbrev gap_behind : Kind → List Piece → List Piece
gap_behind (kinds.Word w) ps = gap_after w ps
gap_behind kind ps = ps

-- a line of these tokens
abbrev pieces_of : List Kind → List Piece
pieces_of [] = Gap 10 ∷ []
pieces_of (kind ∷ ks) = Tok kind ∷ gap_behind kind (pieces_of ks)

-- a text is the line of these tokens
record IsLine (text : List ℕ) (ks : List Kind) : Type 0 where
  pub spelled : text_of (pieces_of ks) ≡ text
  pub tokens : kinds_in (pieces_of ks) ≡ ks
  pub fine : fits (pieces_of ks) ≡ true

reads_line : (text rest : List ℕ) (ks more : List Kind) → IsLine text ks → ((at : ℕ) → Reads at rest more) → (at : ℕ) → Reads at (text ++ rest) (ks ++ more)
reads_line text rest ks more line later at =
    subst (λ text. Reads at (text ++ rest) (ks ++ more)) line.spelled
    (subst (λ ks'. Reads at (text_of (pieces_of ks) ++ rest) (ks' ++ more)) line.tokens (reads_pieces (pieces_of ks) rest more line.fine later at))

reads_lines : (text : ℕ → List ℕ) (ks : ℕ → List Kind) → ((k : ℕ) → k < 48 → IsLine (text k) (ks k)) → (a n : ℕ) → a + n ≤ 48 → (rest : List ℕ) (more : List Kind)
    → ((at : ℕ) → Reads at rest more) → (at : ℕ) → Reads at (flat_map text (range_with_len a n) ++ rest) (flat_map ks (range_with_len a n) ++ more)
reads_lines text ks each a zero most rest more later at = later at
reads_lines text ks each a (suc n) most rest more later at =
    subst (λ bytes. Reads at bytes ((ks a ++ flat_map ks (range_with_len (a + 1) n)) ++ more)) (sym (append_assoc (text a) (flat_map text (range_with_len (a + 1) n)) rest))
    (subst (λ kinds. Reads at (text a ++ (flat_map text (range_with_len (a + 1) n) ++ rest)) kinds) (sym (append_assoc (ks a) (flat_map ks (range_with_len (a + 1) n)) more))
    (reads_line (text a) (flat_map text (range_with_len (a + 1) n) ++ rest) (ks a) (flat_map ks (range_with_len (a + 1) n) ++ more) (each a (omega (arith, most)))
    (reads_lines text ks each (a + 1) n (omega (arith, most)) rest more later) at))

-- ---- the lines of a made source

-- a test of each number below 48
below_48 : (P : ℕ → Bool) (a n k : ℕ) → list_all P (range_with_len a n) ≡ true → a ≤ k → k < a + n → P k ≡ true
below_48 P a zero k all above below = absurd (omega (arith, above, below))
below_48 P a (suc n) k all above below =
    let parts = and_parts (P a) _ all in
    ⊎_elim
    (λ (more : a < k). below_48 P (a + 1) n k parts.1 (omega (arith, more)) (omega (arith, below)))
    (λ (here : k ≤ a). let same : a ≡ k = omega (arith, here, above) in subst (λ k. P k ≡ true) same parts.0)
    (cases_lt a k)

line_of_a : IsLine (line (codes "int a[256];")) kinds_of_a
unfolding digits
line_of_a = record { spelled = refl; tokens = refl; fine = refl }

line_of_g : IsLine (line (codes "__logged int g[64];")) kinds_of_g
unfolding digits
line_of_g = record { spelled = refl; tokens = refl; fine = refl }

line_of_main : IsLine (line (codes "int main(void){int i;int s;for(i=0;i<16;i=i+1){")) main_kinds
unfolding digits
line_of_main = record { spelled = refl; tokens = refl; fine = refl }

line_of_last : IsLine (line (codes "release(s);}check();return 0;}")) last_kinds
unfolding digits
line_of_last = record { spelled = refl; tokens = refl; fine = refl }

-- the lines of each number
fine_functions : list_all (λ k. fits (pieces_of (function_kinds k))) (range_with_len 0 48) ≡ true
unfolding digits
fine_functions = refl

fine_calls : list_all (λ k. fits (pieces_of (call_kinds k))) (range_with_len 0 48) ≡ true
unfolding digits
fine_calls = refl

mask_spelled : decimal 255 ≡ codes "255"
unfolding digits
mask_spelled = refl

function_spelled : (k : ℕ) → text_of (pieces_of (function_kinds k)) ≡ function_line k
function_spelled k = simp (mask_spelled, append_assoc, append-nil)

call_spelled : (k : ℕ) → text_of (pieces_of (call_kinds k)) ≡ call_line k
call_spelled k = simp append_assoc

line_of_function : (k : ℕ) → k < 48 → IsLine (function_line k) (function_kinds k)
line_of_function k small = record {
  spelled = function_spelled k;
  tokens = refl;
  fine = below_48 (λ k. fits (pieces_of (function_kinds k))) 0 48 k fine_functions (omega arith) small;
}

line_of_call : (k : ℕ) → k < 48 → IsLine (call_line k) (call_kinds k)
line_of_call k small = record {
  spelled = call_spelled k;
  tokens = refl;
  fine = below_48 (λ k. fits (pieces_of (call_kinds k))) 0 48 k fine_calls (omega arith) small;
}

-- ---- the whole

last_read : (at : ℕ) → Reads at (line (codes "release(s);}check();return 0;}")) last_kinds
last_read at =
    subst (λ text. Reads at text last_kinds) (append-nil (line (codes "release(s);}check();return 0;}")))
    (subst (λ ks. Reads at (line (codes "release(s);}check();return 0;}") ++ []) ks) (append-nil last_kinds) (reads_line _ [] last_kinds [] line_of_last reads_nothing at))

-- its text, line after line
abbrev lines_of : ℕ → List ℕ
lines_of n =
    line (codes "int a[256];") ++ (line (codes "__logged int g[64];") ++ (flat_map function_line (range_with_len 0 n)
    ++ (line (codes "int main(void){int i;int s;for(i=0;i<16;i=i+1){") ++ (flat_map call_line (range_with_len 0 n) ++ line (codes "release(s);}check();return 0;}")))))

same_lines : (n : ℕ) → made_source n ≡ lines_of n
same_lines n = simp append_assoc

made_read : (n : ℕ) → n ≤ 48 → Reads 0 (lines_of n) (made_kinds n)
made_read n most =
    reads_line (line (codes "int a[256];")) _ kinds_of_a _ line_of_a
    (reads_line (line (codes "__logged int g[64];")) _ kinds_of_g _ line_of_g
    (reads_lines function_line function_kinds line_of_function 0 n (omega (arith, most)) _ _
    (reads_line (line (codes "int main(void){int i;int s;for(i=0;i<16;i=i+1){")) _ main_kinds _ line_of_main
    (reads_lines call_line call_kinds line_of_call 0 n (omega (arith, most)) _ _ last_read)))) 0

pub made_has_program : (n : ℕ) → n ≤ 48 → HasProgram (made_source n) (made_program n)
unfolding tokens_of
made_has_program n most =
    let read = made_read n most in
    record {
      tokens = read.tokens;
      lexed = ap tokens_of (same_lines n) ∙ read.lexed;
      read = subst (λ ks. AreProgram ks (made_program n)) (sym read.same) (made_derived n);
    }
