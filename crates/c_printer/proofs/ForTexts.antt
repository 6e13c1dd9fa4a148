-- The text of a `for`, head and body.
use Rattle.std.proofs.Common.{◌≡◌, ℕ, List, ◌++◌, Option, Some, sym, ap, ◌∙◌, append_assoc}
use Rattle.std.specs.Prelude.{option_map}
use Rattle.std.proofs.lemmas.List.Concat.{flat_map-append}
use Rattle.c_token.specs.declared.kinds.Kind.{Kind}
use Rattle.c_grammar.specs.declared.Expr.{Expr}
use Rattle.c_grammar.specs.declared.Stmt.{Stmt}
use Rattle.c_grammar.specs.declared.stmt.Stmt.TheVariants.{For}
use Rattle.c_grammar.specs.declared.stmt.Stmt.TheOpen.{Stmt-F}
use Rattle.c_printer.specs.PrintedTokens.{printed_stmt_layer, stmt_kinds, head_kinds, in_code}
use Rattle.c_printer.proofs.PrintedForms.{stmt_kinds-For}
use Rattle.c_printer.specs.PrintedParts.{spaced_token, spaced_tokens, head_begin_kinds, head_end_kinds}

parts : (a b c : List Kind) → spaced_tokens (head_begin_kinds a) ++ (spaced_tokens b ++ spaced_tokens c) ≡ spaced_tokens (head_begin_kinds a ++ (b ++ c))
parts a b c = sym (flat_map-append spaced_token (head_begin_kinds a) (b ++ c) ∙ ap (λ text. spaced_tokens (head_begin_kinds a) ++ text) (flat_map-append spaced_token b c))

-- the printed tokens of a head and a body, in one
shape : (a : List Kind) (test : Option Expr) (last c : List Kind) → printed_stmt_layer (Stmt-F.For (Some (λ _. a)) test (Some (λ _. last)) (λ _. c) 0) in_code ≡ head_begin_kinds a ++ (head_end_kinds test last ++ c)
shape a test last c = simp append_assoc

pub for_text : (old begun ended new : List ℕ) (stmt : Stmt) (first : Option Stmt) (test : Option Expr) (step : Option Stmt) (body inner : Stmt) (token : ℕ)
    → stmt ≡ For first test step body token
    → begun ≡ old ++ spaced_tokens (head_begin_kinds (head_kinds (option_map stmt_kinds first)))
    → ended ≡ begun ++ spaced_tokens (head_end_kinds test (head_kinds (option_map stmt_kinds step)))
    → inner ≡ body
    → new ≡ ended ++ spaced_tokens (stmt_kinds inner in_code)
    → new ≡ old ++ spaced_tokens (stmt_kinds stmt in_code)
for_text old begun ended new stmt first test step body inner token is begin end same rest =
    let a = head_kinds (option_map stmt_kinds first) in
    let last = head_kinds (option_map stmt_kinds step) in
    let b = head_end_kinds test last in
    let c = stmt_kinds body in_code in
    rest ∙ ap (λ inner. ended ++ spaced_tokens (stmt_kinds inner in_code)) same
    ∙ ap (λ text. text ++ spaced_tokens c) (end ∙ ap (λ text. text ++ spaced_tokens b) begin)
    ∙ append_assoc (old ++ spaced_tokens (head_begin_kinds a)) (spaced_tokens b) (spaced_tokens c)
    ∙ append_assoc old (spaced_tokens (head_begin_kinds a)) (spaced_tokens b ++ spaced_tokens c)
    ∙ ap (λ text. old ++ text) (parts a b c)
    ∙ ap (λ kinds. old ++ spaced_tokens kinds) (sym (ap (λ f. f in_code) (ap stmt_kinds is ∙ stmt_kinds-For first test step body token) ∙ shape a test last c))
