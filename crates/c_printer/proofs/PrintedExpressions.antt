-- An expression is printed with the tokens that it was read from.
use Rattle.std.proofs.Common.{◌≡◌, ℕ, List, [], ◌∷◌, ◌++◌, refl, sym, ap, ◌∙◌}
use Rattle.std.specs.Prelude.{map}
use Rattle.std.proofs.lemmas.List.{append-nil}
use Rattle.c_token.specs.declared.Kind.TheVariants as kinds
use Rattle.c_token.specs.declared.Sign.TheVariants as signs
use Rattle.c_grammar.specs.declared.Expr.{Expr}
use Rattle.c_grammar.specs.BoundedTokens.{Bounded, bounded_kinds, sign}
use Rattle.c_grammar.specs.ExpressionGrammar.{Expression, Binary, Unary, Primary, Arguments, Listed}
use Rattle.c_printer.specs.PrintedTokens.{expr_kinds, with_commas, after_commas, arguments_kinds}
use Rattle.c_printer.proofs.PrintedForms as laws
use Rattle.c_printer.proofs.FineTokens.{piece}

-- at least one expression is listed
after_listed : {l : ℕ} {ts : List Bounded} {xs : List Expr} → Listed l ts xs → after_commas (map expr_kinds xs) ≡ kinds.Sign signs.Comma ∷ with_commas (map expr_kinds xs)
after_listed (Listed.one d) = refl
after_listed (Listed.further comma d d2) = refl

mutual
  pub printed_expression : {l : ℕ} {ts : List Bounded} {x : Expr} → Expression l ts x → bounded_kinds ts ≡ expr_kinds x
  printed_expression (Expression.whole d) = printed_binary d

  printed_binary : {l level before used : ℕ} {ts : List Bounded} {x : Expr} → Binary l level before ts x used → bounded_kinds ts ≡ expr_kinds x
  printed_binary (Binary.alone d) = printed_unary d
  printed_binary (Binary.tighter d) = printed_binary d
  printed_binary (Binary.both {ts = ts} {us = us} {x = x} {y = y} op at d is bound d2) =
      piece ts (sign at op ∷ us) (printed_binary d)
      ∙ ap (λ ks. expr_kinds x ++ kinds.Sign op ∷ ks) (printed_binary d2) ∙ sym (laws.expr_kinds-Binary op x y at.place)

  printed_unary : {l : ℕ} {ts : List Bounded} {x : Expr} → Unary l ts x → bounded_kinds ts ≡ expr_kinds x
  printed_unary (Unary.primary d) = printed_primary d
  printed_unary (Unary.operation {x = x} op at is bound d) = ap (λ ks. kinds.Sign op ∷ ks) (printed_unary d) ∙ sym (laws.expr_kinds-Unary op x at.place)

  printed_primary : {l : ℕ} {ts : List Bounded} {x : Expr} → Primary l ts x → bounded_kinds ts ≡ expr_kinds x
  printed_primary (Primary.literal value unsigned at) = sym (laws.expr_kinds-Number value unsigned at.place)
  printed_primary (Primary.variable text at) = sym (laws.expr_kinds-Name text at.place)
  printed_primary (Primary.element {ts = ts} {x = x} text at left right bound d) =
      ap (λ ks. kinds.Name text ∷ kinds.Sign signs.LeftBracket ∷ ks) (piece ts (sign right signs.RightBracket ∷ []) (printed_expression d))
      ∙ sym (laws.expr_kinds-Index text x left.place)
  printed_primary (Primary.call {xs = xs} text at d) = ap (λ ks. kinds.Name text ∷ ks) (printed_arguments d) ∙ sym (laws.expr_kinds-Call text xs at.place)
  printed_primary (Primary.input at left right) = sym (laws.expr_kinds-Input at.place)
  printed_primary (Primary.parenthesised {ts = ts} {x = x} left right bound d) =
      ap (λ ks. kinds.Sign signs.LeftParenthesis ∷ ks) (piece ts (sign right signs.RightParenthesis ∷ []) (printed_expression d))
      ∙ sym (laws.expr_kinds-Paren x left.place)

  pub printed_arguments : {l : ℕ} {ts : List Bounded} {xs : List Expr} → Arguments l ts xs → bounded_kinds ts ≡ arguments_kinds xs
  printed_arguments (Arguments.nothing left right bound) = refl
  printed_arguments (Arguments.some {ts = ts} left right bound d) =
      ap (λ ks. kinds.Sign signs.LeftParenthesis ∷ ks) (piece ts (sign right signs.RightParenthesis ∷ []) (printed_listed d))

  printed_listed : {l : ℕ} {ts : List Bounded} {xs : List Expr} → Listed l ts xs → bounded_kinds ts ≡ with_commas (map expr_kinds xs)
  printed_listed (Listed.one {ts = ts} {x = x} d) = printed_expression d ∙ sym (append-nil (expr_kinds x))
  printed_listed (Listed.further {ts = ts} {us = us} {x = x} {xs = xs} comma d d2) =
      piece ts (sign comma signs.Comma ∷ us) (printed_expression d)
      ∙ ap (λ ks. expr_kinds x ++ kinds.Sign signs.Comma ∷ ks) (printed_listed d2)
      ∙ ap (λ ks. expr_kinds x ++ ks) (sym (after_listed d2))
