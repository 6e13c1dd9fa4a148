-- A text with a space after each token, without its last byte, is the plain text of the tokens.
use Rattle.std.proofs.Common.{◌≡◌, ◌-◌, List, [], ◌∷◌, ◌++◌, length, take, refl, sym, ap, ◌∙◌, append_assoc, arith}
use Rattle.std.proofs.lemmas.List.{append-nil, take_at, length-append}
use Rattle.c_token.specs.declared.kinds.Kind.{Kind}
use Rattle.c_token.specs.PlainText.{plain_spelling, spaced_text, plain_text}
use Rattle.c_printer.specs.PrintedParts.{spaced_token, spaced_tokens}

last_space : (kind : Kind) (kinds : List Kind) → spaced_tokens (kind ∷ kinds) ≡ plain_text (kind ∷ kinds) ++ 32 ∷ []
unfolding spaced_token
last_space kind [] =
    append-nil (plain_spelling kind ++ 32 ∷ []) ∙ ap (λ text. text ++ 32 ∷ []) (sym (append-nil (plain_spelling kind)))
last_space kind (second ∷ kinds) =
    append_assoc (plain_spelling kind) (32 ∷ []) (spaced_tokens (second ∷ kinds))
    ∙ ap (λ text. plain_spelling kind ++ 32 ∷ text) (last_space second kinds)
    ∙ sym (append_assoc (plain_spelling kind) (spaced_text (second ∷ kinds)) (32 ∷ []))

pub without_last : (kinds : List Kind) → take (length (spaced_tokens kinds) - 1) (spaced_tokens kinds) ≡ plain_text kinds
without_last [] = refl
without_last (kind ∷ kinds) =
    let text = plain_text (kind ∷ kinds) in
    ap (λ all. take (length all - 1) all) (last_space kind kinds)
    ∙ take_at text (32 ∷ []) (length (text ++ 32 ∷ []) - 1) (omega (arith, length-append text (32 ∷ [])))
