-- A program is read again from its printed tokens.
use Rattle.std.proofs.Common.{◌≡◌, ◌≤◌, ℕ, Bool, true, false, List, [], ◌∷◌, ◌++◌, Option, refl, sym, ap, ◌∙◌, append_assoc, arith}
use Rattle.std.specs.Prelude.{map, nat_lt, nat_le, ◌||◌, if◌then◌else◌}
use Rattle.std.proofs.lemmas.List.{append-nil}
use Rattle.std.proofs.lemmas.Bool.{and_from, and_parts}
use Rattle.std.proofs.lemmas.Bool.Decides.{nat_tests}
use Rattle.c_token.specs.declared.Kind.{Kind}
use Rattle.c_token.specs.declared.Kind.TheVariants as kinds
use Rattle.c_token.specs.declared.Word.TheVariants as words
use Rattle.c_token.specs.declared.Sign.TheVariants as signs
use Rattle.c_token.specs.PlainText.{is_in_form}
use Rattle.c_grammar.specs.declared.Stmt.{Stmt}
use Rattle.c_grammar.specs.declared.Item.{Item}
use Rattle.c_grammar.specs.declared.Storage.{Storage}
use Rattle.c_grammar.specs.declared.Kind3.{Kind3}
use Rattle.c_grammar.specs.declared.Value.{Value}
use Rattle.c_grammar.specs.declared.Parameter.{Parameter}
use Rattle.c_grammar.specs.declared.Program.{Program}
use Rattle.c_grammar.specs.TokenPrograms.{limit}
use Rattle.c_grammar.specs.BoundedTokens as toks
use Rattle.c_grammar.specs.BoundedTokens.{Spot, Bounded, bounded_kinds, name, sign, word}
use Rattle.c_grammar.specs.ProgramGrammar.{IsStorage, IsLength, IsValue, AreValues, AreInitial, IsResult, IsParameter, AreListed, AreParameters, IsPrivate, IsItem, AreItems, IsProgram}
use Rattle.c_printer.specs.PrintedTokens.{type_kind, with_commas, after_commas, storage_kinds, length_kinds, value_kinds, values_kinds, answer_kind, parameter_kinds, parameters_kinds, in_a_row, stmt_kinds, block_kinds, item_kinds, items_kinds, program_kinds}
use Rattle.c_printer.proofs.FineTokens.{IsFine, AreFine, fine-append, fine-join, piece}
use Rattle.c_printer.proofs.PrintedStatements.{type_token, printed_type, printed_body}

-- what is read again, and what its tokens are
abbrev PrintedStorage : Storage → Type 0
PrintedStorage class = (us : List Bounded) × (IsStorage us class × (bounded_kinds us ≡ storage_kinds class) × AreFine us)

printed_storage : {ts : List Bounded} {class : Storage} → IsStorage ts class → AreFine ts → PrintedStorage class
printed_storage IsStorage.nothing fine = ([], (IsStorage.nothing, refl, tt))
printed_storage (IsStorage.verified at) fine = ([], (IsStorage.nothing, refl, tt))
printed_storage (IsStorage.«private» at) fine = (word at words.Private ∷ [], (IsStorage.«private» at, refl, fine))
printed_storage (IsStorage.shared at) fine = (word at words.Shared ∷ [], (IsStorage.shared at, refl, fine))
printed_storage (IsStorage.logged at) fine = (word at words.Logged ∷ [], (IsStorage.logged at, refl, fine))

-- a length has its suffix only where it has to
plain_form : (length : ℕ) (unsigned : Bool) → is_in_form (kinds.Number length unsigned) ≡ true → is_in_form (kinds.Number length (nat_lt 2147483647 length)) ≡ true
plain_form length unsigned form =
    and_from _ _ (and_parts _ _ form).0 (let large : (nat_lt 2147483647 length || nat_le length 2147483647) ≡ true = grind (arith, nat_tests) in large)

abbrev PrintedLength : Option ℕ → Type 0
PrintedLength length = (us : List Bounded) × (IsLength us length × (bounded_kinds us ≡ length_kinds length) × AreFine us)

printed_length : {ts : List Bounded} {length : Option ℕ} → IsLength ts length → AreFine ts → PrintedLength length
printed_length IsLength.nothing fine = ([], (IsLength.nothing, refl, tt))
printed_length (IsLength.given length unsigned left at right) fine = (
  sign left signs.LeftBracket ∷ toks.number at length (nat_lt 2147483647 length) ∷ sign right signs.RightBracket ∷ [],
  (IsLength.given length (nat_lt 2147483647 length) left at right, refl, (fine.0, ((fine.1.0.0, plain_form length unsigned fine.1.0.1), fine.1.1))),
)

printed_value : {ts : List Bounded} {x : Value} → IsValue ts x → bounded_kinds ts ≡ value_kinds x
printed_value (IsValue.plain value unsigned at) = refl
printed_value (IsValue.negative value unsigned minus at) = refl

after_values : {ts : List Bounded} {xs : List Value} → AreValues ts xs → after_commas (map value_kinds xs) ≡ kinds.Sign signs.Comma ∷ with_commas (map value_kinds xs)
after_values (AreValues.one d) = refl
after_values (AreValues.further comma d d2) = refl

printed_values : {ts : List Bounded} {xs : List Value} → AreValues ts xs → bounded_kinds ts ≡ with_commas (map value_kinds xs)
printed_values (AreValues.one {x = x} d) = printed_value d ∙ sym (append-nil (value_kinds x))
printed_values (AreValues.further {ts = ts} {us = us} {x = x} {xs = xs} comma d d2) =
    piece ts (sign comma signs.Comma ∷ us) (printed_value d)
    ∙ ap (λ ks. value_kinds x ++ kinds.Sign signs.Comma ∷ ks) (printed_values d2)
    ∙ ap (λ ks. value_kinds x ++ ks) (sym (after_values d2))

printed_initial : {ts : List Bounded} {xs : List Value} {braces : Bool} → AreInitial ts xs braces → bounded_kinds ts ≡ values_kinds braces xs
printed_initial (AreInitial.single {x = x} d) = printed_value d ∙ sym (append-nil (value_kinds x))
printed_initial (AreInitial.braced {ts = ts} left right d) = ap (λ ks. kinds.Sign signs.LeftBrace ∷ ks) (piece ts (sign right signs.RightBrace ∷ []) (printed_values d))

abbrev PrintedResult : Kind3 → Type 0
PrintedResult result = (t : Bounded) × (IsResult (t ∷ []) result × (t.kind ≡ answer_kind result) × IsFine t)

printed_result : {ts : List Bounded} {result : Kind3} → IsResult ts result → AreFine ts → PrintedResult result
printed_result (IsResult.int at d) fine = let type = printed_type d fine in (type_token at false, (IsResult.int at type.0, refl, type.1))
printed_result (IsResult.unsigned at d) fine = let type = printed_type d fine in (type_token at true, (IsResult.unsigned at type.0, refl, type.1))
printed_result (IsResult.void at) fine = (word at words.Void, (IsResult.void at, refl, fine.0))

abbrev PrintedParameter : Parameter → Type 0
PrintedParameter x = (us : List Bounded) × (IsParameter us x × (bounded_kinds us ≡ parameter_kinds x) × AreFine us)

printed_parameter : {ts : List Bounded} {x : Parameter} → IsParameter ts x → AreFine ts → PrintedParameter x
printed_parameter (IsParameter.typed {ts = ts} {is_unsigned = is_unsigned} first at text d) fine =
    let parts = fine-append ts (name at text ∷ []) fine in
    let type = printed_type d parts.0 in
    (type_token first is_unsigned ∷ name at text ∷ [], (IsParameter.typed first at text type.0, refl, (type.1, parts.1)))

abbrev PrintedListed : List Parameter → Type 0
PrintedListed xs =
    (us : List Bounded) × (AreListed us xs × (bounded_kinds us ≡ with_commas (map parameter_kinds xs))
    × (after_commas (map parameter_kinds xs) ≡ kinds.Sign signs.Comma ∷ with_commas (map parameter_kinds xs))
    × (kinds.Sign signs.LeftParenthesis ∷ (with_commas (map parameter_kinds xs) ++ kinds.Sign signs.RightParenthesis ∷ []) ≡ parameters_kinds xs)
    × AreFine us)

printed_listed : {ts : List Bounded} {xs : List Parameter} → AreListed ts xs → AreFine ts → PrintedListed xs
printed_listed (AreListed.one {x = x} d) fine =
    let r = printed_parameter d fine in
    (r.0, (AreListed.one r.1.0, r.1.1 ∙ sym (append-nil (parameter_kinds x)), refl, refl, r.1.2))
printed_listed (AreListed.further {ts = ts} {us = us} {x = x} {xs = xs} comma d d2) fine =
    let parts = fine-append ts (sign comma signs.Comma ∷ us) fine in
    let r = printed_parameter d parts.0 in
    let r2 = printed_listed d2 parts.1.1 in (
      r.0 ++ sign comma signs.Comma ∷ r2.0,
      (
        AreListed.further comma r.1.0 r2.1.0,
        piece r.0 (sign comma signs.Comma ∷ r2.0) r.1.1
            ∙ ap (λ ks. parameter_kinds x ++ kinds.Sign signs.Comma ∷ ks) r2.1.1
            ∙ ap (λ ks. parameter_kinds x ++ ks) (sym r2.1.2),
        refl,
        refl,
        fine-join r.0 (sign comma signs.Comma ∷ r2.0) r.1.2 (parts.1.0, r2.1.4),
      ),
    )

abbrev PrintedParameters : List Parameter → Type 0
PrintedParameters xs =
    (us : List Bounded) × (AreParameters us xs × (kinds.Sign signs.LeftParenthesis ∷ (bounded_kinds us ++ kinds.Sign signs.RightParenthesis ∷ []) ≡ parameters_kinds xs) × AreFine us)

printed_parameters : {ts : List Bounded} {xs : List Parameter} (left : Spot) → left.bound ≤ limit → AreParameters ts xs → AreFine ts → PrintedParameters xs
printed_parameters left le AreParameters.nothing fine = (word left words.Void ∷ [], (AreParameters.void left, refl, ((le, refl), tt)))
printed_parameters left le (AreParameters.void at) fine = (word at words.Void ∷ [], (AreParameters.void at, refl, fine))
printed_parameters left le (AreParameters.some d) fine =
    let r = printed_listed d fine in
    (r.0, (AreParameters.some r.1.0, ap (λ ks. kinds.Sign signs.LeftParenthesis ∷ (ks ++ kinds.Sign signs.RightParenthesis ∷ [])) r.1.1 ∙ r.1.3, r.1.4))

printed_private : {ts : List Bounded} {is_private : Bool} → IsPrivate ts is_private → bounded_kinds ts ≡ (if is_private then kinds.Word words.Private ∷ [] else [])
printed_private IsPrivate.nothing = refl
printed_private (IsPrivate.given at) = refl

-- the kinds of a function's parts
signature : (list block : List Bounded) (right start end : Spot) (params : List Parameter) (body : List Stmt)
    → kinds.Sign signs.LeftParenthesis ∷ (bounded_kinds list ++ kinds.Sign signs.RightParenthesis ∷ []) ≡ parameters_kinds params
    → bounded_kinds block ≡ in_a_row (map stmt_kinds body)
    → kinds.Sign signs.LeftParenthesis ∷ bounded_kinds (list ++ sign right signs.RightParenthesis ∷ sign start signs.LeftBrace ∷ (block ++ sign end signs.RightBrace ∷ []))
    ≡ parameters_kinds params ++ block_kinds body
signature list block right start end params body e f =
    ap (λ ks. kinds.Sign signs.LeftParenthesis ∷ ks)
    (piece list (sign right signs.RightParenthesis ∷ sign start signs.LeftBrace ∷ (block ++ sign end signs.RightBrace ∷ [])) refl
    ∙ ap (λ ks. bounded_kinds list ++ kinds.Sign signs.RightParenthesis ∷ kinds.Sign signs.LeftBrace ∷ ks) (piece block (sign end signs.RightBrace ∷ []) f)
    ∙ sym (append_assoc (bounded_kinds list) (kinds.Sign signs.RightParenthesis ∷ []) (block_kinds body)))
    ∙ ap (λ ks. ks ++ block_kinds body) e

function_kinds : (ts : List Bounded) (answer : Bounded) (rest : List Bounded) (before : List Kind) (first : Kind) (text : List ℕ) (at : Spot) (more : List Kind)
    → bounded_kinds ts ≡ before → answer.kind ≡ first → bounded_kinds rest ≡ more
    → bounded_kinds (ts ++ answer ∷ name at text ∷ rest) ≡ before ++ first ∷ kinds.Name text ∷ more
function_kinds ts answer rest before first text at more e f g =
    piece ts (answer ∷ name at text ∷ rest) e
    ∙ ap (λ k. before ++ k ∷ kinds.Name text ∷ bounded_kinds rest) f
    ∙ ap (λ ks. before ++ first ∷ kinds.Name text ∷ ks) g

abbrev PrintedItem : Item → Type 0
PrintedItem x = (us : List Bounded) × (IsItem us x × (bounded_kinds us ≡ item_kinds x) × AreFine us)

printed_item : {ts : List Bounded} {x : Item} → IsItem ts x → AreFine ts → PrintedItem x
printed_item (IsItem.object {ts = ts} {us = us} {vs = vs} {class = class} {is_unsigned = is_unsigned} {length = length} first at end text d d2 d3) fine =
    let p1 = fine-append ts (us ++ name at text ∷ (vs ++ sign end signs.Semicolon ∷ [])) fine in
    let p2 = fine-append us (name at text ∷ (vs ++ sign end signs.Semicolon ∷ [])) p1.1 in
    let p3 = fine-append vs (sign end signs.Semicolon ∷ []) p2.1.1 in
    let storage = printed_storage d p1.0 in
    let type = printed_type d2 p2.0 in
    let len = printed_length d3 p3.0 in
    let tail = type_token first is_unsigned ∷ name at text ∷ (len.0 ++ sign end signs.Semicolon ∷ []) in (
      storage.0 ++ tail,
      (
        IsItem.object first at end text storage.1.0 type.0 len.1.0,
        piece storage.0 tail storage.1.1
            ∙ ap (λ ks. storage_kinds class ++ type_kind is_unsigned ∷ kinds.Name text ∷ ks) (piece len.0 (sign end signs.Semicolon ∷ []) len.1.1),
        fine-join storage.0 tail storage.1.2 (type.1, (p2.1.0, fine-join len.0 (sign end signs.Semicolon ∷ []) len.1.2 p3.1)),
      ),
    )
printed_item (IsItem.constant {ts = ts} {us = us} {vs = vs} {is_unsigned = is_unsigned} {braces = braces} {length = length} {values = values} const first at equals end text d d2 d3) fine =
    let p1 = fine-append ts (name at text ∷ (us ++ sign equals signs.Assign ∷ (vs ++ sign end signs.Semicolon ∷ []))) fine.1 in
    let p2 = fine-append us (sign equals signs.Assign ∷ (vs ++ sign end signs.Semicolon ∷ [])) p1.1.1 in
    let type = printed_type d p1.0 in
    let len = printed_length d2 p2.0 in
    let tail = sign equals signs.Assign ∷ (vs ++ sign end signs.Semicolon ∷ []) in (
      word const words.Const ∷ type_token first is_unsigned ∷ name at text ∷ (len.0 ++ tail),
      (
        IsItem.constant const first at equals end text type.0 len.1.0 d3,
        ap (λ ks. kinds.Word words.Const ∷ type_kind is_unsigned ∷ kinds.Name text ∷ ks)
            (piece len.0 tail len.1.1 ∙ ap (λ ks. length_kinds length ++ kinds.Sign signs.Assign ∷ ks) (piece vs (sign end signs.Semicolon ∷ []) (printed_initial d3))),
        (fine.0, (type.1, (p1.1.0, fine-join len.0 tail len.1.2 p2.1))),
      ),
    )
printed_item (IsItem.untrusted first void at left inner right end text) fine = (
  word first words.Untrusted ∷ word void words.Void ∷ name at text ∷ sign left signs.LeftParenthesis ∷ word inner words.Void ∷ sign right signs.RightParenthesis ∷ sign end signs.Semicolon ∷ [],
  (IsItem.untrusted first void at left inner right end text, refl, fine),
)
printed_item (IsItem.function {ts = ts} {us = us} {vs = vs} {ws = ws} {is_private = is_private} {result = result} {params = params} {body = body} at left right start end text d d2 d3 d4) fine =
    let p1 = fine-append ts (us ++ name at text ∷ sign left signs.LeftParenthesis ∷ (vs ++ sign right signs.RightParenthesis ∷ sign start signs.LeftBrace ∷ (ws ++ sign end signs.RightBrace ∷ []))) fine in
    let p2 = fine-append us (name at text ∷ sign left signs.LeftParenthesis ∷ (vs ++ sign right signs.RightParenthesis ∷ sign start signs.LeftBrace ∷ (ws ++ sign end signs.RightBrace ∷ []))) p1.1 in
    let p3 = fine-append vs (sign right signs.RightParenthesis ∷ sign start signs.LeftBrace ∷ (ws ++ sign end signs.RightBrace ∷ [])) p2.1.1.1 in
    let p4 = fine-append ws (sign end signs.RightBrace ∷ []) p3.1.1.1 in
    let answer = printed_result d2 p2.0 in
    let list = printed_parameters left p2.1.1.0.0 d3 p3.0 in
    let block = printed_body d4 p4.0 in
    let tail2 = sign right signs.RightParenthesis ∷ sign start signs.LeftBrace ∷ (block.0 ++ sign end signs.RightBrace ∷ []) in
    let tail = answer.0 ∷ name at text ∷ sign left signs.LeftParenthesis ∷ (list.0 ++ tail2) in (
      ts ++ tail,
      (
        IsItem.function at left right start end text d answer.1.0 list.1.0 block.1.0,
        function_kinds ts answer.0 (sign left signs.LeftParenthesis ∷ (list.0 ++ tail2)) (if is_private then kinds.Word words.Private ∷ [] else []) (answer_kind result) text at
            (parameters_kinds params ++ block_kinds body) (printed_private d) answer.1.1 (signature list.0 block.0 right start end params body list.1.1 block.1.1),
        fine-join ts tail p1.0 (answer.1.2, (p2.1.0, (p2.1.1.0, fine-join list.0 tail2 list.1.2 (p3.1.0, (p3.1.1.0, fine-join block.0 (sign end signs.RightBrace ∷ []) block.1.2 p4.1))))),
      ),
    )

abbrev PrintedItems : List Item → Type 0
PrintedItems xs = (us : List Bounded) × (AreItems us xs × (bounded_kinds us ≡ items_kinds xs) × AreFine us)

printed_items : {ts : List Bounded} {xs : List Item} → AreItems ts xs → AreFine ts → PrintedItems xs
printed_items AreItems.nothing fine = ([], (AreItems.nothing, refl, tt))
printed_items (AreItems.further {ts = ts} {us = us} {x = x} {xs = xs} d d2) fine =
    let parts = fine-append ts us fine in
    let r = printed_item d parts.0 in
    let r2 = printed_items d2 parts.1 in
    (r.0 ++ r2.0, (AreItems.further r.1.0 r2.1.0, piece r.0 r2.0 r.1.1 ∙ ap (λ ks. item_kinds x ++ ks) r2.1.1, fine-join r.0 r2.0 r.1.2 r2.1.2))

-- the printed tokens of a program, where it was read from
pub printed_program : {ts : List Bounded} {p : Program} → IsProgram ts p → AreFine ts
    → (us : List Bounded) × (IsProgram us p × (bounded_kinds us ≡ program_kinds p) × AreFine us)
printed_program d fine = printed_items d fine
