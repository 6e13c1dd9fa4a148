-- Every program of the grammar is read, or nests too deep.
use Rattle.std.proofs.Common.{◌≡◌, ℕ, zero, ◌+◌, ◌<◌, length, Bool, true, false, cond, List, [], ◌∷◌, ◌++◌, Option, Some, None, refl, sym, ap, ◌∙◌, subst, arith, append_assoc, append-nil}
use Rattle.c_token.specs.declared.signs.Sign.TheVariants as signs
use Rattle.c_token.specs.declared.words.Word.{Word}
use Rattle.c_token.specs.declared.words.Word.TheVariants as words
use Rattle.c_grammar.specs.declared.stmt.Stmt.{Stmt}
use Rattle.c_grammar.specs.declared.item.Item.{Item}
use Rattle.c_grammar.specs.declared.item.Item.TheVariants as item
use Rattle.c_grammar.specs.declared.item.Storage.{Storage}
use Rattle.c_grammar.specs.declared.item.Storage.TheVariants as storage
use Rattle.c_grammar.specs.declared.item.Kind3.{Kind3}
use Rattle.c_grammar.specs.declared.item.Kind3.TheVariants as kind3
use Rattle.c_grammar.specs.declared.item.Parameter.{Parameter}
use Rattle.c_grammar.specs.declared.item.Value.{Value}
use Rattle.c_grammar.specs.declared.item.Program.{Program}
use Rattle.c_grammar.specs.BoundedTokens as g
use Rattle.c_grammar.specs.BoundedTokens.{Tok, Spot, Bounded, tok_of, toks_of}
use Rattle.c_grammar.specs.StatementGrammar as gs
use Rattle.c_grammar.specs.StatementGrammar.{IsType, Body}
use Rattle.c_grammar.specs.ProgramGrammar as gr
use Rattle.c_grammar.specs.ProgramGrammar.{IsStorage, IsLength, IsValue, AreValues, AreInitial, IsResult, IsParameter, AreListed, AreParameters, IsPrivate, IsItem, AreItems, IsProgram}
use Rattle.c_descent.specs.declared.parts.Named.{Named}
use Rattle.c_descent.specs.declared.parts.Heading.TheVariants as heading
use Rattle.c_descent.proofs.ListParser.{done, Parser, follow, ◌>>=◌, gives, first_kind, is_left, is_at_sign, is_at_word, sign_token, word_token, name_token, number_token, separated}
use Rattle.c_descent.proofs.StatementParser as st
use Rattle.c_descent.proofs.ProgramParser as p
use Rattle.c_descent.proofs.ProgramParser.{heading_of, heading_at, storage_of, result_kind}
use Rattle.c_descent.proofs.Holds.{Seq, seq, Mapped, mapped, Many, none_left, one_more, is_sign}
use Rattle.c_descent.proofs.Lists.{Comma}
use Rattle.c_descent.proofs.Comes.{To, arrives, Goes, step, map_to, sign_goes, name_goes, number_goes, word_goes}
use Rattle.c_descent.proofs.ComesLists.{all_reads, separated_reads}
use Rattle.c_descent.proofs.Bodies.{statement_at}
use Rattle.c_descent.proofs.Declaring.{parameter_at, full_parameter, value_at, full_value, item_at, item_takes, head_left}
use Rattle.c_descent.proofs.Understanding.{type_reads, braced_goes, statement_goes}

-- what a type begins with
module _ (us : List Bounded) (s : List Tok) where
  type_heading : (first : Spot) (ts : List Bounded) (u : Bool) → IsType first ts u → heading_of (first_kind (toks_of (ts ++ us) ++ s)) ≡ heading.Type
  type_heading _ _ u (gs.int first) = refl
  type_heading _ _ u (gs.unsigned first) = refl
  type_heading _ _ u (gs.unsigned_int first then) = refl

  type_no_void : (first : Spot) (ts : List Bounded) (u : Bool) → IsType first ts u → is_at_word words.Void (toks_of (ts ++ us) ++ s) ≡ false
  unfolding is_at_word
  type_no_void _ _ u (gs.int first) = refl
  type_no_void _ _ u (gs.unsigned first) = refl
  type_no_void _ _ u (gs.unsigned_int first then) = refl

  type_no_right : (first : Spot) (ts : List Bounded) (u : Bool) → IsType first ts u → is_at_sign signs.RightParenthesis (toks_of (ts ++ us) ++ s) ≡ false
  unfolding is_at_sign
  type_no_right _ _ u (gs.int first) = refl
  type_no_right _ _ u (gs.unsigned first) = refl
  type_no_right _ _ u (gs.unsigned_int first then) = refl

length_no_parenthesis : (ts : List Bounded) (x : Option ℕ) (end : Spot) (s : List Tok) → IsLength ts x → is_at_sign signs.LeftParenthesis (toks_of (ts ++ g.sign end signs.Semicolon ∷ []) ++ s) ≡ false
unfolding is_at_sign
length_no_parenthesis _ _ end s gr.IsLength.nothing = refl
length_no_parenthesis _ _ end s (gr.IsLength.given n u left at right) = refl

value_no_brace : (ts us : List Bounded) (x : Value) (s : List Tok) → IsValue ts x → is_at_sign signs.LeftBrace (toks_of (ts ++ us) ++ s) ≡ false
unfolding is_at_sign
value_no_brace _ us _ s (gr.plain value unsigned at) = refl
value_no_brace _ us _ s (gr.negative value unsigned minus at) = refl

values_front : (ts us : List Bounded) (x : Value) (xs : List Value) (comma : Spot) → IsValue ts x → Seq IsValue (λ x. Mapped (Many (Comma IsValue)) (λ xs. x ∷ xs)) us xs
    → Seq IsValue (λ x. Mapped (Many (Comma IsValue)) (λ xs. x ∷ xs)) (ts ++ g.sign comma signs.Comma ∷ us) (x ∷ xs)
values_front ts _ x zs comma h (seq {y} us vs k (mapped ys m q)) =
    seq ts (g.sign comma signs.Comma ∷ us ++ vs) h (mapped (y ∷ ys) (one_more (g.sign comma signs.Comma ∷ us) vs (seq (g.sign comma signs.Comma ∷ []) us (is_sign comma) k) m) (ap (λ zs. x ∷ zs) q))

values_seq : (ts : List Bounded) (xs : List Value) → AreValues ts xs → Seq IsValue (λ x. Mapped (Many (Comma IsValue)) (λ xs. x ∷ xs)) ts xs
values_seq ts _ (gr.AreValues.one {x} h) = subst (λ us. Seq IsValue (λ x. Mapped (Many (Comma IsValue)) (λ xs. x ∷ xs)) us (x ∷ [])) (append-nil ts) (seq ts [] h (mapped [] none_left refl))
values_seq _ _ (gr.AreValues.further {ts} {us} {x} {xs} comma h k) = values_front ts us x xs comma h (values_seq us xs k)

listed_front : (ts us : List Bounded) (x : Parameter) (xs : List Parameter) (comma : Spot) → IsParameter ts x → Seq IsParameter (λ x. Mapped (Many (Comma IsParameter)) (λ xs. x ∷ xs)) us xs
    → Seq IsParameter (λ x. Mapped (Many (Comma IsParameter)) (λ xs. x ∷ xs)) (ts ++ g.sign comma signs.Comma ∷ us) (x ∷ xs)
listed_front ts _ x zs comma h (seq {y} us vs k (mapped ys m q)) =
    seq ts (g.sign comma signs.Comma ∷ us ++ vs) h (mapped (y ∷ ys) (one_more (g.sign comma signs.Comma ∷ us) vs (seq (g.sign comma signs.Comma ∷ []) us (is_sign comma) k) m) (ap (λ zs. x ∷ zs) q))

listed_seq : (ts : List Bounded) (xs : List Parameter) → AreListed ts xs → Seq IsParameter (λ x. Mapped (Many (Comma IsParameter)) (λ xs. x ∷ xs)) ts xs
listed_seq ts _ (gr.AreListed.one {x} h) = subst (λ us. Seq IsParameter (λ x. Mapped (Many (Comma IsParameter)) (λ xs. x ∷ xs)) us (x ∷ [])) (append-nil ts) (seq ts [] h (mapped [] none_left refl))
listed_seq _ _ (gr.AreListed.further {ts} {us} {x} {xs} comma h k) = listed_front ts us x xs comma h (listed_seq us xs k)

parameter_no_right : (ts us : List Bounded) (x : Parameter) (s : List Tok) → IsParameter ts x → (is_at_sign signs.RightParenthesis (toks_of (ts ++ us) ++ s) ≡ false) × (is_at_word words.Void (toks_of (ts ++ us) ++ s) ≡ false)
parameter_no_right _ us _ s (gr.typed {ts} {is_unsigned} first at text t) = (
  ap (λ ts. is_at_sign signs.RightParenthesis (toks_of ts ++ s)) (append_assoc ts (g.name at text ∷ []) us) ∙ type_no_right (g.name at text ∷ us) s first ts is_unsigned t,
  ap (λ ts. is_at_word words.Void (toks_of ts ++ s)) (append_assoc ts (g.name at text ∷ []) us) ∙ type_no_void (g.name at text ∷ us) s first ts is_unsigned t,
)

listed_no_right : (ts : List Bounded) (xs : List Parameter) (s : List Tok) → AreListed ts xs → (is_at_sign signs.RightParenthesis (toks_of ts ++ s) ≡ false) × (is_at_word words.Void (toks_of ts ++ s) ≡ false)
listed_no_right ts _ s (gr.AreListed.one {x} h) = subst (λ us. (is_at_sign signs.RightParenthesis (toks_of us ++ s) ≡ false) × (is_at_word words.Void (toks_of us ++ s) ≡ false)) (append-nil ts) (parameter_no_right ts [] x s h)
listed_no_right _ _ s (gr.AreListed.further {ts} {us} {x} comma h k) = parameter_no_right ts (g.sign comma signs.Comma ∷ us) x s h

length_some : Parser (Option ℕ)
length_some s = follow (sign_token signs.LeftBracket s) (λ _ s. follow (number_token s) (λ found s. follow (sign_token signs.RightBracket s) (λ _. gives (Some found.value))))

length_if : Bool → Parser (Option ℕ)
length_if b s = cond b (length_some s) (done None s)

module _ (limit : ℕ) where
  length_goes : (ts us : List Bounded) (x : Option ℕ) (y : Bounded) (s : List Tok) → is_at_sign signs.LeftBracket (tok_of y ∷ s) ≡ false → IsLength ts x → Goes limit p.optional_length ts (tok_of y ∷ s) x
  unfolding p.optional_length is_at_sign length_some length_if
  length_goes _ us _ y s q gr.IsLength.nothing = subst (λ b. To limit [] (tok_of y ∷ s) (done None (tok_of y ∷ s)) (length_if b (tok_of y ∷ s))) (sym q) arrives
  length_goes _ us _ y s q (gr.IsLength.given n u left at right) = step limit (sign_token signs.LeftBracket) _ (g.sign left signs.LeftBracket ∷ []) (g.number at n u ∷ g.sign right signs.RightBracket ∷ []) (sign_goes limit signs.LeftBracket left _)
      (step limit number_token _ (g.number at n u ∷ []) (g.sign right signs.RightBracket ∷ []) (number_goes limit n u at _) (map_to limit (λ _. Some n) (sign_goes limit signs.RightBracket right _)))

  object_rest_goes : (class : Storage) (u : Bool) (text : List ℕ) (at end : Spot) (ts : List Bounded) (x : Option ℕ) (s : List Tok) → IsLength ts x
      → Goes limit (p.object_rest class u (record { name = text; token = at.place })) (ts ++ g.sign end signs.Semicolon ∷ []) s (item.Object class u text x at.place)
  unfolding p.object_rest is_at_sign
  object_rest_goes class u text at end ts x s h = step limit p.optional_length _ ts (g.sign end signs.Semicolon ∷ []) (length_goes ts [] x (g.sign end signs.Semicolon) _ refl h)
      (map_to limit (λ _. item.Object class u text x at.place) (sign_goes limit signs.Semicolon end s))

  -- a type and a name, and what follows
  after_type : {A : Type 0} (f : Bool → Named → Parser A) (first at : Spot) (text : List ℕ) (us ts : List Bounded) (u : Bool) (rest : List Tok) (x : A) → IsType first us u
      → Goes limit (f u (record { name = text; token = at.place })) ts rest x
      → Goes limit (st.type_name >>= (λ u. name_token >>= (λ found. f u found))) (us ++ (g.name at text ∷ ts)) rest x
  after_type f first at text us ts u rest x t h = step limit st.type_name (λ u. name_token >>= (λ found. f u found)) us (g.name at text ∷ ts) (type_reads limit first at text us u _ t)
      (step limit name_token (λ found. f u found) (g.name at text ∷ []) ts (name_goes limit text at _) h)

  stored_goes : (w : Word) (class : Storage) (before first at end : Spot) (text : List ℕ) (us ts : List Bounded) (u : Bool) (x : Option ℕ) (s : List Tok) → IsType first us u → IsLength ts x
      → Goes limit (p.object w class) (g.word before w ∷ us ++ (g.name at text ∷ ts ++ g.sign end signs.Semicolon ∷ [])) s (item.Object class u text x at.place)
  unfolding p.object
  stored_goes w class before first at end text us ts u x s t h = step limit (word_token w) _ (g.word before w ∷ []) (us ++ (g.name at text ∷ ts ++ g.sign end signs.Semicolon ∷ [])) (word_goes limit w before _)
      (after_type (p.object_rest class) first at text us (ts ++ g.sign end signs.Semicolon ∷ []) u s _ t (object_rest_goes class u text at end ts x s h))

  -- values
  value_goes : (ts : List Bounded) (x : Value) (s : List Tok) → IsValue ts x → Goes limit p.value ts s x
  unfolding p.value p.value_with p.negative_value is_at_sign
  value_goes _ _ s (gr.plain value unsigned at) = map_to limit (λ found. record { negative = false; value = found.value; unsigned = found.unsigned }) (number_goes limit value unsigned at s)
  value_goes _ _ s (gr.negative value unsigned minus at) = step limit (sign_token signs.Minus) _ (g.sign minus signs.Minus ∷ []) (g.number at value unsigned ∷ []) (sign_goes limit signs.Minus minus _)
      (map_to limit (λ found. record { negative = true; value = found.value; unsigned = found.unsigned }) (number_goes limit value unsigned at s))

  givens_goes : (ts : List Bounded) (xs : List Value) (braces : Bool) (end : Spot) (s : List Tok) → AreInitial ts xs braces
      → Goes limit p.values ts (tok_of (g.sign end signs.Semicolon) ∷ s) (record { values = xs; braces = braces })
  unfolding p.values p.one_value p.braced_values is_at_sign
  givens_goes ts _ _ end s (gr.single {x} h) = subst (λ b. To limit ts (tok_of (g.sign end signs.Semicolon) ∷ s) (done (record { values = x ∷ []; braces = false }) (tok_of (g.sign end signs.Semicolon) ∷ s))
      (cond b (p.braced_values (toks_of ts ++ (tok_of (g.sign end signs.Semicolon) ∷ s))) (follow (p.value (toks_of ts ++ (tok_of (g.sign end signs.Semicolon) ∷ s))) (λ only. gives (record { values = only ∷ []; braces = false })))))
      (sym (ap (λ us. is_at_sign signs.LeftBrace (toks_of us ++ (tok_of (g.sign end signs.Semicolon) ∷ s))) (sym (append-nil ts)) ∙ value_no_brace ts [] x _ h))
      (map_to limit (λ only. record { values = only ∷ []; braces = false }) (value_goes ts x _ h))
  givens_goes _ xs _ end s (gr.braced {ts} left right h) = step limit (sign_token signs.LeftBrace) _ (g.sign left signs.LeftBrace ∷ []) (ts ++ g.sign right signs.RightBrace ∷ []) (sign_goes limit signs.LeftBrace left _)
      (step limit (separated p.value) _ ts (g.sign right signs.RightBrace ∷ [])
      (separated_reads limit (value_at limit) (full_value limit) (λ s. Unit {0}) (λ at s. tt) (λ ts x s h n. value_goes ts x s h) ts xs _ (values_seq ts xs h) tt refl)
      (map_to limit (λ _. record { values = xs; braces = true }) (sign_goes limit signs.RightBrace right _)))

  constant_goes : (const first at equals end : Spot) (text : List ℕ) (ts us vs : List Bounded) (u braces : Bool) (length : Option ℕ) (values : List Value) (s : List Tok)
      → IsType first ts u → IsLength us length → AreInitial vs values braces
      → Goes limit p.constant (g.word const words.Const ∷ ts ++ (g.name at text ∷ us ++ (g.sign equals signs.Assign ∷ vs ++ g.sign end signs.Semicolon ∷ []))) s (item.Constant u text length values braces at.place)
  unfolding p.constant p.constant_rest is_at_sign
  constant_goes const first at equals end text ts us vs u braces length values s t h v =
      step limit (word_token words.Const) _ (g.word const words.Const ∷ []) (ts ++ (g.name at text ∷ us ++ (g.sign equals signs.Assign ∷ vs ++ g.sign end signs.Semicolon ∷ []))) (word_goes limit words.Const const _)
      (after_type p.constant_rest first at text ts (us ++ (g.sign equals signs.Assign ∷ vs ++ g.sign end signs.Semicolon ∷ [])) u s _ t
      (step limit p.optional_length _ us (g.sign equals signs.Assign ∷ vs ++ g.sign end signs.Semicolon ∷ []) (length_goes us [] length (g.sign equals signs.Assign) _ refl h)
      (step limit (sign_token signs.Assign) _ (g.sign equals signs.Assign ∷ []) (vs ++ g.sign end signs.Semicolon ∷ []) (sign_goes limit signs.Assign equals _)
      (step limit p.values _ vs (g.sign end signs.Semicolon ∷ []) (givens_goes vs values braces end s v)
      (map_to limit (λ _. item.Constant u text length values braces at.place) (sign_goes limit signs.Semicolon end s))))))

  untrusted_goes : (first void at left inner right end : Spot) (text : List ℕ) (s : List Tok)
      → Goes limit p.untrusted (g.word first words.Untrusted ∷ g.word void words.Void ∷ g.name at text ∷ g.sign left signs.LeftParenthesis ∷ g.word inner words.Void ∷ g.sign right signs.RightParenthesis ∷ g.sign end signs.Semicolon ∷ []) s (item.Untrusted text at.place)
  unfolding p.untrusted p.no_parameters
  untrusted_goes first void at left inner right end text s =
      step limit (word_token words.Untrusted) _ (g.word first words.Untrusted ∷ []) (g.word void words.Void ∷ g.name at text ∷ g.sign left signs.LeftParenthesis ∷ g.word inner words.Void ∷ g.sign right signs.RightParenthesis ∷ g.sign end signs.Semicolon ∷ []) (word_goes limit words.Untrusted first _)
      (step limit (word_token words.Void) _ (g.word void words.Void ∷ []) (g.name at text ∷ g.sign left signs.LeftParenthesis ∷ g.word inner words.Void ∷ g.sign right signs.RightParenthesis ∷ g.sign end signs.Semicolon ∷ []) (word_goes limit words.Void void _)
      (step limit name_token _ (g.name at text ∷ []) (g.sign left signs.LeftParenthesis ∷ g.word inner words.Void ∷ g.sign right signs.RightParenthesis ∷ g.sign end signs.Semicolon ∷ []) (name_goes limit text at _)
      (map_to limit (λ _. item.Untrusted text at.place)
      (step limit (sign_token signs.LeftParenthesis) _ (g.sign left signs.LeftParenthesis ∷ []) (g.word inner words.Void ∷ g.sign right signs.RightParenthesis ∷ g.sign end signs.Semicolon ∷ []) (sign_goes limit signs.LeftParenthesis left _)
      (step limit (word_token words.Void) _ (g.word inner words.Void ∷ []) (g.sign right signs.RightParenthesis ∷ g.sign end signs.Semicolon ∷ []) (word_goes limit words.Void inner _)
      (step limit (sign_token signs.RightParenthesis) _ (g.sign right signs.RightParenthesis ∷ []) (g.sign end signs.Semicolon ∷ []) (sign_goes limit signs.RightParenthesis right _)
      (sign_goes limit signs.Semicolon end s)))))))

  -- parameters
  parameter_goes : (ts : List Bounded) (x : Parameter) (s : List Tok) → IsParameter ts x → Goes limit p.one_parameter ts s x
  unfolding p.one_parameter
  parameter_goes _ _ s (gr.typed {ts} {is_unsigned} first at text t) = step limit st.type_name _ ts (g.name at text ∷ []) (type_reads limit first at text ts is_unsigned _ t)
      (map_to limit (λ found. record { unsigned = is_unsigned; name = found.name; token = found.token }) (name_goes limit text at s))

  listed_goes : (ts : List Bounded) (xs : List Parameter) (right : Spot) (s : List Tok) → AreParameters ts xs → Goes limit p.parameter_list ts (tok_of (g.sign right signs.RightParenthesis) ∷ s) xs
  unfolding p.parameter_list p.void_list is_at_sign is_at_word
  listed_goes _ _ right s gr.AreParameters.nothing = arrives
  listed_goes _ _ right s (gr.AreParameters.void at) = map_to limit (λ _. []) (word_goes limit words.Void at _)
  listed_goes ts xs right s (gr.AreParameters.some h) =
      subst (λ b. To limit ts (tok_of (g.sign right signs.RightParenthesis) ∷ s) (done xs (tok_of (g.sign right signs.RightParenthesis) ∷ s))
      (cond b (done [] (toks_of ts ++ (tok_of (g.sign right signs.RightParenthesis) ∷ s)))
      (cond (is_at_word words.Void (toks_of ts ++ (tok_of (g.sign right signs.RightParenthesis) ∷ s))) (p.void_list (toks_of ts ++ (tok_of (g.sign right signs.RightParenthesis) ∷ s))) (separated p.one_parameter (toks_of ts ++ (tok_of (g.sign right signs.RightParenthesis) ∷ s))))))
      (sym (listed_no_right ts xs _ h).0)
      (subst (λ b. To limit ts (tok_of (g.sign right signs.RightParenthesis) ∷ s) (done xs (tok_of (g.sign right signs.RightParenthesis) ∷ s))
      (cond b (p.void_list (toks_of ts ++ (tok_of (g.sign right signs.RightParenthesis) ∷ s))) (separated p.one_parameter (toks_of ts ++ (tok_of (g.sign right signs.RightParenthesis) ∷ s)))))
      (sym (listed_no_right ts xs _ h).1)
      (separated_reads limit (parameter_at limit) (full_parameter limit) (λ s. Unit {0}) (λ at s. tt) (λ ts x s h n. parameter_goes ts x s h) ts xs _ (listed_seq ts xs h) tt refl))

  parameters_goes : (ts : List Bounded) (xs : List Parameter) (left right : Spot) (s : List Tok) → AreParameters ts xs
      → Goes limit p.parameters (g.sign left signs.LeftParenthesis ∷ ts ++ g.sign right signs.RightParenthesis ∷ []) s xs
  unfolding p.parameters
  parameters_goes ts xs left right s h = step limit (sign_token signs.LeftParenthesis) _ (g.sign left signs.LeftParenthesis ∷ []) (ts ++ g.sign right signs.RightParenthesis ∷ []) (sign_goes limit signs.LeftParenthesis left _)
      (step limit p.parameter_list _ ts (g.sign right signs.RightParenthesis ∷ []) (listed_goes ts xs right s h) (map_to limit (λ _. xs) (sign_goes limit signs.RightParenthesis right s)))

  module _ (levels : ℕ) (e : 0 + levels ≡ limit) where
    -- what stands after a function's name
    abbrev rest_tokens : (vs ws : List Bounded) (left right start end : Spot) → List Bounded
    rest_tokens vs ws left right start end = g.sign left signs.LeftParenthesis ∷ vs ++ (g.sign right signs.RightParenthesis ∷ g.sign start signs.LeftBrace ∷ ws ++ g.sign end signs.RightBrace ∷ [])

    function_rest_goes : (b : Bool) (result : Kind3) (text : List ℕ) (at left right start end : Spot) (vs ws : List Bounded) (params : List Parameter) (body : List Stmt) (s : List Tok)
        → AreParameters vs params → Body zero ws body
        → Goes limit (p.function_rest limit levels b result (record { name = text; token = at.place })) (rest_tokens vs ws left right start end) s (item.Function b result text params body at.place)
    unfolding p.function_rest
    function_rest_goes b result text at left right start end vs ws params body s h k =
        subst (λ ts. Goes limit (p.function_rest limit levels b result (record { name = text; token = at.place })) (g.sign left signs.LeftParenthesis ∷ ts) s (item.Function b result text params body at.place))
        (append_assoc vs (g.sign right signs.RightParenthesis ∷ []) (g.sign start signs.LeftBrace ∷ ws ++ g.sign end signs.RightBrace ∷ []))
        (step limit p.parameters _ (g.sign left signs.LeftParenthesis ∷ vs ++ g.sign right signs.RightParenthesis ∷ []) (g.sign start signs.LeftBrace ∷ ws ++ g.sign end signs.RightBrace ∷ [])
        (parameters_goes vs params left right _ h)
        (map_to limit (λ block. item.Function b result text params block.body at.place)
        (braced_goes limit levels 0 e (statement_at limit levels 0 e) (statement_goes limit levels 0 e) ws body start end s k)))

    void_function_goes : (b : Bool) (void at left right start end : Spot) (text : List ℕ) (vs ws : List Bounded) (params : List Parameter) (body : List Stmt) (s : List Tok)
        → AreParameters vs params → Body zero ws body
        → Goes limit (p.void_function limit levels b) (g.word void words.Void ∷ g.name at text ∷ rest_tokens vs ws left right start end) s (item.Function b kind3.Void text params body at.place)
    unfolding p.void_function
    void_function_goes b void at left right start end text vs ws params body s h k =
        step limit (word_token words.Void) _ (g.word void words.Void ∷ []) (g.name at text ∷ rest_tokens vs ws left right start end) (word_goes limit words.Void void _)
        (step limit name_token _ (g.name at text ∷ []) (rest_tokens vs ws left right start end) (name_goes limit text at _)
        (function_rest_goes b kind3.Void text at left right start end vs ws params body s h k))

    typed_function_goes : (b u : Bool) (first at left right start end : Spot) (text : List ℕ) (us vs ws : List Bounded) (params : List Parameter) (body : List Stmt) (s : List Tok)
        → IsType first us u → AreParameters vs params → Body zero ws body
        → Goes limit (p.typed_item limit levels b) (us ++ (g.name at text ∷ rest_tokens vs ws left right start end)) s (item.Function b (result_kind u) text params body at.place)
    unfolding p.typed_item p.typed_rest is_at_sign
    typed_function_goes b u first at left right start end text us vs ws params body s t h k =
        after_type (p.typed_rest limit levels b) first at text us (rest_tokens vs ws left right start end) u s _ t
        (function_rest_goes b (result_kind u) text at left right start end vs ws params body s h k)

    typed_object_goes : (b u : Bool) (first at end : Spot) (text : List ℕ) (us ts : List Bounded) (x : Option ℕ) (s : List Tok) → IsType first us u → IsLength ts x
        → Goes limit (p.typed_item limit levels b) (us ++ (g.name at text ∷ ts ++ g.sign end signs.Semicolon ∷ [])) s (item.Object (storage_of b) u text x at.place)
    unfolding p.typed_item p.typed_rest
    typed_object_goes b u first at end text us ts x s t h =
        after_type (p.typed_rest limit levels b) first at text us (ts ++ g.sign end signs.Semicolon ∷ []) u s _ t
        (subst (λ q. To limit (ts ++ g.sign end signs.Semicolon ∷ []) s (done (item.Object (storage_of b) u text x at.place) s)
        (cond q (p.function_rest limit levels b (result_kind u) (record { name = text; token = at.place }) (toks_of (ts ++ g.sign end signs.Semicolon ∷ []) ++ s))
        (p.object_rest (storage_of b) u (record { name = text; token = at.place }) (toks_of (ts ++ g.sign end signs.Semicolon ∷ []) ++ s))))
        (sym (length_no_parenthesis ts x end s h)) (object_rest_goes (storage_of b) u text at end ts x s h))

    -- after `__private` or nothing
    declared_typed : (b u : Bool) (first : Spot) (us ts : List Bounded) (x : Item) (s : List Tok) → IsType first us u → Goes limit (p.typed_item limit levels b) (us ++ ts) s x
        → Goes limit (p.declared limit levels b) (us ++ ts) s x
    unfolding p.declared
    declared_typed b u first us ts x s t h = subst (λ q. To limit (us ++ ts) s (done x s) (cond q (p.void_function limit levels b (toks_of (us ++ ts) ++ s)) (p.typed_item limit levels b (toks_of (us ++ ts) ++ s))))
        (sym (type_no_void ts s first us u t)) h

    private_goes : (at : Spot) (ts : List Bounded) (x : Item) (s : List Tok) → Goes limit (p.declared limit levels true) ts s x
        → Goes limit (p.item_inside limit levels) (g.word at words.Private ∷ ts) s x
    unfolding p.item_inside heading_at p.private_item
    private_goes at ts x s h = step limit (word_token words.Private) (λ _. p.declared limit levels true) (g.word at words.Private ∷ []) ts (word_goes limit words.Private at _) h

    typed_item_goes : (u : Bool) (first : Spot) (us ts : List Bounded) (x : Item) (s : List Tok) → IsType first us u → Goes limit (p.typed_item limit levels false) (us ++ ts) s x
        → Goes limit (p.item_inside limit levels) (us ++ ts) s x
    unfolding p.item_inside heading_at
    typed_item_goes u first us ts x s t h = subst (λ k. To limit (us ++ ts) s (done x s) (p.item_by limit levels k (toks_of (us ++ ts) ++ s))) (sym (type_heading ts s first us u t)) h

    object_goes : (class : Storage) (u : Bool) (first at end : Spot) (text : List ℕ) (ts us vs : List Bounded) (x : Option ℕ) (s : List Tok) → IsStorage ts class → IsType first us u → IsLength vs x
        → Goes limit (p.item_inside limit levels) (ts ++ (us ++ (g.name at text ∷ vs ++ g.sign end signs.Semicolon ∷ []))) s (item.Object class u text x at.place)
    unfolding p.item_inside heading_at
    object_goes _ u first at end text _ us vs x s gr.IsStorage.nothing t h = typed_item_goes u first us _ _ s t (typed_object_goes false u first at end text us vs x s t h)
    object_goes _ u first at end text _ us vs x s (gr.IsStorage.verified before) t h = stored_goes words.Verified storage.Verified before first at end text us vs u x s t h
    object_goes _ u first at end text _ us vs x s (gr.IsStorage.private before) t h =
        private_goes before (us ++ (g.name at text ∷ vs ++ g.sign end signs.Semicolon ∷ [])) _ s (declared_typed true u first us _ _ s t (typed_object_goes true u first at end text us vs x s t h))
    object_goes _ u first at end text _ us vs x s (gr.IsStorage.shared before) t h = stored_goes words.Shared storage.Shared before first at end text us vs u x s t h
    object_goes _ u first at end text _ us vs x s (gr.IsStorage.logged before) t h = stored_goes words.Logged storage.Logged before first at end text us vs u x s t h

    -- the function's answer and name, and what follows, after `__private`
    private_function : (result : Kind3) (at left right start end : Spot) (text : List ℕ) (us vs ws : List Bounded) (params : List Parameter) (body : List Stmt) (s : List Tok)
        → IsResult us result → AreParameters vs params → Body zero ws body
        → Goes limit (p.declared limit levels true) (us ++ (g.name at text ∷ rest_tokens vs ws left right start end)) s (item.Function true result text params body at.place)
    unfolding p.declared is_at_word
    private_function _ at left right start end text us vs ws params body s (gr.IsResult.int first t) h k =
        declared_typed true false first us _ _ s t (typed_function_goes true false first at left right start end text us vs ws params body s t h k)
    private_function _ at left right start end text us vs ws params body s (gr.IsResult.unsigned first t) h k =
        declared_typed true true first us _ _ s t (typed_function_goes true true first at left right start end text us vs ws params body s t h k)
    private_function _ at left right start end text _ vs ws params body s (gr.IsResult.void void) h k = void_function_goes true void at left right start end text vs ws params body s h k

    plain_function : (result : Kind3) (at left right start end : Spot) (text : List ℕ) (us vs ws : List Bounded) (params : List Parameter) (body : List Stmt) (s : List Tok)
        → IsResult us result → AreParameters vs params → Body zero ws body
        → Goes limit (p.item_inside limit levels) (us ++ (g.name at text ∷ rest_tokens vs ws left right start end)) s (item.Function false result text params body at.place)
    unfolding p.item_inside heading_at
    plain_function _ at left right start end text us vs ws params body s (gr.IsResult.int first t) h k =
        typed_item_goes false first us _ _ s t (typed_function_goes false false first at left right start end text us vs ws params body s t h k)
    plain_function _ at left right start end text us vs ws params body s (gr.IsResult.unsigned first t) h k =
        typed_item_goes true first us _ _ s t (typed_function_goes false true first at left right start end text us vs ws params body s t h k)
    plain_function _ at left right start end text _ vs ws params body s (gr.IsResult.void void) h k = void_function_goes false void at left right start end text vs ws params body s h k

    function_goes : (b : Bool) (result : Kind3) (at left right start end : Spot) (text : List ℕ) (ts us vs ws : List Bounded) (params : List Parameter) (body : List Stmt) (s : List Tok)
        → IsPrivate ts b → IsResult us result → AreParameters vs params → Body zero ws body
        → Goes limit (p.item_inside limit levels) (ts ++ (us ++ (g.name at text ∷ rest_tokens vs ws left right start end))) s (item.Function b result text params body at.place)
    function_goes _ result at left right start end text _ us vs ws params body s gr.IsPrivate.nothing r h k = plain_function result at left right start end text us vs ws params body s r h k
    function_goes _ result at left right start end text _ us vs ws params body s (gr.IsPrivate.given before) r h k =
        private_goes before (us ++ (g.name at text ∷ rest_tokens vs ws left right start end)) _ s (private_function result at left right start end text us vs ws params body s r h k)

    item_goes : (ts : List Bounded) (x : Item) (s : List Tok) → IsItem ts x → Goes limit (p.item_inside limit levels) ts s x
    unfolding p.item_inside heading_at
    item_goes _ _ s (gr.object {ts} {us} {vs} {class} {is_unsigned} {length} first at end text c t h) = object_goes class is_unsigned first at end text ts us vs length s c t h
    item_goes _ _ s (gr.constant {ts} {us} {vs} {is_unsigned} {braces} {length} {values} const first at equals end text t h v) = constant_goes const first at equals end text ts us vs is_unsigned braces length values s t h v
    item_goes _ _ s (gr.untrusted first void at left inner right end text) = untrusted_goes first void at left inner right end text s
    item_goes _ _ s (gr.function {ts} {us} {vs} {ws} {is_private} {result} {params} {body} at left right start end text q r a k) = function_goes is_private result at left right start end text ts us vs ws params body s q r a k

    items_many : (ts : List Bounded) (xs : List Item) → AreItems ts xs → Many IsItem ts xs
    items_many _ _ gr.AreItems.nothing = none_left
    items_many _ _ (gr.AreItems.further {ts} {us} {x} {xs} h m) = one_more ts us h (items_many us xs m)

    left_of : (ts : List Bounded) (s : List Tok) → 0 < length ts → is_left (toks_of ts ++ s) ≡ true
    left_of [] s h = absurd (omega (arith, h))
    left_of (t ∷ ts) s h = refl

    pub program_goes : (ts : List Bounded) (x : Program) → IsProgram ts x → Goes limit (p.program limit levels) ts [] x
    unfolding p.program p.items
    program_goes ts x h = map_to limit (λ trees. record { items = trees })
        (all_reads limit is_left (head_left limit levels e) (item_at limit levels e) (item_takes limit levels e) (λ s. Unit {0})
        (λ ts x s h. left_of ts s (item_takes limit levels e ts x h)) (λ ts x s h. tt) (λ ts x s h n. item_goes ts x s h) ts x.items [] (items_many ts x.items h) tt refl)
