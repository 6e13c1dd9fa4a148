-- Declarations and whole programs.
use Rattle.std.proofs.Common.{◌≡◌, ℕ, ◌+◌, ◌<◌, length, Bool, true, false, is_some, List, [], ◌∷◌, ◌++◌, Option, Some, None, refl, sym, ap, ◌∙◌, subst, arith, append_assoc, length-append}
use Rattle.c_token.specs.declared.signs.Sign.TheVariants as signs
use Rattle.c_token.specs.declared.words.Word.{Word}
use Rattle.c_token.specs.declared.words.Word.TheVariants as words
use Rattle.c_grammar.specs.declared.item.Item.{Item}
use Rattle.c_grammar.specs.declared.item.Item.TheVariants as item
use Rattle.c_grammar.specs.declared.item.Storage.{Storage}
use Rattle.c_grammar.specs.declared.item.Storage.TheVariants as storage
use Rattle.c_grammar.specs.declared.item.Kind3.{Kind3}
use Rattle.c_grammar.specs.declared.item.Kind3.TheVariants as kind3
use Rattle.c_grammar.specs.declared.item.Parameter.{Parameter}
use Rattle.c_grammar.specs.declared.item.Value.{Value}
use Rattle.c_grammar.specs.declared.item.Program.{Program}
use Rattle.c_grammar.specs.BoundedTokens as g
use Rattle.c_grammar.specs.BoundedTokens.{Tok, Spot, Bounded}
use Rattle.c_grammar.specs.StatementGrammar as gs
use Rattle.c_grammar.specs.StatementGrammar.{IsType, Body}
use Rattle.c_grammar.specs.ProgramGrammar as gr
use Rattle.c_grammar.specs.ProgramGrammar.{IsStorage, IsLength, IsValue, AreValues, AreInitial, IsResult, IsParameter, AreListed, AreParameters, IsPrivate, IsItem, AreItems, IsProgram}
use Rattle.c_descent.specs.declared.parts.Named.{Named}
use Rattle.c_descent.specs.declared.parts.Braces.{Braces}
use Rattle.c_descent.specs.declared.parts.Heading.{Heading}
use Rattle.c_descent.specs.declared.parts.Heading.TheVariants as heading
use Rattle.c_descent.specs.declared.parts.Given.{Given}
use Rattle.c_descent.proofs.ListParser.{is_left, separated}
use Rattle.c_descent.proofs.StatementParser as st
use Rattle.c_descent.proofs.ProgramParser as p
use Rattle.c_descent.proofs.ProgramParser.{heading_of, heading_at, storage_of, result_kind}
use Rattle.c_descent.proofs.Holds.{Seq, seq, Mapped, mapped, Alike, Holds, Always, Full, mono, bind, mapping, dispatch, head_kind, Nothing, nothing, giving, free, no_text, full_seq, full_mapped, full_sign, full_word, full_name, full_number, Takes, Many, none_left, one_more, IsSign, is_sign, signing, IsWord, is_word, wording, IsName, is_name, naming, IsNumber, is_number, numbering, refusing}
use Rattle.c_descent.proofs.Lists.{listing, separating, separated_made, Comma}
use Rattle.c_descent.proofs.Expressing.{if_sign}
use Rattle.c_descent.proofs.Stating.{if_word, Typed, typed, type_at, full_type}
use Rattle.c_descent.proofs.Bodies.{Braced, braced_at, full_body, statement_at}

-- a type at whatever spot
abbrev Any : Spot → Type 0
Any at = Unit {0}

module _ (limit : ℕ) where
  any_type : Always limit st.type_name (Typed Any)
  any_type = type_at limit Any (λ place. tt) free tt

  full_any : Full (Typed Any)
  full_any = full_type limit Any (λ place. tt) free tt

  length_made : (ts : List Bounded) (x : Option ℕ)
      → Seq (IsSign signs.LeftBracket) (λ _. Seq IsNumber (λ found. Mapped (IsSign signs.RightBracket) (λ _. Some found.value))) ts x → IsLength ts x
  length_made _ x (seq _ _ (is_sign left) (seq _ _ (is_number at value unsigned) (mapped _ (is_sign right) q))) =
      subst (λ x. IsLength (g.sign left signs.LeftBracket ∷ g.number at value unsigned ∷ g.sign right signs.RightBracket ∷ []) x) (sym q) (gr.given value unsigned left at right)

  length_none : (ts : List Bounded) (x : Option ℕ) → Nothing None ts x → IsLength ts x
  length_none _ _ nothing = gr.IsLength.nothing

  length_at : Always limit p.optional_length IsLength
  unfolding p.optional_length
  length_at s = if_sign limit signs.LeftBracket _ _ s
      (λ q. mono limit length_made (bind limit _ (λ _. full_seq full_number (λ found. full_mapped _ (full_sign signs.RightBracket))) (signing limit signs.LeftBracket)
      (λ _. bind limit _ (λ found. full_mapped _ (full_sign signs.RightBracket)) (numbering limit) (λ found. mapping limit _ (signing limit signs.RightBracket))) s))
      (λ q. mono limit length_none (giving limit None s))

  full_length : Full IsLength
  full_length = ([], None, gr.IsLength.nothing)

  -- a name as the parser has it
  abbrev named : Named → ℕ → Bounded
  named found bound = g.name (record { place = found.token; bound = bound }) found.name

  -- what stands after the name of an object
  ObjectRest : Storage → Bool → Named → List Bounded → Item → Type 0
  ObjectRest class u found ts x = (pre us : List Bounded) (first : Spot) (bound : ℕ) → IsStorage pre class → IsType first us u → IsItem (pre ++ (us ++ (named found bound ∷ ts))) x

  object_made : (class : Storage) (u : Bool) (found : Named) (ts : List Bounded) (x : Item)
      → Seq IsLength (λ length. Mapped (IsSign signs.Semicolon) (λ _. item.Object class u found.name length found.token)) ts x → ObjectRest class u found ts x
  unfolding ObjectRest
  object_made class u found _ x (seq ts _ h (mapped _ (is_sign end) q)) pre us first bound c t =
      subst (λ x. IsItem (pre ++ (us ++ (named found bound ∷ ts ++ g.sign end signs.Semicolon ∷ []))) x) (sym q)
      (gr.object first (record { place = found.token; bound = bound }) end found.name c t h)

  object_rest_at : (class : Storage) (u : Bool) (found : Named) → Always limit (p.object_rest class u found) (ObjectRest class u found)
  unfolding p.object_rest
  object_rest_at class u found s = mono limit (object_made class u found)
      (bind limit _ (λ length. full_mapped _ (full_sign signs.Semicolon)) length_at (λ length. mapping limit _ (signing limit signs.Semicolon)) s)

  full_object_rest : (class : Storage) (u : Bool) (found : Named) → Full (ObjectRest class u found)
  full_object_rest class u found = (_, _, object_made class u found _ _ (full_seq full_length (λ length. full_mapped (λ _. item.Object class u found.name length found.token) (full_sign signs.Semicolon))).2)

  stored_made : (w : Word) (class : Storage) → ((at : Spot) → IsStorage (g.word at w ∷ []) class) → (ts : List Bounded) (x : Item)
      → Seq (IsWord w) (λ _. Seq (Typed Any) (λ u. Seq IsName (λ found. ObjectRest class u found))) ts x → IsItem ts x
  unfolding ObjectRest
  stored_made w class k _ x (seq _ _ (is_word before) (seq us _ (typed first _ t) (seq _ ts (is_name at text) r))) =
      r (g.word before w ∷ []) us first at.bound (k before) t

  stored_at : (w : Word) (class : Storage) → ((at : Spot) → IsStorage (g.word at w ∷ []) class) → Always limit (p.object w class) IsItem
  unfolding p.object
  stored_at w class k s = mono limit (stored_made w class k)
      (bind limit _ (λ _. full_seq full_any (λ u. full_seq full_name (λ found. full_object_rest class u found))) (wording limit w)
      (λ _. bind limit _ (λ u. full_seq full_name (λ found. full_object_rest class u found)) any_type
      (λ u. bind limit _ (λ found. full_object_rest class u found) (naming limit) (λ found. object_rest_at class u found))) s)

  -- values
  value_made : (negative : Bool) (ts : List Bounded) (x : Value) → Mapped IsNumber (λ found. record { negative = negative; value = found.value; unsigned = found.unsigned }) ts x
      → (at : Spot) × (value : ℕ) × (unsigned : Bool) × (ts ≡ g.number at value unsigned ∷ []) × (x ≡ record { negative = negative; value = value; unsigned = unsigned })
  value_made negative _ x (mapped _ (is_number at value unsigned) q) = (at, value, unsigned, refl, q)

  plain_made : (ts : List Bounded) (x : Value) → Mapped IsNumber (λ found. record { negative = false; value = found.value; unsigned = found.unsigned }) ts x → IsValue ts x
  plain_made _ x (mapped _ (is_number at value unsigned) q) = subst (λ x. IsValue (g.number at value unsigned ∷ []) x) (sym q) (gr.plain value unsigned at)

  negative_made : (ts : List Bounded) (x : Value)
      → Seq (IsSign signs.Minus) (λ _. Mapped IsNumber (λ found. record { negative = true; value = found.value; unsigned = found.unsigned })) ts x → IsValue ts x
  negative_made _ x (seq _ _ (is_sign minus) (mapped _ (is_number at value unsigned) q)) =
      subst (λ x. IsValue (g.sign minus signs.Minus ∷ g.number at value unsigned ∷ []) x) (sym q) (gr.negative value unsigned minus at)

  pub value_at : Always limit p.value IsValue
  unfolding p.value p.negative_value p.value_with
  value_at s = if_sign limit signs.Minus _ _ s
      (λ q. mono limit negative_made (bind limit _ (λ _. full_mapped _ full_number) (signing limit signs.Minus) (λ _. mapping limit _ (numbering limit)) s))
      (λ q. mono limit plain_made (mapping limit _ (numbering limit) s))

  pub full_value : Full IsValue
  full_value = (_, _, gr.plain 0 false free)

  values_made : (ts : List Bounded) (xs : List Value) → Seq IsValue (λ x. Mapped (Many (Comma IsValue)) (λ xs. x ∷ xs)) ts xs → AreValues ts xs
  values_made ts xs h = separated_made AreValues (λ ts x h. gr.AreValues.one h) (λ ts us x xs comma h k. gr.AreValues.further comma h k) ts xs h

  Givens : List Bounded → Given → Type 0
  Givens ts x = AreInitial ts x.values x.braces

  single_made : (ts : List Bounded) (x : Given) → Mapped IsValue (λ only. record { values = only ∷ []; braces = false }) ts x → Givens ts x
  unfolding Givens
  single_made ts x (mapped only h q) = subst (λ x. AreInitial ts x.values x.braces) (sym q) (gr.single h)

  Braceds : List Bounded → Given → Type 0
  Braceds = Seq (IsSign signs.LeftBrace) (λ _. Seq AreValues (λ values. Mapped (IsSign signs.RightBrace) (λ _. record { values = values; braces = true })))

  braced_made : (ts : List Bounded) (x : Given) → Braceds ts x → Givens ts x
  unfolding Givens Braceds
  braced_made _ x (seq _ _ (is_sign left) (seq ts _ h (mapped _ (is_sign right) q))) =
      subst (λ x. AreInitial (g.sign left signs.LeftBrace ∷ ts ++ g.sign right signs.RightBrace ∷ []) x.values x.braces) (sym q) (gr.braced left right h)

  listed_values : Always limit (separated p.value) AreValues
  listed_values s = mono limit values_made (separating limit value_at full_value s)

  full_values : Full AreValues
  full_values = (_, _, gr.AreValues.one full_value.2)

  givens_at : Always limit p.values Givens
  unfolding p.values p.braced_values p.one_value Braceds
  givens_at s = if_sign limit signs.LeftBrace _ _ s
      (λ q. mono limit braced_made (bind limit _ (λ _. full_seq full_values (λ values. full_mapped _ (full_sign signs.RightBrace))) (signing limit signs.LeftBrace)
      (λ _. bind limit _ (λ values. full_mapped _ (full_sign signs.RightBrace)) listed_values (λ values. mapping limit _ (signing limit signs.RightBrace))) s))
      (λ q. mono limit single_made (mapping limit _ value_at s))

  full_givens : Full Givens
  full_givens = (_, _, single_made _ _ (full_mapped (λ only. record { values = only ∷ []; braces = false }) full_value).2)

  -- constants
  ConstantRest : Bool → Named → List Bounded → Item → Type 0
  ConstantRest u found = Seq IsLength (λ length. Seq (IsSign signs.Assign) (λ _. Seq Givens (λ given. Mapped (IsSign signs.Semicolon)
      (λ _. item.Constant u found.name length given.values given.braces found.token))))

  constant_made : (ts : List Bounded) (x : Item)
      → Seq (IsWord words.Const) (λ _. Seq (Typed Any) (λ u. Seq IsName (λ found. ConstantRest u found))) ts x → IsItem ts x
  unfolding ConstantRest Givens
  constant_made _ x (seq _ _ (is_word const) (seq ts _ (typed first _ t) (seq _ _ (is_name at text) (seq us _ h (seq _ _ (is_sign equals) (seq vs _ v (mapped _ (is_sign end) q))))))) =
      subst (λ x. IsItem (g.word const words.Const ∷ ts ++ (g.name at text ∷ us ++ (g.sign equals signs.Assign ∷ vs ++ g.sign end signs.Semicolon ∷ []))) x) (sym q)
      (gr.constant const first at equals end text t h v)

  full_constant : (u : Bool) (found : Named) → Full (ConstantRest u found)
  unfolding ConstantRest
  full_constant u found = full_seq full_length (λ length. full_seq (full_sign signs.Assign) (λ _. full_seq full_givens (λ given. full_mapped _ (full_sign signs.Semicolon))))

  constant_at : Always limit p.constant IsItem
  unfolding p.constant p.constant_rest ConstantRest
  constant_at s = mono limit constant_made (bind limit _ (λ _. full_seq full_any (λ u. full_seq full_name (λ found. full_constant u found))) (wording limit words.Const)
      (λ _. bind limit _ (λ u. full_seq full_name (λ found. full_constant u found)) any_type
      (λ u. bind limit _ (λ found. full_constant u found) (naming limit)
      (λ found. bind limit _ (λ length. full_seq (full_sign signs.Assign) (λ _. full_seq full_givens (λ given. full_mapped _ (full_sign signs.Semicolon)))) length_at
      (λ length. bind limit _ (λ _. full_seq full_givens (λ given. full_mapped _ (full_sign signs.Semicolon))) (signing limit signs.Assign)
      (λ _. bind limit _ (λ given. full_mapped _ (full_sign signs.Semicolon)) givens_at (λ given. mapping limit _ (signing limit signs.Semicolon))))))) s)

  -- untrusted functions
  NoParameters : List Bounded → ℕ → Type 0
  NoParameters = Seq (IsSign signs.LeftParenthesis) (λ _. Seq (IsWord words.Void) (λ _. Seq (IsSign signs.RightParenthesis) (λ _. IsSign signs.Semicolon)))

  no_parameters_at : Always limit p.no_parameters NoParameters
  unfolding p.no_parameters NoParameters
  no_parameters_at = bind limit _ (λ _. full_seq (full_word words.Void) (λ _. full_seq (full_sign signs.RightParenthesis) (λ _. full_sign signs.Semicolon))) (signing limit signs.LeftParenthesis)
      (λ _. bind limit _ (λ _. full_seq (full_sign signs.RightParenthesis) (λ _. full_sign signs.Semicolon)) (wording limit words.Void)
      (λ _. bind limit _ (λ _. full_sign signs.Semicolon) (signing limit signs.RightParenthesis) (λ _. signing limit signs.Semicolon)))

  untrusted_made : (ts : List Bounded) (x : Item)
      → Seq (IsWord words.Untrusted) (λ _. Seq (IsWord words.Void) (λ _. Seq IsName (λ found. Mapped NoParameters (λ _. item.Untrusted found.name found.token)))) ts x → IsItem ts x
  unfolding NoParameters
  untrusted_made _ x (seq _ _ (is_word first) (seq _ _ (is_word void) (seq _ _ (is_name at text) (mapped _ (seq _ _ (is_sign left) (seq _ _ (is_word inner) (seq _ _ (is_sign right) (is_sign end)))) q)))) =
      subst (λ x. IsItem (g.word first words.Untrusted ∷ g.word void words.Void ∷ g.name at text ∷ g.sign left signs.LeftParenthesis ∷ g.word inner words.Void ∷ g.sign right signs.RightParenthesis ∷ g.sign end signs.Semicolon ∷ []) x)
      (sym q) (gr.untrusted first void at left inner right end text)

  full_no_parameters : Full NoParameters
  unfolding NoParameters
  full_no_parameters = full_seq (full_sign signs.LeftParenthesis) (λ _. full_seq (full_word words.Void) (λ _. full_seq (full_sign signs.RightParenthesis) (λ _. full_sign signs.Semicolon)))

  untrusted_at : Always limit p.untrusted IsItem
  unfolding p.untrusted
  untrusted_at s = mono limit untrusted_made (bind limit _ (λ _. full_seq (full_word words.Void) (λ _. full_seq full_name (λ found. full_mapped _ full_no_parameters))) (wording limit words.Untrusted)
      (λ _. bind limit _ (λ _. full_seq full_name (λ found. full_mapped _ full_no_parameters)) (wording limit words.Void)
      (λ _. bind limit _ (λ found. full_mapped _ full_no_parameters) (naming limit) (λ found. mapping limit _ no_parameters_at))) s)

  -- parameters
  parameter_made : (ts : List Bounded) (x : Parameter)
      → Seq (Typed Any) (λ u. Mapped IsName (λ found. record { unsigned = u; name = found.name; token = found.token })) ts x → IsParameter ts x
  parameter_made _ x (seq ts _ (typed first _ t) (mapped _ (is_name at text) q)) =
      subst (λ x. IsParameter (ts ++ g.name at text ∷ []) x) (sym q) (gr.typed first at text t)

  pub parameter_at : Always limit p.one_parameter IsParameter
  unfolding p.one_parameter
  parameter_at s = mono limit parameter_made (bind limit _ (λ u. full_mapped _ full_name) any_type (λ u. mapping limit _ (naming limit)) s)

  pub full_parameter : Full IsParameter
  full_parameter = (_, _, gr.typed free free no_text (gs.int free))

  listed_made : (ts : List Bounded) (xs : List Parameter) → Seq IsParameter (λ x. Mapped (Many (Comma IsParameter)) (λ xs. x ∷ xs)) ts xs → AreParameters ts xs
  listed_made ts xs h = gr.AreParameters.some (separated_made AreListed (λ ts x h. gr.AreListed.one h) (λ ts us x xs comma h k. gr.AreListed.further comma h k) ts xs h)

  void_made : (ts : List Bounded) (xs : List Parameter) → Mapped (IsWord words.Void) (λ _. []) ts xs → AreParameters ts xs
  void_made _ xs (mapped _ (is_word at) q) = subst (λ xs. AreParameters (g.word at words.Void ∷ []) xs) (sym q) (gr.AreParameters.void at)

  none_made : (ts : List Bounded) (xs : List Parameter) → Nothing [] ts xs → AreParameters ts xs
  none_made _ _ nothing = gr.AreParameters.nothing

  listed_at : Always limit p.parameter_list AreParameters
  unfolding p.parameter_list p.void_list
  listed_at s = if_sign limit signs.RightParenthesis _ _ s
      (λ q. mono limit none_made (giving limit [] s))
      (λ q. if_word limit words.Void _ _ s
      (λ q. mono limit void_made (mapping limit _ (wording limit words.Void) s))
      (λ q. mono limit listed_made (separating limit parameter_at full_parameter s)))

  Parameters : List Bounded → List Parameter → Type 0
  Parameters = Seq (IsSign signs.LeftParenthesis) (λ _. Seq AreParameters (λ trees. Mapped (IsSign signs.RightParenthesis) (λ _. trees)))

  full_parameters : Full Parameters
  unfolding Parameters
  full_parameters = full_seq (full_sign signs.LeftParenthesis) (λ _. full_seq ([], [], gr.AreParameters.nothing) (λ trees. full_mapped _ (full_sign signs.RightParenthesis)))

  parameters_at : Always limit p.parameters Parameters
  unfolding p.parameters Parameters
  parameters_at = bind limit _ (λ _. full_seq ([], [], gr.AreParameters.nothing) (λ trees. full_mapped _ (full_sign signs.RightParenthesis))) (signing limit signs.LeftParenthesis)
      (λ _. bind limit _ (λ trees. full_mapped _ (full_sign signs.RightParenthesis)) listed_at (λ trees. mapping limit _ (signing limit signs.RightParenthesis)))

  -- `__private` before a declaration, or nothing
  data Pre : Bool → List Bounded → Type 0 where
    no_word : Pre false []
    private_word : (at : Spot) → Pre true (g.word at words.Private ∷ [])

  pre_storage : (b : Bool) (ts : List Bounded) → Pre b ts → IsStorage ts (storage_of b)
  pre_storage _ _ no_word = gr.IsStorage.nothing
  pre_storage _ _ (private_word at) = gr.IsStorage.private at

  pre_private : (b : Bool) (ts : List Bounded) → Pre b ts → IsPrivate ts b
  pre_private _ _ no_word = gr.IsPrivate.nothing
  pre_private _ _ (private_word at) = gr.IsPrivate.given at

  result_is : (u : Bool) (first : Spot) (ts : List Bounded) → IsType first ts u → IsResult ts (result_kind u)
  result_is true first ts t = gr.IsResult.unsigned first t
  result_is false first ts t = gr.IsResult.int first t

  module _ (levels : ℕ) (e : 0 + levels ≡ limit) where
    abbrev Block : List Bounded → Braces → Type 0
    Block = Braced limit levels 0 e (statement_at limit levels 0 e) (IsSign signs.LeftBrace)

    -- what stands after the name of a function
    FunctionRest : Bool → Kind3 → Named → List Bounded → Item → Type 0
    FunctionRest b result found ts x = (pre us : List Bounded) (bound : ℕ) → IsPrivate pre b → IsResult us result → IsItem (pre ++ (us ++ (named found bound ∷ ts))) x

    function_made : (b : Bool) (result : Kind3) (found : Named) (ts : List Bounded) (x : Item)
        → Seq Parameters (λ params. Mapped Block (λ block. item.Function b result found.name params block.body found.token)) ts x → FunctionRest b result found ts x
    unfolding Parameters Braced FunctionRest
    function_made b result found _ x (seq {y = params} _ _ (seq _ _ (is_sign left) (seq {y = trees} vs _ a (mapped _ (is_sign right) r)))
        (mapped block (seq _ _ (is_sign start) (seq {y = body} ws _ c (mapped _ (is_sign end) u))) q)) pre us bound k j =
        subst (λ ts. IsItem (pre ++ (us ++ (named found bound ∷ g.sign left signs.LeftParenthesis ∷ ts))) x)
        (sym (append_assoc vs (g.sign right signs.RightParenthesis ∷ []) (g.sign start signs.LeftBrace ∷ ws ++ g.sign end signs.RightBrace ∷ [])))
        (subst (λ x. IsItem (pre ++ (us ++ (named found bound ∷ g.sign left signs.LeftParenthesis ∷ vs
        ++ (g.sign right signs.RightParenthesis ∷ g.sign start signs.LeftBrace ∷ ws ++ g.sign end signs.RightBrace ∷ [])))) x)
        (sym (q ∙ ap (λ params. item.Function b result found.name params block.body found.token) r ∙ ap (λ block. item.Function b result found.name trees block.body found.token) u))
        (gr.function (record { place = found.token; bound = bound }) left right start end found.name k j a c))

    full_block : Full Block
    unfolding Braced
    full_block = full_seq (full_sign signs.LeftBrace) (λ place. full_seq (full_body limit levels 0 e (statement_at limit levels 0 e)) (λ body. full_mapped _ (full_sign signs.RightBrace)))

    function_rest_at : (b : Bool) (result : Kind3) (found : Named) → Always limit (p.function_rest limit levels b result found) (FunctionRest b result found)
    unfolding p.function_rest
    function_rest_at b result found s = mono limit (function_made b result found) (bind limit _ (λ params. full_mapped _ full_block) parameters_at
        (λ params. mapping limit _ (braced_at limit levels 0 e (statement_at limit levels 0 e) (signing limit signs.LeftBrace))) s)

    full_function_rest : (b : Bool) (result : Kind3) (found : Named) → Full (FunctionRest b result found)
    full_function_rest b result found = (
      _,
      _,
      function_made b result found _ _
          (full_seq full_parameters (λ params. full_mapped (λ block. item.Function b result found.name params block.body found.token) full_block)).2,
    )

    -- a declaration after `__private` or nothing
    Declared : Bool → List Bounded → Item → Type 0
    Declared b ts x = (pre : List Bounded) → Pre b pre → IsItem (pre ++ ts) x

    void_item : (b : Bool) (ts : List Bounded) (x : Item) → Seq (IsWord words.Void) (λ _. Seq IsName (λ found. FunctionRest b kind3.Void found)) ts x → Declared b ts x
    unfolding FunctionRest Declared
    void_item b _ x (seq _ _ (is_word at) (seq _ ts (is_name name_at text) r)) pre h = r pre (g.word at words.Void ∷ []) name_at.bound (pre_private b pre h) (gr.IsResult.void at)

    void_function_at : (b : Bool) → Always limit (p.void_function limit levels b) (Declared b)
    unfolding p.void_function
    void_function_at b s = mono limit (void_item b) (bind limit _ (λ _. full_seq full_name (λ found. full_function_rest b kind3.Void found)) (wording limit words.Void)
        (λ _. bind limit _ (λ found. full_function_rest b kind3.Void found) (naming limit) (λ found. function_rest_at b kind3.Void found)) s)

    TypedRest : Bool → Bool → Named → List Bounded → Item → Type 0
    TypedRest b u found ts x = (pre us : List Bounded) (first : Spot) (bound : ℕ) → Pre b pre → IsType first us u → IsItem (pre ++ (us ++ (named found bound ∷ ts))) x

    function_typed : (b u : Bool) (found : Named) (ts : List Bounded) (x : Item) → FunctionRest b (result_kind u) found ts x → TypedRest b u found ts x
    unfolding FunctionRest TypedRest
    function_typed b u found ts x h pre us first bound k t = h pre us bound (pre_private b pre k) (result_is u first us t)

    object_typed : (b u : Bool) (found : Named) (ts : List Bounded) (x : Item) → ObjectRest (storage_of b) u found ts x → TypedRest b u found ts x
    unfolding ObjectRest TypedRest
    object_typed b u found ts x h pre us first bound k t = h pre us first bound (pre_storage b pre k) t

    typed_rest_at : (b u : Bool) (found : Named) → Always limit (p.typed_rest limit levels b u found) (TypedRest b u found)
    unfolding p.typed_rest
    typed_rest_at b u found s = if_sign limit signs.LeftParenthesis _ _ s
        (λ q. mono limit (function_typed b u found) (function_rest_at b (result_kind u) found s))
        (λ q. mono limit (object_typed b u found) (object_rest_at (storage_of b) u found s))

    full_typed_rest : (b u : Bool) (found : Named) → Full (TypedRest b u found)
    full_typed_rest b u found = (_, _, object_typed b u found _ _ (full_object_rest (storage_of b) u found).2)

    typed_item : (b : Bool) (ts : List Bounded) (x : Item) → Seq (Typed Any) (λ u. Seq IsName (λ found. TypedRest b u found)) ts x → Declared b ts x
    unfolding TypedRest Declared
    typed_item b _ x (seq us _ (typed first _ t) (seq _ ts (is_name at text) r)) pre h = r pre us first at.bound h t

    typed_at : (b : Bool) → Always limit (p.typed_item limit levels b) (Declared b)
    unfolding p.typed_item
    typed_at b s = mono limit (typed_item b) (bind limit _ (λ u. full_seq full_name (λ found. full_typed_rest b u found)) any_type
        (λ u. bind limit _ (λ found. full_typed_rest b u found) (naming limit) (λ found. typed_rest_at b u found)) s)

    declared_at : (b : Bool) → Always limit (p.declared limit levels b) (Declared b)
    unfolding p.declared
    declared_at b s = if_word limit words.Void _ _ s (λ q. void_function_at b s) (λ q. typed_at b s)

    full_declared : (b : Bool) → Full (Declared b)
    full_declared b = (_, _, typed_item b _ _ (full_seq full_any (λ u. full_seq full_name (λ found. full_typed_rest b u found))).2)

    private_made : (ts : List Bounded) (x : Item) → Seq (IsWord words.Private) (λ _. Declared true) ts x → IsItem ts x
    unfolding Declared
    private_made _ x (seq _ ts (is_word at) r) = r (g.word at words.Private ∷ []) (private_word at)

    private_at : Always limit (p.private_item limit levels) IsItem
    unfolding p.private_item
    private_at s = mono limit private_made (bind limit _ (λ _. full_declared true) (wording limit words.Private) (λ _. declared_at true) s)

    bare : (ts : List Bounded) (x : Item) → Declared false ts x → IsItem ts x
    unfolding Declared
    bare ts x h = h [] no_word

    full_item : Full IsItem
    full_item = (_, _, bare _ _ (full_declared false).2)

    head_heading : (s t : List Tok) → Alike s t → heading_at s ≡ heading_at t
    unfolding heading_at
    head_heading s t a = ap heading_of (head_kind s t a)

    pub item_at : Always limit (p.item_inside limit levels) IsItem
    unfolding p.item_inside
    item_at s = dispatch limit heading_at (p.item_by limit levels) head_heading s (λ k q. each k)
      where
        each : (k : Heading) → Holds limit (p.item_by limit levels k) IsItem s (p.item_by limit levels k s)
        each heading.Verified = stored_at words.Verified storage.Verified gr.IsStorage.verified s
        each heading.Shared = stored_at words.Shared storage.Shared gr.IsStorage.shared s
        each heading.Logged = stored_at words.Logged storage.Logged gr.IsStorage.logged s
        each heading.Private = private_at s
        each heading.Constant = constant_at s
        each heading.Untrusted = untrusted_at s
        each heading.Void = mono limit bare (void_function_at false s)
        each heading.Type = mono limit bare (typed_at false s)
        each heading.Other = refusing limit full_item s

    longer : (ts us : List Bounded) → 0 < length us → 0 < length (ts ++ us)
    longer ts us h = rw (length-append ts us) (omega (arith, h))

    pub item_takes : Takes IsItem
    item_takes _ _ (gr.object {ts} {us} {vs} first at end text c t h) =
        longer ts (us ++ (g.name at text ∷ vs ++ g.sign end signs.Semicolon ∷ [])) (longer us (g.name at text ∷ vs ++ g.sign end signs.Semicolon ∷ []) (omega arith))
    item_takes _ _ (gr.constant const first at equals end text t h v) = omega arith
    item_takes _ _ (gr.untrusted first void at left inner right end text) = omega arith
    item_takes _ _ (gr.function {ts} {us} {vs} {ws} at left right start end text k j a c) =
        longer ts (us ++ (g.name at text ∷ g.sign left signs.LeftParenthesis ∷ vs ++ (g.sign right signs.RightParenthesis ∷ g.sign start signs.LeftBrace ∷ ws ++ g.sign end signs.RightBrace ∷ [])))
        (longer us (g.name at text ∷ g.sign left signs.LeftParenthesis ∷ vs ++ (g.sign right signs.RightParenthesis ∷ g.sign start signs.LeftBrace ∷ ws ++ g.sign end signs.RightBrace ∷ [])) (omega arith))

    pub head_left : (s t : List Tok) → Alike s t → is_left s ≡ is_left t
    head_left s t a = ap is_some (head_kind s t a)

    items_made : (ts : List Bounded) (xs : List Item) → Many IsItem ts xs → AreItems ts xs
    items_made _ _ none_left = gr.AreItems.nothing
    items_made _ _ (one_more {x} {xs} ts us h m) = gr.AreItems.further h (items_made us xs m)

    program_made : (ts : List Bounded) (x : Program) → Mapped (Many IsItem) (λ trees. record { items = trees }) ts x → IsProgram ts x
    program_made ts x (mapped trees m q) = subst (λ x. IsProgram ts x) (sym q) (items_made ts trees m)

    pub program_at : Always limit (p.program limit levels) IsProgram
    unfolding p.program p.items
    program_at s = mono limit program_made (mapping limit _ (listing limit is_left head_left item_at item_takes) s)
