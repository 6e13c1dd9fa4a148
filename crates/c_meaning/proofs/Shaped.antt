-- The shape of resolved programs.
use Rattle.std.proofs.Common.{◌≡◌, ◌∙◌, ap, sym, subst, ◌⊎◌, inl, inr, zero, suc, ℕ, ◌+◌, ◌==◌, ◌≤◌, ◌<◌, ◌&&◌, ◌||◌, not, Bool, true, false, cond, List, [], ◌∷◌, ◌++◌, length, map, codes, Option, Some, None, arith, refl, append_assoc, append-nil}
use Rattle.std.specs.List.{slice_get, list_any}
use Rattle.std.specs.Str.{bytes_eq}
use Rattle.std.proofs.lemmas.Bool.Decides.{nat_tests}
use Rattle.aegis_num.specs.declared.limits.TheConstants.{MAX_ARRAY_LENGTH, MAX_SOURCE_BYTES}
use Rattle.c_token.specs.declared.kinds.Kind.{Kind}
use Rattle.c_grammar.specs.declared.stmt.Stmt.{Stmt}
use Rattle.c_grammar.specs.declared.item.Kind3.{Kind3}
use Rattle.c_grammar.specs.declared.item.Storage.{Storage}
use Rattle.c_grammar.specs.declared.item.Storage.TheVariants as storage
use Rattle.c_grammar.specs.declared.item.Parameter.{Parameter}
use Rattle.c_grammar.specs.declared.item.Value.{Value}
use Rattle.c_grammar.specs.declared.item.Item.{Item}
use Rattle.c_grammar.specs.declared.item.Item.TheVariants as item
use Rattle.c_grammar.specs.declared.item.Program.{Program}
use Rattle.c_grammar.specs.BoundedTokens.{Bounded}
use Rattle.c_grammar.specs.StatementGrammar.{Body}
use Rattle.c_grammar.specs.TokenPrograms.{AreProgram}
use Rattle.c_grammar.specs.ProgramGrammar.{IsItem, AreItems, AreInitial}
use Rattle.c_scopes.specs.declared.declaration.Declaration.{Declaration}
use Rattle.c_scopes.specs.Declarations.{class_of, declaration_of, declarations_of, parameters_of, token_of}
use Rattle.c_types.specs.declared.site.Home.{Home}
use Rattle.c_types.specs.declared.site.Rule.{Rule}
use Rattle.c_types.specs.declared.site.Rule.TheVariants.{TooLong, Shape}
use Rattle.c_types.specs.declared.site.Site.TheVariants as site
use Rattle.c_types.specs.Walks.{body_sites}
use Rattle.c_types.specs.Sites.{in_function, item_sites, length_sites, parameter_sites, place_after}
use Rattle.c_types.specs.TypingRules.{Breaks}
use Rattle.c_types.specs.TypingRules.Breaks.{list_for_scalar, no_elements, too_long, values_too_many}
use Rattle.c_types.specs.Checked.{IsReadProgram, IsTyped, KeepsRules, is_int, is_main}
use Rattle.c_types.proofs.Answered.{few}
use Rattle.c_semantics.specs.ResolvedTree as Tree
use Rattle.c_semantics.specs.Nodes.{function_nodes, functions_nodes}
use Rattle.c_semantics.specs.ProgramShape.{AreFunctionsShaped, AreObjectsShaped, AreUnclassed, Around, FitsLength, HasMain, IsFunctionShaped, IsKept, IsShaped, around_of, locals_of, object_at, word_count}
use Rattle.c_resolver.specs.Resolving.{constant_word, function_in, function_tokens, functions_in, objects_in, plain_program}
use Rattle.c_resolver.specs.ResolvingViews.{body_in, parameters_in}
use Rattle.c_meaning.specs.Mentions.{items_sites}
use Rattle.c_meaning.specs.SourceNodes.{NodesAgree, body_count, items_count}
use Rattle.c_meaning.specs.TestTokens.{FunctionsStand, StmtStands, TestsStand}
use Rattle.c_meaning.proofs.DeclaredOnce.{declared_once}
use Rattle.c_meaning.proofs.Listed.{parameters-length}
use Rattle.c_meaning.proofs.MainFound.{main_is_found}
use Rattle.c_meaning.proofs.MentionedExpressions.{Clean, clean-back, clean-front}
use Rattle.c_meaning.proofs.MentionedStatements.{body_heads, body_jumps}
use Rattle.c_meaning.proofs.MentionedPrograms.{declarations-snoc, functions-cons, items-clean}
use Rattle.c_meaning.proofs.NamedStatements.{StmtKept, Within, among-back, among-front, among-here, body_named}
use Rattle.c_meaning.proofs.Numbers.{Ascends, ascends-above, body-led, from-numbered, items-ascend, number-counted, numbers_lead}
use Rattle.c_meaning.proofs.Places.{Row, row-back, row-front, row_of_all}
use Rattle.c_meaning.proofs.PlacedStatements.{body_placed}
use Rattle.c_meaning.proofs.UsesAgree.{AllKnown, known-append}

item-clean : (p : Program) → KeepsRules p → (before rest : List Item) (x : Item) → p.items ≡ before ++ x ∷ rest → Clean (item_sites before x)
item-clean p keeps before rest x all = clean-front (item_sites before x) (items_sites (before ++ x ∷ []) rest) (items-clean p keeps before (x ∷ rest) all)

-- ---- the object of a token

skip-object : (t token : ℕ) (a b : Option Tree.Object) → t < token → cond (t == token) a b ≡ b
skip-object t token a b less = let e : (t == token) ≡ false = grind (arith, nat_tests) in rw e refl

this-object : (t : ℕ) (a b : Option Tree.Object) → cond (t == t) a b ≡ a
this-object t a b = let e : (t == t) ≡ true = grind (arith, nat_tests) in rw e refl

objects-skipped : (n : ℕ) (before rest : List Item) (x : Item) → Ascends n (before ++ x ∷ rest) →
    object_at (objects_in (before ++ x ∷ rest)) (token_of x) ≡ object_at (objects_in (x ∷ rest)) (token_of x)
objects-skipped n [] rest x ascends = refl
objects-skipped n (item.Object storage unsigned name length' token ∷ before) rest x ascends =
    skip-object token (token_of x) _ _ (ascends-above (suc token) before rest x ascends.1) ∙ objects-skipped (suc token) before rest x ascends.1
objects-skipped n (item.Constant unsigned name length' values braces token ∷ before) rest x ascends =
    skip-object token (token_of x) _ _ (ascends-above (suc token) before rest x ascends.1) ∙ objects-skipped (suc token) before rest x ascends.1
objects-skipped n (item.Untrusted name token ∷ before) rest x ascends = objects-skipped (suc token) before rest x ascends.1
objects-skipped n (item.Function private result name parameters body token ∷ before) rest x ascends = objects-skipped (suc token) before rest x ascends.1

all-ascends : (p : Program) → IsReadProgram p → Ascends 0 p.items
all-ascends p read = items-ascend read.2 0 (from-numbered 0 read.0)

-- an object of the program is that of its token
object-led : (p : Program) → IsReadProgram p → (before rest : List Item) (x : Item) → p.items ≡ before ++ x ∷ rest →
    object_at (objects_in p.items) (token_of x) ≡ object_at (objects_in (x ∷ rest)) (token_of x)
object-led p read before rest x all =
    ap (λ items. object_at (objects_in items) (token_of x)) all ∙ objects-skipped 0 before rest x (subst (Ascends 0) all (all-ascends p read))

-- ---- what is known in a function

-- what the items of a stretch declare is known in the code after them
stretch-known : (p : Program) → IsReadProgram p → (around : Around) (home : Home) → around.objects ≡ objects_in p.items →
    (before rest front stretch : List Item) → around.before ≡ functions_in (function_tokens p.items) before [] → p.items ≡ before ++ rest → before ≡ front ++ stretch →
    AllKnown (function_tokens p.items) around home (declarations_of stretch)
stretch-known p read around home same before rest front [] functions all parts = tt
stretch-known p read around home same before rest front (item.Object storage unsigned name length' token ∷ stretch) functions all parts =
    let x = item.Object storage unsigned name length' token in
    let place : p.items ≡ front ++ x ∷ (stretch ++ rest) = all ∙ ap (λ items. items ++ rest) parts ∙ append_assoc front (x ∷ stretch) rest in (
      ([], ap (λ os. object_at os token) same ∙ object-led p read front (stretch ++ rest) x place ∙ this-object token _ _),
      stretch-known p read around home same before rest (front ++ x ∷ []) stretch functions all (parts ∙ sym (append_assoc front (x ∷ []) stretch)),
    )
stretch-known p read around home same before rest front (item.Constant unsigned name length' values braces token ∷ stretch) functions all parts =
    let x = item.Constant unsigned name length' values braces token in
    let place : p.items ≡ front ++ x ∷ (stretch ++ rest) = all ∙ ap (λ items. items ++ rest) parts ∙ append_assoc front (x ∷ stretch) rest in (
      (map constant_word values, ap (λ os. object_at os token) same ∙ object-led p read front (stretch ++ rest) x place ∙ this-object token _ _),
      stretch-known p read around home same before rest (front ++ x ∷ []) stretch functions all (parts ∙ sym (append_assoc front (x ∷ []) stretch)),
    )
stretch-known p read around home same before rest front (item.Untrusted name token ∷ stretch) functions all parts =
    let x = item.Untrusted name token in
    (refl, stretch-known p read around home same before rest (front ++ x ∷ []) stretch functions all (parts ∙ sym (append_assoc front (x ∷ []) stretch)))
stretch-known p read around home same before rest front (item.Function private result name parameters body token ∷ stretch) functions all parts =
    let x = item.Function private result name parameters body token in
    let fs = function_tokens p.items in
    let place : p.items ≡ front ++ x ∷ (stretch ++ rest) = all ∙ ap (λ items. items ++ rest) parts ∙ append_assoc front (x ∷ stretch) rest in (
      inr (record {
        callee = function_in fs private parameters body ([] ++ declarations_of front ++ declaration_of x ∷ []);
        stands = ap (λ n. slice_get around.before n) (number-counted p read front (stretch ++ rest) private result name parameters body token place)
            ∙ ap (λ gs. slice_get gs (length (function_tokens front))) (functions ∙ ap (λ items. functions_in fs items []) parts)
            ∙ body-led fs [] front stretch private result name parameters body token;
        count = parameters-length parameters;
      }),
      stretch-known p read around home same before rest (front ++ x ∷ []) stretch functions all (parts ∙ sym (append_assoc front (x ∷ []) stretch)),
    )

-- the parameters are among the tokens of the function
parameters-known : (fs : List ℕ) (around : Around) (home : Home) (ps : List Parameter) → Within (map (λ x. x.token) (parameters_in ps)) around.own → AllKnown fs around home (parameters_of ps)
parameters-known fs around home [] within = tt
parameters-known fs around home (q ∷ ps) within = (
  within q.token (among-here q.token (map (λ x. x.token) (parameters_in ps))),
  parameters-known fs around home ps (λ t is. within t (among-back (q.token ∷ []) (map (λ x. x.token) (parameters_in ps)) t is)),
)

parameters-unclassed : (ps : List Parameter) → AreUnclassed (parameters_in ps)
parameters-unclassed [] = tt
parameters-unclassed (q ∷ ps) = (refl, parameters-unclassed ps)

-- ---- functions

-- what is shown of the functions of some items: their shape, their tests, and their nodes
record Functions (p : Program) (kinds : List Kind) (objects : List Tree.Object) (before fs : List Tree.Function) (items : List Item) : Type 0 where
  shaped : AreFunctionsShaped objects before fs
  stand : FunctionsStand kinds fs
  count : functions_nodes fs ≡ items_count items

-- what is shown of one function
record OneFunction (kinds : List Kind) (objects : List Tree.Object) (before : List Tree.Function) (f : Tree.Function) (n : ℕ) : Type 0 where
  shaped : IsFunctionShaped objects before f
  stands : StmtStands kinds f.body
  count : function_nodes f ≡ n

-- the function of an item
function-shown : (p : Program) → IsReadProgram p → KeepsRules p → (kinds : List Kind) (n : ℕ) {ws : List Bounded} {body : List Stmt} → Body zero ws body → Row kinds n ws →
    (before rest : List Item) (private : Bool) (result : Kind3) (name : List ℕ) (ps : List Parameter) (token : ℕ) → p.items ≡ before ++ item.Function private result name ps body token ∷ rest →
    OneFunction kinds (objects_in p.items) (functions_in (function_tokens p.items) before [])
    (function_in (function_tokens p.items) private ps body (declarations_of before ++ declaration_of (item.Function private result name ps body token) ∷ [])) (1 + (length ps + body_count body))
function-shown p read keeps kinds n {ws = ws} {body = body} d row before rest private result name ps token all =
    let x = item.Function private result name ps body token in
    let fs = function_tokens p.items in
    let functions = functions_in fs before [] in
    let known = declarations_of before ++ declaration_of x ∷ [] in
    let f = function_in fs private ps body known in
    let around = around_of (objects_in p.items) functions f in
    let home : Home = record { private = private; result = result; token = token } in
    let place = place_after (parameters_of ps) (in_function known home) in
    let clean = clean-back (parameter_sites 0 ps (in_function known home)) (body_sites body place) (item-clean p keeps before rest x all).1 in
    let own = map (λ v. v.token) (parameters_in ps) in
    let locals = locals_of (body_in fs body (known ++ parameters_of ps)) in
    let of_known : AllKnown fs around home known = known-append fs around home (declarations_of before) (declaration_of x ∷ [])
    (stretch-known p read around home refl before (x ∷ rest) [] before refl all refl) (inl refl, tt) in
    let kept : StmtKept around (body_in fs body (known ++ parameters_of ps)) (body_count body) = body_named fs d around place
    (known-append fs around home known (parameters_of ps) of_known (parameters-known fs around home ps (λ t is. among-front own locals t is)))
    refl (λ t is. among-back own locals t is) clean in
    let placed = body_placed kinds n fs d row (known ++ parameters_of ps) in
    let enough : length ps ≤ 6 = few p before rest x all keeps in record {
      shaped = record {
        parameters = rw (parameters-length ps) enough;
        unclassed = parameters-unclassed ps;
        names = kept.names;
        nesting = placed.nests;
        heads = body_heads fs d (known ++ parameters_of ps);
        jumps = body_jumps fs d place (known ++ parameters_of ps) clean;
      };
      stands = placed.stands;
      count = omega (arith, parameters-length ps, kept.count);
    }

functions-snoc : (fs : List ℕ) (before : List Item) (x : Item) (known : List Declaration) →
    functions_in fs (before ++ x ∷ []) known ≡ functions_in fs before known ++ functions_in fs (x ∷ []) (known ++ declarations_of before)
functions-snoc fs [] x known = ap (functions_in fs (x ∷ [])) (sym (append-nil known))
functions-snoc fs (item.Object storage unsigned name length' token ∷ before) x known =
    let d = declaration_of (item.Object storage unsigned name length' token) in
    functions-snoc fs before x (known ++ d ∷ []) ∙ ap (λ ds. functions_in fs before (known ++ d ∷ []) ++ functions_in fs (x ∷ []) ds) (append_assoc known (d ∷ []) (declarations_of before))
functions-snoc fs (item.Constant unsigned name length' values braces token ∷ before) x known =
    let d = declaration_of (item.Constant unsigned name length' values braces token) in
    functions-snoc fs before x (known ++ d ∷ []) ∙ ap (λ ds. functions_in fs before (known ++ d ∷ []) ++ functions_in fs (x ∷ []) ds) (append_assoc known (d ∷ []) (declarations_of before))
functions-snoc fs (item.Untrusted name token ∷ before) x known =
    let d = declaration_of (item.Untrusted name token) in
    functions-snoc fs before x (known ++ d ∷ []) ∙ ap (λ ds. functions_in fs before (known ++ d ∷ []) ++ functions_in fs (x ∷ []) ds) (append_assoc known (d ∷ []) (declarations_of before))
functions-snoc fs (item.Function private result name parameters body token ∷ before) x known =
    let d = declaration_of (item.Function private result name parameters body token) in
    ap (λ gs. function_in fs private parameters body (known ++ d ∷ []) ∷ gs)
    (functions-snoc fs before x (known ++ d ∷ []) ∙ ap (λ ds. functions_in fs before (known ++ d ∷ []) ++ functions_in fs (x ∷ []) ds) (append_assoc known (d ∷ []) (declarations_of before)))

-- the functions after an item that is none
no-function : (p : Program) (kinds : List Kind) (before xs : List Item) (x : Item) → functions_in (function_tokens p.items) (x ∷ []) (declarations_of before) ≡ [] → items_count (x ∷ xs) ≡ items_count xs →
    Functions p kinds (objects_in p.items) (functions_in (function_tokens p.items) (before ++ x ∷ []) []) (functions_in (function_tokens p.items) xs (declarations_of (before ++ x ∷ []))) xs →
    Functions p kinds (objects_in p.items) (functions_in (function_tokens p.items) before []) (functions_in (function_tokens p.items) (x ∷ xs) (declarations_of before)) (x ∷ xs)
no-function p kinds before xs x none same later =
    let fs = function_tokens p.items in
    let befores : functions_in fs (before ++ x ∷ []) [] ≡ functions_in fs before [] =
    functions-snoc fs before x [] ∙ ap (λ gs. functions_in fs before [] ++ gs) none ∙ append-nil (functions_in fs before []) in
    let afters : functions_in fs (x ∷ xs) (declarations_of before) ≡ functions_in fs xs (declarations_of (before ++ x ∷ [])) =
    functions-cons fs x xs (declarations_of before) ∙ ap (λ gs. gs ++ functions_in fs xs (declarations_of before ++ declaration_of x ∷ [])) none
    ∙ ap (functions_in fs xs) (sym (declarations-snoc before x)) in
    record {
      shaped = subst (λ gs. AreFunctionsShaped (objects_in p.items) (functions_in fs before []) gs) (sym afters)
          (subst (λ bs. AreFunctionsShaped (objects_in p.items) bs (functions_in fs xs (declarations_of (before ++ x ∷ [])))) befores later.shaped);
      stand = subst (FunctionsStand kinds) (sym afters) later.stand;
      count = ap functions_nodes afters ∙ later.count ∙ sym same;
    }

item-shown : (p : Program) → IsReadProgram p → KeepsRules p → (kinds : List Kind) (n : ℕ) {ts : List Bounded} {x : Item} → IsItem ts x → Row kinds n ts → (before xs : List Item) → p.items ≡ before ++ x ∷ xs →
    Functions p kinds (objects_in p.items) (functions_in (function_tokens p.items) (before ++ x ∷ []) []) (functions_in (function_tokens p.items) xs (declarations_of (before ++ x ∷ []))) xs →
    Functions p kinds (objects_in p.items) (functions_in (function_tokens p.items) before []) (functions_in (function_tokens p.items) (x ∷ xs) (declarations_of before)) (x ∷ xs)
item-shown p read keeps kinds n (IsItem.object {class = storage} {is_unsigned = unsigned} {length = length'} first at end text a b c) row before xs all later =
    no-function p kinds before xs (item.Object storage unsigned text length' at.place) refl refl later
item-shown p read keeps kinds n (IsItem.constant {is_unsigned = unsigned} {braces = braces} {length = length'} {values = values} const first at equals end text a b c) row before xs all later =
    no-function p kinds before xs (item.Constant unsigned text length' values braces at.place) refl refl later
item-shown p read keeps kinds n (IsItem.untrusted first void at left inner right end text) row before xs all later =
    no-function p kinds before xs (item.Untrusted text at.place) refl refl later
item-shown p read keeps kinds n (IsItem.function {ts = ts} {us = us} {vs = vs} {ws = ws} {is_private = private} {result = result} {params = ps} {body = body} at left right start end text a b c d) row before xs all later =
    let fs = function_tokens p.items in
    let x = item.Function private result text ps body at.place in
    let one = n + length ts in
    let two = suc (suc (one + length us)) in
    let three = suc (suc (two + length vs)) in
    let row1 = row-back kinds n ts _ row in
    let row2 = (row-back kinds one us _ row1).3.3 in
    let row3 = (row-back kinds two vs _ row2).3.3 in
    let shown = function-shown p read keeps kinds three d (row-front kinds three ws _ row3) before xs private result text ps at.place all in
    let f = function_in fs private ps body (declarations_of before ++ declaration_of x ∷ []) in
    let afters : functions_in fs xs (declarations_of (before ++ x ∷ [])) ≡ functions_in fs xs (declarations_of before ++ declaration_of x ∷ []) = ap (functions_in fs xs) (declarations-snoc before x) in
    record {
      shaped = (
        shown.shaped,
        subst (λ gs. AreFunctionsShaped (objects_in p.items) (functions_in fs before [] ++ f ∷ []) gs) afters
            (subst (λ bs. AreFunctionsShaped (objects_in p.items) bs (functions_in fs xs (declarations_of (before ++ x ∷ [])))) (functions-snoc fs before x []) later.shaped),
      );
      stand = (shown.stands, subst (FunctionsStand kinds) afters later.stand);
      count = let rest = ap functions_nodes (sym afters) ∙ later.count in omega (arith, shown.count, rest);
    }

items-shown : (p : Program) → IsReadProgram p → KeepsRules p → (kinds : List Kind) (n : ℕ) {ts : List Bounded} {xs : List Item} → AreItems ts xs → Row kinds n ts → (before : List Item) → p.items ≡ before ++ xs →
    Functions p kinds (objects_in p.items) (functions_in (function_tokens p.items) before []) (functions_in (function_tokens p.items) xs (declarations_of before)) xs
items-shown p read keeps kinds n AreItems.nothing row before all = record { shaped = tt; stand = tt; count = refl }
items-shown p read keeps kinds n (AreItems.further {ts = ts} {us = us} {x = x} {xs = xs} d ds) row before all =
    item-shown p read keeps kinds n d (row-front kinds n ts us row) before xs all
    (items-shown p read keeps kinds (n + length ts) ds (row-back kinds n ts us row) (before ++ x ∷ []) (all ∙ sym (append_assoc before (x ∷ []) xs)))

-- ---- objects

le_or_lt : (m n : ℕ) → (m ≤ n) ⊎ (n < m)
le_or_lt m n = grind arith

above_zero : (n token : ℕ) → Clean (length_sites (Some n) token) → 1 ≤ n
above_zero zero token clean = absurd (clean.0 TooLong (no_elements 0 (token + 2) refl))
above_zero (suc n) token clean = omega arith

fits : (length' : Option ℕ) (token : ℕ) → Clean (length_sites length' token) → FitsLength length'
fits None token clean = tt
fits (Some n) token clean = (
  above_zero n token clean,
  elim (le_or_lt n MAX_ARRAY_LENGTH) [
    | inl h ↦ h
    | inr h ↦ absurd (clean.0 TooLong (too_long n (token + 2) h))
  ],
)

kept-class : (storage' : Storage) → IsKept (Some (class_of storage'))
kept-class storage.Verified = tt
kept-class storage.Private = tt
kept-class storage.Shared = tt
kept-class storage.Logged = tt

no_words : (length' : Option ℕ) → 0 ≤ word_count length'
no_words length' = omega arith

words-length : (values : List Value) → length (map constant_word values) ≡ length values
words-length [] = refl
words-length (v ∷ values) = ap suc (words-length values)

-- a constant has no more values than words
values-fit : {ts : List Bounded} {values : List Value} {braces : Bool} → AreInitial ts values braces → (length' : Option ℕ) (token : ℕ) →
    ((rule : Rule) → Breaks (site.Constant length' (length values) braces token) rule → ⊥) → length values ≤ word_count length'
values-fit (AreInitial.single a) None token clean = omega arith
values-fit (AreInitial.braced {xs = values} left right a) None token clean = absurd (clean Shape (list_for_scalar (length values) token))
values-fit {values = values} {braces = braces} a (Some n) token clean = elim (le_or_lt (length values) n) [
  | inl h ↦ h
  | inr h ↦ absurd (clean Shape (values_too_many n (length values) token braces h))
]

objects-shaped : (p : Program) → KeepsRules p → {ts : List Bounded} {xs : List Item} → AreItems ts xs → (before : List Item) → p.items ≡ before ++ xs → AreObjectsShaped (objects_in xs)
objects-shaped p keeps AreItems.nothing before all = tt
objects-shaped p keeps (AreItems.further {xs = xs} (IsItem.object {class = storage'} {is_unsigned = unsigned} {length = length'} first at end text a b c) ds) before all =
    let x = item.Object storage' unsigned text length' at.place in (
      record { class = kept-class storage'; fits = fits length' at.place (item-clean p keeps before xs x all).1; words = no_words length' },
      objects-shaped p keeps ds (before ++ x ∷ []) (all ∙ sym (append_assoc before (x ∷ []) xs)),
    )
objects-shaped p keeps (AreItems.further {xs = xs} (IsItem.constant {is_unsigned = unsigned} {braces = braces} {length = length'} {values = values} const first at equals end text a b c) ds) before all =
    let x = item.Constant unsigned text length' values braces at.place in
    let clean = (item-clean p keeps before xs x all).1 in (
      record { class = tt; fits = fits length' at.place clean.1; words = rw (words-length values) (values-fit c length' at.place clean.0) },
      objects-shaped p keeps ds (before ++ x ∷ []) (all ∙ sym (append_assoc before (x ∷ []) xs)),
    )
objects-shaped p keeps (AreItems.further {xs = xs} (IsItem.untrusted first void at left inner right end text) ds) before all =
    objects-shaped p keeps ds (before ++ item.Untrusted text at.place ∷ []) (all ∙ sym (append_assoc before (item.Untrusted text at.place ∷ []) xs))
objects-shaped p keeps (AreItems.further {xs = xs} (IsItem.function {is_private = private} {result = result} {params = ps} {body = body} at left right start end text a b c d) ds) before all =
    let x = item.Function private result text ps body at.place in
    objects-shaped p keeps ds (before ++ x ∷ []) (all ∙ sym (append_assoc before (x ∷ []) xs))

-- ---- main

and-first : (a b : Bool) → (a && b) ≡ true → a ≡ true
and-first true b is = refl
and-first false b is = absurd (cc)

and-second : (a b : Bool) → (a && b) ≡ true → b ≡ true
and-second true b is = is
and-second false b is = absurd (cc)

no-parameters : (ps : List Parameter) → (length ps == 0) ≡ true → parameters_in ps ≡ []
no-parameters [] is = refl
no-parameters (q ∷ ps) is = let e : (length (q ∷ ps) == 0) ≡ false = grind (arith, nat_tests) in absurd (cc)

not-true : (b : Bool) → not b ≡ true → b ≡ false
not-true true is = absurd (cc)
not-true false is = refl

main-led : (p : Program) → IsReadProgram p → KeepsRules p → (before rest : List Item) (x : Item) → p.items ≡ before ++ x ∷ rest → is_main x ≡ true → HasMain (plain_program p)
main-led p read keeps before rest (item.Object storage' unsigned name length' token) all is = absurd (cc)
main-led p read keeps before rest (item.Constant unsigned name length' values braces token) all is = absurd (cc)
main-led p read keeps before rest (item.Untrusted name token) all is = absurd (cc)
main-led p read keeps before rest (item.Function private result name parameters body token) all is =
    let fs = function_tokens p.items in
    let x = item.Function private result name parameters body token in
    let named = bytes_eq name (codes "main") in
    let whole = and-first (named && is_int result && (length parameters == 0)) (not private) is in
    record {
      main = function_in fs private parameters body (declarations_of before ++ declaration_of x ∷ []);
      stands = ap (slice_get (plain_program p).functions) (main_is_found p keeps before rest x all is) ∙ numbers_lead p read before rest private result name parameters body token all;
      parameters = no-parameters parameters (and-second (named && is_int result) (length parameters == 0) whole);
      public = not-true private (and-second (named && is_int result && (length parameters == 0)) (not private) is);
    }

main-found : (p : Program) → IsReadProgram p → KeepsRules p → (before rest : List Item) → p.items ≡ before ++ rest → list_any is_main rest ≡ true → HasMain (plain_program p)
main-found p read keeps before [] all is = absurd (cc)
main-found p read keeps before (x ∷ rest) all is = by-test (is_main x) refl is (main-led p read keeps before rest x all)
    (main-found p read keeps (before ++ x ∷ []) rest (all ∙ sym (append_assoc before (x ∷ []) rest)))
  where
    by-test : (b : Bool) → is_main x ≡ b → (b || list_any is_main rest) ≡ true → (is_main x ≡ true → HasMain (plain_program p)) → (list_any is_main rest ≡ true → HasMain (plain_program p)) → HasMain (plain_program p)
    by-test true same is here later = here same
    by-test false same is here later = later is

-- ---- programs

shown : (p : Program) (read : IsReadProgram p) → KeepsRules p → (kinds : List Kind) → length kinds ≤ MAX_SOURCE_BYTES → AreProgram kinds p →
    Functions p kinds (objects_in p.items) [] (plain_program p).functions p.items
shown p read keeps kinds few' grammar = items-shown p read keeps kinds 0 grammar (row_of_all kinds few') [] refl

pub program_shaped : (p : Program) → IsReadProgram p → IsTyped p → IsShaped (plain_program p)
program_shaped p read typed = record {
  objects = objects-shaped p typed.rules read.2 [] refl;
  functions = (shown p read typed.rules read.0 read.1 read.2).shaped;
  tokens = declared_once p read;
  main = main-found p read typed.rules [] p.items refl typed.main;
}

pub tests_stand : (p : Program) → IsReadProgram p → KeepsRules p → TestsStand p
tests_stand p read keeps kinds few' grammar = (shown p read keeps kinds few' grammar).stand

pub nodes_agree : (p : Program) → IsReadProgram p → KeepsRules p → NodesAgree p
nodes_agree p read keeps = (shown p read keeps read.0 read.1 read.2).count
