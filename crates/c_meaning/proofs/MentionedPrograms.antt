-- A program that is read from a text and keeps the typing rules mentions once it is resolved what the rules of scope bind.
use Rattle.std.proofs.Common.{◌≡◌, ◌∙◌, ap, sym, subst, ℕ, ◌+◌, List, [], ◌∷◌, ◌++◌, Option, Some, None, refl, append_assoc, append-nil}
use Rattle.c_grammar.specs.declared.stmt.Stmt.{Stmt}
use Rattle.c_grammar.specs.declared.item.Parameter.{Parameter}
use Rattle.c_grammar.specs.declared.item.Item.{Item}
use Rattle.c_grammar.specs.declared.item.Item.TheVariants as item
use Rattle.c_grammar.specs.declared.item.Program.{Program}
use Rattle.c_grammar.specs.BoundedTokens.{Bounded}
use Rattle.c_grammar.specs.ProgramGrammar.{IsItem, AreItems}
use Rattle.c_scopes.specs.declared.declaration.Declaration.{Declaration}
use Rattle.c_types.specs.declared.site.Home.{Home}
use Rattle.c_types.specs.declared.site.Rule.{Rule}
use Rattle.c_types.specs.declared.site.Site.{Site}
use Rattle.c_scopes.specs.Declarations.{declaration_of, declarations_of, entity_of, parameter, parameters_of}
use Rattle.c_types.specs.Sites.{Place, place_after, function_sites, in_function, item_sites, length_sites, parameter_sites}
use Rattle.c_types.specs.Walks.{body_sites}
use Rattle.c_types.specs.TypingRules.{Breaks, Stands, at_token}
use Rattle.c_types.specs.TypingRules.Violates.{by_site}
use Rattle.c_types.specs.Checked.{IsReadProgram, KeepsRules}
use Rattle.c_semantics.specs.ResolvedTree as Tree
use Rattle.c_resolver.specs.Resolving.{function_tokens, functions_in}
use Rattle.c_resolver.specs.ResolvingViews.{body_in, parameters_in}
use Rattle.c_meaning.specs.Mentions.{Declared, NamesAgree, at_sites, in_functions, in_parameters, in_stmt, items_sites}
use Rattle.c_meaning.proofs.Uses.{TakesNone, AllTakeNone, take_none-append}
use Rattle.c_meaning.proofs.MentionedExpressions.{Clean, Mentioned, mentioned-append}
use Rattle.c_meaning.proofs.MentionedStatements.{AgreesBody, body_agrees}

-- ---- functions

parameters-mentioned : (fs : List ℕ) (n : ℕ) (ps : List Parameter) (place : Place) → in_parameters (parameters_in ps) ≡ at_sites fs (parameter_sites n ps place)
parameters-mentioned fs n [] place = refl
parameters-mentioned fs n (p ∷ ps) place = ap (λ ms. Declared p.token ∷ ms) (parameters-mentioned fs (n + 1) ps (place_after (parameter p ∷ []) place))

parameters-take : (ps : List Parameter) → AllTakeNone (parameters_of ps)
parameters-take [] = tt
parameters-take (p ∷ ps) = (tt, parameters-take ps)

function_agrees : (fs : List ℕ) (ps : List Parameter) (body : List Stmt) (known : List Declaration) (home : Home) → AgreesBody fs body → AllTakeNone known →
    Mentioned fs (in_parameters (parameters_in ps) ++ in_stmt (body_in fs body (known ++ parameters_of ps))) (function_sites ps body (in_function known home))
function_agrees fs ps body known home agrees takes =
    let place = in_function known home in
    mentioned-append fs (in_parameters (parameters_in ps)) (in_stmt (body_in fs body (known ++ parameters_of ps)))
    (parameter_sites 0 ps place) (body_sites body (place_after (parameters_of ps) place))
    (λ clean. parameters-mentioned fs 0 ps place)
    (agrees (place_after (parameters_of ps) place) (take_none-append known (parameters_of ps) takes (parameters-take ps)))

-- ---- items

item-takes : (x : Item) → TakesNone (entity_of x)
item-takes (item.Object storage unsigned name length' token) = tt
item-takes (item.Constant unsigned name length' values braces token) = tt
item-takes (item.Untrusted name token) = refl
item-takes (item.Function private result name parameters body token) = tt

lengths-mention : (fs : List ℕ) (length' : Option ℕ) (token : ℕ) → [] ≡ at_sites fs (length_sites length' token)
lengths-mention fs None token = refl
lengths-mention fs (Some n) token = refl

item_agrees : (fs : List ℕ) {ts : List Bounded} {x : Item} → IsItem ts x → (before : List Item) → AllTakeNone (declarations_of before) →
    Mentioned fs (in_functions (functions_in fs (x ∷ []) (declarations_of before))) (item_sites before x)
item_agrees fs (IsItem.object {length = length'} first at end text a b c) before takes clean = lengths-mention fs length' at.place
item_agrees fs (IsItem.constant {length = length'} const first at equals end text a b c) before takes clean = lengths-mention fs length' at.place
item_agrees fs (IsItem.untrusted first void at left inner right end text) before takes clean = refl
item_agrees fs (IsItem.function {is_private = private} {result = result} {params = ps} {body = body} at left right start end text a b c d) before takes clean =
    let known = declarations_of before ++ declaration_of (item.Function private result text ps body at.place) ∷ [] in
    append-nil (in_parameters (parameters_in ps) ++ in_stmt (body_in fs body (known ++ parameters_of ps)))
    ∙ function_agrees fs ps body known (record { private = private; result = result; token = at.place }) (body_agrees fs d)
    (take_none-append (declarations_of before) (declaration_of (item.Function private result text ps body at.place) ∷ []) takes (tt, tt)) clean.1

pub declarations-snoc : (before : List Item) (x : Item) → declarations_of (before ++ x ∷ []) ≡ declarations_of before ++ declaration_of x ∷ []
declarations-snoc [] x = refl
declarations-snoc (y ∷ before) x = ap (λ ds. declaration_of y ∷ ds) (declarations-snoc before x)

in_functions-append : (xs ys : List Tree.Function) → in_functions (xs ++ ys) ≡ in_functions xs ++ in_functions ys
in_functions-append [] ys = refl
in_functions-append (x ∷ xs) ys =
    ap (λ ms. (in_parameters x.parameters ++ in_stmt x.body) ++ ms) (in_functions-append xs ys)
    ∙ sym (append_assoc (in_parameters x.parameters ++ in_stmt x.body) (in_functions xs) (in_functions ys))

pub functions-cons : (fs : List ℕ) (x : Item) (xs : List Item) (known : List Declaration) →
    functions_in fs (x ∷ xs) known ≡ functions_in fs (x ∷ []) known ++ functions_in fs xs (known ++ declaration_of x ∷ [])
functions-cons fs (item.Object storage unsigned name length' token) xs known = refl
functions-cons fs (item.Constant unsigned name length' values braces token) xs known = refl
functions-cons fs (item.Untrusted name token) xs known = refl
functions-cons fs (item.Function private result name parameters body token) xs known = refl

items_agree : (fs : List ℕ) {ts : List Bounded} {xs : List Item} → AreItems ts xs → (before : List Item) → AllTakeNone (declarations_of before) →
    Mentioned fs (in_functions (functions_in fs xs (declarations_of before))) (items_sites before xs)
items_agree fs AreItems.nothing before takes clean = refl
items_agree fs (AreItems.further {x = x} {xs = xs} d ds) before takes clean =
    let known = declarations_of before in
    let snoc = declarations-snoc before x in
    let more : AllTakeNone (declarations_of (before ++ x ∷ [])) =
    subst AllTakeNone (sym snoc) (take_none-append known (declaration_of x ∷ []) takes (item-takes x, tt)) in
    ap in_functions (functions-cons fs x xs known)
    ∙ in_functions-append (functions_in fs (x ∷ []) known) (functions_in fs xs (known ++ declaration_of x ∷ []))
    ∙ ap (λ ds'. in_functions (functions_in fs (x ∷ []) known) ++ in_functions (functions_in fs xs ds')) (sym snoc)
    ∙ mentioned-append fs (in_functions (functions_in fs (x ∷ []) known)) (in_functions (functions_in fs xs (declarations_of (before ++ x ∷ []))))
    (item_sites before x) (items_sites (before ++ x ∷ []) xs) (item_agrees fs d before takes) (items_agree fs ds (before ++ x ∷ []) more) clean

-- ---- the rules are kept at each site

clean-both : (xs ys : List Site) → Clean xs → Clean ys → Clean (xs ++ ys)
clean-both [] ys left right = right
clean-both (x ∷ xs) ys left right = (left.0, clean-both xs ys left.1 right)

clean-after : (sites front back : List Site) → sites ≡ front ++ back → ((before : List Site) (s : Site) (rule : Rule) → Stands sites before s → Breaks s rule → ⊥) → Clean back
clean-after sites front [] all none = tt
clean-after sites front (s ∷ back) all none = (
  (λ rule breaks. none front s rule (record { back = back; all = all }) breaks),
  clean-after sites (front ++ s ∷ []) back (all ∙ sym (append_assoc front (s ∷ []) back)) none,
)

pub items-clean : (p : Program) → KeepsRules p → (before rest : List Item) → p.items ≡ before ++ rest → Clean (items_sites before rest)
items-clean p keeps before [] all = tt
items-clean p keeps before (x ∷ rest) all =
    clean-both (item_sites before x) (items_sites (before ++ x ∷ []) rest)
    (clean-after (item_sites before x) [] (item_sites before x) refl
    (λ front s rule stands breaks. keeps (at_token s) rule (by_site before x front s (record { after = rest; all = all }) stands refl breaks)))
    (items-clean p keeps (before ++ x ∷ []) rest (all ∙ sym (append_assoc before (x ∷ []) rest)))

pub names_agree : (p : Program) → IsReadProgram p → KeepsRules p → NamesAgree p
names_agree p read keeps = items_agree (function_tokens p.items) read.2 [] tt (items-clean p keeps [] p.items refl)
