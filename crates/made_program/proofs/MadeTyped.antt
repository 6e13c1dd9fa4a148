-- The program of a made source keeps the typing rules.
use Rattle.std.proofs.Common.{◌≡◌, ◌<◌, ◌≤◌, ℕ, zero, suc, ◌+◌, true, false, List, [], ◌∷◌, ◌++◌, length, map, drop, Option, None, Some, refl, sym, ap, ◌∙◌, subst, arith}
use Rattle.std.specs.Prelude.{codes, ◌==◌}
use Rattle.std.proofs.lemmas.List.{append-nil, drop_at, drop_all}
use Rattle.std.proofs.lemmas.Bool.Decides.{nat_tests}
use Rattle.c_grammar.specs.declared.expr.Expr.TheVariants as expr
use Rattle.c_grammar.specs.declared.stmt.Stmt.TheVariants as stmt
use Rattle.c_grammar.specs.declared.item.Kind3.TheVariants.{Int}
use Rattle.c_grammar.specs.declared.stmt.Stmt.{Stmt}
use Rattle.c_scopes.specs.declared.declaration.Binding.{Binding}
use Rattle.c_scopes.specs.declared.declaration.Declaration.{Declaration}
use Rattle.c_scopes.specs.declared.declaration.Entity.TheVariants.{Local, Function}
use Rattle.c_scopes.specs.Scopes.{latest, declares, is_again}
use Rattle.c_scopes.specs.Declarations.{declaration_of, declarations_of, local}
use Rattle.c_types.specs.declared.site.Home.{Home}
use Rattle.c_types.specs.declared.site.How.{How}
use Rattle.c_types.specs.declared.site.How.TheVariants.{CallValue}
use Rattle.c_types.specs.declared.site.Site.{Site}
use Rattle.c_types.specs.declared.site.Site.TheVariants as site
use Rattle.c_types.specs.declared.verdict.Fault.{Fault}
use Rattle.c_types.specs.declared.verdict.Verdict.{Verdict}
use Rattle.c_types.specs.Checked.{IsTyped, has_main}
use Rattle.c_types.proofs.Exact.{none_is}
use Rattle.c_types.specs.Verdicts.{afresh, known_rule, name_rule, note, noted, site_rule, use_rule, with_rule}
use Rattle.c_types.specs.Sites.{Place, StmtSites, global_sites, place_after, stmt_sites, stmts_in_turn, use_of}
use Rattle.c_types.specs.TypingRules.{at_token}
use Rattle.c_types.specs.Walks.{first_fault_of, items_noted}
use Rattle.c_types.proofs.Equations.{expr_forms, stmt_forms}
use Rattle.made_program.proofs.MadeItems.{after_calls, after_functions, answer, call_of, calls_from, function_item, function_name, functions_from, head_items, later, made_items, made_program, main_item, store_a, store_g, turns_of}
use Rattle.made_program.proofs.MadeNames.{CanCall, Knows, bound_a, bound_g, head_known, latest_hit, latest_kept, one_known}

-- a site that breaks no rule, however many locals stand before it
abbrev Fine : Site → Type 0
Fine s = (n : ℕ) → site_rule n s ≡ None

abbrev AllFine : List Site → Type 0
AllFine [] = Unit {0}
AllFine (s ∷ ss) = Fine s × AllFine ss

fine_append : (xs ys : List Site) → AllFine xs → AllFine ys → AllFine (xs ++ ys)
fine_append [] ys one other = other
fine_append (x ∷ xs) ys one other = (one.0, fine_append xs ys one.1 other)

-- nothing is found in such sites
noted_fine : (v : Verdict) (ss : List Site) → AllFine ss → (noted v ss).first ≡ v.first
unfolding note
noted_fine v [] fine = refl
noted_fine v (s ∷ ss) fine =
    noted_fine (note v s) ss fine.1 ∙ ap (λ rule. with_rule v.first (at_token s) rule) (fine.0 v.locals)

fine_use : (how : How) (known : List Declaration) (home : Home) (name : List ℕ) (at : ℕ) (d : Binding) → latest known name ≡ Some d → known_rule how d home ≡ None → Fine (use_of how known home name at)
fine_use how known home name at d found rule n = ap (λ means. use_rule how means home) found ∙ rule

-- a statement that declares nothing, before others
fine_turn : (s : StmtSites) (ss : List StmtSites) (place : Place) → s.declared ≡ [] → AllFine (s.sites place) → AllFine (stmts_in_turn ss place) → AllFine (stmts_in_turn (s ∷ ss) place)
fine_turn s ss place none one more =
    fine_append (s.sites place) _ one
    (subst (λ ds. AllFine (stmts_in_turn ss (place_after ds place))) (sym none)
    (subst (λ known. AllFine (stmts_in_turn ss (record place { scope = record { known = known; start = place.scope.start } }))) (sym (append-nil place.scope.known)) more))

-- ---- a function

-- what is known in a function
pub record Inside (known : List Declaration) (token : ℕ) : Type 0 where
  pub a : latest known (codes "a") ≡ Some bound_a
  pub g : latest known (codes "g") ≡ Some bound_g
  pub x : latest known (codes "x") ≡ Some (record { token = token; entity = Local false })

fine_store_a : (k p token : ℕ) (place : Place) → Inside place.scope.known token → AllFine ((stmt_sites (store_a k p)).sites place)
fine_store_a k p token place inside = simp (expr_forms, stmt_forms, inside.a, inside.x) (λ n. refl, (λ n. refl, (λ n. refl, (λ n. refl, tt))))

fine_store_g : (k p token : ℕ) (place : Place) → Inside place.scope.known token → AllFine ((stmt_sites (store_g k p)).sites place)
fine_store_g k p token place inside = simp (expr_forms, stmt_forms, inside.g, inside.x) (λ n. refl, (λ n. refl, (λ n. refl, tt)))

fine_answer : (k p token : ℕ) (place : Place) → Inside place.scope.known token → place.home.result ≡ Int → AllFine ((stmt_sites (answer k p)).sites place)
fine_answer k p token place inside result = simp (expr_forms, stmt_forms, inside.a, inside.x, result) (λ n. refl, (λ n. refl, (λ n. refl, tt)))

fine_body : (k p q r token : ℕ) (place : Place) → Inside place.scope.known token → place.home.result ≡ Int → AllFine (stmts_in_turn (map stmt_sites (store_a k p ∷ store_g k q ∷ answer k r ∷ [])) place)
fine_body k p q r token place inside result =
    fine_turn (stmt_sites (store_a k p)) (stmt_sites (store_g k q) ∷ stmt_sites (answer k r) ∷ []) place (simp stmt_forms) (fine_store_a k p token place inside)
    (fine_turn (stmt_sites (store_g k q)) (stmt_sites (answer k r) ∷ []) place (simp stmt_forms) (fine_store_g k q token place inside)
    (fine_turn (stmt_sites (answer k r)) [] place (simp stmt_forms) (fine_answer k r token place inside result) tt))

-- its name and its parameter
few_globals : (number : ℕ) → number < 1024 → (number == 1024) ≡ false
few_globals number few = grind (arith, nat_tests)

opened : (v : Verdict) (number t u : ℕ) (ss : List Site) → number < 1024 → AllFine ss → (noted (afresh v) (site.Global number false t ∷ site.Parameter 0 false u ∷ ss)).first ≡ v.first
unfolding note
opened v number t u ss few fine =
    noted_fine (note (note (afresh v) (site.Global number false t)) (site.Parameter 0 false u)) ss fine
    ∙ ap (λ many. with_rule v.first t (name_rule false many)) (few_globals number few)

-- nothing is declared again
none_again : (known : List Declaration) (name : List ℕ) → declares (drop (length known) known) name ≡ false
none_again known name = ap (λ ds. declares ds name) (drop_all (length known) known (omega arith))

clear_function : (v : Verdict) (number k p : ℕ) (known : List Declaration) → Knows known p k → k < 48 → number < 1024 → (noted (afresh v) (global_sites number known (function_item k p))).first ≡ v.first
clear_function v number k p known knows small few =
    let d : Declaration = declaration_of (function_item k p) in
    let x : Declaration = local false (codes "x") (later 4 p) in
    let inside : Inside ((known ++ d ∷ []) ++ x ∷ []) (later 4 p) = record {
      a = latest_kept (known ++ d ∷ []) x (codes "a") refl ∙ latest_kept known d (codes "a") refl ∙ knows.a;
      g = latest_kept (known ++ d ∷ []) x (codes "g") refl ∙ latest_kept known d (codes "g") refl ∙ knows.g;
      x = latest_hit (known ++ d ∷ []) x (codes "x") refl;
    } in
    let home : Home = record { private = false; result = Int; token = later 1 p } in
    let place : Place = record { scope = record { known = (known ++ d ∷ []) ++ x ∷ []; start = length (known ++ d ∷ []) }; home = home; in_loop = false } in
    let rest : List Site = stmts_in_turn (map stmt_sites (store_a k (later 7 p) ∷ store_g k (later 23 p) ∷ answer k (later 35 p) ∷ [])) place in
    ap (λ again. (noted (afresh v) (site.Global number again (later 1 p) ∷ site.Parameter 0 (declares (drop (length (known ++ d ∷ [])) (known ++ d ∷ [])) (codes "x")) (later 4 p) ∷ rest)).first) (knows.others k (omega arith) small)
    ∙ ap (λ again. (noted (afresh v) (site.Global number false (later 1 p) ∷ site.Parameter 0 again (later 4 p) ∷ rest)).first) (none_again (known ++ d ∷ []) (codes "x"))
    ∙ opened v number (later 1 p) (later 4 p) rest few (fine_body k (later 7 p) (later 23 p) (later 35 p) (later 4 p) place inside refl)

-- ---- `main`

-- the locals alone
local_form : (name : List ℕ) (token : ℕ) → stmt_sites (stmt.Local false name None token) ≡ record { declared = local false name token ∷ []; sites = λ place. site.Local (is_again place.scope name) token ∷ [] }
local_form name token = simp stmt_forms

-- what is known in `main`
pub record InMain (known : List Declaration) (home : Home) (u t count : ℕ) : Type 0 where
  pub i : latest known (codes "i") ≡ Some (record { token = u; entity = Local false })
  pub s : latest known (codes "s") ≡ Some (record { token = t; entity = Local false })
  pub functions : (k : ℕ) → k < count → CanCall known home.token k

call_rule : (d : Binding) (home : Home) → d.entity ≡ Function Int false 1 → (d.token == home.token) ≡ false → known_rule (CallValue 1) d home ≡ None
call_rule d home is differ = simp (is, differ)

fine_call : (k p u t count : ℕ) (place : Place) → InMain place.scope.known place.home u t count → k < count → AllFine ((stmt_sites (call_of k p)).sites place)
fine_call k p u t count place main small =
    let can = main.functions k small in
    let differ : (can.binding.token == place.home.token) ≡ false = let early = can.before in grind (arith, nat_tests) in
    let called : (n : ℕ) → site_rule n (use_of (CallValue 1) place.scope.known place.home (function_name k) (later 2 p)) ≡ None =
    fine_use (CallValue 1) place.scope.known place.home (function_name k) (later 2 p) can.binding can.found (call_rule can.binding place.home can.entity differ) in
    simp (expr_forms, stmt_forms, main.i, main.s) (λ n. refl, (called, (λ n. refl, (λ n. refl, tt))))

fine_calls : (k p r m u t count : ℕ) (place : Place) → InMain place.scope.known place.home u t count → k + m ≤ count
    → AllFine (stmts_in_turn (map stmt_sites (calls_from k p m ++ stmt.Release (expr.Name (codes "s") (later 2 r)) r ∷ [])) place)
fine_calls k p r zero u t count place main most =
    fine_turn (stmt_sites (stmt.Release (expr.Name (codes "s") (later 2 r)) r)) [] place (simp stmt_forms) (simp (expr_forms, stmt_forms, main.s) (λ n. refl, tt)) tt
fine_calls k p r (suc m) u t count place main most =
    fine_turn (stmt_sites (call_of k p)) (map stmt_sites (calls_from (k + 1) (later 9 p) m ++ stmt.Release (expr.Name (codes "s") (later 2 r)) r ∷ [])) place (simp stmt_forms)
    (fine_call k p u t count place main (omega (arith, most)))
    (fine_calls (k + 1) (later 9 p) r m u t count place main (omega (arith, most)))

fine_turns : (p r u t count : ℕ) (place : Place) → InMain place.scope.known place.home u t count → AllFine ((stmt_sites (turns_of count p r)).sites place)
fine_turns p r u t count place main =
    let within : Place = record { scope = record { known = place.scope.known; start = length place.scope.known }; home = place.home; in_loop = true } in
    let body : AllFine (stmts_in_turn (map stmt_sites (calls_from 0 (later 17 p) count ++ stmt.Release (expr.Name (codes "s") (later 2 r)) r ∷ [])) within) =
    fine_calls 0 (later 17 p) r count u t count within main (omega arith) in
    simp (expr_forms, stmt_forms, append-nil, main.i, main.s) (λ n. refl, (λ n. refl, (λ n. refl, (λ n. refl, body))))

opened_main : (v : Verdict) (number t u w : ℕ) (ss : List Site) → number < 1024 → AllFine ss → (noted (afresh v) (site.Global number false t ∷ site.Local false u ∷ site.Local false w ∷ ss)).first ≡ v.first
unfolding note
opened_main v number t u w ss few fine =
    noted_fine (note (note (note (afresh v) (site.Global number false t)) (site.Local false u)) (site.Local false w)) ss fine
    ∙ ap (λ many. with_rule v.first t (name_rule false many)) (few_globals number few)

fine_end : (r : ℕ) (place : Place) → place.home.result ≡ Int → AllFine (stmts_in_turn (map stmt_sites (stmt.Check (later 6 r) ∷ stmt.Return (Some (expr.Number 0 false (later 11 r))) (later 10 r) ∷ [])) place)
fine_end r place result =
    let last : Stmt = stmt.Return (Some (expr.Number 0 false (later 11 r))) (later 10 r) in
    fine_turn (stmt_sites (stmt.Check (later 6 r))) (stmt_sites last ∷ []) place (simp stmt_forms) (simp stmt_forms tt)
    (fine_turn (stmt_sites last) [] place (simp stmt_forms) (simp (expr_forms, stmt_forms, result) (λ n. refl, tt)) tt)

clear_main : (v : Verdict) (number n m : ℕ) (known : List Declaration) → Knows known m n → number < 1024 → (noted (afresh v) (global_sites number known (main_item n m))).first ≡ v.first
clear_main v number n m known knows few =
    let r : ℕ = after_calls (later 29 m) n in
    let d : Declaration = declaration_of (main_item n m) in
    let home : Home = record { private = false; result = Int; token = later 1 m } in
    let i : Declaration = local false (codes "i") (later 7 m) in
    let t : Declaration = local false (codes "s") (later 10 m) in
    let begin : ℕ = length (known ++ d ∷ []) in
    let known1 : List Declaration = (known ++ d ∷ []) ++ i ∷ [] in
    let known2 : List Declaration = known1 ++ t ∷ [] in
    let place : Place = record { scope = record { known = known2; start = begin }; home = home; in_loop = false } in
    let main : InMain known2 home (later 7 m) (later 10 m) n = record {
      i = latest_kept known1 t (codes "i") refl ∙ latest_hit (known ++ d ∷ []) i (codes "i") refl;
      s = latest_hit known1 t (codes "s") refl;
      functions = λ k small.
          let can = knows.functions k small in
          record {
            binding = can.binding;
            found = latest_kept known1 t (function_name k) refl ∙ latest_kept (known ++ d ∷ []) i (function_name k) refl ∙ latest_kept known d (function_name k) refl ∙ can.found;
            entity = can.entity;
            before = let early = can.before in omega (arith, early);
          };
    } in
    let ending : List Stmt = stmt.Check (later 6 r) ∷ stmt.Return (Some (expr.Number 0 false (later 11 r))) (later 10 r) ∷ [] in
    let rest : List Site = stmts_in_turn (map stmt_sites (turns_of n (later 12 m) r ∷ ending)) place in
    let fine : AllFine rest = fine_turn (stmt_sites (turns_of n (later 12 m) r)) (map stmt_sites ending) place (simp stmt_forms) (fine_turns (later 12 m) r (later 7 m) (later 10 m) n place main) (fine_end r place refl) in
    let sites : global_sites number known (main_item n m) ≡ site.Global number (declares known (codes "main")) (later 1 m) ∷ site.Local (declares (drop begin (known ++ d ∷ [])) (codes "i")) (later 7 m)
    ∷ site.Local (declares (drop begin known1) (codes "s")) (later 10 m) ∷ rest = simp (local_form, append-nil) in
    let found : List Site → Option Fault = λ ss. (noted (afresh v) ss).first in
    ap found sites
    ∙ ap (λ again. found (site.Global number again (later 1 m) ∷ site.Local (declares (drop begin (known ++ d ∷ [])) (codes "i")) (later 7 m) ∷ site.Local (declares (drop begin known1) (codes "s")) (later 10 m) ∷ rest)) knows.no_main
    ∙ ap (λ again. found (site.Global number false (later 1 m) ∷ site.Local again (later 7 m) ∷ site.Local (declares (drop begin known1) (codes "s")) (later 10 m) ∷ rest)) (none_again (known ++ d ∷ []) (codes "i"))
    ∙ ap (λ ds. found (site.Global number false (later 1 m) ∷ site.Local false (later 7 m) ∷ site.Local (declares ds (codes "s")) (later 10 m) ∷ rest)) (drop_at (known ++ d ∷ []) (i ∷ []) begin refl)
    ∙ opened_main v number (later 1 m) (later 7 m) (later 10 m) rest few fine

-- ---- the program

clear_from : (v : Verdict) (number k p n count : ℕ) (known : List Declaration) → Knows known p k → k + n ≡ count → count ≤ 48 → number + n < 1024
    → (items_noted number known (functions_from k p n ++ main_item count (after_functions p n) ∷ []) v).first ≡ v.first
clear_from v number k p zero count known knows total most few =
    let same : k ≡ count = omega (arith, total) in
    clear_main v number count p known (subst (λ k. Knows known p k) same knows) (omega (arith, few))
clear_from v number k p (suc n) count known knows total most few =
    let next : suc k ≡ k + 1 = omega arith in
    let small : k < 48 = omega (arith, total, most) in
    let step : Verdict = noted (afresh v) (global_sites number known (function_item k p)) in
    clear_from step (number + 1) (k + 1) (later 48 p) n count (known ++ declaration_of (function_item k p) ∷ [])
    (subst (λ k'. Knows (known ++ declaration_of (function_item k p) ∷ []) (later 48 p) k') next (one_known known p k small knows))
    (omega (arith, total)) most (omega (arith, few))
    ∙ clear_function v number k p known knows small (omega (arith, few))

clear : (n : ℕ) → n ≤ 48 → first_fault_of (made_items n) ≡ None
unfolding note
clear n most = clear_from _ 2 0 13 n n (declarations_of head_items) head_known (omega arith) most (omega (arith, most))

main_last : (k p n : ℕ) (count m : ℕ) → has_main (functions_from k p n ++ main_item count m ∷ []) ≡ true
main_last k p zero count m = refl
main_last k p (suc n) count m = main_last (k + 1) (later 48 p) n count m

pub made_typed : (n : ℕ) → n ≤ 48 → IsTyped (made_program n)
made_typed n most = record { rules = none_is (made_program n) (clear n most); main = main_last 0 13 n n (after_functions 13 n) }
