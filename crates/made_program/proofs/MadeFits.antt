-- The program of a made source is within the limits of memory.
use Rattle.std.proofs.Common.{◌≡◌, ◌≤◌, ℕ, zero, suc, ◌+◌, ◌*◌, Bool, true, false, cond, List, [], ◌∷◌, ◌++◌, length, length-append, ltb, map, None, Some, refl, ap, ◌∙◌, arith}
use Rattle.std.specs.Prelude.{codes}
use Rattle.std.specs.List.{flat_map, range_with_len}
use Rattle.std.proofs.lemmas.Bool.{cond-false, le-ltb}
use Rattle.std.proofs.lemmas.Grind.{div_ceil_times}
use Rattle.std.proofs.lemmas.List.{length-map}
use Rattle.regions.specs.declared.Class.TheVariants.{Constant, Logged, Open, Private, Verified}
use Rattle.regions.specs.declared.rights.Class.TheVariants as class
use Rattle.c_token.specs.declared.kinds.Kind.{Kind}
use Rattle.c_grammar.specs.declared.stmt.Stmt.TheVariants as stmt
use Rattle.c_grammar.specs.declared.expr.Expr.TheVariants as expr
use Rattle.c_grammar.specs.declared.item.Item.{Item}
use Rattle.c_types.specs.Checked.{IsReadProgram}
use Rattle.c_meaning.specs.SourceNodes.{body_count, items_count}
use Rattle.c_meaning.proofs.Counts.{counts}
use Rattle.c_meaning.proofs.Shaped.{nodes_agree}
use Rattle.c_resolver.specs.Resolving.{objects_in, plain_program, variable_of}
use Rattle.c_semantics.specs.Nodes.{function_nodes, functions_nodes, nodes, stmt_nodes}
use Rattle.c_semantics.specs.ProgramShape.{locals_of, own_tokens}
use Rattle.c_semantics.specs.ResolvedTree.{Function, Object, Stmt, Nothing, Then, Empty, Block, Local, Assign, Store, Call, Suspend, Release, Check, Return, Break, Continue, If, While, For}
use Rattle.lowering.specs.Cells.{cell_count}
use Rattle.lowering.specs.Lowering.{lowered}
use Rattle.lowering.specs.Sizes.{temporary_cells, weight_of_all}
use Rattle.lowering.proofs.Sizing.{sizes-follow}
use Rattle.ir_code.specs.declared.Op.{Op}
use Rattle.codegen.specs.ImageCode.{code_size}
use Rattle.codegen.proofs.Sizes.{sizes-fit-weights}
use Rattle.region_plan.specs.Homes.{blocks_for}
use Rattle.compiler.specs.MemoryUse.{blocks_of_code, constant_blocks, function_words, is_as_private, log_blocks, private_blocks, shared_bytes, source_fault, verified_blocks}
use Rattle.compiler.specs.Places.{words_of_class}
use Rattle.made_program.proofs.MadeItems.{after_calls, after_functions, call_kinds, calls_from, function_item, function_kinds, functions_from, later, made_items, made_kinds, made_program, main_item}
use Rattle.made_program.proofs.MadeDerived.{made_derived}
use Rattle.made_program.proofs.MadeTyped.{made_typed}

-- ---- tokens

so_many : (f : ℕ → List Kind) (c : ℕ) → ((k : ℕ) → length (f k) ≡ c) → (a n : ℕ) → length (flat_map f (range_with_len a n)) ≡ n * c
so_many f c each a zero = omega arith
so_many f c each a (suc n) =
    let first : length (f a) ≡ c = each a in
    let rest : length (flat_map f (range_with_len (a + 1) n)) ≡ n * c = so_many f c each (a + 1) n in
    length-append (f a) (flat_map f (range_with_len (a + 1) n)) ∙ omega (arith, first, rest)

few_tokens : (n : ℕ) → n ≤ 48 → length (made_kinds n) ≤ 262144
few_tokens n most =
    let functions : length (flat_map function_kinds (range_with_len 0 n)) ≡ n * 48 = so_many function_kinds 48 (λ k. refl) 0 n in
    let calls : length (flat_map call_kinds (range_with_len 0 n)) ≡ n * 9 = so_many call_kinds 9 (λ k. refl) 0 n in
    let whole : length (made_kinds n) ≡ 6 + (7 + (length (flat_map function_kinds (range_with_len 0 n)) + (29 + (length (flat_map call_kinds (range_with_len 0 n)) + 14)))) =
    simp (length-append) (omega arith) in
    omega (arith, functions, calls, whole, most)

made_read : (n : ℕ) → n ≤ 48 → IsReadProgram (made_program n)
made_read n most = (made_kinds n, few_tokens n most, made_derived n)

-- ---- nodes

function_count : (k p : ℕ) (rest : List Item) → items_count (function_item k p ∷ rest) ≡ 25 + items_count rest
function_count k p rest = simp counts (omega arith)

calls_count : (k p n : ℕ) (r : ℕ) → body_count (calls_from k p n ++ stmt.Release (expr.Name (codes "s") (later 2 r)) r ∷ []) ≡ n * 5 + 2
calls_count k p zero r = simp counts (omega arith)
calls_count k p (suc n) r =
    let rest : body_count (calls_from (k + 1) (later 9 p) n ++ stmt.Release (expr.Name (codes "s") (later 2 r)) r ∷ []) ≡ n * 5 + 2 = calls_count (k + 1) (later 9 p) n r in
    simp counts (omega (arith, rest))

main_count : (n m : ℕ) → items_count (main_item n m ∷ []) ≡ n * 5 + 19
main_count n m =
    let calls : body_count (calls_from 0 (later 29 m) n ++ stmt.Release (expr.Name (codes "s") (later 2 (after_calls (later 29 m) n))) (after_calls (later 29 m) n) ∷ []) ≡ n * 5 + 2 = calls_count 0 (later 29 m) n (after_calls (later 29 m) n) in
    simp counts (omega (arith, calls))

items_total : (k p n count m : ℕ) → items_count (functions_from k p n ++ main_item count m ∷ []) ≡ n * 25 + (count * 5 + 19)
items_total k p zero count m = let last : items_count (main_item count m ∷ []) ≡ count * 5 + 19 = main_count count m in omega (arith, last)
items_total k p (suc n) count m =
    let rest : items_count (functions_from (k + 1) (later 48 p) n ++ main_item count m ∷ []) ≡ n * 25 + (count * 5 + 19) = items_total (k + 1) (later 48 p) n count m in
    function_count k p (functions_from (k + 1) (later 48 p) n ++ main_item count m ∷ []) ∙ omega (arith, rest)

few_nodes : (n : ℕ) → n ≤ 48 → nodes (plain_program (made_program n)) ≤ 1459
few_nodes n most =
    let agree : nodes (plain_program (made_program n)) ≡ items_count (made_items n) = nodes_agree (made_program n) (made_read n most) (made_typed n most).rules in
    let total : items_count (made_items n) ≡ n * 25 + (n * 5 + 19) = items_total 0 13 n n (after_functions 13 n) in
    omega (arith, agree, total, most)

-- ---- code

size_by_weight : (ops : List Op) → code_size ops ≤ weight_of_all ops
size_by_weight [] = omega arith
size_by_weight (o ∷ ops) = omega (arith, sizes-fit-weights o, size_by_weight ops)

few_code_blocks : (n : ℕ) → n ≤ 48 → blocks_of_code (made_program n) * 16 ≤ 93455
few_code_blocks n most =
    let few : nodes (plain_program (made_program n)) ≤ 1459 = few_nodes n most in
    let light : code_size (lowered (plain_program (made_program n))).ops ≤ weight_of_all (lowered (plain_program (made_program n))).ops = size_by_weight (lowered (plain_program (made_program n))).ops in
    let heavy = (sizes-follow (plain_program (made_program n))).weight in
    omega (arith, few, light, heavy)

-- ---- words

locals_few : (s : Stmt) → length (locals_of s) ≤ stmt_nodes s
locals_few Nothing = omega arith
locals_few (Then first second) = omega (arith, length-append (locals_of first) (locals_of second), locals_few first, locals_few second)
locals_few Empty = omega arith
locals_few (Block body) = omega (arith, locals_few body)
locals_few (Local x value) = omega arith
locals_few (Assign x value) = omega arith
locals_few (Store at array length index value) = omega arith
locals_few (Call function given) = omega arith
locals_few Suspend = omega arith
locals_few (Release value) = omega arith
locals_few Check = omega arith
locals_few (Return value) = omega arith
locals_few Break = omega arith
locals_few Continue = omega arith
locals_few (If test body other) = omega (arith, length-append (locals_of body) (locals_of other), locals_few body, locals_few other)
locals_few (While test body) = omega (arith, locals_few body)
locals_few (For first test step body) =
    omega (arith, length-append (locals_of first) (locals_of step ++ locals_of body), length-append (locals_of step) (locals_of body), locals_few first, locals_few step, locals_few body)

tokens_few : (f : Function) → length (own_tokens f) ≤ function_nodes f
tokens_few f =
    let parameters : length (map (λ x. x.token) f.parameters) ≡ length f.parameters = simp length-map in
    let both : length (own_tokens f) ≡ length (map (λ x. x.token) f.parameters) + length (locals_of f.body) = length-append (map (λ x. x.token) f.parameters) (locals_of f.body) in
    let locals : length (locals_of f.body) ≤ stmt_nodes f.body = locals_few f.body in
    omega (arith, parameters, both, locals)

at_most : (b : Bool) (n : ℕ) → cond b n 0 ≤ n
at_most true n = omega arith
at_most false n = omega arith

words_few : (private : Bool) (fs : List Function) → function_words private fs ≤ functions_nodes fs + temporary_cells fs
words_few private [] = omega arith
words_few private (f ∷ fs) =
    let own : cond (is_as_private private f.private) (cell_count f) 0 ≤ cell_count f = at_most (is_as_private private f.private) (cell_count f) in
    let tokens : length (own_tokens f) ≤ function_nodes f = tokens_few f in
    let rest : function_words private fs ≤ functions_nodes fs + temporary_cells fs = words_few private fs in
    omega (arith, own, tokens, rest)

few_words : (private : Bool) (n : ℕ) → n ≤ 48 → function_words private (plain_program (made_program n)).functions ≤ 4377
few_words private n most =
    let few : nodes (plain_program (made_program n)) ≤ 1459 = few_nodes n most in
    let words : function_words private (plain_program (made_program n)).functions ≤ nodes (plain_program (made_program n)) + temporary_cells (plain_program (made_program n)).functions = words_few private (plain_program (made_program n)).functions in
    let temporaries : temporary_cells (plain_program (made_program n)).functions ≤ 2 * nodes (plain_program (made_program n)) = (sizes-follow (plain_program (made_program n))).temporaries in
    omega (arith, few, words, temporaries)

-- ---- objects

abbrev arrays : List Object
arrays = record { variable = variable_of 1 (Some class.Verified); length = Some 256; first = [] } ∷ record { variable = variable_of 8 (Some class.Logged); length = Some 64; first = [] } ∷ []

no_objects : (k p n count m : ℕ) → objects_in (functions_from k p n ++ main_item count m ∷ []) ≡ []
no_objects k p zero count m = refl
no_objects k p (suc n) count m = no_objects (k + 1) (later 48 p) n count m

two_arrays : (n : ℕ) → (plain_program (made_program n)).objects ≡ arrays
two_arrays n = ap (λ os. record { variable = variable_of 1 (Some class.Verified); length = Some 256; first = [] } ∷ record { variable = variable_of 8 (Some class.Logged); length = Some 64; first = [] } ∷ os)
    (no_objects 0 13 n n (after_functions 13 n))

-- ---- blocks

few_blocks : (words : ℕ) → blocks_for words * 16 ≤ words + 15
few_blocks words = let bounds = div_ceil_times (4 * words) 64 (omega arith) in omega (arith, bounds.1)

pub made_fits : (n : ℕ) → n ≤ 48 → source_fault (made_program n) ≡ None
made_fits n most =
    let p = made_program n in
    let q = plain_program p in
    let verified_array : words_of_class Verified q.objects ≡ 256 = ap (words_of_class Verified) (two_arrays n) in
    let private_array : words_of_class Private q.objects ≡ 0 = ap (words_of_class Private) (two_arrays n) in
    let constant_array : words_of_class Constant q.objects ≡ 0 = ap (words_of_class Constant) (two_arrays n) in
    let logged_array : words_of_class Logged q.objects ≡ 64 = ap (words_of_class Logged) (two_arrays n) in
    let open_array : words_of_class Open q.objects ≡ 0 = ap (words_of_class Open) (two_arrays n) in
    let public_words : function_words false q.functions ≤ 4377 = few_words false n most in
    let private_words : function_words true q.functions ≤ 4377 = few_words true n most in
    let verified : verified_blocks p * 16 ≤ words_of_class Verified q.objects + function_words false q.functions + 15 = few_blocks (words_of_class Verified q.objects + function_words false q.functions) in
    let private : private_blocks p * 16 ≤ words_of_class Private q.objects + function_words true q.functions + 15 = few_blocks (words_of_class Private q.objects + function_words true q.functions) in
    let constants : constant_blocks p * 16 ≤ words_of_class Constant q.objects + 15 = few_blocks (words_of_class Constant q.objects) in
    let code : blocks_of_code p * 16 ≤ 93455 = few_code_blocks n most in
    let log : log_blocks p * 16 ≤ words_of_class Logged q.objects + 15 = few_blocks (words_of_class Logged q.objects) in
    let blocks : verified_blocks p + private_blocks p + constant_blocks p + blocks_of_code p ≤ 6561 = omega (arith, verified_array, private_array, constant_array, public_words, private_words, verified, private, constants, code) in
    let logged : log_blocks p ≤ 1024 = omega (arith, logged_array, log) in
    let shared : shared_bytes p ≤ 32768 = omega (arith, open_array) in
    cond-false (ltb 6561 (verified_blocks p + private_blocks p + constant_blocks p + blocks_of_code p)) _ _ (le-ltb _ _ blocks)
    ∙ cond-false (ltb 1024 (log_blocks p)) _ _ (le-ltb _ _ logged)
    ∙ cond-false (ltb 32768 (shared_bytes p)) _ _ (le-ltb _ _ shared)
