-- The code of a whole program from that of its parts.
use Rattle.std.proofs.Common.{◌≡◌, ◌∙◌, ap, sym, ℕ, zero, suc, Bool, false, List, [], ◌∷◌, ◌++◌, length, refl, append_assoc}
use Rattle.c_semantics.specs.declared.tree.Function as code
use Rattle.c_semantics.specs.declared.tree.Object as object
use Rattle.c_semantics.specs.ResolvedTree.{Function, Program}
use Rattle.c_semantics.specs.ResolvedViews.{functions_of, objects_of}
use Rattle.ir_code.specs.declared.code.Cell.{Cell}
use Rattle.ir_code.specs.declared.ops.Op.{Op}
use Rattle.lowering.specs.Cells.{cells_of, home_of}
use Rattle.ir_code.specs.declared.ops.Op.TheVariants as op
use Rattle.lowering.specs.Lowering.{calling, functions_code, is_private_in, lowered}
use Rattle.secure_split.specs.declared.homes.Homes.{Homes}
use Rattle.secure_split.specs.SplitViews.{functions_within, home_by, ops_within, private_by, privates_in}

pub private-same : (fs : List Function) (number : ℕ) → private_by (privates_in fs) number ≡ is_private_in fs number
private-same [] number = refl
private-same (f ∷ fs) zero = refl
private-same (f ∷ fs) (suc number) = private-same fs number

pub whole : (p : Program) (home : ℕ → ℕ) (is_private : ℕ → Bool) (cells : List Cell) (ops : List Op) (entry : ℕ) →
    ((token : ℕ) → home token ≡ home_of p token) → ((number : ℕ) → is_private number ≡ is_private_in p.functions number) → cells ≡ cells_of p →
    ops ≡ ops_within home is_private p → entry ≡ length (functions_within home is_private p) → record { cells = cells; ops = ops; entry = entry } ≡ lowered p
whole p home is_private cells ops entry homes privates same made starts =
    let h : home ≡ home_of p = λ k token. homes token k in
    let q : is_private ≡ is_private_in p.functions = λ k number. privates number k in
    let made' : ops ≡ ops_within (home_of p) (is_private_in p.functions) p =
    made ∙ ap (λ (f : ℕ → ℕ). ops_within f is_private p) h ∙ ap (λ (t : ℕ → Bool). ops_within (home_of p) t p) q in
    let starts' : entry ≡ length (functions_within (home_of p) (is_private_in p.functions) p) =
    starts ∙ ap (λ (f : ℕ → ℕ). length (functions_within f is_private p)) h ∙ ap (λ (t : ℕ → Bool). length (functions_within (home_of p) t p)) q in
    ap (λ (cs : List Cell). record { cells = cs; ops = ops; entry = entry }) same
    ∙ ap (λ (os : List Op). record { cells = cells_of p; ops = os; entry = entry }) made'
    ∙ ap (λ (n : ℕ). record { cells = cells_of p; ops = ops_within (home_of p) (is_private_in p.functions) p; entry = n }) starts'

functions-length : (fs : List code.Function) → length (functions_of fs) ≡ length fs
functions-length [] = refl
functions-length (f ∷ fs) = ap suc (functions-length fs)

objects-length : (os : List object.Object) → length (objects_of os) ≡ length os
objects-length [] = refl
objects-length (o ∷ os) = ap suc (objects-length os)

-- the functions, where cells and labels begin after as many objects and functions as there are
pub functions-made : (home : ℕ → ℕ) (is_private : ℕ → Bool) (os : List object.Object) (fs : List code.Function) (first labels : ℕ) (ops : List Op) →
    first ≡ length os → labels ≡ length fs → ops ≡ functions_code home is_private 0 first labels (functions_of fs) →
    ops ≡ functions_code home is_private 0 (length (objects_of os)) (length (functions_of fs)) (functions_of fs)
functions-made home is_private os fs first labels ops cells marks made =
    made ∙ ap (λ (n : ℕ). functions_code home is_private 0 n labels (functions_of fs)) (cells ∙ sym (objects-length os))
    ∙ ap (λ (n : ℕ). functions_code home is_private 0 (length (objects_of os)) n (functions_of fs)) (marks ∙ sym (functions-length fs))

-- the call of the function that a run starts with
abbrev starting : Homes → List Bool → Program → List Op
starting homes privates p = calling (record { home = home_by homes; is_private = private_by privates; private = false }) p.main

-- the call and the exit come after the functions
pub entry-made : (homes homes' : Homes) (privates privates' : List Bool) (p : Program) (o1 o2 o3 : List Op) → homes' ≡ homes → privates' ≡ privates →
    o1 ≡ functions_within (home_by homes) (private_by privates) p → o2 ≡ o1 ++ starting homes' privates' p → o3 ≡ o2 ++ op.Exit ∷ [] →
    o3 ≡ ops_within (home_by homes) (private_by privates) p
entry-made homes homes' privates privates' p o1 o2 o3 h q e1 e2 e3 =
    e3 ∙ ap (λ (o : List Op). o ++ op.Exit ∷ []) e2 ∙ append_assoc o1 (starting homes' privates' p) (op.Exit ∷ [])
    ∙ ap (λ (o : List Op). o ++ (starting homes' privates' p ++ (op.Exit ∷ []))) e1
    ∙ ap (λ (hs : Homes). functions_within (home_by homes) (private_by privates) p ++ (starting hs privates' p ++ (op.Exit ∷ []))) h
    ∙ ap (λ (ps : List Bool). functions_within (home_by homes) (private_by privates) p ++ (starting homes ps p ++ (op.Exit ∷ []))) q
