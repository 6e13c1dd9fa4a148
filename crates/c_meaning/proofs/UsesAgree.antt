-- Where no rule is broken, each use of a name agrees once it is resolved with the declaration that it is bound to.
use Rattle.std.proofs.Common.{◌≡◌, ◌⊎◌, inl, inr, ◌∙◌, sym, subst, ℕ, ◌==◌, Bool, true, false, cond, List, [], ◌∷◌, ◌++◌, length, Option, Some, None, arith, refl}
use Rattle.std.proofs.lemmas.Bool.Decides.{nat_tests}
use Rattle.std.specs.Str.{bytes_eq}
use Rattle.regions.specs.declared.rights.Class.{Class}
use Rattle.regions.specs.declared.rights.Class.TheVariants as class
use Rattle.c_scopes.specs.declared.declaration.Binding.{Binding}
use Rattle.c_scopes.specs.declared.declaration.Declaration.{Declaration}
use Rattle.c_scopes.specs.declared.declaration.Entity.{Entity}
use Rattle.c_scopes.specs.declared.declaration.Entity.TheVariants as entity
use Rattle.c_scopes.specs.Scopes.{latest, first_some}
use Rattle.c_types.specs.declared.site.Home.{Home}
use Rattle.c_types.specs.declared.site.How.{How}
use Rattle.c_types.specs.declared.site.How.TheVariants.{Value, Element, Assign, AssignElement, Call, CallValue}
use Rattle.c_types.specs.declared.site.Rule.TheVariants as rule
use Rattle.c_types.specs.TypingRules.{is_assignment}
use Rattle.c_types.specs.TypingRules.Breaks.{self_call, constant_assigned, private_outside, misused, miscounted}
use Rattle.c_semantics.specs.ResolvedTree as Tree
use Rattle.c_semantics.specs.ProgramShape.{Around, IsAllowed, IsObject, IsAssignable, IsCallable, ExprAgrees, ArgumentsAgree, Agrees, argument_count, is_among, object_at}
use Rattle.c_resolver.specs.Resolving.{function_number, variable_of}
use Rattle.c_meaning.proofs.Layers.{called, indexed, named}
use Rattle.c_meaning.proofs.Uses.{Fits, assigned_to, called_by}

abbrev binding : ℕ → Entity → Binding
binding token e = record { token = token; entity = e }

-- what is declared is something that the code may name, or it is a function of this very token
abbrev pub KnownAs : List ℕ → Around → Home → ℕ → Entity → Type 0
KnownAs fs around home token (entity.Local unsigned) = is_among around.own token ≡ true
KnownAs fs around home token (entity.Object class unsigned length) =
    (first : List ℕ) × (object_at around.objects token ≡ Some (record { variable = variable_of token (Some class); length = length; first = first }))
KnownAs fs around home token (entity.Function result true parameters) = parameters ≡ 0
KnownAs fs around home token (entity.Function result false parameters) = (token ≡ home.token) ⊎ IsCallable around (function_number fs token) parameters

abbrev pub AllKnown : List ℕ → Around → Home → List Declaration → Type 0
AllKnown fs around home [] = Unit {0}
AllKnown fs around home (d ∷ ds) = KnownAs fs around home d.binding.token d.binding.entity × AllKnown fs around home ds

pub known-append : (fs : List ℕ) (around : Around) (home : Home) (ds es : List Declaration) → AllKnown fs around home ds → AllKnown fs around home es → AllKnown fs around home (ds ++ es)
known-append fs around home [] es left right = right
known-append fs around home (d ∷ ds) es left right = (left.0, known-append fs around home ds es left.1 right)

abbrev pub IfKnown : List ℕ → Around → Home → Option Binding → Type 0
IfKnown fs around home None = Unit {0}
IfKnown fs around home (Some b) = KnownAs fs around home b.token b.entity

known-or : (fs : List ℕ) (around : Around) (home : Home) (a b : Option Binding) → IfKnown fs around home a → IfKnown fs around home b → IfKnown fs around home (first_some a b)
known-or fs around home None b left right = right
known-or fs around home (Some x) b left right = left

known-if : (fs : List ℕ) (around : Around) (home : Home) (test : Bool) (b : Binding) → KnownAs fs around home b.token b.entity → IfKnown fs around home (cond test (Some b) None)
known-if fs around home true b known = known
known-if fs around home false b known = tt

pub latest-known : (fs : List ℕ) (around : Around) (home : Home) (known : List Declaration) (name : List ℕ) → AllKnown fs around home known → IfKnown fs around home (latest known name)
latest-known fs around home [] name all = tt
latest-known fs around home (d ∷ known) name all =
    known-or fs around home (latest known name) (cond (bytes_eq d.name name) (Some d.binding) None) (latest-known fs around home known name all.1)
    (known-if fs around home (bytes_eq d.name name) d.binding all.0)

-- ---- what the rules give

not_false : (b : Bool) → (b ≡ false → ⊥) → b ≡ true
not_false true fails = refl
not_false false fails = absurd (fails refl)

allowed : (how : How) (home : Home) (at token : ℕ) (class' : Class) (unsigned : Bool) (length' : Option ℕ) →
    Fits how (Some (binding token (entity.Object class' unsigned length'))) home at → IsAllowed home.private class'
allowed how home at token class.Private unsigned length' fits =
    not_false home.private (λ outside. fits rule.Class (private_outside how (binding token (entity.Object class.Private unsigned length')) home at refl outside))
allowed how home at token other unsigned length' fits = tt

assignable : (how : How) (home : Home) (at token : ℕ) (class' : Class) (unsigned : Bool) (length' : Option ℕ) → is_assignment how ≡ true →
    Fits how (Some (binding token (entity.Object class' unsigned length'))) home at → IsAssignable (Some class')
assignable how home at token class.Constant unsigned length' is fits =
    fits rule.Class (constant_assigned how (binding token (entity.Object class.Constant unsigned length')) home at is refl)
assignable how home at token other unsigned length' is fits = tt

-- an object that fits its use is the one that is declared
object-fits : (fs : List ℕ) (around : Around) (how : How) (home : Home) (at token : ℕ) (class' : Class) (unsigned : Bool) (length' : Option ℕ) → home.private ≡ around.private →
    KnownAs fs around home token (entity.Object class' unsigned length') → Fits how (Some (binding token (entity.Object class' unsigned length'))) home at →
    IsObject around (variable_of token (Some class')) class' length'
object-fits fs around how home at token class' unsigned length' same known fits = record {
  first = known.0;
  declared = known.1;
  allowed = subst (λ private. IsAllowed private class') same (allowed how home at token class' unsigned length' fits);
}

same-if : (m n : ℕ) → ((m == n) ≡ false → ⊥) → m ≡ n
same-if m n fails = let same = not_false (m == n) fails in grind (arith, nat_tests)

-- a call that is not of its own function, and has the right count
callable : (fs : List ℕ) (around : Around) (home : Home) (n token parameters count : ℕ) → ((n == parameters) ≡ false → ⊥) → (token ≡ home.token → ⊥) → count ≡ n →
    (token ≡ home.token) ⊎ IsCallable around (function_number fs token) parameters → IsCallable around (function_number fs token) count
callable fs around home n token parameters count fits other is (inl own) = absurd (other own)
callable fs around home n token parameters count fits other is (inr can) =
    subst (λ m. IsCallable around (function_number fs token) m) (sym (is ∙ same-if n parameters fits)) can

-- ---- expressions

value-known : (fs : List ℕ) (around : Around) (home : Home) (at token : ℕ) (e : Entity) → home.private ≡ around.private → KnownAs fs around home token e →
    Fits Value (Some (binding token e)) home at → ExprAgrees around (named (Some (binding token e))).expr
value-known fs around home at token (entity.Local unsigned) same known fits = known
value-known fs around home at token (entity.Object class' unsigned None) same known fits = object-fits fs around Value home at token class' unsigned None same known fits
value-known fs around home at token (entity.Object class' unsigned (Some n)) same known fits =
    absurd (fits rule.Shape (misused Value (binding token (entity.Object class' unsigned (Some n))) home at refl))
value-known fs around home at token (entity.Function result untrusted parameters) same known fits = tt

pub value-agrees : (fs : List ℕ) (around : Around) (home : Home) (at : ℕ) (means : Option Binding) → home.private ≡ around.private → IfKnown fs around home means →
    Fits Value means home at → ExprAgrees around (named means).expr
value-agrees fs around home at None same known fits = tt
value-agrees fs around home at (Some b) same known fits = value-known fs around home at b.token b.entity same known fits

item-known : (fs : List ℕ) (around : Around) (home : Home) (at token : ℕ) (e : Entity) (place : ℕ) (index : Tree.Expr) → home.private ≡ around.private → KnownAs fs around home token e →
    Fits Element (Some (binding token e)) home at → ExprAgrees around index → ExprAgrees around (indexed (Some (binding token e)) place index).expr
item-known fs around home at token (entity.Local unsigned) place index same known fits inner = tt
item-known fs around home at token (entity.Object class' unsigned None) place index same known fits inner = tt
item-known fs around home at token (entity.Object class' unsigned (Some n)) place index same known fits inner =
    (object-fits fs around Element home at token class' unsigned (Some n) same known fits, inner)
item-known fs around home at token (entity.Function result untrusted parameters) place index same known fits inner = tt

pub item-agrees : (fs : List ℕ) (around : Around) (home : Home) (at : ℕ) (means : Option Binding) (place : ℕ) (index : Tree.Expr) → home.private ≡ around.private → IfKnown fs around home means →
    Fits Element means home at → ExprAgrees around index → ExprAgrees around (indexed means place index).expr
item-agrees fs around home at None place index same known fits inner = tt
item-agrees fs around home at (Some b) place index same known fits inner = item-known fs around home at b.token b.entity place index same known fits inner

called-known : (fs : List ℕ) (around : Around) (home : Home) (at n token : ℕ) (e : Entity) (given : Tree.Arguments) → KnownAs fs around home token e →
    Fits (CallValue n) (Some (binding token e)) home at → argument_count given ≡ n → ArgumentsAgree around given → ExprAgrees around (called fs (Some (binding token e)) given).expr
called-known fs around home at n token (entity.Local unsigned) given known fits count inner = tt
called-known fs around home at n token (entity.Object class' unsigned length') given known fits count inner = tt
called-known fs around home at n token (entity.Function result true parameters) given known fits count inner =
    absurd (fits rule.Shape (misused (CallValue n) (binding token (entity.Function result true parameters)) home at refl))
called-known fs around home at n token (entity.Function result false parameters) given known fits count inner =
    let b = binding token (entity.Function result false parameters) in (
      callable fs around home n token parameters (argument_count given)
          (λ differs. fits rule.Arity (miscounted (CallValue n) b home at differs))
          (λ own. fits rule.Recursive (self_call (CallValue n) b home at refl own)) count known,
      inner,
    )

pub called-agrees : (fs : List ℕ) (around : Around) (home : Home) (at n : ℕ) (means : Option Binding) (given : Tree.Arguments) → IfKnown fs around home means →
    Fits (CallValue n) means home at → argument_count given ≡ n → ArgumentsAgree around given → ExprAgrees around (called fs means given).expr
called-agrees fs around home at n None given known fits count inner = tt
called-agrees fs around home at n (Some b) given known fits count inner = called-known fs around home at n b.token b.entity given known fits count inner

-- ---- statements

whole-known : (fs : List ℕ) (around : Around) (home : Home) (at token : ℕ) (e : Entity) (place : ℕ) (value : Tree.Expr) → home.private ≡ around.private → KnownAs fs around home token e →
    Fits Assign (Some (binding token e)) home at → ExprAgrees around value → Agrees around (assigned_to (Some (binding token e)) place None value)
whole-known fs around home at token (entity.Local unsigned) place value same known fits inner = (tt, known, inner)
whole-known fs around home at token (entity.Object class' unsigned None) place value same known fits inner =
    (assignable Assign home at token class' unsigned None refl fits, object-fits fs around Assign home at token class' unsigned None same known fits, inner)
whole-known fs around home at token (entity.Object class' unsigned (Some n)) place value same known fits inner =
    absurd (fits rule.Shape (misused Assign (binding token (entity.Object class' unsigned (Some n))) home at refl))
whole-known fs around home at token (entity.Function result untrusted parameters) place value same known fits inner = tt

pub whole-agrees : (fs : List ℕ) (around : Around) (home : Home) (at : ℕ) (means : Option Binding) (place : ℕ) (value : Tree.Expr) → home.private ≡ around.private → IfKnown fs around home means →
    Fits Assign means home at → ExprAgrees around value → Agrees around (assigned_to means place None value)
whole-agrees fs around home at None place value same known fits inner = tt
whole-agrees fs around home at (Some b) place value same known fits inner = whole-known fs around home at b.token b.entity place value same known fits inner

element-known : (fs : List ℕ) (around : Around) (home : Home) (at token : ℕ) (e : Entity) (place : ℕ) (index value : Tree.Expr) → home.private ≡ around.private → KnownAs fs around home token e →
    Fits AssignElement (Some (binding token e)) home at → ExprAgrees around index → ExprAgrees around value → Agrees around (assigned_to (Some (binding token e)) place (Some index) value)
element-known fs around home at token (entity.Local unsigned) place index value same known fits first second = tt
element-known fs around home at token (entity.Object class' unsigned None) place index value same known fits first second = tt
element-known fs around home at token (entity.Object class' unsigned (Some n)) place index value same known fits first second =
    (assignable AssignElement home at token class' unsigned (Some n) refl fits, object-fits fs around AssignElement home at token class' unsigned (Some n) same known fits, first, second)
element-known fs around home at token (entity.Function result untrusted parameters) place index value same known fits first second = tt

pub element-agrees : (fs : List ℕ) (around : Around) (home : Home) (at : ℕ) (means : Option Binding) (place : ℕ) (index value : Tree.Expr) → home.private ≡ around.private → IfKnown fs around home means →
    Fits AssignElement means home at → ExprAgrees around index → ExprAgrees around value → Agrees around (assigned_to means place (Some index) value)
element-agrees fs around home at None place index value same known fits first second = tt
element-agrees fs around home at (Some b) place index value same known fits first second = element-known fs around home at b.token b.entity place index value same known fits first second

call-known : (fs : List ℕ) (around : Around) (home : Home) (at n token : ℕ) (e : Entity) (given : Tree.Arguments) → KnownAs fs around home token e →
    Fits (Call n) (Some (binding token e)) home at → argument_count given ≡ n → ArgumentsAgree around given → Agrees around (called_by fs (Some (binding token e)) given)
call-known fs around home at n token (entity.Local unsigned) given known fits count inner = tt
call-known fs around home at n token (entity.Object class' unsigned length') given known fits count inner = tt
call-known fs around home at n token (entity.Function result true parameters) given known fits count inner = tt
call-known fs around home at n token (entity.Function result false parameters) given known fits count inner =
    let b = binding token (entity.Function result false parameters) in (
      callable fs around home n token parameters (argument_count given)
          (λ differs. fits rule.Arity (miscounted (Call n) b home at differs))
          (λ own. fits rule.Recursive (self_call (Call n) b home at refl own)) count known,
      inner,
    )

pub call-agrees : (fs : List ℕ) (around : Around) (home : Home) (at n : ℕ) (means : Option Binding) (given : Tree.Arguments) → IfKnown fs around home means →
    Fits (Call n) means home at → argument_count given ≡ n → ArgumentsAgree around given → Agrees around (called_by fs means given)
call-agrees fs around home at n None given known fits count inner = tt
call-agrees fs around home at n (Some b) given known fits count inner = call-known fs around home at n b.token b.entity given known fits count inner
