-- A program has one type error, or none.
use Rattle.std.proofs.Common.{◌≡◌, ◌≢◌, inl, inr, ◌≤◌, ℕ, true, false, refl, sym, ◌∙◌, ap, arith}
use Rattle.c_grammar.specs.declared.item.Program.{Program}
use Rattle.c_types.specs.declared.error.TypeError.{TypeError}
use Rattle.c_types.specs.declared.error.TypeError.TheVariants as type
use Rattle.c_types.specs.declared.site.Rule.{Rule}
use Rattle.c_types.specs.declared.site.Rule.TheVariants as rule
use Rattle.c_types.specs.TypingRules.{IsFirst, rule_order}
use Rattle.c_types.specs.Checked.{IsTyped, IsRefusedByTypes, KeepsRules, error_at, has_main}

-- a type error is the first violation, or there is no `main`
data Shown (p : Program) : TypeError → Type 0 where
  violated : (at : ℕ) (rule : Rule) → IsFirst p at rule → Shown p (error_at at rule)
  no_main : KeepsRules p → has_main p.items ≡ false → Shown p type.NoMain

shown : (p : Program) (error : TypeError) → error ≢ type.OutOfMemory → IsRefusedByTypes p error → Shown p error
shown p (type.Unknown at) other refused = violated at rule.Unknown refused
shown p (type.Twice at) other refused = violated at rule.Twice refused
shown p (type.Recursive at) other refused = violated at rule.Recursive refused
shown p (type.Class at) other refused = violated at rule.Class refused
shown p (type.Shape at) other refused = violated at rule.Shape refused
shown p (type.Arity at) other refused = violated at rule.Arity refused
shown p (type.TooLong at) other refused = violated at rule.TooLong refused
shown p (type.TooMany at) other refused = violated at rule.TooMany refused
shown p type.NoMain other refused = no_main refused.0 refused.1
shown p type.OutOfMemory other refused = absurd (other refl)

typed_shown : (p : Program) (error : TypeError) → IsTyped p → Shown p error → ⊥
typed_shown p error typed (violated at rule first) = typed.rules at rule first.violates
typed_shown p error typed (no_main keeps none) = let both : true ≡ false = sym typed.main ∙ none in cc

-- a program that keeps the rules is not refused
pub typed_refused : (p : Program) (error : TypeError) → error ≢ type.OutOfMemory → IsTyped p → IsRefusedByTypes p error → ⊥
typed_refused p error other typed refused = typed_shown p error typed (shown p error other refused)

same_rank : (a b : Rule) → rule_order a ≡ rule_order b → a ≡ b
same_rank rule.Unknown rule.Unknown same = refl
same_rank rule.Unknown rule.Twice same = absurd (omega (arith, same))
same_rank rule.Unknown rule.Recursive same = absurd (omega (arith, same))
same_rank rule.Unknown rule.Class same = absurd (omega (arith, same))
same_rank rule.Unknown rule.Shape same = absurd (omega (arith, same))
same_rank rule.Unknown rule.Arity same = absurd (omega (arith, same))
same_rank rule.Unknown rule.TooLong same = absurd (omega (arith, same))
same_rank rule.Unknown rule.TooMany same = absurd (omega (arith, same))
same_rank rule.Twice rule.Unknown same = absurd (omega (arith, same))
same_rank rule.Twice rule.Twice same = refl
same_rank rule.Twice rule.Recursive same = absurd (omega (arith, same))
same_rank rule.Twice rule.Class same = absurd (omega (arith, same))
same_rank rule.Twice rule.Shape same = absurd (omega (arith, same))
same_rank rule.Twice rule.Arity same = absurd (omega (arith, same))
same_rank rule.Twice rule.TooLong same = absurd (omega (arith, same))
same_rank rule.Twice rule.TooMany same = absurd (omega (arith, same))
same_rank rule.Recursive rule.Unknown same = absurd (omega (arith, same))
same_rank rule.Recursive rule.Twice same = absurd (omega (arith, same))
same_rank rule.Recursive rule.Recursive same = refl
same_rank rule.Recursive rule.Class same = absurd (omega (arith, same))
same_rank rule.Recursive rule.Shape same = absurd (omega (arith, same))
same_rank rule.Recursive rule.Arity same = absurd (omega (arith, same))
same_rank rule.Recursive rule.TooLong same = absurd (omega (arith, same))
same_rank rule.Recursive rule.TooMany same = absurd (omega (arith, same))
same_rank rule.Class rule.Unknown same = absurd (omega (arith, same))
same_rank rule.Class rule.Twice same = absurd (omega (arith, same))
same_rank rule.Class rule.Recursive same = absurd (omega (arith, same))
same_rank rule.Class rule.Class same = refl
same_rank rule.Class rule.Shape same = absurd (omega (arith, same))
same_rank rule.Class rule.Arity same = absurd (omega (arith, same))
same_rank rule.Class rule.TooLong same = absurd (omega (arith, same))
same_rank rule.Class rule.TooMany same = absurd (omega (arith, same))
same_rank rule.Shape rule.Unknown same = absurd (omega (arith, same))
same_rank rule.Shape rule.Twice same = absurd (omega (arith, same))
same_rank rule.Shape rule.Recursive same = absurd (omega (arith, same))
same_rank rule.Shape rule.Class same = absurd (omega (arith, same))
same_rank rule.Shape rule.Shape same = refl
same_rank rule.Shape rule.Arity same = absurd (omega (arith, same))
same_rank rule.Shape rule.TooLong same = absurd (omega (arith, same))
same_rank rule.Shape rule.TooMany same = absurd (omega (arith, same))
same_rank rule.Arity rule.Unknown same = absurd (omega (arith, same))
same_rank rule.Arity rule.Twice same = absurd (omega (arith, same))
same_rank rule.Arity rule.Recursive same = absurd (omega (arith, same))
same_rank rule.Arity rule.Class same = absurd (omega (arith, same))
same_rank rule.Arity rule.Shape same = absurd (omega (arith, same))
same_rank rule.Arity rule.Arity same = refl
same_rank rule.Arity rule.TooLong same = absurd (omega (arith, same))
same_rank rule.Arity rule.TooMany same = absurd (omega (arith, same))
same_rank rule.TooLong rule.Unknown same = absurd (omega (arith, same))
same_rank rule.TooLong rule.Twice same = absurd (omega (arith, same))
same_rank rule.TooLong rule.Recursive same = absurd (omega (arith, same))
same_rank rule.TooLong rule.Class same = absurd (omega (arith, same))
same_rank rule.TooLong rule.Shape same = absurd (omega (arith, same))
same_rank rule.TooLong rule.Arity same = absurd (omega (arith, same))
same_rank rule.TooLong rule.TooLong same = refl
same_rank rule.TooLong rule.TooMany same = absurd (omega (arith, same))
same_rank rule.TooMany rule.Unknown same = absurd (omega (arith, same))
same_rank rule.TooMany rule.Twice same = absurd (omega (arith, same))
same_rank rule.TooMany rule.Recursive same = absurd (omega (arith, same))
same_rank rule.TooMany rule.Class same = absurd (omega (arith, same))
same_rank rule.TooMany rule.Shape same = absurd (omega (arith, same))
same_rank rule.TooMany rule.Arity same = absurd (omega (arith, same))
same_rank rule.TooMany rule.TooLong same = absurd (omega (arith, same))
same_rank rule.TooMany rule.TooMany same = refl

-- of two first violations each is no later than the other
first_once : (p : Program) (a b : ℕ) (r s : Rule) → IsFirst p a r → IsFirst p b s → error_at a r ≡ error_at b s
first_once p a b r s one two = elim (one.least b s two.violates) [
  | inl below ↦ elim (two.least a r one.violates) [
    | inl above ↦ absurd (omega (arith, below, above))
    | inr equal ↦ let here : b ≡ a = equal.0 in absurd (omega (arith, below, here))
  ]
  | inr equal ↦ elim (two.least a r one.violates) [
    | inl above ↦ let here : a ≡ b = equal.0 in absurd (omega (arith, above, here))
    | inr other ↦
        let le : rule_order r ≤ rule_order s = equal.1 in
        let ge : rule_order s ≤ rule_order r = other.1 in
        let ranked : r ≡ s = same_rank r s (omega (arith, le, ge)) in
        ap (λ at. error_at at r) equal.0 ∙ ap (error_at b) ranked
  ]
]

two_shown : (p : Program) (a b : TypeError) → Shown p a → Shown p b → a ≡ b
two_shown p a b (violated at rule first) (violated at' rule' first') = first_once p at at' rule rule' first first'
two_shown p a b (violated at rule first) (no_main keeps none) = absurd (keeps at rule first.violates)
two_shown p a b (no_main keeps none) (violated at rule first) = absurd (keeps at rule first.violates)
two_shown p a b (no_main keeps none) (no_main keeps' none') = refl

pub one_type_error : (p : Program) (a b : TypeError) → a ≢ type.OutOfMemory → b ≢ type.OutOfMemory → IsRefusedByTypes p a → IsRefusedByTypes p b → a ≡ b
one_type_error p a b q r first second = two_shown p a b (shown p a q first) (shown p b r second)
