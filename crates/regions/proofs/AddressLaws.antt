-- What follows of the address map, for proofs here and in the crates above.
use Rattle.std.proofs.Common.{◌≡◌, ℕ, Option, Some, None, arith, sym, ◌∙◌}
use Rattle.std.proofs.lemmas.Bool.Decides.{nat_tests}
use Rattle.std.specs.Prelude.{IfSome, ◌↔◌}
use Rattle.regions.specs.declared.layout.Layout.{Layout}
use Rattle.regions.specs.declared.rights.Class.{Class}
use Rattle.regions.specs.declared.rights.Class.TheVariants.{Open, Verified, Private, Constant, Code, Logged}
use Rattle.regions.specs.Addresses.{LiesIn, HasBlock, IsUnderTree, block_start, class_at, data_block_at}

-- an address in the range of a class has this class
pub class_at-LiesIn : (layout : Layout) (at : ℕ) (class : Class) → LiesIn layout class at → class_at layout at ≡ Some class
unfolding class_at
class_at-LiesIn layout at Open lies = grind (arith, nat_tests)
class_at-LiesIn layout at Verified lies = grind (arith, nat_tests)
class_at-LiesIn layout at Private lies = grind (arith, nat_tests)
class_at-LiesIn layout at Constant lies = grind (arith, nat_tests)
class_at-LiesIn layout at Code lies = grind (arith, nat_tests)
class_at-LiesIn layout at Logged lies = grind (arith, nat_tests)

-- an address that has a class lies in its range
pub LiesIn-class_at : (layout : Layout) (at : ℕ) (class : Class) → class_at layout at ≡ Some class → LiesIn layout class at
unfolding class_at
LiesIn-class_at layout at Open has = grind (arith, nat_tests)
LiesIn-class_at layout at Verified has = grind (arith, nat_tests)
LiesIn-class_at layout at Private has = grind (arith, nat_tests)
LiesIn-class_at layout at Constant has = grind (arith, nat_tests)
LiesIn-class_at layout at Code has = grind (arith, nat_tests)
LiesIn-class_at layout at Logged has = grind (arith, nat_tests)

-- an address of a class with blocks lies in a block that the layout has
pub HasBlock-LiesIn : (layout : Layout) (at : ℕ) (class : Class) → LiesIn layout class at → HasBlock layout class at
HasBlock-LiesIn layout at Open lies = lies.1
HasBlock-LiesIn layout at Verified lies = record { from = omega arith; block = omega arith }
HasBlock-LiesIn layout at Private lies = record { from = omega arith; block = omega arith }
HasBlock-LiesIn layout at Constant lies = record { from = omega arith; block = omega arith }
HasBlock-LiesIn layout at Code lies = record { from = omega arith; block = omega arith }
HasBlock-LiesIn layout at Logged lies = record { from = omega arith; block = omega arith }

-- the class of an address is the one in whose range it lies
pub class_at-ranges : (layout : Layout) (at : ℕ) (found : Option Class) → found ≡ class_at layout at → (class : Class) → (found ≡ Some class) ↔ LiesIn layout class at
class_at-ranges layout at found is class =
    (λ has. LiesIn-class_at layout at class (sym is ∙ has), λ lies. is ∙ class_at-LiesIn layout at class lies)

-- an address that has a class lies in a block that the layout has, if it is a class with blocks
pub HasBlock-class_at : (layout : Layout) (at : ℕ) (found : Option Class) → found ≡ class_at layout at → IfSome found (λ class. HasBlock layout class at)
HasBlock-class_at layout at None is = tt
HasBlock-class_at layout at (Some class) is = HasBlock-LiesIn layout at class (LiesIn-class_at layout at class (sym is))

-- the addresses of one block have one class
pub class_at-block_start : (layout : Layout) (at : ℕ) → IsUnderTree at → class_at layout at ≡ class_at layout (block_start (data_block_at at))
unfolding class_at
class_at-block_start layout at under = grind (arith, nat_tests)
