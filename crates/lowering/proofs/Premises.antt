-- A program that meets all premises of the laws of lowered code, its sizes and its cells, and one that does not start plainly.
use Rattle.std.proofs.Common.{◌≡◌, ℕ, ◌<◌, true, false, List, [], ◌∷◌, length, Option, Some, None, arith, refl}
use Rattle.std.specs.List.{slice_get}
use Rattle.aegis_num.specs.declared.operators.BinaryOp.TheVariants.{Add, LtU}
use Rattle.regions.specs.LooseClasses.{shared_loose, shared_and_logged_loose}
use Rattle.regions.specs.declared.rights.Class.{Class}
use Rattle.regions.specs.declared.rights.Class.TheVariants.{Open, Verified, Private, Constant}
use Rattle.c_semantics.specs.declared.tree.Variable.{Variable}
use Rattle.c_semantics.specs.Nodes.{nodes}
use Rattle.c_semantics.specs.ProgramShape.{IsShaped}
use Rattle.c_semantics.specs.ResolvedTree.{Number, Scalar, Indexed, Called, Binary, NoArguments, Argument, Nothing, Then, Local, Assign, Store, Return, For, Function, Object, Program}
use Rattle.ir_code.specs.declared.code.Cell.{Cell}
use Rattle.ir_code.specs.Lawful.{IsLawful}
use Rattle.lowering.specs.Cells.{cells_of, home_of}
use Rattle.lowering.specs.CellLaws.{cells_before}
use Rattle.lowering.specs.Lowering.{lowered}
use Rattle.lowering.specs.LoweringLaws.{StartPlainly, Starts, IsSmall, IsLowered}
use Rattle.lowering.specs.Sizes.{weight_of_all, temporary_cells}
use Rattle.lowering.proofs.Formed.{lowered-is-lawful}
use Rattle.lowering.proofs.Whole.{lowers}

abbrev local : ℕ → Variable
local token = record { token = token; class = None }

abbrev global : ℕ → Class → Variable
global token class = record { token = token; class = Some class }

-- __private unsigned secret[2]; const unsigned table[2]={5}; __shared unsigned box[1];
abbrev objects : List Object
objects = record { variable = global 2 Private; length = Some 2; first = [] } ∷ record { variable = global 5 Constant; length = Some 2; first = 5 ∷ [] } ∷ record { variable = global 8 Open; length = Some 1; first = [] } ∷ []

-- __private unsigned mix(unsigned a){secret[0]=a;return secret[0];}
abbrev mix : Function
mix = record {
  private = true;
  parameters = local 10 ∷ [];
  body = Then (Store 12 (global 2 Private) 2 (Number 0) (Scalar (local 10))) (Then (Return (Some (Indexed 14 (global 2 Private) 2 (Number 0)))) Nothing);
}

-- int main(void){unsigned i;for(i=0;i<2;i=i+1)box[0]=mix(table[i]);}
abbrev main : Function
main = record {
  private = false;
  parameters = [];
  body = Then (Local (local 20) None) (Then
      (For (Assign (local 20) (Number 0)) (Some (Binary 30 LtU (Scalar (local 20)) (Number 2))) (Assign (local 20) (Binary 32 Add (Scalar (local 20)) (Number 1)))
      (Store 34 (global 8 Open) 1 (Number 0) (Called 0 (Argument (Indexed 36 (global 5 Constant) 2 (Scalar (local 20))) NoArguments)))) Nothing);
}

abbrev met : Program
met = record { objects = objects; functions = mix ∷ main ∷ []; main = 1 }

shaped : IsShaped met
shaped = record {
  objects = (record { class = tt; fits = (omega arith, omega arith); words = omega arith }, (record { class = tt; fits = (omega arith, omega arith); words = omega arith }, (record { class = tt; fits = (omega arith, omega arith); words = omega arith }, tt)));
  functions = (
    record {
      parameters = omega arith;
      unclassed = (refl, tt);
      names = ((tt, record { first = []; declared = refl; allowed = refl }, tt, refl), ((record { first = []; declared = refl; allowed = refl }, tt), tt));
      nesting = ((omega arith, tt, tt), ((omega arith, (omega arith, tt)), tt));
      heads = (tt, (tt, tt));
      jumps = (tt, (tt, tt));
    },
    (
      record {
        parameters = omega arith;
        unclassed = tt;
        names = (
          (refl, refl, tt),
          (
            (
              (tt, refl, tt),
              (refl, tt),
              (tt, refl, (refl, tt)),
              (tt, record { first = []; declared = refl; allowed = tt }, tt, (record { callee = mix; stands = refl; count = refl }, ((record { first = 5 ∷ []; declared = refl; allowed = tt }, refl), tt))),
            ),
            tt,
          ),
        );
        nesting = ((omega arith, tt), ((omega arith, (omega arith, tt), (tt, tt), (omega arith, (tt, tt)), (omega arith, tt, (omega arith, ((omega arith, tt), tt)))), tt));
        heads = (tt, ((refl, refl, tt), tt));
        jumps = (tt, (tt, tt));
      },
      tt,
    ),
  );
  tokens = refl;
  main = record { main = main; stands = refl; parameters = refl; public = refl };
}

plainly : StartPlainly objects
plainly = (refl, (tt, (refl, tt)))

met-nodes : nodes met ≡ 25
met-nodes = refl

small : IsSmall met
small = record { nodes = omega (arith, met-nodes); objects = omega arith }

lawful : IsLawful shared_and_logged_loose (lowered met) × IsLawful shared_loose (lowered met)
lawful = lowered-is-lawful met shaped plainly small

means : IsLowered shared_and_logged_loose met × IsLowered shared_loose met
means = lowers met shaped plainly

-- ---- sizes

weights : weight_of_all (lowered met).ops ≡ 199
weights = refl

operations : length (lowered met).ops ≡ 52
operations = refl

temporaries : temporary_cells (mix ∷ main ∷ []) ≡ 7
temporaries = refl

cells : length (cells_of met) ≡ 12
cells = refl

cells-of-mix : cells_before (mix ∷ []) ≡ 4
cells-of-mix = refl

-- ---- cells: an array of a private object, a constant filled up, a parameter and a temporary of a private function, a local

secret : slice_get (cells_of met) 0 ≡ Some (record { class = Private; words = 2; first = [] })
secret = refl

table : slice_get (cells_of met) 1 ≡ Some (record { class = Constant; words = 2; first = 5 ∷ 0 ∷ [] })
table = refl

parameter : (slice_get (cells_of met) 3 ≡ Some (record { class = Private; words = 1; first = [] })) × (home_of met 10 ≡ 3)
parameter = (refl, refl)

temporary : slice_get (cells_of met) 6 ≡ Some (record { class = Private; words = 1; first = [] })
temporary = refl

main-local : (slice_get (cells_of met) 7 ≡ Some (record { class = Verified; words = 1; first = [] })) × (home_of met 20 ≡ 7)
main-local = (refl, refl)

-- ---- a variable that starts with a word of its own

abbrev worded : Program
worded = record { objects = record { variable = global 2 Verified; length = None; first = 1 ∷ [] } ∷ []; functions = []; main = 0 }

worded-refused : StartPlainly worded.objects → ⊥
worded-refused h = let e = h.0 in absurd (cc)

-- its cell does not start as it does
worded-differs : Starts worded → ⊥
worded-differs h = let e = h 2 0 in absurd (cc)
