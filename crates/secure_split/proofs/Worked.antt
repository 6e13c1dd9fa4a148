-- Programs lowered and run by hand, to their bytes and ends, and what the promises refuse. Each part computes.
use Rattle.std.proofs.Common.{◌≡◌, ℕ, Bool, false, List, [], ◌∷◌, map, Option, Some, None, refl}
use Rattle.execution.specs.Run.{Goes, Stops}
use Rattle.execution.specs.Traffic.{Element, Entry}
use Rattle.execution.specs.Naming.{entry_named}
use Rattle.regions.specs.declared.rights.Class.{Class}
use Rattle.regions.specs.declared.rights.Class.TheVariants.{Open}
use Rattle.regions.specs.LooseClasses.{nothing_loose, shared_loose, shared_and_logged_loose}
use Rattle.aegis_num.specs.declared.operators.BinaryOp.TheVariants.{DivS, LtU, ShrS, Sub}
use Rattle.aegis_num.specs.declared.operators.UnaryOp.TheVariants.{Neg}
use Rattle.c_semantics.specs.declared.tree.Variable.{Variable}
use Rattle.c_semantics.specs.ResolvedTree.{Number, Scalar, Unary, Binary, Nothing, Then, Local, Assign, Suspend, Release, Return, Program}
use Rattle.ir_code.specs.FlatStates.{FlatEnd, Ended, Starved, Step}
use Rattle.ir_code.specs.FlatMeaning.{flat_run}
use Rattle.lowering.specs.Cells.{cell_element}
use Rattle.lowering.specs.Lowering.{lowered}

abbrev local : ℕ → Variable
local token = record { token = token; class = None }

-- the end, the bytes, and how many times untrusted code ran
abbrev seen : Step → Option FlatEnd × List ℕ × ℕ
seen (Goes f) = (None, f.traffic.bytes, f.traffic.suspensions)
seen (Stops end f) = (Some end, f.traffic.bytes, f.traffic.suspensions)

abbrev runs : (Class → Bool) → Program → List (Entry Element) → FlatEnd → List ℕ → ℕ → Type 0
runs is_loose p loose end bytes suspensions =
    seen (flat_run is_loose (lowered p) [] (map (entry_named (cell_element p)) loose) 60) ≡ (Some end, bytes, suspensions)

-- int main(void){int a;a=0-2147483647-1;a=a/(0-1);release(a>>24);release(a>>16);release(a>>8);release(a);return 0;}
abbrev least : Program
least = record {
  objects = [];
  functions = record {
    private = false;
    parameters = [];
    body = Then (Local (local 7) None) (Then (Assign (local 7) (Binary 14 Sub (Binary 12 Sub (Number 0) (Number 2147483647)) (Number 1)))
        (Then (Assign (local 7) (Binary 20 DivS (Scalar (local 7)) (Binary 23 Sub (Number 0) (Number 1))))
        (Then (Release (Binary 30 ShrS (Scalar (local 7)) (Number 24))) (Then (Release (Binary 37 ShrS (Scalar (local 7)) (Number 16)))
        (Then (Release (Binary 44 ShrS (Scalar (local 7)) (Number 8))) (Then (Release (Scalar (local 7))) (Then (Return (Some (Number 0))) Nothing)))))));
  } ∷ [];
  main = 0;
}

least-runs : runs nothing_loose least [] Ended (0x80 ∷ 0 ∷ 0 ∷ 0 ∷ []) 0
least-runs = refl

-- int main(void){int a;unsigned b;a=-1;b=1;release(a<b);return 0;}
abbrev mixed : Program
mixed = record {
  objects = [];
  functions = record {
    private = false;
    parameters = [];
    body = Then (Local (local 7) None) (Then (Local (local 10) None) (Then (Assign (local 7) (Unary Neg (Number 1))) (Then (Assign (local 10) (Number 1))
        (Then (Release (Binary 24 LtU (Scalar (local 7)) (Scalar (local 10)))) (Then (Return (Some (Number 0))) Nothing)))));
  } ∷ [];
  main = 0;
}

mixed-runs : runs nothing_loose mixed [] Ended (0 ∷ []) 0
mixed-runs = refl

-- __shared int s;__untrusted void gap(void);int main(void){gap();release(s);return 0;}
abbrev shared : Program
shared = record {
  objects = record { variable = record { token = 2; class = Some Open }; length = None; first = [] } ∷ [];
  functions = record { private = false; parameters = []; body = Then Suspend (Then (Release (Scalar (record { token = 2; class = Some Open }))) (Then (Return (Some (Number 0))) Nothing)) } ∷ [];
  main = 0;
}

abbrev word : ℕ → Entry Element
word value = record { place = record { variable = 2; index = 0 }; word = value }

shared-runs : (runs shared_loose shared (word 0x41 ∷ []) Ended (0x41 ∷ []) 1) × (runs shared_and_logged_loose shared (word 0x41 ∷ []) Ended (0x41 ∷ []) 1)
shared-runs = (refl, refl)

shared-starved : runs shared_loose shared [] Starved [] 1
shared-starved = refl
