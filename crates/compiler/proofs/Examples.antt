-- The address map, the numbers and the ends at work, each of which computes.
use Rattle.std.proofs.Common.{◌≡◌, ℕ, false, true, List, [], ◌∷◌, ◌++◌, codes, Option, Some, None, lit≤, refl}
use Rattle.regions.specs.declared.Class.TheVariants.{Verified}
use Rattle.regions.specs.declared.Layout.{Layout}
use Rattle.c_grammar.specs.declared.item.Item.{Item}
use Rattle.c_grammar.specs.declared.item.Item.TheVariants as item
use Rattle.c_grammar.specs.declared.item.Kind3.TheVariants.{Int}
use Rattle.c_grammar.specs.declared.item.Program.{Program}
use Rattle.c_grammar.specs.declared.item.Storage.TheVariants as storage
use Rattle.c_grammar.specs.declared.item.Storage.{Storage}
use Rattle.region_plan.specs.declared.PlanError.TheVariants.{LogFull, OpenFull, TreeFull}
use Rattle.c_semantics.specs.declared.tree.Variable.{Variable}
use Rattle.c_semantics.specs.ResolvedTree.{Function, Local, Nothing, Number, Binary, Object, Return, Then}
use Rattle.aegis_num.specs.declared.BinaryOp.TheVariants.{Add}
use Rattle.c_semantics.specs.States as source
use Rattle.orbis_core.specs.Ideal as machine
use Rattle.compiler.specs.CompilerTheorem.{machine_end}
use Rattle.compiler.specs.MemoryUse.{constant_blocks, function_words, is_as_private, log_blocks, private_blocks, shared_bytes, source_fault, verified_blocks}
use Rattle.compiler.specs.Places.{address_of, element_at, place, place_among, words_of_class}

-- __shared int s[3]; __logged int l; int v[20]; __private int q; const int c[2] = {7, -1}; __shared int t; int w; __logged int m[2];
-- int main(void) {}
abbrev small : Program
small = record {
  items = item.Object storage.Shared false (codes "s") (Some 3) 1
      ∷ item.Object storage.Logged false (codes "l") None 2
      ∷ item.Object storage.Verified false (codes "v") (Some 20) 3
      ∷ item.Object storage.Private false (codes "q") None 4
      ∷ item.Constant false (codes "c") (Some 2) (record { negative = false; value = 7; unsigned = false } ∷ record { negative = true; value = 1; unsigned = false } ∷ []) true 5
      ∷ item.Object storage.Shared false (codes "t") None 6
      ∷ item.Object storage.Verified false (codes "w") None 7
      ∷ item.Object storage.Logged false (codes "m") (Some 2) 8
      ∷ item.Function false Int (codes "main") [] [] 9
      ∷ [];
}

abbrev layout : Layout
layout = record { verified = 3; private = 2; constants = 1; code = 1; log = 1; shared = 16; data_fits = lit≤ tt; log_fits = lit≤ tt; shared_fits = lit≤ tt }

abbrev at : ℕ → ℕ → Option ℕ
at token index = place small layout (record { variable = token; index = index })

-- shared words from 0x8000 on, in the order of the source, though others stand between them
shared-places : (at 1 0 ≡ Some 32768) × (at 1 2 ≡ Some 32776) × (at 6 0 ≡ Some 32780)
shared-places = (refl, refl, refl)

-- logged ones from 0x20000000 on
logged-places : (at 2 0 ≡ Some 536870912) × (at 8 0 ≡ Some 536870916) × (at 8 1 ≡ Some 536870920)
logged-places = (refl, refl, refl)

-- verified ones from 0x10000000 on, private ones after three blocks, constants after five
data-places : (at 3 0 ≡ Some 268435456) × (at 3 19 ≡ Some 268435532) × (at 7 0 ≡ Some 268435536) × (at 4 0 ≡ Some 268435648) × (at 5 0 ≡ Some 268435776) × (at 5 1 ≡ Some 268435780)
data-places = (refl, refl, refl, refl, refl, refl)

-- an index beyond the last one has no place, nor has a token that declares no object
no-places : (at 1 3 ≡ None) × (at 2 1 ≡ None) × (at 9 0 ≡ None) × (at 10 0 ≡ None)
no-places = (refl, refl, refl, refl)

-- an object that no class keeps has no place, and counts for none
abbrev loose-object : Object
loose-object = record { variable = record { token = 1; class = None }; length = None; first = [] }

kept-nowhere : (place_among layout [] (loose-object ∷ []) (record { variable = 1; index = 0 }) ≡ None) × (words_of_class Verified (loose-object ∷ []) ≡ 0)
kept-nowhere = (refl, refl)

-- ---- numbers

abbrev own : ℕ → Variable
own token = record { token = token; class = None }

-- __private int f(int a, int b) { int c = 1; return 0 + 1; } int g(void) {}
abbrev functions : List Function
functions = record { private = true; parameters = own 1 ∷ own 2 ∷ []; body = Then (Local (own 3) (Some (Number 1))) (Return (Some (Binary 4 Add (Number 0) (Number 1)))) }
    ∷ record { private = false; parameters = []; body = Nothing }
    ∷ []

-- two parameters, a local, a link and two temporaries; a link and a temporary
words-of-functions : (function_words true functions ≡ 6) × (function_words false functions ≡ 2)
words-of-functions = (refl, refl)

alike : (is_as_private true true ≡ true) × (is_as_private true false ≡ false) × (is_as_private false true ≡ false) × (is_as_private false false ≡ true)
alike = (refl, refl, refl, refl)

-- 21 words of objects and two of `main`, one, two and three; each but the first in one block; and 16 bytes
numbers : (verified_blocks small ≡ 2) × (private_blocks small ≡ 1) × (constant_blocks small ≡ 1) × (log_blocks small ≡ 1) × (shared_bytes small ≡ 16)
numbers = (refl, refl, refl, refl, refl)

-- no limit is passed; each one alone; the tree is told before the log, and the log before shared bytes
abbrev holding : List Item → Program
holding items = record { items = items ++ (item.Function false Int (codes "main") [] [] 9 ∷ []) }

abbrev wide : ℕ → Storage → ℕ → Item
wide token storage length' = item.Object storage false (codes "x") (Some length') token

fits : (source_fault small ≡ None) × (source_fault (holding (wide 1 storage.Shared 8192 ∷ [])) ≡ None) × (source_fault (holding (wide 1 storage.Logged 16384 ∷ [])) ≡ None)
fits = (refl, refl, refl)

faults : (source_fault (holding (wide 1 storage.Shared 8193 ∷ [])) ≡ Some (OpenFull 32772))
    × (source_fault (holding (wide 1 storage.Logged 16385 ∷ wide 2 storage.Shared 8193 ∷ [])) ≡ Some (LogFull 1025))
    × (source_fault (holding (wide 1 storage.Verified 65536 ∷ wide 2 storage.Private 65536 ∷ wide 3 storage.Logged 16385 ∷ [])) ≡ Some (TreeFull 8195))
faults = (refl, refl, refl)

-- ---- names: an address of the map, both ways

names : (element_at small layout 32776 ≡ record { variable = 1; index = 2 }) × (address_of small layout (record { variable = 1; index = 2 }) ≡ 32776)
names = (refl, refl)

-- ---- ends

ends : (machine_end source.Ended ≡ Some machine.Ended) × (machine_end (source.Index 5) ≡ Some (machine.Index 5)) × (machine_end (source.Divide 6) ≡ Some (machine.Divide 6)) × (machine_end source.Starved ≡ Some machine.Starved) × (machine_end source.Turns ≡ None)
ends = (refl, refl, refl, refl, refl)
