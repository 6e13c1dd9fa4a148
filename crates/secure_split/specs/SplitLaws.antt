-- Promise: what the flat code of a source has in common with what the source means.
use Rattle.std.specs.Prelude.{◌≡◌, ◌≢◌, ℕ, ◌+◌, ◌*◌, ◌≤◌, Bool, false, true, List, length, map, Some}
use Rattle.execution.specs.Run.{Stops, state_of}
use Rattle.execution.specs.Traffic.{Element, Entry, Extends}
use Rattle.execution.specs.Naming.{entry_named, traffic_named}
use Rattle.regions.specs.declared.rights.Access.{Access}
use Rattle.regions.specs.declared.rights.Class.{Class}
use Rattle.regions.specs.declared.rights.Class.TheVariants.{Private, Verified}
use Rattle.c_grammar.specs.declared.item.Program.{Program}
use Rattle.c_semantics.specs.States as source
use Rattle.c_semantics.specs.Meaning.{Meaning, mean, noting_all}
use Rattle.c_semantics.specs.ProgramShape.{declared_tokens, is_among}
use Rattle.c_resolver.specs.Resolving.{plain_program}
use Rattle.c_meaning.specs.SourceNodes.{items_count}
use Rattle.ir_code.specs.declared.code.Ir.{Ir}
use Rattle.ir_code.specs.FlatStates.{FlatState, FlatEnd, Later, Stuck, class_of}
use Rattle.ir_code.specs.FlatMeaning.{flat_run, touching}
use Rattle.ir_code.specs.Lawful.{IsNeverStuck}
use Rattle.ir_code.specs.OpTable.{start_weight}
use Rattle.lowering.specs.Cells.{cells_of, source_element, cell_element}
use Rattle.lowering.specs.CellLaws.{HasCells}
use Rattle.lowering.specs.LoweringLaws.{flat_end}
use Rattle.lowering.specs.Sizes.{temporary_cells, weight_of_all}

-- With words of these classes loose, whatever they are, but not verified and private ones, in which functions keep their own variables:
-- so with shared and logged words loose, with shared words alone, and with none.
abbrev pub InEach : ((Class → Bool) → Type 0) → Type 0
InEach Holds = (is_loose : Class → Bool) → is_loose Verified ≡ false → is_loose Private ≡ false → Holds is_loose

-- the element of the source that an element of a cell stands for
abbrev pub name_in : Program → Element → Element
name_in p = source_element (plain_program p)

-- What a source means with these classes loose, where loose words are given for elements of cells. Work and counts are noted.
abbrev pub meant : (Class → Bool) → Program → List ℕ → List (Entry Element) → ℕ → Meaning
meant is_loose p input loose turns = mean (noting_all is_loose) (plain_program p) input (map (entry_named (name_in p)) loose) turns

-- The end is that of the meaning, and so are the bytes, the writes to shared elements, the loose words taken, and the counts of releases,
-- checks and suspensions.
pub record ComesTo (p : Program) (m : Meaning) (end : FlatEnd) (at : FlatState) : Type 0 where
  pub ending : flat_end m.end ≡ Some end
  pub traffic : traffic_named (name_in p) at.traffic ≡ m.traffic

-- Where the source comes to an end of its own, the flat code comes to that end.
abbrev pub GoesForward : Program → Ir → (Class → Bool) → Type 0
GoesForward p ir is_loose = (input : List ℕ) (loose : List (Entry Element)) (turns : ℕ) → (meant is_loose p input loose turns).end ≢ source.Turns →
    (steps : ℕ) × (end : FlatEnd) × (at : FlatState) × (flat_run is_loose ir input loose steps ≡ Stops end at) × ComesTo p (meant is_loose p input loose turns) end at

-- At each moment the flat code has come to a front of what the source does with 64 turns for each jump and 64 more. Where it has ended,
-- the source has come to that end by then.
pub record GoesBackward (p : Program) (ir : Ir) (is_loose : Class → Bool) : Type 0 where
  pub front : (input : List ℕ) (loose : List (Entry Element)) (steps : ℕ) → let at : FlatState = state_of (flat_run is_loose ir input loose steps) in
      Extends (traffic_named (name_in p) at.traffic) (meant is_loose p input loose (64 * (at.jumps + 1))).traffic
  pub ended : (input : List ℕ) (loose : List (Entry Element)) (steps : ℕ) (end : FlatEnd) (at : FlatState) → flat_run is_loose ir input loose steps ≡ Stops end at →
      ComesTo p (meant is_loose p input loose (64 * (at.jumps + 1))) end at

-- The weights of the operations run are at most 32 for each unit of work, at each moment and at an end.
pub record IsWithinWork (p : Program) (ir : Ir) (is_loose : Class → Bool) : Type 0 where
  pub always : (input : List ℕ) (loose : List (Entry Element)) (steps : ℕ) → let at : FlatState = state_of (flat_run is_loose ir input loose steps) in
      at.weight ≤ 32 * (meant is_loose p input loose (64 * (at.jumps + 1))).work
  pub whole : (input : List ℕ) (loose : List (Entry Element)) (turns : ℕ) → (meant is_loose p input loose turns).end ≢ source.Turns →
      (steps : ℕ) × (end : FlatEnd) × (at : FlatState) × (flat_run is_loose ir input loose steps ≡ Stops end at) × (at.weight ≤ 32 * (meant is_loose p input loose turns).work)

-- For each node of the source the code with the start has at most 64 units of weight, 64 operations, and two cells of one word for links
-- and temporaries, and 64 units and operations more. The other cells are for the declared variables.
pub record IsSmallCode (p : Program) (ir : Ir) : Type 0 where
  pub weight : start_weight + weight_of_all ir.ops ≤ 64 * items_count p.items + 64
  pub count : length ir.ops ≤ 64 * items_count p.items + 64
  pub temporaries : temporary_cells (plain_program p).functions ≤ 2 * items_count p.items
  pub cells : length ir.cells ≡ length (declared_tokens (plain_program p)) + temporary_cells (plain_program p).functions

-- A private cell is touched in the private mode alone: a run that touched one outside of it would be stuck, and none is.
pub record GuardsPrivate (ir : Ir) : Type 0 where
  pub stuck : (access : Access) (c i : ℕ) (next : Later) (f : FlatState) → class_of ir c ≡ Private → f.private ≡ false → touching ir access c i next f ≡ Stops Stuck f
  pub never : InEach (λ is_loose. IsNeverStuck is_loose ir)

-- The cells are those of the source's objects in order, with class, words and first words, and then for each function in order those of its
-- parameters, its locals, its link and its temporaries, which are private where the function is. Each element of the source has a cell that
-- stands for it, and an element of a declared variable has no other.
pub record HasSourceCells (p : Program) (ir : Ir) : Type 0 where
  pub cells : ir.cells ≡ cells_of (plain_program p)
  pub listed : HasCells (plain_program p)
  pub named : (e : Element) → name_in p (cell_element (plain_program p) e) ≡ e
  pub only : (e other : Element) → is_among (declared_tokens (plain_program p)) e.variable ≡ true → name_in p other ≡ e → other ≡ cell_element (plain_program p) e
