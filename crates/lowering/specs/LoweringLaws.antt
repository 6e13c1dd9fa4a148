-- Promise: what it means that flat code does what a program means.
use Rattle.regions.specs.LooseClasses.{shared_loose, shared_and_logged_loose}
use Rattle.std.specs.Prelude.{◌≡◌, ◌≢◌, ℕ, ◌+◌, ◌*◌, ◌^◌, ◌<◌, ◌≤◌, Bool, List, [], ◌∷◌, length, map, Option, Some, None}
use Rattle.execution.specs.Run.{Stops, state_of}
use Rattle.execution.specs.Traffic.{Element, Entry, Extends}
use Rattle.execution.specs.Naming.{entry_named, traffic_named}
use Rattle.regions.specs.declared.rights.Class.{Class}
use Rattle.regions.specs.declared.rights.Class.TheVariants.{Constant}
use Rattle.c_semantics.specs.ResolvedTree.{Object, Program}
use Rattle.c_semantics.specs.States as source
use Rattle.c_semantics.specs.Meaning.{Meaning, first_memory, mean, noting_all}
use Rattle.c_semantics.specs.Nodes.{nodes}
use Rattle.c_semantics.specs.ProgramShape.{IsShaped}
use Rattle.ir_code.specs.declared.code.Ir.{Ir}
use Rattle.ir_code.specs.FlatStates.{FlatState, FlatEnd, Ended, Index, Divide, Starved, Word, first_cells}
use Rattle.ir_code.specs.Lawful.{IsNeverStuck, IsLawful}
use Rattle.lowering.specs.Cells.{home_of, source_element, cell_element}
use Rattle.lowering.specs.Lowering.{lowered}
use Rattle.ir_code.specs.FlatMeaning.{flat_run}

-- The end of flat code that an end of the source is; flat code has no bound on turns.
abbrev pub flat_end : source.End → Option FlatEnd
flat_end source.Ended = Some Ended
flat_end (source.Index at) = Some (Index at)
flat_end (source.Divide at) = Some (Divide at)
flat_end source.Starved = Some Starved
flat_end source.Turns = None

-- it has ended so, at what the source has come to, for at most 32 units of weight a unit of work
pub record EndsLike (name : Element → Element) (m : Meaning) (end : FlatEnd) (at : FlatState) : Type 0 where
  pub ending : flat_end m.end ≡ Some end
  pub traffic : traffic_named name at.traffic ≡ m.traffic
  pub weight : at.weight ≤ 32 * m.work

-- it has come so far as the source has or less far
pub record IsFront (name : Element → Element) (m : Meaning) (at : FlatState) : Type 0 where
  pub traffic : Extends (traffic_named name at.traffic) m.traffic
  pub weight : at.weight ≤ 32 * m.work

-- With these classes loose, flat code does what a program means, on each input and for each list of loose words, where the elements
-- of cells stand for those of variables by their names.
pub record MeansAs (is_loose : Class → Bool) (p : Program) (ir : Ir) (name : Element → Element) : Type 0 where
  -- it comes to the end of the program
  pub forward : (input : List ℕ) (loose : List (Entry Element)) (turns : ℕ) →
      let m : Meaning = mean (noting_all is_loose) p input (map (entry_named name) loose) turns in
      m.end ≢ source.Turns → (steps : ℕ) × (end : FlatEnd) × (at : FlatState) × (flat_run is_loose ir input loose steps ≡ Stops end at) × EndsLike name m end at
  -- at each moment it has come to a front of what the program does with 64 turns for each jump and 64 more
  pub backward : (input : List ℕ) (loose : List (Entry Element)) (steps : ℕ) →
      let at : FlatState = state_of (flat_run is_loose ir input loose steps) in
      IsFront name (mean (noting_all is_loose) p input (map (entry_named name) loose) (64 * (at.jumps + 1))) at
  -- where it has ended, that is the end of the program
  pub ended : (input : List ℕ) (loose : List (Entry Element)) (steps : ℕ) (end : FlatEnd) (at : FlatState) → flat_run is_loose ir input loose steps ≡ Stops end at →
      EndsLike name (mean (noting_all is_loose) p input (map (entry_named name) loose) (64 * (at.jumps + 1))) end at

-- an object that is no constant starts with no words of its own
abbrev pub StartsWith : Option Class → List ℕ → Type 0
StartsWith (Some Constant) first = Unit {0}
StartsWith class first = first ≡ []

abbrev pub StartPlainly : List Object → Type 0
StartPlainly [] = Unit {0}
StartPlainly (o ∷ os) = StartsWith o.variable.class o.first × StartPlainly os

-- what the cells of variables hold before the first operation is what the variables hold
abbrev pub Starts : Program → Type 0
Starts p = (t i : ℕ) → first_cells (lowered p) (home_of p t) i ≡ Word (first_memory p.objects t i)

-- What is proved of the flat code of a program of the right shape, with these classes loose: its cells start as the variables do,
-- it does what the program means, and is never stuck.
pub record IsLowered (is_loose : Class → Bool) (p : Program) : Type 0 where
  pub starts : Starts p
  pub meaning : MeansAs is_loose p (lowered p) (source_element p)
  pub runs : IsNeverStuck is_loose (lowered p)

-- with shared and logged words loose, and with shared words alone
abbrev pub Lowers : Type 0
Lowers = (p : Program) → IsShaped p → StartPlainly p.objects → IsLowered shared_and_logged_loose p × IsLowered shared_loose p

-- So few nodes and objects as each source within the limits has.
pub record IsSmall (p : Program) : Type 0 where
  pub nodes : nodes p < 2 ^ 20
  pub objects : length p.objects < 2 ^ 20

-- The flat code of a small program of the right shape is lawful, with shared and logged words loose and with shared words alone.
abbrev pub LoweredIsLawful : Type 0
LoweredIsLawful = (p : Program) → IsShaped p → StartPlainly p.objects → IsSmall p → IsLawful shared_and_logged_loose (lowered p) × IsLawful shared_loose (lowered p)

-- the names of cells reach each element of the source, by its own cell
abbrev pub NamesReach : Type 0
NamesReach = (p : Program) (e : Element) → source_element p (cell_element p e) ≡ e
