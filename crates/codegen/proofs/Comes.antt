-- The ideal machine at flat code: what ties its state to one of flat code, and how in some steps it comes to where flat code does.
use Rattle.std.proofs.Common.{◌≡◌, ℕ, suc, ◌+◌, ◌*◌, ◌%◌, ◌^◌, ◌<◌, ◌≤◌, Bool, true, false, List, [], ◌∷◌, Option, Some, nat_eq, arith, refl, ◌∙◌, ap}
use Rattle.std.specs.Prelude.{IfSome}
use Rattle.execution.specs.Run.{Next, Goes, Stops, and_then, run}
use Rattle.execution.specs.Traffic.{Element, is_same_element}
use Rattle.execution.specs.Naming.{traffic_named}
use Rattle.regions.specs.declared.Layout.{Layout}
use Rattle.regions.specs.declared.Class.{Class}
use Rattle.regions.specs.declared.Class.TheVariants.{Open, Code}
use Rattle.regions.specs.Addresses.{class_at, start_of}
use Rattle.orbis_word.specs.declared.Instr.{Instr}
use Rattle.orbis_word.specs.Reading.{instruction_in}
use Rattle.orbis_core.specs.Processor.{Processor}
use Rattle.orbis_core.specs.Ideal as ideal
use Rattle.orbis_core.specs.Ideal.{Ideal, IdealEnd, ideal_step}
use Rattle.ir_code.specs.declared.Ir.{Ir}
use Rattle.ir_code.specs.FlatStates as flat
use Rattle.ir_code.specs.FlatStates.{Held, Word, Link, FlatState, FlatEnd, Step, words_of, class_of, mode_of, element_at}
use Rattle.codegen.specs.OpInstructions.{Sites}
use Rattle.codegen.specs.ImageCode.{sites_of, offset_of}
use Rattle.codegen.proofs.Registers.{Registers, listed}

-- flat code on a memory: where its cells are, the words before the first step, and the names of the elements of cells
pub record World : Type 0 where
  pub layout : Layout
  pub loose : Class → Bool
  pub ir : Ir
  pub home : ℕ → ℕ
  pub static : ℕ → ℕ
  pub name : Element → ℕ

-- the address of the instruction at a place
abbrev pub address_of : World → ℕ → ℕ
address_of w place = start_of w.layout Code + 4 * offset_of w.ir.ops place

abbrev pub sites : World → Sites
sites w = sites_of w.home w.ir

abbrev pub steps_of : World → ℕ → Ideal → Next Ideal IdealEnd
steps_of w = run (ideal_step w.layout w.loose)

-- cells are at home in their classes, apart from one another, and so named
pub record Fits (w : World) : Type 0 where
  pub in_class : (c i : ℕ) → i < words_of w.ir c → class_at w.layout (w.home c + 4 * i) ≡ Some (class_of w.ir c)
  pub aligned : (c : ℕ) → w.home c % 4 ≡ 0
  pub apart : (c i d j : ℕ) → i < words_of w.ir c → j < words_of w.ir d → w.home c + 4 * i ≡ w.home d + 4 * j → (c ≡ d) × (i ≡ j)
  pub named : (c i : ℕ) → i < words_of w.ir c → w.name (element_at c i) ≡ w.home c + 4 * i
  pub tells : (one other : Element) → nat_eq (w.name one) (w.name other) ≡ is_same_element one other
  pub shared : (c : ℕ) → class_of w.ir c ≡ Open → 0x8000 ≤ w.home c
  pub small : (place : ℕ) → address_of w place < 2 ^ 31

-- ---- code

-- an instruction stands at an address
pub record Stands (w : World) (pc : ℕ) (i : Instr) : Type 0 where
  pub code : class_at w.layout pc ≡ Some Code
  pub aligned : pc % 4 ≡ 0
  pub is : instruction_in (w.static pc) ≡ Some i

abbrev pub StandAll : World → ℕ → List Instr → ℕ → Type 0
StandAll w pc [] to = pc ≡ to
StandAll w pc (i ∷ is) to = Stands w pc i × StandAll w (pc + 4) is to

-- instructions stand one after the other from an address to another
pub record HasCode (w : World) (pc : ℕ) (is : List Instr) (to : ℕ) : Type 0 where
  pub all : StandAll w pc is to

module _ (w : World) {pc : ℕ} {i : Instr} {is : List Instr} {to : ℕ} where
  pub first-stands : HasCode w pc (i ∷ is) to → Stands w pc i
  first-stands h = h.all.0

  pub rest-stands : HasCode w pc (i ∷ is) to → HasCode w (pc + 4) is to
  rest-stands h = record { all = h.all.1 }

-- ---- states

-- the machine with this program counter, flag, registers and memory, and what else it has as flat code has it
abbrev pub core_at : ℕ → Bool → Registers → Processor
core_at pc flag r = record { pc = pc; flag = flag; registers = listed r }

abbrev pub standing : World → ℕ → Bool → Registers → FlatState → (ℕ → ℕ) → Ideal
standing w pc flag r f m = record { core = core_at pc flag r; mode = mode_of f.private; memory = m; traffic = traffic_named w.name f.traffic }

-- what a cell holds, as a word
abbrev pub word_held : World → Held → ℕ
word_held w (Word word) = word
word_held w (Link place) = address_of w place

-- the memory has what the cells hold that are not loose, and the code
pub record Tied (w : World) (cells : ℕ → ℕ → Held) (m : ℕ → ℕ) : Type 0 where
  pub held : (c i : ℕ) → i < words_of w.ir c → w.loose (class_of w.ir c) ≡ false → m (w.home c + 4 * i) ≡ word_held w (cells c i)
  pub code : (at : ℕ) → class_at w.layout at ≡ Some Code → m at ≡ w.static at

-- a register has what was handed over and is not forgotten
abbrev pub Has : Option ℕ → ℕ → Type 0
Has given register = IfSome given (λ word. register ≡ word)

pub record Handed (w : World) (slots : ℕ → Option ℕ) (call answer : Option ℕ) (r : Registers) : Type 0 where
  pub slot_0 : Has (slots 0) r.r3
  pub slot_1 : Has (slots 1) r.r4
  pub slot_2 : Has (slots 2) r.r5
  pub slot_3 : Has (slots 3) r.r6
  pub slot_4 : Has (slots 4) r.r7
  pub slot_5 : Has (slots 5) r.r8
  pub link : IfSome call (λ place. r.r9 ≡ address_of w place)
  pub result : Has answer r.r11

-- the machine is where flat code is
pub record Related (w : World) (f : FlatState) (s : Ideal) : Type 0 where
  pub flag : Bool
  pub registers : Registers
  pub memory : ℕ → ℕ
  pub is : s ≡ standing w (address_of w f.place) flag registers f memory
  pub tied : Tied w f.cells memory
  pub handed : Handed w f.slots f.link f.result registers

-- ---- runs

-- at least one step, where one is asked for
abbrev pub AtLeast : Bool → ℕ → Type 0
AtLeast true n = 1 ≤ n
AtLeast false n = Unit {0}

-- in so many steps at most the machine comes to a state that is related
pub record Reaches (w : World) (lo : Bool) (hi : ℕ) (s : Ideal) (f : FlatState) : Type 0 where
  pub n : ℕ
  pub few : n ≤ hi
  pub moved : AtLeast lo n
  pub to : Ideal
  pub ran : steps_of w n s ≡ Goes to
  pub related : Related w f to

-- or it ends, with what has come and gone
pub record Ends (w : World) (lo : Bool) (hi : ℕ) (s : Ideal) (end : IdealEnd) (f : FlatState) : Type 0 where
  pub n : ℕ
  pub few : n ≤ hi
  pub moved : AtLeast lo n
  pub to : Ideal
  pub ran : steps_of w n s ≡ Stops end to
  pub traffic : to.traffic ≡ traffic_named w.name f.traffic

abbrev pub ComesTo : World → Bool → ℕ → Ideal → Step → Type 0
ComesTo w lo hi s (Goes f) = Reaches w lo hi s f
ComesTo w lo hi s (Stops flat.Ended f) = Ends w lo hi s ideal.Ended f
ComesTo w lo hi s (Stops (flat.Index at) f) = Ends w lo hi s (ideal.Index at) f
ComesTo w lo hi s (Stops (flat.Divide at) f) = Ends w lo hi s (ideal.Divide at) f
ComesTo w lo hi s (Stops flat.Starved f) = Ends w lo hi s ideal.Starved f
ComesTo w lo hi s (Stops flat.Stuck f) = Unit {0}

-- in so many steps at most the machine comes to where flat code does, wherever that is not stuck
pub record Comes (w : World) (lo : Bool) (hi : ℕ) (s : Ideal) (next : Step) : Type 0 where
  pub comes : ComesTo w lo hi s next

pub one-more : (lo : Bool) (n : ℕ) → AtLeast lo (suc n)
one-more true n = omega arith
one-more false n = tt

module _ (w : World) (lo : Bool) (hi : ℕ) (s t : Ideal) (e : ideal_step w.layout w.loose s ≡ Goes t) where
  on : (n : ℕ) (next : Next Ideal IdealEnd) → steps_of w n t ≡ next → steps_of w (suc n) s ≡ next
  on n next ran = ap (λ (x : Next Ideal IdealEnd). and_then x (steps_of w n)) e ∙ ran

  ends-later : (end : IdealEnd) (f : FlatState) → Ends w false hi t end f → Ends w lo (suc hi) s end f
  ends-later end f h = record { n = suc h.n; few = (let x : h.n ≤ hi = h.few in omega arith); moved = one-more lo h.n; to = h.to; ran = on h.n (Stops end h.to) h.ran; traffic = h.traffic }

  later : (next : Step) → ComesTo w false hi t next → ComesTo w lo (suc hi) s next
  later (Goes f) h = record { n = suc h.n; few = (let x : h.n ≤ hi = h.few in omega arith); moved = one-more lo h.n; to = h.to; ran = on h.n (Goes h.to) h.ran; related = h.related }
  later (Stops flat.Ended f) h = ends-later ideal.Ended f h
  later (Stops (flat.Index at) f) h = ends-later (ideal.Index at) f h
  later (Stops (flat.Divide at) f) h = ends-later (ideal.Divide at) f h
  later (Stops flat.Starved f) h = ends-later ideal.Starved f h
  later (Stops flat.Stuck f) h = tt

  -- one step, and what comes after it
  pub steps : (next : Step) → Comes w false hi t next → Comes w lo (suc hi) s next
  steps next h = record { comes = later next h.comes }

-- one step that is the last
pub ends-at : (w : World) (lo : Bool) (hi : ℕ) (s t : Ideal) (end : IdealEnd) (f : FlatState) → ideal_step w.layout w.loose s ≡ Stops end t → t.traffic ≡ traffic_named w.name f.traffic → Ends w lo (suc hi) s end f
ends-at w lo hi s t end f e traffic = record { n = 1; few = omega arith; moved = one-more lo 0; to = t; ran = ap (λ (x : Next Ideal IdealEnd). and_then x (steps_of w 0)) e; traffic = traffic }

-- no step, where the machine is there already
pub stays : (w : World) (hi : ℕ) (s : Ideal) (f : FlatState) → Related w f s → Comes w false hi s (Goes f)
stays w hi s f h = record { comes = record { n = 0; few = omega arith; moved = tt; to = s; ran = refl; related = h } }
