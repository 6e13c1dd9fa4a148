-- Flat code written out by hand, with where it comes to, each of which computes.
use Rattle.std.proofs.Common.{◌≡◌, ℕ, ◌+◌, Bool, true, false, nat_lt, List, [], ◌∷◌, ◌++◌, Option, Some, None, lit<, refl}
use Rattle.execution.specs.Run.{Goes, Stops}
use Rattle.execution.specs.Traffic.{Element, Entry, Traffic}
use Rattle.aegis_num.specs.declared.limits.TheConstants.{MAX_PARAMETERS}
use Rattle.aegis_num.specs.declared.operators.BinaryOp.TheVariants.{Add, Sub}
use Rattle.aegis_num.specs.declared.operators.UnaryOp.TheVariants.{Not}
use Rattle.regions.specs.declared.rights.Class.{Class}
use Rattle.regions.specs.declared.rights.Class.TheVariants.{Open, Verified, Private, Constant, Code, Logged}
use Rattle.regions.specs.LooseClasses.{nothing_loose, shared_loose, shared_and_logged_loose}
use Rattle.ir_code.specs.declared.code.Cell.{Cell}
use Rattle.ir_code.specs.declared.code.Ir.{Ir}
use Rattle.ir_code.specs.declared.ops.Op.{Op}
use Rattle.ir_code.specs.declared.ops.Op.TheVariants as op
use Rattle.ir_code.specs.FlatStates.{class_of, FlatEnd, Ended, Index, Divide, Starved, Stuck, Step}
use Rattle.ir_code.specs.FlatMeaning.{flat_run}
use Rattle.ir_code.specs.OpTable.{start_weight, targets, sources, loaded as loaded_arrays, stored, link_cells, goes_to, labels_of, slots_of}
use Rattle.ir_code.specs.Lawful.{HasForm, all_hold, is_among, is_once, named_by, keeps_links, is_scalar, is_written, is_there, has_first, is_data, ends_well, keeps_apart}

-- what is to be seen of a run: its end, what has come and gone, the weight of the start and of what was run, and the jumps made
pub record Seen : Type 0 where
  pub end : Option FlatEnd
  pub traffic : Traffic Element
  pub weight : ℕ
  pub jumps : ℕ

abbrev pub seen : Step → Seen
seen (Goes f) = record { end = None; traffic = f.traffic; weight = f.weight; jumps = f.jumps }
seen (Stops end f) = record { end = Some end; traffic = f.traffic; weight = f.weight; jumps = f.jumps }

-- nothing came or went but these bytes, each by one release
abbrev pub released : List ℕ → ℕ → Traffic Element
released bytes releases = record { input = []; loose = []; taken = 0; bytes = bytes; writes = []; releases = releases; checks = 0; suspensions = 0 }

abbrev pub cell : Class → ℕ → Cell
cell class words = record { class = class; words = words; first = [] }

abbrev pub entry : ℕ → ℕ → ℕ → Entry Element
entry c i word = record { place = record { variable = c; index = i }; word = word }

-- ---- a straight line

abbrev pub straight : Ir
straight = record {
  cells = cell Verified 1 ∷ [];
  ops = op.Const 0 0x48 ∷ op.Release 0 ∷ op.Const 0 0x169 ∷ op.Release 0 ∷ op.Exit ∷ [];
  entry = 0;
}

straight-runs : seen (flat_run nothing_loose straight [] [] 5) ≡ record { end = Some Ended; traffic = released (0x48 ∷ 0x69 ∷ []) 2; weight = 26; jumps = 0 }
straight-runs = refl

straight-midway : seen (flat_run nothing_loose straight [] [] 3) ≡ record { end = None; traffic = released (0x48 ∷ []) 1; weight = 22; jumps = 0 }
straight-midway = refl

-- ---- a loop with a trap: the array has two elements, and the third turn ends at the token 7

abbrev pub looping : Ir
looping = record {
  cells = cell Verified 2 ∷ cell Verified 1 ∷ cell Verified 1 ∷ cell Verified 1 ∷ [];
  ops = op.Const 2 1 ∷ op.Label 9 ∷ op.Test 1 2 7 ∷ op.Store 0 1 1 ∷ op.Load 3 0 1 ∷ op.Release 3 ∷ op.Binary Add 1 1 2 ∷ op.Jump 9 ∷ [];
  entry = 0;
}

looping-runs : seen (flat_run nothing_loose looping [] [] 99) ≡ record { end = Some (Index 7); traffic = released (0 ∷ 1 ∷ []) 2; weight = 117; jumps = 2 }
looping-runs = refl

looping-goes-on : seen (flat_run nothing_loose looping [] [] 8) ≡ record { end = None; traffic = released (0 ∷ []) 1; weight = 61; jumps = 1 }
looping-goes-on = refl

-- ---- a call of a private function with an argument: it answers the argument and 3

abbrev pub calling_by : Bool → Bool → Ir
calling_by before after = record {
  cells = cell Verified 1 ∷ cell Private 1 ∷ cell Private 1 ∷ cell Private 1 ∷ [];
  ops = op.Label 0 ∷ op.Param 1 0 ∷ op.SaveLink 2 ∷ op.Const 3 3 ∷ op.Binary Add 3 1 3 ∷ op.SetResult 3 ∷ op.Return 2
      ∷ op.Const 0 0x40 ∷ op.Arg 0 0 ∷ op.SetMode before ∷ op.Call 0 ∷ op.SetMode after ∷ op.Result 0 ∷ op.Release 0 ∷ op.Exit ∷ [];
  entry = 7;
}

abbrev pub calling : Ir
calling = calling_by true false

calling-runs : seen (flat_run nothing_loose calling [] [] 15) ≡ record { end = Some Ended; traffic = released (0x43 ∷ []) 1; weight = 51; jumps = 2 }
calling-runs = refl

-- without a change of mode, and with one that changes nothing
calling-unprivate : seen (flat_run nothing_loose (calling_by false false) [] [] 15) ≡ record { end = Some Stuck; traffic = released [] 0; weight = 18; jumps = 0 }
calling-unprivate = refl

calling-private-still : seen (flat_run nothing_loose (calling_by true true) [] [] 15) ≡ record { end = Some Stuck; traffic = released [] 0; weight = 45; jumps = 2 }
calling-private-still = refl

-- ---- all three have the form of lawful flat code

straight-form : HasForm straight
straight-form = record {
  ops = lit< tt;
  cells = lit< tt;
  entry = lit< tt;
  written_fit = refl;
  read_fit = refl;
  loaded_there = refl;
  stored_there = refl;
  labels_there = refl;
  slots_there = refl;
  labels_once = refl;
  last = refl;
  no_code = refl;
  first = refl;
  constants = refl;
  links_fit = refl;
  links_kept = refl;
  links_apart = refl;
}

looping-form : HasForm looping
looping-form = record {
  ops = lit< tt;
  cells = lit< tt;
  entry = lit< tt;
  written_fit = refl;
  read_fit = refl;
  loaded_there = refl;
  stored_there = refl;
  labels_there = refl;
  slots_there = refl;
  labels_once = refl;
  last = refl;
  no_code = refl;
  first = refl;
  constants = refl;
  links_fit = refl;
  links_kept = refl;
  links_apart = refl;
}

calling-form : HasForm calling
calling-form = record {
  ops = lit< tt;
  cells = lit< tt;
  entry = lit< tt;
  written_fit = refl;
  read_fit = refl;
  loaded_there = refl;
  stored_there = refl;
  labels_there = refl;
  slots_there = refl;
  labels_once = refl;
  last = refl;
  no_code = refl;
  first = refl;
  constants = refl;
  links_fit = refl;
  links_kept = refl;
  links_apart = refl;
}

-- ---- each operation, on six cells: 0 has one word, 1 too, 2 is a constant of three words, 3 a shared and 4 a logged array of
-- two words, and 5 is a private one of one

abbrev pub cells : List Cell
cells = cell Verified 1 ∷ cell Verified 1 ∷ record { class = Constant; words = 3; first = 5 ∷ 6 ∷ 7 ∷ [] } ∷ cell Open 2 ∷ cell Logged 2 ∷ cell Private 1 ∷ []

abbrev pub having : List Op → Ir
having ops = record { cells = cells; ops = ops; entry = 0 }

-- released by the last operation, the exit being reached
abbrev pub gives : List Op → List ℕ → ℕ → ℕ → Type 0
gives ops bytes weight jumps =
    seen (flat_run nothing_loose (having ops) [] [] 20) ≡ record { end = Some Ended; traffic = released bytes 1; weight = start_weight + weight; jumps = jumps }

copy : gives (op.Const 0 8 ∷ op.Copy 1 0 ∷ op.Const 0 9 ∷ op.Release 1 ∷ op.Exit ∷ []) (8 ∷ []) 16 0
copy = refl

unary : gives (op.Unary Not 1 0 ∷ op.Release 1 ∷ op.Exit ∷ []) (1 ∷ []) 12 0
unary = refl

binary : gives (op.Const 0 9 ∷ op.Const 1 2 ∷ op.Binary Sub 0 0 1 ∷ op.Release 0 ∷ op.Exit ∷ []) (7 ∷ []) 24 0
binary = refl

loaded : gives (op.Const 1 2 ∷ op.Load 0 2 1 ∷ op.Release 0 ∷ op.Exit ∷ []) (7 ∷ []) 18 0
loaded = refl

jumped : gives (op.Const 0 3 ∷ op.Jump 1 ∷ op.Const 0 4 ∷ op.Label 1 ∷ op.Release 0 ∷ op.Exit ∷ []) (3 ∷ []) 9 1
jumped = refl

jumped-at-zero : gives (op.JumpZero 0 1 ∷ op.Const 0 4 ∷ op.Label 1 ∷ op.Release 0 ∷ op.Exit ∷ []) (0 ∷ []) 8 1
jumped-at-zero = refl

not-jumped : gives (op.Const 0 3 ∷ op.JumpZero 0 1 ∷ op.Const 0 4 ∷ op.Label 1 ∷ op.Release 0 ∷ op.Exit ∷ []) (4 ∷ []) 16 0
not-jumped = refl

-- arguments in two slots, which a later one does not overwrite
slots : gives (op.Const 0 3 ∷ op.Const 1 4 ∷ op.Arg 0 0 ∷ op.Arg 5 1 ∷ op.Param 1 0 ∷ op.Release 1 ∷ op.Exit ∷ []) (3 ∷ []) 18 0
slots = refl

result : gives (op.Const 0 3 ∷ op.SetResult 0 ∷ op.SetMode true ∷ op.SetMode false ∷ op.Result 1 ∷ op.Release 1 ∷ op.Exit ∷ []) (3 ∷ []) 14 0
result = refl

tested : gives (op.Const 0 2 ∷ op.Test 0 3 7 ∷ op.NonZero 0 8 ∷ op.Release 0 ∷ op.Exit ∷ []) (2 ∷ []) 26 0
tested = refl

test-fails : seen (flat_run nothing_loose (having (op.Const 0 3 ∷ op.Test 0 3 7 ∷ op.Exit ∷ [])) [] [] 20) ≡ record { end = Some (Index 7); traffic = released [] 0; weight = 25; jumps = 0 }
test-fails = refl

divides : seen (flat_run nothing_loose (having (op.NonZero 0 8 ∷ op.Exit ∷ [])) [] [] 20) ≡ record { end = Some (Divide 8); traffic = released [] 0; weight = 19; jumps = 0 }
divides = refl

-- a byte of the input, and -1 after the last one; a check and two suspensions
inputs : seen (flat_run nothing_loose (having (op.Input 0 ∷ op.Input 1 ∷ op.Release 0 ∷ op.Release 1 ∷ op.Check ∷ op.Suspend ∷ op.Suspend ∷ op.Exit ∷ [])) (7 ∷ []) [] 20)
    ≡ record { end = Some Ended; traffic = record (released (7 ∷ 255 ∷ []) 2) { checks = 1; suspensions = 2 }; weight = 27; jumps = 0 }
inputs = refl

-- ---- shared and logged cells

-- 3[1] = 9, 4[1] = 8, release 3[1], release 4[1]
abbrev sharing : Ir
sharing = having (op.Const 0 1 ∷ op.Const 1 9 ∷ op.Store 3 0 1 ∷ op.Const 1 8 ∷ op.Store 4 0 1 ∷ op.Load 1 3 0 ∷ op.Release 1 ∷ op.Load 1 4 0 ∷ op.Release 1 ∷ op.Exit ∷ [])

-- nothing is loose: the words written are read, and the shared one alone is noted
sharing-alone : seen (flat_run nothing_loose sharing [] (entry 3 1 2 ∷ []) 20)
    ≡ record { end = Some Ended; traffic = record (released (9 ∷ 8 ∷ []) 2) { loose = entry 3 1 2 ∷ []; writes = entry 3 1 9 ∷ [] }; weight = 70; jumps = 0 }
sharing-alone = refl

-- shared cells are loose
sharing-shared : seen (flat_run shared_loose sharing [] (entry 3 1 2 ∷ []) 20)
    ≡ record { end = Some Ended; traffic = record (released (2 ∷ 8 ∷ []) 2) { taken = 1; writes = entry 3 1 9 ∷ [] }; weight = 70; jumps = 0 }
sharing-shared = refl

-- logged cells are too
sharing-logged : seen (flat_run shared_and_logged_loose sharing [] (entry 3 1 2 ∷ entry 4 1 6 ∷ []) 20)
    ≡ record { end = Some Ended; traffic = record (released (2 ∷ 6 ∷ []) 2) { taken = 2; writes = entry 3 1 9 ∷ [] }; weight = 70; jumps = 0 }
sharing-logged = refl

-- starved where the next entry is of another index, of another cell, and where there is none
sharing-starved : seen (flat_run shared_and_logged_loose sharing [] (entry 3 0 2 ∷ []) 20)
    ≡ record { end = Some Starved; traffic = record (released [] 0) { loose = entry 3 0 2 ∷ []; writes = entry 3 1 9 ∷ [] }; weight = 53; jumps = 0 }
sharing-starved = refl

sharing-starved-later : seen (flat_run shared_and_logged_loose sharing [] (entry 3 1 2 ∷ entry 3 1 6 ∷ []) 20)
    ≡ record { end = Some Starved; traffic = record (released (2 ∷ []) 1) { taken = 1; loose = entry 3 1 6 ∷ []; writes = entry 3 1 9 ∷ [] }; weight = 66; jumps = 0 }
sharing-starved-later = refl

sharing-starved-none : seen (flat_run shared_loose sharing [] [] 20)
    ≡ record { end = Some Starved; traffic = record (released [] 0) { writes = entry 3 1 9 ∷ [] }; weight = 53; jumps = 0 }
sharing-starved-none = refl

-- ---- what breaks the form

-- all rules of form that are tests, in the order in which they stand
abbrev tests : Ir → List Bool
tests ir =
    all_hold (is_scalar ir) (named_by targets ir.ops) ∷ all_hold (is_scalar ir) (named_by sources ir.ops)
    ∷ all_hold (is_there ir.cells) (named_by loaded_arrays ir.ops) ∷ all_hold (is_there ir.cells) (named_by stored ir.ops)
    ∷ all_hold (is_among (named_by labels_of ir.ops)) (named_by goes_to ir.ops) ∷ all_hold (λ slot. nat_lt slot MAX_PARAMETERS) (named_by slots_of ir.ops)
    ∷ is_once (named_by labels_of ir.ops) ∷ ends_well ir.ops ∷ all_hold is_data ir.cells ∷ all_hold has_first ir.cells
    ∷ all_hold (is_written ir) (named_by targets ir.ops ++ named_by stored ir.ops) ∷ all_hold (is_scalar ir) (named_by link_cells ir.ops)
    ∷ all_hold (λ c. keeps_links (class_of ir c)) (named_by link_cells ir.ops)
    ∷ keeps_apart (named_by link_cells ir.ops) (named_by targets ir.ops ++ named_by sources ir.ops ++ named_by loaded_arrays ir.ops ++ named_by stored ir.ops) ∷ []

-- the numbers of those that fail, from 0
abbrev failing_from : ℕ → List Bool → List ℕ
failing_from n [] = []
failing_from n (true ∷ tests) = failing_from (n + 1) tests
failing_from n (false ∷ tests) = n ∷ failing_from (n + 1) tests

abbrev fails : Ir → List ℕ → Type 0
fails ir numbers = failing_from 0 (tests ir) ≡ numbers

fits : fails (having (op.Label 0 ∷ op.Const 0 1 ∷ op.Load 1 2 0 ∷ op.Store 3 0 1 ∷ op.Arg 5 0 ∷ op.Param 1 5 ∷ op.Call 0 ∷ op.SaveLink 5 ∷ op.Return 5 ∷ [])) []
fits = refl

-- an array or a missing cell is written or read as one word
array-written : fails (having (op.Const 3 1 ∷ op.Exit ∷ [])) (0 ∷ [])
array-written = refl

array-read : fails (having (op.Release 3 ∷ op.Exit ∷ [])) (1 ∷ [])
array-read = refl

second-operand-missing : fails (having (op.Binary Add 0 1 6 ∷ op.Exit ∷ [])) (1 ∷ [])
second-operand-missing = refl

array-missing : fails (having (op.Load 0 6 1 ∷ op.Exit ∷ [])) (2 ∷ [])
array-missing = refl

array-missing-stored : fails (having (op.Store 6 0 1 ∷ op.Exit ∷ [])) (3 ∷ [])
array-missing-stored = refl

label-missing : (fails (having (op.JumpZero 0 1 ∷ op.Label 0 ∷ op.Exit ∷ [])) (4 ∷ [])) × (fails (having (op.Call 1 ∷ op.Exit ∷ [])) (4 ∷ [])) × (fails (having (op.Jump 1 ∷ [])) (4 ∷ []))
label-missing = (refl, refl, refl)

slot-missing : (fails (having (op.Arg 6 0 ∷ op.Exit ∷ [])) (5 ∷ [])) × (fails (having (op.Param 0 6 ∷ op.Exit ∷ [])) (5 ∷ []))
slot-missing = (refl, refl)

label-twice : fails (having (op.Label 0 ∷ op.Label 1 ∷ op.Label 0 ∷ op.Exit ∷ [])) (6 ∷ [])
label-twice = refl

no-end : (fails (having []) (7 ∷ [])) × (fails (having (op.Exit ∷ op.Check ∷ [])) (7 ∷ []))
no-end = (refl, refl)

code-cell : fails (record { cells = cell Code 0 ∷ []; ops = op.Exit ∷ []; entry = 0 }) (8 ∷ [])
code-cell = refl

-- a constant without all its words, and another cell with some
short-constant : fails (record { cells = record { class = Constant; words = 2; first = 1 ∷ [] } ∷ []; ops = op.Exit ∷ []; entry = 0 }) (9 ∷ [])
short-constant = refl

long-start : fails (record { cells = record { class = Verified; words = 1; first = 1 ∷ [] } ∷ []; ops = op.Exit ∷ []; entry = 0 }) (9 ∷ [])
long-start = refl

constant-stored : fails (having (op.Store 2 0 1 ∷ op.Exit ∷ [])) (10 ∷ [])
constant-stored = refl

-- the cell of a link is missing or open, or is named by another operation
link-missing : fails (having (op.Return 6 ∷ [])) (11 ∷ 12 ∷ [])
link-missing = refl

link-open : fails (record { cells = cell Logged 1 ∷ []; ops = op.SaveLink 0 ∷ op.Exit ∷ []; entry = 0 }) (12 ∷ [])
link-open = refl

link-read : (fails (having (op.SaveLink 0 ∷ op.Release 0 ∷ op.Exit ∷ [])) (13 ∷ [])) × (fails (having (op.SaveLink 0 ∷ op.Input 0 ∷ op.Exit ∷ [])) (13 ∷ []))
    × (fails (having (op.SaveLink 0 ∷ op.Load 1 0 1 ∷ op.Exit ∷ [])) (13 ∷ [])) × (fails (having (op.Return 0 ∷ op.Store 0 1 1 ∷ op.Exit ∷ [])) (13 ∷ []))
link-read = (refl, refl, refl, refl)
