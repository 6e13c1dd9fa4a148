-- Each step releases at most one byte.
use Rattle.std.proofs.Common.{◌≡◌, ℕ, zero, suc, ◌+◌, List, ◌%◌, ◌^◌, ◌≤◌, Bool, true, false, [], ◌∷◌, ◌++◌, length, Option, Some, None, sym, subst, arith, length-append}
use Rattle.std.specs.Prelude.{if◌then◌else◌}
use Rattle.execution.specs.Run.{Next, Goes, Stops, and_then, run, state_of}
use Rattle.execution.specs.Traffic.{Traffic, after_write}
use Rattle.execution.proofs.RunLemmas.{run-+}
use Rattle.orbis_word.specs.declared.Instr.{Instr}
use Rattle.regions.specs.declared.Layout.{Layout}
use Rattle.regions.specs.declared.Access.TheVariants.{Read, Write, Fetch}
use Rattle.regions.specs.LooseClasses.{nothing_loose, shared_loose}
use Rattle.regions.specs.Modes.{SecureInstruction, Enter, Exit, IndexTrap, DivideTrap, Suspend, Resume, PrivateOn, PrivateOff, Release, Input, Check, allowed_in}
use Rattle.image_file.specs.declared.Image.{Image}
use Rattle.orbis_core.specs.declared.Effect.{Effect}
use Rattle.orbis_core.specs.declared.Effect.TheVariants as effect
use Rattle.orbis_core.specs.declared.Why.{Why}
use Rattle.orbis_core.specs.declared.Why.TheVariants as why
use Rattle.orbis_core.specs.ByteOrder.{byte_in, with_byte, word_start}
use Rattle.orbis_core.specs.Effects.{effect_of}
use Rattle.orbis_core.specs.Ideal.{Ideal, IdealEnd, Refused, Outside, carried, executed, from_entries, ideal_step, instruction_at, is_among, loaded, secured, stores, taken, unless}
use Rattle.orbis_core.specs.Processor.{register}
use Rattle.orbis_core.specs.Refusals.{byte_refusal, word_refusal}
use Rattle.orbis_core.specs.Secure.{secure_of}
use Rattle.flat_machine.specs.ImageRuns.{released_in}
use Rattle.flat_machine.proofs.Runs.{machine_step, start}

-- at most one byte more was released than at the state
abbrev IsOneMore : Ideal → Next Ideal IdealEnd → Type 0
IsOneMore state next = length (state_of next).traffic.bytes ≤ length state.traffic.bytes + 1

unless-one : (refusal : Option Why) (state : Ideal) (next : Next Ideal IdealEnd) → IsOneMore state next → IsOneMore state (unless refusal state next)
unless-one None state next one = one
unless-one (Some reason) state next one = omega arith

taken-one : (d : ℕ) (found : Option ℕ) (state : Ideal) → IsOneMore state (taken d found state)
taken-one d None state = omega arith
taken-one d (Some word) state = omega arith

loads-one : (loose : Bool) (d word : ℕ) (came : Option ℕ) (state : Ideal) → IsOneMore state (if loose then taken d came state else loaded d word state)
loads-one true d word came state = taken-one d came state
loads-one false d word came state = omega arith

stored-same : (shared : Bool) (at value : ℕ) (traffic : Traffic ℕ) → length (if shared then after_write at value traffic else traffic).bytes ≤ length traffic.bytes + 1
stored-same true at value traffic = omega arith
stored-same false at value traffic = omega arith

secured-one : (asked : SecureInstruction) (state : Ideal) → IsOneMore state (secured asked state)
secured-one Enter state = omega arith
secured-one Exit state = omega arith
secured-one IndexTrap state = omega arith
secured-one DivideTrap state = omega arith
secured-one Suspend state = omega arith
secured-one Resume state = omega arith
secured-one PrivateOn state = omega arith
secured-one PrivateOff state = omega arith
secured-one Release state =
    let e : length (state.traffic.bytes ++ (register state.core 3 % 2 ^ 8 ∷ [])) ≡ length state.traffic.bytes + 1 = length-append state.traffic.bytes _ in omega (arith, e)
secured-one Input state = omega arith
secured-one Check state = omega arith

allowed-one : (allowed : Bool) (asked : SecureInstruction) (state : Ideal) → IsOneMore state (if allowed then secured asked state else Stops (Refused why.Mode) state)
allowed-one true asked state = secured-one asked state
allowed-one false asked state = omega arith

module _ (layout : Layout) where
  outside : Outside
  outside = from_entries nothing_loose

  carried-one : (asked : Effect) (state : Ideal) → IsOneMore state (carried layout (from_entries nothing_loose) asked state)
  carried-one (effect.LoadWord d at) state =
      unless-one (word_refusal layout state.mode Read at) state _ (loads-one (is_among nothing_loose layout at) d (state.memory at) _ state)
  carried-one (effect.LoadByte d at) state =
      unless-one (byte_refusal layout state.mode Read at) state _ (loads-one (is_among nothing_loose layout at) d (byte_in (state.memory (word_start at)) at) _ state)
  carried-one (effect.StoreWord at word) state =
      unless-one (word_refusal layout state.mode Write at) state (stores layout nothing_loose at word word state) (stored-same (is_among shared_loose layout at) at word state.traffic)
  carried-one (effect.StoreByte at byte) state =
      unless-one (byte_refusal layout state.mode Write at) state (stores layout nothing_loose at byte (with_byte (state.memory (word_start at)) at byte) state)
      (stored-same (is_among shared_loose layout at) at byte state.traffic)
  carried-one (effect.Secure f) state = allowed-one (allowed_in (secure_of f) state.mode) (secure_of f) state
  carried-one effect.DivideByZero state = omega arith
  carried-one effect.Proceed state = omega arith
  carried-one (effect.Write d value) state = omega arith
  carried-one (effect.Compare flag) state = omega arith
  carried-one (effect.Jump target) state = omega arith
  carried-one (effect.Link target) state = omega arith

  executed-one : (found : Option Instr) (state : Ideal) → IsOneMore state (executed layout (from_entries nothing_loose) found state)
  executed-one None state = omega arith
  executed-one (Some instruction) state = carried-one (effect_of instruction state.core) state

  step-one : (state : Ideal) → IsOneMore state (ideal_step layout nothing_loose state)
  step-one state = unless-one (word_refusal layout state.mode Fetch state.core.pc) state _ (executed-one (instruction_at state) state)

-- so many steps release at most so many bytes
pub released-few : (image : Image) (input : List ℕ) (steps : ℕ) → length (released_in image input steps) ≤ steps
released-few image input zero = omega arith
released-few image input (suc steps) =
    let count : ℕ → ℕ = λ n. length (released_in image input n) in
    let last : run (machine_step image) (steps + 1) (start image input) ≡ and_then (run (machine_step image) steps (start image input)) (run (machine_step image) 1) =
    run-+ (machine_step image) steps 1 (start image input) in
    let one : suc steps ≡ steps + 1 = omega arith in
    let more : length (released_in image input (steps + 1)) ≤ count steps + 1 =
    subst (λ (next : Next Ideal IdealEnd). length (state_of next).traffic.bytes ≤ count steps + 1) (sym last) (on (run (machine_step image) steps (start image input))) in
    let few : count steps ≤ steps = released-few image input steps in
    subst (λ n. length (released_in image input n) ≤ n) (sym one) (omega (arith, few, more))
  where
    once : (state : Ideal) (next : Next Ideal IdealEnd) → IsOneMore state next → IsOneMore state (and_then next (run (machine_step image) 0))
    once state (Goes s) one = one
    once state (Stops end s) one = one

    on : (next : Next Ideal IdealEnd) → length (state_of (and_then next (run (machine_step image) 1))).traffic.bytes ≤ length (state_of next).traffic.bytes + 1
    on (Goes state) = once state (machine_step image state) (step-one image.layout state)
    on (Stops end state) = omega arith
