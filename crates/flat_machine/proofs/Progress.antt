-- A run over flat memory, step by step as the ideal machine makes it.
use Rattle.std.proofs.Common.{◌≡◌, ℕ, ◌+◌, ◌%◌, ◌⊎◌, ◌^◌, ◌<◌, Bool, true, false, List, [], ◌∷◌, ◌++◌, get_or, Option, Some, None, refl, sym, ◌∙◌, ap, subst, inl, inr, append-nil}
use Rattle.std.specs.Prelude.{IsTrue, if◌then◌else◌}
use Rattle.std.specs.List.{AllByRecursion}
use Rattle.execution.specs.Run.{Next, Goes, Stops, state_of}
use Rattle.execution.specs.Traffic.{Traffic, after_check, after_input, after_release, after_suspension, after_write}
use Rattle.regions.specs.declared.Layout.{Layout}
use Rattle.regions.specs.declared.Mode.{Mode}
use Rattle.regions.specs.declared.Mode.TheVariants.{Te, Ptr}
use Rattle.regions.specs.LooseClasses.{nothing_loose, shared_loose}
use Rattle.regions.specs.Modes.{is_secure}
use Rattle.image_file.specs.declared.Image.{Image}
use Rattle.image_file.specs.ImageTable.{static_bytes}
use Rattle.orbis_core.specs.declared.Effect.{Effect}
use Rattle.orbis_core.specs.declared.Effect.TheVariants.{Proceed, Write, Compare, Jump, Link, LoadWord, LoadByte, StoreWord, StoreByte, DivideByZero, Secure}
use Rattle.orbis_core.specs.declared.Port.{Port}
use Rattle.orbis_core.specs.declared.Stop.TheVariants as stop
use Rattle.orbis_core.specs.declared.Why.{Why}
use Rattle.orbis_core.specs.declared.Why.TheVariants as why
use Rattle.orbis_core.specs.declared.StepEnd.{StepEnd}
use Rattle.orbis_core.specs.declared.StepEnd.TheVariants.{Next as Done, Input, Released, Check, Suspend, Resume, Enter, Private, Exit, Index, Divide, Stopped}
use Rattle.orbis_core.specs.FlatIsIdeal.{Follows, IsKeptOut, IsTied, noted}
use Rattle.orbis_core.specs.FlatMemory.{Flat, flat_accesses, flat_of}
use Rattle.orbis_core.specs.Ideal.{Ideal, IdealEnd, Refused, effect_at, entry_address, ideal_step, is_among}
use Rattle.orbis_core.specs.Ideal as machine
use Rattle.orbis_core.specs.OwnMemory.{HasInput}
use Rattle.orbis_core.specs.Processor.{Processor, reset_core}
use Rattle.orbis_core.specs.Rows.{IsNoStop, Machine, Steps}
use Rattle.orbis_core.proofs.FlatIdealLemmas.{flat-ideal, flat-start}
use Rattle.flat_machine.specs.ImageRuns.{EndsAfter, IsSoundImage, machine_run, released_in}
use Rattle.flat_machine.proofs.Bytes.{length-static_bytes}
use Rattle.flat_machine.proofs.Layouts.{step-layout}
use Rattle.flat_machine.proofs.Runs.{ends-now, machine_step, never-refused, next-run}

-- the processor over flat memory is where the ideal machine is after so many steps
pub record IsAt (image : Image) (input : List ℕ) (steps : ℕ) (now : Machine Flat) : Type 0 where
  pub state : Ideal
  pub reached : machine_run image input steps ≡ Goes state
  pub tied : IsTied now state
  pub secure : IsTrue (is_secure state.mode)
  pub layout : now.memory.layout ≡ image.layout

-- it goes on, after this was released
pub record IsOn (image : Image) (input : List ℕ) (steps : ℕ) (now : Machine Flat) (sent : List ℕ) : Type 0 where
  pub at : IsAt image input (steps + 1) now
  pub released : released_in image input (steps + 1) ≡ released_in image input steps ++ sent

-- it has ended, and released nothing by this
pub record IsOver (image : Image) (input : List ℕ) (steps : ℕ) (end : IdealEnd) : Type 0 where
  pub ends : EndsAfter image input (steps + 1) end
  pub released : released_in image input (steps + 1) ≡ released_in image input steps

-- what the next step comes to, by how it ends
abbrev pub Comes : StepEnd → Image → List ℕ → ℕ → Machine Flat → Type 0
Comes (Released byte) image input steps new = IsOn image input steps new (byte % 2 ^ 8 ∷ [])
Comes Exit image input steps new = IsOver image input steps machine.Ended
Comes (Index place) image input steps new = IsOver image input steps (machine.Index place)
Comes (Divide place) image input steps new = IsOver image input steps (machine.Divide place)
Comes (Stopped reason) image input steps new = ⊥
Comes ended image input steps new = IsOn image input steps new []

-- ---- at the start

pub starts : (image : Image) (port : Port) → port.next ≡ 0 → ((k : ℕ) → get_or port.input.now k 0 < 2 ^ 8)
    → IsAt image port.input.now 0 (record { core = reset_core (entry_address image.layout image.entry); memory = flat_of image.layout (static_bytes image); port = port })
starts image port first bytes =
    let begins = flat-start image.layout (static_bytes image) image.entry port [] (length-static_bytes image) first bytes in
    record { state = _; reached = refl; tied = begins.tied; secure = refl; layout = refl }

pub starts-at : (image : Image) (core : Processor) (memory : Flat) (port : Port) → core ≡ reset_core (entry_address image.layout image.entry)
    → memory ≡ flat_of image.layout (static_bytes image) → port.next ≡ 0 → ((k : ℕ) → get_or port.input.now k 0 < 2 ^ 8)
    → IsAt image port.input.now 0 (record { core = core; memory = memory; port = port })
starts-at image core memory port core_is memory_is first bytes =
    let begin : Flat = flat_of image.layout (static_bytes image) in
    subst (λ (m : Flat). IsAt image port.input.now 0 (record { core = core; memory = m; port = port })) (sym memory_is)
    (subst (λ (c : Processor). IsAt image port.input.now 0 (record { core = c; memory = begin; port = port })) (sym core_is) (starts image port first bytes))

-- ---- a step

-- what a step notes is no byte
noted-bytes : (layout : Layout) (asked : Option Effect) (traffic : Traffic ℕ) → (noted layout asked traffic).bytes ≡ traffic.bytes
noted-bytes layout None traffic = refl
noted-bytes layout (Some (StoreWord at word)) traffic = elim (is_among shared_loose layout at) as (λ (b : Bool). (if b then after_write at word traffic else traffic).bytes ≡ traffic.bytes) [ true ↦ refl | false ↦ refl ]
noted-bytes layout (Some (StoreByte at word)) traffic = elim (is_among shared_loose layout at) as (λ (b : Bool). (if b then after_write at word traffic else traffic).bytes ≡ traffic.bytes) [ true ↦ refl | false ↦ refl ]
noted-bytes layout (Some (LoadWord d at)) traffic = refl
noted-bytes layout (Some (LoadByte d at)) traffic = refl
noted-bytes layout (Some DivideByZero) traffic = refl
noted-bytes layout (Some (Secure f)) traffic = refl
noted-bytes layout (Some Proceed) traffic = refl
noted-bytes layout (Some (Write d value)) traffic = refl
noted-bytes layout (Some (Compare flag)) traffic = refl
noted-bytes layout (Some (Jump to)) traffic = refl
noted-bytes layout (Some (Link to)) traffic = refl

module _ (image : Image) (input : List ℕ) (steps : ℕ) (old new : Machine Flat) (sound : IsSoundImage image)
    (bytes : AllByRecursion (λ byte. byte < 2 ^ 8) (static_bytes image)) (is_at : IsAt image input steps old) where
  abbrev state : Ideal
  state = is_at.state

  -- the machine is not refused
  not-refused : (reason : Why) (at : Ideal) → machine_step image state ≡ Stops (Refused reason) at → ⊥
  not-refused reason at is =
      never-refused image input (steps + 1) reason at sound bytes (next-run image input steps state is_at.reached ∙ is)

  -- the mode permits what the step did
  permitted : (allowed : Bool) (next to : Next Ideal IdealEnd) → next ≡ machine_step image state → next ≡ (if allowed then to else Stops (Refused why.Mode) state) → next ≡ to
  permitted true next to is answer = answer
  permitted false next to is answer = absurd (not-refused why.Mode state (sym is ∙ answer))

  released-now : released_in image input steps ≡ state.traffic.bytes
  released-now = ap (λ (next : Next Ideal IdealEnd). (state_of next).traffic.bytes) is_at.reached

  -- the step goes on at a state of the ideal machine
  goes-on : (on : Ideal) (sent : List ℕ) → machine_step image state ≡ Goes on → IsTied new on → IsTrue (is_secure on.mode) → new.memory.layout ≡ old.memory.layout
      → on.traffic.bytes ≡ state.traffic.bytes ++ sent → IsOn image input steps new sent
  goes-on on sent is tied secure layout more =
      let reached = next-run image input steps state is_at.reached ∙ is in
      record {
        at = record { state = on; reached = reached; tied = tied; secure = secure; layout = layout ∙ is_at.layout };
        released = ap (λ (next : Next Ideal IdealEnd). (state_of next).traffic.bytes) reached ∙ more ∙ ap (λ l. l ++ sent) (sym released-now);
      }

  -- or it ends there
  ends : (on : Ideal) (end : IdealEnd) → machine_step image state ≡ Stops end on → on.traffic.bytes ≡ state.traffic.bytes → IsOver image input steps end
  ends on end is same =
      let reached = next-run image input steps state is_at.reached ∙ is in
      record {
        ends = ends-now image input steps end on (state, is_at.reached) reached;
        released = ap (λ (next : Next Ideal IdealEnd). (state_of next).traffic.bytes) reached ∙ same ∙ sym released-now;
      }

  module _ (ended : StepEnd) (follows : Follows old new ended state (machine_step image state)) (layout : new.memory.layout ≡ old.memory.layout) where
    abbrev after : Ideal
    after = follows.after

    -- no byte went out but by a release
    kept : IsNoStop ended → after.traffic.bytes ≡ state.traffic.bytes
    kept goes = ap (λ (t : Traffic ℕ). t.bytes) (follows.traffic goes) ∙ noted-bytes old.memory.layout (effect_at state) state.traffic

    secure-still : IsTrue (is_secure after.mode)
    secure-still = subst (λ (m : Mode). IsTrue (is_secure m)) (sym follows.mode) is_at.secure

    -- it goes on with this mode and this traffic, having released no more
    plainly : (mode : Mode) (traffic : Traffic ℕ) → IsNoStop ended → machine_step image state ≡ Goes (record after { mode = mode; traffic = traffic })
        → IsTrue (is_secure mode) → HasInput new.port traffic → traffic.bytes ≡ after.traffic.bytes → IsOn image input steps new []
    plainly mode traffic goes is secure has same =
        goes-on (record after { mode = mode; traffic = traffic }) [] is (record { core = follows.core; words = follows.words; input = has }) secure layout
        (same ∙ kept goes ∙ sym (append-nil state.traffic.bytes))

  comes : (ended : StepEnd) → Follows old new ended state (machine_step image state) → new.memory.layout ≡ old.memory.layout → Comes ended image input steps new
  comes Done f layout = plainly Done f layout f.after.mode f.after.traffic (λ s h. cc) f.answers (secure-still Done f layout) f.input refl
  comes Input f layout =
      plainly Input f layout f.after.mode (after_input f.after.traffic) (λ s h. cc) (permitted _ _ _ refl f.answers) (secure-still Input f layout) f.input refl
  comes (Released byte) f layout =
      let on : Ideal = record f.after { traffic = after_release byte f.after.traffic } in
      goes-on on (byte % 2 ^ 8 ∷ []) (permitted _ _ _ refl f.answers)
      (record { core = f.core; words = f.words; input = record { within = f.input.within; bytes = f.input.bytes; rest = f.input.rest } })
      (secure-still (Released byte) f layout) layout (ap (λ l. l ++ (byte % 2 ^ 8 ∷ [])) (kept (Released byte) f layout (λ s h. cc)))
  comes Check f layout =
      plainly Check f layout f.after.mode (after_check f.after.traffic) (λ s h. cc) (permitted _ _ _ refl f.answers) (secure-still Check f layout)
      (record { within = f.input.within; bytes = f.input.bytes; rest = f.input.rest }) refl
  comes Suspend f layout =
      plainly Suspend f layout f.after.mode (after_suspension f.after.traffic) (λ s h. cc) (permitted _ _ _ refl f.answers) (secure-still Suspend f layout)
      (record { within = f.input.within; bytes = f.input.bytes; rest = f.input.rest }) refl
  comes Resume f layout = plainly Resume f layout f.after.mode f.after.traffic (λ s h. cc) (permitted _ _ _ refl f.answers) (secure-still Resume f layout) f.input refl
  comes Enter f layout = plainly Enter f layout Te f.after.traffic (λ s h. cc) (permitted _ _ _ refl f.answers) refl f.input refl
  comes (Private true) f layout = plainly (Private true) f layout Ptr f.after.traffic (λ s h. cc) (permitted _ _ _ refl f.answers) refl f.input refl
  comes (Private false) f layout = plainly (Private false) f layout Te f.after.traffic (λ s h. cc) (permitted _ _ _ refl f.answers) refl f.input refl
  comes Exit f layout = ends f.after machine.Ended (permitted _ _ _ refl f.answers) (kept Exit f layout (λ s h. cc))
  comes (Index place) f layout = ends f.after (machine.Index place) (permitted _ _ _ refl f.answers) (kept (Index place) f layout (λ s h. cc))
  comes (Divide place) f layout = ends f.after (machine.Divide place) (permitted _ _ _ refl f.answers) (kept (Divide place) f layout (λ s h. cc))
  comes (Stopped (stop.Refused reason)) f layout = not-refused reason state f.answers
  comes (Stopped (stop.Tree event)) f layout = f.answers
  comes (Stopped (stop.Log event)) f layout = f.answers

  -- a step over flat memory comes to where the ideal machine does
  pub step-comes : (ended : StepEnd) → Steps flat_accesses old ended new → Comes ended image input steps new
  step-comes ended step =
      let on : Follows old new ended state (machine_step image state) ⊎ IsKeptOut image.layout state (machine_step image state) =
      subst (λ (l : Layout). Follows old new ended state (ideal_step l nothing_loose state) ⊎ IsKeptOut l state (ideal_step l nothing_loose state)) is_at.layout
      (flat-ideal old new ended state is_at.secure is_at.tied step) in
      elim on [
        | inl follows ↦ comes ended follows (step-layout old new ended step)
        | inr out ↦ absurd (not-refused why.Rights state out.refused)
      ]

-- a step that releases nothing, does not end and is not stopped
pub comes-on : (image : Image) (input : List ℕ) (steps : ℕ) (new : Machine Flat) (ended : StepEnd) → Comes ended image input steps new
    → ((byte : ℕ) → ended ≡ Released byte → ⊥) → (ended ≡ Exit → ⊥) → ((at : ℕ) → ended ≡ Index at → ⊥) → ((at : ℕ) → ended ≡ Divide at → ⊥)
    → IsOn image input steps new []
comes-on image input steps new Done comes released exit index divide = comes
comes-on image input steps new Input comes released exit index divide = comes
comes-on image input steps new (Released byte) comes released exit index divide = absurd (released byte refl)
comes-on image input steps new Check comes released exit index divide = comes
comes-on image input steps new Suspend comes released exit index divide = comes
comes-on image input steps new Resume comes released exit index divide = comes
comes-on image input steps new Enter comes released exit index divide = comes
comes-on image input steps new (Private on) comes released exit index divide = comes
comes-on image input steps new Exit comes released exit index divide = absurd (exit refl)
comes-on image input steps new (Index at) comes released exit index divide = absurd (index at refl)
comes-on image input steps new (Divide at) comes released exit index divide = absurd (divide at refl)
comes-on image input steps new (Stopped reason) comes released exit index divide = absurd comes
