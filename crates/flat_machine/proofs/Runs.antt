-- What follows for runs of images.
use Rattle.std.proofs.Common.{◌≡◌, ◌≢◌, ℕ, ◌+◌, ◌-◌, ◌^◌, ◌<◌, ◌≤◌, Bool, List, [], ◌++◌, refl, ◌∙◌, ap, subst, arith}
use Rattle.std.specs.List.{AllByRecursion}
use Rattle.execution.specs.Run.{Next, Goes, Stops, and_then, run}
use Rattle.execution.proofs.RunLemmas.{run-+, run-ended, ends-in-one}
use Rattle.regions.specs.declared.Layout.{Layout}
use Rattle.regions.specs.declared.Class.{Class}
use Rattle.regions.specs.LooseClasses.{nothing_loose, shared_and_logged_loose}
use Rattle.image_file.specs.declared.Image.{Image}
use Rattle.image_file.specs.ImageTable.{static_bytes}
use Rattle.orbis_core.specs.declared.Why.{Why}
use Rattle.orbis_core.specs.Ideal.{Ideal, IdealEnd, Refused, ideal_start, ideal_step}
use Rattle.orbis_core.specs.Loosening.{ComesLoosened}
use Rattle.orbis_core.proofs.IdealLemmas.{run-extends}
use Rattle.orbis_core.proofs.LooseningLemmas.{runs-loosen}
use Rattle.orbis_core.proofs.WholeLemmas.{states-whole}
use Rattle.flat_machine.specs.ImageRuns.{EndsAfter, GoesOn, IsSoundImage, machine_run, released_in}

-- the machine before its first step
abbrev pub start : Image → List ℕ → Ideal
start image input = ideal_start image.layout (static_bytes image) image.entry input []

-- and its step
abbrev pub machine_step : Image → Ideal → Next Ideal IdealEnd
machine_step image = ideal_step image.layout nothing_loose

-- ---- never refused

-- where the run with fewer loose words is refused, so is the one with more
refused-loosened : (layout : Layout) (classes : Class → Bool) (next other : Next Ideal IdealEnd) (why : Why) (at : Ideal)
    → ComesLoosened layout classes next other → next ≡ Stops (Refused why) at → (state : Ideal) × (other ≡ Stops (Refused why) state)
refused-loosened layout classes (Goes state) other why at comes is = absurd (grind (arith, is))
refused-loosened layout classes (Stops end state) (Goes final) why at comes is = absurd comes
refused-loosened layout classes (Stops end state) (Stops final last) why at comes is =
    let same : end ≡ Refused why = cc in (last, ap (λ e. Stops e last) (comes.0 ∙ same))

-- a sound image is not refused where nothing is loose
pub never-refused : (image : Image) (input : List ℕ) (steps : ℕ) (why : Why) (at : Ideal)
    → IsSoundImage image → AllByRecursion (λ byte. byte < 2 ^ 8) (static_bytes image) → machine_run image input steps ≢ Stops (Refused why) at
never-refused image input steps why at sound bytes is =
    let first : Ideal = start image input in
    let within = image.entry_inside in
    let loosened = runs-loosen image.layout nothing_loose shared_and_logged_loose (λ class h. absurd (cc)) refl steps first first.memory 0
    (states-whole image.layout nothing_loose (static_bytes image) image.entry input [] 0 bytes (omega arith)) refl (λ other h. refl) in
    let refused = refused-loosened image.layout shared_and_logged_loose _ _ why at loosened.1 is in
    sound.never_refused input loosened.0 steps why refused.0 refused.1

-- ---- one step more

pub next-run : (image : Image) (input : List ℕ) (steps : ℕ) (state : Ideal) → machine_run image input steps ≡ Goes state
    → machine_run image input (steps + 1) ≡ machine_step image state
next-run image input steps state is =
    run-+ (machine_step image) steps 1 (start image input) ∙ ap (λ next. and_then next (run (machine_step image) 1)) is ∙ once (machine_step image state)
  where
    once : (next : Next Ideal IdealEnd) → and_then next (run (machine_step image) 0) ≡ next
    once (Goes s) = refl
    once (Stops end s) = refl

-- a run that goes on has not ended
goes-not-stops : (next : Next Ideal IdealEnd) (state at : Ideal) (end : IdealEnd) → next ≡ Goes state → next ≡ Stops end at → ⊥
goes-not-stops next state at end e f = absurd (cc)

-- where a run has gone on after some steps, it had gone on after fewer
pub went-on : (image : Image) (input : List ℕ) (fewer steps : ℕ) → fewer ≤ steps → GoesOn image input steps → GoesOn image input fewer
went-on image input fewer steps below on =
    go (machine_run image input fewer) refl
  where
    go : (next : Next Ideal IdealEnd) → machine_run image input fewer ≡ next → GoesOn image input fewer
    go (Goes s) h = (s, h)
    go (Stops end at) h =
        let q : fewer + (steps - fewer) ≡ steps = omega (arith, below) in
        absurd (goes-not-stops (machine_run image input steps) on.0 at end on.1
        (subst (λ k. machine_run image input k ≡ Stops end at) q (run-ended (machine_step image) fewer (steps - fewer) (start image input) at end h)))

-- it ends in the step after which it has ended
pub ends-now : (image : Image) (input : List ℕ) (steps : ℕ) (end : IdealEnd) (at : Ideal)
    → GoesOn image input steps → machine_run image input (steps + 1) ≡ Stops end at → EndsAfter image input (steps + 1) end
ends-now image input steps end at on is =
    (at, record { ended = is; not_before = λ fewer below. went-on image input fewer steps (omega (arith, below)) on })

-- it has one end, in one number of steps
pub one-end : (image : Image) (input : List ℕ) (steps other : ℕ) (end final : IdealEnd)
    → EndsAfter image input steps end → EndsAfter image input other final → (steps ≡ other) × (end ≡ final)
one-end image input steps other end final one two =
    let all = ends-in-one (machine_step image) steps other (start image input) one.0 two.0 end final one.1 two.1 in (all.0, all.1)

-- what has ended within so many steps does not go on after them
pub not-both : (image : Image) (input : List ℕ) (steps fuel : ℕ) (end : IdealEnd) → steps ≤ fuel → EndsAfter image input steps end → GoesOn image input fuel → ⊥
not-both image input steps fuel end below ends on =
    let early = went-on image input steps fuel below on in
    goes-not-stops (machine_run image input steps) early.0 ends.0 end early.1 ends.1.ended

-- ---- bytes

-- more steps release more
pub released-more : (image : Image) (input : List ℕ) (steps more : ℕ)
    → (later : List ℕ) × (released_in image input (steps + more) ≡ released_in image input steps ++ later)
released-more image input steps more =
    let longer = run-extends image.layout nothing_loose steps more (start image input) in (longer.bytes.0, longer.bytes.1)
