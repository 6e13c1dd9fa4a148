-- Runs of compiled sources do what the sources mean.
use Rattle.std.proofs.Common.{◌≡◌, ◌≢◌, ℕ, zero, suc, ◌+◌, ◌-◌, ◌≤◌, List, [], ◌∷◌, ◌++◌, length, take, Option, Some, None, Result, Ok, Err, arith, refl, sym, ◌∙◌, ap, subst, append_assoc, append-nil}
use Rattle.std.specs.Prelude.{IfOk}
use Rattle.std.proofs.lemmas.List.{take_all}
use Rattle.std.proofs.Math.Seq.{take-append_seam, take-append-add}
use Rattle.aegis_edge.specs.Sink.{Appends, AppendsFront}
use Rattle.execution.specs.Run.{Next, Goes, Stops, state_of}
use Rattle.execution.proofs.RunLemmas.{run-ended}
use Rattle.regions.specs.LooseClasses.{nothing_loose}
use Rattle.c_grammar.specs.declared.Program.{Program}
use Rattle.c_resolver.specs.Resolving.{plain_program}
use Rattle.c_semantics.specs.States as source
use Rattle.c_semantics.specs.Meaning.{mean_alone}
use Rattle.image_file.specs.declared.Image.{Image}
use Rattle.image_file.specs.ImageTable.{static_bytes}
use Rattle.orbis_core.specs.Ideal.{Ideal, IdealEnd, ideal_start, ideal_step}
use Rattle.orbis_core.specs.Ideal as machine
use Rattle.orbis_core.proofs.IdealLemmas.{run-extends}
use Rattle.aegis_num.specs.declared.OutOfMemory.{OutOfMemory}
use Rattle.flat_machine.specs.declared.ran.Ran.{Ran}
use Rattle.flat_machine.specs.declared.ran.ImageEnd.{ImageEnd}
use Rattle.flat_machine.specs.declared.ran.ImageEnd.TheVariants.{Ended, Index, Divide, FuelOut, WriteFault}
use Rattle.flat_machine.specs.ImageRuns.{EndsAfter, GoesOn, IsCutShort, machine_run, released_in}
use Rattle.flat_machine.specs.ImageRuns as flat
use Rattle.compiler.specs.CompilerTheorem.{IsCompiled, machine_end}
use Rattle.compiled_run.specs.RunMeaning.{Suffices, RunEnds, RunUsesUp, RunsAsMeant, meaning_with}
use Rattle.compiled_run.specs.RunSteps.{RunsInSteps}

-- ---- ends

-- where the machine has ended it stays with more steps
stays : (image : Image) (input : List ℕ) (fuel steps : ℕ) (end : IdealEnd) (at : Ideal) → machine_run image input steps ≡ Stops end at → steps ≤ fuel
    → machine_run image input fuel ≡ Stops end at
stays image input fuel steps end at stops within =
    let P : ℕ → Type 0 = λ k. machine_run image input k ≡ Stops end at in
    let all : steps + (fuel - steps) ≡ fuel = omega (arith, within) in
    subst P all (run-ended (ideal_step image.layout nothing_loose) steps (fuel - steps) (ideal_start image.layout (static_bytes image) image.entry input []) at end stops)

abbrev end_or : IdealEnd → Next Ideal IdealEnd → IdealEnd
end_or other (Goes state) = other
end_or other (Stops end state) = end

one_end : (next : Next Ideal IdealEnd) (end final : IdealEnd) (at other : Ideal) → next ≡ Stops end at → next ≡ Stops final other → end ≡ final
one_end next end final at other first second = ap (end_or end) (sym first ∙ second)

-- a state to go on from is no end
abbrev has_ended : Next Ideal IdealEnd → ℕ
has_ended (Goes state) = 0
has_ended (Stops end state) = 1

goes_on : (next : Next Ideal IdealEnd) (end : IdealEnd) (at state : Ideal) → next ≡ Goes state → next ≡ Stops end at → ⊥
goes_on next end at state first second = let both : ◌≡◌ {A = ℕ} 0 1 = ap has_ended (sym first ∙ second) in absurd (omega (arith, both))

-- the source ends as the machine does
ends_alike : (e : source.End) → machine_end e ≡ Some machine.Ended → e ≡ source.Ended
ends_alike source.Ended same = refl
ends_alike (source.Index at) same = absurd cc
ends_alike (source.Divide at) same = absurd cc
ends_alike source.Starved same = absurd cc
ends_alike source.Turns same = absurd cc

index_alike : (place : ℕ) (e : source.End) → machine_end e ≡ Some (machine.Index place) → e ≡ source.Index place
index_alike place source.Ended same = absurd cc
index_alike place (source.Index at) same = cc
index_alike place (source.Divide at) same = absurd cc
index_alike place source.Starved same = absurd cc
index_alike place source.Turns same = absurd cc

divide_alike : (place : ℕ) (e : source.End) → machine_end e ≡ Some (machine.Divide place) → e ≡ source.Divide place
divide_alike place source.Ended same = absurd cc
divide_alike place (source.Index at) same = absurd cc
divide_alike place (source.Divide at) same = cc
divide_alike place source.Starved same = absurd cc
divide_alike place source.Turns same = absurd cc

-- ---- bytes

appends_same : (old new : Option (List ℕ)) (bytes other : List ℕ) → bytes ≡ other → Appends old new bytes → Appends old new other
appends_same old new bytes other same appends = let P : List ℕ → Type 0 = λ bytes. Appends old new bytes in subst P same appends

-- what goes on with more bytes has the first ones at its front
front_of : (old new : Option (List ℕ)) (bytes more whole : List ℕ) → whole ≡ bytes ++ more → Appends old new bytes → AppendsFront old new whole
front_of None new bytes more whole same appends = appends
front_of (Some old) new bytes more whole same appends =
    (length bytes, appends ∙ ap (λ front. Some (old ++ front)) (sym (ap (take (length bytes)) same ∙ take-append_seam bytes more)))

-- bytes, and a front of one byte more
front_with_one : (old middle new : Option (List ℕ)) (bytes more whole : List ℕ) (byte : ℕ) → whole ≡ (bytes ++ byte ∷ []) ++ more → Appends old middle bytes
    → AppendsFront middle new (byte ∷ []) → AppendsFront old new whole
front_with_one None middle new bytes more whole byte same first second =
    let P : Option (List ℕ) → Type 0 = λ middle. AppendsFront middle new (byte ∷ []) in subst P first second
front_with_one (Some old) middle new bytes more whole byte same first second =
    let P : Option (List ℕ) → Type 0 = λ middle. AppendsFront middle new (byte ∷ []) in
    let last = subst P first second in
    go last.0 last.1
  where
    joined : whole ≡ bytes ++ (byte ∷ more)
    joined = same ∙ append_assoc bytes (byte ∷ []) more

    go : (count : ℕ) → new ≡ Some ((old ++ bytes) ++ take count (byte ∷ [])) → AppendsFront (Some old) new whole
    go zero sent =
        (length bytes, sent ∙ ap Some (append-nil (old ++ bytes)) ∙ ap (λ front. Some (old ++ front)) (sym (ap (take (length bytes)) joined ∙ take-append_seam bytes (byte ∷ more))))
    go (suc count) sent = (
      length bytes + 1,
      sent ∙ ap (λ last. Some ((old ++ bytes) ++ last)) (take_all (suc count) (byte ∷ []) (omega arith)) ∙ ap Some (append_assoc old bytes (byte ∷ []))
          ∙ ap (λ front. Some (old ++ front)) (sym (ap (take (length bytes + 1)) joined ∙ take-append-add bytes (byte ∷ more) 1)),
    )

-- ---- a run

-- with enough fuel the machine ends as the source does, within the fuel
record EndsWithin (program : Program) (image : Image) (input : List ℕ) (fuel : ℕ) : Type 0 where
  end : IdealEnd
  at : Ideal
  stops : machine_run image input fuel ≡ Stops end at
  ending : machine_end (mean_alone (plain_program program) input fuel).end ≡ Some end

ends_within : (program : Program) (image : Image) (input : List ℕ) (fuel : ℕ) → IsCompiled program image → Suffices program input fuel
    → EndsWithin program image input fuel
ends_within program image input fuel compiled enough =
    let forward = compiled.alone.forward input [] fuel enough.ends in
    let steps : forward.0 ≤ fuel = omega (arith, forward.5, enough.work) in
    record {
      end = forward.1;
      at = forward.2;
      stops = stays image input fuel forward.0 forward.1 forward.2 forward.3 steps;
      ending = forward.4.ending;
    }

run_ends : (program : Program) (image : Image) (input : List ℕ) (fuel : ℕ) (ending : source.End) (end : IdealEnd) (retired : ℕ) (old new : Option (List ℕ))
    → IsCompiled program image → ((e : source.End) → machine_end e ≡ Some end → e ≡ ending) → EndsAfter image input retired end → retired ≤ fuel
    → Appends old new (released_in image input retired) → RunEnds program input fuel ending old new
run_ends program image input fuel ending end retired old new compiled only ends within sent =
    let stops : machine_run image input fuel ≡ Stops end ends.0 = stays image input fuel retired end ends.0 ends.1.ended within in
    let meant = compiled.alone.ended input [] fuel end ends.0 stops in
    let bytes : released_in image input retired ≡ (meaning_with program input fuel).traffic.bytes =
    ap (λ (next : Next Ideal IdealEnd). (state_of next).traffic.bytes) ends.1.ended ∙ ap (λ t. t.bytes) meant.traffic in
    record {
      ended = only (meaning_with program input fuel).end meant.ending;
      bytes = appends_same old new (released_in image input retired) (meaning_with program input fuel).traffic.bytes bytes sent;
      whole = λ enough.
          let there = ends_within program image input fuel compiled enough in
          let P : IdealEnd → Type 0 = λ end. machine_end (mean_alone (plain_program program) input fuel).end ≡ Some end in
          only (mean_alone (plain_program program) input fuel).end
          (subst P (one_end (machine_run image input fuel) there.end end there.at ends.0 there.stops stops) there.ending);
    }

-- the bytes released with all the fuel begin those of the meaning
begins : (program : Program) (image : Image) (input : List ℕ) (fuel : ℕ) → IsCompiled program image
    → (more : List ℕ) × ((meaning_with program input fuel).traffic.bytes ≡ released_in image input fuel ++ more)
begins program image input fuel compiled = let front = compiled.alone.front input [] fuel in (front.bytes.0, front.bytes.1)

-- and those released with less begin those
grows : (image : Image) (input : List ℕ) (fuel retired : ℕ) → retired ≤ fuel → (more : List ℕ) × (released_in image input fuel ≡ released_in image input retired ++ more)
grows image input fuel retired within =
    let all : retired + (fuel - retired) ≡ fuel = omega (arith, within) in
    let P : ℕ → Type 0 = λ k. (more : List ℕ) × (released_in image input k ≡ released_in image input retired ++ more) in
    let longer = run-extends image.layout nothing_loose retired (fuel - retired) (ideal_start image.layout (static_bytes image) image.entry input []) in
    subst P all (longer.bytes.0, longer.bytes.1)

-- with all the fuel
sent_with_all : (image : Image) (input : List ℕ) (fuel retired : ℕ) (old new : Option (List ℕ)) → retired ≡ fuel → Appends old new (released_in image input retired)
    → Appends old new (released_in image input fuel)
sent_with_all image input fuel retired old new all sent = let P : ℕ → Type 0 = λ k. Appends old new (released_in image input k) in subst P all sent

run_uses_up : (program : Program) (image : Image) (input : List ℕ) (fuel : ℕ) (old new : Option (List ℕ)) → IsCompiled program image → GoesOn image input fuel
    → Appends old new (released_in image input fuel) → RunUsesUp program input fuel old new
run_uses_up program image input fuel old new compiled running sent =
    let rest = begins program image input fuel compiled in
    record {
      bytes = front_of old new (released_in image input fuel) rest.0 (meaning_with program input fuel).traffic.bytes rest.1 sent;
      lacking = λ enough.
          let there = ends_within program image input fuel compiled enough in
          goes_on (machine_run image input fuel) there.end there.at running.0 running.1 there.stops;
    }

run_is_cut : (program : Program) (image : Image) (input : List ℕ) (fuel retired : ℕ) (old new : Option (List ℕ)) → IsCompiled program image
    → IsCutShort image input fuel retired old new → AppendsFront old new (meaning_with program input fuel).traffic.bytes
run_is_cut program image input fuel retired old new compiled cut =
    let rest = begins program image input fuel compiled in
    let longer = grows image input fuel retired cut.within in
    let whole : (meaning_with program input fuel).traffic.bytes ≡ (released_in image input cut.before ++ cut.byte ∷ []) ++ (longer.0 ++ rest.0) =
    rest.1 ∙ ap (λ bytes. bytes ++ rest.0) longer.1 ∙ append_assoc (released_in image input retired) longer.0 rest.0
    ∙ ap (λ bytes. bytes ++ (longer.0 ++ rest.0)) cut.released in
    front_with_one old cut.middle new (released_in image input cut.before) (longer.0 ++ rest.0) (meaning_with program input fuel).traffic.bytes cut.byte whole cut.taken cut.front

-- what a run of the image comes to is what the machine does
runs_in_steps : (image : Image) (input : List ℕ) (fuel : ℕ) (end : ImageEnd) (retired : ℕ) (old new : Option (List ℕ))
    → ((e : IdealEnd) → flat.machine_end end ≡ Some e → EndsAfter image input retired e × (retired ≤ fuel))
    → (end ≡ FuelOut → GoesOn image input fuel × (retired ≡ fuel))
    → (end ≢ WriteFault → Appends old new (released_in image input retired))
    → (end ≡ WriteFault → IsCutShort image input fuel retired old new)
    → RunsInSteps image input fuel end retired old new
runs_in_steps image input fuel Ended retired old new ended out sent cut = ended machine.Ended refl
runs_in_steps image input fuel (Index at) retired old new ended out sent cut = ended (machine.Index at) refl
runs_in_steps image input fuel (Divide at) retired old new ended out sent cut = ended (machine.Divide at) refl
runs_in_steps image input fuel FuelOut retired old new ended out sent cut =
    let uses = out refl in
    record { all = uses.1; running = uses.0; released = sent_with_all image input fuel retired old new uses.1 (sent (λ same. cc)) }
runs_in_steps image input fuel WriteFault retired old new ended out sent cut = cut refl

-- and that is what the source means
runs_as_meant : (program : Program) (image : Image) (input : List ℕ) (fuel : ℕ) (end : ImageEnd) (retired : ℕ) (old new : Option (List ℕ)) → IsCompiled program image
    → (end ≢ WriteFault → Appends old new (released_in image input retired)) → RunsInSteps image input fuel end retired old new
    → RunsAsMeant program input fuel end old new
runs_as_meant program image input fuel Ended retired old new compiled sent steps =
    run_ends program image input fuel source.Ended machine.Ended retired old new compiled ends_alike steps.0 steps.1 (sent (λ same. cc))
runs_as_meant program image input fuel (Index at) retired old new compiled sent steps =
    run_ends program image input fuel (source.Index at) (machine.Index at) retired old new compiled (index_alike at) steps.0 steps.1 (sent (λ same. cc))
runs_as_meant program image input fuel (Divide at) retired old new compiled sent steps =
    run_ends program image input fuel (source.Divide at) (machine.Divide at) retired old new compiled (divide_alike at) steps.0 steps.1 (sent (λ same. cc))
runs_as_meant program image input fuel FuelOut retired old new compiled sent steps =
    run_uses_up program image input fuel old new compiled steps.running steps.released
runs_as_meant program image input fuel WriteFault retired old new compiled sent steps = run_is_cut program image input fuel retired old new compiled steps

-- where the run was made
pub ran_in_steps : (image : Image) (input : List ℕ) (fuel : ℕ) (found : Result Ran OutOfMemory) (old new : Option (List ℕ))
    → IfOk found (λ ran. (e : IdealEnd) → flat.machine_end ran.end ≡ Some e → EndsAfter image input ran.retired e × (ran.retired ≤ fuel))
    → IfOk found (λ ran. ran.end ≡ FuelOut → GoesOn image input fuel × (ran.retired ≡ fuel))
    → IfOk found (λ ran. ran.end ≢ WriteFault → Appends old new (released_in image input ran.retired))
    → IfOk found (λ ran. ran.end ≡ WriteFault → IsCutShort image input fuel ran.retired old new)
    → IfOk found (λ ran. RunsInSteps image input fuel ran.end ran.retired old new)
ran_in_steps image input fuel (Err error) old new ended out sent cut = tt
ran_in_steps image input fuel (Ok ran) old new ended out sent cut = runs_in_steps image input fuel ran.end ran.retired old new ended out sent cut

pub ran_as_meant : (image : Image) (input : List ℕ) (fuel : ℕ) (found : Result Ran OutOfMemory) (old new : Option (List ℕ))
    → IfOk found (λ ran. (e : IdealEnd) → flat.machine_end ran.end ≡ Some e → EndsAfter image input ran.retired e × (ran.retired ≤ fuel))
    → IfOk found (λ ran. ran.end ≡ FuelOut → GoesOn image input fuel × (ran.retired ≡ fuel))
    → IfOk found (λ ran. ran.end ≢ WriteFault → Appends old new (released_in image input ran.retired))
    → IfOk found (λ ran. ran.end ≡ WriteFault → IsCutShort image input fuel ran.retired old new)
    → IfOk found (λ ran. (program : Program) → IsCompiled program image → RunsAsMeant program input fuel ran.end old new)
ran_as_meant image input fuel (Err error) old new ended out sent cut = tt
ran_as_meant image input fuel (Ok ran) old new ended out sent cut = λ program compiled.
    runs_as_meant program image input fuel ran.end ran.retired old new compiled sent (runs_in_steps image input fuel ran.end ran.retired old new ended out sent cut)
