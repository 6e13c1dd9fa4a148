-- What the other calls of a secure memory keep of a sound trace.
use Rattle.std.proofs.Common.{◌≡◌, true, Result, List, [], ◌∷◌, ◌++◌, ℕ, refl, sym, subst, append-nil, append_assoc}
use Rattle.std.specs.List.{list_all}
use Rattle.std.proofs.lemmas.Bool.{and_parts}
use Rattle.regions.specs.declared.layout.Layout.{Layout}
use Rattle.off_chip.specs.declared.event.Event.{Event}
use Rattle.off_chip.specs.declared.event.Event.TheVariants.{Note}
use Rattle.off_chip.specs.declared.event.Mark.TheVariants as mark
use Rattle.off_chip.specs.Epochs.{LogEntry}
use Rattle.stamp_log.specs.declared.causes.LogCause.{LogCause}
use Rattle.stamp_log.specs.LogEvents.{RunsCheck}
use Rattle.stamp_log.specs.LogState.{LogLines}
use Rattle.untrusted_run.specs.Phases.{IsPhase}
use Rattle.untrusted_run.specs.declared.phase.UntrustedEnd.{UntrustedEnd}
use Rattle.untrusted_run.proofs.LawLemmas.{phases-open}
use Rattle.secure_memory.specs.OutsideEvents.{is_outside}
use Rattle.memory_trace.specs.SoundTraces.{IsSound}
use Rattle.memory_trace.proofs.SoundOthers.{others-law}
use Rattle.aegis_machine.proofs.SecureGuards.{opens-outside}

-- events at no place of a block keep it sound
pub outside-sound : (layout : Layout) (trace events : List Event) → list_all is_outside events ≡ true → IsSound layout trace → IsSound layout (trace ++ events)
outside-sound layout trace [] outside sound = subst (λ (t : List Event). IsSound layout t) (sym (append-nil trace)) sound
outside-sound layout trace (event ∷ events) outside sound =
    let parts = and_parts (is_outside event) (list_all is_outside events) outside in
    subst (λ (t : List Event). IsSound layout t) (append_assoc trace (event ∷ []) events)
    (outside-sound layout (trace ++ event ∷ []) events parts.1 (others-law.outside layout event trace (trace ++ event ∷ []) parts.0 refl sound))

-- so do those that were appended
pub appended-sound : (layout : Layout) (old new events : List Event) → new ≡ old ++ events → list_all is_outside events ≡ true → IsSound layout old → IsSound layout new
appended-sound layout old new events appended outside sound = subst (λ (t : List Event). IsSound layout t) (sym appended) (outside-sound layout old events outside sound)

-- so does a suspension
pub phase-sound : (layout : Layout) (start phase first second trace : List Event) (end : UntrustedEnd) → first ≡ start ++ Note mark.Suspend ∷ [] → second ≡ first ++ phase
    → trace ≡ second ++ Note mark.Resume ∷ [] → IsPhase phase end → IsSound layout start → IsSound layout trace
phase-sound layout start phase first second trace end one two three is sound =
    appended-sound layout second trace (Note mark.Resume ∷ []) three refl
    (appended-sound layout first second phase two (opens-outside phase (phases-open.events phase end is))
    (appended-sound layout start first (Note mark.Suspend ∷ []) one refl sound))

-- so does a check, whether it passes or not
pub check-sound : (layout after_layout : Layout) (value : LogEntry → ℕ) (blocks : ℕ) (result : Result (Unit {0}) LogCause) (before after : List Event) (old new : LogLines) → blocks ≡ layout.log
    → after_layout ≡ layout → RunsCheck value blocks result before after old new → IsSound layout before → IsSound after_layout after
check-sound layout after_layout value blocks result before after old new of_log same runs sound =
    let P : ℕ → Type 0 = λ n. RunsCheck value n result before after old new in
    subst (λ (l : Layout). IsSound l after) (sym same) (others-law.check layout value result before after old new (subst P of_log runs) sound)
