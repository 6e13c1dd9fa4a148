-- A made source is short and has no fault, its run never traps, and what the answers of a `make` put into a sink.
use Rattle.std.proofs.Common.{◌≡◌, ◌⊎◌, inl, inr, ℕ, zero, suc, ◌+◌, ◌*◌, ◌<◌, ◌≤◌, List, [], ◌++◌, length, length-append, Option, Some, refl, sym, ◌∙◌, ap, subst, arith}
use Rattle.std.specs.Prelude.{decimal}
use Rattle.std.specs.List.{flat_map, range_with_len}
use Rattle.std.proofs.lemmas.Fmt.{length-decimal-le}
use Rattle.aegis_edge.specs.Faults.{Rose}
use Rattle.aegis_edge.specs.NeverFails.{Room, new_room}
use Rattle.aegis_edge.specs.Sink.{Appends, AppendsFront}
use Rattle.aegis_edge.specs.Folder.{Files, Asking}
use Rattle.aegis_words.specs.MakeWordRow.{MakeNames}
use Rattle.aegis_words.specs.CommandTable as asks
use Rattle.c_grammar.specs.declared.Program.{Program}
use Rattle.c_resolver.specs.Resolving.{plain_program}
use Rattle.c_semantics.specs.Meaning.{mean_alone}
use Rattle.work_maker.specs.MadeSource.{call_line, function_line, made_source}
use Rattle.trap_free.specs.SafePrograms.{IsNoTrap}
use Rattle.made_program.specs.MadeSources.{IsSoundSource}
use Rattle.made_program.proofs.SoundSources.{sound_sources}
use Rattle.image_file.specs.declared.Image.{Image as ImageType}
use Rattle.compiler.specs.CompilerTheorem.{IsCompiled}
use Rattle.compiled_run.specs.RunMeaning.{RunsAsMeant, turns_with}
use Rattle.compiled_run.specs.RunSteps.{RunsInSteps}
use Rattle.flat_machine.specs.declared.ran.ImageEnd.{ImageEnd}
use Rattle.flat_machine.specs.declared.ran.ImageEnd.TheVariants as ends
use Rattle.flat_machine.specs.ImageRuns.{released_in}
use Rattle.flat_machine.proofs.Counts.{released-few}
use Rattle.aegis_run.specs.declared.make.TheConstants.{MADE_FUEL}
use Rattle.aegis_run.specs.declared.ends.End.{End}
use Rattle.aegis_run.specs.declared.ends.End.TheVariants as run
use Rattle.aegis_run.specs.declared.ends.TopEnd.{TopEnd}
use Rattle.aegis_run.specs.declared.ends.TopEnd.TheVariants.{Run, Mean, Done, Usage, TooLong, Token, Syntax, Typing, Plan, Image, NotYet, NoFile, ReadFault, WriteFault, OutOfMemory}
use Rattle.aegis_run.specs.Answers.{IsWriteFault, RisesWhere}
use Rattle.aegis_run.specs.Causes.{IsAnswered}
use Rattle.aegis_run.specs.FilesRead.{BuildCause, IsBuiltFrom, IsMadeFrom, SendsSummary, end_of_run}
use Rattle.aegis_run.specs.MakeCommand.{IsMadeEnd, IsOwnOfMake, MakeCommand, end_word, summary_line}
use Rattle.aegis_run.specs.SourceTexts.{IsBuildable}
use Rattle.aegis_run.proofs.CauseLemmas.{buildable_faultless}
use Rattle.aegis_run.proofs.CommandLemmas.{built_here}
use Rattle.aegis_run.proofs.ReadingLemmas.{answered, begun}
use Rattle.aegis_run.proofs.RunLemmas.{ran_sends}
use Rattle.aegis_run.proofs.SourceLemmas.{one_text}

-- ---- a made source is short

two_digits : (k : ℕ) → k ≤ 48 → length (decimal k) ≤ 2
two_digits k below = length-decimal-le 2 k (omega arith) (omega (arith, below)) (omega (arith, below))

function_short : (k : ℕ) → k < 48 → length (function_line k) ≤ 200
function_short k below =
    let this : length (decimal k) ≤ 2 = two_digits k (omega (arith, below)) in
    let next : length (decimal (k + 1)) ≤ 2 = two_digits (k + 1) (omega (arith, below)) in
    simp length-append (omega (arith, this, next))

call_short : (k : ℕ) → k < 48 → length (call_line k) ≤ 200
call_short k below =
    let this : length (decimal k) ≤ 2 = two_digits k (omega (arith, below)) in
    simp length-append (omega (arith, this))

pieces : (f : ℕ → List ℕ) (a n : ℕ) → ((k : ℕ) → k < a + n → length (f k) ≤ 200) → length (flat_map f (range_with_len a n)) ≤ n * 200
pieces f a zero short = omega arith
pieces f a (suc n) short =
    let first : length (f a) ≤ 200 = short a (omega arith) in
    let rest : length (flat_map f (range_with_len (a + 1) n)) ≤ n * 200 = pieces f (a + 1) n (λ k below. short k (omega (arith, below))) in
    let both : length (f a ++ flat_map f (range_with_len (a + 1) n)) ≡ length (f a) + length (flat_map f (range_with_len (a + 1) n)) = length-append (f a) (flat_map f (range_with_len (a + 1) n)) in
    omega (arith, both, first, rest)

made_short : (n : ℕ) → n ≤ 48 → length (made_source n) ≤ 262144
made_short n most =
    let functions : length (flat_map function_line (range_with_len 0 n)) ≤ n * 200 = pieces function_line 0 n (λ k below. function_short k (omega (arith, below, most))) in
    let calls : length (flat_map call_line (range_with_len 0 n)) ≤ n * 200 = pieces call_line 0 n (λ k below. call_short k (omega (arith, below, most))) in
    simp length-append (omega (arith, functions, calls, most))

-- and so is what the code has of it
pub short_enough : (n : ℕ) (text slice : List ℕ) → n ≤ 48 → slice ≡ text → text ≡ made_source n → length slice ≤ 262144
short_enough n text slice most same made = let P : List ℕ → Type 0 = λ text. length text ≤ 262144 in subst P (sym (same ∙ made)) (made_short n most)

-- ---- it has no fault

sound_buildable : (text : List ℕ) → IsSoundSource text → IsBuildable text
sound_buildable text sound = record { program = sound.program; is_source = record { is_text = sound.is_program; typed = sound.typed }; fits = sound.fits }

unbuilt : (text : List ℕ) → IsSoundSource text → (end : TopEnd) → BuildCause text end → end ≡ OutOfMemory
unbuilt text sound OutOfMemory cause = refl
unbuilt text sound Done cause = absurd (buildable_faultless text Done (sound_buildable text sound) cause)
unbuilt text sound (Run how) cause = absurd (buildable_faultless text (Run how) (sound_buildable text sound) cause)
unbuilt text sound (Mean how) cause = absurd (buildable_faultless text (Mean how) (sound_buildable text sound) cause)
unbuilt text sound Usage cause = absurd (buildable_faultless text Usage (sound_buildable text sound) cause)
unbuilt text sound (TooLong file) cause = absurd (buildable_faultless text (TooLong file) (sound_buildable text sound) cause)
unbuilt text sound (NoFile file) cause = absurd (buildable_faultless text (NoFile file) (sound_buildable text sound) cause)
unbuilt text sound (Token error) cause = absurd (buildable_faultless text (Token error) (sound_buildable text sound) cause)
unbuilt text sound (Syntax error) cause = absurd (buildable_faultless text (Syntax error) (sound_buildable text sound) cause)
unbuilt text sound (Typing error) cause = absurd (buildable_faultless text (Typing error) (sound_buildable text sound) cause)
unbuilt text sound (Plan error) cause = absurd (buildable_faultless text (Plan error) (sound_buildable text sound) cause)
unbuilt text sound (Image error) cause = absurd (buildable_faultless text (Image error) (sound_buildable text sound) cause)
unbuilt text sound (NotYet file) cause = absurd (buildable_faultless text (NotYet file) (sound_buildable text sound) cause)
unbuilt text sound ReadFault cause = absurd (buildable_faultless text ReadFault (sound_buildable text sound) cause)
unbuilt text sound WriteFault cause = absurd (buildable_faultless text WriteFault (sound_buildable text sound) cause)

-- the only answer of `build` where it has no image is want of memory
pub made_unbuilt : (n : ℕ) (text slice : List ℕ) (end : TopEnd) → 1 ≤ n → n ≤ 48 → slice ≡ text → text ≡ made_source n → BuildCause slice end → end ≡ OutOfMemory
made_unbuilt n text slice end least most same made cause =
    let P : List ℕ → Type 0 = λ text. BuildCause text end in unbuilt (made_source n) (sound_sources n least most) end (subst P (same ∙ made) cause)

-- ---- its run

-- a run with so much fuel releases no more bytes than the sink has room for
pub made_room : (image : ImageType) (input : List ℕ) (room : Room) → room ≡ new_room MADE_FUEL → length (released_in image input MADE_FUEL) ≤ room.left
made_room image input room fresh = let P : Room → Type 0 = λ room. length (released_in image input MADE_FUEL) ≤ room.left in subst P (sym fresh) (released-few image input MADE_FUEL)

-- its meaning never traps, and its sink counts no fault
made_end : (program : Program) (end : ImageEnd) (retired : ℕ) (old new : Option (List ℕ)) → ((turns : ℕ) → IsNoTrap (mean_alone (plain_program program) [] turns).end)
    → RunsAsMeant program [] MADE_FUEL end old new → (end ≡ ends.WriteFault → Rose 0 0) → IsMadeEnd (end_of_run end retired)
made_end program ends.Ended retired old new safe meant rose = tt
made_end program (ends.Index at) retired old new safe meant rose = subst IsNoTrap meant.ended (safe (turns_with MADE_FUEL))
made_end program (ends.Divide at) retired old new safe meant rose = subst IsNoTrap meant.ended (safe (turns_with MADE_FUEL))
made_end program ends.FuelOut retired old new safe meant rose = tt
made_end program ends.WriteFault retired old new safe meant rose = let risen : Rose 0 0 = rose refl in absurd (omega (arith, risen))

pub made_from : (number : ℕ) (text slice input : List ℕ) (image : ImageType) (end : ImageEnd) (told : End) (retired : ℕ) (before after : Room) → 1 ≤ number → number ≤ 48
    → slice ≡ text → text ≡ made_source number → IsBuiltFrom slice image → input ≡ [] → before ≡ new_room MADE_FUEL → told ≡ end_of_run end retired
    → ((program : Program) → IsCompiled program image → RunsAsMeant program input MADE_FUEL end (Some before.bytes) (Some after.bytes))
    → RunsInSteps image input MADE_FUEL end retired (Some before.bytes) (Some after.bytes) → (end ≡ ends.WriteFault → Rose 0 0) → IsMadeFrom number told after.bytes
made_from number text slice input image end told retired before after least most same made built none fresh says meant steps rose =
    let here : IsBuiltFrom (made_source number) image = built_here (made_source number) slice image (same ∙ made) built in
    let sound : IsSoundSource (made_source number) = sound_sources number least most in
    let one : sound.program ≡ here.program = one_text (made_source number) sound.program here.program sound.is_program here.is_source.is_text in
    let P : Room → Type 0 = λ before. RunsAsMeant here.program input MADE_FUEL end (Some before.bytes) (Some after.bytes) in
    let Q : List ℕ → Type 0 = λ input. RunsAsMeant here.program input MADE_FUEL end (Some []) (Some after.bytes) in
    let R : Program → Type 0 = λ program. (turns : ℕ) → IsNoTrap (mean_alone (plain_program program) [] turns).end in
    let S : End → Type 0 = λ told. IsMadeEnd told in
    let T : Room → Type 0 = λ before. RunsInSteps image input MADE_FUEL end retired (Some before.bytes) (Some after.bytes) in
    let says_so : RunsAsMeant here.program input MADE_FUEL end (Some []) (Some after.bytes) = subst P fresh (meant here.program here.compiled) in
    let sends = ran_sends here.program image [] input MADE_FUEL end told retired (Some []) (Some after.bytes) none says says_so (subst T fresh steps) in
    record {
      ran = record {
        program = here.program;
        is_program = here.is_source.is_text;
        image = image;
        compiled = here.compiled;
        retired = retired;
        sends = sends.0;
        takes = sends.1;
      };
      ends = subst S (sym says) (made_end here.program end retired (Some []) (Some after.bytes) (subst R one (sound.ends [])) (subst Q none says_so) rose);
    }

-- ---- its line

line_is : (number : ℕ) (end : End) (bytes slice word text line : List ℕ) → slice ≡ bytes → word ≡ end_word end → text ≡ line → line ≡ summary_line number slice word
    → text ≡ summary_line number bytes (end_word end)
line_is number end bytes slice word text line same told one is = one ∙ is ∙ ap (λ bytes. summary_line number bytes word) same ∙ ap (λ word. summary_line number bytes word) told

pub summary_sent : (number : ℕ) (end : End) (bytes slice word text line : List ℕ) (old new : Option (List ℕ)) → slice ≡ bytes → word ≡ end_word end → text ≡ line
    → line ≡ summary_line number slice word → Appends old new text → SendsSummary number end bytes (Run end) old new
summary_sent number end bytes slice word text line old new same told one is sent =
    let Q : List ℕ → Type 0 = λ piece. Appends old new piece in (refl, subst Q (line_is number end bytes slice word text line same told one is) sent)

pub summary_cut : (number : ℕ) (end : End) (bytes slice word text line : List ℕ) (old new : Option (List ℕ)) → slice ≡ bytes → word ≡ end_word end → text ≡ line
    → line ≡ summary_line number slice word → AppendsFront old new text → SendsSummary number end bytes WriteFault old new
summary_cut number end bytes slice word text line old new same told one is sent =
    let Q : List ℕ → Type 0 = λ piece. AppendsFront old new piece in subst Q (line_is number end bytes slice word text line same told one is) sent

-- ---- its answers

pub make_sent : (names : MakeNames) (end : End) (bytes : List ℕ) (answer : TopEnd) (old new : Option (List ℕ)) → IsMadeFrom names.number end bytes
    → SendsSummary names.number end bytes answer old new → MakeCommand names answer old new
make_sent names end bytes Done old new made sends = absurd sends
make_sent names end bytes (Run how) old new made sends =
    let P : End → Type 0 = λ told. MakeCommand names (Run told) old new in subst P (sym sends.0) (record { bytes = bytes; ran = made.ran; sent = sends.1 })
make_sent names end bytes (Mean how) old new made sends = absurd sends
make_sent names end bytes Usage old new made sends = absurd sends
make_sent names end bytes (TooLong file) old new made sends = absurd sends
make_sent names end bytes (NoFile file) old new made sends = absurd sends
make_sent names end bytes (Token error) old new made sends = absurd sends
make_sent names end bytes (Syntax error) old new made sends = absurd sends
make_sent names end bytes (Typing error) old new made sends = absurd sends
make_sent names end bytes (Plan error) old new made sends = absurd sends
make_sent names end bytes (Image error) old new made sends = absurd sends
make_sent names end bytes (NotYet file) old new made sends = absurd sends
make_sent names end bytes ReadFault old new made sends = absurd sends
make_sent names end bytes WriteFault old new made sends = record { end = end; ends = made.ends; bytes = bytes; ran = made.ran; sent = sends }
make_sent names end bytes OutOfMemory old new made sends = sends

pub make_caused : (number : ℕ) (end : End) (bytes : List ℕ) (answer : TopEnd) (old new : Option (List ℕ)) → IsMadeFrom number end bytes
    → SendsSummary number end bytes answer old new → IsOwnOfMake answer ⊎ (answer ≡ OutOfMemory)
make_caused number end bytes Done old new made sends = absurd sends
make_caused number end bytes (Run how) old new made sends = let P : End → Type 0 = λ told. IsMadeEnd told in inl (subst P (sym sends.0) made.ends)
make_caused number end bytes (Mean how) old new made sends = absurd sends
make_caused number end bytes Usage old new made sends = absurd sends
make_caused number end bytes (TooLong file) old new made sends = absurd sends
make_caused number end bytes (NoFile file) old new made sends = absurd sends
make_caused number end bytes (Token error) old new made sends = absurd sends
make_caused number end bytes (Syntax error) old new made sends = absurd sends
make_caused number end bytes (Typing error) old new made sends = absurd sends
make_caused number end bytes (Plan error) old new made sends = absurd sends
make_caused number end bytes (Image error) old new made sends = absurd sends
make_caused number end bytes (NotYet file) old new made sends = absurd sends
make_caused number end bytes ReadFault old new made sends = absurd sends
make_caused number end bytes WriteFault old new made sends = inl tt
make_caused number end bytes OutOfMemory old new made sends = inr refl

-- want of memory sends nothing
pub make_silent : (names : MakeNames) (end : TopEnd) (old : Option (List ℕ)) → end ≡ OutOfMemory → MakeCommand names end old old
make_silent names end old out = let P : TopEnd → Type 0 = λ end. MakeCommand names end old old in subst P (sym out) refl

pub make_steady : (end : TopEnd) (faults : ℕ) → end ≡ OutOfMemory → RisesWhere (IsWriteFault end) faults faults
make_steady end faults out = let P : TopEnd → Type 0 = λ end. RisesWhere (IsWriteFault end) faults faults in subst P (sym out) (record { rose = λ fault. absurd fault; steady = λ none. refl })

-- the end of a made run is no fault of a sink
pub run_steady : (end : End) (before now : ℕ) → IsMadeEnd end → now ≡ before → RisesWhere (IsWriteFault (Run end)) before now
run_steady run.Ended before now ends same = record { rose = λ fault. absurd fault; steady = λ none. same }
run_steady (run.FuelOut count) before now ends same = record { rose = λ fault. absurd fault; steady = λ none. same }
run_steady (run.Index at) before now ends same = absurd ends
run_steady (run.Divide at) before now ends same = absurd ends
run_steady run.WriteFault before now ends same = absurd ends

-- it reads no file
pub make_answered : (files : Option Files) (names : MakeNames) (faults : ℕ) (asked : Option (List Asking)) (end : TopEnd) → IsOwnOfMake end ⊎ (end ≡ OutOfMemory)
    → IsAnswered files (asks.Make names) faults faults asked asked end
make_answered files names faults asked end cause =
    answered files (asks.Make names) faults faults asked asked [] end (begun files (asks.Make names) faults asked) refl cause
