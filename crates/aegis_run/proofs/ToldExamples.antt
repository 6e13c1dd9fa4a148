-- Worked answers of a source that releases `Hi`: what a run and a `mean` of it may send, and what they may not.
use Rattle.std.proofs.Common.{◌≡◌, ℕ, zero, suc, cond, List, [], ◌∷◌, Option, None, Some, refl, sym, ◌∙◌, ap, subst, arith}
use Rattle.std.specs.Prelude.{codes, take}
use Rattle.std.specs.Fmt.{digits}
use Rattle.std.specs.Str.{bytes_eq}
use Rattle.aegis_edge.specs.Folder.{Files}
use Rattle.aegis_words.specs.MeanWordRow.{MeanNames}
use Rattle.aegis_words.specs.RunWordRow.{RunNames}
use Rattle.c_evaluator.specs.declared.mean_end.MeanEnd.TheVariants as mean
use Rattle.c_grammar.specs.TokenPrograms.{AreProgram, HasProgram}
use Rattle.c_grammar.proofs.Worked.{hi_kinds, hi_program, hi}
use Rattle.c_resolver.specs.Resolving.{plain_program}
use Rattle.c_semantics.specs.Meaning.{Meaning, mean_alone}
use Rattle.c_semantics.specs.States as outcome
use Rattle.c_token.specs.PlainText.{plain_text, plain_tokens}
use Rattle.c_token.specs.TextTokens.{tokens_of}
use Rattle.c_token.proofs.PlainTexts.{reads_back}
use Rattle.aegis_run.specs.declared.ends.End.TheVariants.{Ended, WriteFault as ByteLost}
use Rattle.aegis_run.specs.declared.ends.TopEnd.TheVariants.{Run, Mean, WriteFault}
use Rattle.compiled_run.specs.RunMeaning.{meaning_with, turns_with}
use Rattle.aegis_run.specs.declared.ends.End.{End}
use Rattle.aegis_run.specs.declared.ends.End.TheVariants as run
use Rattle.aegis_run.specs.MeanCommand.{MeanCommand}
use Rattle.aegis_run.specs.RunCommand.{RunCommand, RunStarted}
use Rattle.aegis_run.specs.RunImage.{RunsImage}
use Rattle.aegis_run.specs.SourceMeaning.{SourceMeans}
use Rattle.aegis_run.proofs.SourceLemmas.{one_text}

-- ---- the source, and the folder that holds it

abbrev hi_text : List ℕ
hi_text = codes "int main ( void ) { release ( 72 ) ; release ( 105 ) ; return 0 ; }"

hi_spelled : plain_text (hi_kinds (codes "main")) ≡ hi_text
unfolding digits
hi_spelled = refl

has_hi : HasProgram hi_text (hi_program (codes "main"))
has_hi =
    let text = reads_back (hi_kinds (codes "main")) refl in
    record {
      tokens = plain_tokens 0 (hi_kinds (codes "main"));
      lexed = ap tokens_of (sym hi_spelled) ∙ text.0;
      read = subst (λ kinds. AreProgram kinds (hi_program (codes "main"))) (sym text.1) (hi (codes "main"));
    }

abbrev run_names : RunNames
run_names = record { source = 1 ∷ []; script = 2 ∷ []; input = 3 ∷ []; fuel = 0; key = []; nonce = [] }

abbrev mean_names : MeanNames
mean_names = record { source = 1 ∷ []; input = 3 ∷ []; turns = 0 }

-- the source has the name 1, and each other file is empty
abbrev hi_files : Files
hi_files name = cond (bytes_eq name (1 ∷ [])) (Some hi_text) (Some [])

abbrev nothing : Files
nothing name = None

-- ---- what it means

abbrev hi_bytes : List ℕ
hi_bytes = 72 ∷ 105 ∷ []

abbrev first_byte : List ℕ
first_byte = 72 ∷ []

abbrev second_byte : List ℕ
second_byte = 105 ∷ []

abbrev hi_meaning : ℕ → Meaning
hi_meaning turns = mean_alone (plain_program (hi_program (codes "main"))) [] turns

hi_means : (turns : ℕ) → SourceMeans (Some hi_files) (1 ∷ []) (3 ∷ []) turns (hi_meaning turns)
hi_means turns = record {
  source = hi_text;
  input = [];
  has_source = refl;
  has_input = refl;
  program = hi_program (codes "main");
  is_program = has_hi;
  meaning_is = refl;
}

one_some : (a b : List ℕ) → Some a ≡ Some b → b ≡ a
one_some a b same = cc

-- it means one thing
one_meaning : (turns : ℕ) (m : Meaning) → SourceMeans (Some hi_files) (1 ∷ []) (3 ∷ []) turns m → m ≡ hi_meaning turns
one_meaning turns m means =
    let source : means.source ≡ hi_text = one_some hi_text means.source means.has_source in
    let input : means.input ≡ [] = one_some [] means.input means.has_input in
    let P : List ℕ → Type 0 = λ text. HasProgram text means.program in
    let program : means.program ≡ hi_program (codes "main") = one_text hi_text means.program (hi_program (codes "main")) (subst P source means.is_program) has_hi in
    sym means.meaning_is ∙ ap (λ p. mean_alone (plain_program p) means.input turns) program
    ∙ ap (λ bytes. mean_alone (plain_program (hi_program (codes "main"))) bytes turns) input

-- what follows where it releases these bytes and ends
module _ (hi_says : (turns : ℕ) → ((hi_meaning turns).end ≡ outcome.Ended) × ((hi_meaning turns).traffic.bytes ≡ hi_bytes)) where
  one_end : (turns : ℕ) (m : Meaning) → SourceMeans (Some hi_files) (1 ∷ []) (3 ∷ []) turns m → m.end ≡ outcome.Ended
  one_end turns m means = ap (λ meaning. meaning.end) (one_meaning turns m means) ∙ (hi_says turns).0

  one_output : (turns : ℕ) (m : Meaning) → SourceMeans (Some hi_files) (1 ∷ []) (3 ∷ []) turns m → m.traffic.bytes ≡ hi_bytes
  one_output turns m means = ap (λ meaning. meaning.traffic.bytes) (one_meaning turns m means) ∙ (hi_says turns).1

  -- a folder without a source means nothing
  no_source : (turns : ℕ) (m : Meaning) → SourceMeans (Some nothing) (1 ∷ []) (3 ∷ []) turns m → ⊥
  no_source turns m means = let same : None ≡ Some means.source = means.has_source in cc

  -- ---- a run

  -- what the source of a run that was started means
  started : (files : Files) (end : End) (old new : Option (List ℕ)) (told : RunStarted (Some files) run_names end old new)
      → SourceMeans (Some files) (1 ∷ []) (3 ∷ []) (turns_with 0) (meaning_with told.program told.input 0)
  started files end old new told = record {
    source = told.source;
    input = told.input;
    has_source = told.has_source;
    has_input = told.has_input;
    program = told.program;
    is_program = told.is_program;
    meaning_is = refl;
  }

  -- not all bytes went out
  short_run : RunCommand (Some hi_files) run_names (Run Ended) (Some []) (Some first_byte) → ⊥
  short_run told =
      let means = started hi_files Ended (Some []) (Some first_byte) told in
      let sent : Some first_byte ≡ Some hi_bytes = told.sends.bytes ∙ ap Some (one_output (turns_with 0) (meaning_with told.program told.input 0) means) in cc

  -- the meaning ends otherwise
  other_run_end : RunCommand (Some hi_files) run_names (Run (run.Index 3)) (Some []) (Some hi_bytes) → ⊥
  other_run_end told =
      let means = started hi_files (run.Index 3) (Some []) (Some hi_bytes) told in
      let same : outcome.Index 3 ≡ outcome.Ended = sym told.sends.ended ∙ one_end (turns_with 0) (meaning_with told.program told.input 0) means in cc

  -- the answer tells another number of instructions than the fuel
  not_used_up : RunCommand (Some hi_files) run_names (Run (run.FuelOut 1)) (Some []) (Some []) → ⊥
  not_used_up told = absurd (omega (arith, told.sends.0))

  -- more instructions than the fuel
  past_fuel : RunsImage (Some hi_files) run_names (Run Ended) 5 (Some []) (Some hi_bytes) → ⊥
  past_fuel told = absurd (omega (arith, told.takes.1))

  -- the answer tells another number of instructions than the line, or fewer than the fuel were done
  other_count : RunsImage (Some hi_files) run_names (Run (run.FuelOut 1)) 0 (Some []) (Some []) → ⊥
  other_count told = absurd (omega (arith, told.takes.0))

  not_all : RunsImage (Some hi_files) run_names (Run (run.FuelOut 1)) 1 (Some []) (Some []) → ⊥
  not_all told = absurd (omega (arith, told.takes.1.all))

  abbrev first_of : Option (List ℕ) → ℕ
  first_of None = 0
  first_of (Some []) = 0
  first_of (Some (byte ∷ bytes)) = byte

  -- the second byte is no front
  no_front : (count : ℕ) (bytes : List ℕ) → bytes ≡ hi_bytes → Some second_byte ≡ Some (take count bytes) → ⊥
  no_front count bytes same sent = go count (sent ∙ ap (λ bytes. Some (take count bytes)) same)
    where
      go : (count : ℕ) → Some second_byte ≡ Some (take count hi_bytes) → ⊥
      go zero sent = let first : ◌≡◌ {A = ℕ} 105 0 = ap first_of sent in absurd (omega (arith, first))
      go (suc count) sent = let first : ◌≡◌ {A = ℕ} 105 72 = ap first_of sent in absurd (omega (arith, first))

  run_not_front : RunCommand (Some hi_files) run_names (Run ByteLost) (Some []) (Some second_byte) → ⊥
  run_not_front told =
      let means = started hi_files ByteLost (Some []) (Some second_byte) told in
      no_front told.sends.0 (meaning_with told.program told.input 0).traffic.bytes (one_output (turns_with 0) (meaning_with told.program told.input 0) means) told.sends.1

  -- no run starts without a source
  no_start : RunCommand (Some nothing) run_names (Run ByteLost) (Some []) (Some []) → ⊥
  no_start told = no_source (turns_with 0) (meaning_with told.program told.input 0) (started nothing ByteLost (Some []) (Some []) told)

  no_end : RunCommand (Some nothing) run_names (Run Ended) (Some []) (Some []) → ⊥
  no_end told = no_source (turns_with 0) (meaning_with told.program told.input 0) (started nothing Ended (Some []) (Some []) told)

  -- ---- a `mean`

  mean_told : MeanCommand (Some hi_files) mean_names (Mean mean.Ended) (Some (4 ∷ [])) (Some (4 ∷ hi_bytes))
  mean_told = record {
    meaning = hi_meaning 0;
    means = hi_means 0;
    ended = sym (hi_says 0).0;
    bytes = ap (λ bytes. Some (4 ∷ bytes)) (sym (hi_says 0).1);
  }

  -- another end
  other_end : MeanCommand (Some hi_files) mean_names (Mean mean.Turns) (Some []) (Some hi_bytes) → ⊥
  other_end told = let same : outcome.Turns ≡ outcome.Ended = told.ended ∙ one_end 0 told.meaning told.means in cc

  -- what was there before is gone
  lost_before : MeanCommand (Some hi_files) mean_names (Mean mean.Ended) (Some (4 ∷ [])) (Some hi_bytes) → ⊥
  lost_before told =
      let sent : Some hi_bytes ≡ Some (4 ∷ hi_bytes) = told.bytes ∙ ap (λ bytes. Some (4 ∷ bytes)) (one_output 0 told.meaning told.means) in cc

  mean_cut_short : MeanCommand (Some hi_files) mean_names WriteFault (Some []) (Some [])
  mean_cut_short = record {
    meaning = hi_meaning 0;
    means = hi_means 0;
    bytes = (0, refl);
  }

  mean_not_front : MeanCommand (Some hi_files) mean_names WriteFault (Some []) (Some second_byte) → ⊥
  mean_not_front told = no_front told.bytes.0 told.meaning.traffic.bytes (one_output 0 told.meaning told.means) told.bytes.1

  no_mean : MeanCommand (Some nothing) mean_names (Mean mean.Ended) (Some []) (Some []) → ⊥
  no_mean told = no_source 0 told.meaning told.means
