-- Each made source is sound.
use Rattle.std.proofs.Common.{[]}
use Rattle.regions.specs.LooseClasses.{nothing_loose}
use Rattle.c_resolver.specs.Resolving.{plain_program}
use Rattle.c_semantics.specs.Meaning.{noting_all}
use Rattle.trap_free.proofs.KeptRuns.{safe_programs}
use Rattle.made_program.specs.MadeSources.{MadeSourcesAreSound}
use Rattle.made_program.proofs.MadeItems.{made_program}
use Rattle.made_program.proofs.MadeTokens.{made_has_program}
use Rattle.made_program.proofs.MadeTyped.{made_typed}
use Rattle.made_program.proofs.MadeSafe.{made_safe}
use Rattle.made_program.proofs.MadeFits.{made_fits}

pub sound_sources : MadeSourcesAreSound
sound_sources number least most = record {
  program = made_program number;
  is_program = made_has_program number most;
  typed = made_typed number most;
  fits = made_fits number most;
  ends = λ input turns. safe_programs (noting_all nothing_loose) (plain_program (made_program number)) input [] turns (made_safe number most);
}
