use Rattle.made_program.proofs.SoundSources.{sound_sources}
use Rattle.made_program.proofs.laws.made_sources_are_sound.Goals as goal

pub returns : goal.returns
returns c = record { law = sound_sources }
