use Rattle.orbis_core.proofs.SoundnessLemmas.{load-unsound, logged-unsound, release-sound, store-unsound}
use Rattle.orbis_core.proofs.laws.sound_images.Goals as goal

pub returns : goal.returns
returns c = record { sound = release-sound; address = logged-unsound; load = load-unsound; store = store-unsound }
