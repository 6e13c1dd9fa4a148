use Rattle.std.proofs.Common.{subst, refl, ℕ, List, length, drop, replicate, ◌++◌, sym}
use Rattle.aegis_num.specs.NameRoom.{IsPadded, room_of}
use Rattle.aegis_num.proofs.NameRooms.{filled}
use Rattle.std.proofs.lemmas.List.{drop-replicate}
use Rattle.aegis_num.proofs.name.Name.new.Goals as goal

pub invariant_of-result : goal.invariant_of-result
invariant_of-result c = subst (λ (t : List ℕ). IsPadded (room_of (t ++ drop (length c.args.text.now) (replicate 31 0)) (length c.args.text.now))) (sym c.copy_from_slice.ensures.after)
    (filled c.args.text.now _ (replicate 31 0) c.requires refl refl (drop-replicate (length c.args.text.now) 31 0))
