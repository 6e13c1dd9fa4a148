-- Worked examples of the definitions, each of which computes.
use Rattle.std.proofs.Common.{◌≡◌, true, false, List, [], ◌∷◌, replicate, None, Some, lit≤, refl}
use Rattle.aegis_num.specs.declared.storage.Block.{Block}
use Rattle.aegis_num.specs.declared.storage.Place.TheVariants.{Tree, Log}
use Rattle.regions.specs.declared.layout.Layout.{Layout}
use Rattle.regions.specs.Tree.{height_of}
use Rattle.adversary_script.specs.declared.change.When.TheVariants.{Start, At, Suspend}
use Rattle.adversary_script.specs.declared.change.Target.TheVariants as target
use Rattle.adversary_script.specs.declared.change.What.TheVariants.{Open}
use Rattle.adversary_script.specs.declared.change.Change.{Change}
use Rattle.off_chip.specs.declared.event.Event.TheVariants.{WordRead, WordWrite, Note}
use Rattle.off_chip.specs.declared.event.Mark.TheVariants as mark
use Rattle.off_chip.specs.declared.event.Who.TheVariants.{Secure, Untrusted}
use Rattle.off_chip.specs.OffChipBytes.{bytes_put, stored}
use Rattle.scripted_dram.specs.ChangedStates.{stored_in, kept_in, target_place, put_in, put_over, start_of_target}
use Rattle.off_chip.specs.Boundaries.{is_suspend}
use Rattle.scripted_dram.specs.ScriptMemory.{Moment, IsScripted, is_before_event, is_at_start, is_at_suspension}

-- an `at` change is done before the event of its number alone
before_event : (is_before_event 3 (At 2) ≡ false) × (is_before_event 3 (At 3) ≡ true) × (is_before_event 3 (At 4) ≡ false) × (is_before_event 0 (At 0) ≡ true)
before_event = (refl, refl, refl, refl)

no_event : (is_before_event 0 Start ≡ false) × (is_before_event 0 (Suspend 0) ≡ false) × (is_at_start Start ≡ true) × (is_at_start (At 0) ≡ false)
no_event = (refl, refl, refl, refl)

-- suspensions are counted from 0
at_suspension : (is_at_suspension 0 (Suspend 0) ≡ true) × (is_at_suspension 0 (Suspend 1) ≡ false) × (is_at_suspension 1 (Suspend 1) ≡ true) × (is_at_suspension 0 (At 0) ≡ false)
at_suspension = (refl, refl, refl, refl)

suspensions : (is_suspend (Note mark.Suspend) ≡ true) × (is_suspend (Note mark.Resume) ≡ false) × (is_suspend (WordRead Secure 0 0) ≡ false)
suspensions = (refl, refl, refl)

-- one verified block, one code block and two log blocks: the tree is one level high, and its block 3 is unused
abbrev small : Layout
small = record {
  verified = 1;
  private = 0;
  constants = 0;
  code = 1;
  log = 2;
  shared = 0;
  data_fits = lit≤ tt;
  log_fits = lit≤ tt;
  shared_fits = lit≤ tt;
}

places : (target_place small (target.Data 0) ≡ Some (Tree 1)) × (target_place small (target.Data 1) ≡ Some (Tree 2)) × (target_place small (target.Data 2) ≡ None) × (target_place small (target.Text 0) ≡ Some (Tree 2))
unfolding height_of
places = (refl, refl, refl, refl)

more_places : (target_place small (target.Text 1) ≡ None) × (target_place small (target.Node 3) ≡ Some (Tree 3)) × (target_place small (target.Node 4) ≡ None) × (target_place small (target.Log 1) ≡ Some (Log 1)) × (target_place small (target.Log 2) ≡ None)
unfolding height_of
more_places = (refl, refl, refl, refl, refl)

-- the open bytes come first, then four blocks of the tree, then those of the log
starts : (start_of_target small (target.Node 0) ≡ Some 65536) × (start_of_target small (target.Data 0) ≡ Some 65608) × (start_of_target small (target.Log 0) ≡ Some 65824) × (start_of_target small (target.Log 1) ≡ Some 65896)
unfolding height_of
starts = (refl, refl, refl, refl)

-- the stamp stands after the payload, its greatest byte first
stored_block : (block : Block) → block.payload ≡ 7 ∷ [] → block.stamp ≡ 258 → stored (record { payload = 7 ∷ []; stamp = 258 }) ≡ 7 ∷ 0 ∷ 0 ∷ 0 ∷ 0 ∷ 0 ∷ 0 ∷ 1 ∷ 2 ∷ []
stored_block block payload stamp = refl

-- bytes, blocks and slots
puts : (bytes_put 1 (7 ∷ 8 ∷ []) (0 ∷ 0 ∷ 0 ∷ 0 ∷ []) ≡ 0 ∷ 7 ∷ 8 ∷ 0 ∷ []) × (put_in (Some 1) 1 (7 ∷ []) (0 ∷ 0 ∷ 0 ∷ 0 ∷ []) ≡ 0 ∷ 0 ∷ 7 ∷ 0 ∷ []) × (put_in None 1 (7 ∷ []) (0 ∷ 0 ∷ []) ≡ 0 ∷ 0 ∷ [])
puts = (refl, refl, refl)

overs : (put_over (Some 1) (Some (7 ∷ 8 ∷ [])) (0 ∷ 0 ∷ 0 ∷ 0 ∷ []) ≡ 0 ∷ 7 ∷ 8 ∷ 0 ∷ []) × (put_over (Some 1) None (0 ∷ 0 ∷ []) ≡ 0 ∷ 0 ∷ []) × (put_over None (Some (7 ∷ [])) (0 ∷ 0 ∷ []) ≡ 0 ∷ 0 ∷ [])
overs = (refl, refl, refl)

slots : (kept_in 1 (Some (7 ∷ [])) (None ∷ None ∷ []) ≡ None ∷ Some (7 ∷ []) ∷ []) × (kept_in 1 None (None ∷ Some (8 ∷ []) ∷ []) ≡ None ∷ Some (8 ∷ []) ∷ []) × (stored_in None (1 ∷ []) ≡ None)
slots = (refl, refl, refl)

-- a beginning with eight zeros
abbrev zeros : Moment
zeros = record { state = record { memory = replicate 8 0; slots = [] }; events = 0; suspensions = 0 }

-- a change before event 1: a read before it gives zeros, and one after it the bytes of the change
abbrev at_one : List Change
at_one = record { when = At 1; what = Open 0 (0xaa ∷ 0xbb ∷ 0xcc ∷ 0xdd ∷ []) } ∷ []

two_reads : IsScripted small at_one (WordRead Secure 0 0 ∷ WordRead Secure 0 0xaabbccdd ∷ []) zeros
two_reads = (refl, (refl, tt))

-- a write after it lasts
write_after : IsScripted small at_one (WordRead Secure 4 0 ∷ WordWrite Untrusted 0 1 ∷ WordRead Secure 0 1 ∷ []) zeros
write_after = (refl, (tt, (refl, tt)))

-- the changes of a suspension are done right after its mark, and the `at` changes before it
abbrev both : List Change
both = record { when = At 1; what = Open 0 (1 ∷ []) } ∷ record { when = Suspend 0; what = Open 0 (2 ∷ []) }
    ∷ record { when = Suspend 1; what = Open 4 (3 ∷ []) } ∷ []

suspended_twice : IsScripted small both (WordRead Secure 0 0 ∷ Note mark.Suspend ∷ WordRead Secure 0 0x02000000
    ∷ WordRead Secure 4 0 ∷ Note mark.Resume ∷ Note mark.Suspend ∷ WordRead Untrusted 4 0x03000000 ∷ []) zeros
suspended_twice = (refl, (tt, (refl, (refl, (tt, (tt, (refl, tt)))))))
