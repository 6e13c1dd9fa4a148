use Rattle.std.proofs.Common.{◌≡◌, ◌+◌, ◌<◌, take, length, arith}
use Rattle.std.proofs.lemmas.Grind.{common_steps}
use Rattle.std.proofs.lemmas.List.{take_more}
use Rattle.orbis_word.proofs.Lines.{listing_more}
use Rattle.orbis_word.proofs.printing.listing.Goals as goal

pub loop-index-preserved : goal.loop-index-preserved
loop-index-preserved c =
    let within : c.loop-index.index < length c.args.code.now = c.loop-index-test.true in
    let place : c.loop-index.index ≡ 0 + length (take c.loop-index.index c.args.code.now) = grind (arith, common_steps) in
    let adds = c.in_ok-push_line.ensures in
    rw (take_more c.args.code.now c.loop-index.index 0 within, adds.appended) (listing_more 0 _ _ _ _ _ place c.loop-index.invariant adds.is_line)
