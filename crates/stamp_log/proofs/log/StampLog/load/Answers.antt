use Rattle.std.proofs.Common.{◌+◌, ◌%◌, ◌<◌, ◌≤◌, ℕ, Bool, false, List, ◌∙◌, ap, sym, subst, arith, refl}
use Rattle.std.specs.Prelude.{◌^◌, is_some, slice_index_or}
use Rattle.off_chip.specs.Histories.{history}
use Rattle.off_chip.specs.Epochs.{LogEntry}
use Rattle.off_chip.specs.Collisions.{sum_of}
use Rattle.stamp_log.specs.LogState.{LogState, value_under}
use Rattle.stamp_log.specs.LogCalls.{MakesRoom}
use Rattle.stamp_log.specs.LogContents.{ReadKeepsContents}
use Rattle.stamp_log.specs.StandsOn.{StandsOn}
use Rattle.stamp_log.proofs.SumLemmas.{reads-room}
use Rattle.stamp_log.proofs.LogLemmas.{line-none, line-some, inserted-here, inserted-apart, same-lines, room-keeps, RoomKeeps}
use Rattle.stamp_log.proofs.LoadLemmas.{RoomMade, room-made, load-stands, read-fits, above-writes, not-above}
use Rattle.stamp_log.proofs.ContentLemmas.{read-contents, same-contents}
use Rattle.stamp_log.proofs.log.StampLog.load.Goals as goal

pub add-requires : goal.add-requires
add-requires g c =
    let old : LogState = record { key = c.self.inside.key; blocks = c.self.inside.blocks; lines = c.self.inside.lines; read = c.self.inside.read; written = c.self.inside.written } in
    let stands : StandsOn old (history (g.O.OffChip.trace c.args.bus.now)) = subst (λ (l : LogState). StandsOn l (history (g.O.OffChip.trace c.args.bus.now))) (sym c.self.view_is) c.requires.stands in
    let value : LogEntry → ℕ = value_under c.self.inside.key in
    let makes : MakesRoom c.self.inside.blocks (g.O.OffChip.trace c.args.bus.now) (g.O.OffChip.trace c.make_room.new.bus) c.self.inside.lines c.make_room.new.lines =
    subst (λ (n : ℕ). MakesRoom n (g.O.OffChip.trace c.args.bus.now) (g.O.OffChip.trace c.make_room.new.bus) c.self.inside.lines c.make_room.new.lines) c.self.invariant.0 c.make_room.ensures.makes in
    let keeps : RoomKeeps value c.self.inside.blocks (history (g.O.OffChip.trace c.args.bus.now)) (history (g.O.OffChip.trace c.make_room.new.bus)) c.make_room.new.lines =
    room-keeps value c.self.inside.blocks _ _ c.self.inside.lines c.make_room.new.lines makes c.self.invariant.0 stands.lines stands.trace in
    reads-room value c.self.inside.read (g.O.OffChip.trace c.make_room.new.bus) (g.O.OffChip.room c.make_room.new.bus)
    (stands.read ∙ ap (λ (xs : List LogEntry). sum_of value xs) (sym keeps.reads)) c.read_entry.ensures.limit (omega (arith, c.make_room.ensures.room, c.requires.has_room))

pub returns-in-Ok-clause-fetches : goal.returns-in-Ok-clause-fetches
returns-in-Ok-clause-fetches g c = λ none.
    let makes : MakesRoom c.self.inside.blocks (g.O.OffChip.trace c.args.bus.now) (g.O.OffChip.trace c.make_room.new.bus) c.self.inside.lines c.make_room.new.lines =
    subst (λ (n : ℕ). MakesRoom n (g.O.OffChip.trace c.args.bus.now) (g.O.OffChip.trace c.make_room.new.bus) c.self.inside.lines c.make_room.new.lines) c.self.invariant.0 c.make_room.ensures.makes in
    let now : MakesRoom c.args.self.now.blocks (g.O.OffChip.trace c.args.bus.now) (g.O.OffChip.trace c.make_room.new.bus) c.args.self.now.lines c.make_room.new.lines =
    subst (λ (l : LogState). MakesRoom l.blocks (g.O.OffChip.trace c.args.bus.now) (g.O.OffChip.trace c.make_room.new.bus) l.lines c.make_room.new.lines) c.self.view_is makes in
    let below : c.args.block < c.self.inside.blocks = subst (λ (l : LogState). c.args.block < l.blocks) (sym c.self.view_is) c.requires.below in
    let made : RoomMade c.args.block c.self.inside.lines c.make_room.new.lines =
    room-made c.self.inside.blocks c.args.block _ _ c.self.inside.lines c.make_room.new.lines makes c.self.invariant.0
    (ap is_some (line-none c.self.inside.lines c.args.block (sym c.has.ensures ∙ c.if-has.false))) in
    let both = above-writes c.make_room.new.stamps c.read_entry.new.into.stamp (g.O.OffChip.trace c.make_room.new.bus) c.make_room.ensures.fits in
    record {
      middle = g.O.OffChip.trace c.make_room.new.bus;
      between = c.make_room.new.lines;
      read = c.read_entry.new.into;
      makes = now;
      event = c.read_entry.ensures.event.trace;
      above = (λ err. both.0 (c.in-Ok.ensures.above.0 err), λ less. c.in-Ok.ensures.above.1 (both.1 less));
      number = tt;
      here = inserted-here c.make_room.new.lines c.insert.new.self c.args.block c.read_entry.new.into.payload (omega (arith, below, made.held, c.self.invariant.0))
          (omega (arith, below, made.payloads, c.self.invariant.1)) c.insert.ensures.held c.insert.ensures.payloads;
      apart = λ n differ. inserted-apart c.make_room.new.lines c.insert.new.self c.args.block n c.read_entry.new.into.payload differ c.insert.ensures.held c.insert.ensures.payloads;
    }

pub returns-then-has-clause-lines : goal.returns-then-has-clause-lines
returns-then-has-clause-lines g c = λ held n. same-lines c.args.self.now.lines c.touch.new.self n
    (c.touch.ensures.held ∙ ap (λ (l : LogState). l.lines.held) c.self.view_is) (c.touch.ensures.payloads ∙ ap (λ (l : LogState). l.lines.payloads) c.self.view_is)

pub returns-then-has-clause-kept : goal.returns-then-has-clause-kept
returns-then-has-clause-kept g c = λ held. same-contents c.args.self.now.lines c.touch.new.self (history (g.O.OffChip.trace c.args.bus.now))
    (c.touch.ensures.held ∙ ap (λ (l : LogState). l.lines.held) c.self.view_is) (c.touch.ensures.payloads ∙ ap (λ (l : LogState). l.lines.payloads) c.self.view_is)

pub returns-in-Ok-clause-contents : goal.returns-in-Ok-clause-contents
returns-in-Ok-clause-contents g c = λ none.
    let old : LogState = record { key = c.self.inside.key; blocks = c.self.inside.blocks; lines = c.self.inside.lines; read = c.self.inside.read; written = c.self.inside.written } in
    let stands : StandsOn old (history (g.O.OffChip.trace c.args.bus.now)) = subst (λ (l : LogState). StandsOn l (history (g.O.OffChip.trace c.args.bus.now))) (sym c.self.view_is) c.requires.stands in
    let below : c.args.block < c.self.inside.blocks = subst (λ (l : LogState). c.args.block < l.blocks) (sym c.self.view_is) c.requires.below in
    let makes : MakesRoom c.self.inside.blocks (g.O.OffChip.trace c.args.bus.now) (g.O.OffChip.trace c.make_room.new.bus) c.self.inside.lines c.make_room.new.lines =
    subst (λ (n : ℕ). MakesRoom n (g.O.OffChip.trace c.args.bus.now) (g.O.OffChip.trace c.make_room.new.bus) c.self.inside.lines c.make_room.new.lines) c.self.invariant.0 c.make_room.ensures.makes in
    let keeps : RoomKeeps (value_under c.self.inside.key) c.self.inside.blocks (history (g.O.OffChip.trace c.args.bus.now)) (history (g.O.OffChip.trace c.make_room.new.bus)) c.make_room.new.lines =
    room-keeps (value_under c.self.inside.key) c.self.inside.blocks _ _ c.self.inside.lines c.make_room.new.lines makes c.self.invariant.0 stands.lines stands.trace in
    let made : RoomMade c.args.block c.self.inside.lines c.make_room.new.lines =
    room-made c.self.inside.blocks c.args.block _ _ c.self.inside.lines c.make_room.new.lines makes c.self.invariant.0
    (ap is_some (line-none c.self.inside.lines c.args.block (sym c.has.ensures ∙ c.if-has.false))) in
    subst (λ (l : LogState). ReadKeepsContents c.args.block l.lines c.insert.new.self (g.O.OffChip.trace c.args.bus.now) (g.O.OffChip.trace c.read_entry.new.bus)) c.self.view_is
    (read-contents c.self.inside.blocks c.args.block c.read_entry.new.into (g.O.OffChip.trace c.args.bus.now) (g.O.OffChip.trace c.make_room.new.bus)
    (g.O.OffChip.trace c.read_entry.new.bus) c.self.inside.lines c.make_room.new.lines c.insert.new.self makes c.self.invariant.0 made.none
    (keeps.trace.written c.args.block below) c.read_entry.ensures.event.trace
    (inserted-here c.make_room.new.lines c.insert.new.self c.args.block c.read_entry.new.into.payload (omega (arith, below, made.held, c.self.invariant.0))
    (omega (arith, below, made.payloads, c.self.invariant.1)) c.insert.ensures.held c.insert.ensures.payloads)
    (λ n differ. inserted-apart c.make_room.new.lines c.insert.new.self c.args.block n c.read_entry.new.into.payload differ c.insert.ensures.held c.insert.ensures.payloads))

pub returns-in-Ok-clause-stands : goal.returns-in-Ok-clause-stands
returns-in-Ok-clause-stands g c =
    let old : LogState = record { key = c.self.inside.key; blocks = c.self.inside.blocks; lines = c.self.inside.lines; read = c.self.inside.read; written = c.self.inside.written } in
    let new : LogState = record { key = c.self.inside.key; blocks = c.self.inside.blocks; lines = c.insert.new.self; read = c.add.new.self; written = c.make_room.new.written } in
    let stands : StandsOn old (history (g.O.OffChip.trace c.args.bus.now)) = subst (λ (l : LogState). StandsOn l (history (g.O.OffChip.trace c.args.bus.now))) (sym c.self.view_is) c.requires.stands in
    let below : c.args.block < c.self.inside.blocks = subst (λ (l : LogState). c.args.block < l.blocks) (sym c.self.view_is) c.requires.below in
    let makes : MakesRoom c.self.inside.blocks (g.O.OffChip.trace c.args.bus.now) (g.O.OffChip.trace c.make_room.new.bus) c.self.inside.lines c.make_room.new.lines =
    subst (λ (n : ℕ). MakesRoom n (g.O.OffChip.trace c.args.bus.now) (g.O.OffChip.trace c.make_room.new.bus) c.self.inside.lines c.make_room.new.lines) c.self.invariant.0 c.make_room.ensures.makes in
    let stamp : c.read_entry.new.into.stamp ≤ c.make_room.new.stamps =
    not-above c.make_room.new.stamps c.read_entry.new.into.stamp (λ less. let bad = c.in-Ok.ensures.above.1 less in cc) in
    load-stands old new c.args.block c.make_room.new.stamps c.read_entry.new.into (g.O.OffChip.trace c.args.bus.now) (g.O.OffChip.trace c.make_room.new.bus)
    (g.O.OffChip.trace c.read_entry.new.bus) c.make_room.new.lines stands below
    (ap is_some (line-none c.self.inside.lines c.args.block (sym c.has.ensures ∙ c.if-has.false))) c.self.invariant.1 makes c.make_room.ensures.sum c.make_room.ensures.fits stamp
    c.read_entry.ensures.event.trace refl refl c.insert.ensures.held c.insert.ensures.payloads c.add.ensures.count
    (c.add.ensures.sum ∙ ap (λ (n : ℕ). (c.self.inside.read.sum + n) % (2 ^ 128)) c.in-Ok.ensures.value)

pub returns-in-Ok-clause-fits : goal.returns-in-Ok-clause-fits
returns-in-Ok-clause-fits g c = read-fits c.make_room.new.stamps c.args.block c.read_entry.new.into (g.O.OffChip.trace c.make_room.new.bus) (g.O.OffChip.trace c.read_entry.new.bus)
    c.read_entry.ensures.event.trace c.make_room.ensures.fits

pub returns-in-Err-clause-fetches : goal.returns-in-Err-clause-fetches
returns-in-Err-clause-fetches g c = λ none.
    let makes : MakesRoom c.self.inside.blocks (g.O.OffChip.trace c.args.bus.now) (g.O.OffChip.trace c.make_room.new.bus) c.self.inside.lines c.make_room.new.lines =
    subst (λ (n : ℕ). MakesRoom n (g.O.OffChip.trace c.args.bus.now) (g.O.OffChip.trace c.make_room.new.bus) c.self.inside.lines c.make_room.new.lines) c.self.invariant.0 c.make_room.ensures.makes in
    let now : MakesRoom c.args.self.now.blocks (g.O.OffChip.trace c.args.bus.now) (g.O.OffChip.trace c.make_room.new.bus) c.args.self.now.lines c.make_room.new.lines =
    subst (λ (l : LogState). MakesRoom l.blocks (g.O.OffChip.trace c.args.bus.now) (g.O.OffChip.trace c.make_room.new.bus) l.lines c.make_room.new.lines) c.self.view_is makes in
    let both = above-writes c.make_room.new.stamps c.read_entry.new.into.stamp (g.O.OffChip.trace c.make_room.new.bus) c.make_room.ensures.fits in
    record {
      middle = g.O.OffChip.trace c.make_room.new.bus;
      between = c.make_room.new.lines;
      read = c.read_entry.new.into;
      makes = now;
      event = c.read_entry.ensures.event.trace;
      above = (λ err. both.0 (c.in-Err.ensures.above.0 err), λ less. c.in-Err.ensures.above.1 (both.1 less));
      number = c.in-Err.ensures.number;
      here = tt;
      apart = tt;
    }

pub returns-in-Err-clause-fits : goal.returns-in-Err-clause-fits
returns-in-Err-clause-fits g c = read-fits c.make_room.new.stamps c.args.block c.read_entry.new.into (g.O.OffChip.trace c.make_room.new.bus) (g.O.OffChip.trace c.read_entry.new.bus)
    c.read_entry.ensures.event.trace c.make_room.ensures.fits

pub returns-then-has-clause-held : goal.returns-then-has-clause-held
returns-then-has-clause-held g c = ap is_some (line-some c.touch.new.self c.args.block
    (ap (λ (xs : List Bool). slice_index_or xs c.args.block false) c.touch.ensures.held ∙ sym c.has.ensures ∙ c.if-has.true))

pub returns-in-Ok-clause-held : goal.returns-in-Ok-clause-held
returns-in-Ok-clause-held g c =
    let below : c.args.block < c.self.inside.blocks = subst (λ (l : LogState). c.args.block < l.blocks) (sym c.self.view_is) c.requires.below in
    let makes : MakesRoom c.self.inside.blocks (g.O.OffChip.trace c.args.bus.now) (g.O.OffChip.trace c.make_room.new.bus) c.self.inside.lines c.make_room.new.lines =
    subst (λ (n : ℕ). MakesRoom n (g.O.OffChip.trace c.args.bus.now) (g.O.OffChip.trace c.make_room.new.bus) c.self.inside.lines c.make_room.new.lines) c.self.invariant.0 c.make_room.ensures.makes in
    let made : RoomMade c.args.block c.self.inside.lines c.make_room.new.lines =
    room-made c.self.inside.blocks c.args.block _ _ c.self.inside.lines c.make_room.new.lines makes c.self.invariant.0
    (ap is_some (line-none c.self.inside.lines c.args.block (sym c.has.ensures ∙ c.if-has.false))) in
    ap is_some (inserted-here c.make_room.new.lines c.insert.new.self c.args.block c.read_entry.new.into.payload (omega (arith, below, made.held, c.self.invariant.0))
    (omega (arith, below, made.payloads, c.self.invariant.1)) c.insert.ensures.held c.insert.ensures.payloads)

pub returns-in-Err-clause-nothing_added : goal.returns-in-Err-clause-nothing_added
returns-in-Err-clause-nothing_added g c = ap (λ (l : LogState). l.read) c.self.view_is

pub returns-in-Err-clause-no_line : goal.returns-in-Err-clause-no_line
returns-in-Err-clause-no_line g c =
    let makes : MakesRoom c.self.inside.blocks (g.O.OffChip.trace c.args.bus.now) (g.O.OffChip.trace c.make_room.new.bus) c.self.inside.lines c.make_room.new.lines =
    subst (λ (n : ℕ). MakesRoom n (g.O.OffChip.trace c.args.bus.now) (g.O.OffChip.trace c.make_room.new.bus) c.self.inside.lines c.make_room.new.lines) c.self.invariant.0 c.make_room.ensures.makes in
    let made : RoomMade c.args.block c.self.inside.lines c.make_room.new.lines =
    room-made c.self.inside.blocks c.args.block _ _ c.self.inside.lines c.make_room.new.lines makes c.self.invariant.0
    (ap is_some (line-none c.self.inside.lines c.args.block (sym c.has.ensures ∙ c.if-has.false))) in
    made.none
