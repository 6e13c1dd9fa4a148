use Rattle.std.proofs.Common.{◌≡◌, ℕ, ◌+◌, ◌<◌, List, [], ◌∷◌, ◌++◌, length, length-append, refl, sym, ap, ◌∙◌, subst, arith}
use Rattle.std.specs.Prelude.{Option, Some}
use Rattle.std.specs.List.{All}
use Rattle.std.specs.FinMap.{empty}
use Rattle.std.proofs.lemmas.List.Elements.{All-nil, All-cons}
use Rattle.regions.specs.declared.layout.Layout.{Layout}
use Rattle.regions.specs.Tree.{height_of, tree_blocks}
use Rattle.off_chip.specs.declared.event.Event.{Event}
use Rattle.off_chip.specs.declared.event.Event.TheVariants.{Note}
use Rattle.off_chip.specs.declared.event.Mark.TheVariants.{Enter}
use Rattle.off_chip.specs.BusCalls.{TellsOnly}
use Rattle.off_chip.specs.Histories.{history}
use Rattle.off_chip.specs.OffChipBytes.{static_blocks}
use Rattle.off_chip.specs.WriteBacks.{StampsFit}
use Rattle.off_chip.proofs.BusLemmas.{told-both}
use Rattle.line_cache.specs.LineMaps.{LineMap}
use Rattle.hash_tree.specs.Entering.{BlockMove, Entered}
use Rattle.hash_tree.specs.HashTrees.{scheme_of, state_of}
use Rattle.hash_tree.specs.TreeSteps.{IsElsewhere}
use Rattle.stamp_log.specs.LogEvents.{zero_payload, zeros_written}
use Rattle.stamp_log.specs.Starting.{HasNoLog}
use Rattle.secure_memory.specs.PrivatePads.{Padding, hidden_payload}
use Rattle.secure_memory.proofs.EventLists.{GrowsElsewhere, tree-stays}
use Rattle.secure_memory.proofs.EntryEvents.{AllMoveBlocks, below-moves-blocks, log-unused, zeros-elsewhere, zeros-long, enter-elsewhere}
use Rattle.secure_memory.proofs.PrivateLemmas.{entered-pads, grows-pads, pads-joined}
use Rattle.secure_memory.proofs.memory.SecureMemory.enter.Goals as goal

-- after one event, the trace is that event alone
one_event : (trace before : List Event) → trace ≡ before ++ Note Enter ∷ [] → before ≡ [] → trace ≡ Note Enter ∷ []
one_event trace before appended unused = appended ∙ ap (λ (t : List Event). t ++ Note Enter ∷ []) unused

enter-untouched : (trace : List Event) → trace ≡ Note Enter ∷ [] → All IsElsewhere trace
enter-untouched trace one = subst (λ (t : List Event). All IsElsewhere t) (sym one) (All-cons IsElsewhere (Note Enter) [] enter-elsewhere (All-nil IsElsewhere))

enter-fits : (stamps : ℕ) (trace : List Event) → stamps ≡ 0 → trace ≡ Note Enter ∷ [] → StampsFit stamps (history trace)
enter-fits stamps trace none one =
    subst (λ (n : ℕ). StampsFit n (history trace)) (sym none) (subst (λ (t : List Event). StampsFit 0 (history t)) (sym one) (record { each = (tt, tt); count = refl }))

enter-unused : (trace : List Event) → trace ≡ Note Enter ∷ [] → HasNoLog (history trace)
enter-unused trace one = subst (λ (t : List Event). HasNoLog (history t)) (sym one) (record { each = (tt, refl) })

same_blocks : (layout other : Layout) → layout ≡ other → static_blocks layout + tree_blocks layout ≡ static_blocks other + tree_blocks other
same_blocks layout other same = ap (λ (l : Layout). static_blocks l + tree_blocks l) same

pub enter-digest-requires-clause-untouched : goal.enter-digest-requires-clause-untouched
enter-digest-requires-clause-untouched g c = enter-untouched _ (one_event _ _ c.note.ensures.event.trace c.requires.unused)

pub enter-digest-requires-clause-fit : goal.enter-digest-requires-clause-fit
enter-digest-requires-clause-fit g c = enter-fits _ _ c.requires.stamps (one_event _ _ c.note.ensures.event.trace c.requires.unused)

pub enter-digest-requires-clause-has_room : goal.enter-digest-requires-clause-has_room
enter-digest-requires-clause-has_room g c = rw c.requires.parts.of_tree (omega (arith, c.note.ensures.event.room, c.requires.has_room))

pub enter-digest-requires-clause-told : goal.enter-digest-requires-clause-told
enter-digest-requires-clause-told g c =
    rw c.requires.parts.of_tree (subst (λ (l : Option Layout). TellsOnly c.args.self.now.layout l) (g.met.O.OffChip.same_layout _ _ c.note.ensures.same) c.requires.told)

pub start-requires-clause-has_room : goal.start-requires-clause-has_room
start-requires-clause-has_room g c =
    let same = same_blocks c.args.self.now.tree.layout c.args.self.now.layout c.requires.parts.of_tree in
    rw c.requires.parts.of_log (omega (arith, same, c.enter-digest.ensures.count, c.enter-digest.ensures.total, c.note.ensures.event.room, c.requires.has_room))

pub start-requires-clause-told : goal.start-requires-clause-told
start-requires-clause-told g c =
    rw c.requires.parts.of_log (told-both c.args.self.now.layout _
    (subst (λ (l : Option Layout). TellsOnly c.args.self.now.layout l) (g.met.O.OffChip.same_layout _ _ c.note.ensures.same ∙ g.met.O.OffChip.same_layout _ _ c.enter-digest.ensures.same) c.requires.told))

pub start-requires-clause-clean : goal.start-requires-clause-clean
start-requires-clause-clean g c =
    let does = c.enter-digest.ensures.does in
    let moves : AllMoveBlocks _ = subst (λ (ms : List BlockMove). AllMoveBlocks ms) (sym does.order) (below-moves-blocks c.args.self.now.tree.layout (height_of c.args.self.now.tree.layout) 0) in
    subst (λ (t : List Event). HasNoLog (history t)) (sym does.appended)
    (log-unused does.events (g.O.OffChip.trace c.note.new.self) moves (enter-unused _ (one_event _ _ c.note.ensures.event.trace c.requires.unused)))

pub returns-clause-stands : goal.returns-clause-stands
returns-clause-stands g c =
    let grows : GrowsElsewhere (g.O.OffChip.trace c.enter-digest.new.bus) (g.O.OffChip.trace c.start.new.bus) =
    subst (λ (t : List Event). GrowsElsewhere (g.O.OffChip.trace c.enter-digest.new.bus) t) (sym c.start.ensures.events)
    (zeros-elsewhere c.enter-digest.new.stamps c.args.self.now.log.blocks (g.O.OffChip.trace c.enter-digest.new.bus) (g.O.OffChip.trace c.enter-digest.new.bus)
    (GrowsElsewhere.no_more (g.O.OffChip.trace c.enter-digest.new.bus))) in
    record {
      parts = record {
        of_tree = c.enter-digest.ensures.tree.layout ∙ c.requires.parts.of_tree;
        of_veil = ap (λ (veil : Padding). veil.layout) c.enter-digest.ensures.tree.veil ∙ c.requires.parts.of_veil;
        of_log = c.start.ensures.blocks ∙ c.requires.parts.of_log;
      };
      tree_stands = tree-stays (scheme_of c.enter-digest.new.self.layout (hidden_payload c.enter-digest.new.self.veil)) (g.L.Lines.lines c.enter-digest.new.self.lines) c.enter-digest.new.self.root
          (g.O.OffChip.trace c.enter-digest.new.bus) (g.O.OffChip.trace c.start.new.bus) grows c.enter-digest.ensures.stands;
      log_stands = c.start.ensures.stands;
      stamps_fit = c.start.ensures.fits;
    }

pub returns-clause-does : goal.returns-clause-does
returns-clause-does g c =
    let one : g.O.OffChip.trace c.note.new.self ≡ Note Enter ∷ [] = one_event _ _ c.note.ensures.event.trace c.requires.unused in
    let tree = c.args.self.now.tree in
    record {
      middle = g.O.OffChip.trace c.enter-digest.new.bus;
      last = c.enter-digest.new.stamps;
      entered =
          subst (λ (t : List Event). Entered tree.layout (scheme_of tree.layout (hidden_payload tree.veil)) (state_of empty tree.root t)
          (state_of (g.L.Lines.lines c.enter-digest.new.self.lines) c.enter-digest.new.self.root (g.O.OffChip.trace c.enter-digest.new.bus)) c.enter-digest.result) one
          (subst (λ (lines : LineMap). Entered tree.layout (scheme_of tree.layout (hidden_payload tree.veil)) (state_of lines tree.root (g.O.OffChip.trace c.note.new.self))
          (state_of (g.L.Lines.lines c.enter-digest.new.self.lines) c.enter-digest.new.self.root (g.O.OffChip.trace c.enter-digest.new.bus)) c.enter-digest.result)
          c.requires.lines c.enter-digest.ensures.does);
      started = c.start.ensures.events
          ∙ ap (λ (n : ℕ). g.O.OffChip.trace c.enter-digest.new.bus ++ zeros_written c.enter-digest.new.stamps n)
          (c.requires.parts.of_log ∙ ap (λ (l : Layout). l.log) (sym c.requires.parts.of_tree));
    }

pub returns-clause-log : goal.returns-clause-log
returns-clause-log g c = λ n less. c.start.ensures.contents n (subst (λ (k : ℕ). n < k) (sym c.requires.parts.of_log) less)

pub returns-clause-count : goal.returns-clause-count
returns-clause-count g c =
    let first : length (g.O.OffChip.trace c.note.new.self) ≡ 1 = ap (λ (t : List Event). length t) (one_event _ _ c.note.ensures.event.trace c.requires.unused) in
    let last : length (g.O.OffChip.trace c.start.new.bus) ≡ length (g.O.OffChip.trace c.enter-digest.new.bus) + c.args.self.now.log.blocks =
    ap (λ (t : List Event). length t) c.start.ensures.events ∙ length-append (g.O.OffChip.trace c.enter-digest.new.bus) (zeros_written c.enter-digest.new.stamps c.args.self.now.log.blocks)
    ∙ ap (λ (n : ℕ). length (g.O.OffChip.trace c.enter-digest.new.bus) + n) (zeros-long c.enter-digest.new.stamps c.args.self.now.log.blocks) in
    let same = same_blocks c.args.self.now.tree.layout c.args.self.now.layout c.requires.parts.of_tree in
    omega (arith, first, last, same, c.enter-digest.ensures.count, c.requires.parts.of_log)

pub returns-clause-room : goal.returns-clause-room
returns-clause-room g c =
    let same = same_blocks c.args.self.now.tree.layout c.args.self.now.layout c.requires.parts.of_tree in
    omega (arith, same, c.note.ensures.event.room, c.enter-digest.ensures.count, c.enter-digest.ensures.total, c.start.ensures.room, c.requires.parts.of_log)

pub returns-clause-private : goal.returns-clause-private
returns-clause-private g c =
    let veil = c.args.self.now.tree.veil in
    let first = g.O.OffChip.trace c.note.new.self in
    let middle = g.O.OffChip.trace c.enter-digest.new.bus in
    let one : first ≡ Note Enter ∷ [] = one_event _ _ c.note.ensures.event.trace c.requires.unused in
    let marked : GrowsElsewhere [] first = GrowsElsewhere.one_more [] [] first (Note Enter) (GrowsElsewhere.no_more []) enter-elsewhere one in
    let started : GrowsElsewhere middle (g.O.OffChip.trace c.start.new.bus) =
    subst (λ (t : List Event). GrowsElsewhere middle t) (sym c.start.ensures.events)
    (zeros-elsewhere c.enter-digest.new.stamps c.args.self.now.log.blocks middle middle (GrowsElsewhere.no_more middle)) in
    let entered = entered-pads c.args.self.now.tree.layout veil _ _ _ (c.requires.parts.of_veil ∙ sym c.requires.parts.of_tree) c.enter-digest.ensures.does in
    pads-joined veil (λ n. Some zero_payload) [] first (g.O.OffChip.trace c.start.new.bus) (grows-pads veil (λ n. Some zero_payload) [] first marked)
    (pads-joined veil (λ n. Some zero_payload) first middle (g.O.OffChip.trace c.start.new.bus) entered
    (grows-pads veil (λ n. Some zero_payload) middle (g.O.OffChip.trace c.start.new.bus) started))
