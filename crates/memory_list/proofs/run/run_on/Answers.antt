use Rattle.std.proofs.Common.{◌≡◌, ◌<◌, ◌∙◌, [], ap, sym, subst, arith, lit≤}
use Rattle.std.specs.Prelude.{Option}
use Rattle.regions.specs.declared.layout.Layout.{Layout}
use Rattle.off_chip.specs.BusCalls.{TellsOnly}
use Rattle.line_cache.specs.LineMaps.{HoldParents}
use Rattle.memory_list.proofs.run.run_on.Goals as goal

-- where nothing is pinned, all parents of what is pinned are
none-pinned : HoldParents []
none-pinned = λ block held above. let below : held.0 < 0 = held.1 in absurd (omega (arith, below))

pub answers-text-requires : goal.answers-text-requires
answers-text-requires g c =
    let pins : c.enter.new.self.pins.blocks.items ≡ [] = rw c.enter.ensures.pins c.new-memory.ensures.pins in
    let layout : c.enter.new.self.layout ≡ c.args.layout = c.enter.ensures.layout ∙ c.new-memory.ensures.layout in
    record {
      ready = record {
        stands = c.enter.ensures.stands;
        parents = rw pins none-pinned;
        few = rw pins (lit≤ tt);
        told = rw layout
            (subst (λ (l : Option Layout). TellsOnly c.args.layout l)
            (ap (λ (b : _). g.O.OffChip.layout b) (sym c.new-memory.ensures.bus) ∙ g.met.O.OffChip.same_layout _ _ c.enter.ensures.same) c.requires.told);
      };
    }
