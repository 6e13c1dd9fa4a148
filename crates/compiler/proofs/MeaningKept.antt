-- The image of a source does what the source means.
use Rattle.std.proofs.Common.{◌≡◌, ◌≢◌, ℕ, ◌+◌, ◌-◌, ◌*◌, ◌≤◌, Bool, List, [], ◌∷◌, map, Some, None, arith, refl, sym, ◌∙◌, ap, subst}
use Rattle.std.specs.List.{AllByRecursion}
use Rattle.execution.specs.Run.{Stops, state_of}
use Rattle.execution.specs.Traffic.{Element, Entry, Traffic, Extends}
use Rattle.execution.specs.Naming.{Addressed, IsNaming, element_by, entry_named, name_by, traffic_named}
use Rattle.execution.proofs.NamingLemmas.{element-name, is-naming, name-element, named-entries, named-extends, named-traffic}
use Rattle.execution.proofs.RunLemmas.{ends-one}
use Rattle.execution.proofs.TrafficLemmas.{extends-trans}
use Rattle.regions.specs.declared.Class.{Class}
use Rattle.c_grammar.specs.declared.item.Program.{Program}
use Rattle.c_resolver.specs.Resolving.{plain_program}
use Rattle.c_semantics.specs.ResolvedTree as Tree
use Rattle.c_semantics.specs.States as source
use Rattle.c_semantics.specs.Meaning.{Meaning, mean, noting_all}
use Rattle.c_semantics.proofs.LawProofs.{fewer_turns, more_turns}
use Rattle.ir_code.specs.declared.Ir.{Ir}
use Rattle.ir_code.specs.FlatStates as flat
use Rattle.ir_code.specs.FlatStates.{FlatEnd, FlatState, first_flat}
use Rattle.ir_code.specs.FlatMeaning.{flat_run, flat_step}
use Rattle.lowering.specs.Cells.{source_element}
use Rattle.lowering.specs.Lowering.{lowered}
use Rattle.lowering.specs.LoweringLaws.{flat_end}
use Rattle.secure_split.specs.SplitLaws.{ComesTo, GoesBackward, GoesForward, HasSourceCells, IsWithinWork}
use Rattle.orbis_core.specs.Ideal.{Ideal, IdealEnd}
use Rattle.region_plan.specs.Homes.{home_address}
use Rattle.image_file.specs.declared.Image.{Image}
use Rattle.codegen.specs.EmittedImage as image
use Rattle.codegen.specs.EmittedImage.{EndsLikeCode, IsAhead, MeansCode, address_name, elements_from, image_run}
use Rattle.compiler.specs.CompilerTheorem.{EndsAsMeant, IsWrittenInPlace, MeansSource, machine_end, meant}
use Rattle.compiler.specs.Places.{HasPlaces, element_at}
use Rattle.compiler.proofs.SharedPlaces.{all-placed, front-placed}
use Rattle.compiler.proofs.Written.{writes-open}

-- ---- names one after the other

module _ {A B C : Type 0} (f : A → B) (g : B → C) where
  pub entries-twice : (entries : List (Entry A)) → map (entry_named g) (map (entry_named f) entries) ≡ map (entry_named (λ a. g (f a))) entries
  entries-twice [] = refl
  entries-twice (e ∷ entries) = ap (λ (es : List (Entry C)). record { place = g (f e.place); word = e.word } ∷ es) (entries-twice entries)

  pub traffic-twice : (t : Traffic A) → traffic_named g (traffic_named f t) ≡ traffic_named (λ a. g (f a)) t
  traffic-twice t =
      ap (λ (es : List (Entry C)). record (traffic_named g (traffic_named f t)) { loose = es }) (entries-twice t.loose)
      ∙ ap (λ (es : List (Entry C)). record (traffic_named (λ a. g (f a)) t) { writes = es }) (entries-twice t.writes)

-- the names of addresses are a naming as well
pub back-naming : (list : List Addressed) → IsNaming (element_by list) (name_by list)
back-naming list = record { named = element-name list; placed = name-element list }

-- ---- ends

same-some : {A : Type 0} (x y : A) → Some x ≡ Some y → x ≡ y
same-some x y e = cc

no-end : (end : FlatEnd) → None ≡ Some end → ⊥
no-end end e = cc

end-kept : (e : source.End) (end : FlatEnd) (final : IdealEnd) → flat_end e ≡ Some end → image.machine_end end ≡ Some final → machine_end e ≡ Some final
end-kept source.Ended end final e f = ap image.machine_end (same-some flat.Ended end e) ∙ f
end-kept (source.Index at) end final e f = ap image.machine_end (same-some (flat.Index at) end e) ∙ f
end-kept (source.Divide at) end final e f = ap image.machine_end (same-some (flat.Divide at) end e) ∙ f
end-kept source.Starved end final e f = ap image.machine_end (same-some flat.Starved end e) ∙ f
end-kept source.Turns end final e f = absurd (no-end end e)

own-end : (e : source.End) (end : FlatEnd) → flat_end e ≡ Some end → e ≢ source.Turns
own-end e end h turns = no-end end (sym (ap flat_end turns) ∙ h)

-- ---- both ways

module _ (loose : Class → Bool) (p : Program) (im : Image) (code : MeansCode loose (lowered (plain_program p)) im)
    (forth : GoesForward p (lowered (plain_program p)) loose) (back : GoesBackward p (lowered (plain_program p)) loose) (work : IsWithinWork p (lowered (plain_program p)) loose)
    (has : HasSourceCells p (lowered (plain_program p))) (places : HasPlaces p im.layout) where
  abbrev tree : Tree.Program
  tree = plain_program p

  abbrev ir : Ir
  ir = lowered (plain_program p)

  abbrev list : List Addressed
  list = elements_from (home_address im.layout ir) 0 ir.cells

  -- the words at addresses, for elements of cells
  abbrev entries : List (Entry ℕ) → List (Entry Element)
  entries words = map (entry_named (element_by list)) words

  addressed : (words : List (Entry ℕ)) → map (entry_named (address_name im.layout ir)) (entries words) ≡ words
  addressed words = named-entries (name_by list) (element_by list) (is-naming list) words

  sourced : (words : List (Entry ℕ)) → map (entry_named (source_element tree)) (entries words) ≡ map (entry_named (element_at p im.layout)) words
  sourced words = entries-twice (element_by list) (source_element tree) words

  -- what goes by addresses of elements of cells, by elements of the source
  traffic-kept : (t : Traffic Element) → traffic_named (element_at p im.layout) (traffic_named (address_name im.layout ir) t) ≡ traffic_named (source_element tree) t
  traffic-kept t =
      sym (traffic-twice (element_by list) (source_element tree) (traffic_named (name_by list) t))
      ∙ ap (traffic_named (source_element tree)) (named-traffic (element_by list) (name_by list) (back-naming list) t)

  ends-kept : (m : Meaning) (end : FlatEnd) (at : FlatState) (final : IdealEnd) (state : Ideal) → ComesTo p m end at → EndsLikeCode (address_name im.layout ir) end at final state → EndsAsMeant p im m final state
  ends-kept m end at final state s c = record {
    ending = end-kept m.end end final s.ending c.ending;
    traffic = ap (traffic_named (element_at p im.layout)) c.traffic ∙ traffic-kept at.traffic ∙ s.traffic;
  }

  -- the meaning with words given for elements of cells
  abbrev by_cells : List ℕ → List (Entry Element) → ℕ → Meaning
  by_cells input es turns = mean (noting_all loose) tree input (map (entry_named (source_element tree)) es) turns

  meant-by : (input : List ℕ) (words : List (Entry ℕ)) (turns : ℕ) → by_cells input (entries words) turns ≡ meant loose p im input words turns
  meant-by input words turns = ap (λ (ws : List (Entry Element)). mean (noting_all loose) tree input ws turns) (sourced words)

  goes-forward : (input : List ℕ) (words : List (Entry ℕ)) (turns : ℕ) → (meant loose p im input words turns).end ≢ source.Turns →
      (steps : ℕ) × (end : IdealEnd) × (state : Ideal) × (image_run loose im input words steps ≡ Stops end state)
      × EndsAsMeant p im (meant loose p im input words turns) end state × (steps ≤ 32 * (meant loose p im input words turns).work)
  goes-forward input words turns ends =
      let same : by_cells input (entries words) turns ≡ meant loose p im input words turns = meant-by input words turns in
      let own : (by_cells input (entries words) turns).end ≢ source.Turns = subst (λ (m : Meaning). m.end ≢ source.Turns) (sym same) ends in
      let f = forth input (entries words) turns own in
      let w = work.whole input (entries words) turns own in
      let one : f.2 ≡ w.2 = (ends-one (flat_step loose ir) f.0 w.0 (first_flat ir input (entries words)) f.2 w.2 f.1 w.1 f.3 w.3).1 in
      let few : f.2.weight ≤ 32 * (by_cells input (entries words) turns).work =
      subst (λ (s : FlatState). s.weight ≤ 32 * (by_cells input (entries words) turns).work) (sym one) w.4 in
      let c = code.forward input (entries words) f.0 f.1 f.2 f.3 in
      let steps : c.0 ≤ f.2.weight = c.5 in (
        c.0,
        c.1,
        c.2,
        subst (λ (ws : List (Entry ℕ)). image_run loose im input ws c.0 ≡ Stops c.1 c.2) (addressed words) c.3,
        subst (λ (m : Meaning). EndsAsMeant p im m c.1 c.2) same (ends-kept (by_cells input (entries words) turns) f.1 f.2 c.1 c.2 f.4 c.4),
        subst (λ (m : Meaning). c.0 ≤ 32 * m.work) same (omega (arith, steps, few)),
      )

  -- with more turns than a number of jumps asks for
  enough : (jumps steps : ℕ) → jumps ≤ steps → 64 * (jumps + 1) + 64 * (steps - jumps) ≡ 64 * (steps + 1)
  enough jumps steps few = omega (arith, few)

  stays-front : (input : List ℕ) (words : List (Entry ℕ)) (steps : ℕ) →
      Extends (traffic_named (element_at p im.layout) (state_of (image_run loose im input words steps)).traffic)
      (meant loose p im input words (64 * (steps + 1))).traffic
  stays-front input words steps =
      let b : IsAhead (address_name im.layout ir) (flat_run loose ir input (entries words)) steps (state_of (image_run loose im input words steps)) =
      subst (λ (ws : List (Entry ℕ)). IsAhead (address_name im.layout ir) (flat_run loose ir input (entries words)) steps (state_of (image_run loose im input ws steps)))
      (addressed words) (code.backward input (entries words) steps) in
      let at : FlatState = state_of (flat_run loose ir input (entries words) b.ops) in
      let first : Extends (traffic_named (element_at p im.layout) (state_of (image_run loose im input words steps)).traffic) (traffic_named (source_element tree) at.traffic) =
      subst (λ (t : Traffic Element). Extends (traffic_named (element_at p im.layout) (state_of (image_run loose im input words steps)).traffic) t) (traffic-kept at.traffic)
      (named-extends (element_at p im.layout) _ _ b.traffic) in
      let second : Extends (traffic_named (source_element tree) at.traffic) (by_cells input (entries words) (64 * (at.jumps + 1))).traffic = back.front input (entries words) b.ops in
      let third : Extends (by_cells input (entries words) (64 * (at.jumps + 1))).traffic (by_cells input (entries words) (64 * (steps + 1))).traffic =
      subst (λ (n : ℕ). Extends (by_cells input (entries words) (64 * (at.jumps + 1))).traffic (by_cells input (entries words) n).traffic) (enough at.jumps steps b.jumped)
      (fewer_turns (noting_all loose) tree input (map (entry_named (source_element tree)) (entries words)) (64 * (at.jumps + 1)) (64 * (steps - at.jumps))) in
      subst (λ (m : Meaning). Extends (traffic_named (element_at p im.layout) (state_of (image_run loose im input words steps)).traffic) m.traffic) (meant-by input words (64 * (steps + 1)))
      (extends-trans _ _ _ first (extends-trans _ _ _ second third))

  has-ended : (input : List ℕ) (words : List (Entry ℕ)) (steps : ℕ) (end : IdealEnd) (state : Ideal) → image_run loose im input words steps ≡ Stops end state →
      EndsAsMeant p im (meant loose p im input words (64 * (steps + 1))) end state
  has-ended input words steps end state e =
      let d = code.ended input (entries words) steps end state (subst (λ (ws : List (Entry ℕ)). image_run loose im input ws steps ≡ Stops end state) (sym (addressed words)) e) in
      let jumped : d.2.jumps ≤ steps = d.5 in
      let h : ComesTo p (by_cells input (entries words) (64 * (d.2.jumps + 1))) d.1 d.2 = back.ended input (entries words) d.0 d.1 d.2 d.3 in
      let more : by_cells input (entries words) (64 * (steps + 1)) ≡ by_cells input (entries words) (64 * (d.2.jumps + 1)) =
      subst (λ (n : ℕ). by_cells input (entries words) n ≡ by_cells input (entries words) (64 * (d.2.jumps + 1))) (enough d.2.jumps steps jumped)
      (more_turns (noting_all loose) tree input (map (entry_named (source_element tree)) (entries words)) (64 * (d.2.jumps + 1)) (64 * (steps - d.2.jumps))
      (own-end (by_cells input (entries words) (64 * (d.2.jumps + 1))).end d.1 h.ending)) in
      subst (λ (m : Meaning). EndsAsMeant p im m end state) (sym more ∙ meant-by input words (64 * (steps + 1)))
      (ends-kept (by_cells input (entries words) (64 * (d.2.jumps + 1))) d.1 d.2 end state h d.4)

  in-place : (input : List ℕ) (words : List (Entry ℕ)) (steps : ℕ) → AllByRecursion (IsWrittenInPlace p im.layout) (state_of (image_run loose im input words steps)).traffic.writes
  in-place input words steps =
      let b : IsAhead (address_name im.layout ir) (flat_run loose ir input (entries words)) steps (state_of (image_run loose im input words steps)) =
      subst (λ (ws : List (Entry ℕ)). IsAhead (address_name im.layout ir) (flat_run loose ir input (entries words)) steps (state_of (image_run loose im input ws steps)))
      (addressed words) (code.backward input (entries words) steps) in
      front-placed p im.layout has places (state_of (image_run loose im input words steps)).traffic.writes b.traffic.writes.0
      (subst (λ (ws : List (Entry ℕ)). AllByRecursion (IsWrittenInPlace p im.layout) ws) b.traffic.writes.1
      (all-placed p im.layout has places (state_of (flat_run loose ir input (entries words) b.ops)).traffic.writes (writes-open ir loose input (entries words) b.ops)))

  pub means-source : MeansSource loose p im
  means-source = record {
    forward = goes-forward;
    front = stays-front;
    ended = has-ended;
    written = in-place;
    never_refused = λ input words steps why state. code.never_refused input words steps why state;
  }
