-- The image does what the source means where the words from outside are given for elements.
use Rattle.std.proofs.Common.{◌≡◌, ◌≢◌, ℕ, ◌+◌, ◌*◌, ◌≤◌, Bool, List, [], ◌∷◌, ◌++◌, map, arith, refl, sym, ◌∙◌, ap, subst}
use Rattle.std.specs.List.{AllByRecursion}
use Rattle.execution.specs.Run.{Stops, state_of}
use Rattle.execution.specs.Traffic.{Element, Entry, Traffic, Extends}
use Rattle.execution.specs.Naming.{entry_named, traffic_named}
use Rattle.execution.proofs.NamingLemmas.{named-extends}
use Rattle.regions.specs.declared.Class.{Class}
use Rattle.c_grammar.specs.declared.item.Program.{Program}
use Rattle.c_resolver.specs.Resolving.{plain_program}
use Rattle.c_semantics.specs.States as source
use Rattle.c_semantics.specs.Meaning.{Meaning, mean, noting_all}
use Rattle.orbis_core.specs.Ideal.{Ideal, IdealEnd, ideal_start}
use Rattle.orbis_core.proofs.IdealLemmas.{run-extends}
use Rattle.image_file.specs.declared.Image.{Image}
use Rattle.image_file.specs.ImageTable.{static_bytes}
use Rattle.codegen.specs.EmittedImage.{image_run}
use Rattle.compiler.specs.CompilerTheorem.{EndsAsMeant, EndsAtAddresses, IsWrittenInPlace, MeansByElements, MeansSource}
use Rattle.compiler.specs.Places.{HasPlaces, address_of, element_at}

all-after : (P : Entry ℕ → Type 0) (xs ys : List (Entry ℕ)) → AllByRecursion P (xs ++ ys) → AllByRecursion P ys
all-after P [] ys all = all
all-after P (x ∷ xs) ys all = all-after P xs ys all.1

module _ (loose : Class → Bool) (p : Program) (im : Image) (means : MeansSource loose p im) (places : HasPlaces p im.layout) where
  abbrev given : List (Entry Element) → List (Entry ℕ)
  given words = map (entry_named (address_of p im.layout)) words

  abbrev meaning : List ℕ → List (Entry Element) → ℕ → Meaning
  meaning input words turns = mean (noting_all loose) (plain_program p) input words turns

  -- an address of an element
  abbrev IsFixed : Entry ℕ → Type 0
  IsFixed w = address_of p im.layout (element_at p im.layout w.place) ≡ w.place

  given-fixed : (words : List (Entry Element)) → AllByRecursion IsFixed (given words)
  given-fixed [] = tt
  given-fixed (w ∷ words) = (ap (address_of p im.layout) (places.own w.place), given-fixed words)

  written-fixed : (ws : List (Entry ℕ)) → AllByRecursion (IsWrittenInPlace p im.layout) ws → AllByRecursion IsFixed ws
  written-fixed [] all = tt
  written-fixed (w ∷ ws) all = (places.mapped (element_at p im.layout w.place) w.place all.0, written-fixed ws all.1)

  entries-fixed : (ws : List (Entry ℕ)) → AllByRecursion IsFixed ws → map (entry_named (address_of p im.layout)) (map (entry_named (element_at p im.layout)) ws) ≡ ws
  entries-fixed [] all = refl
  entries-fixed (w ∷ ws) all =
      ap (λ (a : ℕ). record { place = a; word = w.word } ∷ map (entry_named (address_of p im.layout)) (map (entry_named (element_at p im.layout)) ws)) all.0
      ∙ ap (λ (es : List (Entry ℕ)). w ∷ es) (entries-fixed ws all.1)

  traffic-fixed : (t : Traffic ℕ) → AllByRecursion IsFixed t.loose → AllByRecursion IsFixed t.writes → traffic_named (address_of p im.layout) (traffic_named (element_at p im.layout) t) ≡ t
  traffic-fixed t left written =
      ap (λ (es : List (Entry ℕ)). record (traffic_named (address_of p im.layout) (traffic_named (element_at p im.layout) t)) { loose = es }) (entries-fixed t.loose left)
      ∙ ap (λ (es : List (Entry ℕ)). record t { writes = es }) (entries-fixed t.writes written)

  -- what is left of words at addresses of elements stands at such addresses
  left-fixed : (input : List ℕ) (words : List (Entry Element)) (steps : ℕ) → AllByRecursion IsFixed (state_of (image_run loose im input (given words) steps)).traffic.loose
  left-fixed input words steps =
      let start : Ideal = ideal_start im.layout (static_bytes im) im.entry input (given words) in
      let none : 0 + steps ≡ steps = omega arith in
      let e : Extends start.traffic (state_of (image_run loose im input (given words) steps)).traffic =
      subst (λ (n : ℕ). Extends start.traffic (state_of (image_run loose im input (given words) n)).traffic) none (run-extends im.layout loose 0 steps start) in
      all-after IsFixed e.loose.0 (state_of (image_run loose im input (given words) steps)).traffic.loose
      (subst (λ (ws : List (Entry ℕ)). AllByRecursion IsFixed ws) e.loose.1 (given-fixed words))

  run-fixed : (input : List ℕ) (words : List (Entry Element)) (steps : ℕ) →
      let t : Traffic ℕ = (state_of (image_run loose im input (given words) steps)).traffic in traffic_named (address_of p im.layout) (traffic_named (element_at p im.layout) t) ≡ t
  run-fixed input words steps =
      let t : Traffic ℕ = (state_of (image_run loose im input (given words) steps)).traffic in
      traffic-fixed t (left-fixed input words steps) (written-fixed t.writes (means.written input (given words) steps))

  meant-given : (input : List ℕ) (words : List (Entry Element)) (turns : ℕ) → mean (noting_all loose) (plain_program p) input (map (entry_named (element_at p im.layout)) (given words)) turns ≡ meaning input words turns
  meant-given input words turns = ap (λ (ws : List (Entry Element)). mean (noting_all loose) (plain_program p) input ws turns) (places.lists words)

  ends-at : (input : List ℕ) (words : List (Entry Element)) (steps : ℕ) (m : Meaning) (end : IdealEnd) (state : Ideal) → image_run loose im input (given words) steps ≡ Stops end state → EndsAsMeant p im m end state →
      EndsAtAddresses p im m end state
  ends-at input words steps m end state e h =
      let own : traffic_named (address_of p im.layout) (traffic_named (element_at p im.layout) state.traffic) ≡ state.traffic =
      subst (λ (s : Ideal). traffic_named (address_of p im.layout) (traffic_named (element_at p im.layout) s.traffic) ≡ s.traffic) (ap state_of e) (run-fixed input words steps) in
      record { ending = h.ending; traffic = sym own ∙ ap (traffic_named (address_of p im.layout)) h.traffic }

  pub means-by-elements : MeansByElements loose p im
  means-by-elements = record {
    forward = λ input words turns ends.
        let same = meant-given input words turns in
        let f = means.forward input (given words) turns (subst (λ (m : Meaning). m.end ≢ source.Turns) (sym same) ends) in (
          f.0,
          f.1,
          f.2,
          f.3,
          ends-at input words f.0 (meaning input words turns) f.1 f.2 f.3 (subst (λ (m : Meaning). EndsAsMeant p im m f.1 f.2) same f.4),
          subst (λ (m : Meaning). f.0 ≤ 32 * m.work) same f.5,
        );
    front = λ input words steps.
        let t : Traffic ℕ = (state_of (image_run loose im input (given words) steps)).traffic in
        subst (λ (s : Traffic ℕ). Extends s (traffic_named (address_of p im.layout) (meaning input words (64 * (steps + 1))).traffic)) (run-fixed input words steps)
        (named-extends (address_of p im.layout) (traffic_named (element_at p im.layout) t) (meaning input words (64 * (steps + 1))).traffic
        (subst (λ (m : Meaning). Extends (traffic_named (element_at p im.layout) t) m.traffic) (meant-given input words (64 * (steps + 1))) (means.front input (given words) steps)));
    ended = λ input words steps end state e.
        ends-at input words steps (meaning input words (64 * (steps + 1))) end state e
        (subst (λ (m : Meaning). EndsAsMeant p im m end state) (meant-given input words (64 * (steps + 1))) (means.ended input (given words) steps end state e));
  }
