-- The image of lawful flat code does what the code means.
use Rattle.std.proofs.Common.{◌≡◌, ℕ, ◌+◌, ◌-◌, ◌*◌, ◌^◌, ◌<◌, ◌≤◌, Bool, true, false, not, ◌==◌, cond, List, ◌++◌, length, map, take, replicate, Option, Some, arith, refl, sym, ◌∙◌, ap, subst, append_assoc}
use Rattle.std.proofs.lemmas.Bool.{eqb-true, true≢false}
use Rattle.std.specs.Prelude.{slice_index}
use Rattle.std.specs.List.{slice_get}
use Rattle.execution.specs.Run.{Next, Goes, Stops, and_then, state_of}
use Rattle.execution.specs.Traffic.{Element, Entry}
use Rattle.execution.specs.Naming.{Addressed, name_by, element_by, entry_named}
use Rattle.execution.proofs.RunLemmas.{run-+}
use Rattle.execution.proofs.NamingLemmas.{name-test, name-address, is-naming, named-entries}
use Rattle.regions.specs.declared.Class.{Class}
use Rattle.regions.specs.declared.Class.TheVariants.{Open, Verified, Private, Constant, Code, Logged}
use Rattle.regions.specs.Addresses.{start_of, LiesIn}
use Rattle.regions.proofs.AddressLaws.{LiesIn-class_at}
use Rattle.orbis_core.specs.ByteOrder.{bytes_of, words_in}
use Rattle.orbis_word.specs.declared.Instr.TheVariants.{Nop}
use Rattle.orbis_core.specs.Ideal as ideal
use Rattle.orbis_core.specs.Ideal.{Ideal, IdealEnd, ideal_step, ideal_start, static_memory}
use Rattle.orbis_core.specs.IdealLaws.{IsWholeState}
use Rattle.orbis_core.specs.declared.memory.Why.{Why}
use Rattle.orbis_core.proofs.WholeLemmas.{states-whole}
use Rattle.orbis_core.proofs.FlatLaws.{length-bytes_of}
use Rattle.ir_code.specs.declared.Cell.{Cell}
use Rattle.ir_code.specs.declared.Ir.{Ir}
use Rattle.ir_code.specs.FlatStates as flat
use Rattle.ir_code.specs.FlatStates.{Word, FlatState, FlatEnd, words_of, class_of, class_in, first_flat, first_in, element_at}
use Rattle.ir_code.specs.FlatMeaning.{flat_run}
use Rattle.ir_code.specs.OpTable.{start_weight}
use Rattle.ir_code.specs.Lawful.{IsLawful, has_first, is_constant, is_code, is_data}
use Rattle.region_plan.specs.Homes.{home_address, first_address, class_words}
use Rattle.region_plan.proofs.HomeLaws.{IsPlaced, placed, first-aligned, hold-at, IsCell, cell-of}
use Rattle.image_file.specs.declared.Image.{Image}
use Rattle.image_file.specs.ImageTable.{static_bytes, HoldsWords}
use Rattle.codegen.specs.OpInstructions.{instructions_of, start_code}
use Rattle.codegen.specs.ImageCode.{code_blocks, code_from, code_of, code_size, constant_words, offset_of, start_size}
use Rattle.codegen.specs.EmittedImage.{IsImageOf, elements_from, address_name, image_run, machine_end, EndsLikeCode, IsAhead, MeansCode, HasFirstWords, ImagesMeanCode}
use Rattle.codegen.proofs.Registers.{zeros}
use Rattle.codegen.proofs.Comes.{World, Fits, HasCode, Related, Tied, address_of, sites, standing, steps_of, word_held}
use Rattle.codegen.proofs.Elements.{elements-apart, element-listed}
use Rattle.codegen.proofs.Ops.{forgot}
use Rattle.codegen.proofs.Placing.{length-code, op-stands, offset-le, rest-of}
use Rattle.codegen.proofs.Running.{Laid, NeverStuck, forwards, Back, backwards}
use Rattle.codegen.proofs.Starting.{after-start, begins}
use Rattle.codegen.proofs.Statics.{index-after, all-join, bytes-small, empty-index, image-words, constant-at, static-inside, static-outside, words-stand}

module _ (loose : Class → Bool) (ir : Ir) (image : Image) (lawful : IsLawful loose ir) (first : HasFirstWords ir.cells) (is : IsImageOf ir image) (holds : HoldsWords image) where
  pub world : World
  world = record {
    layout = image.layout;
    loose = loose;
    ir = ir;
    home = home_address image.layout ir;
    static = static_memory image.layout (static_bytes image);
    name = address_name image.layout ir;
  }

  at-home : IsPlaced image.layout ir
  at-home = placed image.layout ir (code_blocks ir) is.sizes lawful.form.no_code

  shared-home : (c : ℕ) (class : Class) → class ≡ Open → 0x8000 ≤ first_address image.layout class + 4 * class_words class (take c ir.cells)
  shared-home c Open is = omega arith
  shared-home c Verified is = absurd (grind (arith, is))
  shared-home c Private is = absurd (grind (arith, is))
  shared-home c Constant is = absurd (grind (arith, is))
  shared-home c Code is = absurd (grind (arith, is))
  shared-home c Logged is = absurd (grind (arith, is))

  fits : Fits world
  unfolding world
  fits = record {
    in_class = at-home.classes;
    aligned = λ c. first-aligned image.layout (class_of ir c) (class_words (class_of ir c) (take c ir.cells));
    apart = at-home.apart;
    named = λ c i below. name-address (elements_from (home_address image.layout ir) 0 ir.cells) (elements-apart ir (home_address image.layout ir) at-home.apart) _
        (element-listed ir (home_address image.layout ir) c i below);
    tells = name-test (elements_from (home_address image.layout ir) 0 ir.cells);
    shared = λ c is. shared-home c (class_of ir c) is;
    small = λ place.
        let most : offset_of ir.ops place ≤ code_size ir.ops = offset-le ir.ops place in
        let blocks : image.layout.code ≡ code_blocks ir = is.sizes.code in
        let limit : image.layout.verified + image.layout.private + image.layout.constants + image.layout.code ≤ 6561 = image.layout.data_fits in
        omega (arith, most, blocks, limit);
  }

  -- ---- the words before the first step

  padding : ℕ
  padding = 16 * image.layout.constants - length (constant_words ir.cells)

  abbrev constants : List ℕ
  constants = constant_words ir.cells ++ replicate (16 * image.layout.constants - length (constant_words ir.cells)) 0

  all-words : words_in (static_bytes image) ≡ constants ++ image.code
  all-words =
      ap (λ (t : List ℕ). words_in (t ++ bytes_of image.code)) is.constants
      ∙ image-words ir.cells (16 * image.layout.constants - length (constant_words ir.cells)) image.code first holds.code

  constants-whole : length constants ≡ 16 * image.layout.constants
  constants-whole =
      let bytes : 4 * length constants ≡ 64 * image.layout.constants = sym (length-bytes_of constants) ∙ sym (ap length is.constants) ∙ image.constants_whole in
      omega (arith, bytes)

  pub code-whole : length image.code ≡ 16 * image.layout.code
  code-whole = image.code_whole

  pub static-code : (j : ℕ) → j < length image.code → static_memory image.layout (static_bytes image) (start_of image.layout Code + 4 * (0 + j)) ≡ slice_index image.code j
  static-code j below =
      let place : start_of image.layout Code + 4 * (0 + j) ≡ start_of image.layout Constant + 4 * (length constants + j) = omega (arith, constants-whole) in
      static-inside image.layout (static_bytes image) (start_of image.layout Code + 4 * (0 + j)) (length constants + j) place (omega (arith, constants-whole, code-whole, below))
      ∙ ap (λ (t : List ℕ). slice_index t (length constants + j)) all-words ∙ index-after constants image.code j

  code-stands : HasCode world (start_of image.layout Code + 4 * 0) (code_of (home_address image.layout ir) ir) (start_of image.layout Code + 4 * (0 + length (code_of (home_address image.layout ir) ir)))
  unfolding world
  code-stands = record { all = words-stand world image.code (code_of (home_address image.layout ir) ir) 0 is.code (omega (arith, code-whole)) static-code }

  -- that of the start comes after that of the operations
  start-stands : HasCode world (start_of image.layout Code + 4 * code_size ir.ops)
      (start_code (code_size ir.ops) (offset_of ir.ops ir.entry) ++ replicate (16 * code_blocks ir - (code_size ir.ops + start_size)) (Nop 0))
      (start_of image.layout Code + 4 * (0 + length (code_of (home_address image.layout ir) ir)))
  unfolding world
  start-stands =
      let size : length (code_from (sites world) 0 ir.ops) ≡ code_size ir.ops = length-code (sites world) 0 ir.ops in
      let place : start_of image.layout Code + 4 * 0 + 4 * length (code_from (sites world) 0 ir.ops) ≡ start_of image.layout Code + 4 * code_size ir.ops = omega (arith, size) in
      subst (λ (n : ℕ). HasCode world n (start_code (code_size ir.ops) (offset_of ir.ops ir.entry) ++ replicate (16 * code_blocks ir - (code_size ir.ops + start_size)) (Nop 0))
      (start_of image.layout Code + 4 * (0 + length (code_of (home_address image.layout ir) ir)))) place
      (rest-of world (code_from (sites world) 0 ir.ops) (start_code (code_size ir.ops) (offset_of ir.ops ir.entry) ++ replicate (16 * code_blocks ir - (code_size ir.ops + start_size)) (Nop 0))
      (start_of image.layout Code + 4 * 0) _ code-stands)

  laid : Laid world
  unfolding world
  laid = record {
    fits = fits;
    form = lawful.form;
    stands = λ place o there.
        let start : start_of image.layout Code + 4 * 0 ≡ start_of image.layout Code = omega arith in
        let number : 0 + offset_of ir.ops place ≡ offset_of ir.ops place = omega arith in
        subst (λ (n : ℕ). HasCode world (address_of world place) (instructions_of (sites world) n o) (address_of world (place + 1))) number
        (op-stands world (sites world) ir.ops (start_code (code_size ir.ops) (offset_of ir.ops ir.entry) ++ replicate (16 * code_blocks ir - (code_size ir.ops + start_size)) _) 0 (start_of image.layout Code) _ place o
        (subst (λ (n : ℕ). HasCode world n (code_of (home_address image.layout ir) ir) (start_of image.layout Code + 4 * (0 + length (code_of (home_address image.layout ir) ir)))) start code-stands) there);
  }

  -- ---- the start

  starts-with : (c i : ℕ) → i < words_of ir c → static_memory image.layout (static_bytes image) (home_address image.layout ir c + 4 * i) ≡ word_held world (first_in (slice_get ir.cells c) i)
  starts-with c i below =
      let cell : IsCell ir c = cell-of ir c i below in
      go cell.cell cell.there cell.words cell.class (hold-at has_first ir.cells c cell.cell lawful.form.first cell.there) (hold-at is_data ir.cells c cell.cell lawful.form.no_code cell.there) cell.cell.class refl
      ∙ sym (ap (λ (found : Option Cell). word_held world (first_in found i)) cell.there)
    where
      at : ℕ
      at = home_address image.layout ir c + 4 * i

      outside : (cell : Cell) (class : Class) → class_of ir c ≡ cell.class → cell.class ≡ class → (class ≡ Constant → ⊥) → (class ≡ Code → ⊥) → cond (is_constant class) (length cell.first == cell.words) (length cell.first == 0) ≡ true →
          is_constant class ≡ false → static_memory image.layout (static_bytes image) at ≡ slice_index cell.first i
      outside cell class same is_class none other firsts plain =
          static-outside image.layout (static_bytes image) at class (at-home.classes c i below ∙ ap (λ (x : Class). Some x) (same ∙ is_class)) none other
          ∙ sym (empty-index cell.first i (eqb-true (length cell.first) 0 (sym (ap (λ (t : Bool). cond t (length cell.first == cell.words) (length cell.first == 0)) plain) ∙ firsts)))

      inside : (cell : Cell) → slice_get ir.cells c ≡ Some cell → words_of ir c ≡ cell.words → class_of ir c ≡ Constant → cell.class ≡ Constant → (length cell.first == cell.words) ≡ true →
          static_memory image.layout (static_bytes image) at ≡ slice_index cell.first i
      inside cell there words same is_class firsts =
          let k : ℕ = class_words Constant (take c ir.cells) + i in
          let count : length cell.first ≡ cell.words = eqb-true (length cell.first) cell.words firsts in
          let home : home_address image.layout ir c ≡ start_of image.layout Constant + 4 * class_words Constant (take c ir.cells) =
          ap (λ (x : Class). first_address image.layout x + 4 * class_words x (take c ir.cells)) same in
          let place : at ≡ start_of image.layout Constant + 4 * k = omega (arith, home) in
          let lies : LiesIn image.layout Constant at = LiesIn-class_at image.layout at Constant (at-home.classes c i below ∙ ap (λ (x : Class). Some x) same) in
          static-inside image.layout (static_bytes image) at k place (omega (arith, lies, place))
          ∙ ap (λ (t : List ℕ). slice_index t k) (all-words ∙ append_assoc (constant_words ir.cells) (replicate (16 * image.layout.constants - length (constant_words ir.cells)) 0) image.code)
          ∙ constant-at ir.cells c i cell (replicate (16 * image.layout.constants - length (constant_words ir.cells)) 0 ++ image.code) there (ap is_constant is_class) (omega (arith, below, count, words)) lawful.form.first

      go : (cell : Cell) → slice_get ir.cells c ≡ Some cell → words_of ir c ≡ cell.words → class_of ir c ≡ cell.class → has_first cell ≡ true → is_data cell ≡ true → (class : Class) → cell.class ≡ class →
          static_memory image.layout (static_bytes image) at ≡ slice_index cell.first i
      go cell there words same firsts plain Open e = outside cell Open same e (λ x. cc) (λ x. cc) (sym (ap (λ (x : Class). cond (is_constant x) (length cell.first == cell.words) (length cell.first == 0)) e) ∙ firsts) refl
      go cell there words same firsts plain Verified e = outside cell Verified same e (λ x. cc) (λ x. cc) (sym (ap (λ (x : Class). cond (is_constant x) (length cell.first == cell.words) (length cell.first == 0)) e) ∙ firsts) refl
      go cell there words same firsts plain Private e = outside cell Private same e (λ x. cc) (λ x. cc) (sym (ap (λ (x : Class). cond (is_constant x) (length cell.first == cell.words) (length cell.first == 0)) e) ∙ firsts) refl
      go cell there words same firsts plain Logged e = outside cell Logged same e (λ x. cc) (λ x. cc) (sym (ap (λ (x : Class). cond (is_constant x) (length cell.first == cell.words) (length cell.first == 0)) e) ∙ firsts) refl
      go cell there words same firsts plain Constant e = inside cell there words (same ∙ e) e (sym (ap (λ (x : Class). cond (is_constant x) (length cell.first == cell.words) (length cell.first == 0)) e) ∙ firsts)
      go cell there words same firsts plain Code e = absurd (true≢false (sym plain ∙ ap (λ (x : Class). not (is_code x)) e))

  module _ (input : List ℕ) (entries : List (Entry Element)) where
    abbrev words : List (Entry ℕ)
    words = map (entry_named (address_name image.layout ir)) entries

    abbrev start : Ideal
    start = ideal_start image.layout (static_bytes image) image.entry input words

    abbrev flat_start : FlatState
    flat_start = first_flat ir input entries

    -- the machine after the start
    begun : Ideal
    begun = standing world (address_of world ir.entry) false zeros flat_start (static_memory image.layout (static_bytes image))

    first-tied : Tied world flat_start.cells (static_memory image.layout (static_bytes image))
    unfolding world
    first-tied = record { held = λ c i below kept. starts-with c i below; code = λ at class. refl }

    came : steps_of world start_size start ≡ Goes begun
    unfolding world begun
    came =
        ap (λ (n : ℕ). steps_of world start_size (ideal_start image.layout (static_bytes image) n input words)) is.entry
        ∙ begins world fits flat_start (static_memory image.layout (static_bytes image)) first-tied (code_size ir.ops) ir.entry _ _ start-stands

    start-related : Related world flat_start begun
    unfolding world begun
    start-related = record { flag = false; registers = zeros; memory = static_memory image.layout (static_bytes image); is = refl; tied = first-tied; handed = forgot world zeros }

    start-whole : IsWholeState begun
    unfolding world
    start-whole =
        subst (λ (next : Next Ideal IdealEnd). IsWholeState (state_of next)) came
        (states-whole image.layout loose (static_bytes image) image.entry input words start_size
        (all-join (λ byte. byte < 2 ^ 8) image.constants (bytes_of image.code) holds.constants (bytes-small image.code)) image.entry_inside)

    never : NeverStuck world flat_start
    unfolding world
    never n at e = lawful.runs input entries n at e

    means-forward : (ops : ℕ) (end : FlatEnd) (at : FlatState) → flat_run loose ir input entries ops ≡ Stops end at →
        (steps : ℕ) × (final : IdealEnd) × (state : Ideal) × (image_run loose image input words steps ≡ Stops final state) × EndsLikeCode (address_name image.layout ir) end at final state × (steps ≤ at.weight)
    unfolding world
    means-forward ops end at e =
        let r = forwards world laid ops flat_start begun end at start-related start-whole never e in
        let few : r.1.n ≤ r.0 = r.1.few in
        let bound : r.0 + start_weight ≤ at.weight = r.2 in
        let ran : steps_of world (start_size + r.1.n) start ≡ Stops r.1.final r.1.to =
        run-+ (ideal_step image.layout loose) start_size r.1.n start ∙ ap (λ (x : Next Ideal IdealEnd). and_then x (steps_of world r.1.n)) came ∙ r.1.ran in
        (start_size + r.1.n, r.1.final, r.1.to, ran, record { ending = r.1.ending; traffic = r.1.traffic }, omega (arith, few, bound))

    back : (steps : ℕ) → Back world flat_start start steps
    back = after-start world start_size flat_start start begun came start-related (λ k. backwards world laid k flat_start begun start-related start-whole never)

    means-backward : (steps : ℕ) → IsAhead (address_name image.layout ir) (flat_run loose ir input entries) steps (state_of (image_run loose image input words steps))
    unfolding world
    means-backward steps =
        let r = back steps in
        let jumped : (state_of (flat_run loose ir input entries r.ops)).jumps ≤ 0 + steps = r.jumped in
        record { ops = r.ops; jumped = omega (arith, jumped); traffic = r.traffic }

    means-ended : (steps : ℕ) (final : IdealEnd) (state : Ideal) → image_run loose image input words steps ≡ Stops final state →
        (ops : ℕ) × (end : FlatEnd) × (at : FlatState) × (flat_run loose ir input entries ops ≡ Stops end at) × EndsLikeCode (address_name image.layout ir) end at final state × (at.jumps ≤ steps)
    unfolding world
    means-ended steps final state ran =
        let r = back steps in
        let z = r.ended final state ran in
        let jumped : z.1.jumps ≤ 0 + steps = subst (λ (x : Next FlatState FlatEnd). (state_of x).jumps ≤ 0 + steps) z.2 r.jumped in
        (r.ops, z.0, z.1, z.2, record { ending = z.3; traffic = z.4 }, omega (arith, jumped))

  no-refusal : (end : FlatEnd) (why : Why) → machine_end end ≡ Some (ideal.Refused why) → ⊥
  no-refusal flat.Ended why e = cc
  no-refusal (flat.Index at) why e = cc
  no-refusal (flat.Divide at) why e = cc
  no-refusal flat.Starved why e = cc
  no-refusal flat.Stuck why e = cc

  pub means : MeansCode loose ir image
  means = record {
    forward = λ input entries ops end at e. means-forward input entries ops end at e;
    backward = λ input entries steps. means-backward input entries steps;
    ended = λ input entries steps final state ran. means-ended input entries steps final state ran;
    never_refused = λ input words steps why state ran.
        let list : List Addressed = elements_from (home_address image.layout ir) 0 ir.cells in
        let entries : List (Entry Element) = map (entry_named (element_by list)) words in
        let same : map (entry_named (name_by list)) entries ≡ words = named-entries (name_by list) (element_by list) (is-naming list) words in
        let r = means-ended input entries steps (ideal.Refused why) state (ap (λ (t : List (Entry ℕ)). image_run loose image input t steps) same ∙ ran) in
        no-refusal r.1 why r.4.ending;
  }

pub images-mean-code : ImagesMeanCode
images-mean-code loose ir image lawful first is holds = means loose ir image lawful first is holds
