-- Worked images: what a run of each comes to.
use Rattle.std.proofs.Common.{◌≡◌, ℕ, ◌+◌, List, [], ◌∷◌, ◌++◌, length, replicate, Option, None, Some, take, refl, ◌∙◌, ap, subst, arith, length-append, lit≤, lit<}
use Rattle.execution.specs.Run.{state_of}
use Rattle.aegis_edge.specs.Sink.{AppendsFront}
use Rattle.orbis_word.specs.Reading.{instruction_in, signed}
use Rattle.regions.specs.Addresses.{class_at}
use Rattle.image_file.specs.declared.Image.{Image}
use Rattle.orbis_core.specs.Ideal as machine
use Rattle.orbis_core.specs.Soundness.{small_layout}
use Rattle.flat_machine.specs.declared.ran.ImageEnd.TheVariants.{Ended, Index, Divide, FuelOut, WriteFault}
use Rattle.flat_machine.specs.ImageRuns.{EndsAfter, GoesOn, IsCutShort, machine_end, machine_run, released_in}
use Rattle.flat_machine.proofs.Runs.{ends-now, not-both, one-end}

-- an image of these four words of code, filled up with instructions that do nothing, that begins with this instruction
abbrev image_of : ℕ → ℕ → ℕ → ℕ → Image
image_of one two three four = record {
  layout = small_layout;
  entry = 0;
  constants = [];
  code = one ∷ two ∷ three ∷ four ∷ replicate 12 0x15000000;
  shared_words = refl;
  entry_inside = lit< tt;
  constants_whole = refl;
  code_whole = refl;
}

-- the low byte of 321 is released, and then it exits
abbrev hello : Image
hello = image_of 0x9c600141 0x70000006 0x70000001 0x15000000

-- an input byte is released, and then it ends at an index out of range, at place 5
abbrev echo : Image
echo = image_of 0x70000007 0x9c6b0000 0x70000006 0x70000001

-- it ends at an index out of range, or at a zero divisor, at place 5
abbrev index_at_five : Image
index_at_five = image_of 0x9c600005 0x70000009 0x15000000 0x15000000

abbrev divide_at_five : Image
divide_at_five = image_of 0x9c600005 0x7000000a 0x15000000 0x15000000

-- it stores 7 at a shared address, loads the word there again, and releases it: shared words change by stores alone
abbrev shared_seven : Image
shared_seven = record (image_of 0x9c600007 0xa8808000 0xd4041800 0x84a40000) {
  code = 0x9c600007 ∷ 0xa8808000 ∷ 0xd4041800 ∷ 0x84a40000 ∷ 0x9c650000 ∷ 0x70000006 ∷ 0x70000001 ∷ replicate 9 0x15000000;
  code_whole = refl;
}

released : (released_in hello [] 0 ≡ []) × (released_in hello [] 1 ≡ []) × (released_in hello [] 2 ≡ 65 ∷ []) × (released_in hello [] 9 ≡ 65 ∷ [])
unfolding instruction_in signed class_at
released = (refl, refl, refl, refl)

released_input : (released_in echo (200 ∷ 9 ∷ []) 3 ≡ 200 ∷ []) × (released_in echo [] 3 ≡ 255 ∷ [])
unfolding instruction_in signed class_at
released_input = (refl, refl)

released_shared : released_in shared_seven [] 6 ≡ 7 ∷ []
unfolding instruction_in signed class_at
released_shared = refl

-- the entry is the number of a word
released_from_entry : released_in (record hello { entry = 1; entry_inside = lit< tt }) [] 1 ≡ 0 ∷ []
unfolding instruction_in signed class_at
released_from_entry = refl

goes_on : GoesOn hello [] 2
unfolding instruction_in signed class_at
goes_on = (state_of (machine_run hello [] 2), refl)

ends_in_three : EndsAfter hello [] 3 machine.Ended
unfolding instruction_in signed class_at
ends_in_three = ends-now hello [] 2 machine.Ended (state_of (machine_run hello [] 3)) (state_of (machine_run hello [] 2), refl) refl

-- not in four steps, nor in another way; and it does not go on
not_in_four : EndsAfter hello [] 4 machine.Ended → ⊥
not_in_four ends = let one = one-end hello [] 3 4 machine.Ended machine.Ended ends_in_three ends in let wrong : 3 ≡ 4 = one.0 in absurd (omega arith)

not_otherwise : EndsAfter hello [] 3 (machine.Index 0) → ⊥
not_otherwise ends =
    let one = one-end hello [] 3 3 machine.Ended (machine.Index 0) ends_in_three ends in let wrong : machine.Ended ≡ machine.Index 0 = one.1 in absurd (cc)

does_not_go_on : GoesOn hello [] 3 → ⊥
does_not_go_on on = not-both hello [] 3 3 machine.Ended (lit≤ tt) ends_in_three on

ends_at_index : EndsAfter index_at_five [] 2 (machine.Index 5)
unfolding instruction_in signed class_at
ends_at_index = ends-now index_at_five [] 1 (machine.Index 5) (state_of (machine_run index_at_five [] 2)) (state_of (machine_run index_at_five [] 1), refl) refl

ends_at_divide : EndsAfter divide_at_five [] 2 (machine.Divide 5)
unfolding instruction_in signed class_at
ends_at_divide = ends-now divide_at_five [] 1 (machine.Divide 5) (state_of (machine_run divide_at_five [] 2)) (state_of (machine_run divide_at_five [] 1), refl) refl

ends_named : (machine_end Ended ≡ Some machine.Ended) × (machine_end (Index 5) ≡ Some (machine.Index 5)) × (machine_end (Divide 5) ≡ Some (machine.Divide 5))
    × (machine_end FuelOut ≡ None) × (machine_end WriteFault ≡ None)
ends_named = (refl, refl, refl, refl, refl)

-- a sink that held 9 did not take the byte of the second instruction
cut_short : IsCutShort hello [] 4 2 (Some (9 ∷ [])) (Some (9 ∷ []))
unfolding instruction_in signed class_at
cut_short = record {
  before = 1;
  byte = 65;
  middle = Some (9 ∷ []);
  last = refl;
  within = lit≤ tt;
  running = goes_on;
  released = refl;
  taken = refl;
  front = (0, refl);
}

-- not after the end, not past the fuel, and not by an instruction that releases nothing
not_cut_at_end : (fuel : ℕ) (old new : Option (List ℕ)) → IsCutShort hello [] fuel 3 old new → ⊥
not_cut_at_end fuel old new cut = does_not_go_on cut.running

not_cut_past_fuel : (old new : Option (List ℕ)) → IsCutShort hello [] 1 2 old new → ⊥
not_cut_past_fuel old new cut = let past = cut.within in absurd (omega arith)

not_cut_in_silence : (fuel : ℕ) (old new : Option (List ℕ)) → IsCutShort hello [] fuel 1 old new → ⊥
unfolding instruction_in signed class_at
not_cut_in_silence fuel old new cut =
    let first : cut.before ≡ 0 = omega (arith, cut.last) in
    let nothing : [] ≡ released_in hello [] cut.before ++ cut.byte ∷ [] = cut.released in
    let no_byte : 0 ≡ length (released_in hello [] cut.before ++ cut.byte ∷ []) = ap length nothing in
    absurd (omega (arith, no_byte, length-append (released_in hello [] cut.before) (cut.byte ∷ [])))

-- nor where the sink no longer has what it had
not_cut_after_loss : IsCutShort hello [] 4 2 (Some (9 ∷ [])) (Some []) → ⊥
unfolding instruction_in signed class_at
not_cut_after_loss cut =
    let second : cut.before ≡ 1 = omega (arith, cut.last) in
    let nothing : released_in hello [] cut.before ≡ [] = ap (λ n. released_in hello [] n) second in
    let middle : cut.middle ≡ Some (9 ∷ []) = cut.taken ∙ ap (λ (l : List ℕ). Some (9 ∷ l)) nothing in
    let front : AppendsFront (Some (9 ∷ [])) (Some []) (cut.byte ∷ []) = subst (λ (m : Option (List ℕ)). AppendsFront m (Some []) (cut.byte ∷ [])) middle cut.front in
    let lost : [] ≡ 9 ∷ take front.0 (cut.byte ∷ []) = cc in
    absurd (cc)
