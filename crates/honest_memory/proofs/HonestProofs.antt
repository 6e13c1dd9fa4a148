-- The law of honest memory.
use Rattle.std.proofs.Common.{◌≡◌, ◌≢◌, ℕ, ◌+◌, inl, inr, ◌%◌, ◌^◌, Bool, true, false, List, [], ◌∷◌, ◌++◌, length, arith, refl, sym, ◌∙◌, ap, subst}
use Rattle.std.proofs.Math.Nat.{mod-eq_of_lt}
use Rattle.std.specs.List.{AllByRecursion}
use Rattle.execution.specs.Traffic.{Element, Entry, is_same_element}
use Rattle.regions.specs.declared.rights.Class.{Class}
use Rattle.regions.specs.LooseClasses.{nothing_loose}
use Rattle.c_semantics.specs.ResolvedTree.{Program}
use Rattle.c_semantics.specs.States.{State, Starved, Outcome, GoesOn, EndsAs, last_state}
use Rattle.c_semantics.specs.Meaning.{meaning_of, outcome_of, first_state, mean, mean_alone, noting_all}
use Rattle.honest_memory.proofs.WordMemory.{end-has-words}
use Rattle.honest_memory.specs.HonestWords.{with_loose_fields, kept_at, IsHonest, HonestMeansAlone, IsRecordOf, HonestWordsExist}
use Rattle.honest_memory.specs.WordPrograms.{IsWord, ProgramHasWords}
use Rattle.honest_memory.proofs.FedRuns.{Words, fed_outcome, Agrees, Begins, Fails, Starves, pair-program}

-- two elements that the test finds to be one
same-element : (one other : Element) → is_same_element one other ≡ true → (one.variable ≡ other.variable) × (one.index ≡ other.index)
same-element one other e = (grind (arith, e), grind (arith, e))

-- words of which each one that is needed is the one that was noted, and which are enough, begin with those noted
follow : (all loose : Words) →
    ((before later : Words) (entry next : Entry Element) → loose ≡ before ++ (entry ∷ later) → Fails all before next → is_same_element next.place entry.place ≡ true → entry.word % 2 ^ 32 ≡ next.word) →
    ((next : Entry Element) → Fails all loose next → ⊥) → (left : Words) × Begins all loose left
follow [] loose kept never = (loose, refl)
follow (noted ∷ all) [] kept never = absurd (never noted refl)
follow (noted ∷ all) (entry ∷ loose) kept never =
    go (is_same_element noted.place entry.place) refl (λ agrees. follow all loose
    (λ before later entry' next h fails. kept (entry ∷ before) later entry' next (ap (λ xs. entry ∷ xs) h) (inr (agrees, fails)))
    (λ next fails. never next (inr (agrees, fails))))
  where
    go : (b : Bool) → is_same_element noted.place entry.place ≡ b → (Agrees noted entry → (left : Words) × Begins all loose left) → (left : Words) × Begins (noted ∷ all) (entry ∷ loose) left
    go false e later = absurd (never noted (inl (e, refl)))
    go true e later =
        let agrees : Agrees noted entry = record { place = e; word = kept [] loose entry noted refl refl e } in
        let rest : (left : Words) × Begins all loose left = later agrees in
        (rest.0, (agrees, rest.1))

-- the word of an entry is one
abbrev IsWordEntry : Entry Element → Type 0
IsWordEntry entry = IsWord entry.word

same-place : (place : Element) → is_same_element place place ≡ true
same-place place = grind arith

agrees-itself : (entry : Entry Element) → IsWordEntry entry → Agrees entry entry
agrees-itself entry small = record { place = same-place entry.place; word = mod-eq_of_lt small }

begins-itself : (all later : Words) → AllByRecursion IsWordEntry all → Begins all (all ++ later) later
begins-itself [] later small = refl
begins-itself (entry ∷ all) later small = (agrees-itself entry small.0, begins-itself all later small.1)

fails-at : (before later : Words) (entry : Entry Element) → AllByRecursion IsWordEntry before → Fails (before ++ (entry ∷ later)) before entry
fails-at [] later entry small = refl
fails-at (one ∷ before) later entry small = inr (agrees-itself one small.0, fails-at before later entry small.1)

fails-after : (all before later : Words) (entry : Entry Element) → all ≡ before ++ (entry ∷ later) → AllByRecursion IsWordEntry before → Fails all before entry
fails-after all before later entry e small = subst (λ words. Fails words before entry) (sym e) (fails-at before later entry small)

-- each entry has a word if each does where those before it do
all-words : (all : Words) → ((before later : Words) (entry : Entry Element) → all ≡ before ++ (entry ∷ later) → AllByRecursion IsWordEntry before → IsWordEntry entry) → AllByRecursion IsWordEntry all
all-words [] each = tt
all-words (entry ∷ all) each =
    let first : IsWordEntry entry = each [] all entry refl tt in
    (first, all-words all (λ before later next e small. each (entry ∷ before) later next (ap (λ xs. entry ∷ xs) e) (first, small)))

joined-parts : (before later : Words) (entry : Entry Element) → AllByRecursion IsWordEntry (before ++ (entry ∷ later)) → AllByRecursion IsWordEntry before × IsWordEntry entry
joined-parts [] later entry small = (tt, small.0)
joined-parts (one ∷ before) later entry small = let rest : AllByRecursion IsWordEntry before × IsWordEntry entry = joined-parts before later entry small.1 in ((small.0, rest.0), rest.1)

parts-of : (all before later : Words) (entry : Entry Element) → all ≡ before ++ (entry ∷ later) → AllByRecursion IsWordEntry all → AllByRecursion IsWordEntry before × IsWordEntry entry
parts-of all before later entry e small = joined-parts before later entry (subst (AllByRecursion IsWordEntry) e small)

fed-meaning : (left : Words) (taken : ℕ) (o : Outcome ℕ) → meaning_of (fed_outcome left taken o) ≡ with_loose_fields left taken (meaning_of o)
fed-meaning left taken (GoesOn v s) = refl
fed-meaning left taken (EndsAs e s) = refl

module _ (is_loose : Class → Bool) (program : Program) (input : List ℕ) (turns : ℕ) where
  abbrev start : State
  start = first_state program input [] turns

  -- what the run with nothing loose reads of these classes
  abbrev noted_words : Words
  noted_words = (pair-program is_loose true program.functions program.main).noted start

  begun-meaning : (loose left : Words) → Begins noted_words loose left → mean (noting_all is_loose) program input loose turns ≡ with_loose_fields left (length noted_words) (mean_alone program input turns)
  begun-meaning loose left b =
      let alone : Outcome ℕ = outcome_of (noting_all nothing_loose) program input [] turns in
      let count : 0 + length noted_words ≡ length noted_words = omega arith in
      let same : outcome_of (noting_all is_loose) program input loose turns ≡ fed_outcome left (length noted_words) alone =
      (pair-program is_loose true program.functions program.main).goes start loose left 0 b ∙ ap (λ n. fed_outcome left n alone) count in
      ap meaning_of same ∙ fed-meaning left (length noted_words) alone

  starved : (loose : Words) (next : Entry Element) → Fails noted_words loose next → Starves (outcome_of (noting_all is_loose) program input loose turns) next
  starved loose next f = (pair-program is_loose true program.functions program.main).stops start loose 0 next f

  begins-noted : (loose : Words) → IsHonest is_loose program input turns loose → (mean (noting_all is_loose) program input loose turns).end ≢ Starved → (left : Words) × Begins noted_words loose left
  begins-noted loose honest ended = follow noted_words loose kept never
    where
      kept : (before later : Words) (entry next : Entry Element) → loose ≡ before ++ (entry ∷ later) → Fails noted_words before next → is_same_element next.place entry.place ≡ true → entry.word % 2 ^ 32 ≡ next.word
      kept before later entry next e f same =
          let k : Starves (outcome_of (noting_all is_loose) program input before turns) next = starved before next f in
          let t : State = k.0 in
          let places : (next.place.variable ≡ entry.place.variable) × (next.place.index ≡ entry.place.index) = same-element next.place entry.place same in
          honest before later entry t e k.1 ∙ ap (λ v. t.memory v entry.place.index) (sym places.0) ∙ ap (λ i. t.memory next.place.variable i) (sym places.1) ∙ k.2

      never : (next : Entry Element) → Fails noted_words loose next → ⊥
      never next f = let k : Starves (outcome_of (noting_all is_loose) program input loose turns) next = starved loose next f in ended (ap (λ o. (meaning_of o).end) k.1)

  enough-words : (loose : Words) → IsHonest is_loose program input turns loose → (mean (noting_all is_loose) program input loose turns).end ≢ Starved →
      mean (noting_all is_loose) program input loose turns ≡
      with_loose_fields (mean (noting_all is_loose) program input loose turns).traffic.loose (mean (noting_all is_loose) program input loose turns).traffic.taken (mean_alone program input turns)
  enough-words loose honest ended =
      let b : (left : Words) × Begins noted_words loose left = begins-noted loose honest ended in
      let e : mean (noting_all is_loose) program input loose turns ≡ with_loose_fields b.0 (length noted_words) (mean_alone program input turns) = begun-meaning loose b.0 b.1 in
      e ∙ ap (λ m. with_loose_fields m.traffic.loose m.traffic.taken (mean_alone program input turns)) (sym e)

  -- where the numbers of the program are words, those that are noted are
  noted-words : ProgramHasWords program → AllByRecursion IsWordEntry noted_words
  noted-words words = all-words noted_words word
    where
      word : (before later : Words) (entry : Entry Element) → noted_words ≡ before ++ (entry ∷ later) → AllByRecursion IsWordEntry before → IsWordEntry entry
      word before later entry e small =
          let k : Starves (outcome_of (noting_all is_loose) program input before turns) entry = starved before entry (fails-after noted_words before later entry e small) in
          subst IsWord k.2 (end-has-words (noting_all is_loose) program input before turns Starved k.0 words k.1 entry.place.variable entry.place.index)

  recorded-words : ProgramHasWords program → IsRecordOf is_loose program input turns noted_words
  recorded-words words = record {
    honest = λ before later entry state e starves.
        let n : (t : State) × (outcome_of (noting_all is_loose) program input before turns ≡ EndsAs Starved t) × (entry.word ≡ kept_at entry t) = needed before later entry e in
        let small : AllByRecursion IsWordEntry before × IsWordEntry entry = parts-of noted_words before later entry e (noted-words words) in
        mod-eq_of_lt small.1 ∙ n.2 ∙ ap (λ o. kept_at entry (last_state o)) (sym n.1 ∙ starves);
    needed = needed;
    enough = λ later. begun-meaning (noted_words ++ later) later (begins-itself noted_words later (noted-words words));
    taken = λ loose honest ended.
        let b : (left : Words) × Begins noted_words loose left = begins-noted loose honest ended in
        ap (λ m. m.traffic.taken) (begun-meaning loose b.0 b.1);
  }
    where
      needed : (before later : Words) (entry : Entry Element) → noted_words ≡ before ++ (entry ∷ later) →
          (state : State) × (outcome_of (noting_all is_loose) program input before turns ≡ EndsAs Starved state) × (entry.word ≡ kept_at entry state)
      needed before later entry e =
          let small : AllByRecursion IsWordEntry before × IsWordEntry entry = parts-of noted_words before later entry e (noted-words words) in
          let k : Starves (outcome_of (noting_all is_loose) program input before turns) entry = starved before entry (fails-after noted_words before later entry e small.0) in
          (k.0, k.1, sym k.2)

pub honest_means_alone : HonestMeansAlone
honest_means_alone is_loose program input loose turns = enough-words is_loose program input turns loose

pub honest_words_exist : HonestWordsExist
honest_words_exist is_loose program input turns words = (noted_words is_loose program input turns, recorded-words is_loose program input turns words)
