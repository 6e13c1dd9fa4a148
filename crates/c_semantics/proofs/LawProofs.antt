-- The laws, for proofs here and in the crates above.
use Rattle.std.proofs.Common.{◌≡◌, ◌≢◌, ℕ, ◌+◌, ◌≤◌, inl, inr, ◌&&◌, ◌==◌, ◌%◌, ◌^◌, Bool, true, false, cond, List, [], ◌∷◌, ◌++◌, Option, Some, None, arith, refl, sym, ◌∙◌, ap, subst}
use Rattle.execution.specs.Traffic.{Element, Entry, Traffic, Extends, is_same_element, next_of, word_at, without_first, input_word, after_input, loose_word, after_loose, after_release, after_write, after_check, after_suspension}
use Rattle.execution.proofs.TrafficLemmas.{extends-refl, extends-trans, extends-input, extends-loose, extends-release, extends-write, extends-check, extends-suspension}
use Rattle.regions.specs.declared.rights.Class.{Class}
use Rattle.c_semantics.specs.declared.tree.Variable.{Variable}
use Rattle.c_semantics.specs.ResolvedTree.{Program}
use Rattle.c_semantics.specs.States.{Setting, State, End, Ended, Turns, Outcome, GoesOn, EndsAs, last_state, is_in, is_open, element_of, changed, tick, with_traffic, noting, writing, releasing}
use Rattle.c_semantics.specs.Meaning.{Meaning, meaning_of, first_state, outcome_of, mean}
use Rattle.c_semantics.proofs.Relating.{Alike, Holds, Relates, alike-program, keeps-program, keeps-statement}
use Rattle.c_semantics.specs.MeaningLaws.{MoreTurns, FewerTurns, FewerTurnsLessWork, TurnsAreUsed, Later, OnlyAdds, noting_none, IsSameButNotes, NotingChangesNothingElse, with_loose, ReadsNoEntry}

-- what is noted where a test holds
extends-noted : (noted : Bool) (t u : Traffic Element) → Extends t u → Extends t (cond noted u t)
extends-noted true t u h = h
extends-noted false t u h = extends-refl t

work-noted : (noted : Bool) (n : ℕ) → n ≤ cond noted (n + 1) n
work-noted true n = omega arith
work-noted false n = omega arith

later-refl : (s : State) → Later s s
later-refl s = record { traffic = extends-refl s.traffic; turns = omega arith; work = omega arith }

later-trans : (a b c : State) → Later a b → Later b c → Later a c
later-trans a b c h k = record {
  traffic = extends-trans a.traffic b.traffic c.traffic h.traffic k.traffic;
  turns = omega (arith, h.turns, k.turns);
  work = omega (arith, h.work, k.work);
}

-- what has come and gone alone is another one
later-traffic : (s : State) (t : Traffic Element) → Extends s.traffic t → Later s (with_traffic t s)
later-traffic s t h = record { traffic = h; turns = omega arith; work = omega arith }

-- a later state, and where the end is for want of turns, none is left
abbrev Last : State → End → State → Type 0
Last s e s' = Later s s' × (e ≡ Turns → s'.turns ≡ 0)

-- nothing relates the runs where the first has stopped
abbrev Nothing_after : State → State → Type 0
Nothing_after s s' = ⊥

-- the end, or another one where the run goes on
abbrev end_or : {A : Type 0} → End → Outcome A → End
end_or other (GoesOn v s) = other
end_or other (EndsAs e s) = e

one-run : (setting : Setting) → Relates setting.is_loose setting.is_noted setting.is_noted 0 (λ s s'. s ≡ s') Nothing_after Later Last
one-run setting = record {
  turns = λ s s' r. let e : s.turns ≡ s'.turns = ap (λ u. u.turns) r in omega (arith, e);
  same_memory = λ s s' r x i. ap (λ u. u.memory x i) r;
  same_input = λ s s' r. ap (λ u. input_word u.traffic) r;
  same_loose = λ s s' r x i l. ap (λ u. loose_word is_same_element (element_of x i) u.traffic) r;
  tick_too = λ s s' r. ap (tick setting) r;
  write_too = λ s s' r x i word. ap (writing setting x i word) r;
  input_too = λ s s' r. ap (λ u. with_traffic (after_input u.traffic) u) r;
  loose_too = λ s s' r x i word l e. ap (λ u. with_traffic (after_loose u.traffic) u) r;
  release_too = λ s s' r word. ap (releasing word) r;
  check_too = λ s s' r. ap (noting setting after_check) r;
  suspension_too = λ s s' r. ap (noting setting after_suspension) r;
  begin_too = λ s s' r left left' e e'.
      let same : s.turns ≡ s'.turns = ap (λ u. u.turns) r in
      let q : left ≡ left' = omega (arith, same, e, e') in
      ap (λ u. tick setting (record u { turns = left })) r ∙ ap (λ n. tick setting (record s' { turns = n })) q;
  stopped = λ s s' r e below. absurd (omega (arith, below));
  stays = later-refl;
  joins = later-trans;
  lowers = λ s s' h. h.turns;
  ticks = λ s. record { traffic = extends-refl s.traffic; turns = omega arith; work = work-noted setting.is_noted s.work };
  writes = λ s x i word. record {
    traffic = extends-noted (setting.is_noted && is_in is_open x.class) s.traffic (after_write (element_of x i) word s.traffic) (extends-write (element_of x i) word s.traffic);
    turns = omega arith;
    work = omega arith;
  };
  inputs = λ s. later-traffic s (after_input s.traffic) (extends-input s.traffic);
  takes = λ s x i word l e. later-traffic s (after_loose s.traffic) (extends-loose is_same_element (element_of x i) s.traffic word e);
  releases = λ s word. later-traffic s (after_release word s.traffic) (extends-release word s.traffic);
  checks = λ s. later-traffic s _ (extends-noted setting.is_noted s.traffic (after_check s.traffic) (extends-check s.traffic));
  suspends = λ s. later-traffic s _ (extends-noted setting.is_noted s.traffic (after_suspension s.traffic) (extends-suspension s.traffic));
  begins = λ s left e. record { traffic = extends-refl s.traffic; turns = omega (arith, e); work = work-noted setting.is_noted s.work };
  ends = λ a b c e h k. (later-trans a b c h k.0, k.1);
  at_once = λ s e other. (later-refl s, λ same. absurd (other same));
  no_turns = λ s e. (later-refl s, λ same. e);
  longer = λ s a b h k. h;
  longer_end = λ s a b e h k. h;
}

-- TurnsAreUsed
pub turns_are_used : TurnsAreUsed
turns_are_used setting program input loose turns state e =
    go (outcome_of setting program input loose turns) e (keeps-program setting.is_loose setting.is_noted setting.is_noted 0 (λ s s'. s ≡ s') Nothing_after Later Last (one-run setting) program.functions program.main (first_state program input loose turns))
  where
    go : (o : Outcome ℕ) → o ≡ EndsAs Turns state → Holds {A = ℕ} (λ v t u. Later t u) Last (first_state program input loose turns) o → state.turns ≡ 0
    go (GoesOn v t) h k = absurd (grind (arith, h))
    go (EndsAs end t) h k =
        let same_end : end ≡ Turns = ap (end_or Ended) h in
        let same : t ≡ state = ap last_state h in
        subst (λ u. u.turns ≡ 0) same (k.1 same_end)

-- the state that a run comes to is a later one
state-later : {A : Type 0} (s : State) (o : Outcome A) → Holds (λ v t u. Later t u) Last s o → Later s (last_state o)
state-later s (GoesOn v t) h = h
state-later s (EndsAs e t) h = h.0

pub only_adds : OnlyAdds
only_adds setting functions statement state =
    state-later state _ (keeps-statement setting.is_loose setting.is_noted setting.is_noted 0 (λ s s'. s ≡ s') Nothing_after Later Last (one-run setting) functions statement state)

-- the second run has so many turns more
abbrev With_more : ℕ → State → State → Type 0
With_more more s s' = s' ≡ record s { turns = s.turns + more }

-- the first run has no turn left, and the second has gone on
abbrev Gone_on : State → State → Type 0
Gone_on s s' = Extends s.traffic s'.traffic × (s.work ≤ s'.work)

more-turns : (setting : Setting) (more : ℕ) → Relates setting.is_loose setting.is_noted setting.is_noted more (With_more more) Gone_on Later Last
more-turns setting more = let one : Relates setting.is_loose setting.is_noted setting.is_noted 0 (λ s s'. s ≡ s') Nothing_after Later Last = one-run setting in record {
  turns = λ s s' r. ap (λ u. u.turns) r;
  same_memory = λ s s' r x i. sym (ap (λ u. u.memory x i) r);
  same_input = λ s s' r. sym (ap (λ u. input_word u.traffic) r);
  same_loose = λ s s' r x i l. sym (ap (λ u. loose_word is_same_element (element_of x i) u.traffic) r);
  tick_too = λ s s' r. ap (tick setting) r;
  write_too = λ s s' r x i word. ap (writing setting x i word) r;
  input_too = λ s s' r. ap (λ u. with_traffic (after_input u.traffic) u) r;
  loose_too = λ s s' r x i word l e. ap (λ u. with_traffic (after_loose u.traffic) u) r;
  release_too = λ s s' r word. ap (releasing word) r;
  check_too = λ s s' r. ap (noting setting after_check) r;
  suspension_too = λ s s' r. ap (noting setting after_suspension) r;
  begin_too = λ s s' r left left' e e'.
      let same : s'.turns ≡ s.turns + more = ap (λ u. u.turns) r in
      let q : left' ≡ left + more = omega (arith, same, e, e') in
      ap (λ u. tick setting (record u { turns = left' })) r ∙ ap (λ n. tick setting (record s { turns = n })) q;
  stopped = λ s s' r e below.
      let all : Extends s.traffic s'.traffic × (s.work ≤ s'.work) = subst (λ u. Gone_on s u) (sym r) (extends-refl s.traffic, omega arith) in all;
  stays = one.stays;
  joins = one.joins;
  lowers = one.lowers;
  ticks = one.ticks;
  writes = one.writes;
  inputs = one.inputs;
  takes = one.takes;
  releases = one.releases;
  checks = one.checks;
  suspends = one.suspends;
  begins = one.begins;
  ends = one.ends;
  at_once = one.at_once;
  no_turns = one.no_turns;
  longer = λ s a b h k. (extends-trans s.traffic a.traffic b.traffic h.0 k.traffic, omega (arith, h.1, k.work));
  longer_end = λ s a b e h k. let later : Later a b = k.0 in (extends-trans s.traffic a.traffic b.traffic h.0 later.traffic, omega (arith, h.1, later.work));
}

alike-more : (setting : Setting) (program : Program) (input : List ℕ) (loose : List (Entry Element)) (turns more : ℕ) →
    Alike (With_more more) Gone_on (outcome_of setting program input loose turns) (outcome_of setting program input loose (turns + more))
alike-more setting program input loose turns more =
    alike-program setting.is_loose setting.is_noted setting.is_noted more (With_more more) Gone_on Later Last (more-turns setting more) program.functions program.main (first_state program input loose turns) (first_state program input loose (turns + more)) refl

pub more_turns : MoreTurns
more_turns setting program input loose turns more ended =
    go (outcome_of setting program input loose turns) (outcome_of setting program input loose (turns + more)) ended (alike-more setting program input loose turns more)
  where
    go : (o o' : Outcome ℕ) → (meaning_of o).end ≢ Turns → Alike (With_more more) Gone_on o o' → meaning_of o' ≡ meaning_of o
    go (GoesOn v s) (GoesOn v' s') h a = ap (λ u. meaning_of (GoesOn 0 u)) a.1
    go (GoesOn v s) (EndsAs e' s') h a = absurd a
    go (EndsAs e s) (GoesOn v' s') h a = absurd (h a.0)
    go (EndsAs e s) (EndsAs e' s') h (inl a) = ap (λ u. meaning_of (EndsAs e' u)) a.1 ∙ ap (λ f. meaning_of (EndsAs f s)) (sym a.0)
    go (EndsAs e s) (EndsAs e' s') h (inr a) = absurd (h a.0)

-- both together
gone-on : (setting : Setting) (program : Program) (input : List ℕ) (loose : List (Entry Element)) (turns more : ℕ) →
    Extends (mean setting program input loose turns).traffic (mean setting program input loose (turns + more)).traffic × ((mean setting program input loose turns).work ≤ (mean setting program input loose (turns + more)).work)
gone-on setting program input loose turns more =
    go (outcome_of setting program input loose turns) (outcome_of setting program input loose (turns + more)) (alike-more setting program input loose turns more)
  where
    same : (s s' : State) → With_more more s s' → Gone_on s s'
    same s s' r = subst (λ u. Gone_on s u) (sym r) (extends-refl s.traffic, omega arith)

    go : (o o' : Outcome ℕ) → Alike (With_more more) Gone_on o o' → Extends (meaning_of o).traffic (meaning_of o').traffic × ((meaning_of o).work ≤ (meaning_of o').work)
    go (GoesOn v s) (GoesOn v' s') a = same s s' a.1
    go (GoesOn v s) (EndsAs e' s') a = absurd a
    go (EndsAs e s) (GoesOn v' s') a = a.1
    go (EndsAs e s) (EndsAs e' s') (inl a) = same s s' a.1
    go (EndsAs e s) (EndsAs e' s') (inr a) = a.1

pub fewer_turns : FewerTurns
fewer_turns setting program input loose turns more = (gone-on setting program input loose turns more).0

pub fewer_turns_less_work : FewerTurnsLessWork
fewer_turns_less_work setting program input loose turns more = (gone-on setting program input loose turns more).1

-- what has come and gone is the same but for what is noted
record SameTraffic (t u : Traffic Element) : Type 0 where
  input : t.input ≡ u.input
  loose : t.loose ≡ u.loose
  taken : t.taken ≡ u.taken
  bytes : t.bytes ≡ u.bytes
  releases : t.releases ≡ u.releases

record SameSeen (s s' : State) : Type 0 where
  memory : (x i : ℕ) → s.memory x i ≡ s'.memory x i
  turns : s.turns ≡ s'.turns
  traffic : SameTraffic s.traffic s'.traffic

-- a note changes nothing else
noted-same : (noted : Bool) (t n u : Traffic Element) → SameTraffic t u → SameTraffic n u → SameTraffic (cond noted n t) u
noted-same true t n u h k = k
noted-same false t n u h k = h

not-noted : (is_loose : Class → Bool) → Relates is_loose true false 0 SameSeen Nothing_after Later Last
not-noted is_loose = let one : Relates is_loose false false 0 (λ s s'. s ≡ s') Nothing_after Later Last = one-run (noting_none is_loose) in record {
  turns = λ s s' r. omega (arith, r.turns);
  same_memory = λ s s' r x i. r.memory x i;
  same_input = λ s s' r. ap next_of r.traffic.input;
  same_loose = λ s s' r x i l. ap (word_at is_same_element (element_of x i)) r.traffic.loose;
  tick_too = λ s s' r. record { memory = r.memory; turns = r.turns; traffic = r.traffic };
  write_too = λ s s' r x i word. record {
    memory = λ y j. ap (λ old. cond (x.token == y && i == j) word old) (r.memory y j);
    turns = r.turns;
    traffic = noted-same (is_in is_open x.class) s.traffic (after_write (element_of x i) word s.traffic) s'.traffic r.traffic (record {
      input = r.traffic.input;
      loose = r.traffic.loose;
      taken = r.traffic.taken;
      bytes = r.traffic.bytes;
      releases = r.traffic.releases;
    });
  };
  input_too = λ s s' r. record {
    memory = r.memory;
    turns = r.turns;
    traffic = record {
      input = ap without_first r.traffic.input;
      loose = r.traffic.loose;
      taken = r.traffic.taken;
      bytes = r.traffic.bytes;
      releases = r.traffic.releases;
    };
  };
  loose_too = λ s s' r x i word l e. record {
    memory = r.memory;
    turns = r.turns;
    traffic = record {
      input = r.traffic.input;
      loose = ap without_first r.traffic.loose;
      taken = ap (λ n. n + 1) r.traffic.taken;
      bytes = r.traffic.bytes;
      releases = r.traffic.releases;
    };
  };
  release_too = λ s s' r word. record {
    memory = r.memory;
    turns = r.turns;
    traffic = record {
      input = r.traffic.input;
      loose = r.traffic.loose;
      taken = r.traffic.taken;
      bytes = ap (λ all. all ++ (word % 2 ^ 8 ∷ [])) r.traffic.bytes;
      releases = ap (λ n. n + 1) r.traffic.releases;
    };
  };
  check_too = λ s s' r. record {
    memory = r.memory;
    turns = r.turns;
    traffic = record {
      input = r.traffic.input;
      loose = r.traffic.loose;
      taken = r.traffic.taken;
      bytes = r.traffic.bytes;
      releases = r.traffic.releases;
    };
  };
  suspension_too = λ s s' r. record {
    memory = r.memory;
    turns = r.turns;
    traffic = record {
      input = r.traffic.input;
      loose = r.traffic.loose;
      taken = r.traffic.taken;
      bytes = r.traffic.bytes;
      releases = r.traffic.releases;
    };
  };
  begin_too = λ s s' r left left' e e'. record { memory = r.memory; turns = omega (arith, r.turns, e, e'); traffic = r.traffic };
  stopped = λ s s' r e below. absurd (omega (arith, below));
  stays = one.stays;
  joins = one.joins;
  lowers = one.lowers;
  ticks = one.ticks;
  writes = one.writes;
  inputs = one.inputs;
  takes = one.takes;
  releases = one.releases;
  checks = one.checks;
  suspends = one.suspends;
  begins = one.begins;
  ends = one.ends;
  at_once = one.at_once;
  no_turns = one.no_turns;
  longer = one.longer;
  longer_end = one.longer_end;
}

same-seen : (s : State) → SameSeen s s
same-seen s = record {
  memory = λ x i. refl;
  turns = refl;
  traffic = record { input = refl; loose = refl; taken = refl; bytes = refl; releases = refl };
}

pub noting_changes_nothing_else : NotingChangesNothingElse
noting_changes_nothing_else is_loose program input loose turns =
    go _ _ (alike-program is_loose true false 0 SameSeen Nothing_after Later Last (not-noted is_loose) program.functions program.main (first_state program input loose turns) (first_state program input loose turns) (same-seen (first_state program input loose turns)))
  where
    from : (end end' : End) (s s' : State) → end ≡ end' → SameSeen s s' → IsSameButNotes (record { end = end; work = s.work; traffic = s.traffic }) (record { end = end'; work = s'.work; traffic = s'.traffic })
    from end end' s s' e r = record {
      end = e;
      bytes = r.traffic.bytes;
      input = r.traffic.input;
      loose = r.traffic.loose;
      taken = r.traffic.taken;
      releases = r.traffic.releases;
    }

    go : (o o' : Outcome ℕ) → Alike SameSeen Nothing_after o o' → IsSameButNotes (meaning_of o) (meaning_of o')
    go (GoesOn v s) (GoesOn v' s') a = from Ended Ended s s' refl a.1
    go (GoesOn v s) (EndsAs e' s') a = absurd a
    go (EndsAs e s) (GoesOn v' s') a = absurd a.1
    go (EndsAs e s) (EndsAs e' s') (inl a) = from e e' s s' a.0 a.1
    go (EndsAs e s) (EndsAs e' s') (inr a) = absurd a.1

-- no class of a variable is loose
never-loose : (is_loose : Class → Bool) → ((class : Class) → is_loose class ≡ false) → (class : Option Class) → is_in is_loose class ≡ true → ⊥
never-loose is_loose no_class None e = grind (arith, e)
never-loose is_loose no_class (Some class) e = grind (arith, e, no_class class)

-- no loose word is taken
record Untouched (s s' : State) : Type 0 where
  turns : s'.turns ≤ s.turns
  loose : s'.traffic.loose ≡ s.traffic.loose
  taken : s'.traffic.taken ≡ s.traffic.taken

abbrev Untouched_at : State → End → State → Type 0
Untouched_at s e s' = Untouched s s'

untouched-noted : (noted : Bool) (s : State) (n : Traffic Element) → n.loose ≡ s.traffic.loose → n.taken ≡ s.traffic.taken → Untouched s (with_traffic (cond noted n s.traffic) s)
untouched-noted true s n e f = record { turns = omega arith; loose = e; taken = f }
untouched-noted false s n e f = record { turns = omega arith; loose = refl; taken = refl }

-- two states that differ in the loose words alone
abbrev cleared : State → State
cleared s = record s { traffic = record s.traffic { loose = [] } }

abbrev Differ_in_loose : State → State → Type 0
Differ_in_loose s s' = cleared s ≡ cleared s'

no-loose : (setting : Setting) → ((class : Class) → setting.is_loose class ≡ false) → Relates setting.is_loose setting.is_noted setting.is_noted 0 Differ_in_loose Nothing_after Untouched Untouched_at
no-loose setting no_class = record {
  turns = λ s s' r. let e : s.turns ≡ s'.turns = ap (λ u. u.turns) r in omega (arith, e);
  same_memory = λ s s' r x i. ap (λ u. u.memory x i) r;
  same_input = λ s s' r. ap (λ u. input_word u.traffic) r;
  same_loose = λ s s' r x i l. absurd (never-loose setting.is_loose no_class x.class l);
  tick_too = λ s s' r. ap (tick setting) r;
  write_too = λ s s' r x i word. write-cleared s x i word ∙ ap (writing setting x i word) r ∙ sym (write-cleared s' x i word);
  input_too = λ s s' r. ap (λ u. with_traffic (after_input u.traffic) u) r;
  loose_too = λ s s' r x i word l e. absurd (never-loose setting.is_loose no_class x.class l);
  release_too = λ s s' r word. ap (releasing word) r;
  check_too = λ s s' r. check-cleared setting.is_noted s ∙ ap (noting setting after_check) r ∙ sym (check-cleared setting.is_noted s');
  suspension_too = λ s s' r. suspension-cleared setting.is_noted s ∙ ap (noting setting after_suspension) r ∙ sym (suspension-cleared setting.is_noted s');
  begin_too = λ s s' r left left' e e'.
      let same : s.turns ≡ s'.turns = ap (λ u. u.turns) r in
      let q : left ≡ left' = omega (arith, same, e, e') in
      ap (λ u. tick setting (record u { turns = left })) r ∙ ap (λ n. tick setting (record (cleared s') { turns = n })) q;
  stopped = λ s s' r e below. absurd (omega (arith, below));
  stays = λ s. record { turns = omega arith; loose = refl; taken = refl };
  joins = λ a b c h k. record { turns = omega (arith, h.turns, k.turns); loose = k.loose ∙ h.loose; taken = k.taken ∙ h.taken };
  lowers = λ s s' h. h.turns;
  ticks = λ s. record { turns = omega arith; loose = refl; taken = refl };
  writes = λ s x i word. let h : Untouched s (with_traffic (cond (setting.is_noted && is_in is_open x.class) (after_write (element_of x i) word s.traffic) s.traffic) s) = untouched-noted (setting.is_noted && is_in is_open x.class) s (after_write (element_of x i) word s.traffic) refl refl in record {
    turns = h.turns;
    loose = h.loose;
    taken = h.taken;
  };
  inputs = λ s. record { turns = omega arith; loose = refl; taken = refl };
  takes = λ s x i word l e. absurd (never-loose setting.is_loose no_class x.class l);
  releases = λ s word. record { turns = omega arith; loose = refl; taken = refl };
  checks = λ s. untouched-noted setting.is_noted s (after_check s.traffic) refl refl;
  suspends = λ s. untouched-noted setting.is_noted s (after_suspension s.traffic) refl refl;
  begins = λ s left e. record { turns = omega (arith, e); loose = refl; taken = refl };
  ends = λ a b c e h k. record { turns = omega (arith, h.turns, k.turns); loose = k.loose ∙ h.loose; taken = k.taken ∙ h.taken };
  at_once = λ s e other. record { turns = omega arith; loose = refl; taken = refl };
  no_turns = λ s e. record { turns = omega arith; loose = refl; taken = refl };
  longer = λ s a b h k. h;
  longer_end = λ s a b e h k. h;
}
  where
    write-cleared : (s : State) (x : Variable) (i word : ℕ) → cleared (writing setting x i word s) ≡ writing setting x i word (cleared s)
    write-cleared s x i word = go (setting.is_noted && is_in is_open x.class)
      where
        go : (b : Bool) → cleared (record s { memory = changed s.memory x.token i word; traffic = cond b (after_write (element_of x i) word s.traffic) s.traffic }) ≡ record (cleared s) { memory = changed s.memory x.token i word; traffic = cond b (after_write (element_of x i) word (cleared s).traffic) (cleared s).traffic }
        go true = refl
        go false = refl

    check-cleared : (b : Bool) (s : State) → cleared (with_traffic (cond b (after_check s.traffic) s.traffic) s) ≡ with_traffic (cond b (after_check (cleared s).traffic) (cleared s).traffic) (cleared s)
    check-cleared true s = refl
    check-cleared false s = refl

    suspension-cleared : (b : Bool) (s : State) → cleared (with_traffic (cond b (after_suspension s.traffic) s.traffic) s) ≡ with_traffic (cond b (after_suspension (cleared s).traffic) (cleared s).traffic) (cleared s)
    suspension-cleared true s = refl
    suspension-cleared false s = refl

untouched : (setting : Setting) → ((class : Class) → setting.is_loose class ≡ false) → (program : Program) (input : List ℕ) (loose : List (Entry Element)) (turns : ℕ) →
    Untouched (first_state program input loose turns) (last_state (outcome_of setting program input loose turns))
untouched setting no_class program input loose turns =
    go (outcome_of setting program input loose turns) (keeps-program setting.is_loose setting.is_noted setting.is_noted 0 Differ_in_loose Nothing_after Untouched Untouched_at (no-loose setting no_class) program.functions program.main (first_state program input loose turns))
  where
    go : (o : Outcome ℕ) → Holds {A = ℕ} (λ v t u. Untouched t u) Untouched_at (first_state program input loose turns) o → Untouched (first_state program input loose turns) (last_state o)
    go (GoesOn v t) h = h
    go (EndsAs e t) h = h

abbrev meaning_at : End → State → Meaning
meaning_at end s = record { end = end; work = s.work; traffic = s.traffic }

meaning-traffic : (o : Outcome ℕ) → (meaning_of o).traffic ≡ (last_state o).traffic
meaning-traffic (GoesOn v t) = refl
meaning-traffic (EndsAs e t) = refl

pub reads_no_entry : ReadsNoEntry
reads_no_entry = record {
  taken = λ setting no_class program input loose turns. ap (λ t. t.taken) (meaning-traffic (outcome_of setting program input loose turns)) ∙ (untouched setting no_class program input loose turns).taken;
  whatever = λ setting no_class program input loose turns.
      go loose (outcome_of setting program input loose turns) (outcome_of setting program input [] turns)
      (untouched setting no_class program input loose turns).loose
      (alike-program setting.is_loose setting.is_noted setting.is_noted 0 Differ_in_loose Nothing_after Untouched Untouched_at (no-loose setting no_class) program.functions program.main (first_state program input loose turns) (first_state program input [] turns) refl);
}
  where
    whole : (loose : List (Entry Element)) (end end' : End) (s s' : State) → end ≡ end' → s.traffic.loose ≡ loose → Differ_in_loose s s' →
        meaning_at end s ≡ with_loose loose (meaning_at end' s')
    whole loose end end' s s' e kept r =
        ap (λ left. with_loose left (meaning_at end s)) kept ∙ ap (λ u. with_loose loose (meaning_at end u)) r ∙ ap (λ f. with_loose loose (meaning_at f s')) e

    go : (loose : List (Entry Element)) (o o' : Outcome ℕ) → (last_state o).traffic.loose ≡ loose → Alike Differ_in_loose Nothing_after o o' → meaning_of o ≡ with_loose loose (meaning_of o')
    go loose (GoesOn v s) (GoesOn v' s') kept a = whole loose Ended Ended s s' refl kept a.1
    go loose (GoesOn v s) (EndsAs e' s') kept a = absurd a
    go loose (EndsAs e s) (GoesOn v' s') kept a = absurd a.1
    go loose (EndsAs e s) (EndsAs e' s') kept (inl a) = whole loose e e' s s' a.0 kept a.1
    go loose (EndsAs e s) (EndsAs e' s') kept (inr a) = absurd a.1
