-- One event more in a plain memory.
use Rattle.std.proofs.Common.{◌≡◌, ℕ, List, [], ◌∷◌, ◌++◌, length, sym, ap, subst, ◌∙◌, take, drop, inl, inr, ◌⊎◌, Some}
use Rattle.std.specs.Prelude.{IfSome}
use Rattle.std.proofs.lemmas.List.{take_at}
use Rattle.regions.specs.declared.layout.Layout.{Layout}
use Rattle.off_chip.specs.declared.event.Event.{Event}
use Rattle.off_chip.specs.OffChipBytes.{bytes_loaded, bytes_put, Holds, after_event, after_events, IsAnswered}
use Rattle.off_chip.proofs.AnswerLemmas.{after_events-more, IsAnswered-more}
use Rattle.off_chip.specs.declared.event.Event.TheVariants.{Note}
use Rattle.off_chip.specs.declared.event.Mark.{Mark}
use Rattle.off_chip.specs.declared.event.Mark.TheVariants.{Drop}
use Rattle.off_chip.specs.BlockPlaces.{LiesInside}
use Rattle.off_chip.specs.BusCalls.{IsMarkInside}
use Rattle.off_chip.specs.HonestMemory.{moved_block, IsWhole}
use Rattle.off_chip.specs.PlainInvariant.{IsPlainMemory}

-- what holds of each event of a trace and of one more
push-split : (trace : List Event) (event : Event) (before : List Event) (e : Event) (rest : List Event) → trace ++ event ∷ [] ≡ before ++ e ∷ rest
    → ((more : List Event) × (trace ≡ before ++ e ∷ more)) ⊎ (event ≡ e)
push-split [] event [] e rest same = inr cc
push-split [] event (b ∷ []) e rest same = cc
push-split [] event (b ∷ c ∷ before) e rest same = cc
push-split (x ∷ trace) event [] e rest same = let head : x ≡ e = cc in inl (trace, ap (λ (y : Event). y ∷ trace) head)
push-split (x ∷ trace) event (b ∷ before) e rest same =
    let head : x ≡ b = cc in
    let tail : trace ++ event ∷ [] ≡ before ++ e ∷ rest = cc in
    elim (push-split trace event before e rest tail) [
      | inl at ↦ inl (at.0, ap (λ (y : Event). y ∷ trace) head ∙ ap (λ (ys : List Event). b ∷ ys) at.1)
      | inr here ↦ inr here
    ]

pub nothing_in : (P : Event → Type 0) (before : List Event) (e : Event) (rest : List Event) → [] ≡ before ++ e ∷ rest → P e
nothing_in P [] e rest same = cc
nothing_in P (b ∷ before) e rest same = cc

-- a mark that lies inside
pub mark-inside : (layout : Layout) (mark : Mark) → IsMarkInside (Some layout) mark → LiesInside layout (Note mark)
mark-inside layout (Drop place) inside = record { place = inside; address = tt }
mark-inside layout mark inside = record { place = tt; address = tt }

pub each-push : (P : Event → Type 0) (trace : List Event) (event : Event) → ((before : List Event) (e : Event) (rest : List Event) → trace ≡ before ++ e ∷ rest → P e) → P event
    → (before : List Event) (e : Event) (rest : List Event) → trace ++ event ∷ [] ≡ before ++ e ∷ rest → P e
each-push P trace event each here before e rest same =
    elim (push-split trace event before e rest same) [ inl at ↦ each before e at.0 at.1 | inr is ↦ subst P is here ]

pub IsPlainMemory-more : {layout : Layout} {statics memory : List ℕ} {trace : List Event} {in_tree : ℕ} (event : Event) (new_memory : List ℕ) (new_trace : List Event) →
    IsPlainMemory layout statics memory trace in_tree →
    Holds layout memory event →
    LiesInside layout event →
    IfSome (moved_block event) IsWhole →
    new_memory ≡ after_event layout event memory →
    length new_memory ≡ length memory →
    new_trace ≡ trace ++ event ∷ [] →
    IsPlainMemory layout statics new_memory new_trace in_tree
IsPlainMemory-more {layout} {statics} {memory} {trace} event new_memory new_trace is holds inside whole bytes size more =
    let start : List ℕ = bytes_loaded layout statics in
    let P : List ℕ → Type 0 = λ m. Holds layout m event in
    let Q : List Event → Type 0 = λ t. IsAnswered layout t start in
    record {
      counted = is.counted;
      size = size ∙ is.size;
      bytes = bytes ∙ ap (after_event layout event) is.bytes ∙ sym (after_events-more layout trace event start) ∙ ap (λ t. after_events layout t start) (sym more);
      plain = record {
        long = is.plain.long;
        answered = subst Q (sym more) (IsAnswered-more layout trace event start is.plain.answered (subst P is.bytes holds));
        inside = record { each = λ before e rest same. each-push (LiesInside layout) trace event is.plain.inside.each inside before e rest (sym more ∙ same) };
        whole = record { each = λ before e rest same. each-push (λ e. IfSome (moved_block e) IsWhole) trace event is.plain.whole.each whole before e rest (sym more ∙ same) };
      };
    }

-- what is left after a loan of a whole `Vec`
pub written_back : (written before : List ℕ) (len : ℕ) → length written ≡ length before → len ≡ length before → take len (written ++ drop (length written) before) ≡ written
written_back written before len same long = take_at written (drop (length written) before) len (same ∙ sym long)

-- bytes that were written through a loan of the whole `Vec`
pub IsPlainMemory-put : {layout : Layout} {statics memory : List ℕ} {trace : List Event} {in_tree : ℕ} (event : Event) (start : ℕ) (bytes written : List ℕ) (len : ℕ) (new_trace : List Event) →
    IsPlainMemory layout statics memory trace in_tree →
    Holds layout memory event →
    LiesInside layout event →
    IfSome (moved_block event) IsWhole →
    bytes_put start bytes memory ≡ after_event layout event memory →
    written ≡ bytes_put start bytes memory →
    length written ≡ length memory →
    len ≡ length memory →
    new_trace ≡ trace ++ event ∷ [] →
    IsPlainMemory layout statics (take len (written ++ drop (length written) memory)) new_trace in_tree
IsPlainMemory-put {memory = memory} event start bytes written len new_trace is holds inside whole puts put_is same long more =
    let back : take len (written ++ drop (length written) memory) ≡ written = written_back written memory len same long in
    IsPlainMemory-more event _ new_trace is holds inside whole (back ∙ put_is ∙ puts) (ap length back ∙ same) more
