-- What a fetch does and pins.
use Rattle.std.proofs.Common.{◌≡◌, ℕ, ◌≤◌, Bool, true, false, Option, Some, None, Result, Ok, List, [], length, refl, sym, ap, ◌∙◌, subst}
use Rattle.std.specs.Prelude.{nat_lt}
use Rattle.regions.specs.declared.addresses.TheConstants.{OPEN_END}
use Rattle.regions.specs.declared.layout.Layout.{Layout}
use Rattle.line_cache.specs.LineMaps.{HoldParents}
use Rattle.orbis_core.specs.declared.memory.Stop.{Stop}
use Rattle.orbis_core.specs.declared.memory.Why.{Why}
use Rattle.orbis_core.specs.Refusals.{answered}
use Rattle.secure_memory.specs.BlockWords.{word_at}
use Rattle.secure_memory.specs.MemorySights.{IsReady, Sight}
use Rattle.secure_memory.specs.MemoryAccesses.{FetchesWord, Loads, LoadsBlock, LoadsOpen, OpenOrBlock, SameParts, Unless, pinning, pins_after}

-- an access that was not refused
pub not-refused : (refusal : Option Why) (done : Unit {0}) → Ok done ≡ answered refusal tt → refusal ≡ None
not-refused None done is = refl
not-refused (Some why) done is = cc

pub unless-not : {L T : Type 0} (refusal : Option Why) (answer : Result T Stop) (old new : Sight L) (P : Type 0) → refusal ≡ None → P → Unless refusal answer old new P
unless-not refusal answer old new P none p = subst (λ (r : Option Why). Unless r answer old new P) (sym none) p

-- what a load keeps, and that the memory is ready after it
record Kept {L : Type 0} (old new : Sight L) : Type 0 where
  pub parts : SameParts old new
  pub ready : IsReady new

either : (P Q X : Type 0) (b : Bool) → (P → X) → (Q → X) → OpenOrBlock b P Q → X
either P Q X true one other does = one does
either P Q X false one other does = other does

loads-keep : {L : Type 0} (in_block : List ℕ → ℕ) (in_word : ℕ → ℕ) (at word : ℕ) (old new : Sight L) → Loads in_block in_word at (Ok word) old new → Kept old new
loads-keep in_block in_word at word old new does =
    either (LoadsOpen in_word at word old new) (LoadsBlock in_block at word old new) (Kept old new) (nat_lt at OPEN_END)
    (λ (loads : LoadsOpen in_word at word old new). record { parts = loads.acts.parts; ready = loads.acts.ready })
    (λ (loads : LoadsBlock in_block at word old new). record { parts = loads.reaches.acts.parts; ready = loads.reaches.acts.ready }) does

pub fetches-word : {L : Type 0} (at word : ℕ) (old middle : Sight L) (none pins : List ℕ) → none ≡ []
    → Loads (λ payload. word_at payload at) (λ word. word) at (Ok word) (pinning none old) middle → pins ≡ pins_after middle.layout at → HoldParents pins → length pins ≤ 9
    → FetchesWord at (Ok word) old (pinning pins middle)
fetches-word at word old middle none pins empty loads blocks parents few =
    let kept = loads-keep (λ payload. word_at payload at) (λ word. word) at word (pinning none old) middle loads in
    let pinned : middle.pinned ≡ [] = kept.parts.pinned ∙ empty in
    let same : middle ≡ pinning [] middle = ap (λ (blocks : List ℕ). pinning blocks middle) pinned in
    record {
      loads = subst (λ (s : Sight _). Loads (λ payload. word_at payload at) (λ word. word) at (Ok word) (pinning [] old) s) same
          (subst (λ (blocks : List ℕ). Loads (λ payload. word_at payload at) (λ word. word) at (Ok word) (pinning blocks old) middle) empty loads);
      pinned = λ answer is. blocks ∙ ap (λ (l : Layout). pins_after l at) kept.parts.layout;
      ready = λ answer is. record { stands = kept.ready.stands; parents = parents; few = few; told = kept.ready.told };
    }
