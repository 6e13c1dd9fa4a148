-- Promise: laws of what a tree keeps on its trace.
use Rattle.std.specs.Prelude.{◌≡◌, ◌≢◌, ℕ, ◌<◌, ◌≤◌, List, length, Some}
use Rattle.regions.specs.declared.layout.Layout.{Layout}
use Rattle.off_chip.specs.declared.event.Event.{Event}
use Rattle.off_chip.specs.Histories.{history}
use Rattle.off_chip.specs.ExpectedDigests.{expected_digest}
use Rattle.line_cache.specs.LineMaps.{LineMap, Holds, with_payload}
use Rattle.hash_tree.specs.AsWritten.{AllAsWritten}
use Rattle.hash_tree.specs.HashTrees.{scheme_of, state_of, nodes_of}
use Rattle.hash_tree.specs.Schemes.{Scheme, IsLawful}
use Rattle.hash_tree.specs.Standing.{State, IsKeptDigest, SameContents, Stands, contents}
use Rattle.hash_tree.specs.TreeSteps.{Appends, IsElsewhere, Stops}

-- an event at no place of the tree keeps it standing, and its contents
abbrev pub EventsElsewhere : Type 0
EventsElsewhere = (scheme : Scheme) (event : Event) (lines : LineMap) (root : List ℕ) (old new : List Event) → Stands scheme (state_of lines root old) → IsElsewhere event
    → Appends event old new → Stands scheme (state_of lines root new) × SameContents scheme (state_of lines root old) (state_of lines root new)

-- the digest that is kept of a block is the expected one
abbrev pub KeptIsExpected : Type 0
KeptIsExpected = (scheme : Scheme) (state : State) (n : ℕ) (digest : List ℕ) → Stands scheme state → n < scheme.blocks → IsKeptDigest scheme state n digest
    → expected_digest scheme.digests n (history state.trace) ≡ Some digest

-- a load stops only at a read that was unfaithful, or after one
abbrev pub StopsAreUnfaithful : Type 0
StopsAreUnfaithful = (scheme : Scheme) (pinned : List ℕ) (old new : State) (event : ℕ) → Stops scheme pinned old new event → AllAsWritten (history new.trace) → ⊥

-- a line that was lent has what was left in it as the contents of its block, and the contents of no other data block change
pub record LendsContents (scheme : Scheme) (old new : State) (n : ℕ) (left : List ℕ) : Type 0 where
  pub stands : Stands scheme new
  pub here : contents scheme new n ≡ Some left
  pub others : (m : ℕ) → scheme.nodes ≤ m → m ≢ n → contents scheme new m ≡ contents scheme old m

abbrev pub LendingChangesContents : Type 0
LendingChangesContents = (scheme : Scheme) (lines : LineMap) (root : List ℕ) (trace : List Event) (n : ℕ) (left : List ℕ) → IsLawful scheme → Stands scheme (state_of lines root trace)
    → scheme.nodes ≤ n → Holds lines n → length left ≡ 64 → LendsContents scheme (state_of lines root trace) (state_of (with_payload lines n left) root trace) n left

-- the tree of a layout keeps what each scheme keeps, where its veil leaves its nodes as they are
abbrev pub LayoutsAreLawful : Type 0
LayoutsAreLawful = (layout : Layout) (veiled : ℕ → ℕ → List ℕ → List ℕ)
    → ((n stamp : ℕ) (payload : List ℕ) → length payload ≡ 64 → veiled n stamp (veiled n stamp payload) ≡ payload)
    → ((n stamp : ℕ) (payload : List ℕ) → length payload ≡ 64 → length (veiled n stamp payload) ≡ 64)
    → ((n stamp : ℕ) (payload : List ℕ) → n < nodes_of layout → veiled n stamp payload ≡ payload)
    → IsLawful (scheme_of layout veiled)
