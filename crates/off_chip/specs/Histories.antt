-- Promise: histories, and the words in which a trace is spoken of. A trace is told in order, the oldest event first; most definitions
-- go back over its history, the newest first, which is a type of its own, so that no trace is taken for one.
use Rattle.std.specs.Prelude.{◌≡◌, Bool, ⊤, List, [], ◌∷◌, ◌++◌, Option, Some, None, IsTrue, ◌↔◌, if◌then◌else◌}
use Rattle.std.specs.Bool.{OnTrue, OnFalse}
use Rattle.std.specs.List.{slice_split}
use Rattle.off_chip.specs.declared.event.Event.{Event}

-- the events so far, the newest first
infixr 5 ◌◂◌
pub data History : Type 0 where
  no_event : History
  ◌◂◌ : Event → History → History

-- a history and further events, which are in order
abbrev pub followed : History → List Event → History
followed older [] = older
followed older (event ∷ rest) = followed (event ◂ older) rest

-- the history of a trace
abbrev pub history : List Event → History
history trace = followed no_event trace

-- the trace of a history
abbrev pub in_order : History → List Event
in_order no_event = []
in_order (event ◂ older) = in_order older ++ event ∷ []

-- a predicate of an event and of the history before it holds at each event
abbrev pub Each : (Event → History → Type 0) → History → Type 0
Each P no_event = ⊤
Each P (event ◂ older) = Each P older × P event older

-- in order: for each way to cut the trace at an event, a predicate holds of it and of the events before it
abbrev pub EachCut : (Event → List Event → Type 0) → List Event → Type 0
EachCut P trace = (before : List Event) (event : Event) (rest : List Event) → trace ≡ before ++ event ∷ rest → P event before

-- a predicate holds wherever the history passes a test
abbrev pub AtEach : (History → Bool) → (History → Type 0) → History → Type 0
AtEach test P no_event = OnTrue (test no_event) (P no_event)
AtEach test P (event ◂ older) = AtEach test P older × OnTrue (test (event ◂ older)) (P (event ◂ older))

-- in order: for each way to cut the trace in two, the second predicate holds of the first part if the first one does
abbrev pub AtEachCut : (List Event → Type 0) → (List Event → Type 0) → List Event → Type 0
AtEachCut B P trace = (before rest : List Event) → trace ≡ before ++ rest → B before → P before

-- the first of two answers, if it is one
abbrev pub first_told : {X : Type 0} → Option X → Option X → Option X
first_told None second = second
first_told (Some x) second = Some x

-- what a function of an event and of the history before it answers at the latest event at which it answers
abbrev pub newest : {X : Type 0} → (Event → History → Option X) → History → Option X
newest f no_event = None
newest f (event ◂ older) = first_told (f event older) (newest f older)

-- the events after the latest one that passes a test, in order
abbrev pub since : (Event → Bool) → History → List Event
since test no_event = []
since test (event ◂ older) = if test event then [] else since test older ++ event ∷ []

-- the history before the latest event that passes a test
abbrev pub until : (Event → Bool) → History → History
until test no_event = no_event
until test (event ◂ older) = if test event then older else until test older

-- a predicate holds of each event after the latest one that passes a test, and of the history before it
abbrev pub EachSince : (Event → Bool) → (Event → History → Type 0) → History → Type 0
EachSince test P no_event = ⊤
EachSince test P (event ◂ older) = OnFalse (test event) (EachSince test P older × P event older)

-- histories and traces in order say the same, for tests
pub record HistoriesInOrder : Type 0 where
  pub of_trace : (trace : List Event) → in_order (history trace) ≡ trace
  pub of_history : (older : History) → history (in_order older) ≡ older
  pub one_more : (trace : List Event) (event : Event) → history (trace ++ event ∷ []) ≡ event ◂ history trace
  pub each : (test : Event → History → Bool) (trace : List Event)
      → Each (λ event older. IsTrue (test event older)) (history trace) ↔ EachCut (λ event before. IsTrue (test event (history before))) trace
  pub points : (kind test : History → Bool) (trace : List Event)
      → AtEach kind (λ older. IsTrue (test older)) (history trace)
      ↔ AtEachCut (λ before. IsTrue (kind (history before))) (λ before. IsTrue (test (history before))) trace
  -- the events after the latest one that passes are the last part of the trace that is cut at each of these
  pub part : (test : Event → Bool) (trace : List Event) (earlier : List (List Event)) (part : List Event)
      → slice_split test trace ≡ earlier ++ part ∷ [] → since test (history trace) ≡ part
