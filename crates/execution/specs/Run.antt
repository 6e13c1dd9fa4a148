-- Promise: a machine that goes step by step from state to state until it ends.
use Rattle.std.specs.Prelude.{◌≡◌, ℕ, zero, suc, ◌+◌, ◌<◌, ◌≤◌, ◌⊎◌}

-- a state to go on from, or an end with the state at it
pub data Next (State End : Type 0) : Type 0 where
  Goes : State → Next State End
  Stops : End → State → Next State End

-- goes on from where it has come to, unless it has ended
abbrev pub and_then : {State End : Type 0} → Next State End → (State → Next State End) → Next State End
and_then (Goes state) go = go state
and_then (Stops end state) go = Stops end state

-- so many steps, or fewer where it ends
abbrev pub run : {State End : Type 0} → (State → Next State End) → ℕ → State → Next State End
run step zero state = Goes state
run step (suc steps) state = and_then (step state) (run step steps)

-- the state that it has come to
abbrev pub state_of : {State End : Type 0} → Next State End → State
state_of (Goes state) = state
state_of (Stops end state) = state

-- the second is where the first comes to with some more steps
abbrev pub IsLonger : {State End : Type 0} → (State → Next State End) → Next State End → Next State End → Type 0
IsLonger step short long = (more : ℕ) × (long ≡ and_then short (run step more))

-- the state after m + n steps is the one after n steps from the one after m
abbrev pub RunsJoin : (State End : Type 0) → Type 0
RunsJoin State End =
    (step : State → Next State End) (m n : ℕ) (state : State) → run step (m + n) state ≡ and_then (run step m state) (run step n)

-- after an end more steps change nothing
abbrev pub EndsStay : (State End : Type 0) → Type 0
EndsStay State End =
    (step : State → Next State End) (m more : ℕ) (state at : State) (end : End) → run step m state ≡ Stops end at → run step (m + more) state ≡ Stops end at

-- there is one end
abbrev pub EndsAreOne : (State End : Type 0) → Type 0
EndsAreOne State End =
    (step : State → Next State End) (m n : ℕ) (state at other : State) (end final : End) →
    run step m state ≡ Stops end at → run step n state ≡ Stops final other → (end ≡ final) × (at ≡ other)

-- of two runs from one state one is the longer
abbrev pub OneIsLonger : (State End : Type 0) → Type 0
OneIsLonger State End =
    (step : State → Next State End) (m n : ℕ) (state : State) →
    IsLonger step (run step m state) (run step n state) ⊎ IsLonger step (run step n state) (run step m state)

-- the machine ends in exactly so many steps, at this state
pub record EndsIn {State End : Type 0} (step : State → Next State End) (steps : ℕ) (start : State) (end : End) (at : State) : Type 0 where
  pub ended : run step steps start ≡ Stops end at
  pub not_before : (fewer : ℕ) → fewer < steps → (state : State) × (run step fewer start ≡ Goes state)

-- it does so in one number of steps, with one end at one state; and a run that has ended did so in exactly some number of steps
pub record EndsInOne (State End : Type 0) : Type 0 where
  pub one : (step : State → Next State End) (m n : ℕ) (start at other : State) (end final : End) →
      EndsIn step m start end at → EndsIn step n start final other → (m ≡ n) × (end ≡ final) × (at ≡ other)
  pub found : (step : State → Next State End) (steps : ℕ) (start at : State) (end : End) →
      run step steps start ≡ Stops end at → (exactly : ℕ) × (exactly ≤ steps) × EndsIn step exactly start end at
