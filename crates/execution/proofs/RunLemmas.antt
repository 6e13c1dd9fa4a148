-- What follows for runs.
use Rattle.std.proofs.Common.{◌≡◌, ℕ, zero, suc, ◌+◌, ◌-◌, ◌≤◌, ◌⊎◌, inl, inr, arith, refl, sym, ◌∙◌, ap, subst, zero-add}
use Rattle.execution.specs.Run.{Next, Goes, Stops, and_then, run, state_of, IsLonger, EndsIn}
use Rattle.std.proofs.lemmas.Bool.{cases_lt}

-- the end, or another one where there is none yet
abbrev end_or : {State End : Type 0} → End → Next State End → End
end_or other (Goes state) = other
end_or other (Stops end state) = end

module _ {State End : Type 0} (step : State → Next State End) where
  -- going on twice is going on once
  pub and_then-and_then : (next : Next State End) (f g : State → Next State End) → and_then (and_then next f) g ≡ and_then next (λ s. and_then (f s) g)
  and_then-and_then (Goes state) f g = refl
  and_then-and_then (Stops end state) f g = refl

  pub and_then-ap : (next : Next State End) (f g : State → Next State End) → ((s : State) → f s ≡ g s) → and_then next f ≡ and_then next g
  and_then-ap (Goes state) f g h = h state
  and_then-ap (Stops end state) f g h = refl

  pub run-+ : (m n : ℕ) (state : State) → run step (m + n) state ≡ and_then (run step m state) (run step n)
  run-+ zero n state = rw zero-add refl
  run-+ (suc m) n state =
      let e : suc m + n ≡ suc (m + n) = omega arith in
      rw e (and_then-ap (step state) _ _ (λ s. run-+ m n s) ∙ sym (and_then-and_then (step state) (run step m) (run step n)))

  pub run-ended : (m more : ℕ) (state at : State) (end : End) → run step m state ≡ Stops end at → run step (m + more) state ≡ Stops end at
  run-ended m more state at end e = run-+ m more state ∙ ap (λ next. and_then next (run step more)) e

  pub run-longer : (m more : ℕ) (state : State) → IsLonger step (run step m state) (run step (m + more) state)
  run-longer m more state = (more, run-+ m more state)

  pub one-longer : (m n : ℕ) (state : State) → IsLonger step (run step m state) (run step n state) ⊎ IsLonger step (run step n state) (run step m state)
  one-longer m n state =
      elim (cases_lt m n) [
        | inl below ↦ let e : m + (n - m) ≡ n = omega arith in inl (subst (λ k. IsLonger step (run step m state) (run step k state)) e (run-longer m (n - m) state))
        | inr above ↦ let e : n + (m - n) ≡ m = omega arith in inr (subst (λ k. IsLonger step (run step n state) (run step k state)) e (run-longer n (m - n) state))
      ]

  pub ends-one : (m n : ℕ) (state at other : State) (end final : End) → run step m state ≡ Stops end at → run step n state ≡ Stops final other → (end ≡ final) × (at ≡ other)
  ends-one m n state at other end final e f =
      let long : run step (m + n) state ≡ Stops end at = run-ended m n state at end e in
      let swap : n + m ≡ m + n = omega arith in
      let other_long : run step (m + n) state ≡ Stops final other = subst (λ k. run step k state ≡ Stops final other) swap (run-ended n m state other final f) in
      let same = sym long ∙ other_long in
      (ap (end_or end) same, ap state_of same)

  -- what each step keeps, a run keeps
  pub run-keeps : (P : State → Type 0) → ((s : State) → P s → P (state_of (step s))) → (n : ℕ) (state : State) → P state → P (state_of (run step n state))
  run-keeps P keeps zero state holds = holds
  run-keeps P keeps (suc n) state holds = go (step state) (keeps state holds) (run-keeps P keeps n)
    where
      go : (next : Next State End) → P (state_of next) → ((s : State) → P s → P (state_of (run step n s))) → P (state_of (and_then next (run step n)))
      go (Goes s) h later = later s h
      go (Stops end s) h later = h

  -- a run that goes on has not ended
  goes-not-stops : (next : Next State End) (state at : State) (end : End) → next ≡ Goes state → next ≡ Stops end at → ⊥
  goes-not-stops (Goes s) state at end e f = absurd (grind (arith, f))
  goes-not-stops (Stops final s) state at end e f = absurd (grind (arith, e))

  pub ends-in-one : (m n : ℕ) (start at other : State) (end final : End) → EndsIn step m start end at → EndsIn step n start final other → (m ≡ n) × (end ≡ final) × (at ≡ other)
  ends-in-one m n start at other end final one two =
      let both : (end ≡ final) × (at ≡ other) = ends-one m n start at other end final one.ended two.ended in (
        elim (cases_lt m n) [
          | inl below ↦ absurd (let on = two.not_before m below in goes-not-stops (run step m start) on.0 at end on.1 one.ended)
          | inr above ↦ elim (cases_lt n m) [
            | inl below ↦ absurd (let on = one.not_before n below in goes-not-stops (run step n start) on.0 other final on.1 two.ended)
            | inr above' ↦ omega (arith, above, above')
          ]
        ],
        both.0,
        both.1,
      )

  -- where a run has gone on after some steps, it had gone on after fewer
  went-on : (fewer steps : ℕ) (start state : State) → fewer ≤ steps → run step steps start ≡ Goes state → (s : State) × (run step fewer start ≡ Goes s)
  went-on fewer steps start state below e =
      go (run step fewer start) refl
    where
      go : (next : Next State End) → run step fewer start ≡ next → (s : State) × (run step fewer start ≡ Goes s)
      go (Goes s) h = (s, h)
      go (Stops end at) h =
          let q : fewer + (steps - fewer) ≡ steps = omega (arith, below) in
          absurd (goes-not-stops (run step steps start) state at end e (subst (λ k. run step k start ≡ Stops end at) q (run-ended fewer (steps - fewer) start at end h)))

  pub ends-found : (steps : ℕ) (start at : State) (end : End) → run step steps start ≡ Stops end at → (exactly : ℕ) × (exactly ≤ steps) × EndsIn step exactly start end at
  ends-found zero start at end e = absurd (grind (arith, e))
  ends-found (suc steps) start at end e = go (ends-found steps start at end) (run step steps start) refl
    where
      Found : ℕ → Type 0
      Found most = (exactly : ℕ) × (exactly ≤ most) × EndsIn step exactly start end at

      same : (final : End) (other : State) → run step steps start ≡ Stops final other → run step steps start ≡ Stops end at
      same final other h =
          let both : (end ≡ final) × (at ≡ other) = ends-one (suc steps) steps start at other end final e h in
          h ∙ ap (λ f. Stops f other) (sym both.0) ∙ ap (λ s. Stops end s) (sym both.1)

      go : (run step steps start ≡ Stops end at → Found steps) → (next : Next State End) → run step steps start ≡ next → Found (suc steps)
      go earlier (Goes s) h = (suc steps, omega arith, record { ended = e; not_before = λ fewer below. went-on fewer steps start s (omega (arith, below)) h })
      go earlier (Stops final other) h =
          let found : Found steps = earlier (same final other h) in
          (found.0, (let below : found.0 ≤ steps = found.1 in omega (arith, below)), found.2)
