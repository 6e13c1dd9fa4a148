-- What a sink took of a run, and what the answer of the run says.
use Rattle.std.proofs.Common.{◌≡◌, ◌≢◌, ℕ, ◌+◌, ◌-◌, ◌%◌, ◌^◌, ◌<◌, ◌≤◌, List, [], ◌∷◌, ◌++◌, length, Option, None, Some, refl, sym, ◌∙◌, ap, subst, arith, append_assoc, append-nil, length-append}
use Rattle.std.specs.Prelude.{true, false, Result, Ok, Err, is_err, OnOk, OnErr}
use Rattle.aegis_edge.specs.Faults.{Rose}
use Rattle.aegis_edge.specs.Sink.{Appends, AppendsFront, IsWithin, limit_after}
use Rattle.image_file.specs.declared.Image.{Image}
use Rattle.orbis_core.specs.FlatMemory.{Flat}
use Rattle.orbis_core.specs.Ideal.{IdealEnd}
use Rattle.orbis_core.specs.Rows.{Machine}
use Rattle.flat_machine.specs.declared.ran.ImageEnd.{ImageEnd}
use Rattle.flat_machine.specs.declared.ran.ImageEnd.TheVariants.{FuelOut, WriteFault}
use Rattle.flat_machine.specs.ImageRuns.{EndsAfter, GoesOn, IsCutShort, machine_end, released_in}
use Rattle.flat_machine.proofs.Progress.{IsAt, IsOn, IsOver}
use Rattle.flat_machine.proofs.Runs.{not-both, one-end, released-more}

-- ---- sinks

-- what holds of an answer that failed, or did not
pub when-failed : {T E : Type 0} (answer : Result T E) (P : Type 0) → is_err answer ≡ true → OnErr answer P → P
when-failed (Ok value) P is holds = absurd (cc)
when-failed (Err error) P is holds = holds

pub when-done : {T E : Type 0} (answer : Result T E) (P : Type 0) → is_err answer ≡ false → OnOk answer P → P
when-done (Ok value) P is holds = holds
when-done (Err error) P is holds = absurd (cc)

Appends-next : (old mid new : Option (List ℕ)) (sent piece : List ℕ) → Appends old mid sent → Appends mid new piece → Appends old new (sent ++ piece)
Appends-next None mid new sent piece first second = let P : Option (List ℕ) → Type 0 = λ m. Appends m new piece in subst P first second
Appends-next (Some old) mid new sent piece first second =
    let P : Option (List ℕ) → Type 0 = λ m. Appends m new piece in
    let last : new ≡ Some ((old ++ sent) ++ piece) = subst P first second in last ∙ ap Some (append_assoc old sent piece)

Appends-nothing : (old : Option (List ℕ)) → Appends old old []
Appends-nothing None = refl
Appends-nothing (Some old) = ap Some (sym (append-nil old))

limit-nothing : (limit : Option ℕ) → limit ≡ limit_after limit 0
limit-nothing None = refl
limit-nothing (Some left) = ap Some (omega arith)

limit-next : (limit : Option ℕ) (first second : ℕ) → limit_after (limit_after limit first) second ≡ limit_after limit (first + second)
limit-next None first second = refl
limit-next (Some left) first second = ap Some (omega arith)

-- where the whole is within a limit there is room for a byte after a front of it
room-after : (limit : Option ℕ) (sent later : List ℕ) (byte : ℕ) → IsWithin limit ((sent ++ byte ∷ []) ++ later) → IsWithin (limit_after limit (length sent)) (byte ∷ [])
room-after None sent later byte within = tt
room-after (Some left) sent later byte within =
    let whole : length ((sent ++ byte ∷ []) ++ later) ≡ length (sent ++ byte ∷ []) + length later = length-append (sent ++ byte ∷ []) later in
    let front : length (sent ++ byte ∷ []) ≡ length sent + 1 = length-append sent (byte ∷ []) in omega (arith, within, whole, front)

-- a sink without a limit has none later
pub unlimited-stays : (limit left : Option ℕ) (count : ℕ) → left ≡ limit_after limit count → limit ≡ None → left ≡ None
unlimited-stays limit left count is none = is ∙ ap (λ (l : Option ℕ). limit_after l count) none

-- ---- the run so far

-- the machine is so far, and the sink took all that was released
pub record IsRunning (image : Image) (input : List ℕ) (steps : ℕ) (now : Machine Flat) (old new : Option (List ℕ)) (limit left : Option ℕ) : Type 0 where
  pub at : IsAt image input steps now
  pub taken : Appends old new (released_in image input steps)
  pub room : left ≡ limit_after limit (length (released_in image input steps))

pub begins : (image : Image) (input : List ℕ) (now : Machine Flat) (old : Option (List ℕ)) (limit : Option ℕ) → IsAt image input 0 now
    → IsRunning image input 0 now old old limit limit
begins image input now old limit at = record { at = at; taken = Appends-nothing old; room = limit-nothing limit }

-- there is room for the byte that the next step releases
pub has-room : (image : Image) (input : List ℕ) (steps fuel : ℕ) (old new : Machine Flat) (byte : ℕ) (before after : Option (List ℕ)) (limit left : Option ℕ)
    → steps < fuel → byte < 2 ^ 8 → IsWithin limit (released_in image input fuel) → IsRunning image input steps old before after limit left
    → IsOn image input steps new (byte % 2 ^ 8 ∷ []) → IsWithin left (byte ∷ [])
has-room image input steps fuel old new byte before after limit left below small room running on =
    let more = released-more image input (steps + 1) (fuel - (steps + 1)) in
    let all : steps + 1 + (fuel - (steps + 1)) ≡ fuel = omega arith in
    let low : byte % 2 ^ 8 ≡ byte = omega arith in
    let one : List ℕ → Type 0 = λ l. IsWithin limit l in
    let sent : released_in image input fuel ≡ (released_in image input steps ++ byte ∷ []) ++ more.0 =
    ap (λ n. released_in image input n) (sym all) ∙ more.1 ∙ ap (λ l. l ++ more.0) (on.released ∙ ap (λ b. released_in image input steps ++ b ∷ []) low) in
    subst (λ (l : Option ℕ). IsWithin l (byte ∷ [])) (sym running.room) (room-after limit (released_in image input steps) more.0 byte (subst one sent room))

-- after a step that released nothing
pub runs-on : (image : Image) (input : List ℕ) (steps : ℕ) (old new : Machine Flat) (before after : Option (List ℕ)) (limit left : Option ℕ)
    → IsRunning image input steps old before after limit left → IsOn image input steps new [] → IsRunning image input (steps + 1) new before after limit left
runs-on image input steps old new before after limit left running on =
    let same : released_in image input (steps + 1) ≡ released_in image input steps = on.released ∙ append-nil (released_in image input steps) in
    record {
      at = on.at;
      taken = subst (λ (l : List ℕ). Appends before after l) (sym same) running.taken;
      room = running.room ∙ ap (λ (l : List ℕ). limit_after limit (length l)) (sym same);
    }

-- after one that released a byte, which was taken
pub runs-on-released : (image : Image) (input : List ℕ) (steps : ℕ) (old new : Machine Flat) (byte : ℕ) (before mid after : Option (List ℕ)) (limit left left_after : Option ℕ)
    → byte < 2 ^ 8 → IsRunning image input steps old before mid limit left → IsOn image input steps new (byte % 2 ^ 8 ∷ []) → Appends mid after (byte ∷ [])
    → left_after ≡ limit_after left 1 → IsRunning image input (steps + 1) new before after limit left_after
runs-on-released image input steps old new byte before mid after limit left left_after small running on took lower =
    let low : byte % 2 ^ 8 ≡ byte = omega arith in
    let sent : released_in image input (steps + 1) ≡ released_in image input steps ++ byte ∷ [] = on.released ∙ ap (λ b. released_in image input steps ++ b ∷ []) low in
    record {
      at = on.at;
      taken = subst (λ (l : List ℕ). Appends before after l) (sym sent) (Appends-next before mid after _ _ running.taken took);
      room = lower ∙ ap (λ (l : Option ℕ). limit_after l 1) running.room ∙ limit-next limit (length (released_in image input steps)) 1
          ∙ ap (limit_after limit) (sym (ap length sent ∙ length-append (released_in image input steps) (byte ∷ [])));
    }

-- ---- the answer

-- what the answer of a run says of the machine and of a sink, its bytes, its limit and its count of faults
pub record IsAnswer (image : Image) (input : List ℕ) (fuel : ℕ) (said : ImageEnd) (retired : ℕ) (old new : Option (List ℕ)) (limit left : Option ℕ) (before after : ℕ) : Type 0 where
  pub ended : (end : IdealEnd) → machine_end said ≡ Some end → EndsAfter image input retired end × (retired ≤ fuel)
  pub complete : said ≢ WriteFault → (steps : ℕ) (end : IdealEnd) → EndsAfter image input steps end → steps ≤ fuel → (machine_end said ≡ Some end) × (retired ≡ steps)
  pub fuel_out : said ≡ FuelOut → GoesOn image input fuel × (retired ≡ fuel)
  pub used_up : said ≢ WriteFault → GoesOn image input fuel → said ≡ FuelOut
  pub delivered : said ≢ WriteFault → Appends old new (released_in image input retired)
  pub cut_short : said ≡ WriteFault → IsCutShort image input fuel retired old new
  pub fault : said ≡ WriteFault → Rose before after
  pub steady : said ≢ WriteFault → after ≡ before
  pub room : said ≢ WriteFault → left ≡ limit_after limit (length (released_in image input retired))

-- the program has ended
pub answer-over : (image : Image) (input : List ℕ) (steps fuel : ℕ) (said : ImageEnd) (end : IdealEnd) (old : Machine Flat) (before after : Option (List ℕ)) (limit left : Option ℕ)
    (faults faults_after : ℕ) → steps < fuel → machine_end said ≡ Some end → said ≢ WriteFault → said ≢ FuelOut → faults_after ≡ faults
    → IsRunning image input steps old before after limit left → IsOver image input steps end
    → IsAnswer image input fuel said (steps + 1) before after limit left faults faults_after
answer-over image input steps fuel said end old before after limit left faults faults_after below is no_fault no_fuel same running over = record {
  ended = λ final told. (let one : end ≡ final = cc in subst (λ (e : IdealEnd). EndsAfter image input (steps + 1) e) one over.ends, omega (arith, below));
  complete = λ no number final ends within.
      (let one = one-end image input (steps + 1) number end final over.ends ends in (is ∙ ap Some one.1, one.0));
  fuel_out = λ told. absurd (no_fuel told);
  used_up = λ no on. absurd (not-both image input (steps + 1) fuel end (omega (arith, below)) over.ends on);
  delivered = λ no. subst (λ (l : List ℕ). Appends before after l) (sym over.released) running.taken;
  cut_short = λ told. absurd (no_fault told);
  fault = λ told. absurd (no_fault told);
  steady = λ no. same;
  room = λ no. running.room ∙ ap (λ (l : List ℕ). limit_after limit (length l)) (sym over.released);
}

-- the fuel is used up
pub answer-fuel : (image : Image) (input : List ℕ) (steps fuel : ℕ) (now : Machine Flat) (before after : Option (List ℕ)) (limit left : Option ℕ) (faults faults_after : ℕ)
    → steps ≡ fuel → faults_after ≡ faults → IsRunning image input steps now before after limit left → IsAnswer image input fuel FuelOut fuel before after limit left faults faults_after
answer-fuel image input steps fuel now before after limit left faults faults_after all same so_far =
    let running : IsRunning image input fuel now before after limit left = subst (λ n. IsRunning image input n now before after limit left) all so_far in
    let on : GoesOn image input fuel = (running.at.state, running.at.reached) in
    record {
      ended = λ end told. absurd (cc);
      complete = λ no steps end ends within. absurd (not-both image input steps fuel end within ends on);
      fuel_out = λ told. (on, refl);
      used_up = λ no goes. refl;
      delivered = λ no. running.taken;
      cut_short = λ told. absurd (cc);
      fault = λ told. absurd (cc);
      steady = λ no. same;
      room = λ no. running.room;
    }

-- a byte was not taken
pub answer-cut : (image : Image) (input : List ℕ) (steps fuel : ℕ) (old new : Machine Flat) (byte : ℕ) (before mid after : Option (List ℕ)) (limit left left_after : Option ℕ)
    (faults faults_after : ℕ) → steps < fuel → byte < 2 ^ 8 → Rose faults faults_after → IsRunning image input steps old before mid limit left
    → IsOn image input steps new (byte % 2 ^ 8 ∷ []) → AppendsFront mid after (byte ∷ [])
    → IsAnswer image input fuel WriteFault (steps + 1) before after limit left_after faults faults_after
answer-cut image input steps fuel old new byte before mid after limit left left_after faults faults_after below small rose running on front =
    let low : byte % 2 ^ 8 ≡ byte = omega arith in
    record {
      ended = λ end told. absurd (cc);
      complete = λ no. absurd (no refl);
      fuel_out = λ told. absurd (cc);
      used_up = λ no. absurd (no refl);
      delivered = λ no. absurd (no refl);
      cut_short = λ told. record {
        before = steps;
        byte = byte;
        middle = mid;
        last = refl;
        within = omega (arith, below);
        running = (on.at.state, on.at.reached);
        released = on.released ∙ ap (λ b. released_in image input steps ++ b ∷ []) low;
        taken = running.taken;
        front = front;
      };
      fault = λ told. rose;
      steady = λ no. absurd (no refl);
      room = λ no. absurd (no refl);
    }
