-- Flat code writes to shared cells alone, as far as others see it.
use Rattle.std.proofs.Common.{◌≡◌, ℕ, ◌<◌, ◌==◌, ◌&&◌, Bool, true, false, cond, nat_lt, List, [], ◌∷◌, ◌++◌, Option, Some, None, arith, refl}
use Rattle.std.proofs.lemmas.Bool.{ltb-true}
use Rattle.std.specs.List.{slice_get, AllByRecursion}
use Rattle.execution.specs.Run.{Goes, Stops, state_of}
use Rattle.execution.specs.Traffic.{Element, Entry, after_write, is_same_element, input_word, loose_word}
use Rattle.execution.proofs.RunLemmas.{run-keeps}
use Rattle.aegis_num.specs.declared.limits.TheConstants.{MAX_PARAMETERS}
use Rattle.aegis_num.specs.Operators.{binary, traps, unary}
use Rattle.regions.specs.declared.Access.{Access}
use Rattle.regions.specs.declared.Access.TheVariants.{Read, Write}
use Rattle.regions.specs.declared.Class.{Class}
use Rattle.regions.specs.declared.Class.TheVariants.{Open, Verified, Private, Constant, Code, Logged}
use Rattle.regions.specs.Rights.{rights}
use Rattle.ir_code.specs.declared.Ir.{Ir}
use Rattle.ir_code.specs.declared.Op.{Op}
use Rattle.ir_code.specs.declared.Op.TheVariants as op
use Rattle.ir_code.specs.FlatStates.{Held, Word, Link, FlatState, FlatEnd, Later, pick, stuck, class_of, words_of, is_allowed, is_shared, element_at, label_place, fetched, first_flat, mode_of}
use Rattle.ir_code.specs.FlatMeaning.{touching, with_word, with_link, with_given, kept_word, loosely, taken_word, reading, written, writing, put, going, jumping, effect, at_op, flat_step, flat_run}

-- an element of a shared cell
pub record IsOpenCell (ir : Ir) (e : Element) : Type 0 where
  pub class : class_of ir e.variable ≡ Open
  pub inside : e.index < words_of ir e.variable

shared-open : (class : Class) → is_shared class ≡ true → class ≡ Open
shared-open Open e = refl
shared-open Verified e = absurd (grind (arith, e))
shared-open Private e = absurd (grind (arith, e))
shared-open Constant e = absurd (grind (arith, e))
shared-open Code e = absurd (grind (arith, e))
shared-open Logged e = absurd (grind (arith, e))

both-first : (s t : Bool) → (s && t) ≡ true → s ≡ true
both-first true t e = refl
both-first false t e = e

all-one : (P : Entry Element → Type 0) (xs : List (Entry Element)) (x : Entry Element) → AllByRecursion P xs → P x → AllByRecursion P (xs ++ (x ∷ []))
all-one P [] x all h = (h, tt)
all-one P (y ∷ xs) x all h = (all.0, all-one P xs x all.1 h)

module _ (ir : Ir) where
  abbrev AllOpen : FlatState → Type 0
  AllOpen f = AllByRecursion (λ (w : Entry Element). IsOpenCell ir w.place) f.traffic.writes

  record Keeps (later : Later) : Type 0 where
    keep : (f : FlatState) → AllOpen f → AllOpen (state_of (later f))

  keeps-stuck : Keeps stuck
  keeps-stuck = record { keep = λ f h. h }

  keeps-stops : (end : FlatEnd) → Keeps (Stops end)
  keeps-stops end = record { keep = λ f h. h }

  keeps-goes : Keeps Goes
  keeps-goes = record { keep = λ f h. h }

  keeps-pick : (test : Bool) (one other : Later) → Keeps one → Keeps other → Keeps (pick test one other)
  keeps-pick true one other h k = record { keep = h.keep }
  keeps-pick false one other h k = record { keep = k.keep }

  keeps-touching : (access : Access) (c i : ℕ) (next : Later) → Keeps next → Keeps (touching ir access c i next)
  keeps-touching access c i next h = record { keep = λ f p. (keeps-pick (is_allowed ir access c i f.private) next stuck h keeps-stuck).keep f p }

  keeps-given : (given : Option ℕ) (next : ℕ → Later) → ((word : ℕ) → Keeps (next word)) → Keeps (with_given given next)
  keeps-given None next h = record { keep = keeps-stuck.keep }
  keeps-given (Some word) next h = record { keep = (h word).keep }

  keeps-word : (held : Held) (next : ℕ → Later) → ((word : ℕ) → Keeps (next word)) → Keeps (with_word held next)
  keeps-word (Word word) next h = record { keep = (h word).keep }
  keeps-word (Link place) next h = record { keep = keeps-stuck.keep }

  keeps-link : (held : Held) (next : ℕ → Later) → ((word : ℕ) → Keeps (next word)) → Keeps (with_link held next)
  keeps-link (Word word) next h = record { keep = keeps-stuck.keep }
  keeps-link (Link place) next h = record { keep = (h place).keep }

  keeps-taken : (c i : ℕ) (next : ℕ → Later) → ((word : ℕ) → Keeps (next word)) → Keeps (taken_word c i next)
  keeps-taken c i next h = record { keep = λ f p. go f p (loose_word is_same_element (element_at c i) f.traffic) }
    where
      go : (f : FlatState) → AllOpen f → (word : Option ℕ) → AllOpen (state_of (loosely word next f))
      go f p None = p
      go f p (Some word) = (h word).keep _ p

  keeps-reading : (is_loose : Class → Bool) (c i : ℕ) (next : ℕ → Later) → ((word : ℕ) → Keeps (next word)) → Keeps (reading is_loose ir c i next)
  keeps-reading is_loose c i next h =
      keeps-touching Read c i _
      (keeps-pick (is_loose (class_of ir c)) (taken_word c i next) (kept_word c i next) (keeps-taken c i next h) (record { keep = λ f p. (keeps-word (f.cells c i) next h).keep f p }))

  keeps-written : (c i word : ℕ) (f : FlatState) → i < words_of ir c → AllOpen f → AllOpen (written ir c i word f)
  keeps-written c i word f below p = go (is_shared (class_of ir c)) refl
    where
      go : (shared : Bool) → is_shared (class_of ir c) ≡ shared → AllByRecursion (λ (w : Entry Element). IsOpenCell ir w.place) (cond shared (after_write (element_at c i) word f.traffic) f.traffic).writes
      go true e = all-one (λ (w : Entry Element). IsOpenCell ir w.place) f.traffic.writes _ p (record { class = shared-open (class_of ir c) e; inside = below })
      go false e = p

  keeps-writing : (c i word : ℕ) (next : Later) → Keeps next → Keeps (writing ir c i word next)
  keeps-writing c i word next h = record { keep = λ f p. go f p (is_allowed ir Write c i f.private) refl }
    where
      go : (f : FlatState) → AllOpen f → (t : Bool) → is_allowed ir Write c i f.private ≡ t → AllOpen (state_of (pick t (λ g. next (written ir c i word g)) stuck f))
      go f p true e = h.keep _ (keeps-written c i word f (ltb-true i (words_of ir c) (both-first (nat_lt i (words_of ir c)) (rights (mode_of f.private) (class_of ir c) Write) e)) p)
      go f p false e = p

  keeps-put : (c word : ℕ) → Keeps (put ir c word)
  keeps-put c word = keeps-writing c 0 word Goes keeps-goes

  keeps-going : (place : ℕ) → Keeps (going place)
  keeps-going place = record { keep = λ f p. p }

  keeps-jumping : (l : ℕ) → Keeps (jumping ir l)
  keeps-jumping l = keeps-given (label_place ir l) going keeps-going

  keeps-effect : (is_loose : Class → Bool) (o : Op) (old : FlatState) → Keeps (effect is_loose ir o old)
  keeps-effect is_loose (op.Const to value) old = keeps-put to value
  keeps-effect is_loose (op.Copy to from) old = keeps-reading is_loose from 0 _ (keeps-put to)
  keeps-effect is_loose (op.Unary operator to a) old = keeps-reading is_loose a 0 _ (λ word. keeps-put to (unary operator word))
  keeps-effect is_loose (op.Binary operator to a b) old =
      keeps-reading is_loose a 0 _
      (λ left. keeps-reading is_loose b 0 _ (λ right. keeps-pick (traps operator right) stuck _ keeps-stuck (keeps-put to (binary operator left right))))
  keeps-effect is_loose (op.Test a length' token) old =
      keeps-reading is_loose a 0 _ (λ index. keeps-pick (nat_lt index length') Goes _ keeps-goes (keeps-stops _))
  keeps-effect is_loose (op.NonZero a token) old =
      keeps-reading is_loose a 0 _ (λ word. keeps-pick (word == 0) _ Goes (keeps-stops _) keeps-goes)
  keeps-effect is_loose (op.Load to array index) old =
      keeps-reading is_loose index 0 _ (λ i. keeps-reading is_loose array i _ (keeps-put to))
  keeps-effect is_loose (op.Store array index from) old =
      keeps-reading is_loose index 0 _ (λ i. keeps-reading is_loose from 0 _ (λ word. keeps-writing array i word Goes keeps-goes))
  keeps-effect is_loose (op.Label l) old = keeps-goes
  keeps-effect is_loose (op.Jump l) old = keeps-jumping l
  keeps-effect is_loose (op.JumpZero a l) old =
      keeps-reading is_loose a 0 _ (λ word. keeps-pick (word == 0) (jumping ir l) Goes (keeps-jumping l) keeps-goes)
  keeps-effect is_loose (op.Arg slot from) old =
      keeps-reading is_loose from 0 _
      (λ word. keeps-pick (nat_lt slot MAX_PARAMETERS) _ stuck (record { keep = λ f p. p }) keeps-stuck)
  keeps-effect is_loose (op.Param to slot) old = keeps-given (old.slots slot) _ (keeps-put to)
  keeps-effect is_loose (op.Call l) old = record { keep = λ f p. (keeps-jumping l).keep (record f { link = Some f.place }) p }
  keeps-effect is_loose (op.SaveLink cell) old =
      keeps-given old.link _
      (λ place. keeps-touching Write cell 0 _ (keeps-pick (is_loose (class_of ir cell)) stuck _ keeps-stuck (record { keep = λ f p. p })))
  keeps-effect is_loose (op.Return cell) old =
      keeps-touching Read cell 0 _
      (keeps-pick (is_loose (class_of ir cell)) stuck _ keeps-stuck (record { keep = λ f p. (keeps-link (f.cells cell 0) going keeps-going).keep f p }))
  keeps-effect is_loose (op.SetResult from) old = keeps-reading is_loose from 0 _ (λ word. record { keep = λ f p. p })
  keeps-effect is_loose (op.Result to) old = keeps-given old.result _ (keeps-put to)
  keeps-effect is_loose (op.Input to) old = record { keep = λ f p. (keeps-put to (input_word f.traffic)).keep _ p }
  keeps-effect is_loose (op.Release a) old = keeps-reading is_loose a 0 _ (λ word. record { keep = λ f p. p })
  keeps-effect is_loose op.Check old = record { keep = λ f p. p }
  keeps-effect is_loose op.Suspend old = record { keep = λ f p. p }
  keeps-effect is_loose (op.SetMode true) old =
      record { keep = λ f p. (keeps-pick f.private stuck _ keeps-stuck (record { keep = λ g q. q })).keep f p }
  keeps-effect is_loose (op.SetMode false) old =
      record { keep = λ f p. (keeps-pick f.private _ stuck (record { keep = λ g q. q }) keeps-stuck).keep f p }
  keeps-effect is_loose op.Exit old = keeps-stops _

  keeps-step : (is_loose : Class → Bool) (f : FlatState) → AllOpen f → AllOpen (state_of (flat_step is_loose ir f))
  keeps-step is_loose f h = go (slice_get ir.ops f.place)
    where
      go : (o : Option Op) → AllOpen (state_of (at_op is_loose ir o f))
      go None = h
      go (Some o) = (keeps-effect is_loose o f).keep (fetched o f) h

  -- each word that a run has written for others to see is one of a shared cell
  pub writes-open : (is_loose : Class → Bool) (input : List ℕ) (loose : List (Entry Element)) (steps : ℕ) →
      AllByRecursion (λ (w : Entry Element). IsOpenCell ir w.place) (state_of (flat_run is_loose ir input loose steps)).traffic.writes
  writes-open is_loose input loose steps = run-keeps (flat_step is_loose ir) AllOpen (keeps-step is_loose) steps (first_flat ir input loose) tt
