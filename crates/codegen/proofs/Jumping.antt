-- An operation jumps at most once.
use Rattle.std.proofs.Common.{ℕ, ◌+◌, ◌≤◌, Bool, true, false, nat_lt, ◌==◌, Option, Some, None, arith}
use Rattle.std.specs.List.{slice_get}
use Rattle.execution.specs.Run.{Goes, Stops, state_of}
use Rattle.execution.specs.Traffic.{is_same_element, input_word, loose_word}
use Rattle.aegis_num.specs.declared.limits.TheConstants.{MAX_PARAMETERS}
use Rattle.aegis_num.specs.Operators.{unary, binary, traps}
use Rattle.regions.specs.declared.rights.Access.{Access}
use Rattle.regions.specs.declared.rights.Access.TheVariants.{Read, Write}
use Rattle.regions.specs.declared.rights.Class.{Class}
use Rattle.ir_code.specs.declared.code.Ir.{Ir}
use Rattle.ir_code.specs.declared.ops.Op.{Op}
use Rattle.ir_code.specs.declared.ops.Op.TheVariants as op
use Rattle.ir_code.specs.FlatStates.{Held, Word, Link, FlatState, FlatEnd, Later, pick, stuck, class_of, is_allowed, element_at, fetched, label_place}
use Rattle.ir_code.specs.FlatMeaning.{touching, with_word, with_link, with_given, kept_word, loosely, taken_word, reading, writing, put, going, jumping, effect, at_op, flat_step}

-- what is still to be done jumps at most once
pub record Once (n : ℕ) (later : Later) : Type 0 where
  pub keep : (f : FlatState) → f.jumps + 1 ≤ n → (state_of (later f)).jumps ≤ n

module _ (n : ℕ) where
  goes-once : Once n (λ f. Goes f)
  goes-once = record { keep = λ f h. omega (arith, h) }

  stops-once : (end : FlatEnd) → Once n (Stops end)
  stops-once end = record { keep = λ f h. omega (arith, h) }

  pick-once : (b : Bool) (one other : Later) → Once n one → Once n other → Once n (pick b one other)
  pick-once true one other h k = record { keep = h.keep }
  pick-once false one other h k = record { keep = k.keep }

  touching-once : (ir : Ir) (access : Access) (c i : ℕ) (next : Later) → Once n next → Once n (touching ir access c i next)
  touching-once ir access c i next h = record { keep = λ f p. (pick-once (is_allowed ir access c i f.private) next stuck h (record { keep = λ g q. omega (arith, q) })).keep f p }

  word-once : (held : Held) (next : ℕ → Later) → ((word : ℕ) → Once n (next word)) → Once n (with_word held next)
  word-once (Word word) next h = record { keep = (h word).keep }
  word-once (Link place) next h = record { keep = λ f p. omega (arith, p) }

  given-once : (given : Option ℕ) (next : ℕ → Later) → ((word : ℕ) → Once n (next word)) → Once n (with_given given next)
  given-once (Some word) next h = record { keep = (h word).keep }
  given-once None next h = record { keep = λ f p. omega (arith, p) }

  loosely-once : (given : Option ℕ) (next : ℕ → Later) → ((word : ℕ) → Once n (next word)) → Once n (loosely given next)
  loosely-once (Some word) next h = record { keep = λ f p. (h word).keep _ p }
  loosely-once None next h = record { keep = λ f p. omega (arith, p) }

  reading-once : (is_loose : Class → Bool) (ir : Ir) (c i : ℕ) (next : ℕ → Later) → ((word : ℕ) → Once n (next word)) → Once n (reading is_loose ir c i next)
  reading-once is_loose ir c i next h =
      touching-once ir Read c i _
      (pick-once (is_loose (class_of ir c)) (taken_word c i next) (kept_word c i next)
      (record { keep = λ f p. (loosely-once (loose_word is_same_element (element_at c i) f.traffic) next h).keep f p })
      (record { keep = λ f p. (word-once (f.cells c i) next h).keep f p }))

  writing-once : (ir : Ir) (c i word : ℕ) (next : Later) → Once n next → Once n (writing ir c i word next)
  writing-once ir c i word next h = touching-once ir Write c i _ (record { keep = λ f p. h.keep _ p })

  put-once : (ir : Ir) (c word : ℕ) → Once n (put ir c word)
  put-once ir c word = writing-once ir c 0 word (λ f. Goes f) goes-once

  going-once : (place : ℕ) → Once n (going place)
  going-once place = record { keep = λ f p. p }

  jumping-once : (ir : Ir) (l : ℕ) → Once n (jumping ir l)
  jumping-once ir l = given-once (label_place ir l) going going-once

  link-once : (held : Held) → Once n (with_link held going)
  link-once (Link place) = record { keep = λ f p. p }
  link-once (Word word) = record { keep = λ f p. omega (arith, p) }

  effect-once : (is_loose : Class → Bool) (ir : Ir) (o : Op) (old : FlatState) → Once n (effect is_loose ir o old)
  effect-once is_loose ir (op.Const to value) old = put-once ir to value
  effect-once is_loose ir (op.Copy to from) old = reading-once is_loose ir from 0 _ (put-once ir to)
  effect-once is_loose ir (op.Unary operator to a) old = reading-once is_loose ir a 0 _ (λ word. put-once ir to (unary operator word))
  effect-once is_loose ir (op.Binary operator to a b) old =
      reading-once is_loose ir a 0 _
      (λ left. reading-once is_loose ir b 0 _ (λ right. pick-once (traps operator right) stuck _ (stops-once _) (put-once ir to (binary operator left right))))
  effect-once is_loose ir (op.Test a length token) old = reading-once is_loose ir a 0 _ (λ index. pick-once (nat_lt index length) _ _ goes-once (stops-once _))
  effect-once is_loose ir (op.NonZero a token) old = reading-once is_loose ir a 0 _ (λ word. pick-once (word == 0) _ _ (stops-once _) goes-once)
  effect-once is_loose ir (op.Load to array index) old = reading-once is_loose ir index 0 _ (λ i. reading-once is_loose ir array i _ (put-once ir to))
  effect-once is_loose ir (op.Store array index from) old =
      reading-once is_loose ir index 0 _ (λ i. reading-once is_loose ir from 0 _ (λ word. writing-once ir array i word _ goes-once))
  effect-once is_loose ir (op.Label l) old = goes-once
  effect-once is_loose ir (op.Jump l) old = jumping-once ir l
  effect-once is_loose ir (op.JumpZero a l) old = reading-once is_loose ir a 0 _ (λ word. pick-once (word == 0) (jumping ir l) _ (jumping-once ir l) goes-once)
  effect-once is_loose ir (op.Arg slot from) old =
      reading-once is_loose ir from 0 _ (λ word. pick-once (nat_lt slot MAX_PARAMETERS) _ stuck (record { keep = λ f p. omega (arith, p) }) (stops-once _))
  effect-once is_loose ir (op.Param to slot) old = given-once (old.slots slot) _ (put-once ir to)
  effect-once is_loose ir (op.Call l) old = record { keep = λ f p. (jumping-once ir l).keep _ p }
  effect-once is_loose ir (op.SaveLink cell) old =
      given-once old.link _
      (λ place. touching-once ir Write cell 0 _ (pick-once (is_loose (class_of ir cell)) stuck _ (stops-once _) (record { keep = λ f p. omega (arith, p) })))
  effect-once is_loose ir (op.Return cell) old =
      touching-once ir Read cell 0 _
      (pick-once (is_loose (class_of ir cell)) stuck _ (stops-once _) (record { keep = λ f p. (link-once (f.cells cell 0)).keep f p }))
  effect-once is_loose ir (op.SetResult from) old = reading-once is_loose ir from 0 _ (λ word. record { keep = λ f p. omega (arith, p) })
  effect-once is_loose ir (op.Result to) old = given-once old.result _ (put-once ir to)
  effect-once is_loose ir (op.Input to) old = record { keep = λ f p. (put-once ir to (input_word f.traffic)).keep _ p }
  effect-once is_loose ir (op.Release a) old = reading-once is_loose ir a 0 _ (λ word. record { keep = λ f p. omega (arith, p) })
  effect-once is_loose ir op.Check old = record { keep = λ f p. omega (arith, p) }
  effect-once is_loose ir op.Suspend old = record { keep = λ f p. omega (arith, p) }
  effect-once is_loose ir (op.SetMode true) old =
      record { keep = λ f p. (pick-once f.private stuck _ (stops-once _) (record { keep = λ g q. omega (arith, q) })).keep f p }
  effect-once is_loose ir (op.SetMode false) old =
      record { keep = λ f p. (pick-once f.private _ stuck (record { keep = λ g q. omega (arith, q) }) (stops-once _)).keep f p }
  effect-once is_loose ir op.Exit old = stops-once _

pub step-jumps : (is_loose : Class → Bool) (ir : Ir) (f : FlatState) → (state_of (flat_step is_loose ir f)).jumps ≤ f.jumps + 1
step-jumps is_loose ir f = go (slice_get ir.ops f.place)
  where
    go : (o : Option Op) → (state_of (at_op is_loose ir o f)).jumps ≤ f.jumps + 1
    go None = omega arith
    go (Some o) = (effect-once (f.jumps + 1) is_loose ir o f).keep (fetched o f) (omega arith)
