-- What a property of states keeps of single things, it keeps of each operation and of whole runs.
use Rattle.std.proofs.Common.{◌≡◌, ℕ, ◌+◌, ◌≤◌, ◌==◌, Bool, true, false, cond, nat_lt, Option, Some, None, arith, refl, sym, ◌∙◌, subst}
use Rattle.std.specs.List.{slice_get}
use Rattle.execution.specs.Run.{Goes, Stops, state_of}
use Rattle.execution.specs.Traffic.{Element, Traffic, Extends, is_same_element, input_word, loose_word, after_loose, after_write}
use Rattle.execution.proofs.RunLemmas.{run-keeps}
use Rattle.execution.proofs.TrafficLemmas.{extends-refl, extends-trans, extends-input, extends-loose, extends-release, extends-write, extends-check, extends-suspension}
use Rattle.aegis_num.specs.declared.limits.TheConstants.{MAX_PARAMETERS}
use Rattle.aegis_num.specs.Operators.{unary, binary, traps}
use Rattle.regions.specs.declared.rights.Access.{Access}
use Rattle.regions.specs.declared.rights.Access.TheVariants.{Read, Write}
use Rattle.regions.specs.declared.rights.Class.{Class}
use Rattle.ir_code.specs.declared.code.Ir.{Ir}
use Rattle.ir_code.specs.declared.ops.Op.{Op}
use Rattle.ir_code.specs.declared.ops.Op.TheVariants as op
use Rattle.ir_code.specs.OpTable.{weight_of}
use Rattle.ir_code.specs.FlatStates.{Held, Word, Link, FlatState, FlatEnd, Later, pick, stuck, with_traffic, class_of, is_allowed, is_shared, element_at, changed, label_place, fetched}
use Rattle.ir_code.specs.FlatMeaning.{touching, with_word, with_link, with_given, kept_word, loosely, taken_word, reading, written, writing, put, going, jumping, effect, at_op, flat_step}
use Rattle.ir_code.specs.FlatLaws.{IsLater, StepsOnlyAdd, WeightsAreCounted}

-- a property of what has come and gone, of the weight and of the count of jumps, which an operation keeps once it is fetched
pub record IsKept (P : FlatState → Type 0) : Type 0 where
  pub stays : (f g : FlatState) → g.traffic ≡ f.traffic → g.weight ≡ f.weight → f.jumps ≤ g.jumps → P f → P g
  pub extends : (f : FlatState) (t : Traffic Element) → Extends f.traffic t → P f → P (with_traffic t f)

pub record Keeps (P : FlatState → Type 0) (later : Later) : Type 0 where
  pub keep : (f : FlatState) → P f → P (state_of (later f))

module _ (P : FlatState → Type 0) (kept : IsKept P) where
  keeps-stuck : Keeps P stuck
  keeps-stuck = record { keep = λ f h. h }

  keeps-stops : (end : FlatEnd) → Keeps P (Stops end)
  keeps-stops end = record { keep = λ f h. h }

  keeps-goes : Keeps P Goes
  keeps-goes = record { keep = λ f h. h }

  keeps-pick : (test : Bool) (one other : Later) → Keeps P one → Keeps P other → Keeps P (pick test one other)
  keeps-pick true one other h k = record { keep = h.keep }
  keeps-pick false one other h k = record { keep = k.keep }

  keeps-touching : (ir : Ir) (access : Access) (c i : ℕ) (next : Later) → Keeps P next → Keeps P (touching ir access c i next)
  keeps-touching ir access c i next h = record { keep = λ f p. (keeps-pick (is_allowed ir access c i f.private) next stuck h keeps-stuck).keep f p }

  keeps-given : (given : Option ℕ) (next : ℕ → Later) → ((word : ℕ) → Keeps P (next word)) → Keeps P (with_given given next)
  keeps-given None next h = record { keep = keeps-stuck.keep }
  keeps-given (Some word) next h = record { keep = (h word).keep }

  keeps-word : (held : Held) (next : ℕ → Later) → ((word : ℕ) → Keeps P (next word)) → Keeps P (with_word held next)
  keeps-word (Word word) next h = record { keep = (h word).keep }
  keeps-word (Link place) next h = record { keep = keeps-stuck.keep }

  keeps-link : (held : Held) (next : ℕ → Later) → ((word : ℕ) → Keeps P (next word)) → Keeps P (with_link held next)
  keeps-link (Word word) next h = record { keep = keeps-stuck.keep }
  keeps-link (Link place) next h = record { keep = (h place).keep }

  keeps-taken : (c i : ℕ) (next : ℕ → Later) → ((word : ℕ) → Keeps P (next word)) → Keeps P (taken_word c i next)
  keeps-taken c i next h = record { keep = λ f p. go f p (loose_word is_same_element (element_at c i) f.traffic) refl }
    where
      go : (f : FlatState) → P f → (word : Option ℕ) → loose_word is_same_element (element_at c i) f.traffic ≡ word → P (state_of (loosely word next f))
      go f p None e = p
      go f p (Some word) e = (h word).keep _ (kept.extends f (after_loose f.traffic) (extends-loose is_same_element (element_at c i) f.traffic word e) p)

  keeps-reading : (is_loose : Class → Bool) (ir : Ir) (c i : ℕ) (next : ℕ → Later) → ((word : ℕ) → Keeps P (next word)) → Keeps P (reading is_loose ir c i next)
  keeps-reading is_loose ir c i next h =
      keeps-touching ir Read c i _
      (keeps-pick (is_loose (class_of ir c)) (taken_word c i next) (kept_word c i next) (keeps-taken c i next h) (record { keep = λ f p. (keeps-word (f.cells c i) next h).keep f p }))

  keeps-written : (ir : Ir) (c i word : ℕ) (f : FlatState) → P f → P (written ir c i word f)
  keeps-written ir c i word f p = go (is_shared (class_of ir c))
    where
      go : (shared : Bool) → P (record f {
        cells = changed f.cells c i (Word word);
        traffic = cond shared (after_write (element_at c i) word f.traffic) f.traffic;
      })
      go true = kept.stays (with_traffic (after_write (element_at c i) word f.traffic) f) _ refl refl (omega arith) (kept.extends f _ (extends-write (element_at c i) word f.traffic) p)
      go false = kept.stays f _ refl refl (omega arith) p

  keeps-writing : (ir : Ir) (c i word : ℕ) (next : Later) → Keeps P next → Keeps P (writing ir c i word next)
  keeps-writing ir c i word next h = keeps-touching ir Write c i _ (record { keep = λ f p. h.keep _ (keeps-written ir c i word f p) })

  keeps-put : (ir : Ir) (c word : ℕ) → Keeps P (put ir c word)
  keeps-put ir c word = keeps-writing ir c 0 word Goes keeps-goes

  keeps-going : (place : ℕ) → Keeps P (going place)
  keeps-going place = record { keep = λ f p. kept.stays f _ refl refl (omega arith) p }

  keeps-jumping : (ir : Ir) (l : ℕ) → Keeps P (jumping ir l)
  keeps-jumping ir l = keeps-given (label_place ir l) going keeps-going

  keeps-effect : (is_loose : Class → Bool) (ir : Ir) (o : Op) (old : FlatState) → Keeps P (effect is_loose ir o old)
  keeps-effect is_loose ir (op.Const to value) old = keeps-put ir to value
  keeps-effect is_loose ir (op.Copy to from) old = keeps-reading is_loose ir from 0 _ (keeps-put ir to)
  keeps-effect is_loose ir (op.Unary operator to a) old = keeps-reading is_loose ir a 0 _ (λ word. keeps-put ir to (unary operator word))
  keeps-effect is_loose ir (op.Binary operator to a b) old =
      keeps-reading is_loose ir a 0 _
      (λ left. keeps-reading is_loose ir b 0 _ (λ right. keeps-pick (traps operator right) stuck _ keeps-stuck (keeps-put ir to (binary operator left right))))
  keeps-effect is_loose ir (op.Test a length token) old =
      keeps-reading is_loose ir a 0 _ (λ index. keeps-pick (nat_lt index length) Goes _ keeps-goes (keeps-stops _))
  keeps-effect is_loose ir (op.NonZero a token) old =
      keeps-reading is_loose ir a 0 _ (λ word. keeps-pick (word == 0) _ Goes (keeps-stops _) keeps-goes)
  keeps-effect is_loose ir (op.Load to array index) old =
      keeps-reading is_loose ir index 0 _ (λ i. keeps-reading is_loose ir array i _ (keeps-put ir to))
  keeps-effect is_loose ir (op.Store array index from) old =
      keeps-reading is_loose ir index 0 _ (λ i. keeps-reading is_loose ir from 0 _ (λ word. keeps-writing ir array i word Goes keeps-goes))
  keeps-effect is_loose ir (op.Label l) old = keeps-goes
  keeps-effect is_loose ir (op.Jump l) old = keeps-jumping ir l
  keeps-effect is_loose ir (op.JumpZero a l) old =
      keeps-reading is_loose ir a 0 _ (λ word. keeps-pick (word == 0) (jumping ir l) Goes (keeps-jumping ir l) keeps-goes)
  keeps-effect is_loose ir (op.Arg slot from) old =
      keeps-reading is_loose ir from 0 _
      (λ word. keeps-pick (nat_lt slot MAX_PARAMETERS) _ stuck (record { keep = λ f p. kept.stays f _ refl refl (omega arith) p }) keeps-stuck)
  keeps-effect is_loose ir (op.Param to slot) old = keeps-given (old.slots slot) _ (keeps-put ir to)
  keeps-effect is_loose ir (op.Call l) old =
      record { keep = λ f p. (keeps-jumping ir l).keep _ (kept.stays f (record f { link = Some f.place }) refl refl (omega arith) p) }
  keeps-effect is_loose ir (op.SaveLink cell) old =
      keeps-given old.link _
      (λ place. keeps-touching ir Write cell 0 _ (keeps-pick (is_loose (class_of ir cell)) stuck _ keeps-stuck (record { keep = λ f p. kept.stays f _ refl refl (omega arith) p })))
  keeps-effect is_loose ir (op.Return cell) old =
      keeps-touching ir Read cell 0 _
      (keeps-pick (is_loose (class_of ir cell)) stuck _ keeps-stuck (record { keep = λ f p. (keeps-link (f.cells cell 0) going keeps-going).keep f p }))
  keeps-effect is_loose ir (op.SetResult from) old =
      keeps-reading is_loose ir from 0 _ (λ word. record { keep = λ f p. kept.stays f _ refl refl (omega arith) p })
  keeps-effect is_loose ir (op.Result to) old = keeps-given old.result _ (keeps-put ir to)
  keeps-effect is_loose ir (op.Input to) old =
      record { keep = λ f p. (keeps-put ir to (input_word f.traffic)).keep _ (kept.extends f _ (extends-input f.traffic) p) }
  keeps-effect is_loose ir (op.Release a) old =
      keeps-reading is_loose ir a 0 _ (λ word. record { keep = λ f p. kept.extends f _ (extends-release word f.traffic) p })
  keeps-effect is_loose ir op.Check old = record { keep = λ f p. kept.extends f _ (extends-check f.traffic) p }
  keeps-effect is_loose ir op.Suspend old = record { keep = λ f p. kept.extends f _ (extends-suspension f.traffic) p }
  keeps-effect is_loose ir (op.SetMode true) old =
      record { keep = λ f p. (keeps-pick f.private stuck _ keeps-stuck (record { keep = λ g q. kept.stays g _ refl refl (omega arith) q })).keep f p }
  keeps-effect is_loose ir (op.SetMode false) old =
      record { keep = λ f p. (keeps-pick f.private _ stuck (record { keep = λ g q. kept.stays g _ refl refl (omega arith) q }) keeps-stuck).keep f p }
  keeps-effect is_loose ir op.Exit old = keeps-stops _

-- ---- what came before stays

is-later-kept : (start : FlatState) → IsKept (IsLater start)
is-later-kept start = record {
  stays = λ f g e w j h. record {
    traffic = subst (λ (t : Traffic Element). Extends start.traffic t) (sym e) h.traffic;
    weight = omega (arith, w, h.weight);
    jumps = omega (arith, j, h.jumps);
  };
  extends = λ f t x h. record { traffic = extends-trans _ _ _ h.traffic x; weight = h.weight; jumps = h.jumps };
}

later-fetched : (start f : FlatState) (o : Op) → IsLater start f → IsLater start (fetched o f)
later-fetched start f o h = record { traffic = h.traffic; weight = omega (arith, h.weight); jumps = h.jumps }

later-step : (is_loose : Class → Bool) (ir : Ir) (start f : FlatState) → IsLater start f → IsLater start (state_of (flat_step is_loose ir f))
later-step is_loose ir start f h = go (slice_get ir.ops f.place)
  where
    go : (o : Option Op) → IsLater start (state_of (at_op is_loose ir o f))
    go None = h
    go (Some o) = (keeps-effect (IsLater start) (is-later-kept start) is_loose ir o f).keep (fetched o f) (later-fetched start f o h)

pub steps-only-add : StepsOnlyAdd
steps-only-add is_loose ir steps f =
    run-keeps (flat_step is_loose ir) (IsLater f) (later-step is_loose ir f) steps f
    (record { traffic = extends-refl f.traffic; weight = omega arith; jumps = omega arith })

weight-kept : (n : ℕ) → IsKept (λ f. f.weight ≡ n)
weight-kept n = record { stays = λ f g e w j h. w ∙ h; extends = λ f t x h. h }

pub weights-are-counted : WeightsAreCounted
weights-are-counted is_loose ir o f e =
    subst (λ (x : Option Op). (state_of (at_op is_loose ir x f)).weight ≡ f.weight + weight_of o) (sym e)
    ((keeps-effect (λ g. g.weight ≡ f.weight + weight_of o) (weight-kept (f.weight + weight_of o)) is_loose ir o f).keep (fetched o f) refl)
