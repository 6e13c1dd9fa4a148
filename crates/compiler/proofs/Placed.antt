-- The elements of a source lie where the address map says.
use Rattle.std.proofs.Common.{◌≡◌, ℕ, zero, suc, ◌+◌, ◌*◌, ◌<◌, ◌≤◌, Bool, true, false, cond, ◌==◌, ◌||◌, nat_lt, List, [], ◌∷◌, ◌++◌, length, map, take, Option, Some, None, option_map, arith, refl, sym, ◌∙◌, ap, subst, append_assoc}
use Rattle.std.proofs.lemmas.Bool.{eq-eqb, eqb-true, ltb-true}
use Rattle.std.proofs.lemmas.List.Sums.{sum_by-cons}
use Rattle.std.proofs.lemmas.Option.{slice_get_within}
use Rattle.std.specs.List.{slice_get}
use Rattle.execution.specs.Traffic.{Element, Entry}
use Rattle.execution.specs.Naming.{Addressed, element_by, entry_named, name_by}
use Rattle.execution.proofs.NamingLemmas.{element-name, name-address, name-element}
use Rattle.regions.specs.declared.Class.{Class}
use Rattle.regions.specs.declared.Layout.{Layout}
use Rattle.c_grammar.specs.declared.item.Item.{Item}
use Rattle.c_grammar.specs.declared.item.Item.TheVariants as item
use Rattle.c_grammar.specs.declared.item.Program.{Program}
use Rattle.c_resolver.specs.Resolving.{objects_in, plain_program}
use Rattle.c_semantics.specs.ProgramShape.{declared_tokens, is_among, own_tokens_of_all, word_count}
use Rattle.c_semantics.specs.ResolvedTree as Tree
use Rattle.c_semantics.specs.ResolvedTree.{Object}
use Rattle.c_semantics.specs.States.{is_in}
use Rattle.ir_code.specs.declared.Cell.{Cell}
use Rattle.ir_code.specs.declared.Ir.{Ir}
use Rattle.ir_code.specs.FlatStates.{class_in, class_of, words_in, words_of}
use Rattle.lowering.specs.Cells.{cell_element, class_or_verified, home_of, object_cell, object_cells, source_element, function_cells}
use Rattle.lowering.specs.Lowering.{lowered}
use Rattle.lowering.proofs.Whole.{among-front}
use Rattle.secure_split.specs.SplitLaws.{HasSourceCells}
use Rattle.region_plan.specs.Homes.{WordsAreApart, class_words, first_address, home_address, is_same_class, words_for}
use Rattle.codegen.specs.EmittedImage.{elements_from}
use Rattle.codegen.proofs.Elements.{element-listed, elements-apart}
use Rattle.compiler.specs.Places.{HasPlaces, address_of, element_at, place, place_after, place_among, words_of_class}

-- ---- each object has a class

pub record IsKept (o : Object) : Type 0 where
  pub class : Class
  pub is : o.variable.class ≡ Some class

abbrev pub AreKept : List Object → Type 0
AreKept [] = Unit {0}
AreKept (o ∷ os) = IsKept o × AreKept os

pub are-kept : (items : List Item) → AreKept (objects_in items)
are-kept [] = tt
are-kept (item.Object storage unsigned name length' token ∷ items) = (record { class = _; is = refl }, are-kept items)
are-kept (item.Constant unsigned name length' values braces token ∷ items) = (record { class = _; is = refl }, are-kept items)
are-kept (item.Untrusted name token ∷ items) = are-kept items
are-kept (item.Function private result name parameters body token ∷ items) = are-kept items

-- ---- words of a class

pub object-words : (class : Class) (o : Object) → IsKept o → words_for class (object_cell o) ≡ cond (is_in (is_same_class class) o.variable.class) (word_count o.length) 0
object-words class o kept =
    ap (λ (c : Option Class). cond (is_same_class class (class_or_verified c)) (word_count o.length) 0) kept.is
    ∙ sym (ap (λ (c : Option Class). cond (is_in (is_same_class class) c) (word_count o.length) 0) kept.is)

-- those of objects, and those of other cells after them
pub words-split : (class : Class) (objects : List Object) (rest : List Cell) → AreKept objects → class_words class (object_cells objects ++ rest) ≡ words_of_class class objects + class_words class rest
words-split class [] rest kept = omega arith
words-split class (o ∷ os) rest kept =
    let own : words_for class (object_cell o) ≡ cond (is_in (is_same_class class) o.variable.class) (word_count o.length) 0 = object-words class o kept.0 in
    let later : class_words class (object_cells os ++ rest) ≡ words_of_class class os + class_words class rest = words-split class os rest kept.1 in
    sum_by-cons (words_for class) (object_cell o) (object_cells os ++ rest) ∙ omega (arith, own, later)

words-before : (class : Class) (objects : List Object) (rest : List Cell) (c : ℕ) → AreKept objects → c ≤ length objects → class_words class (take c (object_cells objects ++ rest)) ≡ words_of_class class (take c objects)
words-before class objects rest zero kept few = refl
words-before class [] rest (suc c) kept few = absurd (omega (arith, few))
words-before class (o ∷ os) rest (suc c) kept few =
    let own : words_for class (object_cell o) ≡ cond (is_in (is_same_class class) o.variable.class) (word_count o.length) 0 = object-words class o kept.0 in
    let later : class_words class (take c (object_cells os ++ rest)) ≡ words_of_class class (take c os) = words-before class os rest c kept.1 (omega (arith, few)) in
    sum_by-cons (words_for class) (object_cell o) (take c (object_cells os ++ rest)) ∙ omega (arith, own, later)

-- ---- what the map finds

record IsFound (layout : Layout) (objects : List Object) (e : Element) (address : ℕ) : Type 0 where
  number : ℕ
  object : Object
  class : Class
  there : slice_get objects number ≡ Some object
  token : object.variable.token ≡ e.variable
  kept : object.variable.class ≡ Some class
  inside : e.index < word_count object.length
  lies : first_address layout class + 4 * (words_of_class class (take number objects) + e.index) ≡ address

get-after : (before : List Object) (o : Object) (os : List Object) → slice_get (before ++ (o ∷ os)) (length before) ≡ Some o
get-after [] o os = refl
get-after (x ∷ before) o os = get-after before o os

take-before : (before os : List Object) → take (length before) (before ++ os) ≡ before
take-before [] os = refl
take-before (x ∷ before) os = ap (λ (xs : List Object). x ∷ xs) (take-before before os)

nothing-found : (address : ℕ) → None ≡ Some address → ⊥
nothing-found address e = cc

same-address : (one other : ℕ) → Some one ≡ Some other → one ≡ other
same-address one other e = cc

found-among : (layout : Layout) (before objects : List Object) (e : Element) (address : ℕ) → place_among layout before objects e ≡ Some address → IsFound layout (before ++ objects) e address
found-among layout before [] e address h = absurd (nothing-found address h)
found-among layout before (o ∷ os) e address h = go (o.variable.token == e.variable) refl h (found-among layout (before ++ (o ∷ [])) os e address)
  where
    kept-in : (c : Option Class) → o.variable.class ≡ c → o.variable.token ≡ e.variable → e.index < word_count o.length → option_map (place_after layout before e.index) c ≡ Some address → IsFound layout (before ++ (o ∷ os)) e address
    kept-in None k t i h = absurd (nothing-found address h)
    kept-in (Some class) k t i h = record {
      number = length before;
      object = o;
      class = class;
      there = get-after before o os;
      token = t;
      kept = k;
      inside = i;
      lies = ap (λ (xs : List Object). first_address layout class + 4 * (words_of_class class xs + e.index)) (take-before before (o ∷ os)) ∙ same-address _ address h;
    }

    within : (t : Bool) → nat_lt e.index (word_count o.length) ≡ t → o.variable.token ≡ e.variable → cond t (option_map (place_after layout before e.index) o.variable.class) None ≡ Some address → IsFound layout (before ++ (o ∷ os)) e address
    within true x t h = kept-in o.variable.class refl t (ltb-true e.index (word_count o.length) x) h
    within false x t h = absurd (nothing-found address h)

    go : (t : Bool) → (o.variable.token == e.variable) ≡ t →
        cond t (cond (nat_lt e.index (word_count o.length)) (option_map (place_after layout before e.index) o.variable.class) None) (place_among layout (before ++ (o ∷ [])) os e) ≡ Some address →
        (place_among layout (before ++ (o ∷ [])) os e ≡ Some address → IsFound layout ((before ++ (o ∷ [])) ++ os) e address) → IsFound layout (before ++ (o ∷ os)) e address
    go true x h later = within (nat_lt e.index (word_count o.length)) refl (eqb-true o.variable.token e.variable x) h
    go false x h later = subst (λ (xs : List Object). IsFound layout xs e address) (append_assoc before (o ∷ []) os) (later h)

-- an object is among those that are declared
among-objects : (objects : List Object) (number : ℕ) (o : Object) → slice_get objects number ≡ Some o → is_among (map (λ (x : Object). x.variable.token) objects) o.variable.token ≡ true
among-objects [] number o e = absurd (grind (arith, e))
among-objects (x ∷ objects) zero o e =
    let same : x ≡ o = cc in
    ap (λ (t : Bool). t || is_among (map (λ (y : Object). y.variable.token) objects) o.variable.token) (eq-eqb x.variable.token o.variable.token (ap (λ (y : Object). y.variable.token) same))
among-objects (x ∷ objects) (suc number) o e = go (x.variable.token == o.variable.token) (among-objects objects number o e)
  where
    go : (t : Bool) → is_among (map (λ (y : Object). y.variable.token) objects) o.variable.token ≡ true → (t || is_among (map (λ (y : Object). y.variable.token) objects) o.variable.token) ≡ true
    go true h = refl
    go false h = h

-- ---- names

module _ (p : Program) (layout : Layout) (apart : WordsAreApart layout (lowered (plain_program p))) (has : HasSourceCells p (lowered (plain_program p))) where
  abbrev tree : Tree.Program
  tree = plain_program p

  abbrev ir : Ir
  ir = lowered (plain_program p)

  abbrev list : List Addressed
  list = elements_from (home_address layout ir) 0 ir.cells

  own-address : (e : Element) → element_at p layout (address_of p layout e) ≡ e
  own-address e = ap (source_element tree) (element-name list (cell_element tree e)) ∙ has.named e

  found-in : (e : Element) (address : ℕ) → place p layout e ≡ Some address → IsFound layout tree.objects e address
  found-in e address h = found-among layout [] tree.objects e address h

  mapped-address : (e : Element) (address : ℕ) → place p layout e ≡ Some address → address_of p layout e ≡ address
  mapped-address e address h =
      let f : IsFound layout tree.objects e address = found-in e address h in
      let cell : slice_get ir.cells f.number ≡ Some (object_cell f.object) = (has.listed.objects f.number f.object f.there).0 in
      let home : home_of tree e.variable ≡ f.number = ap (home_of tree) (sym f.token) ∙ (has.listed.objects f.number f.object f.there).1 in
      let words : words_of ir f.number ≡ word_count f.object.length = ap words_in cell in
      let class : class_of ir f.number ≡ f.class = ap class_in cell ∙ ap class_or_verified f.kept in
      let below : e.index < words_of ir f.number = omega (arith, f.inside, words) in
      let few : f.number ≤ length tree.objects = (let h : f.number < length tree.objects = slice_get_within tree.objects f.number f.object f.there in omega (arith, h)) in
      let before : class_words f.class (take f.number ir.cells) ≡ words_of_class f.class (take f.number tree.objects) =
      words-before f.class tree.objects (function_cells tree.functions) f.number (are-kept p.items) few in
      let first : home_address layout ir f.number ≡ first_address layout f.class + 4 * class_words f.class (take f.number ir.cells) =
      ap (λ (c : Class). first_address layout c + 4 * class_words c (take f.number ir.cells)) class in
      let named : name_by list (record { variable = f.number; index = e.index }) ≡ home_address layout ir f.number + 4 * e.index =
      name-address list (elements-apart ir (home_address layout ir) apart) _ (element-listed ir (home_address layout ir) f.number e.index below) in
      let lies : first_address layout f.class + 4 * (words_of_class f.class (take f.number tree.objects) + e.index) ≡ address = f.lies in
      ap (λ (c : ℕ). name_by list (record { variable = c; index = e.index })) home ∙ named ∙ omega (arith, first, before, lies)

  only-address : (e : Element) (address other : ℕ) → place p layout e ≡ Some address → element_at p layout other ≡ e → other ≡ address
  only-address e address other h same =
      let f : IsFound layout tree.objects e address = found-in e address h in
      let among : is_among (declared_tokens tree) e.variable ≡ true =
      subst (λ (t : ℕ). is_among (declared_tokens tree) t ≡ true) f.token
      (among-front (map (λ (o : Object). o.variable.token) tree.objects) (own_tokens_of_all tree.functions) f.object.variable.token (among-objects tree.objects f.number f.object f.there)) in
      sym (name-element list other) ∙ ap (name_by list) (has.only e (element_by list other) among same) ∙ mapped-address e address h

  lists-reached : (words : List (Entry Element)) → map (entry_named (element_at p layout)) (map (entry_named (address_of p layout)) words) ≡ words
  lists-reached [] = refl
  lists-reached (entry ∷ words) =
      ap (λ (e : Element). record { place = e; word = entry.word } ∷ map (entry_named (element_at p layout)) (map (entry_named (address_of p layout)) words)) (own-address entry.place)
      ∙ ap (λ (es : List (Entry Element)). entry ∷ es) (lists-reached words)

  pub has-places : HasPlaces p layout
  has-places = record { own = own-address; mapped = mapped-address; only = only-address; lists = lists-reached }
