-- Promise: at which address each element of the objects of a source lies.
use Rattle.std.specs.Prelude.{◌≡◌, ℕ, ◌+◌, ◌*◌, cond, ◌==◌, nat_lt, List, [], ◌∷◌, ◌++◌, map, Option, Some, None, option_map}
use Rattle.execution.specs.Traffic.{Element, Entry}
use Rattle.execution.specs.Naming.{entry_named, element_by}
use Rattle.regions.specs.declared.Class.{Class}
use Rattle.regions.specs.declared.Layout.{Layout}
use Rattle.c_grammar.specs.declared.item.Program.{Program}
use Rattle.c_semantics.specs.ProgramShape.{word_count}
use Rattle.c_semantics.specs.ResolvedTree.{Object}
use Rattle.c_semantics.specs.States.{is_in}
use Rattle.c_resolver.specs.Resolving.{plain_program}
use Rattle.region_plan.specs.Homes.{first_address, home_address, is_same_class}
use Rattle.lowering.specs.Cells.{cell_element, cells_of, source_element}
use Rattle.lowering.specs.Lowering.{lowered}
use Rattle.codegen.specs.EmittedImage.{address_name, elements_from}

-- ---- the address map of a source

-- how many words the objects of a class have in all
abbrev pub words_of_class : Class → List Object → ℕ
words_of_class class [] = 0
words_of_class class (o ∷ os) = cond (is_in (is_same_class class) o.variable.class) (word_count o.length) 0 + words_of_class class os

-- the address of a word of an object, where these objects stand before it: it comes after all words of its class before it
abbrev pub place_after : Layout → List Object → ℕ → Class → ℕ
place_after layout before index class = first_address layout class + 4 * (words_of_class class before + index)

-- the address of an element, if it is one of these objects, which stand after those
abbrev pub place_among : Layout → (before objects : List Object) → Element → Option ℕ
place_among layout before [] e = None
place_among layout before (o ∷ os) e =
    cond (o.variable.token == e.variable)
    (cond (nat_lt e.index (word_count o.length)) (option_map (place_after layout before e.index) o.variable.class) None)
    (place_among layout (before ++ o ∷ []) os e)

-- The address of an element of a source: the objects of a class stand in the order of the source, word after word, from the first
-- address of the class.
abbrev pub place : Program → Layout → Element → Option ℕ
place p layout = place_among layout [] (plain_program p).objects

-- ---- names for all elements and all addresses

-- The address of each element, and the element at each address. They agree with the map above, and are what they are where that
-- has no address, as for the parameters and locals of functions.
abbrev pub address_of : Program → Layout → Element → ℕ
address_of p layout e = address_name layout (lowered (plain_program p)) (cell_element (plain_program p) e)

abbrev pub element_at : Program → Layout → ℕ → Element
element_at p layout address =
    source_element (plain_program p) (element_by (elements_from (home_address layout (lowered (plain_program p))) 0 (cells_of (plain_program p))) address)

-- Each element has an address of its own. An element that is one of an object has the address of the map, and no other address
-- has this element.
pub record HasPlaces (p : Program) (layout : Layout) : Type 0 where
  pub own : (e : Element) → element_at p layout (address_of p layout e) ≡ e
  pub mapped : (e : Element) (address : ℕ) → place p layout e ≡ Some address → address_of p layout e ≡ address
  pub only : (e : Element) (address other : ℕ) → place p layout e ≡ Some address → element_at p layout other ≡ e → other ≡ address
  -- so each list of words at elements is one of words at addresses
  pub lists : (words : List (Entry Element)) → map (entry_named (element_at p layout)) (map (entry_named (address_of p layout)) words) ≡ words
