-- Promise: the releases and the checks of a program, in the order of its text: as its source has them, and as its resolved tree does.
use Rattle.std.specs.Prelude.{◌≡◌, List, [], ◌∷◌, ◌++◌, Option, Some, None}
use Rattle.c_grammar.specs.declared.stmt.Stmt.{Stmt}
use Rattle.c_grammar.specs.declared.stmt.Stmt.TheOpen.{Stmt-F}
use Rattle.c_grammar.specs.declared.stmt.Stmt.TheFolds.{fold-Stmt}
use Rattle.c_grammar.specs.declared.item.Item.{Item}
use Rattle.c_grammar.specs.declared.item.Item.TheVariants as item
use Rattle.c_grammar.specs.declared.item.Program.{Program}
use Rattle.c_semantics.specs.ResolvedTree as Tree
use Rattle.c_resolver.specs.Resolving.{plain_program}

pub data Act : Type 0 where
  -- a byte is released
  ReleaseAct : Act
  -- logged memory is checked
  CheckAct : Act

-- ---- in the source

-- one list after another
abbrev pub joined_acts : List (List Act) → List Act
joined_acts [] = []
joined_acts (acts ∷ later) = acts ++ joined_acts later

abbrev pub acts_if_any : Option (List Act) → List Act
acts_if_any None = []
acts_if_any (Some acts) = acts

abbrev pub acts_step : Stmt-F (List Act) → List Act
acts_step (Stmt-F.Block body token) = joined_acts body
acts_step (Stmt-F.Release value token) = ReleaseAct ∷ []
acts_step (Stmt-F.Check token) = CheckAct ∷ []
acts_step (Stmt-F.If test body other token) = body ++ acts_if_any other
acts_step (Stmt-F.While test body token) = body
acts_step (Stmt-F.For first test step body token) = acts_if_any first ++ (acts_if_any step ++ body)
acts_step other = []

-- the acts of a statement
abbrev pub stmt_acts : Stmt → List Act
stmt_acts = fold-Stmt (List Act) acts_step

abbrev pub body_acts : List Stmt → List Act
body_acts [] = []
body_acts (s ∷ ss) = stmt_acts s ++ body_acts ss

abbrev pub items_acts : List Item → List Act
items_acts [] = []
items_acts (item.Function private result name parameters body token ∷ items) = body_acts body ++ items_acts items
items_acts (other ∷ items) = items_acts items

-- ---- in the resolved tree

abbrev pub resolved_acts : Tree.Stmt → List Act
resolved_acts (Tree.Then first second) = resolved_acts first ++ resolved_acts second
resolved_acts (Tree.Block body) = resolved_acts body
resolved_acts (Tree.Release value) = ReleaseAct ∷ []
resolved_acts Tree.Check = CheckAct ∷ []
resolved_acts (Tree.If test body other) = resolved_acts body ++ resolved_acts other
resolved_acts (Tree.While test body) = resolved_acts body
resolved_acts (Tree.For first test step body) = resolved_acts first ++ (resolved_acts step ++ resolved_acts body)
resolved_acts other = []

abbrev pub functions_acts : List Tree.Function → List Act
functions_acts [] = []
functions_acts (f ∷ fs) = resolved_acts f.body ++ functions_acts fs

-- ---- both are one

-- A program has, once its names are resolved, the releases and the checks of its source, in their order.
abbrev pub ActsAgree : Program → Type 0
ActsAgree p = functions_acts (plain_program p).functions ≡ items_acts p.items
