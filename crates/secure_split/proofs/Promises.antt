-- What the flat code of a checked program has in common with what the program means.
use Rattle.std.proofs.Common.{◌≡◌, ◌∙◌, ap, subst, ℕ, ◌+◌, ◌*◌, ◌≤◌, ◌==◌, ◌||◌, Bool, true, false, cond, List, [], ◌∷◌, length, Option, Some, None, arith, refl}
use Rattle.regions.specs.declared.rights.Class.{Class}
use Rattle.regions.specs.declared.rights.Class.TheVariants.{Private, Verified}
use Rattle.c_grammar.specs.declared.item.Storage.{Storage}
use Rattle.c_grammar.specs.declared.item.Storage.TheVariants as storage
use Rattle.c_grammar.specs.declared.item.Item.{Item}
use Rattle.c_grammar.specs.declared.item.Item.TheVariants as item
use Rattle.c_grammar.specs.declared.item.Program.{Program}
use Rattle.c_grammar.specs.TokenPrograms.{limit}
use Rattle.c_types.specs.Checked.{IsReadProgram, IsTyped}
use Rattle.c_scopes.specs.Declarations.{class_of}
use Rattle.c_semantics.specs.Nodes.{nodes}
use Rattle.c_semantics.specs.ProgramShape.{IsShaped, is_among}
use Rattle.execution.specs.Traffic.{Element}
use Rattle.c_resolver.specs.Resolving.{objects_in, plain_program}
use Rattle.c_meaning.specs.SourceNodes.{items_count}
use Rattle.c_meaning.proofs.Shaped.{nodes_agree, program_shaped}
use Rattle.lowering.specs.Lowering.{lowered}
use Rattle.lowering.specs.LoweringLaws.{MeansAs, IsLowered, IsSmall, StartsWith, StartPlainly}
use Rattle.lowering.specs.Cells.{home_of, is_declared, owners_of, source_element}
use Rattle.lowering.specs.Sizes.{HasSize, temporary_cells, weight_of_all}
use Rattle.lowering.proofs.Formed.{form}
use Rattle.lowering.proofs.Homes.{only-home}
use Rattle.lowering.proofs.Listed.{cells-are-listed, private-is-guarded}
use Rattle.lowering.proofs.Sizing.{sizes-follow}
use Rattle.lowering.proofs.Starting.{starts-plainly}
use Rattle.lowering.proofs.Variables.{program-once, tokens-of-program, tokens_in}
use Rattle.lowering.proofs.Whole.{is-lowered, names-reach}
use Rattle.ir_code.specs.Lawful.{IsLawful}
use Rattle.ir_code.specs.OpTable.{start_weight}
use Rattle.secure_split.specs.SplitLaws.{InEach, GoesForward, GoesBackward, IsWithinWork, IsSmallCode, GuardsPrivate, HasSourceCells}
use Rattle.secure_split.proofs.Counting.{items-counted, tokens-length}

-- no object of a source that is no constant has words of its own
starts-with : (storage : Storage) → StartsWith (Some (class_of storage)) []
starts-with storage.Verified = refl
starts-with storage.Private = refl
starts-with storage.Shared = refl
starts-with storage.Logged = refl

pub start-plainly : (items : List Item) → StartPlainly (objects_in items)
start-plainly [] = tt
start-plainly (item.Object storage unsigned name length' token ∷ items) = (starts-with storage, start-plainly items)
start-plainly (item.Constant unsigned name length' values braces token ∷ items) = (tt, start-plainly items)
start-plainly (item.Untrusted name token ∷ items) = start-plainly items
start-plainly (item.Function private result name parameters body token ∷ items) = start-plainly items

objects-few : (items : List Item) → length (objects_in items) ≤ length items
objects-few [] = omega arith
objects-few (item.Object storage unsigned name length' token ∷ items) = let h : length (objects_in items) ≤ length items = objects-few items in omega arith
objects-few (item.Constant unsigned name length' values braces token ∷ items) = let h : length (objects_in items) ≤ length items = objects-few items in omega arith
objects-few (item.Untrusted name token ∷ items) = let h : length (objects_in items) ≤ length items = objects-few items in omega arith
objects-few (item.Function private result name parameters body token ∷ items) = let h : length (objects_in items) ≤ length items = objects-few items in omega arith

-- what is among the tokens of cells is declared
declared-among : (owners : List (Option ℕ)) (token : ℕ) → is_among (tokens_in owners) token ≡ true → is_declared owners token ≡ true
declared-among [] token e = absurd (grind (arith, e))
declared-among (None ∷ owners) token e = declared-among owners token e
declared-among (Some other ∷ owners) token e = go (other == token) e (declared-among owners token)
  where
    go : (t : Bool) → (t || is_among (tokens_in owners) token) ≡ true → (is_among (tokens_in owners) token ≡ true → is_declared owners token ≡ true) → cond t true (is_declared owners token) ≡ true
    go true h later = refl
    go false h later = later h

module _ (p : Program) (read : IsReadProgram p) (typed : IsTyped p) where
  shaped : IsShaped (plain_program p)
  shaped = program_shaped p read typed

  agree : nodes (plain_program p) ≡ items_count p.items
  agree = nodes_agree p read typed.rules

  small : IsSmall (plain_program p)
  small =
      let all : items_count p.items + length p.items ≤ length read.0 = subst (λ n. items_count p.items + length p.items ≤ n) (tokens-length limit read.0) (items-counted read.2) in
      let few : length (objects_in p.items) ≤ length p.items = objects-few p.items in
      let tokens : length read.0 ≤ 262144 = read.1 in
      let same : nodes (plain_program p) ≡ items_count p.items = agree in
      record { nodes = omega arith; objects = omega arith }

  means : (is_loose : Class → Bool) → is_loose Verified ≡ false → is_loose Private ≡ false → IsLowered is_loose (plain_program p)
  means is_loose verified private =
      is-lowered is_loose (plain_program p) shaped verified private (starts-plainly (plain_program p) shaped.objects (start-plainly p.items))

  forward-in : (is_loose : Class → Bool) → MeansAs is_loose (plain_program p) (lowered (plain_program p)) (source_element (plain_program p)) → GoesForward p (lowered (plain_program p)) is_loose
  forward-in is_loose m input loose turns ends =
      let r = m.forward input loose turns ends in
      (r.0, r.1, r.2, r.3, record { ending = r.4.ending; traffic = r.4.traffic })

  backward-in : (is_loose : Class → Bool) → MeansAs is_loose (plain_program p) (lowered (plain_program p)) (source_element (plain_program p)) → GoesBackward p (lowered (plain_program p)) is_loose
  backward-in is_loose m = record {
    front = λ input loose steps. (m.backward input loose steps).traffic;
    ended = λ input loose steps end at is. record { ending = (m.ended input loose steps end at is).ending; traffic = (m.ended input loose steps end at is).traffic };
  }

  weight-in : (is_loose : Class → Bool) → MeansAs is_loose (plain_program p) (lowered (plain_program p)) (source_element (plain_program p)) → IsWithinWork p (lowered (plain_program p)) is_loose
  weight-in is_loose m = record {
    always = λ input loose steps. (m.backward input loose steps).weight;
    whole = λ input loose turns ends. let r = m.forward input loose turns ends in (r.0, r.1, r.2, r.3, r.4.weight);
  }

  pub goes-forward : InEach (GoesForward p (lowered (plain_program p)))
  goes-forward is_loose verified private = forward-in is_loose (means is_loose verified private).meaning

  pub goes-backward : InEach (GoesBackward p (lowered (plain_program p)))
  goes-backward is_loose verified private = backward-in is_loose (means is_loose verified private).meaning

  pub within-work : InEach (IsWithinWork p (lowered (plain_program p)))
  within-work is_loose verified private = weight-in is_loose (means is_loose verified private).meaning

  pub small-code : IsSmallCode p (lowered (plain_program p))
  small-code =
      let size : HasSize (plain_program p) = sizes-follow (plain_program p) in
      let same : nodes (plain_program p) ≡ items_count p.items = agree in
      record {
        weight = subst (λ n. start_weight + weight_of_all (lowered (plain_program p)).ops ≤ 64 * n + 64) same size.weight;
        count = subst (λ n. length (lowered (plain_program p)).ops ≤ 64 * n + 64) same size.count;
        temporaries = subst (λ n. temporary_cells (plain_program p).functions ≤ 2 * n) same size.temporaries;
        cells = size.cells;
      }

  pub is-lawful : InEach (λ is_loose. IsLawful is_loose (lowered (plain_program p)))
  is-lawful is_loose verified private = record { form = form (plain_program p) shaped small; runs = (means is_loose verified private).runs }

  pub guards-private : GuardsPrivate (lowered (plain_program p))
  guards-private = record { stuck = private-is-guarded (lowered (plain_program p)); never = λ is_loose verified private. (means is_loose verified private).runs }

  pub has-cells : HasSourceCells p (lowered (plain_program p))
  has-cells = record {
    cells = refl;
    listed = cells-are-listed (plain_program p) shaped;
    named = names-reach (plain_program p);
    only = λ e other among same.
        let home : other.variable ≡ home_of (plain_program p) e.variable =
        only-home (owners_of (plain_program p)) e.variable other.variable (program-once (plain_program p) shaped.tokens)
        (declared-among (owners_of (plain_program p)) e.variable (ap (λ (ts : List ℕ). is_among ts e.variable) (tokens-of-program (plain_program p)) ∙ among))
        (ap (λ (x : Element). x.variable) same) in
        ap (λ (v : ℕ). let x : Element = record { variable = v; index = other.index } in x) home
        ∙ ap (λ (i : ℕ). let x : Element = record { variable = home_of (plain_program p) e.variable; index = i } in x) (ap (λ (x : Element). x.index) same);
  }
