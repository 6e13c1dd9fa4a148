use Rattle.std.proofs.Common.{◌≡◌, ◌∙◌, ap, ℕ, Bool, List, Option}
use Rattle.c_semantics.specs.ResolvedViews.{functions_of, program_of}
use Rattle.lowering.specs.Cells.{home_in, owners_of}
use Rattle.secure_split.specs.SplitViews.{home_by, private_by}
use Rattle.secure_split.proofs.Whole.{private-same, whole}
use Rattle.secure_split.proofs.lower.lower.Goals as goal

pub returns : goal.returns
returns c =
    let p = program_of c.args.p.now in
    let owners : c.as_slice.result.now ≡ owners_of p = c.as_slice.ensures ∙ c.in_ok-cells.ensures.owners in
    whole p (home_by c.in_ok-homes.homes) (private_by c.in_ok-cells.field-0.privates) c.in_ok-cells.field-0.cells c.in_ok-ops.ops c.in_ok-ops.entry
    (λ token. c.in_ok-homes.ensures token ∙ ap (λ (os : List (Option ℕ)). home_in os token) owners)
    (λ number. ap (λ (ps : List Bool). private_by ps number) c.in_ok-cells.ensures.privates ∙ private-same (functions_of c.args.p.now.functions) number)
    c.in_ok-cells.ensures.cells c.in_ok-ops.ensures.ops c.in_ok-ops.ensures.entry
