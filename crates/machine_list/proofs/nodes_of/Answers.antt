use Rattle.std.proofs.Common.{◌≤◌, ◌^◌, arith}
use Rattle.std.proofs.Math.Nat.{one-le-pow}
use Rattle.regions.specs.Tree.{fan_of, height_of}
use Rattle.machine_list.proofs.nodes_of.Goals as goal

pub leaf-requires : goal.leaf-requires
leaf-requires c =
    let layout = c.args.image.now.layout in
    let one : 1 ≤ fan_of layout ^ height_of layout = one-le-pow (height_of layout) (fan_of layout) (omega arith) in
    omega (arith, one)
