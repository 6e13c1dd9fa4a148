-- Promise: why flat code has no image, by why its cells and its code have no place.
use Rattle.region_plan.specs.declared.error.PlanError.{PlanError}
use Rattle.region_plan.specs.declared.error.PlanError.TheVariants as plan
use Rattle.codegen.specs.declared.error.EmitError.{EmitError}
use Rattle.codegen.specs.declared.error.EmitError.TheVariants.{Plan, OutOfMemory}

abbrev pub emit_error : PlanError → EmitError
emit_error plan.OutOfMemory = OutOfMemory
emit_error fault = Plan fault
