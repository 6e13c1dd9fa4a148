-- Promise: when there is fuel for what may come next.
use Rattle.std.specs.Prelude.{ℕ, ◌+◌, ◌≤◌}
use Rattle.regions.specs.declared.Layout.{Layout}
use Rattle.bus_machine.specs.EventBounds.{worst}

-- after so many events so much fuel is left that entering, or an instruction with all that belongs to it, cannot use more
pub record HasFuel (layout : Layout) (fuel events : ℕ) : Type 0 where
  pub enough : worst layout + events ≤ fuel
