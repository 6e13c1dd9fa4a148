pub mod EventKinds
pub mod PacedSteps
pub mod StepParts
pub mod SufficientFuel
pub mod BusPace
pub mod HeldLines
