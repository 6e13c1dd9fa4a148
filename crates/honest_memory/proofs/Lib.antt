mod FedRuns
mod HonestProofs
mod HonestRuns
mod WordMemory
