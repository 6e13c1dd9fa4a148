-- Promise: which cells are too many.
use Rattle.std.specs.Prelude.{ℕ, ◌+◌, ◌*◌, nat_lt, if◌then◌else◌, List, Option, Some, None}
use Rattle.regions.specs.declared.layout.TheConstants.{MAX_DATA_BLOCKS, MAX_LOG_BLOCKS, MAX_SHARED_BYTES}
use Rattle.regions.specs.declared.rights.Class.TheVariants.{Open, Verified, Private, Constant, Logged}
use Rattle.ir_code.specs.declared.code.Cell.{Cell}
use Rattle.region_plan.specs.declared.error.PlanError.{PlanError}
use Rattle.region_plan.specs.declared.error.PlanError.TheVariants.{TreeFull, LogFull, OpenFull}
use Rattle.region_plan.specs.Homes.{class_words, class_blocks}

-- how many data blocks the cells and the code take
abbrev pub data_blocks_for : List Cell → ℕ → ℕ
data_blocks_for cells code_blocks = class_blocks Verified cells + class_blocks Private cells + class_blocks Constant cells + code_blocks

-- the first limit that so many data blocks, log blocks and shared bytes pass, if they pass one
abbrev pub fault_of : ℕ → ℕ → ℕ → Option PlanError
fault_of data_blocks log_blocks shared_bytes =
    if nat_lt MAX_DATA_BLOCKS data_blocks then Some (TreeFull data_blocks)
    else (if nat_lt MAX_LOG_BLOCKS log_blocks then Some (LogFull log_blocks)
    else (if nat_lt MAX_SHARED_BYTES shared_bytes then Some (OpenFull shared_bytes) else None))

-- and that cells and so many blocks of code pass
abbrev pub plan_fault : List Cell → ℕ → Option PlanError
plan_fault cells code_blocks = fault_of (data_blocks_for cells code_blocks) (class_blocks Logged cells) (4 * class_words Open cells)
