-- Promise: the table of rights.
use Rattle.std.specs.Prelude.{Bool, true, false}
use Rattle.regions.specs.declared.rights.Mode.{Mode}
use Rattle.regions.specs.declared.rights.Mode.TheVariants.{Std, Te, Ptr, Ssp}
use Rattle.regions.specs.declared.rights.Class.{Class}
use Rattle.regions.specs.declared.rights.Class.TheVariants.{Open, Verified, Private, Constant, Code, Logged}
use Rattle.regions.specs.declared.rights.Access.{Access}
use Rattle.regions.specs.declared.rights.Access.TheVariants.{Read, Write, Fetch}

-- no access
abbrev pub none : Access → Bool
none access = false

-- to read alone
abbrev pub read : Access → Bool
read Read = true
read Write = false
read Fetch = false

-- to fetch alone
abbrev pub fetch : Access → Bool
fetch Read = false
fetch Write = false
fetch Fetch = true

-- to read and to write
abbrev pub read_write : Access → Bool
read_write Read = true
read_write Write = true
read_write Fetch = false

-- to read, to write and to fetch
abbrev pub read_write_fetch : Access → Bool
read_write_fetch access = true

-- what code in each mode may do at an address of each class
abbrev pub rights : Mode → Class → Access → Bool
rights Std Open = read_write_fetch
rights Std Verified = none
rights Std Private = none
rights Std Constant = none
rights Std Code = none
rights Std Logged = none
rights Te Open = read_write
rights Te Verified = read_write
rights Te Private = none
rights Te Constant = read
rights Te Code = fetch
rights Te Logged = read_write
rights Ptr Open = read_write
rights Ptr Verified = read_write
rights Ptr Private = read_write
rights Ptr Constant = read
rights Ptr Code = fetch
rights Ptr Logged = read_write
rights Ssp Open = read_write_fetch
rights Ssp Verified = none
rights Ssp Private = none
rights Ssp Constant = none
rights Ssp Code = none
rights Ssp Logged = none
