-- Promise: which classes are loose, that is, which words may change from outside: none, the shared ones, these and the logged ones.
use Rattle.std.specs.Prelude.{◌≡◌, Bool, true, false}
use Rattle.regions.specs.declared.rights.Class.{Class}
use Rattle.regions.specs.declared.rights.Class.TheVariants.{Open, Logged}

-- none
abbrev pub nothing_loose : Class → Bool
nothing_loose class = false

-- the shared words alone, which lie at open addresses
abbrev pub shared_loose : Class → Bool
shared_loose Open = true
shared_loose class = false

-- the shared and the logged words
abbrev pub shared_and_logged_loose : Class → Bool
shared_and_logged_loose Open = true
shared_and_logged_loose Logged = true
shared_and_logged_loose class = false

-- each class that is loose in the first set is loose in the second
abbrev pub AreAmong : (Class → Bool) → (Class → Bool) → Type 0
AreAmong fewer more = (class : Class) → fewer class ≡ true → more class ≡ true
