-- Device: what a walk over sites in a row finds: the first violation, and how many locals and parameters the function has
-- so far.
use Rattle.std.specs.Prelude.{ℕ, ◌+◌, ◌==◌, nat_lt, Bool, not, ◌&&◌, ◌||◌, List, [], ◌∷◌, Option, Some, None, if◌then◌else◌}
use Rattle.c_grammar.specs.declared.item.Kind3.{Kind3}
use Rattle.aegis_num.specs.declared.limits.TheConstants.{MAX_GLOBALS, MAX_LOCALS, MAX_PARAMETERS, MAX_ARRAY_LENGTH}
use Rattle.c_scopes.specs.declared.declaration.Binding.{Binding}
use Rattle.c_scopes.specs.declared.declaration.Entity.{Entity}
use Rattle.c_types.specs.declared.site.Home.{Home}
use Rattle.c_types.specs.declared.site.How.{How}
use Rattle.c_types.specs.declared.site.Rule.{Rule}
use Rattle.c_types.specs.declared.site.Rule.TheVariants.{Unknown, Twice, Recursive, Class, Shape, Arity, TooLong, TooMany}
use Rattle.c_types.specs.declared.site.Site.{Site}
use Rattle.c_types.specs.declared.site.Site.TheVariants as site
use Rattle.c_types.specs.declared.verdict.Fault.{Fault}
use Rattle.c_types.specs.declared.verdict.Verdict.{Verdict}
use Rattle.c_types.specs.TypingRules.{is_call, is_assignment, is_constant, is_private_object, is_void, fits, is_counted, at_token, is_local, rule_order}

-- the class does not allow the use
abbrev pub is_barred : How → Entity → Home → Bool
is_barred how entity home = (is_assignment how && is_constant entity) || (is_private_object entity && not home.private)

-- the first rule that the use of a known name breaks
abbrev pub known_rule : How → Binding → Home → Option Rule
known_rule how d home =
    if is_call how && (d.token == home.token) then Some Recursive
    else (if is_barred how d.entity home then Some Class
    else (if not (fits how d.entity) then Some Shape
    else (if not (is_counted how d.entity) then Some Arity
    else None)))

-- the first rule that a use breaks
abbrev pub use_rule : How → Option Binding → Home → Option Rule
use_rule how None home = Some Unknown
use_rule how (Some d) home = known_rule how d home

-- a name again, or one too many
abbrev pub name_rule : Bool → Bool → Option Rule
name_rule again many = if again then Some Twice else (if many then Some TooMany else None)

abbrev pub shape_rule : Bool → Option Rule
shape_rule misfit = if misfit then Some Shape else None

abbrev pub length_rule : ℕ → Option Rule
length_rule length = if length == 0 || nat_lt MAX_ARRAY_LENGTH length then Some TooLong else None

-- values that do not fit a constant
abbrev pub misgiven : Option ℕ → ℕ → Bool → Bool
misgiven None values braces = braces
misgiven (Some length) values braces = not braces || nat_lt length values

-- a `return` that does not fit its function
abbrev pub misreturns : Kind3 → Bool → Bool
misreturns result value = if is_void result then value else not value

-- the first rule that is broken at a site with so many locals and parameters before it
abbrev pub site_rule : ℕ → Site → Option Rule
site_rule locals (site.Use how means home at) = use_rule how means home
site_rule locals (site.Local again at) = name_rule again (locals == MAX_LOCALS)
site_rule locals (site.Parameter number again at) = name_rule again (number == MAX_PARAMETERS || locals == MAX_LOCALS)
site_rule locals (site.Return result value at) = shape_rule (misreturns result value)
site_rule locals (site.Jump in_loop at) = shape_rule (not in_loop)
site_rule locals (site.Global number again at) = name_rule again (number == MAX_GLOBALS)
site_rule locals (site.Length length at) = length_rule length
site_rule locals (site.Constant length values braces at) = shape_rule (misgiven length values braces)

-- one more, but no more than need be told apart
abbrev pub one_more : ℕ → ℕ
one_more locals = if nat_lt MAX_LOCALS locals then locals else locals + 1

-- how many locals and parameters there are after a site
abbrev pub locals_after : ℕ → Site → ℕ
locals_after locals s = if is_local s then one_more locals else locals

-- whether a violation comes before another
abbrev pub is_sooner : Fault → Fault → Bool
is_sooner f g = nat_lt f.at g.at || (f.at == g.at && nat_lt (rule_order f.rule) (rule_order g.rule))

-- the sooner of the two
abbrev pub sooner : Option Fault → Fault → Option Fault
sooner None f = Some f
sooner (Some g) f = if is_sooner f g then Some f else Some g

-- the sooner of one, and one of this rule at a token
abbrev pub with_rule : Option Fault → ℕ → Option Rule → Option Fault
with_rule first at None = first
with_rule first at (Some rule) = sooner first (record { at = at; rule = rule })

-- what is found once a site is gone past
unfoldable pub note : Verdict → Site → Verdict
note v s = record {
  first = with_rule v.first (at_token s) (site_rule v.locals s);
  locals = locals_after v.locals s;
}

-- what is found once sites in a row are gone past
abbrev pub noted : Verdict → List Site → Verdict
noted v [] = v
noted v (s ∷ ss) = noted (note v s) ss

-- the locals and parameters of another item are counted afresh
abbrev pub afresh : Verdict → Verdict
afresh v = record { first = v.first; locals = 0 }
