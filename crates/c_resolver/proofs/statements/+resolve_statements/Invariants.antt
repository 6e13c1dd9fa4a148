use Rattle.std.proofs.Common.{◌≡◌, ◌++◌, drop}
use Rattle.c_resolver.specs.ResolvingViews.{body_declared, body_in, stmts_then}
use Rattle.c_resolver.proofs.statements.+resolve_statements.Given as goal

abbrev pub invariant-statements-loop-s : goal.invariant-statements-loop-s
invariant-statements-loop-s l =
    (body_in l.functions l.ss l.fn.names ≡ stmts_then l.body (body_in l.functions (drop l.s-index l.ss) l.names))
    × (l.fn.names ++ body_declared l.functions l.ss ≡ l.names ++ body_declared l.functions (drop l.s-index l.ss))
