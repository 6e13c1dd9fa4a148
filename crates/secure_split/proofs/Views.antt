-- The forms of expressions and statements that hold lists, for the code that goes through them.
use Rattle.std.proofs.Common.{append_assoc, append-nil}
use Rattle.c_semantics.proofs.ViewForms.{expr_of-Called, stmt_of-Block, stmt_of-For, stmt_of-If, stmt_of-While}

pub ruleset expressions = (expr_of-Called, append_assoc)

pub ruleset statements = (stmt_of-Block, stmt_of-If, stmt_of-While, stmt_of-For, append_assoc, append-nil)
