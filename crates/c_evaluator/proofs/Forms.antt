-- The forms of expressions and statements that hold lists.
use Rattle.c_semantics.proofs.ViewForms.{expr_of-Called, stmt_of-Block}

pub ruleset called_form = (expr_of-Called)

pub ruleset block_form = (stmt_of-Block)
