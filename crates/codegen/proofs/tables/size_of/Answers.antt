use Rattle.codegen.proofs.tables.size_of.Goals as goal

pub returns-in-Unary-clause-size : goal.returns-in-Unary-clause-size
returns-in-Unary-clause-size c = rw c.in-Unary.is (c.size_of_unary.ensures.size 0 0)

pub returns-in-Binary-clause-size : goal.returns-in-Binary-clause-size
returns-in-Binary-clause-size c = rw c.in-Binary.is (c.size_of_binary.ensures.size 0 0 0)
