use Rattle.std.proofs.Common.{length, sym, ap, ◌∙◌, arith}
use Rattle.std.specs.Str.Lines.{lines}
use Rattle.std.proofs.lemmas.Bool.{eqb-true}
use Rattle.adversary_script.specs.ScriptGrammar.{changes_from, script_of}
use Rattle.adversary_script.proofs.Lines.{told_further, told_fault, told_end}
use Rattle.adversary_script.proofs.reading.read_script.Goals as goal

pub lines-init : goal.lines-init
unfolding script_of
lines-init c = record {
  numbered = omega arith;
  told = ap (λ changes. changes_from 1 changes (lines c.args.text.now)) c.new-draft.ensures;
}

pub returns-in-Err-clause-fault : goal.returns-in-Err-clause-fault
returns-in-Err-clause-fault c =
    rw c.at_line.ensures (λ told. told_fault c.lines.n c.lines.draft c.lines.rest.now c.first_line.result.0.now c.first_line.result.1.now (script_of c.args.text.now)
    c.lines.invariant.told c.first_line.ensures.line c.in-Err.fault c.in-Err.ensures.fault told)

pub lines-preserved : goal.lines-preserved
lines-preserved c = record {
  numbered = omega (arith, c.first_line.ensures.shorter);
  told = told_further c.lines.n c.lines.draft c.lines.rest.now c.first_line.result.0.now c.first_line.result.1.now (script_of c.args.text.now)
      c.lines.invariant.told c.first_line.ensures.line c.read_line.new.draft c.in_default.ensures.read;
}

pub returns-clause-script : goal.returns-clause-script
returns-clause-script c =
    let none = eqb-true (length c.lines.rest.now) 0 (sym c.is_empty.ensures ∙ c.lines-test.false) in
    rw c.finish.ensures (told_end c.lines.n c.lines.draft c.lines.rest.now (script_of c.args.text.now) c.lines.invariant.told none)
