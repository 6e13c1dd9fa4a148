-- The text of a program is read back as the program but for token numbers.
use Rattle.std.proofs.Common.{◌≡◌, List, true, ap, sym, subst, ◌∙◌}
use Rattle.std.specs.List.{list_all}
use Rattle.c_token.specs.declared.kinds.Kind.{Kind}
use Rattle.c_token.specs.PlainText.{is_in_form, plain_tokens}
use Rattle.c_token.proofs.PlainTexts as plain
use Rattle.c_grammar.specs.declared.Program.{Program}
use Rattle.c_grammar.specs.BoundedTokens.{Bounded, bounded_kinds, numbered, bounded_all}
use Rattle.c_grammar.specs.TokenPrograms.{limit, AreProgram}
use Rattle.c_grammar.specs.ProgramGrammar.{IsProgram}
use Rattle.c_grammar.specs.Bare.{bare}
use Rattle.c_grammar.proofs.AlikeKinds.{alike_numbered, numbered_limited, kinds-numbered}
use Rattle.c_grammar.proofs.AlikePrograms.{same_program}
use Rattle.c_printer.specs.PrintedTokens.{program_kinds}
use Rattle.c_printer.specs.ProgramPrinting.{program_text, IsPrintable, ReadsBack}
use Rattle.c_printer.proofs.FineTokens.{AreFine, fine_from, fine_limited, fine_in_form}
use Rattle.c_printer.proofs.PrintedPrograms.{printed_program}

module _ (program : Program) (printable : IsPrintable program) where
  abbrev source : List Bounded
  source = bounded_all limit (numbered 0 printable.tokens)

  printed : (us : List Bounded) × (IsProgram us program × (bounded_kinds us ≡ program_kinds program) × AreFine us)
  printed =
      printed_program printable.reads
      (fine_from source (numbered_limited 0 printable.tokens) (ap (list_all is_in_form) (kinds-numbered 0 printable.tokens) ∙ printable.in_form))

  in_form : list_all is_in_form (program_kinds program) ≡ true
  in_form = sym (ap (list_all is_in_form) printed.1.1) ∙ fine_in_form printed.0 printed.1.2

  -- the printed tokens are the program again
  again : (q : Program) × (AreProgram (program_kinds program) q × (bare program ≡ bare q))
  again = same_program printed.1.0 (bounded_all limit (numbered 0 (program_kinds program))) (alike_numbered printed.0 (program_kinds program) 0 (fine_limited printed.0 printed.1.2) printed.1.1)

  pub reads_back : ReadsBack program (program_text program)
  reads_back =
      let text = plain.reads_back (program_kinds program) in_form in
      record {
        again = again.0;
        read = record { tokens = plain_tokens 0 (program_kinds program); lexed = text.0; read = subst (λ (ks : List Kind). AreProgram ks again.0) (sym text.1) again.1.0 };
        same = sym again.1.1;
      }
