-- The definitions at some instructions.
use Rattle.std.proofs.Common.{◌≡◌, pos, negsuc, refl, codes}
use Rattle.std.specs.Fmt.{digits}
use Rattle.orbis_word.specs.declared.instruction.Instr.TheVariants.{J, Bnf, Nop, Jr, Cust1, Lbz, Addi, Andi, Sw, Sub, Sfne}
use Rattle.orbis_word.specs.Table.{encoding}
use Rattle.orbis_word.specs.Printing.{instruction_text, hex_8}

encoding-addi : encoding (Addi 3 0 (pos 72)) ≡ 0x9c600048
encoding-addi = refl

encoding-jr : encoding (Jr 9) ≡ 0x44004800
encoding-jr = refl

encoding-sw : encoding (Sw (negsuc 3) 1 9) ≡ 0xd7e14ffc
encoding-sw = refl

encoding-nop : encoding (Nop 0) ≡ 0x15000000
encoding-nop = refl

encoding-sub : encoding (Sub 3 4 5) ≡ 0xe0642802
encoding-sub = refl

encoding-exit : encoding (Cust1 1) ≡ 0x70000001
encoding-exit = refl

encoding-resume : encoding (Cust1 3) ≡ 0x70000003
encoding-resume = refl

-- one word back
encoding-back : encoding (J (negsuc 0)) ≡ 0x03ffffff
encoding-back = refl

text-addi : instruction_text (Addi 3 0 (pos 72)) ≡ codes "l.addi r3,r0,72"
unfolding digits
text-addi = refl

text-sw : instruction_text (Sw (negsuc 3) 1 9) ≡ codes "l.sw -4(r1),r9"
unfolding digits
text-sw = refl

text-lbz : instruction_text (Lbz 31 (negsuc 32767) 2) ≡ codes "l.lbz r31,-32768(r2)"
unfolding digits
text-lbz = refl

text-andi : instruction_text (Andi 4 5 65535) ≡ codes "l.andi r4,r5,65535"
unfolding digits
text-andi = refl

text-bnf : instruction_text (Bnf (negsuc 1)) ≡ codes "l.bnf -2"
unfolding digits
text-bnf = refl

text-sfne : instruction_text (Sfne 4 5) ≡ codes "l.sfne r4,r5"
unfolding digits
text-sfne = refl

text-exit : instruction_text (Cust1 1) ≡ codes "l.cust1 1"
unfolding digits
text-exit = refl

hex_8-word : hex_8 0x9c600048 ≡ codes "9c600048"
unfolding digits
hex_8-word = refl

hex_8-index : hex_8 15 ≡ codes "0000000f"
unfolding digits
hex_8-index = refl
