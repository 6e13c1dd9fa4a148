-- A `&` to the bytes is made where one to an array of them is. Assumes `Logic`.
use base.Fraction.{full_share}
use lib.ListN.{length}
use mir.Syntax.{w8}
use denote.Array.{Array, Array-row_laws}
use denote.Builtin.{u8}
use denote.Copied.{uint_Copied, Array-Copied}
use denote.Param.Shared.{copy_shared}
use denote.Plain.{uint_row_laws}
use denote.Struct.Field.{RawPtr-field}
use denote.Struct.Laws.{RawPtr-copy}
use denote.Struct.Lending.{lent_at_shr_laws, Lends-lies, of_Lends}
use Rattle.raw_region.specs.contracts.memory.Memory as C
use Rattle.raw_region.proofs.memory.Memory.TheLaw.Statement.{statement}

pub shares : statement
shares = of_Lends C.struct C.the_codes C.the_heap C.the_lent
    (λ d p. let n = length d.bytes in lent_at_shr_laws (Array u8 n) (Array-row_laws u8 (uint_row_laws w8) n) d.ptr d.bytes)
    (copy_shared RawPtr-field RawPtr-copy, tt)
    (λ M 𝓤 𝓛 d p. let n = length d.bytes in let l = C.the_row.lives in
    Lends-lies 𝓛 (Array u8 n) l d.ptr d.bytes ((Array-Copied 𝓛 u8 (uint_Copied 𝓛 w8) tt n).shares full_share l d.bytes))
