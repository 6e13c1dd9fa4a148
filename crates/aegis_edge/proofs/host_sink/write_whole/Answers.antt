use Rattle.std.proofs.Common.{sym, ap, ◌∙◌, ◌++◌, take}
use Rattle.std.proofs.lemmas.List.{take_rest}
use Rattle.std.proofs.KnownBytes.{Appends-trans}
use Rattle.aegis_edge.proofs.Pieces.{split_moves, TakesFront-done, TakesFront-kept, TakesFront-more}
use Rattle.aegis_edge.proofs.host_sink.write_whole.Goals as goal

pub returns-in-Ok-eq0-clause-front : goal.returns-in-Ok-eq0-clause-front
returns-in-Ok-eq0-clause-front g c =
    let (done, split, appended) = c.pieces.invariant in
    TakesFront-more _ _ _ _ done c.pieces.rest.now c.in-Ok-eq0.field-0 split appended c.in-Ok-eq0.ensures.bytes

pub returns-in-Err-clause-front : goal.returns-in-Err-clause-front
returns-in-Err-clause-front g c =
    let (done, split, appended) = c.pieces.invariant in
    TakesFront-kept _ _ _ _ done c.pieces.rest.now split appended c.in-Err.ensures.bytes

pub returns-then-is_err-clause-front : goal.returns-then-is_err-clause-front
returns-then-is_err-clause-front g c =
    let (done, split, appended) = c.pieces.invariant in
    TakesFront-kept _ _ _ _ done c.pieces.rest.now split appended c.flush.ensures.bytes

pub pieces-preserved : goal.pieces-preserved
pieces-preserved g c =
    let (done, split, appended) = c.pieces.invariant in
    let rest = c.pieces.rest.now in
    let count = c.in-Ok.count in
    let taken = done ++ take count rest in (
      taken,
      split_moves _ done rest count split ∙ ap (λ l. taken ++ l) (sym (take_rest rest count)),
      Appends-trans _ _ _ _ _ appended c.in-Ok.ensures.bytes,
    )

pub returns-clause-front : goal.returns-clause-front
returns-clause-front g c =
    let (done, split, appended) = c.pieces.invariant in
    TakesFront-done _ _ _ done c.pieces.rest.now split appended
