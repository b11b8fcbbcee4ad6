use Rattle.std.proofs.Common.{arith}
use Rattle.std.proofs.lemmas.Result.{err_from_is_err_and}
use Rattle.lwb_base.proofs.KnownPieces.{stops_after}
use Rattle.lwb_base.proofs.read.read_all.Goals as goal

pub returns-in_err-read_piece-clause-bytes : goal.returns-in_err-read_piece-clause-bytes
returns-in_err-read_piece-clause-bytes g c =
    let p = err_from_is_err_and c.from_residual.result c.from_residual.ensures.1 in
    rw (p.1, p.2)
    (stops_after _ _ _ c.loop-bytes.bytes.items c.read_piece.new.bytes.items _ (omega arith) c.loop-bytes.invariant.bytes c.in_err-read_piece.ensures.bytes)
