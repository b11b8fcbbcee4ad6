use Rattle.std.proofs.Common.{◌≡◌, set, get_or, true}
use Rattle.schedule_codec.specs.Spelling.{schedule_spelling, spells, IsWritable}
use Rattle.schedule_codec.proofs.Heads.{read_value, if_some_then, written_again, writable_again}
use Rattle.schedule_codec.proofs.decode.read.Goals as goal

pub returns-clause-value : goal.returns-clause-value
returns-clause-value c = read_value c.args.p.now c.spelled.result c.spelled.ensures.some c.spelled.ensures.all

pub returns-clause-again : goal.returns-clause-again
returns-clause-again c =
    let p = c.args.p.now in
    if_some_then c.spelled.result (λ s. spells p s ≡ true) (λ s. set (schedule_spelling s (get_or p 1 0) 0) 2 (get_or p 2 0) ≡ p)
    c.spelled.ensures.some (written_again p)

pub returns-clause-writable : goal.returns-clause-writable
returns-clause-writable c = let p = c.args.p.now in
    if_some_then c.spelled.result (λ s. spells p s ≡ true) (λ s. IsWritable s (get_or p 1 0)) c.spelled.ensures.some (writable_again p)
