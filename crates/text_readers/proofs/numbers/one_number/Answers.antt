use Rattle.std.proofs.Common.{sym}
use Rattle.text_readers.proofs.NumbersRead.{one_read}
use Rattle.text_readers.proofs.numbers.one_number.Goals as goal

pub returns : goal.returns
returns c = sym (one_read c.args.words.now _ c.number.result c.in-len2.len_at_least c.in-len2.len_below c.number.ensures)
