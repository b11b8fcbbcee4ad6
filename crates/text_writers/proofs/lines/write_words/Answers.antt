use Rattle.std.proofs.Common.{rules, append_assoc}
use Rattle.text_writers.proofs.JoinedNumbers.{joined}
use Rattle.text_writers.proofs.lines.write_words.Goals as goal

pub returns : goal.returns
returns g c = rw (joined g.I.Integer.text c.args.word.now c.args.numbers.now) (search (rules, append_assoc))
