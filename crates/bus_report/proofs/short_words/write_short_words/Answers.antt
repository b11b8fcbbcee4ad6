use Rattle.std.proofs.Common.{rules, append_assoc, decimal}
use Rattle.text_writers.proofs.JoinedNumbers.{joined}
use Rattle.bus_report.proofs.short_words.write_short_words.Goals as goal

pub returns : goal.returns
returns c = rw (joined decimal c.args.word.now c.args.numbers.now) (search (rules, append_assoc))
