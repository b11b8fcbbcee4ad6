use Rattle.std.proofs.lemmas.List.{take_rest}
use Rattle.text_readers.proofs.LineFeeds.{line_ends, line_is_last, cut_at_feed, cut_at_end}
use Rattle.text_readers.proofs.words.first_line.Goals as goal

pub returns-in-Some-clause-cut : goal.returns-in-Some-clause-cut
returns-in-Some-clause-cut c = rw (c.without_return.ensures, take_rest) (line_ends c.args.bytes.now c.in-Some.end c.in-Some.ensures)

pub returns-in-None-clause-cut : goal.returns-in-None-clause-cut
returns-in-None-clause-cut c = line_is_last c.args.bytes.now c.requires c.in-None.ensures

pub returns-in-Some-clause-front : goal.returns-in-Some-clause-front
returns-in-Some-clause-front c = rw (c.without_return.ensures, take_rest) (cut_at_feed c.args.bytes.now c.in-Some.end c.in-Some.ensures)

pub returns-in-None-clause-front : goal.returns-in-None-clause-front
returns-in-None-clause-front c = cut_at_end c.args.bytes.now c.requires c.in-None.ensures
