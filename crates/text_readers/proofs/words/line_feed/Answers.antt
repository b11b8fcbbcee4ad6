use Rattle.text_readers.proofs.LineFeeds.{first_place, is_feed}
use Rattle.text_readers.proofs.words.line_feed.Goals as goal

pub returns : goal.returns
returns c = first_place is_feed c.args.bytes.now c.memchr.result c.memchr.ensures
