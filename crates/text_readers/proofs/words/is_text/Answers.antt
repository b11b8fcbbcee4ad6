use Rattle.std.proofs.Common.{◌∙◌}
use Rattle.text_readers.proofs.LineFeeds.{is_text}
use Rattle.text_readers.proofs.words.is_text.Goals as goal

pub returns : goal.returns
returns c = c.is_ok.ensures.value ∙ is_text c.args.line.now _ _ _ c.from_utf8.ensures.cases
