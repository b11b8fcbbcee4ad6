use Rattle.command_line.proofs.OneWord.{one_word}
use Rattle.command_line.proofs.words.is_word.Goals as goal

pub returns-then-words-eq1 : goal.returns-then-words-eq1
returns-then-words-eq1 c = one_word c.args.words.now c.index-words-0.result c.args.word.now c.eq.result c.if-words-eq1.true c.index-words-0.is
    (rw (← c.as_bytes.ensures.value) c.eq.ensures)
