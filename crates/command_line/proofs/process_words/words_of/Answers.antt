use Rattle.std.proofs.Common.{◌∙◌, ap, drop, List, String}
use Rattle.std.specs.declared.alloc.Global.{Global}
use Rattle.command_line.proofs.process_words.words_of.Goals as goal

pub returns-in-Ok-collect : goal.returns-in-Ok-collect
returns-in-Ok-collect c =
    let ran = c.in-Ok-collect.ensures.runs tt in
    rw c.in-Ok.is (ran.0, ran.1, ran.2, c.without_name.ensures ∙ ap (λ (l : List (String Global)). drop 1 l) ran.3.0)
