use Rattle.std.proofs.Common.{sym, ◌∙◌, subst}
use Rattle.bus_time.specs.Words.{IsFirstWord}
use Rattle.bus_time.proofs.words.Words.first.Goals as goal

pub returns : goal.returns
returns c = λ notes are. subst (IsFirstWord notes c.args.round) (sym (c.copied.ensures ∙ c.get.ensures.value)) (are c.args.round)
