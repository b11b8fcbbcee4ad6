use Rattle.std.proofs.Common.{◌∙◌, ap, sym, map, List, ℕ, Bor}
use Rattle.std.specs.Prelude.{Ok}
use Rattle.air_check.proofs.EntriesAdded.{rejected, unknown, added}
use Rattle.air_check.proofs.line.add_entry.Goals as goal

words_now : List (Bor (List ℕ)) → List (List ℕ)
words_now ws = map (λ w. w.now) ws

pub returns-in-Err : goal.returns-in-Err
unfolding words_now
returns-in-Err c = rejected c.args.nodes.now c.args.air.now (words_now c.args.words.now) c.in-Err.kind (sym c.entry_of.ensures ∙ c.in-Err.is)

pub returns-then-not-are_known : goal.returns-then-not-are_known
unfolding words_now
returns-then-not-are_known c =
    unknown c.args.nodes.now c.args.air.now (words_now c.args.words.now) c.in-Ok.entry (sym c.entry_of.ensures ∙ c.in-Ok.is)
    (sym c.are_known.ensures ∙ c.if-not-are_known.true)

pub returns : goal.returns
unfolding words_now
returns c =
    added c.args.nodes.now c.args.air.now (words_now c.args.words.now) c.in-Ok.entry (sym c.entry_of.ensures ∙ c.in-Ok.is)
    (sym c.are_known.ensures ∙ c.if-not-are_known.false) ∙ ap Ok (sym c.in_ok-push.ensures.ok)
