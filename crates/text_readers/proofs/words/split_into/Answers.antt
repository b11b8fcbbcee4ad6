use Rattle.std.proofs.Common.{◌∙◌, ◌++◌, ◌+◌, List, ℕ, ap, sym, map, drop, arith, append_assoc}
use Rattle.std.proofs.lemmas.List.{take_rest, length-drop}
use Rattle.std.proofs.lemmas.Result.{on_ok_weaker}
use Rattle.text_readers.specs.Words.{words}
use Rattle.text_readers.proofs.WordsCut.{part_ends, part_is_last}
use Rattle.text_readers.proofs.words.split_into.Goals as goal

pub loop-end-preserved : goal.loop-end-preserved
loop-end-preserved c =
    let rest = c.loop-end.rest.now in
    let end = c.in-Some.end in
    record {
      said =
          rw (take_rest)
          (ap (λ (ws : List (List ℕ)). ws ++ words (drop (end + 1) rest)) c.in_ok-push_word.ensures
          ∙ append_assoc (map (λ w. w.now) c.loop-end.words.items) _ _
          ∙ ap (λ (ws : List (List ℕ)). map (λ w. w.now) c.loop-end.words.items ++ ws) (sym (part_ends rest end c.in-Some.ensures))
          ∙ c.loop-end.invariant.said);
      within = rw (take_rest) (omega (arith, length-drop (end + 1) rest, c.loop-end.invariant.within));
    }

pub returns : goal.returns
returns c =
    on_ok_weaker c.push_word-2.result
    (λ is. is ∙ ap (λ (ws : List (List ℕ)). map (λ w. w.now) c.loop-end.words.items ++ ws) (sym (part_is_last c.loop-end.rest.now c.in_default.ensures))
    ∙ c.loop-end.invariant.said)
    c.push_word-2.ensures
