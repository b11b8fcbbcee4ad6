use Rattle.std.proofs.Common.{◌≡◌, ◌+◌, ◌<◌, ◌≤◌, ◌++◌, ◌∷◌, [], List, map, take, length, sym, ◌∙◌, ap, subst, arith, Ok}
use Rattle.std.proofs.lemmas.List.{take_more, map-append}
use Rattle.deadline_plan.specs.Admission.{IsAdmission, after_admit}
use Rattle.deadline_plan.specs.declared.stream.DeadlineStream.{DeadlineStream}
use Rattle.run_commands.specs.DeadlineReport.{Differ, no_streams, stream_of_answer}
use Rattle.run_commands.proofs.StreamsDecided.{decides, decided_more, few_admitted, new_behind, new_after}
use Rattle.run_commands.proofs.deadline_answer.admitted.Goals as goal

pub loop-stream-preserved : goal.loop-stream-preserved
loop-stream-preserved c =
    let l = c.loop-stream in
    let ss = c.streams-stream-items.result.now in
    let i = l.stream-index in
    let s = c.stream-item.result in
    let a = c.in_ok-answer.answer in
    let below : i < length ss = omega arith in
    let at = c.stream-item.is in
    let sound = c.streams-stream-items.ensures.sound in
    let streams = c.streams-stream-items.ensures.value in
    let few : length ss ≤ 32 = omega (arith, sound.few, ap length streams) in
    let new = new_behind ss i s l.plan.streams below at (subst Differ (sym streams) c.requires) l.invariant.new in
    let answers : IsAdmission l.plan s a = c.in_ok-answer.ensures.answer in
    let after : c.admit.new.self ≡ after_admit l.plan s (Ok a) = c.in_ok-answer.ensures.plan in
    let decided = decides l.plan s a new (omega (arith, l.invariant.few)) answers in
    let more : take (i + 1) ss ≡ take i ss ++ s ∷ [] = take_more ss i s below ∙ ap (λ (x : DeadlineStream). take i ss ++ x ∷ []) (sym at) in
    let pushed = c.in_ok-push.ensures.items in
    record {
      streams = ap (map stream_of_answer) pushed ∙ map-append stream_of_answer l.answers.items ((s, a) ∷ [])
          ∙ ap (λ (t : List DeadlineStream). t ++ s ∷ []) l.invariant.streams ∙ sym more;
      decided = rw pushed (decided_more (no_streams c.args.text.now) l.answers.items l.plan c.admit.new.self s a l.invariant.decided decided after);
      new = rw after (new_after ss i s l.plan a below at l.invariant.new);
      few = rw after (few_admitted l.plan s a i l.invariant.few);
    }
