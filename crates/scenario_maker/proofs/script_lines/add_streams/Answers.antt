use Rattle.std.proofs.Common.{◌≡◌, ℕ, ◌+◌, ◌-◌, ◌%◌, ap, arith, refl, sym, ◌∙◌}
use Rattle.std.proofs.lemmas.List.{append-nil}
use Rattle.bus_rules.specs.declared.act.Act.TheVariants.{Declare}
use Rattle.scenario_text.specs.declared.script.ScriptLine.{ScriptLine}
use Rattle.scenario_maker.specs.Drawn.{drawn_word}
use Rattle.scenario_maker.specs.Made.{stream_line}
use Rattle.scenario_maker.proofs.LaterWords.{none_on}
use Rattle.scenario_maker.proofs.LoopSteps.{steps_to, word_at, pushed}
use Rattle.scenario_maker.proofs.script_lines.add_streams.Goals as goal

pub loop-k-init : goal.loop-k-init
loop-k-init c = record { lines = sym (append-nil c.args.lines.now.items); draws = sym (none_on c.args.draws.now) }

pub loop-k-preserved : goal.loop-k-preserved
loop-k-preserved c =
    let g = c.args.draws.now in
    let k = c.loop-k.k in
    let drawn = word_at k 0 (k + 2 - 2) g c.loop-k.draws c.loop-k.invariant.draws (omega arith) in
    let interval : 4 + c.below.result ≡ 4 + drawn_word g (k + 2 - 2) % 13 = ap (λ (x : ℕ). 4 + x) (c.below.ensures.value ∙ ap (λ (x : ℕ). x % 13) drawn) in
    let at : ℕ → ℕ → ScriptLine = λ i n. record { frame = 0; node = i; act = Declare 0 n } in
    record {
      lines = pushed (stream_line g) c.args.lines.now.items c.loop-k.lines.items c.push.new.self.items (at c.node_of.result (4 + c.below.result)) 2 k (k + 2)
          c.loop-k.invariant.lines (c.in_ok-push.ensures).items
          (ap (λ (i : ℕ). at i (4 + c.below.result)) c.node_of.ensures ∙ ap (at (k + 2)) interval) (omega arith);
      draws = steps_to k 1 (k + 1) g c.loop-k.draws c.below.new.self c.loop-k.invariant.draws c.below.ensures.left refl;
    }
