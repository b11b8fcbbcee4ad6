use Rattle.std.proofs.Common.{◌≡◌, ◌∙◌, ap, arith, List, ℕ}
use Rattle.std.proofs.lemmas.List.{length-map}
use Rattle.scenario_text.specs.declared.lines.NodeLine.{NodeLine}
use Rattle.bus_terms.specs.Flooding.{sendings}
use Rattle.bus_terms.specs.FloodOfText.{setting, outcome}
use Rattle.bus_rules.specs.FloodOutcome.{Outcome}
use Rattle.lwb_flood.specs.LogReading.{step_of}
use Rattle.lwb_flood.proofs.LogOutcome.{accepts_read_off, count_read_off}
use Rattle.lwb_flood.proofs.LogReading.{step_is, few_sendings}
use Rattle.lwb_flood.proofs.flood_outcome.outcome_of.Goals as goal

pub overflow_cast-sent : goal.overflow_cast-sent
overflow_cast-sent c =
    let f = c.args.f.now in
    let r = c.requires in
    let sent : c.sendings-sent.result ≡ sendings (setting f) = c.sendings-sent.ensures ∙ count_read_off f r.0 c.args.air.now r.1 r.2 in
    let long = length-map f.nodes (λ (n : NodeLine). n.node) in
    omega (arith, sent, long, few_sendings (setting f) (omega (arith, long, r.1.sound.few_nodes)))

pub returns : goal.returns
returns c =
    let f = c.args.f.now in
    let r = c.requires in
    let firsts = c.first_hearings-firsts.result in
    let sent : c.sendings-sent.result ≡ sendings (setting f) = c.sendings-sent.ensures ∙ count_read_off f r.0 c.args.air.now r.1 r.2 in
    let accepts : c.in_ok-accepts.accepts.items ≡ (outcome f).accepts =
    c.in_ok-accepts.ensures ∙ accepts_read_off f r.0 c.args.air.now r.1 r.2 (step_of f.start firsts)
    (λ v known. step_is f c.args.air.now firsts c.first_hearings-firsts.ensures v) in
    let of_accepts : List (ℕ × ℕ) → Outcome = λ a. record { accepts = a; sent = c.sendings-sent.result } in
    let of_sent : ℕ → Outcome = λ n. record { accepts = (outcome f).accepts; sent = n } in
    c.new.ensures ∙ ap of_accepts accepts ∙ ap of_sent sent
