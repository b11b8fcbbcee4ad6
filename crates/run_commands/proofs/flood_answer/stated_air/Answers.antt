use Rattle.std.proofs.Common.{ℕ, List, All, subst}
use Rattle.std.proofs.lemmas.Result.{IfOk-weaker}
use Rattle.tick_clock.specs.ClockReadings.{segment_clock_reads}
use Rattle.scenario_text.specs.declared.lines.NodeLine.{NodeLine}
use Rattle.air_log.specs.declared.entry.Entry.{Entry}
use Rattle.air_log.specs.FloodLaw.{FloodLaw}
use Rattle.scenario_clocks.specs.ClockLists.{clocks_by}
use Rattle.lwb_flood.specs.FloodLog.{HasClocks}
use Rattle.scenario_clocks.specs.StatedClocks.{stated_clock}
use Rattle.lwb_flood.proofs.NodeClocks.{stated_clocks, same_clocks}
use Rattle.scenario_clocks.specs.NodeRates.{IsId}
use Rattle.scenario_clocks.proofs.NodeRates.{known_id}
use Rattle.run_commands.proofs.flood_answer.stated_air.Goals as goal

pub returns-clause-law : goal.returns-clause-law
returns-clause-law c =
    let f = c.args.f.now in
    let listed : ℕ → ℕ → ℕ = clocks_by segment_clock_reads f.nodes c.in_ok-clocks.clocks.items in
    IfOk-weaker c.flood_air.result (λ (air : List Entry). FloodLaw f listed air) (λ (air : List Entry). FloodLaw f (stated_clock f) air)
    (λ air law. same_clocks f listed (stated_clock f) air
    (λ v. (rw (← c.nodes.ensures.value, ← c.rates.ensures) (c.in_ok-clocks.ensures.stated v))) law) c.flood_air.ensures

pub returns-clause-clocks : goal.returns-clause-clocks
returns-clause-clocks c =
    let f = c.args.f.now in
    let listed : ℕ → ℕ → ℕ = clocks_by segment_clock_reads f.nodes c.in_ok-clocks.clocks.items in
    let ids : All IsId f.nodes = subst (λ (l : List NodeLine). All IsId l) c.nodes.ensures.value c.in_ok-clocks.ensures.ids in
    let sound = c.nodes.ensures.sound in
    IfOk-weaker c.flood_air.result (λ (air : List Entry). FloodLaw f listed air) (λ (air : List Entry). HasClocks f (stated_clock f))
    (λ air law. stated_clocks f sound (known_id f.nodes f.start ids sound.start_known)) c.flood_air.ensures
