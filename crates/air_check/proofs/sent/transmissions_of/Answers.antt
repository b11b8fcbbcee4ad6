use Rattle.std.proofs.Common.{List, sym, ◌∙◌, subst}
use Rattle.std.specs.Prelude.{IsPermutation}
use Rattle.std.proofs.lemmas.List.Sorted.{Contains-permutation, IsPermutation-sym, IsPermutation-refl}
use Rattle.lwb_base.specs.Profile.{Numbers}
use Rattle.link_trace.specs.Passes.{Lines}
use Rattle.radio_model.specs.OnAir.{Sending}
use Rattle.radio_model.specs.Reaches.{AreSearchable}
use Rattle.scenario_clocks.specs.StatedClocks.{scenario_clock}
use Rattle.scenario_text.proofs.SoundScenarios.{sound}
use Rattle.air_log.specs.Entries.{sendings_of}
use Rattle.air_log.specs.Trails.{run_end}
use Rattle.air_log.proofs.ShortRuns.{short_run}
use Rattle.air_check.proofs.Gathered.{all_in_run}
use Rattle.air_check.proofs.Given.{early_sent}
use Rattle.air_check.proofs.ReceiverMasks.{ids_seal}
use Rattle.air_check.proofs.sent.transmissions_of.Goals as goal

pub of-requires-clause-nodes : goal.of-requires-clause-nodes
of-requires-clause-nodes c = ids_seal c.args.s.now c.args.nodes.now c.requires.said c.requires.ids

pub of-requires-clause-sealed : goal.of-requires-clause-sealed
of-requires-clause-sealed c = c.requires.ids ∙ sym c.trace.ensures.sealed

pub of-requires-clause-early : goal.of-requires-clause-early
of-requires-clause-early c =
    let s = c.args.s.now in
    let air = c.args.air.now in
    let same = subst (IsPermutation (sendings_of air)) (sym c.in_ok-logged.ensures) (IsPermutation-refl (sendings_of air)) in
    early_sent c.in_ok-logged.logged.items (run_end s) (short_run s (sound s c.requires.said))
    (all_in_run s (scenario_clock s) air c.requires.trails c.in_ok-logged.logged.items same)

pub returns-clause-sent : goal.returns-clause-sent
returns-clause-sent c =
    let air = c.args.air.now in
    let xs = c.in_ok-sent.sent.sent in
    let same = subst (λ (l : List Sending). IsPermutation l xs) c.in_ok-logged.ensures c.in_ok-sent.ensures.sent in
    record {
      into = λ y there. Contains-permutation (sendings_of air) xs y same there;
      back = λ y there. Contains-permutation xs (sendings_of air) y (IsPermutation-sym (sendings_of air) xs same) there;
    }

pub returns-clause-searchable : goal.returns-clause-searchable
returns-clause-searchable c =
    let s = c.args.s.now in
    let t = c.in_ok-sent.sent in
    subst (λ (l : Lines). AreSearchable s.profile l c.args.nodes.now t) c.trace.ensures.value
    (subst (λ (p : Numbers). AreSearchable p c.trace.result.now.lines c.args.nodes.now t) c.profile.ensures.value c.in_ok-sent.ensures.searchable)
