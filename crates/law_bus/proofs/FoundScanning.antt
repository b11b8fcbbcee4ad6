-- Who takes part in a slot without a window by an alarm scans its rank as the frame has found it.
use Rattle.std.proofs.Common.{◌≡◌, ℕ, ◌<◌, ◌&&◌, Bool, true, false, List, None, refl, sym, ◌∙◌, ap, true≢false}
use Rattle.std.proofs.lemmas.Bool.{and_parts}
use Rattle.lwb_base.specs.Messages.{Plan}
use Rattle.bus_rules.specs.declared.tune.Tune.{Tune}
use Rattle.bus_rules.specs.declared.tune.Tune.TheVariants.{Scan, Hold, Host}
use Rattle.bus_rules.specs.Tuning.{scans}
use Rattle.bus_rules.specs.Cores.{is_member}
use Rattle.bus_rules.specs.Slots.{part_of, is_schedule_part}
use Rattle.bus_rules.specs.States.{State, StateOn}
use Rattle.node_core.specs.declared.stage.Stage.TheVariants.{Scanning}
use Rattle.node_core.specs.Nodes.{Node}
use Rattle.node_core.specs.Rows.{stage_for}
use Rattle.scenario_text.specs.ScenarioParts.{ScenarioParts}
use Rattle.scenario_text.specs.FloodParts.{knows}
use Rattle.air_log.specs.declared.entry.Entry.{Entry}
use Rattle.air_log.specs.Devices.{Power, PowerOff, PowerOn, state_of_power}
use Rattle.law_safety.specs.SetAlarms.{rank_at}
use Rattle.bus_terms.specs.FloodOfText.{ids}
use Rattle.bus_terms.specs.Flooding.{has}
use Rattle.bus_terms.specs.Rounds.{opened_at, takes_part}
use Rattle.bus_terms.proofs.ReceivedByPaths.{of_filtered}
use Rattle.law_terms.specs.FrameCourses.{power_at}
use Rattle.law_terms.specs.LawfulRuns.{IsLawfulRun}
use Rattle.bus_terms.specs.HostedRounds.{node_before, slot_in}
use Rattle.law_terms.specs.SlotLaws.{HasWindow}
use Rattle.law_terms.specs.SlotSteps.{IsSlotStart}
use Rattle.law_windows.proofs.FramePlaces.{places}
use Rattle.law_bus.proofs.SlotParties.{known_party, scans_rank}

stage_of_scan : (rank f : ℕ) (t : Tune) → scans rank t ≡ true → stage_for t f ≡ Scanning
stage_of_scan rank f (Scan r w) is = refl
stage_of_scan rank f (Hold r d) is = absurd (true≢false (sym is))
stage_of_scan rank f (Host r d) is = absurd (true≢false (sym is))

module _ (s : ScenarioParts) (clocks : ℕ → ℕ → ℕ) (air : List Entry) (lawful : IsLawfulRun s clocks air)
    (rank f j : ℕ) (p : Plan) (in_run : f < s.frames) (start : IsSlotStart s clocks air rank f p j)
    (v : ℕ) (here : has (slot_in s rank f p j).flood.everyone v ≡ true) (no_alarm : HasWindow s clocks air rank f j v → ⊥) where
  -- it is on after the script lines of the frame, and scans
  pub record IsFound : Type 0 where
    pub node : Node
    pub on : power_at s clocks air v f ≡ PowerOn node
    pub scans_on : node.stage ≡ Scanning
    pub of_rank : rank_at node ≡ rank

  pub known : knows s.nodes v ≡ true
  known = known_party s clocks air lawful rank f j p in_run start v here

  abbrev takes : State → Bool
  takes x = takes_part rank (part_of p j) x (opened_at s rank f (part_of p j) v x)

  same : node_before s rank f p j v ≡ state_of_power (power_at s clocks air v f)
  same = start.others v known no_alarm ∙ sym (start.found v known)

  test : takes (state_of_power (power_at s clocks air v f)) ≡ true
  test =
      ap takes (sym same)
      ∙ of_filtered (λ u. takes_part rank (part_of p j) (node_before s rank f p j u) (opened_at s rank f (part_of p j) u (node_before s rank f p j u)))
      (ids s.nodes) v here

  module _ (n : Node) (on : power_at s clocks air v f ≡ PowerOn n) where
    none : is_member rank f n.core ≡ false → opened_at s rank f (part_of p j) v (StateOn n.core) ≡ None
    none other = rw other refl

    by_test : (b : Bool) → is_member rank f n.core ≡ b → takes (StateOn n.core) ≡ true → IsFound
    by_test true member is = absurd (no_alarm (start.window v n.core known (same ∙ ap state_of_power on) member))
    by_test false other is =
        let as_scanner : (is_schedule_part (part_of p j) && scans rank n.core.tune) ≡ true =
        ap (takes_part rank (part_of p j) (StateOn n.core)) (sym (none other)) ∙ is in
        let scanner = (and_parts (is_schedule_part (part_of p j)) _ as_scanner).1 in
        record {
          node = n;
          on = on;
          scans_on = (places s clocks air lawful v f known in_run n on).place ∙ stage_of_scan rank n.frame n.core.tune scanner;
          of_rank = scans_rank rank n.core.tune scanner;
        }

  by_power : (q : Power) → power_at s clocks air v f ≡ q → takes (state_of_power q) ≡ true → IsFound
  by_power (PowerOff boots) on is = absurd (true≢false (sym (and_parts (is_schedule_part (part_of p j)) false is).1))
  by_power (PowerOn n) on is = by_test n on (is_member rank f n.core) refl is

  pub found : IsFound
  found = by_power (power_at s clocks air v f) refl test
