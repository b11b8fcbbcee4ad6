-- Who takes part in a slot: a member of the round, or a node that scans its rank.
use Rattle.std.proofs.Common.{◌≡◌, ℕ, ◌<◌, Bool, true, false, ◌&&◌, List, None, refl, sym, ◌∙◌, ap, eqb-true, true≢false}
use Rattle.std.proofs.lemmas.Bool.{and_parts}
use Rattle.lwb_base.specs.Messages.{Plan}
use Rattle.bus_rules.specs.declared.part.Part.{Part}
use Rattle.bus_rules.specs.declared.tune.Tune.{Tune}
use Rattle.bus_rules.specs.declared.tune.Tune.TheVariants.{Scan, Hold, Host}
use Rattle.bus_rules.specs.Tuning.{rank_of, scans}
use Rattle.bus_rules.specs.Cores.{Core, is_member}
use Rattle.bus_rules.specs.Slots.{part_of, is_schedule_part}
use Rattle.bus_rules.specs.States.{State, StateOff, StateOn}
use Rattle.scenario_text.specs.ScenarioParts.{ScenarioParts}
use Rattle.scenario_text.specs.FloodParts.{knows}
use Rattle.air_log.specs.declared.entry.Entry.{Entry}
use Rattle.air_log.specs.Devices.{state_of_power}
use Rattle.air_log.specs.WindowLogs.{WindowLog}
use Rattle.bus_terms.specs.FloodOfText.{ids}
use Rattle.bus_terms.specs.Flooding.{has}
use Rattle.bus_terms.specs.Rounds.{opened_at, takes_part}
use Rattle.bus_terms.proofs.ReceivedByPaths.{in_whole, of_filtered}
use Rattle.law_terms.specs.LawfulRuns.{IsLawfulRun}
use Rattle.bus_terms.specs.HostedRounds.{slot_in, node_before}
use Rattle.law_terms.specs.SlotLaws.{IsWindowOf, HasWindow}
use Rattle.law_terms.specs.SlotSteps.{IsSlotStart}
use Rattle.law_bus.proofs.RunsOfLogs.{HasCourse, course_of}
use Rattle.lwb_flood.proofs.LogEntries.{ids_known}

-- who scans a rank is of it
pub scans_rank : (rank : ℕ) (t : Tune) → scans rank t ≡ true → rank_of t ≡ rank
scans_rank rank (Scan r w) is = eqb-true r rank is
scans_rank rank (Hold r d) is = absurd (true≢false (sym is))
scans_rank rank (Host r d) is = absurd (true≢false (sym is))

-- a state by which a node takes part
pub data Takes (rank f : ℕ) (part : Part) (x : State) : Type 0 where
  Member : (c : Core) → x ≡ StateOn c → is_member rank f c ≡ true → Takes rank f part x
  Scanner : (c : Core) → x ≡ StateOn c → is_member rank f c ≡ false → is_schedule_part part ≡ true → rank_of c.tune ≡ rank → Takes rank f part x

pub takes_by : (s : ScenarioParts) (rank f : ℕ) (part : Part) (v : ℕ) (x : State) → takes_part rank part x (opened_at s rank f part v x) ≡ true
    → Takes rank f part x
takes_by s rank f part v (StateOff boots) is = absurd (true≢false (sym (and_parts (is_schedule_part part) false is).1))
takes_by s rank f part v (StateOn c) is = by_test (is_member rank f c) refl is
  where
    by_test : (b : Bool) → is_member rank f c ≡ b → takes_part rank part (StateOn c) (opened_at s rank f part v (StateOn c)) ≡ true
        → Takes rank f part (StateOn c)
    by_test true member is = Member c refl member
    by_test false other is =
        let scans_so : (is_schedule_part part && scans rank c.tune) ≡ true =
        ap (takes_part rank part (StateOn c)) (sym (none other)) ∙ is in
        Scanner c refl other (and_parts (is_schedule_part part) _ scans_so).0 (scans_rank rank c.tune (and_parts (is_schedule_part part) _ scans_so).1)
      where
        none : is_member rank f c ≡ false → opened_at s rank f part v (StateOn c) ≡ None
        none other = rw other refl

same_core : (c d : Core) → StateOn c ≡ StateOn d → c ≡ d
same_core c d same = cc

module _ (s : ScenarioParts) (clocks : ℕ → ℕ → ℕ) (air : List Entry) (lawful : IsLawfulRun s clocks air)
    (rank f j : ℕ) (p : Plan) (in_run : f < s.frames) (start : IsSlotStart s clocks air rank f p j) where
  abbrev pub Takes_part : ℕ → Type 0
  Takes_part v = has (slot_in s rank f p j).flood.everyone v ≡ true

  abbrev test : ℕ → Bool
  test v = takes_part rank (part_of p j) (node_before s rank f p j v) (opened_at s rank f (part_of p j) v (node_before s rank f p j v))

  pub known_party : (v : ℕ) → Takes_part v → knows s.nodes v ≡ true
  known_party v here = sym (ids_known s.nodes v) ∙ in_whole test (ids s.nodes) v here

  pub takes_so : (v : ℕ) → Takes_part v → Takes rank f (part_of p j) (node_before s rank f p j v)
  takes_so v here = takes_by s rank f (part_of p j) v (node_before s rank f p j v) (of_filtered test (ids s.nodes) v here)

  -- the windows of a frame are of one rank
  same_rank : (v i k l m : ℕ) (w x : WindowLog) → IsWindowOf s clocks air i f k v w → IsWindowOf s clocks air l f m v x → i ≡ l
  same_rank v i k l m w x here also =
      let go : HasCourse s clocks air lawful v f = course_of s clocks air lawful v f w in_run (record { there = here.there; frame = here.frame }) in
      sym here.channel ∙ go.course.ranks w (record { there = here.there; frame = here.frame })
      ∙ sym (go.course.ranks x (record { there = also.there; frame = also.frame })) ∙ also.channel

  pub party_rank : (v i k : ℕ) (w : WindowLog) → Takes_part v → IsWindowOf s clocks air i f k v w → i ≡ rank
  party_rank v i k w here window = by (takes_so v here)
    where
      by : Takes rank f (part_of p j) (node_before s rank f p j v) → i ≡ rank
      by (Member c at member) =
          let own = start.window v c (known_party v here) at member in
          same_rank v i k rank j w own.window window own.here
      by (Scanner c at other schedule of_rank) = scanner
        where
          go : HasCourse s clocks air lawful v f
          go = course_of s clocks air lawful v f w in_run (record { there = window.there; frame = window.frame })

          no_alarm : HasWindow s clocks air rank f j v → ⊥
          no_alarm own =
              let same : own.window.before.core ≡ c = same_core own.window.before.core c (sym (start.core v own.window own.here own.by_alarm) ∙ at) in
              true≢false (sym (start.member v own.window own.here own.by_alarm) ∙ ap (is_member rank f) same ∙ other)

          found : StateOn go.node.core ≡ StateOn c
          found = ap state_of_power (sym go.on) ∙ start.found v (known_party v here) ∙ sym (start.others v (known_party v here) no_alarm) ∙ at

          scanner : i ≡ rank
          scanner = sym window.channel ∙ go.course.ranks w (record { there = window.there; frame = window.frame })
              ∙ ap (λ (d : Core). rank_of d.tune) (same_core go.node.core c found) ∙ of_rank
