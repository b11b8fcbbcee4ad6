-- The rank that a node hosted is quiet after its return.
use Rattle.std.proofs.Common.{◌≡◌, ℕ, zero, suc, ◌+◌, ◌<◌, inl, inr, List, Contains, Bool, true, false, ◌==◌, if◌then◌else◌, Some, None}
use Rattle.std.proofs.Common.{refl, sym, ◌∙◌, ap, subst, arith}
use Rattle.std.proofs.lemmas.Bool.{cases_Bool, cases_lt, cond-false, ne_eqb, lt-ltb}
use Rattle.lwb_base.specs.Messages.{Schedule}
use Rattle.lwb_packets.specs.DataPackets.{is_data}
use Rattle.bus_rules.specs.declared.part.Part.{Part}
use Rattle.bus_rules.specs.declared.part.Part.TheVariants.{Opening, Data as DataSlot}
use Rattle.bus_rules.specs.declared.tune.Tune.{Tune}
use Rattle.bus_rules.specs.declared.tune.Tune.TheVariants.{Host}
use Rattle.bus_rules.specs.Slots.{ScheduleOf, DataOf, part_of}
use Rattle.lwb_member.specs.Said.{message_of, data_in}
use Rattle.node_core.specs.Nodes.{Node}
use Rattle.node_core.specs.Rows.{stage_for}
use Rattle.node_core.specs.declared.stage.Stage.{Stage}
use Rattle.node_core.specs.declared.stage.Stage.TheVariants.{Scanning, AwaitFrame, AwaitSlot}
use Rattle.scenario_text.specs.FloodParts.{knows}
use Rattle.scenario_text.specs.ScenarioParts.{ScenarioParts}
use Rattle.scenario_text.proofs.SoundScenarios.{sound}
use Rattle.scenario_clocks.specs.StatedClocks.{scenario_clock}
use Rattle.scenario_clocks.proofs.StatedDrift.{scenario_clocks_drift}
use Rattle.radio_model.specs.declared.sending.Sending.{Sending}
use Rattle.radio_model.specs.Hearing.{frame_of_sending, slot_of_sending}
use Rattle.air_log.specs.declared.entry.Entry.{Entry}
use Rattle.air_log.specs.Devices.{Power, PowerOn}
use Rattle.air_log.specs.Entries.{sendings_of}
use Rattle.air_log.specs.Lawful.{heard_by}
use Rattle.air_log.specs.Safe.{sender_hosts}
use Rattle.air_log.specs.Trails.{run_end, tune_of, tune_at}
use Rattle.air_log.specs.WindowLogs.{WindowLog}
use Rattle.law_trails.specs.TrailLinks.{device_in}
use Rattle.law_trails.proofs.HostRanks.{host_is_of_rank}
use Rattle.law_trails.proofs.SaidPackets.{says}
use Rattle.law_safety.specs.Beginnings.{MaySay, SaysData, SaysSchedule}
use Rattle.law_safety.specs.Endings.{EndsInOrder}
use Rattle.law_safety.specs.SentPlans.{IsHostOf}
use Rattle.law_safety.proofs.InvariantHolds.{whole_run}
use Rattle.law_safety.proofs.RunFacts.{frame_begins, frame_from, host_is}
use Rattle.law_safety.proofs.RunSendings.{begins_flood, in_trail, of_flood}
use Rattle.law_safety.proofs.SafeSteps.{slots_of_round}
use Rattle.law_terms.specs.FrameCourses.{power_at, IsWindowIn, IsCourse, GoesThrough}
use Rattle.law_terms.specs.LawfulRuns.{IsLawfulRun}
use Rattle.law_windows.specs.WindowRows.{OpensBy, OpensByAlarm, OpensByHearing}
use Rattle.law_windows.proofs.Courses.{through_frames}
use Rattle.law_windows.proofs.FramePlaces.{places}
use Rattle.law_windows.proofs.WindowFacts.{open_by_rows, sends_as_called}
use Rattle.host_return.specs.AfterReturns.{QuietAfter, AllQuiet}
use Rattle.host_return.specs.Courses.{IsFollowed}
use Rattle.host_return.specs.Probes.{probed_with}
use Rattle.host_return.specs.declared.follow.Course.{Course}
use Rattle.host_return.proofs.BackupHosts.{on_node, own_of_host, in_run, probing}
use Rattle.host_return.proofs.Followed.{parts_of}
use Rattle.host_return.proofs.ProbedStill.{AreProbed}

data_message : (p : List ℕ) → is_data p ≡ true → message_of p ≡ Some (DataOf (data_in p))
data_message p is = rw is refl

module _ (s : ScenarioParts) (clocks : ℕ → ℕ → ℕ) (air : List Entry) (lawful : IsLawfulRun s clocks air) where
  whole : EndsInOrder s clocks air
  whole = whole_run s clocks air (record { sound = lawful.sound; drift = lawful.drift }) lawful.lawful

  -- who waits for a later frame sends nothing in this one
  module _ (v f : ℕ) (known : knows s.nodes v ≡ true) (within : f < s.frames) (n : Node) (on : power_at s clocks air v f ≡ PowerOn n) where
    course : IsCourse s clocks air v f n
    course = subst (λ (p : Power). GoesThrough s clocks air v f p) on (through_frames s clocks air lawful v f known within)

    opens : (w : WindowLog) → IsWindowIn s clocks air v f w → OpensBy s clocks v w.by_alarm w
    opens w is = (open_by_rows s clocks air whole.run v known (run_end s) (omega arith) w is.there).by

    module _ (waits : n.stage ≡ AwaitFrame) where
      joined : (w : WindowLog) → IsWindowIn s clocks air v f w → w.by_alarm ≡ false → ⊥
      joined w is heard =
          let by : OpensByHearing s clocks v w = subst (λ (b : Bool). OpensBy s clocks v b w) heard (opens w is) in
          let scans : ◌≡◌ {A = Stage} Scanning AwaitFrame = sym by.scanned ∙ ap (λ (m : Node). m.stage) (course.joins w is heard) ∙ waits in
          absurd (cc)

      began_first : (w : WindowLog) → IsWindowIn s clocks air v f w → w.slot ≡ 0 → w.by_alarm ≡ true → ⊥
      began_first w is first alarm =
          let by : OpensByAlarm s clocks v w = subst (λ (b : Bool). OpensBy s clocks v b w) alarm (opens w is) in
          let awaits : ◌≡◌ {A = Stage} (AwaitSlot w.slot) AwaitFrame = sym by.awaited ∙ ap (λ (m : Node). m.stage) (course.begins w is first) ∙ waits in
          absurd (cc)

      no_window : (j : ℕ) (w : WindowLog) → IsWindowIn s clocks air v f w → w.slot ≡ j → ⊥
      no_window zero w is slot = elim (cases_Bool w.by_alarm) [ inl alarm ↦ began_first w is slot alarm | inr heard ↦ joined w is heard ]
      no_window (suc j) w is slot = elim (cases_Bool w.by_alarm) [
        | inl alarm ↦ let u = course.follows w j is alarm slot in no_window j u.window u.here u.slot
        | inr heard ↦ joined w is heard
      ]

      sends_nothing : (y : Sending) → Contains (sendings_of air) y → y.node ≡ v → frame_of_sending s.profile y ≡ f → ⊥
      sends_nothing y there node frame =
          let own : Contains (device_in s clocks air v (run_end s)).made.sent y =
          subst (λ (u : ℕ). Contains (device_in s clocks air u (run_end s)).made.sent y) node (in_trail s clocks air whole y there) in
          let call = (sends_as_called s clocks air whole.run v known (run_end s) (omega arith)).called y own in
          no_window call.window.slot call.window (record { there = call.there; frame = sym call.of_slot.frame ∙ frame }) refl

  frame_before : (x y : Sending) → frame_of_sending s.profile y < frame_of_sending s.profile x → y.start < x.start
  frame_before x y less = elim (cases_lt y.start x.start) [
    | inl before ↦ before
    | inr past ↦
        let begins = frame_begins s lawful.sound x.start in
        let from = frame_from s lawful.sound (frame_of_sending s.profile x) y.start (omega (arith, past, begins)) in
        omega (arith, less, from)
  ]

  not_first : (x : Sending) (owner : ℕ) (plan : _) → part_of plan (slot_of_sending x) ≡ DataSlot owner → 0 < slot_of_sending x
  not_first x owner plan part = elim (cases_lt 0 (slot_of_sending x)) [
    | inl some ↦ some
    | inr none ↦
        let zero_slot : slot_of_sending x ≡ 0 = omega (arith, none) in
        let opening : ◌≡◌ {A = Part} Opening (DataSlot owner) = subst (λ (j : ℕ). part_of plan j ≡ DataSlot owner) zero_slot part in
        absurd (cc)
  ]

  hosts_rank : (v f rank due : ℕ) (n : Node) → knows s.nodes v ≡ true → power_at s clocks air v f ≡ PowerOn n → n.core.tune ≡ Host rank due → IsHostOf s rank v
  hosts_rank v f rank due n known on tune =
      (host_is_of_rank s lawful.sound v rank).0 (own_of_host s clocks air lawful.sound lawful.lawful v f rank due n known on tune)

  pub quiet_after : (v f rank due : ℕ) → knows s.nodes v ≡ true → f < s.frames → f < due → tune_at s v (clocks v) (heard_by air v) f ≡ Some (Host rank due)
      → QuietAfter s air f rank
  quiet_after v f rank due known within waits tuned x there channel first speaks late =
      let now : tune_of (power_at s clocks air v f) ≡ Some (Host rank due) =
      subst (λ (b : Bool). (if b then tune_of (power_at s clocks air v f) else None) ≡ Some (Host rank due)) (lt-ltb f s.frames within) tuned in
      let on = on_node (power_at s clocks air v f) (Host rank due) now in
      let n = on.0 in
      let path = course v f known within n on.1 in
      let stage : n.stage ≡ AwaitFrame =
      (places s clocks air lawful v f known within n on.1).place ∙ ap (λ (t : Tune). stage_for t n.frame) on.2
      ∙ cond-false (due == n.frame) (AwaitSlot 0) AwaitFrame (ne_eqb due n.frame (λ same. omega (arith, same, waits, path.frame))) in
      let host = hosts_rank v f rank due n known on.1 on.2 in
      let may : SaysData s clocks air x.node x.rank (frame_of_sending s.profile x) (of_flood s clocks air whole x there).zero (slot_of_sending x)
      (sender_hosts s clocks air x)
      (data_in x.packet) =
      subst (MaySay s clocks air x.node x.rank (frame_of_sending s.profile x) (of_flood s clocks air whole x there).zero (slot_of_sending x)
      (sender_hosts s clocks air x))
      (data_message x.packet speaks) (begins_flood s clocks air whole x there first).start.says in
      let y = may.planned.sending in
      let is = may.planned.schedule in
      let gap = may.planned.gap in
      let due_is : frame_of_sending s.profile y + gap ≡ frame_of_sending s.profile x = may.planned.due in
      let said : Schedule = record { plan = may.plan; gap = gap } in
      let flood = of_flood s clocks air whole y is.sent in
      let began : SaysSchedule s clocks air y.node y.rank (frame_of_sending s.profile y) flood.zero (slot_of_sending y) said =
      subst (MaySay s clocks air y.node y.rank (frame_of_sending s.profile y) flood.zero (slot_of_sending y) (sender_hosts s clocks air y)) is.says
      (begins_flood s clocks air whole y is.sent is.first).start.says in
      let rank_is : y.rank ≡ rank = is.channel ∙ channel in
      let node : y.node ≡ v = sym (host_is s rank y.node (subst (λ (r : ℕ). IsHostOf s r y.node) rank_is began.host)) ∙ host_is s rank v host in
      elim (cases_lt f (frame_of_sending s.profile y)) [
        | inl after ↦ (
          y,
          record {
            sent = is.sent;
            channel = is.channel;
            says = (says y.packet (ScheduleOf said) is.says).spelled;
            after = after;
            before = elim began.part [
              | inl opens ↦
                  let over = slots_of_round s clocks air whole y x flood (of_flood s clocks air whole x there) is.channel (omega (arith, due_is, opens.0))
                  (omega (arith, opens.1, not_first x may.owner may.plan may.part)) in
                  omega (arith, over, flood.lasts)
              | inr closes ↦ frame_before x y (let some = closes.some in omega (arith, due_is, some))
            ];
          },
        )
        | inr early ↦ elim began.part [
          | inl opens ↦ absurd (omega (arith, opens.0, due_is, early, late))
          | inr closes ↦
              let few = closes.few in
              absurd (sends_nothing v f known within n on.1 stage y is.sent node (omega (arith, few, due_is, early, late)))
        ]
      ]

-- after all returns
pub all_quiet : (read : ScenarioParts) (c : Course) → IsFollowed read c → AreProbed read c.scenario c.air c.returns.items → AllQuiet (parts_of c)
all_quiet read c followed are r there rank hosts_at =
    let s = c.scenario in
    let lawful : IsLawfulRun s (scenario_clock s) c.air =
    record { sound = sound s followed.said; drift = scenario_clocks_drift s followed.said; lawful = followed.lawful } in
    let tune = hosts_at.1 in
    let probes = are.probed r there in
    let waits =
    probing r.frame rank hosts_at.0 r.rank
    (sym (ap (probed_with r.frame) tune) ∙ probes.probes) in
    quiet_after s (scenario_clock s) c.air lawful r.node r.frame rank hosts_at.0 (are.known r there)
    (in_run s r.frame (tune_of (power_at s (scenario_clock s) c.air r.node r.frame)) (Host rank hosts_at.0) tune).0 waits.1 tune
