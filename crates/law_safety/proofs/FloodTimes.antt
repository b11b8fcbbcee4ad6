-- When a transmission of a flood is on the air: within its frame, and before every frame alarm.
use Rattle.std.proofs.Common.{ℕ, ◌+◌, ◌*◌, ◌<◌, ◌≤◌, List, length, Contains, sym, ◌∙◌, ap, subst, arith}
use Rattle.std.specs.Prelude.{slice_index}
use Rattle.lwb_base.specs.Profile.{step}
use Rattle.tick_clock.specs.Clocks.{Near, IsClock, due}
use Rattle.time_reference.specs.Budgets.{budget_of}
use Rattle.time_reference.specs.Zeros.{Good, opening_offset, starting_offset, tick_at_offset}
use Rattle.time_reference.proofs.Points.{good_later}
use Rattle.scenario_text.specs.ScenarioParts.{ScenarioParts}
use Rattle.radio_model.specs.declared.sending.Sending.{Sending}
use Rattle.radio_model.specs.Hearing.{frame_of_sending, slot_of_sending, counter_of_sending}
use Rattle.air_log.specs.declared.entry.Entry.{Entry}
use Rattle.air_log.specs.Entries.{sendings_of}
use Rattle.air_log.specs.Trails.{frame_start}
use Rattle.law_trails.specs.NodeTimes.{InFlood}
use Rattle.law_trails.proofs.ProfilePackets.{covers}
use Rattle.law_trails.proofs.SentInTrails.{sent_known, sent_lasts}
use Rattle.law_trails.proofs.SlotBounds.{starts_in_frame, ends_before_alarm, ends_in_frame}
use Rattle.law_safety.specs.RoundZeros.{GoodFor}
use Rattle.law_safety.specs.FloodSendings.{IsOfFlood}
use Rattle.law_safety.specs.Invariant.{IsObedientRun}
use Rattle.law_safety.proofs.RunFacts.{run_fits, host_clock, frame_in_run}

module _ (s : ScenarioParts) (clocks : ℕ → ℕ → ℕ) (air : List Entry) (run : IsObedientRun s clocks air) (x : Sending) (is : IsOfFlood s clocks air x) where
  abbrev host : ℕ → ℕ
  host = clocks (slice_index s.hosts x.rank)

  abbrev first : ℕ → ℕ
  first = clocks is.origin.node

  -- the clocks of the host of its channel and of the node that began its flood
  pub host_drifts : IsClock host
  host_drifts = host_clock s clocks run.driven x.rank is.hosted

  pub origin_drifts : IsClock first
  origin_drifts = run.driven.drift is.origin.node (sent_known s clocks air run.heedful.trails is.origin is.begins.sent)

  -- the zero of the node that began it is good for the frame and the slot of x
  pub zero_good : Good s.profile (budget_of s.profile) host first is.zero (frame_of_sending s.profile x) (starting_offset s.profile (slot_of_sending x))
  zero_good =
      let j = slot_of_sending x in
      let good : GoodFor s clocks is.origin.rank is.origin.node is.zero (frame_of_sending s.profile is.origin) (opening_offset s.profile
      (slot_of_sending is.origin)) =
      is.begins.start.good in
      let here : Good s.profile (budget_of s.profile) host first is.zero (frame_of_sending s.profile x) (opening_offset s.profile j) =
      subst (λ (r : ℕ). GoodFor s clocks r is.origin.node is.zero (frame_of_sending s.profile x) (opening_offset s.profile j)) (sym is.slot.channel)
      (subst (λ (f : ℕ). GoodFor s clocks is.origin.rank is.origin.node is.zero f (opening_offset s.profile j)) (sym is.slot.frame)
      (subst (λ (i : ℕ). GoodFor s clocks is.origin.rank is.origin.node is.zero (frame_of_sending s.profile is.origin) (opening_offset s.profile i))
      (sym is.slot.slot) good)) in
      good_later s.profile (budget_of s.profile) (run_fits s run.driven.sound) host first is.zero (frame_of_sending s.profile x) (opening_offset s.profile j)
      (starting_offset s.profile j) (omega arith) here

  pub slot_in_round : slot_of_sending x ≤ (budget_of s.profile).last
  slot_in_round = let most = is.begins.start.in_round in let same = is.slot.slot in omega (arith, most, same)

  -- x in its flood
  pub in_flood : InFlood s.profile first is.zero (slot_of_sending x) (length x.packet) (counter_of_sending x) x.start
  in_flood = record {
    few = is.few;
    near =
        subst (λ (o : ℕ). Near x.start (o + counter_of_sending x * step s.profile (length x.packet)) (counter_of_sending x))
        (is.begins.at ∙ ap (λ (i : ℕ). tick_at_offset first is.zero (starting_offset s.profile i)) (sym is.slot.slot)) is.near;
  }

  pub packet_short : length x.packet ≤ (budget_of s.profile).packet
  packet_short = subst (λ (n : ℕ). length x.packet ≤ n) (sym (covers s.profile run.driven.sound.profile).packets) is.most

  -- x is of the run, if it was sent at all
  module _ (there : Contains (sendings_of air) x) where
    pub frame_of_run : frame_of_sending s.profile x ≤ 4095
    frame_of_run = frame_in_run s run.driven.sound x.start (sent_lasts s clocks air run.heedful.trails x there).0

    pub after_frame_start : frame_start s (frame_of_sending s.profile x) < x.start
    after_frame_start =
        starts_in_frame s.profile (budget_of s.profile) (run_fits s run.driven.sound) host first is.zero (frame_of_sending s.profile x) (slot_of_sending x)
        (length x.packet) (counter_of_sending x) x.start
        host_drifts origin_drifts slot_in_round zero_good in_flood

    pub before_frame_end : x.end < frame_start s (frame_of_sending s.profile x + 1)
    before_frame_end =
        subst (λ (e : ℕ). e < frame_start s (frame_of_sending s.profile x + 1)) (sym is.lasts)
        (ends_in_frame s.profile (budget_of s.profile) (run_fits s run.driven.sound) host first is.zero (frame_of_sending s.profile x) (slot_of_sending x)
        (length x.packet) (counter_of_sending x) x.start
        host_drifts origin_drifts slot_in_round packet_short frame_of_run zero_good in_flood)

    pub before_alarms : (own : ℕ → ℕ) → IsClock own → x.end < due own (frame_of_sending s.profile x * s.profile.frame + s.profile.end)
    before_alarms own clock =
        subst (λ (e : ℕ). e < due own (frame_of_sending s.profile x * s.profile.frame + s.profile.end)) (sym is.lasts)
        (ends_before_alarm s.profile (budget_of s.profile) (run_fits s run.driven.sound) host first own is.zero (frame_of_sending s.profile x)
        (slot_of_sending x)
        (length x.packet) (counter_of_sending x) x.start
        host_drifts origin_drifts clock slot_in_round packet_short frame_of_run zero_good in_flood)
