-- A schedule that was received was begun by the host of its channel at the nominal time, so it gives a reference.
use Rattle.std.proofs.Common.{◌≡◌, ℕ, ◌+◌, ◌*◌, List, Some, true, length, Contains, sym, ◌∙◌, ap, subst, arith}
use Rattle.std.specs.Prelude.{slice_index}
use Rattle.lwb_base.specs.Profile.{step}
use Rattle.lwb_base.specs.Messages.{Schedule}
use Rattle.tick_clock.specs.Clocks.{Near}
use Rattle.time_reference.specs.Zeros.{tick_at_offset, start_tick, starting_offset}
use Rattle.bus_rules.specs.Slots.{ScheduleOf}
use Rattle.lwb_member.specs.Said.{message_of}
use Rattle.node_core.specs.Nodes.{zero_from}
use Rattle.scenario_text.specs.ScenarioParts.{ScenarioParts}
use Rattle.scenario_text.specs.FloodParts.{knows}
use Rattle.radio_model.specs.declared.sending.Sending.{Sending}
use Rattle.radio_model.specs.Hearing.{frame_of_sending, slot_of_sending, counter_of_sending}
use Rattle.air_log.specs.declared.entry.Entry.{Entry}
use Rattle.air_log.specs.Entries.{sendings_of}
use Rattle.air_log.specs.Safe.{sender_hosts}
use Rattle.law_trails.specs.PacketKinds.{IsOfProfile}
use Rattle.law_trails.proofs.HeardReferences.{host_starts}
use Rattle.law_trails.proofs.LogsInRange.{all_sent}
use Rattle.law_trails.proofs.OtherCounters.{bodies_same}
use Rattle.law_trails.proofs.ProfilePackets.{profile_reference}
use Rattle.law_safety.specs.RoundZeros.{RefFor}
use Rattle.law_safety.specs.Beginnings.{MaySay, SaysSchedule}
use Rattle.law_safety.specs.FloodSendings.{IsOfFlood}
use Rattle.law_safety.specs.Invariant.{IsObedientRun}
use Rattle.law_safety.proofs.RunFacts.{host_is}
use Rattle.law_safety.proofs.FloodTimes.{host_drifts, zero_good, frame_of_run}

module _ (s : ScenarioParts) (clocks : ℕ → ℕ → ℕ) (air : List Entry) (run : IsObedientRun s clocks air) (x : Sending) (there : Contains (sendings_of air) x)
    (flood : IsOfFlood s clocks air x) (y : Schedule) (says : message_of x.packet ≡ Some (ScheduleOf y)) where
  of_profile : IsOfProfile s.profile (ScheduleOf y)
  of_profile =
      let all = all_sent s run.driven.sound clocks air run.heedful.trails (λ u z sent. (run.heedful.heard u z sent).sent) in
      (all x there).of_profile (ScheduleOf y) says

  -- the transmission that began its flood says it too, and so the host of the channel began it at the nominal time
  abbrev o : Sending
  o = flood.origin

  pub origin_says : message_of o.packet ≡ Some (ScheduleOf y)
  origin_says =
      let first = flood.begins.start.first in
      sym (bodies_same x.packet o.packet flood.few (omega (arith, first)) flood.same) ∙ says

  pub begun : SaysSchedule s clocks air o.node o.rank (frame_of_sending s.profile o) flood.zero (slot_of_sending o) y
  begun = subst (MaySay s clocks air o.node o.rank (frame_of_sending s.profile o) flood.zero (slot_of_sending o) (sender_hosts s clocks air o)) origin_says
      flood.begins.start.says

  at_nominal : o.start ≡ start_tick s.profile (clocks (slice_index s.hosts x.rank)) (frame_of_sending s.profile x) (slot_of_sending x)
  at_nominal =
      let p = s.profile in
      let host : ℕ → ℕ = clocks (slice_index s.hosts x.rank) in
      flood.begins.at
      ∙ ap (λ (z : ℕ). tick_at_offset (clocks o.node) z (starting_offset p (slot_of_sending o))) begun.zero
      ∙ host_starts p (clocks o.node) (frame_of_sending p o) (slot_of_sending o)
      ∙ ap (λ (u : ℕ). start_tick p (clocks u) (frame_of_sending p o) (slot_of_sending o)) (sym (host_is s o.rank o.node begun.host))
      ∙ ap (λ (r : ℕ). start_tick p (clocks (slice_index s.hosts r)) (frame_of_sending p o) (slot_of_sending o)) (sym flood.slot.channel)
      ∙ ap (λ (f : ℕ). start_tick p host f (slot_of_sending o)) (sym flood.slot.frame)
      ∙ ap (λ (i : ℕ). start_tick p host (frame_of_sending p x) i) (sym flood.slot.slot)

  -- at whoever received it whole
  pub taken : (v : ℕ) → knows s.nodes v ≡ true
      → RefFor s clocks x.rank v (zero_from s.profile (clocks v x.end) x.packet) (frame_of_sending s.profile x) (frame_of_sending s.profile x)
      (slot_of_sending x)
  taken v known =
      let p = s.profile in
      let good = zero_good s clocks air run x flood in
      let begins = good.ref.begun in
      let past = good.ref.past in
      let nominal = start_tick p (clocks (slice_index s.hosts x.rank)) (frame_of_sending p x) (slot_of_sending x) in
      let near : Near x.start (nominal + counter_of_sending x * step p (length x.packet)) (counter_of_sending x) =
      subst (λ (b : ℕ). Near x.start (b + counter_of_sending x * step p (length x.packet)) (counter_of_sending x)) at_nominal flood.near in
      profile_reference p run.driven.sound.profile (clocks (slice_index s.hosts x.rank)) (clocks v) (frame_of_sending p x) x.start x.end x.packet y
      (host_drifts s clocks air run x flood) (run.driven.drift v known) (omega (arith, begins, past)) (frame_of_run s clocks air run x flood there)
      says of_profile near flood.lasts
