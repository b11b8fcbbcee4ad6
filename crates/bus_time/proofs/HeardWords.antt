-- Where a node begins the flood of data without hosting, it has received a schedule for the frame, and that was over before.
use Rattle.std.proofs.Common.{◌≡◌, ℕ, ◌+◌, ◌<◌, ◌≤◌, inl, inr, List, length, Contains, Some, arith}
use Rattle.std.specs.Prelude.{slice_index}
use Rattle.std.proofs.Math.Nat.{mul-le-mul_right, mul-le-mul_left}
use Rattle.std.proofs.lemmas.Bool.{cases_lt}
use Rattle.lwb_base.specs.Profile.{step}
use Rattle.lwb_base.specs.Messages.{Schedule}
use Rattle.bus_rules.specs.Slots.{Data, DataOf, ScheduleOf}
use Rattle.lwb_member.specs.Said.{message_of}
use Rattle.scenario_text.specs.ScenarioParts.{ScenarioParts}
use Rattle.radio_model.specs.declared.sending.Sending.{Sending}
use Rattle.radio_model.specs.Hearing.{frame_of_sending, slot_of_sending, counter_of_sending}
use Rattle.air_log.specs.declared.entry.Entry.{Entry}
use Rattle.air_log.specs.Entries.{sendings_of, HasHeardEntry}
use Rattle.law_trails.proofs.SaidPackets.{says}
use Rattle.law_trails.proofs.ProfilePackets.{in_slot}
use Rattle.law_safety.specs.FloodSendings.{IsOfFlood}
use Rattle.law_safety.specs.Endings.{EndsInOrder}
use Rattle.law_safety.proofs.FloodTimes.{after_frame_start, before_frame_end}
use Rattle.law_safety.proofs.RunFacts.{run_fits}
use Rattle.law_safety.proofs.RunSendings.{of_flood}
use Rattle.law_safety.proofs.SafeSteps.{slots_of_round}

-- data is sent in slot 1 or later
pub data_slot : (q : List ℕ) (d : Data) → message_of q ≡ Some (DataOf d) → 1 ≤ slice_index q 1
data_slot q d is = (says q (DataOf d) is).place.0.slot.0

module _ (s : ScenarioParts) (clocks : ℕ → ℕ → ℕ) (air : List Entry) (whole : EndsInOrder s clocks air) where
  was_sent : (v : ℕ) (h : Sending) → HasHeardEntry air v h → Contains (sendings_of air) h
  was_sent v h there = (whole.run.heedful.heard v h there).sent

  -- a schedule for the frame of x, which is data
  pub over_before : (v : ℕ) (h x : Sending) (y : Schedule) (d : Data) → HasHeardEntry air v h → Contains (sendings_of air) x → h.rank ≡ x.rank
      → message_of h.packet ≡ Some (ScheduleOf y) → message_of x.packet ≡ Some (DataOf d) → frame_of_sending s.profile h + y.gap ≡ frame_of_sending s.profile x
      → h.end < x.start
  over_before v h x y d heard there channel schedule payload due =
      let sent = was_sent v h heard in
      let is = of_flood s clocks air whole h sent in
      let also = of_flood s clocks air whole x there in
      elim (cases_lt 0 y.gap) [
        | inl ahead ↦ (
            let ends = before_frame_end s clocks air whole.run h is sent in
            let starts = after_frame_start s clocks air whole.run x also there in
            let later : frame_of_sending s.profile h + 1 ≤ frame_of_sending s.profile x = omega (arith, ahead, due) in
            let frames = mul-le-mul_right s.profile.frame later in
            omega (arith, ends, starts, frames)
            )
        | inr none ↦ (
            let first : slot_of_sending h ≡ 0 = (in_slot h.packet y schedule).opening (omega (arith, none)) in
            let later = data_slot x.packet d payload in
            slots_of_round s clocks air whole h x is also channel (omega (arith, none, due)) (omega (arith, first, later))
            )
      ]

  -- whoever began the flood of h began no later
  pub origin_before : (h : Sending) (is : IsOfFlood s clocks air h) → is.origin.start ≤ h.start
  origin_before h is =
      let k = counter_of_sending h in
      let n = length h.packet in
      let near = is.near.above in
      let turn : 1 ≤ step s.profile n = (let short = (run_fits s whole.run.driven.sound).turn_apart in omega (arith, short)) in
      let steps = mul-le-mul_left k turn in
      omega (arith, near, steps)
