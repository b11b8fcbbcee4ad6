-- The initiators of a slot start together, and say what differs in more than the counter; all packets of it are of one length.
use Rattle.std.proofs.Common.{◌≡◌, ℕ, ◌<◌, List, inl, inr, Contains, length, sym, ◌∙◌, ap, arith}
use Rattle.lwb_base.specs.Messages.{Plan}
use Rattle.tick_clock.specs.Clocks.{Near}
use Rattle.time_reference.specs.Budgets.{budget_of}
use Rattle.lwb_packets.specs.Body.{body}
use Rattle.glossy_relay.specs.Relaying as relaying
use Rattle.scenario_text.specs.ScenarioParts.{ScenarioParts}
use Rattle.radio_model.specs.declared.sending.Sending.{Sending}
use Rattle.air_log.specs.declared.entry.Entry.{Entry}
use Rattle.air_log.specs.Entries.{sendings_of}
use Rattle.air_log.specs.NodeEvents.{Event}
use Rattle.air_log.specs.Safe.{SameSlot}
use Rattle.law_trails.proofs.OtherCounters.{first_place}
use Rattle.law_safety.specs.FloodSendings.{IsOfFlood}
use Rattle.law_windows.specs.WindowTimes.{IsOfSlot}
use Rattle.law_safety.proofs.ContenderStarts.{contenders_near}
use Rattle.law_safety.proofs.FloodPackets.{same_length, asks_in_7}
use Rattle.law_safety.proofs.RunSendings.{of_flood}
use Rattle.law_safety.proofs.SlotFloods.{one_flood}
use Rattle.lwb_flood.specs.FloodRun.{Run, initiates, IsParticipant}
use Rattle.law_terms.specs.LawfulRuns.{IsLawfulRun}
use Rattle.law_terms.specs.SlotSteps.{IsSlotStart}
use Rattle.law_terms.specs.SlotLaws.{IsWindowOf}
use Rattle.air_log.specs.WindowLogs.{WindowLog}
use Rattle.law_bus.proofs.RunsOfLogs.{whole}
use Rattle.law_bus.specs.SlotRun.{AreEvents, run_of_slot}
use Rattle.law_bus.proofs.SlotSendings.{IsOf}
use Rattle.law_bus.proofs.SlotSpeakers.{IsSpeaker, speaker, speaker_there, message_is, first_sending}

pub record StartTogether (r : Run) : Type 0 where
  pub there : (o : ℕ) → initiates r o → IsParticipant r o
  pub counter_zero : (o : ℕ) → initiates r o → relaying.counter_of (r.message o) ≡ 0
  pub slot : (o : ℕ) → initiates r o → relaying.slot_of (r.message o) ≡ r.slot
  pub together : (o q : ℕ) → initiates r o → initiates r q → Near (r.starts o) (r.starts q) r.spread

module _ (s : ScenarioParts) (clocks : ℕ → ℕ → ℕ) (air : List Entry) (lawful : IsLawfulRun s clocks air)
    (rank f j : ℕ) (p : Plan) (in_run : f < s.frames) (start : IsSlotStart s clocks air rank f p j)
    (events : ℕ → List Event) (are : AreEvents s clocks air rank f j events) where
  abbrev r : Run
  r = run_of_slot s clocks air rank f p j events

  abbrev pub InSlot : Sending → Type 0
  InSlot x = Contains (sendings_of air) x × IsOf s.profile rank f j x

  -- a transmission of a window of the slot is of the slot
  pub is_of_window : (v : ℕ) (w : WindowLog) → IsWindowOf s clocks air rank f j v w → (x : Sending) → IsOfSlot s w x → IsOf s.profile rank f j x
  is_of_window v w here x is = (is.channel ∙ here.channel, is.frame ∙ here.frame, is.slot ∙ here.slot)

  pub same_slot : (x y : Sending) → InSlot x → InSlot y → SameSlot s.profile x y
  same_slot x y first second = record {
    channel = first.1.0 ∙ sym second.1.0;
    frame = first.1.1 ∙ sym second.1.1;
    slot = first.1.2 ∙ sym second.1.2;
  }

  pub flood : (x : Sending) → InSlot x → IsOfFlood s clocks air x
  flood x is = of_flood s clocks air (whole s clocks air lawful) x is.0

  -- all are of one length
  pub one_length : (x y : Sending) → InSlot x → InSlot y → length x.packet ≡ length y.packet
  one_length x y first second =
      let is = flood x first in
      let also = flood y second in
      elim (one_flood s clocks air (whole s clocks air lawful) x y is also (same_slot x y first second)) [
        | inl same ↦ same_length x.packet y.packet (is.same ∙ ap (λ (z : Sending). body z.packet) same ∙ sym also.same)
        | inr asks ↦ asks_in_7 s clocks air x is asks.0 ∙ sym (asks_in_7 s clocks air y also asks.1)
      ]

  module _ (o : ℕ) (here : initiates r o) where
    abbrev who : IsSpeaker s clocks air lawful rank f j p in_run start o
    who = speaker s clocks air lawful rank f j p in_run start o here

    abbrev pub x : Sending
    x = (first_sending s clocks air lawful rank f j p in_run start events are o who).sending

    pub in_it : InSlot x
    in_it =
        let is = first_sending s clocks air lawful rank f j p in_run start events are o who in
        (is.there, is_of_window o who.window who.here x is.of_slot)

    counts_zero : relaying.counter_of (r.message o) ≡ 0
    counts_zero = ap relaying.counter_of (message_is s clocks air lawful rank f j p in_run start events are o who) ∙ (first_place who.message j).1

    of_this_slot : relaying.slot_of (r.message o) ≡ j
    of_this_slot = ap relaying.slot_of (message_is s clocks air lawful rank f j p in_run start events are o who) ∙ (first_place who.message j).0

    pub itself : (flood x in_it).origin ≡ x
    itself =
        let is = first_sending s clocks air lawful rank f j p in_run start events are o who in
        (flood x in_it).itself (ap relaying.counter_of is.packet_is ∙ counts_zero)

  together : (o q : ℕ) → initiates r o → initiates r q → Near (r.starts o) (r.starts q) (budget_of s.profile).contenders
  together o q here also =
      let first = first_sending s clocks air lawful rank f j p in_run start events are o (who o here) in
      let second = first_sending s clocks air lawful rank f j p in_run start events are q (who q also) in
      let a = flood (x o here) (in_it o here) in
      let b = flood (x q also) (in_it q also) in
      let same = same_slot (x o here) (x q also) (in_it o here) (in_it q also) in
      let one = ap (λ (z : Sending). z.start) (itself o here) ∙ first.at in
      let two = ap (λ (z : Sending). z.start) (itself q also) ∙ second.at in
      elim (one_flood s clocks air (whole s clocks air lawful) (x o here) (x q also) a b same) [
        | inl origin ↦ (
            let starts = ap (λ (z : Sending). z.start) origin in
            record { below = omega (arith, starts, one, two); above = omega (arith, starts, one, two) }
            )
        | inr asks ↦ (
            let near = contenders_near s clocks air (whole s clocks air lawful) (x o here) (x q also) a b same asks.0 asks.1 in
            let there = near.below in
            let back = near.above in
            record { below = omega (arith, there, one, two); above = omega (arith, back, one, two) }
            )
      ]

  pub start_together : StartTogether r
  start_together = record {
    there = λ o here. speaker_there s clocks air lawful rank f j p in_run start o here;
    counter_zero = counts_zero;
    slot = of_this_slot;
    together = together;
  }
