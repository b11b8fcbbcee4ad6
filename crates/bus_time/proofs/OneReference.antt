-- A stamp has one reference, but for the sender of its schedule, and logs of the same entries have the same ones.
use Rattle.std.proofs.Common.{◌≡◌, ℕ, ◌+◌, ◌-◌, ◌*◌, ◌≤◌, inl, inr, List, Contains, length, Some, refl, sym, ◌∙◌, ap, subst, arith}
use Rattle.lwb_base.specs.Profile.{Numbers, airtime}
use Rattle.lwb_base.specs.Messages.{Ask, Schedule}
use Rattle.lwb_packets.specs.Body.{body}
use Rattle.time_reference.specs.Reference.{heard_zero}
use Rattle.bus_rules.specs.Slots.{ScheduleOf, RequestOf}
use Rattle.lwb_member.specs.Said.{message_of}
use Rattle.node_core.specs.Nodes.{zero_from}
use Rattle.radio_model.specs.declared.sending.Sending.{Sending}
use Rattle.radio_model.specs.Hearing.{Meets, frame_of_sending, slot_of_sending, counter_of_sending}
use Rattle.scenario_text.specs.ScenarioParts.{ScenarioParts}
use Rattle.air_log.specs.declared.entry.Entry.{Entry}
use Rattle.air_log.specs.Entries.{sendings_of, HasHeardEntry}
use Rattle.air_log.specs.Safe.{SameStep}
use Rattle.law_trails.proofs.SentInTrails.{takes_time}
use Rattle.law_safety.specs.Endings.{EndsInOrder}
use Rattle.law_safety.specs.FloodSendings.{IsOfFlood}
use Rattle.law_safety.proofs.FloodPackets.{same_length, says_as_origin}
use Rattle.law_safety.proofs.RunSendings.{of_flood}
use Rattle.law_safety.proofs.SafeSteps.{no_overlap}
use Rattle.law_safety.proofs.SlotFloods.{one_flood}
use Rattle.bus_time.specs.Stamps.{IsAhead, IsOfFrame, IsReference, IsScheduleHeard, tick_by}
use Rattle.bus_time.specs.StampLaws.{BeginsData}
use Rattle.bus_time.proofs.StampAges.{reference_says}
use Rattle.bus_time.proofs.StampErrors.{before, sent}

-- ---- in another log

-- whatever is received by the first log is received by the second
abbrev pub HeardToo : List Entry → List Entry → Type 0
HeardToo a b = (v : ℕ) (h : Sending) → HasHeardEntry a v h → HasHeardEntry b v h

module _ (s : ScenarioParts) (x : Sending) (a b : List Entry) where
  schedule_too : HeardToo a b → (gap : ℕ) (h : Sending) → IsScheduleHeard s a x gap h → IsScheduleHeard s b x gap h
  schedule_too too gap h is = record {
    there = too x.node h is.there;
    channel = is.channel;
    schedule = is.schedule;
    says = is.says;
    gap_is = is.gap_is;
  }

  of_frame_too : HeardToo a b → (h : Sending) → IsOfFrame s a x h → IsOfFrame s b x h
  of_frame_too too h is = record { gap = is.gap; heard = schedule_too too is.gap h is.heard; frame = is.frame; over = is.over }

  ahead_too : HeardToo a b → (d : ℕ) (h : Sending) → IsAhead s a x d h → IsAhead s b x d h
  ahead_too too d h is = record { heard = schedule_too too d h is.heard; some = is.some; frame = is.frame }

pub reference_too : (s : ScenarioParts) (x : Sending) (a b : List Entry) → HeardToo a b → HeardToo b a → (d : ℕ) (h : Sending) → IsReference s a x d h
    → IsReference s b x d h
reference_too s x a b too back d h is = elim is.by [
  | inl now ↦ record {
    by = inl (
      now.0,
      record { is = of_frame_too s x a b too h now.1.is; first = λ k also. now.1.first k (of_frame_too s x b a back k also) },
    );
  }
  | inr ahead ↦ record {
    by = inr (
      λ k also. ahead.0 k (of_frame_too s x b a back k also),
      record { is = ahead_too s x a b too d h ahead.1.is; first = λ k also. ahead.1.first k (ahead_too s x b a back d k also) },
      λ e k also. ahead.2 e k (ahead_too s x b a back e k also),
    );
  }
]

-- ---- in one log

zero_same : (p : Numbers) (t u n m c e j i : ℕ) → t ≡ u → n ≡ m → c ≡ e → j ≡ i
    → heard_zero p (t - airtime p n) c n j ≡ heard_zero p (u - airtime p m) e m i
zero_same p t u n m c e j i end long counter slot = rw (end, long, counter, slot) refl

tick_same : (base z w d e frame : ℕ) → z ≡ w → d ≡ e → base - (z + d * frame) ≡ base - (w + e * frame)
tick_same base z w d e frame zero ahead = rw (zero, ahead) refl

same_order : (m n : ℕ) → m ≤ n → n ≤ m → m ≡ n
same_order m n up down = omega (arith, up, down)

-- as many frames ahead, and over at the same time
pub record Alike (d e : ℕ) (h k : Sending) : Type 0 where
  pub ahead : d ≡ e
  pub end : h.end ≡ k.end

module _ (s : ScenarioParts) (air : List Entry) (x : Sending) (d e : ℕ) (h k : Sending) (is : IsReference s air x d h) (also : IsReference s air x e k) where
  alike : Alike d e h k
  alike = elim is.by [
    | inl now ↦ elim also.by [
      | inl too ↦ record {
        ahead = now.0 ∙ sym too.0;
        end = same_order h.end k.end (now.1.first k too.1.is) (too.1.first h now.1.is);
      }
      | inr later ↦ absurd (later.0 h now.1.is)
    ]
    | inr ahead ↦ elim also.by [
      | inl too ↦ absurd (ahead.0 k too.1.is)
      | inr later ↦ (
          let same = same_order d e (ahead.2 e k later.1.is) (later.2 d h ahead.1.is) in
          record {
            ahead = same;
            end = same_order h.end k.end
                (ahead.1.first k (subst (λ (n : ℕ). IsAhead s air x n k) (sym same) later.1.is))
                (later.1.first h (subst (λ (n : ℕ). IsAhead s air x n h) same ahead.1.is));
          }
          )
    ]
  ]

module _ (s : ScenarioParts) (clocks : ℕ → ℕ → ℕ) (air : List Entry) (whole : EndsInOrder s clocks air) (x : Sending) (begun : BeginsData air x)
    (d e : ℕ) (h k : Sending) (is : IsReference s air x d h) (also : IsReference s air x e k) where
  told : (y : Schedule) × (message_of h.packet ≡ Some (ScheduleOf y))
  told = reference_says s air x d h is

  told_too : (y : Schedule) × (message_of k.packet ≡ Some (ScheduleOf y))
  told_too = reference_says s air x e k also

  h_sent : Contains (sendings_of air) h
  h_sent = sent s clocks air whole x begun d h is told.0 told.1

  k_sent : Contains (sendings_of air) k
  k_sent = sent s clocks air whole x begun e k also told_too.0 told_too.1

  meets : Meets h k
  meets =
      let end = (alike s air x d e h k is also).end in
      let h_lasts = takes_time s clocks air whole.run.heedful.trails whole.run.driven.sound h h_sent in
      let k_lasts = takes_time s clocks air whole.run.heedful.trails whole.run.driven.sound k k_sent in
      record { before = omega (arith, end, h_lasts); after = omega (arith, end, k_lasts) }

  step : SameStep s.profile h k
  step =
      no_overlap s clocks air whole h k h_sent k_sent
      ((before s clocks air whole x begun d h is told.0 told.1).channel ∙ sym (before s clocks air whole x begun e k also told_too.0 told_too.1).channel) meets

  h_flood : IsOfFlood s clocks air h
  h_flood = of_flood s clocks air whole h h_sent

  k_flood : IsOfFlood s clocks air k
  k_flood = of_flood s clocks air whole k k_sent

  no_request : (q : List ℕ) (y : Schedule) → message_of q ≡ Some (ScheduleOf y) → ((a : Ask) × (message_of q ≡ Some (RequestOf a))) → ⊥
  no_request q y says other = let asks = other.1 in cc

  bodies : body h.packet ≡ body k.packet
  bodies = elim (one_flood s clocks air whole h k h_flood k_flood step.slot) [
    | inl one ↦ h_flood.same ∙ ap (λ (o : Sending). body o.packet) one ∙ sym k_flood.same
    | inr both ↦ absurd (no_request h_flood.origin.packet told.0 (sym (says_as_origin s clocks air h h_flood) ∙ told.1) both.0)
  ]

  pub one_tick : tick_by s air x clocks d h ≡ tick_by s air x clocks e k
  one_tick =
      let p = s.profile in
      let L = clocks x.node in
      let one = alike s air x d e h k is also in
      let zero : zero_from p (L h.end) h.packet ≡ zero_from p (L k.end) k.packet =
      zero_same p (L h.end) (L k.end) (length h.packet) (length k.packet) (counter_of_sending h) (counter_of_sending k) (slot_of_sending h)
      (slot_of_sending k) (ap L one.end)
      (same_length h.packet k.packet bodies) step.counter step.slot.slot in
      tick_same (frame_of_sending p x * p.frame + p.lead + L x.start) (zero_from p (L h.end) h.packet) (zero_from p (L k.end) k.packet) d e p.frame zero
      one.ahead
