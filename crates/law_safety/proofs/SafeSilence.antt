-- Silence: who begins a flood that is no schedule, and asks or does not host, has received that it may.
use Rattle.std.proofs.Common.{◌≡◌, ℕ, suc, inl, inr, List, false, Some, None, Option, refl, sym, ◌∙◌, ap, subst, arith, true≢false}
use Rattle.std.proofs.Math.Nat.{mul-le-mul_right}
use Rattle.std.specs.Prelude.{slice_index}
use Rattle.lwb_base.specs.Messages.{Plan, code, node_of, stream_of}
use Rattle.lwb_packets.specs.Requests.{is_request}
use Rattle.schedule_codec.specs.Reading.{is_schedule}
use Rattle.bus_rules.specs.declared.part.Part.TheVariants.{Data as DataSlot}
use Rattle.bus_rules.specs.Slots.{Data, Message, ScheduleOf, DataOf, RequestOf}
use Rattle.lwb_member.specs.Said.{message_of}
use Rattle.scenario_text.specs.ScenarioParts.{ScenarioParts}
use Rattle.radio_model.specs.declared.sending.Sending.{Sending}
use Rattle.radio_model.specs.Hearing.{frame_of_sending, slot_of_sending}
use Rattle.air_log.specs.declared.entry.Entry.{Entry}
use Rattle.air_log.specs.Safe.{Allows, HasWord, Silence, StaysOn, sender_hosts}
use Rattle.air_log.specs.Trails.{frame_start}
use Rattle.law_trails.proofs.SaidPackets.{data_first, data_read, no_request, says}
use Rattle.law_safety.specs.Beginnings.{MaySay}
use Rattle.law_safety.specs.SentPlans.{HasHeardPlan, HasHeardOpening, StaysOnUntil}
use Rattle.law_safety.specs.Endings.{EndsInOrder}
use Rattle.law_safety.proofs.RunSendings.{begins_flood, of_flood}

-- lines of frames up to f have been given once those of the start of f are
stays_on : (s : ScenarioParts) (v g f : ℕ) → StaysOnUntil s v g (suc (frame_start s f)) → StaysOn s v g f
stays_on s v g f stays l there node later now =
    let frames = mul-le-mul_right s.profile.frame now in
    stays l there node later (omega (arith, frames))

-- an owner is the code of its node and stream
of_code : (owner node stream : ℕ) → node_of owner ≡ node → stream_of owner ≡ stream → owner ≡ code node stream
of_code owner node stream is also = omega (arith, is, also)

module _ (s : ScenarioParts) (clocks : ℕ → ℕ → ℕ) (air : List Entry) (x : Sending) where
  heard_plan : (plan : Plan) → HasHeardPlan s air x.node x.rank (frame_of_sending s.profile x) plan (suc (frame_start s (frame_of_sending s.profile x)))
      → ((gap : ℕ) → Allows (record { plan = plan; gap = gap }) (slot_of_sending x) (message_of x.packet)) → HasWord s air x
  heard_plan plan word allows = record {
    heard = word.heard;
    schedule = record { plan = plan; gap = word.gap };
    there = word.schedule.there;
    says = word.schedule.says;
    channel = word.schedule.channel;
    named = word.schedule.rank_said;
    due = word.due;
    stays_on = stays_on s x.node (frame_of_sending s.profile word.heard) (frame_of_sending s.profile x) word.stays;
    allows = allows word.gap;
  }

  heard_opening : (plan : Plan) → HasHeardOpening s air x.node x.rank (frame_of_sending s.profile x) plan
      → Allows (record { plan = plan; gap = 0 }) (slot_of_sending x) (message_of x.packet) → HasWord s air x
  heard_opening plan word allows = record {
    heard = word.heard;
    schedule = record { plan = plan; gap = 0 };
    there = word.schedule.there;
    says = word.schedule.says;
    channel = word.schedule.channel;
    named = word.schedule.rank_said;
    due = (let now = word.now in omega (arith, now));
    stays_on = λ l there node later before. absurd (let now = word.now in omega (arith, now, later, before));
    allows = allows;
  }

  no_data : (d : Data) → message_of x.packet ≡ Some (DataOf d) → slice_index x.packet 0 ≡ 3 → ⊥
  no_data d is three = let two = data_first x.packet (data_read x.packet d is).0 in omega (arith, two, three)

  has_word : (z : ℕ) (m : Option Message) → message_of x.packet ≡ m → is_schedule x.packet ≡ false
      → (is_request x.packet ≡ false → sender_hosts s clocks air x ≡ false)
      → MaySay s clocks air x.node x.rank (frame_of_sending s.profile x) z (slot_of_sending x) (sender_hosts s clocks air x) m → HasWord s air x
  has_word z None is none guest may = absurd may
  has_word z (Some (ScheduleOf y)) is none guest may = absurd (true≢false (sym (says x.packet (ScheduleOf y) is).spelled ∙ none))
  has_word z (Some (DataOf d)) is none guest may = elim may.word [
    | inl hosting ↦ absurd (true≢false (sym hosting ∙ guest (no_request x.packet (no_data d is))))
    | inr word ↦ heard_plan may.plan word
        (λ gap. subst (λ (m : Option Message). Allows (record { plan = may.plan; gap = gap }) (slot_of_sending x) m) (sym is)
        (may.part ∙ ap DataSlot (of_code may.owner d.node d.stream (may.node ∙ sym may.own) may.stream)))
  ]
  has_word z (Some (RequestOf a)) is none guest may =
      heard_opening may.plan may.word
      (subst (λ (m : Option Message). Allows (record { plan = may.plan; gap = 0 }) (slot_of_sending x) m) (sym is) (refl, may.place, may.part))

pub silence : (s : ScenarioParts) (clocks : ℕ → ℕ → ℕ) (air : List Entry) → EndsInOrder s clocks air
    → Silence s clocks air
silence s clocks air whole x there first none guest =
    has_word s clocks air x (of_flood s clocks air whole x there).zero (message_of x.packet) refl none guest
    (begins_flood s clocks air whole x there first).start.says
