-- What a schedule brings that a node accepted in a slot of its round: a reference, a plan that was sent and received, and its
-- place in the round.
use Rattle.std.proofs.Common.{◌≡◌, ℕ, suc, ◌+◌, ◌/◌, ◌<◌, ◌≤◌, ◌⊎◌, inl, inr, List, Some, length, Contains, sym, ◌∙◌, ap, subst, arith}
use Rattle.lwb_base.specs.Messages.{Schedule}
use Rattle.bus_rules.specs.declared.part.Part.TheVariants.{Closing}
use Rattle.bus_rules.specs.Slots.{ScheduleOf}
use Rattle.lwb_member.specs.Said.{message_of}
use Rattle.node_core.specs.Nodes.{Node, zero_from}
use Rattle.scenario_text.specs.ScenarioParts.{ScenarioParts}
use Rattle.radio_model.specs.declared.sending.Sending.{Sending}
use Rattle.radio_model.specs.Hearing.{frame_of_sending, slot_of_sending}
use Rattle.air_log.specs.declared.entry.Entry.{Entry}
use Rattle.air_log.specs.Entries.{sendings_of}
use Rattle.air_log.proofs.SendingsKept.{profile_lasts}
use Rattle.law_trails.proofs.SentInTrails.{sent_lasts}
use Rattle.law_safety.specs.SentPlans.{FitsRound, IsPlanned, HasHeardPlan, HasHeardOpening}
use Rattle.law_safety.specs.RoundZeros.{RefFor}
use Rattle.law_safety.specs.Beginnings.{SaysSchedule}
use Rattle.law_safety.specs.FloodSendings.{IsOfFlood}
use Rattle.law_safety.specs.SetAlarms.{rank_at}
use Rattle.law_safety.specs.OrderedSendings.{HeardIn}
use Rattle.law_safety.specs.Rows.{AtTick}
use Rattle.law_safety.proofs.RunFacts.{frame_from}
use Rattle.law_safety.proofs.ScheduleReferences.{origin_says, begun, taken}
use Rattle.law_safety.proofs.OpeningRoles.{StandsAt, stands}

module _ (s : ScenarioParts) (clocks : ℕ → ℕ → ℕ) (air : List Entry) (v t : ℕ) (at : AtTick s clocks air v t)
    (n : Node) (j : ℕ) (now : n.frame ≡ t / s.profile.frame) (x : Sending) (is : HeardIn s air v (suc t) n j x)
    (y : Schedule) (says : message_of x.packet ≡ Some (ScheduleOf y)) where
  was_sent : Contains (sendings_of air) x
  was_sent = (at.run.heedful.heard v x is.there).sent

  lasts : x.start < t
  lasts =
      let whole = (sent_lasts s clocks air at.run.heedful.trails x was_sent).1 in
      let some = profile_lasts s.profile at.run.driven.sound.profile (length x.packet) in
      let by = is.by in
      omega (arith, whole, some, by)

  flood : IsOfFlood s clocks air x
  flood = at.before.sendings x was_sent lasts

  -- the transmission that began its flood
  abbrev o : Sending
  o = flood.origin

  begun_so : SaysSchedule s clocks air o.node o.rank (frame_of_sending s.profile o) flood.zero (slot_of_sending o) y
  begun_so = begun s clocks air at.run x was_sent flood y says

  -- a reference of the node's round
  pub reference : RefFor s clocks (rank_at n) v (zero_from s.profile (clocks v x.end) x.packet) n.frame n.frame j
  reference =
      let z = zero_from s.profile (clocks v x.end) x.packet in
      let was = taken s clocks air at.run x was_sent flood y says v at.known in
      subst (λ (i : ℕ). RefFor s clocks (rank_at n) v z n.frame n.frame i) is.slot
      (subst (λ (f : ℕ). RefFor s clocks (rank_at n) v z f f (slot_of_sending x)) is.frame
      (subst (λ (r : ℕ). RefFor s clocks r v z (frame_of_sending s.profile x) (frame_of_sending s.profile x) (slot_of_sending x)) is.rank was))

  origin_rank : o.rank ≡ rank_at n
  origin_rank = sym flood.slot.channel ∙ is.rank

  -- a plan of its rank
  pub fits : FitsRound s (rank_at n) y.plan
  fits = subst (λ (r : ℕ). FitsRound s r y.plan) origin_rank begun_so.fits

  -- an opening is in slot 0, and a closing after it
  pub place : ((y.gap ≡ 0) × (j ≡ 0)) ⊎ ((1 ≤ y.gap) × (y.gap ≤ 4) × (1 ≤ j))
  place = elim begun_so.part [
    | inl opens ↦ inl (opens.0, sym is.slot ∙ flood.slot.slot ∙ opens.1)
    | inr closes ↦ inr (
        let behind : StandsAt closes.plan (slot_of_sending o) Closing =
        subst (StandsAt closes.plan (slot_of_sending o)) closes.part (stands closes.plan (slot_of_sending o)) in
        let some : 1 ≤ slot_of_sending o = behind.0 in
        let same : slot_of_sending o ≡ j = sym flood.slot.slot ∙ is.slot in
        (closes.some, closes.few, omega (arith, some, same))
        )
  ]

  -- the plan was sent for the frame that its gap says, and received
  pub planned : IsPlanned s air (rank_at n) (n.frame + y.gap) y.plan
  planned = record {
    sending = o;
    gap = y.gap;
    schedule = record {
      sent = flood.begins.sent;
      channel = origin_rank;
      first = flood.begins.start.first;
      says = origin_says s clocks air at.run x was_sent flood y says;
      rank_said = fits.of_rank;
    };
    due = ap (λ (f : ℕ). f + y.gap) (sym flood.slot.frame ∙ is.frame);
  }

  pub heard_plan : HasHeardPlan s air v (rank_at n) (n.frame + y.gap) y.plan (suc t)
  heard_plan = record {
    heard = x;
    gap = y.gap;
    schedule = record { there = is.there; channel = is.rank; says = says; rank_said = fits.of_rank };
    due = ap (λ (f : ℕ). f + y.gap) is.frame;
    stays = λ l there node later told.
        (let from = frame_from s at.run.driven.sound l.frame t (omega (arith, told)) in
        let same = is.frame in
        absurd (omega (arith, from, later, same, now)));
  }

  pub heard_opening : y.gap ≡ 0 → HasHeardOpening s air v (rank_at n) n.frame y.plan
  heard_opening none = record {
    heard = x;
    schedule = record {
      there = is.there;
      channel = is.rank;
      says = says ∙ ap (λ (g : ℕ). Some (ScheduleOf (record { plan = y.plan; gap = g }))) none;
      rank_said = fits.of_rank;
    };
    now = is.frame;
  }
