-- Where slot 0 of a host's round closes, its opening was sent: so the plan of the round is known.
use Rattle.std.proofs.Common.{◌≡◌, ℕ, ◌<◌, inl, inr, List, Bool, true, false, Some, None, Option, IfSome, Contains, refl, sym, ◌∙◌, ap, subst, arith, eq-eqb}
use Rattle.std.proofs.Common.{lt-ltb}
use Rattle.std.proofs.lemmas.Bool.{cond-true, and_from, not_from_true}
use Rattle.lwb_base.specs.Messages.{Plan}
use Rattle.bus_rules.specs.declared.part.Part.TheVariants.{Opening}
use Rattle.bus_rules.specs.declared.tune.Tune.{Tune}
use Rattle.bus_rules.specs.declared.tune.Tune.TheVariants.{Scan, Hold, Host}
use Rattle.bus_rules.specs.Plans.{opening as opening_of}
use Rattle.bus_rules.specs.Tuning.{rank_of, hosts, hosts_in}
use Rattle.bus_rules.specs.Cores.{Setup}
use Rattle.bus_rules.specs.Slots.{Message, ScheduleOf, hosts_now, part_of, is_schedule_part}
use Rattle.lwb_member.specs.Places.{kind_for}
use Rattle.lwb_member.specs.Said.{bytes_of, message_of}
use Rattle.lwb_member.proofs.Told.{told}
use Rattle.node_core.specs.Windows.{Window}
use Rattle.node_core.specs.Nodes.{Node}
use Rattle.scenario_text.specs.ScenarioParts.{ScenarioParts}
use Rattle.radio_model.specs.declared.sending.Sending.{Sending}
use Rattle.radio_model.specs.Hearing.{frame_of_sending, slot_of_sending}
use Rattle.air_log.specs.declared.entry.Entry.{Entry}
use Rattle.air_log.specs.Devices.{Device}
use Rattle.air_log.specs.Safe.{sender_hosts}
use Rattle.scenario_text.specs.Setups.{setup_of}
use Rattle.law_trails.specs.CoreRanges.{IsSetup}
use Rattle.law_trails.specs.NodeRanges.{IsNodeInRange}
use Rattle.law_trails.proofs.SaidInRange.{IsSayable, says}
use Rattle.law_trails.proofs.TrailsInRange.{set}
use Rattle.law_safety.specs.SentPlans.{IsPlanned}
use Rattle.law_safety.specs.Beginnings.{MaySay, SaysSchedule}
use Rattle.law_safety.specs.FloodSendings.{BeginsFlood, IsOfFlood}
use Rattle.law_safety.specs.SetAlarms.{rank_at}
use Rattle.law_safety.specs.TunedNodes.{is_last_window, IsRoundOf}
use Rattle.law_safety.specs.BegunFloods.{IsFirstOrdered, HasBegunIn}
use Rattle.law_safety.specs.Rows.{AtTick}
use Rattle.law_safety.proofs.RunFacts.{known_id}
use Rattle.law_safety.proofs.ClosedWindows.{Closes}
use Rattle.law_safety.proofs.ClosedRounds.{IsMembers}

same_packet : (p q : List ℕ) → Some p ≡ Some q → p ≡ q
same_packet p q is = cc

module _ (s : ScenarioParts) (clocks : ℕ → ℕ → ℕ) (air : List Entry) (v t : ℕ) (at : AtTick s clocks air v t) (d : Device) (n : Node) (j : ℕ) (w : Window)
    (is : Closes s clocks air v t d n j w) (ranged : IsNodeInRange (setup_of s v) n) (members : IsMembers s clocks air v t at d n j w is)
    (sent : (x : Sending) → Contains d.made.sent x → IsOfFlood s clocks air x) (host : hosts n.core.tune ≡ true) (first : j ≡ 0) where
  abbrev S : Setup
  S = setup_of s v

  abbrev plan : Plan
  plan = members.round.plan

  -- more slots of its round follow, so it hosts in this frame, by this plan
  more : j < w.last
  more = let last = members.round.last in omega (arith, first, last)

  own : n.core.plan ≡ plan
  own = members.round.own (inr more)

  due_by : (tune : Tune) → n.core.tune ≡ tune → hosts tune ≡ true → IsRoundOf s clocks v n j false tune → hosts_in (rank_of tune) n.frame tune ≡ true
  due_by (Scan r waited) same hosting round = absurd cc
  due_by (Hold r due) same hosting round = absurd cc
  due_by (Host r due) same hosting round = and_from _ _ (eq-eqb r r refl) (eq-eqb due n.frame round.2)

  now : hosts_now n.frame n.core ≡ true
  now =
      let open_so : is_last_window j w ≡ false = not_from_true _ (lt-ltb j w.last more) in
      due_by n.core.tune refl host
      (subst (λ (closes : Bool). IsRoundOf s clocks v n j closes n.core.tune) open_so members.member.round)

  readable : message_of (bytes_of (ScheduleOf (opening_of plan)) 0) ≡ Some (ScheduleOf (opening_of plan))
  readable =
      let id = known_id s at.run.driven.sound v at.known in
      let is_set : IsSetup S = set s at.run.driven.sound v id.0 id.1 in
      let say : IsSayable S (kind_for Opening) 0 (ScheduleOf (opening_of n.core.plan)) =
      subst (λ (o : Option Message). IfSome o (IsSayable S (kind_for Opening) 0))
      (cond-true (hosts_now n.frame n.core) (Some (ScheduleOf (opening_of n.core.plan))) None now)
      (says S is_set n.frame 0 Opening n.core ranged.core refl) in
      subst (λ (x : Plan). message_of (bytes_of (ScheduleOf (opening_of x)) 0) ≡ Some (ScheduleOf (opening_of x))) own
      (told (ScheduleOf (opening_of n.core.plan)) 0 say.may)

  -- it began its flood, with this packet
  begun : HasBegunIn s n.frame d j
  begun =
      let part : is_schedule_part w.part ≡ true = ap is_schedule_part (members.round.part ∙ ap (part_of plan) first) in
      elim (is.begun.made (is.flood.own host part)) [
        | inl ordered ↦ absurd (subst IsFirstOrdered is.still.ordered ordered)
        | inr made ↦ made
      ]

  abbrev x : Sending
  x = begun.sending

  packet : x.packet ≡ bytes_of (ScheduleOf (opening_of plan)) 0
  packet = same_packet x.packet (bytes_of (ScheduleOf (opening_of plan)) 0)
      (sym (is.begun.packet x begun.begun begun.slot).1 ∙ members.round.opens host first)

  says_so : message_of x.packet ≡ Some (ScheduleOf (opening_of plan))
  says_so = ap message_of packet ∙ readable

  flood : IsOfFlood s clocks air x
  flood = sent x begun.begun.sent

  begins : BeginsFlood s clocks air flood.zero x
  begins = subst (BeginsFlood s clocks air flood.zero) (flood.itself begun.begun.first) flood.begins

  -- on the channel of its rank
  channel : x.rank ≡ rank_at n
  channel =
      let says_schedule : SaysSchedule s clocks air x.node x.rank (frame_of_sending s.profile x) flood.zero (slot_of_sending x) (opening_of plan) =
      subst (MaySay s clocks air x.node x.rank (frame_of_sending s.profile x) flood.zero (slot_of_sending x) (sender_hosts s clocks air x)) says_so
      begins.start.says in
      sym says_schedule.fits.of_rank ∙ members.round.round.fits.of_rank

  pub opened_plan : IsPlanned s air (rank_at n) n.frame members.round.plan
  opened_plan = record {
    sending = x;
    gap = 0;
    schedule = record {
      sent = begins.sent;
      channel = channel;
      first = begun.begun.first;
      says = says_so;
      rank_said = members.round.round.fits.of_rank;
    };
    due = (let frame = begun.begun.frame in omega (arith, frame));
  }
