-- What a window accepts leaves its node at its rank.
use Rattle.std.proofs.Common.{◌≡◌, ℕ, suc, List, Bool, true, ◌==◌, Some, None, Option, IfSome, Contains, refl, sym, ◌∙◌, ap, subst, arith, length, ◌<◌}
use Rattle.std.specs.Option.{option_and_then}
use Rattle.std.proofs.lemmas.Bool.{cond_both}
use Rattle.glossy_relay.specs.Relaying.{accepted_of}
use Rattle.bus_rules.specs.declared.part.Part.{Part}
use Rattle.bus_rules.specs.Tuning.{rank_of}
use Rattle.bus_rules.specs.Cores.{Core, Setup, opening_accepted, closing_accepted}
use Rattle.bus_rules.specs.Slots.{Message, ScheduleOf, DataOf, RequestOf, closed_slot}
use Rattle.bus_rules.proofs.Ranks.{heard_rank}
use Rattle.lwb_member.specs.Said.{message_of}
use Rattle.node_core.specs.Windows.{Window}
use Rattle.node_core.specs.Nodes.{Node}
use Rattle.node_core.specs.Rows.{accepted_in}
use Rattle.scenario_text.specs.ScenarioParts.{ScenarioParts}
use Rattle.radio_model.specs.declared.sending.Sending.{Sending}
use Rattle.radio_model.specs.Hearing.{frame_of_sending, slot_of_sending}
use Rattle.air_log.specs.declared.entry.Entry.{Entry}
use Rattle.air_log.specs.Entries.{sendings_of}
use Rattle.air_log.specs.Safe.{sender_hosts}
use Rattle.air_log.proofs.SendingsKept.{profile_lasts}
use Rattle.law_trails.proofs.SentInTrails.{sent_lasts}
use Rattle.law_trails.proofs.OtherCounters.{bodies_same}
use Rattle.law_safety.specs.AcceptedPackets.{HasAccepted, IsAccepted}
use Rattle.law_safety.specs.Beginnings.{MaySay}
use Rattle.law_safety.specs.FloodSendings.{IsOfFlood}
use Rattle.law_safety.specs.SetAlarms.{rank_at}
use Rattle.law_safety.specs.Rows.{AtTick}

-- a schedule among it is of this rank
abbrev pub IsOfRank : ℕ → Option Message → Type 0
IsOfRank r None = Unit {0}
IsOfRank r (Some (ScheduleOf y)) = y.plan.rank ≡ r
IsOfRank r (Some (DataOf d)) = Unit {0}
IsOfRank r (Some (RequestOf a)) = Unit {0}

pub closed_rank : (s : Setup) (f : ℕ) (part : Part) (initiated : Bool) (c : Core) (m : Option Message) → IsOfRank (rank_of c.tune) m
    → rank_of (closed_slot s f part initiated c m).core.tune ≡ rank_of c.tune
closed_rank s f part initiated c None is = heard_rank f part initiated c
closed_rank s f part initiated c (Some (DataOf d)) is = heard_rank f part true c
closed_rank s f part initiated c (Some (RequestOf a)) is = refl
closed_rank s f part initiated c (Some (ScheduleOf y)) is =
    cond_both (y.gap == 0) (opening_accepted s.id f y c) (closing_accepted s.id f y c) (λ (e : Core). rank_of e.tune ≡ rank_of c.tune) (λ now. refl)
    (λ later. is)

module _ (s : ScenarioParts) (clocks : ℕ → ℕ → ℕ) (air : List Entry) (v t : ℕ) (at : AtTick s clocks air v t) where
  said_rank : (m : Option Message) (u rank f z j r : ℕ) (hosting : Bool) → MaySay s clocks air u rank f z j hosting m → rank ≡ r → IsOfRank r m
  said_rank None u rank f z j r hosting says own = tt
  said_rank (Some (ScheduleOf y)) u rank f z j r hosting says own = says.fits.of_rank ∙ own
  said_rank (Some (DataOf d)) u rank f z j r hosting says own = tt
  said_rank (Some (RequestOf a)) u rank f z j r hosting says own = tt

  packet_rank : (n : Node) (j : ℕ) (w : Window) (p : List ℕ) → IsAccepted s clocks air v (suc t) n j w p → IsOfRank (rank_at n) (message_of p)
  packet_rank n j w p is =
      let x = is.heard in
      let reach = at.run.heedful.heard v x is.in_slot.there in
      let by = is.in_slot.by in
      let flood : IsOfFlood s clocks air x = at.before.sendings x reach.sent (started x reach.sent by) in
      let o = flood.origin in
      let first = flood.begins.start.first in
      let same : message_of p ≡ message_of o.packet = ap message_of is.is ∙ bodies_same x.packet o.packet flood.few (omega (arith, first)) flood.same in
      subst (IsOfRank (rank_at n)) (sym same)
      (said_rank (message_of o.packet) o.node o.rank (frame_of_sending s.profile o) flood.zero (slot_of_sending o) (rank_at n)
      (sender_hosts s clocks air o) flood.begins.start.says (sym flood.slot.channel ∙ is.in_slot.rank))
    where
      started : (x : Sending) → Contains (sendings_of air) x → x.end < suc t → x.start < t
      started x sent by =
          let lasts = sent_lasts s clocks air at.run.heedful.trails x sent in
          let some = profile_lasts s.profile at.run.driven.sound.profile (length x.packet) in
          omega (arith, lasts.1, some, by)

  pub accepted_rank : (n : Node) (j : ℕ) (w : Window) → HasAccepted s clocks air v (suc t) n j w → IsOfRank (rank_at n) (accepted_in w)
  accepted_rank n j w is = by_packet (accepted_of w.flood) is.each
    where
      by_packet : (o : Option (List ℕ × ℕ)) → IfSome o (λ a. IsAccepted s clocks air v (suc t) n j w a.0)
          → IsOfRank (rank_at n) (option_and_then (λ a. message_of a.0) o)
      by_packet None each = tt
      by_packet (Some a) each = packet_rank n j w a.0 each
