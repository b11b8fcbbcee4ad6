-- What a node makes of what it receives in a slot: the relay is over before its window closes.
use Rattle.std.proofs.Common.{◌≡◌, ℕ, suc, ◌+◌, ◌/◌, ◌<◌, List, length, length-set, Contains, inr, sym, ◌∙◌, ap, subst, arith}
use Rattle.std.specs.Prelude.{slice_index}
use Rattle.lwb_base.specs.Profile.{airtime}
use Rattle.tick_clock.specs.Clocks.{IsClock, due}
use Rattle.time_reference.specs.Budgets.{budget_of}
use Rattle.time_reference.specs.Zeros.{closing_offset}
use Rattle.glossy_relay.specs.Relaying.{relay_of, counter_of as count_of}
use Rattle.glossy_relay.proofs.CountedPackets.{slot_set}
use Rattle.node_core.specs.Windows.{Window}
use Rattle.node_core.specs.Nodes.{Node}
use Rattle.scenario_text.specs.ScenarioParts.{ScenarioParts}
use Rattle.radio_model.specs.Hearing.{frame_of_sending, slot_of_sending, counter_of_sending}
use Rattle.air_log.specs.declared.entry.Entry.{Entry}
use Rattle.air_log.specs.Entries.{sendings_of}
use Rattle.air_log.specs.Devices.{Device, OrderedPacket}
use Rattle.air_log.specs.Trails.{Reception}
use Rattle.law_trails.specs.NodeTimes.{relay_tick}
use Rattle.law_trails.proofs.SlotBounds.{ends_in_slot, relay_in_flood}
use Rattle.law_trails.proofs.UnstoppedTimes.{relay_is}
use Rattle.law_safety.specs.RoundZeros.{GoodFor}
use Rattle.law_safety.specs.SetAlarms.{rank_at, tick_by}
use Rattle.law_safety.specs.OrderedSendings.{HeardIn, HasOrder}
use Rattle.law_safety.specs.KnownInRows.{IsHeardNow}
use Rattle.law_safety.specs.Rows.{AtTick}
use Rattle.law_safety.proofs.RunFacts.{run_fits, tick_in_run}
use Rattle.law_safety.proofs.FloodTimes.{host_drifts, origin_drifts, zero_good, slot_in_round, in_flood, packet_short, frame_of_run}

module _ (s : ScenarioParts) (clocks : ℕ → ℕ → ℕ) (air : List Entry) (v t : ℕ) (at : AtTick s clocks air v t) (h : Reception) (d : Device)
    (now : IsHeardNow s clocks air v t h d) where
  pub was_sent : Contains (sendings_of air) now.sending
  was_sent = (at.run.heedful.heard v now.sending now.there).sent

  pub own_drifts : IsClock (clocks v)
  own_drifts = at.run.driven.drift v at.known

  pub it_lasts : t ≡ now.sending.start + airtime s.profile (length now.sending.packet)
  it_lasts = sym now.end ∙ now.of_flood.lasts

  -- the relay that is ordered of it
  abbrev pub relay_order : OrderedPacket
  relay_order = record { tick = relay_tick s.profile (clocks v) t; packet = relay_of h.packet }

  -- the node takes it as of slot j of its round
  pub record IsOfSlot (n : Node) (j : ℕ) : Type 0 where
    pub frame : n.frame ≡ t / s.profile.frame
    pub rank : now.sending.rank ≡ rank_at n
    pub slot : slot_of_sending now.sending ≡ j
    pub good : GoodFor s clocks (rank_at n) v n.zero n.frame (closing_offset s.profile j)

  module _ (n : Node) (j : ℕ) (is : IsOfSlot n j) where
    pub heard_in : HeardIn s air v (suc t) n j now.sending
    heard_in = record { there = now.there; rank = is.rank; frame = now.frame ∙ sym is.frame; slot = is.slot; by = let end = now.end in omega (arith, end) }

    -- the zero of the node, by the names of what was received
    good_here : GoodFor s clocks now.sending.rank v n.zero (frame_of_sending s.profile now.sending) (closing_offset s.profile (slot_of_sending now.sending))
    good_here =
        subst (λ (r : ℕ). GoodFor s clocks r v n.zero (frame_of_sending s.profile now.sending) (closing_offset s.profile (slot_of_sending now.sending)))
        (sym is.rank)
        (subst (λ (f : ℕ). GoodFor s clocks (rank_at n) v n.zero f (closing_offset s.profile (slot_of_sending now.sending))) (is.frame ∙ sym now.frame)
        (subst (λ (i : ℕ). GoodFor s clocks (rank_at n) v n.zero n.frame (closing_offset s.profile i)) (sym is.slot) is.good))

    -- it ends before the window closes
    pub ends_before : t < tick_by s clocks v n (closing_offset s.profile j)
    ends_before =
        let x = now.sending in
        let flood = now.of_flood in
        let ends = ends_in_slot s.profile (budget_of s.profile) (run_fits s at.run.driven.sound) (clocks (slice_index s.hosts x.rank))
        (clocks flood.origin.node) (clocks v)
        flood.zero n.zero (frame_of_sending s.profile x) (slot_of_sending x) (length x.packet) (counter_of_sending x) x.start
        (host_drifts s clocks air at.run x flood) (origin_drifts s clocks air at.run x flood) own_drifts (slot_in_round s clocks air at.run x flood)
        (packet_short s clocks air at.run x flood)
        (zero_good s clocks air at.run x flood) good_here (in_flood s clocks air at.run x flood) in
        subst (λ (i : ℕ). t < tick_by s clocks v n (closing_offset s.profile i)) is.slot (omega (arith, ends, it_lasts))

    relay_ends : counter_of_sending now.sending < 11 → relay_tick s.profile (clocks v) t + airtime s.profile (length now.sending.packet) < tick_by s clocks v n
        (closing_offset s.profile j)
    relay_ends less =
        let x = now.sending in
        let flood = now.of_flood in
        let p = s.profile in
        let b = budget_of s.profile in
        let fits = run_fits s at.run.driven.sound in
        let host : ℕ → ℕ = clocks (slice_index s.hosts x.rank) in
        let first : ℕ → ℕ = clocks flood.origin.node in
        let host_clock = host_drifts s clocks air at.run x flood in
        let first_clock = origin_drifts s clocks air at.run x flood in
        let round = slot_in_round s clocks air at.run x flood in
        let short = packet_short s clocks air at.run x flood in
        let began = zero_good s clocks air at.run x flood in
        let relay = relay_in_flood p b fits host first (clocks v) flood.zero (frame_of_sending p x) (slot_of_sending x) (length x.packet)
        (counter_of_sending x) x.start t
        host_clock first_clock own_drifts round short (frame_of_run s clocks air at.run x flood was_sent) began
        (in_flood s clocks air at.run x flood) less it_lasts in
        let ends = ends_in_slot p b fits host first (clocks v) flood.zero n.zero (frame_of_sending p x) (slot_of_sending x) (length x.packet)
        (counter_of_sending x + 1)
        (relay_tick p (clocks v) t)
        host_clock first_clock own_drifts round short began good_here relay in
        subst (λ (i : ℕ). relay_tick s.profile (clocks v) t + airtime s.profile (length x.packet) < tick_by s clocks v n (closing_offset s.profile i)) is.slot
        (omega (arith, ends))

    -- its relay is as an ordered transmission has to be
    pub relay_ordered : (w : Window) → count_of h.packet < 11 → HasOrder s clocks air v (suc t) n j w relay_order
    relay_ordered w less =
        let x = now.sending in
        let q = h.packet in
        let count : count_of q ≡ counter_of_sending x = ap count_of now.packet in
        let few : counter_of_sending x < 11 = omega (arith, count, less) in
        let long : length (relay_of q) ≡ length x.packet = length-set q 2 (count_of q + 1) ∙ ap length now.packet in
        record {
          over = subst (λ (m : ℕ). relay_tick s.profile (clocks v) t + airtime s.profile m < tick_by s clocks v n (closing_offset s.profile j)) (sym long)
              (relay_ends few);
          slot = slot_set q (count_of q + 1) ∙ ap (λ (r : List ℕ). slice_index r 1) now.packet ∙ is.slot;
          why = inr (record {
            heard = x;
            in_slot = heard_in;
            few = few;
            packet = ap relay_of now.packet;
            at =
                relay_is s.profile (budget_of s.profile) (run_fits s at.run.driven.sound) (clocks v) own_drifts t
                (tick_in_run s at.run.driven.sound t at.in_run)
                ∙ ap (λ (e : ℕ). due (clocks v) (clocks v e + s.profile.turn)) (sym now.end);
          });
        }
