-- What starts is of its flood: it begins it, or is a turnaround after what its node received.
use Rattle.std.proofs.Common.{◌≡◌, ℕ, suc, ◌+◌, ◌*◌, ◌/◌, ◌<◌, ◌≤◌, List, length, Bool, Contains, refl, sym, ◌∙◌, ap, subst, arith}
use Rattle.std.specs.Prelude.{slice_index}
use Rattle.std.proofs.lemmas.List.{length-set}
use Rattle.lwb_base.specs.declared.limits.TheConstants.{MOST_FRAMES}
use Rattle.lwb_base.specs.Profile.{airtime, step}
use Rattle.lwb_packets.specs.Body.{body}
use Rattle.tick_clock.specs.Clocks.{Near}
use Rattle.time_reference.specs.Budgets.{budget_of}
use Rattle.time_reference.specs.Zeros.{tick_at_offset, starting_offset}
use Rattle.glossy_relay.proofs.CountedPackets.{counter_set, slot_set, body_set}
use Rattle.bus_rules.specs.Tuning.{hosts}
use Rattle.radio_model.specs.declared.sending.Sending.{Sending}
use Rattle.radio_model.specs.Hearing.{frame_of_sending, slot_of_sending, counter_of_sending}
use Rattle.scenario_text.specs.ScenarioParts.{ScenarioParts}
use Rattle.node_core.specs.Windows.{Window}
use Rattle.node_core.specs.Nodes.{Node}
use Rattle.air_log.specs.declared.entry.Entry.{Entry}
use Rattle.air_log.specs.Entries.{sendings_of}
use Rattle.air_log.specs.Devices.{OrderedPacket}
use Rattle.air_log.specs.Safe.{sender_hosts}
use Rattle.law_trails.specs.NodeTimes.{relay_tick}
use Rattle.law_trails.specs.SpokenRanges.{IsProper}
use Rattle.law_trails.proofs.SentInTrails.{sent_lasts}
use Rattle.law_trails.proofs.UnstoppedTimes.{relay_is, relay_after, relay_follows}
use Rattle.law_safety.specs.SetAlarms.{rank_at}
use Rattle.law_safety.specs.Beginnings.{MayBegin}
use Rattle.law_safety.specs.OrderedSendings.{IsFirst, IsRelay}
use Rattle.law_safety.specs.FloodSendings.{IsOfFlood}
use Rattle.law_safety.specs.Rows.{AtTick}
use Rattle.law_safety.proofs.RunFacts.{run_fits, tick_in_run}

module _ (s : ScenarioParts) (clocks : ℕ → ℕ → ℕ) (air : List Entry) (v t : ℕ) (at : AtTick s clocks air v t) (n : Node) (j : ℕ) (o : OrderedPacket)
    (now : o.tick ≡ t) (rank : ℕ) (rank_is : rank ≡ rank_at n) (below : rank_at n < length s.hosts) (frame_now : t / s.profile.frame ≡ n.frame) where
  -- what is ordered, as it starts now
  abbrev x : Sending
  x = record { rank = rank; node = v; start = t; end = t + airtime s.profile (length o.packet); packet = o.packet }

  hosted : x.rank < length s.hosts
  hosted = subst (λ (r : ℕ). r < length s.hosts) (sym rank_is) below

  -- the first packet of a flood begins it
  pub begins_flood : (w : Window) → slot_of_sending x ≡ j → IsFirst s clocks air v n j w o → Contains (sendings_of air) x
      → sender_hosts s clocks air x ≡ hosts n.core.tune → IsProper s.profile o.packet → IsOfFlood s clocks air x
  begins_flood w slot first in_log hosts_now proper =
      let zero : counter_of_sending x ≡ 0 = first.start.first in
      let may : MayBegin s clocks air v x.rank (frame_of_sending s.profile x) n.zero (slot_of_sending x) (sender_hosts s clocks air x) x.packet =
      subst (λ (r : ℕ). MayBegin s clocks air v r (frame_of_sending s.profile x) n.zero (slot_of_sending x) (sender_hosts s clocks air x) x.packet)
      (sym rank_is)
      (subst (λ (f : ℕ). MayBegin s clocks air v (rank_at n) f n.zero (slot_of_sending x) (sender_hosts s clocks air x) x.packet) (sym frame_now)
      (subst (λ (i : ℕ). MayBegin s clocks air v (rank_at n) n.frame n.zero i (sender_hosts s clocks air x) x.packet) (sym slot)
      (subst (λ (b : Bool). MayBegin s clocks air v (rank_at n) n.frame n.zero j b x.packet) (sym hosts_now) first.start))) in
      let begun_at : t ≡ tick_at_offset (clocks v) n.zero (starting_offset s.profile (slot_of_sending x)) =
      sym now ∙ first.at ∙ ap (λ (i : ℕ). tick_at_offset (clocks v) n.zero (starting_offset s.profile i)) (sym slot) in
      record {
        hosted = hosted;
        few = omega (arith, zero);
        some = proper.spoken.least;
        most = proper.spoken.most;
        lasts = refl;
        origin = x;
        zero = n.zero;
        begins = record { sent = in_log; start = may; at = begun_at };
        slot = record { channel = refl; frame = refl; slot = refl };
        same = refl;
        itself = λ is_zero. refl;
        near = subst (λ (k : ℕ). Near t (t + k * step s.profile (length x.packet)) k) (sym zero) (record { below = omega arith; above = omega arith });
      }

  -- a relay is of the flood of what its node received
  pub follows_flood : IsRelay s clocks air v (suc t) n j o → IsOfFlood s clocks air x
  follows_flood relay =
      let y = relay.heard in
      let k = counter_of_sending y in
      let p = s.profile in
      let budget = budget_of p in
      let fits = run_fits s at.run.driven.sound in
      let clock = at.run.driven.drift v at.known in
      let by = relay.in_slot.by in
      let within : y.end ≤ MOST_FRAMES * p.frame = (let ticks = tick_in_run s at.run.driven.sound t at.in_run in omega (arith, by, ticks)) in
      let ends : relay_tick p (clocks v) y.end ≡ t = relay_is p budget fits (clocks v) clock y.end within ∙ sym relay.at ∙ now in
      let later : y.end < relay_tick p (clocks v) y.end = relay_after p budget fits (clocks v) clock y.end within in
      let was = (at.run.heedful.heard v y relay.in_slot.there).sent in
      let lasts = (sent_lasts s clocks air at.run.heedful.trails y was).1 in
      let old : IsOfFlood s clocks air y = at.before.sendings y was (omega (arith, lasts, later, ends)) in
      let counted : counter_of_sending x ≡ k + 1 =
      ap (λ (q : List ℕ). slice_index q 2) relay.packet ∙ counter_set y.packet (k + 1) (let long = old.some in omega (arith, long)) in
      let size : length o.packet ≡ length y.packet = ap (λ (q : List ℕ). length q) relay.packet ∙ length-set y.packet 2 (k + 1) in
      let slotted : slot_of_sending x ≡ slot_of_sending y = ap (λ (q : List ℕ). slice_index q 1) relay.packet ∙ slot_set y.packet (k + 1) in
      let follows : Near (relay_tick p (clocks v) y.end) (old.origin.start + (k + 1) * step p (length y.packet)) (k + 1) =
      relay_follows p budget fits (clocks v) clock (length y.packet) k y.start y.end old.origin.start within old.lasts old.near in
      record {
        hosted = hosted;
        few = (let few = relay.few in omega (arith, few, counted));
        some = (let long = old.some in omega (arith, long, size));
        most = (let short = old.most in omega (arith, short, size));
        lasts = refl;
        origin = old.origin;
        zero = old.zero;
        begins = old.begins;
        slot = record {
          channel = rank_is ∙ sym relay.in_slot.rank ∙ old.slot.channel;
          frame = frame_now ∙ sym relay.in_slot.frame ∙ old.slot.frame;
          slot = slotted ∙ old.slot.slot;
        };
        same = ap body relay.packet ∙ body_set y.packet (k + 1) ∙ old.same;
        itself = λ zero. absurd (omega (arith, zero, counted));
        near =
            subst (λ (i : ℕ). Near t (old.origin.start + i * step p (length x.packet)) i) (sym counted)
            (subst (λ (m : ℕ). Near t (old.origin.start + (k + 1) * step p m) (k + 1)) (sym size)
            (subst (λ (i : ℕ). Near i (old.origin.start + (k + 1) * step p (length y.packet)) (k + 1)) ends follows));
      }
