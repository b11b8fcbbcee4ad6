-- What is known of the log of one flood: the packets and the times of its transmissions, and what made a node relay.
use Rattle.std.proofs.Common.{◌≡◌, ℕ, ◌+◌, ◌*◌, ◌≤◌, List, Contains, true, sym, ◌∙◌, ap, subst, arith}
use Rattle.std.specs.Prelude.{slice_set, slice_index}
use Rattle.tick_clock.specs.Clocks.{Near}
use Rattle.glossy_relay.proofs.CountedPackets.{counter_set, fitting_long, relayed_parts}
use Rattle.radio_model.specs.declared.sending.Sending.{Sending}
use Rattle.radio_model.specs.Hearing.{Meets}
use Rattle.scenario_text.specs.FloodParts.{FloodParts, knows}
use Rattle.air_log.specs.declared.entry.Entry.{Entry}
use Rattle.air_log.specs.Entries.{sendings_of, HasHeardEntry}
use Rattle.air_log.specs.FloodLaw.{FloodLaw, IsRelay, Lasts, first_packet, first_flood, sending_at}
use Rattle.air_log.specs.NodeEvents.{Heard}
use Rattle.lwb_flood.specs.FloodBySteps.{IsFloodBySteps}
use Rattle.lwb_flood.specs.FloodLog.{run_of}
use Rattle.lwb_flood.proofs.SendingTimes.{occasion_event}
use Rattle.lwb_flood.specs.FloodRun.{counter}
use Rattle.law_one_log.proofs.EntriesApart.{sent_there}

-- the starting node's packet with a counter
abbrev pub packet_at : FloodParts → ℕ → List ℕ
packet_at f k = slice_set (first_packet f.start) 2 k

-- in any two logs of one flood
pub same_sending : (x y : Sending) → Lasts x → Lasts y → x.node ≡ y.node → x.start ≡ y.start → x.packet ≡ y.packet → x ≡ y
same_sending x y lasts also node start packet =
    lasts
    ∙ ap (λ (v : ℕ). sending_at v x.start x.packet) node
    ∙ ap (λ (t : ℕ). sending_at y.node t x.packet) start
    ∙ ap (sending_at y.node y.start) packet
    ∙ sym also

module _ (f : FloodParts) (clocks : ℕ → ℕ → ℕ) (air : List Entry) (law : FloodLaw f clocks air) (steps : IsFloodBySteps (run_of f clocks air law)) where
  pub packet_is : (x : Sending) → Contains (sendings_of air) x → x.packet ≡ packet_at f (counter x)
  packet_is x there = (steps.spelled x there).3

  pub timed : (x : Sending) → Contains (sendings_of air) x → (k : ℕ) → counter x ≡ k → (k ≤ 11) × Near x.start (1344064000 + k * 45056) k
  timed x there k at =
      let s = steps.spelled x there in
      let few = s.2 in
      (omega (arith, few, at), subst (λ (i : ℕ). Near x.start (1344064000 + i * 45056) i) at s.4)

  pub known : (x : Sending) → Contains (sendings_of air) x → knows f.nodes x.node ≡ true
  known x there = law.known _ (sent_there air x there)

  -- a relay follows a reception with the counter before
  pub cause : (x : Sending) → knows f.nodes x.node ≡ true → (relay : IsRelay f (clocks x.node) (law.events x.node) x)
      → HasHeardEntry air x.node relay.heard × (counter x ≡ counter relay.heard + 1)
  cause x here relay =
      let y = relay.heard in
      let parts = relayed_parts relay.flood y.packet x.packet relay.answer in
      let event : Contains (law.events x.node) (Heard y) = occasion_event (first_flood f x.node) (law.events x.node) (record {
        before = relay.flood;
        event = Heard y;
      }) relay.occasion in (
        ((law.happened x.node here).hearings y).0 event,
        ap (λ (p : List ℕ). slice_index p 2) parts.2 ∙ counter_set y.packet (counter y + 1) (fitting_long relay.flood y.packet parts.0),
      )

-- two of one step are on the air together
pub meets : (x y : Sending) (k : ℕ) → k ≤ 11 → Near x.start (1344064000 + k * 45056) k → Near y.start (1344064000 + k * 45056) k
    → x.end ≡ x.start + 32768 → y.end ≡ y.start + 32768 → Meets x y
meets x y k few near also long wide =
    let a = near.below in
    let b = near.above in
    let c = also.below in
    let d = also.above in
    record { before = omega (arith, few, a, d, wide); after = omega (arith, few, b, c, long) }
