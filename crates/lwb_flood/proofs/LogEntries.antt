-- The entries of a log, and of a log that keeps the law of one flood.
use Rattle.std.proofs.Common.{◌≡◌, ℕ, zero, suc, ◌+◌, ◌*◌, ◌<◌, List, [], ◌∷◌, Bool, true, ◌||◌, inl, inr, Some, refl, sym, ◌∙◌, ap, subst, arith, length, ◌==◌}
use Rattle.std.proofs.Common.{eq-eqb}
use Rattle.std.specs.Prelude.{Contains, ◌≢◌, AllPairs}
use Rattle.std.proofs.lemmas.Bool.{or_left, or_right}
use Rattle.std.proofs.lemmas.List.{length-set}
use Rattle.std.proofs.lemmas.Option.{same_Some}
use Rattle.glossy_relay.specs.Relaying.{counter_of}
use Rattle.scenario_text.specs.FloodParts.{FloodParts, knows}
use Rattle.scenario_text.specs.declared.lines.NodeLine.{NodeLine}
use Rattle.bus_terms.specs.Flooding.{has}
use Rattle.bus_terms.specs.FloodOfText.{ids}
use Rattle.air_log.specs.declared.entry.Entry.{Entry}
use Rattle.air_log.specs.declared.entry.Entry.TheVariants.{Sent, Heard as HeardOf, Tuned}
use Rattle.radio_model.specs.declared.sending.Sending.{Sending}
use Rattle.air_log.specs.Entries.{sendings_of, hearings_of, sending_in}
use Rattle.air_log.specs.NodeEvents.{Heard}
use Rattle.air_log.specs.FloodLaw.{FloodLaw, first_flood}
use Rattle.air_log.proofs.LoggedEntries.{sending_node}
use Rattle.lwb_base.proofs.Elements.{not_in_none, contains_cases, filter_from, filter_distinct, map_from, pairs_head, pairs_tail, Distinct}
use Rattle.glossy_relay.proofs.CountedPackets.{counter_set, fitting_long, relayed_parts}
use Rattle.lwb_flood.proofs.SendingTimes.{occasion_event}

-- a transmission tells its entry
entry_from : (e : Entry) (x : Sending) → sending_in e ≡ Some x → e ≡ Sent x
entry_from (Sent s) x is = ap Sent (same_Some s x is)
entry_from (HeardOf h) x is = absurd (cc)
entry_from (Tuned t) x is = absurd (cc)

pub sendings_distinct : (air : List Entry) → AllPairs (λ d e. d ≢ e) air → Distinct (sendings_of air)
sendings_distinct air once = filter_distinct sending_in (λ d e x at_d at_e. entry_from d x at_d ∙ sym (entry_from e x at_e)) air once

-- the ids of nodes
pub ids_known : (nodes : List NodeLine) (v : ℕ) → has (ids nodes) v ≡ knows nodes v
ids_known [] v = refl
ids_known (n ∷ nodes) v = ap (λ (b : Bool). (n.node == v) || b) (ids_known nodes v)

pub known_of : (nodes : List NodeLine) (v : ℕ) → Contains (ids nodes) v → knows nodes v ≡ true
known_of [] v there = absurd (not_in_none v there)
known_of (n ∷ nodes) v there =
    elim (contains_cases n.node (ids nodes) v there) [
      | inl is ↦ or_left (n.node == v) _ (eq-eqb n.node v is)
      | inr later ↦ or_right (n.node == v) _ (known_of nodes v later)
    ]

pub ids_distinct : (nodes : List NodeLine) → AllPairs (λ a b. a.node < b.node) nodes → Distinct (ids nodes)
ids_distinct [] all = tt
ids_distinct (n ∷ nodes) all =
    (λ there. twice (map_from (λ (m : NodeLine). m.node) nodes n.node there), ids_distinct nodes (pairs_tail (λ a b. a.node < b.node) n nodes all))
  where
    twice : (m : NodeLine) × Contains nodes m × (m.node ≡ n.node) → ⊥
    twice (m, there, is) = let less = pairs_head (λ a b. a.node < b.node) n nodes all m there in omega (arith, less, is)

module _ (f : FloodParts) (clocks : ℕ → ℕ → ℕ) (air : List Entry) (law : FloodLaw f clocks air) where
  pub sender_known : (x : Sending) → Contains (sendings_of air) x → knows f.nodes x.node ≡ true
  sender_known x there =
      let e = filter_from sending_in air x there in
      subst (λ (v : ℕ). knows f.nodes v ≡ true) (sending_node e.0 x e.2) (law.known e.0 e.1)

  -- what was received was sent
  pub heard_was_sent : (v : ℕ) (x : Sending) → Contains (hearings_of air) (record { node = v; sending = x }) → Contains (sendings_of air) x
  heard_was_sent v x there = ((law.hears v x).0 there).1.sent

  pub event_was_sent : (v : ℕ) (x : Sending) → knows f.nodes v ≡ true → Contains (law.events v) (Heard x) → Contains (sendings_of air) x
  event_was_sent v x here there = heard_was_sent v x (((law.happened v here).hearings x).0 there)

  -- all packets have eight bytes
  eight_at : (k : ℕ) (x : Sending) → Contains (sendings_of air) x → counter_of x.packet ≡ k → length x.packet ≡ 8
  eight_at zero x sent at = ap (λ (y : Sending). length y.packet) ((law.begun x).0 (sent, at))
  eight_at (suc k) x sent at =
      let here = sender_known x sent in
      let a = law.relays x sent (omega arith) in
      let y = a.heard in
      let parts = relayed_parts a.flood y.packet x.packet a.answer in
      let there : Contains (law.events x.node) (Heard y) = occasion_event (first_flood f x.node) (law.events x.node) (record {
        before = a.flood;
        event = Heard y;
      }) a.occasion in
      let raised : counter_of x.packet ≡ counter_of y.packet + 1 = ap counter_of parts.2
      ∙ counter_set y.packet (counter_of y.packet + 1) (fitting_long a.flood y.packet parts.0) in
      ap (λ (p : List ℕ). length p) parts.2 ∙ length-set y.packet 2 (counter_of y.packet + 1)
      ∙ eight_at k y (event_was_sent x.node y here there) (omega (arith, raised))

  pub eight : (x : Sending) → Contains (sendings_of air) x → length x.packet ≡ 8
  eight x sent = eight_at (counter_of x.packet) x sent refl

  pub lasting : (x : Sending) → Contains (sendings_of air) x → (x.rank ≡ 0) × (x.end ≡ x.start + 32768)
  lasting x sent =
      let last = law.lasts x sent in
      let end : x.end ≡ x.start + (length x.packet + 8) * 2048 = ap (λ (y : Sending). y.end) last in
      (ap (λ (y : Sending). y.rank) last, omega (arith, end, eight x sent))
