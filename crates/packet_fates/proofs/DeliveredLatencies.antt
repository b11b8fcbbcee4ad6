-- Each latency of a run is one of those that may be.
use Rattle.std.proofs.Common.{◌≡◌, ◌+◌, ◌<◌, ◌∷◌, [], ℕ, List, Bool, true, false, cond, Option, Some, None, Contains, inl}
use Rattle.std.proofs.Common.{inr, count_by, filter}
use Rattle.std.proofs.Common.{filter_map, find, flat_map, length, map, option_map, refl, sym, ◌∙◌, ap, subst, arith}
use Rattle.std.proofs.lemmas.Bool.{cond_both, false≢true}
use Rattle.std.proofs.lemmas.List.Elements.{All-contains}
use Rattle.std.proofs.lemmas.List.Sums.{length-filter}
use Rattle.std.specs.List.{enumerate_from}
use Rattle.std.specs.Option.{option_map_or}
use Rattle.lwb_base.proofs.Elements.{contains_cases, contains_head, contains_tail, filter_from, filtered, from_flat, in_flat, map_contains, not_in_none}
use Rattle.lwb_base.specs.Messages.{Plan}
use Rattle.scenario_text.specs.FloodParts.{knows}
use Rattle.scenario_text.specs.ScenarioFacts.{IsScriptLine}
use Rattle.scenario_text.specs.ScenarioParts.{ScenarioParts}
use Rattle.scenario_text.specs.declared.script.ScriptLine.{ScriptLine}
use Rattle.scenario_text.proofs.Known.{known_there}
use Rattle.scenario_text.proofs.SoundScenarios.{sound}
use Rattle.lwb_base.proofs.NumbersOfRanges.{from_range, in_range}
use Rattle.bus_rules.specs.declared.act.Act.{Act}
use Rattle.bus_rules.specs.declared.act.Act.TheVariants.{On, Off, Declare, Leave, Put}
use Rattle.bus_rules.specs.declared.delivery.Delivery.{Delivery}
use Rattle.bus_rules.specs.Slots.{Data, delivery_of}
use Rattle.bus_rules.specs.States.{IsAct, State, StateOff, StateOn}
use Rattle.bus_rules.specs.Streams.{drops, stream_at}
use Rattle.bus_terms.specs.Bus.{bus_deliveries, frames_of, ranks_of, state_at}
use Rattle.bus_terms.specs.FloodOfText.{ids}
use Rattle.bus_terms.specs.Fates.{all_latencies, is_latency, latency_of, latency_since, packet_delivered, put_of, queues, streams}
use Rattle.scenario_text.specs.OverLines.{IsOverScenario, over}
use Rattle.bus_terms.specs.Packets.{bus_puts, put_at, put_by, queued_packet}
use Rattle.bus_terms.specs.Rounds.{delivery_in_slot, round_deliveries, round_plan, slot_deliveries, slots_of}
use Rattle.bus_terms.specs.declared.packets.Latency.{Latency}
use Rattle.bus_terms.specs.declared.packets.PacketId.{PacketId}
use Rattle.bus_terms.specs.declared.packets.PutLine.{PutLine}
use Rattle.bus_terms.proofs.SamePackets.{same_packet}
use Rattle.packet_fates.proofs.LatencyOrders.{same_latency}
use Rattle.packet_fates.proofs.OrderedLatencies.{latency}

-- ---- lists
from_enumerated : {X : Type 0} (n : ℕ) (xs : List X) (e : ℕ × X) → Contains (enumerate_from n xs) e → Contains xs e.1
from_enumerated n [] e there = absurd (not_in_none e there)
from_enumerated n (x ∷ xs) e there =
    elim (contains_cases (n, x) (enumerate_from (n + 1) xs) e there) [
      | inl same ↦ subst (λ (y : _). Contains (x ∷ xs) y) (ap (λ (p : ℕ × _). p.1) same) (contains_head x xs)
      | inr later ↦ contains_tail x xs e.1 (from_enumerated (n + 1) xs e later)
    ]

found_in : {X : Type 0} (p : X → Bool) (xs : List X) (x : X) → find p xs ≡ Some x → Contains xs x × (p x ≡ true)
found_in p [] x is = cc
found_in p (y ∷ ys) x is = by_test (p y) refl is (λ later. found_in p ys x later)
  where
    by_test : (b : Bool) → p y ≡ b → cond b (Some y) (find p ys) ≡ Some x → (find p ys ≡ Some x → Contains ys x × (p x ≡ true))
        → Contains (y ∷ ys) x × (p x ≡ true)
    by_test true passes is rest = let same : y ≡ x = cc in (subst (Contains (y ∷ ys)) same (contains_head y ys), ap p (sym same) ∙ passes)
    by_test false passes is rest = let there = rest is in (contains_tail y ys x there.0, there.1)

counted_some : {X : Type 0} (p : X → Bool) (xs : List X) → 0 < count_by p xs → (x : X) × Contains xs x × (p x ≡ true)
counted_some p xs some = by_kept (filter p xs) refl
  where
    by_kept : (ys : List _) → filter p xs ≡ ys → (x : _) × Contains xs x × (p x ≡ true)
    by_kept [] is = absurd (omega (arith, some, length-filter p xs, ap length is))
    by_kept (y ∷ ys) is = let kept = filtered p xs y (subst (λ (l : List _). Contains l y) (sym is) (contains_head y ys)) in (y, kept.0, kept.1)

-- ---- where a delivery is made
given_by : (v f rank j : ℕ) (d : Delivery) (o : Option Data) → option_map (delivery_of v f rank j) o ≡ Some d → (f ≡ d.frame) × (v ≡ d.node)
given_by v f rank j d None is = cc
given_by v f rank j d (Some x) is = let same : delivery_of v f rank j x ≡ d = cc in (ap (λ (e : Delivery). e.frame) same, ap (λ (e : Delivery). e.node) same)

module _ (s : ScenarioParts) where
  in_round : (rank f : ℕ) (d : Delivery) (o : Option Plan)
      → Contains (option_map_or (λ p. flat_map (slot_deliveries s rank f p (state_at s f)) (slots_of p)) o []) d → (f ≡ d.frame) × Contains (ids s.nodes) d.node
  in_round rank f d None there = absurd (not_in_none d there)
  in_round rank f d (Some p) there =
      let slot = from_flat (slot_deliveries s rank f p (state_at s f)) (slots_of p) d there in
      let node = filter_from (delivery_in_slot s rank f p (state_at s f) slot.0) (ids s.nodes) d slot.2 in
      let made = given_by node.0 f rank slot.0 d _ node.2 in
      (made.0, subst (Contains (ids s.nodes)) made.1 node.1)

  pub made_in : (d : Delivery) → Contains (bus_deliveries s) d → (d.frame < s.frames) × Contains (ids s.nodes) d.node
  made_in d there =
      let frame = from_flat (λ f. flat_map (λ rank. round_deliveries s rank f (state_at s f)) (ranks_of s)) (frames_of s) d there in
      let rank = from_flat (λ rank. round_deliveries s rank frame.0 (state_at s frame.0)) (ranks_of s) d frame.2 in
      let made = in_round rank.0 frame.0 d (round_plan s rank.0 frame.0 (state_at s frame.0)) rank.2 in
      let below = from_range 0 s.frames frame.0 frame.1 in
      (omega (arith, below.1, made.0), made.1)

-- ---- who puts a packet
queued_by : (x : PacketId) (v i : ℕ) (state : State) → queues x (queued_packet v i state) ≡ true → (x.node ≡ v) × (x.stream ≡ i)
queued_by x v i (StateOff boots) is = absurd (false≢true is)
queued_by x v i (StateOn c) is =
    let y : PacketId = record { node = v; boot = c.boot; stream = i; seq = (stream_at c.streams i).next } in
    cond_both (drops c.streams i) None (Some y) (λ (o : Option PacketId). queues x o ≡ true → (x.node ≡ v) × (x.stream ≡ i))
    (λ dropped is. absurd (false≢true is))
    (λ queued is. let same = same_packet x y is in (ap (λ (z : PacketId). z.node) same, ap (λ (z : PacketId). z.stream) same))
    is

module _ (s : ScenarioParts) (said : IsOverScenario s) where
  by_act : (l : ScriptLine) (a : Act) (state : State) (p : PutLine) (x : PacketId) → put_by l a state ≡ Some p → knows s.nodes l.node ≡ true → IsAct s.profile a
      → queues x p.packet ≡ true → Contains (ids s.nodes) x.node × Contains streams x.stream
  by_act l On state p x is known act queued = cc
  by_act l Off state p x is known act queued = cc
  by_act l (Declare i interval) state p x is known act queued = cc
  by_act l (Leave i) state p x is known act queued = cc
  by_act l (Put i payload) state p x is known act queued =
      let put : PutLine = record { frame = l.frame; node = l.node; stream = i; packet = queued_packet l.node i state } in
      let same : put ≡ p = cc in
      let of = queued_by x l.node i state (ap (λ (q : PutLine). queues x q.packet) same ∙ queued) in (
        subst (Contains (ids s.nodes)) (sym of.0) (known_there s.nodes l.node known),
        subst (Contains streams) (sym of.1)
            (in_range 0 4 i (omega arith) (let few = act.0 in omega (arith, few))),
      )

  put_in : (p : PutLine) (x : PacketId) → Contains (bus_puts s) p → queues x p.packet ≡ true → Contains (ids s.nodes) x.node × Contains streams x.stream
  put_in p x there queued =
      let at = filter_from (put_at s) (enumerate_from 0 s.script) p there in
      let l = at.0.1 in
      let line = All-contains (IsScriptLine (over s said.0)) s.script l (sound (over s said.0) said.1).script (from_enumerated 0 s.script at.0 at.1) in
      by_act l l.act _ p x at.2 line.known line.act queued

  late_by : (d : Delivery) (a : Latency) (o : Option PutLine) → put_of s (packet_delivered d) ≡ o → option_map (latency_since d) o ≡ Some a
      → Contains (bus_deliveries s) d
      → (Contains (ids s.nodes) a.node × Contains streams a.stream × Contains (ids s.nodes) a.at) × (a.frames < s.frames)
  late_by d a None found is there = cc
  late_by d a (Some p) found is there =
      let same : latency_since d p ≡ a = cc in
      let made = made_in s d there in
      let at = found_in (λ (p : PutLine). queues (packet_delivered d) p.packet) (bus_puts s) p found in
      let put = put_in p (packet_delivered d) at.0 at.1 in
      subst (λ (b : Latency). (Contains (ids s.nodes) b.node × Contains streams b.stream × Contains (ids s.nodes) b.at) × (b.frames < s.frames)) same
      ((put.0, put.1, made.1), (let early = made.0 in omega (arith, early)))

  -- all that came of some deliveries of the bus are among those that may be
  pub among_all : (ds : List Delivery) → ((d : Delivery) → Contains ds d → Contains (bus_deliveries s) d) → (a : Latency)
      → 0 < count_by (is_latency a) (filter_map (latency_of s) ds) → Contains (all_latencies s) a
  among_all ds among a some =
      let came = counted_some (is_latency a) (filter_map (latency_of s) ds) some in
      let same = same_latency a came.0 came.2 in
      let of = filter_from (latency_of s) ds came.0 came.1 in
      let within = late_by of.0 came.0 (put_of s (packet_delivered of.0)) refl of.2 (among of.0 of.1) in
      let b = came.0 in
      let frames = map_contains (latency b.node b.stream b.at) (frames_of s) b.frames
      (in_range 0 s.frames b.frames (omega arith) (let few = within.1 in omega (arith, few))) in
      let receivers = in_flat (λ w. map (latency b.node b.stream w) (frames_of s)) (ids s.nodes) b.at b within.0.2 frames in
      let all_streams = in_flat (λ i. flat_map (λ w. map (latency b.node i w) (frames_of s)) (ids s.nodes)) streams b.stream b within.0.1 receivers in
      let all = in_flat (λ v. flat_map (λ i. flat_map (λ w. map (latency v i w) (frames_of s)) (ids s.nodes)) streams)
      (ids s.nodes) b.node b within.0.0 all_streams in
      subst (Contains (all_latencies s)) (sym same) all
