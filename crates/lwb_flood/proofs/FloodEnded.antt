-- The world of a flood after a node's transmission ends.
use Rattle.std.proofs.Common.{◌≡◌, ◌≢◌, ℕ, ◌+◌, ◌<◌, ◌≤◌, ◌⊎◌, ◌↔◌, List, [], ◌∷◌, ◌++◌, map, Bool, true, false, if◌then◌else◌, ◌==◌, option_map, inl, inr}
use Rattle.std.proofs.Common.{refl, sym, ◌∙◌, ap, subst, arith, eq-eqb}
use Rattle.std.specs.Prelude.{Contains}
use Rattle.std.specs.Option.{IfSome}
use Rattle.std.proofs.lemmas.Bool.{cases_eq, and_from, cond-true}
use Rattle.std.proofs.lemmas.List.{append-nil}
use Rattle.std.proofs.lemmas.List.Elements.{Contains-push_cases}
use Rattle.tick_clock.specs.Clocks.{due}
use Rattle.glossy_relay.specs.FloodState.{FloodState}
use Rattle.glossy_relay.specs.Relaying.{after_sent}
use Rattle.scenario_text.specs.FloodParts.{FloodParts}
use Rattle.radio_model.specs.declared.sending.Sending.{Sending}
use Rattle.radio_model.specs.OnAir.{Tuning}
use Rattle.radio_model.specs.Hearing.{HearsInScene}
use Rattle.radio_model.specs.Stations.{IsMedium, nodes_of, station_of, station_after_end}
use Rattle.radio_model.specs.Holding.{as_it_stands}
use Rattle.radio_model.proofs.Changes.{finished_keeps}
use Rattle.radio_model.proofs.OneStation.{same_nodes, changed_station, other_station}
use Rattle.lwb_base.proofs.Elements.{any_of, not_in_none, contains_head, Distinct}
use Rattle.air_log.specs.Entries.{sendings_of, tunings_of, HasHeardEntry}
use Rattle.air_log.specs.NodeEvents.{Event, Heard, Ended, sending_of_event, EventsInOrder, flood_after_events, EventOccasion}
use Rattle.air_log.specs.FloodLaw.{START, first_packet, first_flood, sending_at}
use Rattle.lwb_flood.specs.declared.member.Act.{Act}
use Rattle.lwb_flood.specs.declared.member.Act.TheVariants.{Listens, Waits, Sends, Off}
use Rattle.lwb_flood.specs.declared.member.Member.{Member}
use Rattle.lwb_flood.specs.FloodLog.{HasClocks}
use Rattle.lwb_flood.specs.FloodWorlds.{World, moment_of, NotAfter, ActsNext, after_own, is_last_of, is_last, own_ended}
use Rattle.lwb_flood.proofs.ActsTold.{waits_differ, sends_off}
use Rattle.lwb_flood.proofs.EventOrder.{after_all_append}
use Rattle.lwb_flood.proofs.FloodSoFar.{scene, running, tuned_by, IsSending, Stands, IsAnswered, IsMember, WasHeard, WasTuned, WaitsToBegin, IsFloodSoFar}
use Rattle.lwb_flood.proofs.WorldLists.{each_changed, same_there, nodes_kept, occasion_cases}
use Rattle.lwb_flood.proofs.SendingOver.{heard_at, heard_distinct, not_before, no_later, ends_later, found, ran, holds, each_sent, each_due}
use Rattle.lwb_flood.proofs.SendingOver as SendingOver

not_heard : (s t : FloodState) (x y : Sending)
    → (let o : EventOccasion = record { before = s; event = Ended x } in o ≡ record { before = t; event = Heard y }) → ⊥
not_heard s t x y is = no_event (ap (λ (o : EventOccasion). o.event) is)
  where
    no_event : Ended x ≡ Heard y → ⊥
    no_event same = absurd (cc)

-- a transmission that is its node's last makes the node leave
leaving_by : (v : ℕ) (last : Bool) → last ≡ true → Contains (if last then v ∷ [] else []) v
leaving_by v last is = subst (λ (l : List ℕ). Contains l v) (sym (cond-true last (v ∷ []) [] is)) (contains_head v [])

module _ (f : FloodParts) (clocks : ℕ → ℕ → ℕ) (has : HasClocks f clocks) (w : World) (medium : IsMedium w.medium) (so : IsFloodSoFar f clocks [] [] w)
    (m : Member) (there : Contains w.members m) (x : Sending) (act : m.act ≡ Sends x) (next : ActsNext w.members m) where
  abbrev behind : World
  behind = own_ended x w

  abbrev leaving : List ℕ
  leaving = if is_last x.node w.members then x.node ∷ [] else []

  abbrev is : IsMember f clocks [] w m
  is = SendingOver.is f clocks has w medium so m there x act next

  abbrev sends : IsSending w m x
  sends = SendingOver.sends f clocks has w medium so m there x act next

  abbrev is_it : (n : Member) → Contains w.members n → n.node ≡ x.node → n ≡ m
  is_it = SendingOver.is_it f clocks has w medium so m there x act next

  abbrev own_node : x.node ≡ m.node
  own_node = SendingOver.own_node f clocks has w medium so m there x act next

  -- the node that sent
  own_past : List Event
  own_past = is.past ++ Ended x ∷ []

  own_running : is.past ++ running m.act ≡ own_past ++ []
  unfolding own_past
  own_running = ap (λ (a : Act). is.past ++ running a) act ∙ sym (append-nil (is.past ++ Ended x ∷ []))

  own_over : (e : Event) → Contains own_past e → (sending_of_event e).end ≤ x.end
  unfolding own_past
  own_over e in_it =
      elim (Contains-push_cases is.past (Ended x) e in_it) [
        | inl old ↦ (let over = is.over e old in let later = sends.later in omega (arith, over, later))
        | inr now ↦ omega (arith, ap (λ (d : Event). (sending_of_event d).end) now)
      ]

  own_flood : after_sent m.flood ≡ flood_after_events (first_flood f m.node) own_past
  unfolding own_past
  own_flood = ap after_sent is.flood ∙ sym (after_all_append (first_flood f m.node) is.past (Ended x ∷ []))

  last_is : m.flood.sent + 1 ≡ m.flood.limit → is_last x.node w.members ≡ true
  last_is full = any_of (is_last_of x.node) w.members m there
      (and_from (m.node == x.node) (m.flood.sent + 1 == m.flood.limit) (eq-eqb m.node x.node (sym own_node)) (eq-eqb (m.flood.sent + 1) m.flood.limit full))

  own_left : (m.flood.sent + 1 < m.flood.limit) ⊎ Contains leaving m.node
  own_left =
      elim (cases_eq (m.flood.sent + 1) m.flood.limit) [
        | inl full ↦ inr (subst (λ (v : ℕ). Contains leaving v) own_node (leaving_by x.node (is_last x.node w.members) (last_is full)))
        | inr other ↦ inl (let left = sends.left in omega (arith, left, other))
      ]

  own_answered : IsAnswered f (clocks m.node) behind own_past (after_own m)
  unfolding own_past
  own_answered h s p occasion answer =
      elim (occasion_cases (first_flood f m.node) is.past (Ended x) (record { before = s; event = Heard h }) occasion) [
        | inl old ↦ elim (is.answered h s p old answer) [
          | inl sent ↦ inl sent
          | inr about ↦ absurd (waits_differ (due (clocks m.node) (clocks m.node h.end + 12288)) p x (sym about ∙ act))
        ]
        | inr now ↦ absurd (not_heard (flood_after_events (first_flood f m.node) is.past) s x h now)
      ]

  own_member : IsMember f clocks leaving behind (after_own m)
  own_member = record {
    known = is.known;
    station = station_after_end is.station;
    found = ap (station_of behind.medium) (sym own_node) ∙ changed_station w.medium x.end x.node station_after_end finished_keeps.node
        ∙ ap (option_map station_after_end) (found f clocks has w medium so m there x act next);
    tuned = is.tuned ∙ ap tuned_by act;
    sends = refl;
    past = own_past;
    happened = is.happened ∙ own_running;
    in_order = subst EventsInOrder own_running is.in_order;
    over = own_over;
    flood = own_flood;
    stands = record { waits = refl; left = own_left };
    answered = own_answered;
  }

  -- each other node
  module _ (n : Member) (in_it : Contains w.members n) (other : n.node ≢ x.node) where
    its : IsMember f clocks [] w n
    its = so.each n in_it

    stands_still : (a : Act) → n.act ≡ a → Stands f clocks w [] its.past n a → Stands f clocks behind leaving its.past n a
    stands_still Listens same stands = record {
      waits = stands.waits;
      left = elim stands.left [ inl less ↦ inl less | inr none ↦ absurd (not_in_none n.node none) ];
    }
    stands_still (Waits u p) same stands = record {
      waits = stands.waits;
      left = stands.left;
      later = no_later f clocks has w medium so m there x act next u true
          (subst (λ (a : Act). IfSome (moment_of a) (λ l. NotAfter (x.end, false) l)) same (not_before f clocks has w medium so m there x act next n in_it));
      step = stands.step;
      cause = stands.cause;
    }
    stands_still (Sends y) same stands = record {
      waits = stands.waits;
      left = stands.left;
      own = stands.own;
      sent = stands.sent;
      later = ends_later f clocks has w medium so m there x act next n y in_it same;
      begun = stands.begun;
    }
    stands_still Off same stands = record {
      waits = stands.waits;
      over = elim stands.over [ inl last ↦ inl last | inr late ↦ inr (let later = sends.later in omega (arith, late, later)) ];
      tuned = stands.tuned;
    }

    other_member : IsMember f clocks leaving behind n
    other_member = record {
      known = its.known;
      station = its.station;
      found = other_station w.medium x.end x.node station_after_end finished_keeps.node n.node other ∙ its.found;
      tuned = its.tuned;
      sends = its.sends;
      past = its.past;
      happened = its.happened;
      in_order = its.in_order;
      over = λ e before. (let over = its.over e before in let later = sends.later in omega (arith, over, later));
      flood = its.flood;
      stands = stands_still n.act refl its.stands;
      answered = its.answered;
    }

  its_own : (n : Member) → Contains w.members n → n.node ≡ x.node → IsMember f clocks leaving behind (after_own n)
  its_own n in_it node = subst (λ (k : Member). IsMember f clocks leaving behind (after_own k)) (sym (is_it n in_it node)) own_member

  each_member : (n : Member) → Contains behind.members n → IsMember f clocks leaving behind n
  each_member = each_changed x.node after_own w.members (λ n. IsMember f clocks leaving behind n) its_own other_member

  -- the log
  heard_still : (v : ℕ) (y : Sending) → HasHeardEntry w.air v y → WasHeard f behind v y
  heard_still v y in_it = let h = so.heard v y in_it in record {
    known = h.known;
    sent = h.sent;
    over = λ runs. h.over (ran f clocks has w medium so m there x act next y runs).0;
  }

  tuned_still : (u : Tuning) → Contains (tunings_of w.air) u → WasTuned f behind u
  tuned_still u in_it =
      let g = so.tunings u in_it in
      let other : g.member.node ≢ x.node = λ node. sends_off x (sym act ∙ ap (λ (k : Member). k.act) (sym (is_it g.member g.there node)) ∙ g.off) in
      record { member = g.member; there = same_there x.node after_own w.members g.member g.there other; node = g.node; off = g.off; is = g.is }

  begins_still : Contains (sendings_of w.air) (sending_at f.start START (first_packet f.start)) ⊎ WaitsToBegin f behind
  begins_still = elim so.begins [
    | inl sent ↦ inl sent
    | inr b ↦
        let other : b.member.node ≢ x.node = λ node. waits_differ START (first_packet f.start) x
        (sym b.act ∙ ap (λ (k : Member). k.act) (is_it b.member b.there node) ∙ act) in
        inr (record { member = b.member; there = same_there x.node after_own w.members b.member b.there other; node = b.node; act = b.act })
  ]

  pub own_ended_keeps : (vs : List ℕ) → Distinct vs
      → ((v : ℕ) → Contains vs v ↔ (Contains (nodes_of w.medium) v × HearsInScene (as_it_stands w.medium x.end (scene f w)) v x))
      → IsFloodSoFar f clocks (map (heard_at x) vs) (if is_last x.node w.members then x.node ∷ [] else []) (own_ended x w)
  own_ended_keeps vs distinct hear = record {
    nodes = nodes_kept x.node after_own (λ n. refl) w.members ∙ so.nodes;
    stations = same_nodes w.medium x.end x.node station_after_end finished_keeps.node ∙ so.stations;
    numbers = so.numbers;
    since = (let since = so.since in let later = sends.later in omega (arith, since, later));
    holds = holds f clocks has w medium so m there x act next;
    each = each_member;
    sent = each_sent f clocks has w medium so m there x act next vs distinct hear;
    heard = heard_still;
    due_now = each_due f clocks has w medium so m there x act next vs distinct hear;
    due_once = heard_distinct x vs distinct;
    tunings = tuned_still;
    once = so.once;
    begins = begins_still;
  }
