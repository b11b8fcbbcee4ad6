-- The world of a flood after a transmission starts.
use Rattle.std.proofs.Common.{◌≡◌, ◌≢◌, ℕ, ◌+◌, ◌<◌, ◌⊎◌, List, [], ◌∷◌, ◌++◌, true, option_map, inl, inr, refl, sym, ◌∙◌, ap, subst, arith}
use Rattle.std.specs.Prelude.{Contains, AllPairs}
use Rattle.std.specs.Option.{IfSome}
use Rattle.std.proofs.lemmas.Bool.{cases_eq}
use Rattle.std.proofs.lemmas.List.{append-nil}
use Rattle.tick_clock.specs.Clocks.{due}
use Rattle.scenario_text.specs.FloodParts.{FloodParts}
use Rattle.radio_model.specs.declared.sending.Sending.{Sending}
use Rattle.radio_model.specs.OnAir.{Tuning}
use Rattle.radio_model.specs.Stations.{IsMedium, station_after_start}
use Rattle.radio_model.proofs.Changes.{started_keeps}
use Rattle.radio_model.proofs.OneStation.{same_nodes, changed_station, other_station}
use Rattle.lwb_base.proofs.Elements.{in_filter as filter_contains, not_in_none}
use Rattle.air_log.specs.declared.entry.Entry.{Entry}
use Rattle.air_log.specs.declared.entry.Entry.TheVariants.{Sent}
use Rattle.air_log.specs.Entries.{sending_in, sendings_of, tunings_of, HasHeardEntry}
use Rattle.air_log.specs.NodeEvents.{Event, Ended, sending_of_event, EventsInOrder}
use Rattle.air_log.specs.FloodLaw.{START, first_packet, sending_at, tuning_by}
use Rattle.lwb_flood.specs.declared.member.Act.{Act}
use Rattle.lwb_flood.specs.declared.member.Act.TheVariants.{Listens, Waits, Sends, Off}
use Rattle.lwb_flood.specs.declared.member.Member.{Member}
use Rattle.lwb_flood.specs.FloodLog.{HasClocks}
use Rattle.lwb_flood.specs.FloodWorlds.{World, node_of_member, moment_of, NotAfter, ActsNext, member_with_act, world_after_start}
use Rattle.lwb_flood.proofs.WorldLists.{each_changed, same_there, nodes_kept, events_sent_other, pairs_push, in_order_push}
use Rattle.air_log.proofs.LoggedEntries.{tunings_sent}
use Rattle.lwb_flood.proofs.FloodSoFar.{running, IsWaiting, Stands, IsAnswered, IsMember, WasHeard, WasTuned, WaitsToBegin, IsFloodSoFar}
use Rattle.lwb_flood.proofs.ActsTold.{waits_off, same_waits}
use Rattle.lwb_flood.proofs.NodesAndStations.{one_member}
use Rattle.lwb_flood.proofs.SendingBegun.{started_is, not_before, ends_later, new, over_still, heard_same, begun_before, happened_here, silent, tuned, its_next}
use Rattle.lwb_flood.proofs.SendingBegun.{holds, each_sent}
use Rattle.lwb_flood.proofs.SendingBegun as SendingBegun

module _ (f : FloodParts) (clocks : ℕ → ℕ → ℕ) (has : HasClocks f clocks) (w : World) (medium : IsMedium w.medium) (so : IsFloodSoFar f clocks [] [] w)
    (m : Member) (there : Contains w.members m) (t : ℕ) (packet : List ℕ) (act : m.act ≡ Waits t packet) (next : ActsNext w.members m) where
  abbrev x : Sending
  x = sending_at m.node t packet

  abbrev behind : World
  behind = world_after_start x w

  abbrev is : IsMember f clocks [] w m
  is = SendingBegun.is f clocks has w medium so m there t packet act next

  abbrev waits : IsWaiting f clocks w is.past m t packet
  waits = SendingBegun.waits f clocks has w medium so m there t packet act next

  abbrev lasts : x.end ≡ t + 32768
  lasts = SendingBegun.lasts f clocks has w medium so m there t packet act next

  abbrev sent_cases : (P : Sending → Type 0) → ((y : Sending) → Contains (sendings_of w.air) y → P y) → P x → (y : Sending)
      → Contains (sendings_of behind.air) y → P y
  sent_cases = SendingBegun.sent_cases f clocks has w medium so m there t packet act next

  abbrev sent_old : (y : Sending) → Contains (sendings_of w.air) y → Contains (sendings_of behind.air) y
  sent_old = SendingBegun.sent_old f clocks has w medium so m there t packet act next

  abbrev sent_new : Contains (sendings_of behind.air) x
  sent_new = SendingBegun.sent_new f clocks has w medium so m there t packet act next

  -- the node that sends
  own_order : EventsInOrder (is.past ++ Ended x ∷ [])
  own_order =
      in_order_push is.past (Ended x)
      (subst (λ (l : List Event). EventsInOrder l) (ap (λ (a : Act). is.past ++ running a) act ∙ append-nil is.past) is.in_order) (λ d in_it.
      let over = is.over d in_it in
      let later = waits.later in (
        omega (arith, over, later, lasts),
        λ same. (let end : (sending_of_event d).end ≡ x.end = ap (λ (e : Event). (sending_of_event e).end) same in omega (arith, over, later, lasts, end)),
      ))

  own_answered : IsAnswered f (clocks m.node) behind is.past (member_with_act (Sends x) m)
  own_answered h s p occasion answer =
      elim (is.answered h s p occasion answer) [
        | inl sent ↦ inl (sent_old (sending_at m.node (due (clocks m.node) (clocks m.node h.end + 12288)) p) sent)
        | inr about ↦ inl (now (due (clocks m.node) (clocks m.node h.end + 12288)) (sym act ∙ about))
      ]
    where
      now : (u : ℕ) → Waits t packet ≡ Waits u p → Contains (sendings_of behind.air) (sending_at m.node u p)
      now u same = subst (λ (y : Sending). Contains (sendings_of behind.air) y) (same_waits m.node t u packet p same) sent_new

  own_member : IsMember f clocks [] behind (member_with_act (Sends x) m)
  own_member = record {
    known = is.known;
    station = station_after_start w.medium.numbers t packet is.station;
    found = changed_station w.medium t m.node (station_after_start w.medium.numbers t packet) (started_keeps w.medium.numbers t packet).node
        ∙ ap (option_map (station_after_start w.medium.numbers t packet)) is.found;
    tuned = tuned f clocks has w medium so m there t packet act next;
    sends = started_is w.medium.numbers t packet is.station x (silent f clocks has w medium so m there t packet act next)
        (its_next f clocks has w medium so m there t packet act next);
    past = is.past;
    happened = happened_here f clocks has w medium so m there t packet act next;
    in_order = own_order;
    over = λ e in_it. (let over = is.over e in_it in let later = waits.later in omega (arith, over, later));
    flood = is.flood;
    stands = record {
      waits = waits.waits;
      left = waits.left;
      own = refl;
      sent = sent_new;
      later = omega (arith, lasts);
      begun = sent_cases (λ y. y.start < x.end)
          (λ y in_it. let early = begun_before f clocks has w medium so m there t packet act next y in_it in omega (arith, early, lasts))
          (omega (arith, lasts));
    };
    answered = own_answered;
  }

  -- each other node
  module _ (n : Member) (in_it : Contains w.members n) (other : n.node ≢ m.node) where
    its : IsMember f clocks [] w n
    its = so.each n in_it

    stands_still : (a : Act) → n.act ≡ a → Stands f clocks w [] its.past n a → Stands f clocks behind [] its.past n a
    stands_still Listens same stands = record { waits = stands.waits; left = stands.left }
    stands_still (Waits u p) same stands = record {
      waits = stands.waits;
      left = stands.left;
      later = (let k = subst (λ (a : Act). IfSome (moment_of a) (λ l. NotAfter (t, true) l)) same
          (not_before f clocks has w medium so m there t packet act next n in_it) in elim k [ inl less ↦ omega (arith, less) | inr at ↦ omega (arith, at.0) ]);
      step = stands.step;
      cause = stands.cause;
    }
    stands_still (Sends y) same stands =
        let later = ends_later f clocks has w medium so m there t packet act next n y in_it same in
        record {
          waits = stands.waits;
          left = stands.left;
          own = stands.own;
          sent = sent_old y stands.sent;
          later = omega (arith, later);
          begun = sent_cases (λ z. z.start < y.end) stands.begun later;
        }
    stands_still Off same stands = record {
      waits = stands.waits;
      over = elim stands.over [ inl last ↦ inl last | inr late ↦ inr (let later = waits.later in omega (arith, late, later)) ];
      tuned = subst (λ (l : List Tuning). Contains l (tuning_by f.sends n.node its.past)) (sym (tunings_sent w.air x)) stands.tuned;
    }

    other_member : IsMember f clocks [] behind n
    other_member = record {
      known = its.known;
      station = its.station;
      found = other_station w.medium t m.node (station_after_start w.medium.numbers t packet) (started_keeps w.medium.numbers t packet).node n.node other
          ∙ its.found;
      tuned = its.tuned;
      sends = its.sends;
      past = its.past;
      happened = events_sent_other w.air x n.node (λ same. other (sym same)) ∙ its.happened;
      in_order = its.in_order;
      over = λ e before. (let over = its.over e before in let later = waits.later in omega (arith, over, later));
      flood = its.flood;
      stands = stands_still n.act refl its.stands;
      answered = λ h s p occasion answer. elim (its.answered h s p occasion answer) [
        | inl sent ↦ inl (sent_old (sending_at n.node (due (clocks n.node) (clocks n.node h.end + 12288)) p) sent)
        | inr about ↦ inr about
      ];
    }

  its_own : (n : Member) → Contains w.members n → n.node ≡ m.node → IsMember f clocks [] behind (member_with_act (Sends x) n)
  its_own n in_it node = subst (λ (k : Member). IsMember f clocks [] behind (member_with_act (Sends x) k))
      (one_member f clocks has [] [] w medium so m n there in_it (sym node)) own_member

  each_member : (n : Member) → Contains behind.members n → IsMember f clocks [] behind n
  each_member = each_changed m.node (member_with_act (Sends x)) w.members (λ n. IsMember f clocks [] behind n) its_own other_member

  -- the log
  heard_still : (v : ℕ) (y : Sending) → HasHeardEntry behind.air v y → WasHeard f behind v y
  heard_still v y in_it =
      let h = so.heard v y (heard_same f clocks has w medium so m there t packet act next v y in_it) in
      record { known = h.known; sent = sent_old y h.sent; over = over_still f clocks has w medium so m there t packet act next y h.sent h.over }

  tuned_still : (u : Tuning) → Contains (tunings_of behind.air) u → WasTuned f behind u
  tuned_still u in_it =
      let g = so.tunings u (subst (λ (l : List Tuning). Contains l u) (tunings_sent w.air x) in_it) in
      let other : g.member.node ≢ m.node = λ node. waits_off t packet
      (sym act ∙ ap (λ (k : Member). k.act) (one_member f clocks has [] [] w medium so m g.member there g.there (sym node)) ∙ g.off) in
      record {
        member = g.member;
        there = same_there m.node (member_with_act (Sends x)) w.members g.member g.there other;
        node = g.node;
        off = g.off;
        is = g.is ∙ ap (tuning_by f.sends u.node) (sym (events_sent_other w.air x u.node (λ same. other (g.node ∙ sym same))));
      }

  once_still : AllPairs (λ d e. d ≢ e) behind.air
  once_still = pairs_push (λ d e. d ≢ e) w.air (Sent x) so.once
      (λ e in_it same. new f clocks has w medium so m there t packet act next
      (filter_contains sending_in w.air (Sent x) x (subst (λ (d : Entry). Contains w.air d) same in_it) refl))

  begins_still : Contains (sendings_of behind.air) (sending_at f.start START (first_packet f.start)) ⊎ WaitsToBegin f behind
  begins_still = elim so.begins [
    | inl sent ↦ inl (sent_old (sending_at f.start START (first_packet f.start)) sent)
    | inr begins ↦ by_node begins (cases_eq begins.member.node m.node)
  ]
    where
      now : (u v : ℕ) (p : List ℕ) → m.node ≡ v → Waits t packet ≡ Waits u p → Contains (sendings_of behind.air) (sending_at v u p)
      now u v p node same =
          subst (λ (y : Sending). Contains (sendings_of behind.air) y)
          (same_waits m.node t u packet p same ∙ ap (λ (k : ℕ). sending_at k u p) node) sent_new

      by_node : (b : WaitsToBegin f w) → (b.member.node ≡ m.node) ⊎ (b.member.node ≢ m.node)
          → Contains (sendings_of behind.air) (sending_at f.start START (first_packet f.start)) ⊎ WaitsToBegin f behind
      by_node b (inl node) =
          let same = one_member f clocks has [] [] w medium so m b.member there b.there (sym node) in
          inl (now START f.start (first_packet f.start) (ap node_of_member same ∙ b.node) (sym act ∙ ap (λ (k : Member). k.act) same ∙ b.act))
      by_node b (inr other) = inr (record {
        member = b.member;
        there = same_there m.node (member_with_act (Sends x)) w.members b.member b.there other;
        node = b.node;
        act = b.act;
      })

  pub begun_keeps : IsFloodSoFar f clocks [] [] (world_after_start (sending_at m.node t packet) w)
  begun_keeps = record {
    nodes = nodes_kept m.node (member_with_act (Sends x)) (λ n. refl) w.members ∙ so.nodes;
    stations = same_nodes w.medium t m.node (station_after_start w.medium.numbers t packet) (started_keeps w.medium.numbers t packet).node ∙ so.stations;
    numbers = so.numbers;
    since = (let since = so.since in let later = waits.later in omega (arith, since, later));
    holds = holds f clocks has w medium so m there t packet act next;
    each = each_member;
    sent = each_sent f clocks has w medium so m there t packet act next;
    heard = heard_still;
    due_now = λ h in_it. absurd (not_in_none h in_it);
    due_once = tt;
    tunings = tuned_still;
    once = once_still;
    begins = begins_still;
  }
