-- The flood so far stays one when a node goes off.
use Rattle.std.proofs.Common.{◌≡◌, ◌≢◌, ℕ, ◌+◌, ◌-◌, ◌*◌, ◌<◌, ◌≤◌, ◌⊎◌, List, [], ◌++◌, Option, None, IfSome, option_map, inl, inr, refl, sym, ◌∙◌, ap, subst}
use Rattle.std.proofs.Common.{arith, length, get_or}
use Rattle.std.specs.Prelude.{Contains, AllPairs, ◌↔◌}
use Rattle.std.proofs.lemmas.List.{append-nil}
use Rattle.std.proofs.lemmas.List.Elements.{Contains-push_cases}
use Rattle.scenario_text.specs.FloodParts.{FloodParts}
use Rattle.radio_model.specs.declared.sending.Sending.{Sending}
use Rattle.radio_model.specs.declared.station.Station.{Station}
use Rattle.radio_model.specs.OnAir.{Hearing, Tuning}
use Rattle.radio_model.specs.Hearing.{Scene, HearsInScene}
use Rattle.radio_model.specs.Stations.{IsMedium, station_after_tuning}
use Rattle.radio_model.specs.Holding.{Agree, as_it_stands}
use Rattle.lwb_base.proofs.Elements.{in_filter}
use Rattle.radio_model.proofs.OneStation.{same_nodes, changed_station, other_station}
use Rattle.radio_model.proofs.Changes.{retuned_keeps}
use Rattle.radio_model.proofs.Settled.{settled}
use Rattle.radio_model.proofs.Agreement.{agree_on, agree_earlier}
use Rattle.radio_model.proofs.NothingBefore.{by_tuning, by_waiting}
use Rattle.air_log.specs.Entries.{tuning_in, sendings_of, tunings_of, HasHeardEntry}
use Rattle.air_log.specs.NodeEvents.{Event, EventsInOrder, own_ends}
use Rattle.air_log.specs.FloodLaw.{OPENING, START, CLOSING, first_packet, tuning_by, sending_at}
use Rattle.lwb_flood.specs.declared.member.Act.{Act}
use Rattle.lwb_flood.specs.declared.member.Act.TheVariants.{Listens, Waits, Sends, Off}
use Rattle.lwb_flood.specs.declared.member.Member.{Member}
use Rattle.lwb_flood.specs.FloodLog.{HasClocks}
use Rattle.lwb_flood.specs.FloodWorlds.{World, moment_of, member_with_act, flood_tuned_entry, gone}
use Rattle.lwb_flood.proofs.FloodSoFar.{scene, standing, events_in, running, sending_by, HasCause, IsListening, Stands, IsMember, Runs, IsSettled, IsSent}
use Rattle.lwb_flood.proofs.FloodSoFar.{WasHeard, IsDue, WasTuned, WaitsToBegin, IsFloodSoFar}
use Rattle.lwb_flood.proofs.WorldLists.{each_changed, changed_there, nodes_kept, tunings_tuned, events_tuned, pairs_push}
use Rattle.lwb_flood.proofs.NodeGone.{gone_runs_back, heard_on, tuned_on, tuned_new, next_scene, still_holds}
use Rattle.lwb_flood.proofs.NodeGone as NodeGone

module _ (f : FloodParts) (clocks : ℕ → ℕ → ℕ) (is : HasClocks f clocks) (todo : List Hearing) (leaving : List ℕ) (w : World)
    (medium : IsMedium w.medium) (so : IsFloodSoFar f clocks todo leaving w)
    (m : Member) (only : (u : ℕ) → Contains leaving u → u ≡ m.node) (there : Contains w.members m) (act : m.act ≡ Listens)
    (t : ℕ) (later : w.medium.now ≤ t) (opened : OPENING < t)
    (none_before : (n : Member) → Contains w.members n → IfSome (moment_of n.act) (λ l. t ≤ l.0)) (due : (h : Hearing) → Contains todo h → t ≡ w.medium.now)
    (end_is : get_or (own_ends (events_in w.air m.node)) (f.sends - 1) CLOSING ≡ t) (why : (m.flood.sent ≡ m.flood.limit) ⊎ (CLOSING ≤ t)) where
  abbrev next : World
  next = gone m.node t w

  abbrev span_until : ℕ → Tuning
  span_until end = record { rank = 0; node = m.node; start = OPENING; end = end }

  abbrev span : Tuning
  span = span_until t

  abbrev old : IsMember f clocks leaving w m
  old = NodeGone.old f clocks is todo leaving w medium so m only there act t later opened none_before due end_is why

  abbrev one : (n : Member) → Contains w.members n → n.node ≡ m.node → n ≡ m
  one = NodeGone.one f clocks is todo leaving w medium so m only there act t later opened none_before due end_is why

  abbrev still_there : (n : Member) → Contains w.members n → (n.act ≡ Listens → ⊥) → Contains next.members n
  still_there = NodeGone.still_there f clocks is todo leaving w medium so m only there act t later opened none_before due end_is why

  abbrev sent_on : (y : Sending) → Contains (sendings_of w.air) y → Contains (sendings_of next.air) y
  sent_on = NodeGone.sent_on f clocks is todo leaving w medium so m only there act t later opened none_before due end_is why

  abbrev sent_back : (y : Sending) → Contains (sendings_of next.air) y → Contains (sendings_of w.air) y
  sent_back = NodeGone.sent_back f clocks is todo leaving w medium so m only there act t later opened none_before due end_is why

  abbrev heard_back : (u : ℕ) (y : Sending) → HasHeardEntry next.air u y → HasHeardEntry w.air u y
  heard_back = NodeGone.heard_back f clocks is todo leaving w medium so m only there act t later opened none_before due end_is why

  -- who sends
  runs_on : (y : Sending) → Runs w y → Runs next y
  runs_on y r = record { member = r.member; there = still_there r.member r.there (λ listens. sends_not (sym r.act ∙ listens)); act = r.act }
    where
      sends_not : Sends y ≡ Listens → ⊥
      sends_not same = cc

  -- how each node is
  other : (n : Member) → Contains w.members n → n.node ≢ m.node → IsMember f clocks [] next n
  other n in_it not =
      let each = so.each n in_it in
      record {
        known = each.known;
        station = each.station;
        found = other_station w.medium t m.node (station_after_tuning None t) (retuned_keeps None t).node n.node not ∙ each.found;
        tuned = each.tuned;
        sends = each.sends;
        past = each.past;
        happened = events_tuned w.air m.node t n.node ∙ each.happened;
        in_order = each.in_order;
        over = λ e known. (let by = each.over e known in omega arith);
        flood = each.flood;
        stands = by_act each.past n.act (none_before n in_it) each.stands;
        answered = λ h s p occasion answer. elim (each.answered h s p occasion answer) [ inl sent ↦ inl (sent_on _ sent) | inr waits ↦ inr waits ];
      }
    where
      by_act : (past : List Event) (a : Act) → IfSome (moment_of a) (λ l. t ≤ l.0) → Stands f clocks w leaving past n a → Stands f clocks next [] past n a
      by_act past Listens first s = record { waits = s.waits; left = elim s.left [ inl less ↦ inl less | inr leaves ↦ absurd (not (only n.node leaves)) ] }
      by_act past (Waits k p) first s = record { waits = s.waits; left = s.left; later = first; step = s.step; cause = s.cause }
      by_act past (Sends y) first s = record {
        waits = s.waits;
        left = s.left;
        own = s.own;
        sent = sent_on y s.sent;
        later = first;
        begun = λ z known. s.begun z (sent_back z known);
      }
      by_act past Off first s = record {
        waits = s.waits;
        over = elim s.over [ inl all ↦ inl all | inr late ↦ inr (omega arith) ];
        tuned = tuned_on f clocks is todo leaving w medium so m only there act t later opened none_before due end_is why _ s.tuned;
      }

  itself : IsMember f clocks [] next (member_with_act Off m)
  itself = record {
    known = old.known;
    station = station_after_tuning None t old.station;
    found = changed_station w.medium t m.node (station_after_tuning None t) (retuned_keeps None t).node
        ∙ ap (λ (o : Option Station). option_map (station_after_tuning None t) o) old.found;
    tuned = refl;
    sends = old.sends ∙ ap sending_by act;
    past = old.past;
    happened = events_tuned w.air m.node t m.node ∙ past_is;
    in_order = subst (λ (a : Act). EventsInOrder (old.past ++ running a)) act old.in_order;
    over = λ e known. (let by = old.over e known in omega arith);
    flood = old.flood;
    stands = record {
      waits = listened.waits;
      over = why;
      tuned = subst (λ (k : Tuning). Contains (tunings_of next.air) k)
          (ap span_until (sym end_is ∙ ap (λ (es : List Event). get_or (own_ends es) (f.sends - 1) CLOSING) (past_is ∙ append-nil old.past)))
          (tuned_new f clocks is todo leaving w medium so m only there act t later opened none_before due end_is why);
    };
    answered = λ h s p occasion answer. elim (old.answered h s p occasion answer) [
      | inl sent ↦ inl (sent_on _ sent)
      | inr waits ↦ absurd (not_waiting _ p (sym act ∙ waits))
    ];
  }
    where
      past_is : events_in w.air m.node ≡ old.past ++ []
      past_is = old.happened ∙ ap (λ (a : Act). old.past ++ running a) act

      listened : IsListening leaving m
      listened = subst (λ (a : Act). Stands f clocks w leaving old.past m a) act old.stands

      not_waiting : (k : ℕ) (q : List ℕ) → Listens ≡ Waits k q → ⊥
      not_waiting k q same = cc

  each_member : (n : Member) → Contains next.members n → IsMember f clocks [] next n
  each_member = each_changed m.node (member_with_act Off) w.members (IsMember f clocks [] next)
      (λ n in_it at. subst (λ (k : Member). IsMember f clocks [] next (member_with_act Off k)) (sym (one n in_it at)) itself) other

  each_heard : (u : ℕ) (y : Sending) → HasHeardEntry next.air u y → WasHeard f next u y
  each_heard u y known = let h = so.heard u y (heard_back u y known) in record {
    known = h.known;
    sent = sent_on y h.sent;
    over = λ r. h.over (gone_runs_back m.node t w y r);
  }

  each_due : (h : Hearing) → Contains todo h → IsDue next h
  each_due h in_it =
      let d = so.due_now h in_it in
      record {
        sent = sent_on h.sending d.sent;
        now = d.now ∙ sym (due h in_it);
        begun = λ y sent. d.begun y (sent_back y sent);
        new = λ known. d.new (heard_back h.node h.sending known);
      }

  -- a tuning is that of a node that is off
  was_tuned : (k : Tuning) → WasTuned f w k → WasTuned f next k
  was_tuned k d = record {
    member = d.member;
    there = still_there d.member d.there (λ listens. off_not (sym d.off ∙ listens));
    node = d.node;
    off = d.off;
    is = d.is ∙ ap (λ (es : List Event). tuning_by f.sends k.node es) (sym (events_tuned w.air m.node t k.node));
  }
    where
      off_not : Off ≡ Listens → ⊥
      off_not same = cc

  now_tuned : WasTuned f next span
  now_tuned = record {
    member = member_with_act Off m;
    there = changed_there m.node (member_with_act Off) w.members m there refl;
    node = refl;
    off = refl;
    is = ap span_until (sym end_is ∙ ap (λ (es : List Event). get_or (own_ends es) (f.sends - 1) CLOSING) (sym (events_tuned w.air m.node t m.node)));
  }

  each_tuning : (k : Tuning) → Contains (tunings_of next.air) k → WasTuned f next k
  each_tuning k known =
      elim (Contains-push_cases (tunings_of w.air) span k (subst (λ (l : List Tuning). Contains l k) (tunings_tuned w.air m.node t) known)) [
        | inl earlier ↦ was_tuned k (so.tunings k earlier)
        | inr new ↦ subst (λ (j : Tuning). WasTuned f next j) new now_tuned
      ]

  -- it goes off for the first time
  not_before : Contains (tunings_of w.air) span → ⊥
  not_before known =
      let d = so.tunings span known in
      off_not (sym d.off ∙ ap (λ (n : Member). n.act) (one d.member d.there d.node) ∙ act)
    where
      off_not : Off ≡ Listens → ⊥
      off_not same = cc

  once_more : AllPairs (λ d e. d ≢ e) next.air
  once_more = pairs_push (λ d e. d ≢ e) w.air (flood_tuned_entry m.node t) so.once
      (λ e in_it same. not_before (in_filter tuning_in w.air e span in_it (ap tuning_in same)))

  begins_on : Contains (sendings_of next.air) (sending_at f.start START (first_packet f.start)) ⊎ WaitsToBegin f next
  begins_on = elim so.begins [
    | inl sent ↦ inl (sent_on (sending_at f.start START (first_packet f.start)) sent)
    | inr b ↦ inr (record { member = b.member; there = still_there b.member b.there (λ listens. waits_not (sym b.act ∙ listens)); node = b.node; act = b.act })
  ]
    where
      waits_not : Waits START (first_packet f.start) ≡ Listens → ⊥
      waits_not same = cc

  -- the same was on the air before
  agree : Agree w.medium.now (standing f w) (standing f next)
  agree =
      agree_on w.medium.now (standing f w) (as_it_stands w.medium t (scene f w)) (standing f next)
      (by_waiting w.medium w.medium.now t (scene f w) later)
      (agree_earlier w.medium.now t (as_it_stands w.medium t (scene f w)) (standing f next) later
      (subst (λ (a : Scene). Agree t (as_it_stands w.medium t (scene f w)) (as_it_stands next.medium t a))
      (next_scene f clocks is todo leaving w medium so m only there act t later opened none_before due end_is why)
      (by_tuning w.medium medium.nodes.ascending (scene f w) so.holds m.node None t later)))

  settled_on : (y : Sending) → y.start < y.end → IsSettled f todo w y → IsSettled f todo next y
  settled_on y lasts s = record {
    ended = (let ended = s.ended in omega arith);
    over = λ r. s.over (gone_runs_back m.node t w y r);
    heard = λ u. (
      λ known. (let rule = (s.heard u).0 (elim known [ inl heard ↦ inl (heard_back u y heard) | inr coming ↦ inr coming ]) in (rule.0, (same u).0 rule.1)),
      λ rule. elim ((s.heard u).1 (rule.0, (same u).1 rule.1)) [
        | inl heard ↦ inl (heard_on f clocks is todo leaving w medium so m only there act t later opened none_before due end_is why u y heard)
        | inr coming ↦ inr coming
      ],
    );
  }
    where
      same : (u : ℕ) → HearsInScene (standing f w) u y ↔ HearsInScene (standing f next) u y
      same u = settled (standing f w) (standing f next) u y lasts (agree_earlier y.end w.medium.now (standing f w) (standing f next) s.ended agree)

  each_sent : (y : Sending) → Contains (sendings_of next.air) y → IsSent f clocks todo next y
  each_sent y known =
      let s = so.sent y (sent_back y known) in
      let last : y.end ≡ y.start + (length y.packet + 8) * 2048 = ap (λ (z : Sending). z.end) s.lasts in
      record {
        known = s.known;
        lasts = s.lasts;
        begun = (let begun = s.begun in omega arith);
        step = s.step;
        cause = subst (λ (es : List Event). HasCause f (clocks y.node) y.node es y.start y.packet) (sym (events_tuned w.air m.node t y.node)) s.cause;
        fate = elim s.fate [ inl runs ↦ inl (runs_on y runs) | inr done ↦ inr (settled_on y (omega (arith, last)) done) ];
      }

  pub gone_keeps : IsFloodSoFar f clocks todo [] (gone m.node t w)
  gone_keeps = record {
    nodes = nodes_kept m.node (member_with_act Off) (λ n. refl) w.members ∙ so.nodes;
    stations = same_nodes w.medium t m.node (station_after_tuning None t) (retuned_keeps None t).node ∙ so.stations;
    numbers = so.numbers;
    since = omega arith;
    holds = still_holds f clocks is todo leaving w medium so m only there act t later opened none_before due end_is why;
    each = each_member;
    sent = each_sent;
    heard = each_heard;
    due_now = each_due;
    due_once = so.due_once;
    tunings = each_tuning;
    once = once_more;
    begins = begins_on;
  }
