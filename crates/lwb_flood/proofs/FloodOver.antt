-- A flood so far whose nodes are all off is a whole one: its log keeps the law.
use Rattle.std.proofs.Common.{◌≡◌, ◌≢◌, ℕ, ◌+◌, ◌<◌, ◌↔◌, List, [], ◌∷◌, ◌++◌, filter_map, Option, Some, None, Bool, true, false, ◌==◌, if◌then◌else◌, inl, inr}
use Rattle.std.proofs.Common.{refl, sym, ◌∙◌, ap, subst, arith, eqb-true, eq-eqb}
use Rattle.std.specs.Prelude.{Contains, AllPairs}
use Rattle.std.specs.List.{cons_option}
use Rattle.std.proofs.lemmas.Bool.{cond-true}
use Rattle.std.proofs.lemmas.List.{append-nil}
use Rattle.std.proofs.lemmas.Option.{same_Some}
use Rattle.lwb_base.specs.Profile.{one}
use Rattle.link_trace.specs.Masks.{AreNodes}
use Rattle.tick_clock.specs.Clocks.{due}
use Rattle.glossy_relay.specs.Relaying.{counter_of}
use Rattle.scenario_text.specs.FloodParts.{FloodParts, knows}
use Rattle.radio_model.specs.declared.sending.Sending.{Sending}
use Rattle.radio_model.specs.declared.station.Station.{Station}
use Rattle.radio_model.specs.OnAir.{Hearing, Tuning}
use Rattle.radio_model.specs.Hearing.{Scene, HearsInScene}
use Rattle.radio_model.specs.Stations.{nodes_of, station_of, id_of_station as station_node}
use Rattle.radio_model.specs.Holding.{lasting, lasting_at}
use Rattle.radio_model.specs.declared.tuning.Tuned.{Tuned as TunedTo}
use Rattle.lwb_base.proofs.Elements.{in_filter, not_in_none, contains_head, contains_tail, map_contains, map_from, filter_from}
use Rattle.radio_model.proofs.OneCall.{found_member}
use Rattle.air_log.specs.declared.entry.Entry.{Entry}
use Rattle.air_log.specs.declared.entry.Entry.TheVariants.{Sent, Heard as HeardOf, Tuned}
use Rattle.air_log.specs.Entries.{sending_in, hearing_in, tuning_in, sendings_of, tunings_of, node_of_entry as entry_node, HasHeardEntry}
use Rattle.air_log.specs.HearsAir.{HearsAir}
use Rattle.air_log.specs.NodeEvents.{Event, Heard, Ended, EventsInOrder, event_occasions}
use Rattle.air_log.specs.FloodLaw.{FloodLaw, first_flood, AreEventsOf, IsRelay, START, first_packet, sending_at, Lasts, tuning_by}
use Rattle.lwb_flood.specs.declared.member.Act.{Act}
use Rattle.lwb_flood.specs.declared.member.Act.TheVariants.{Off}
use Rattle.lwb_flood.specs.declared.member.Member.{Member}
use Rattle.lwb_flood.specs.FloodLog.{HasClocks}
use Rattle.lwb_flood.specs.FloodWorlds.{World, node_of_member}
use Rattle.lwb_flood.proofs.ActsTold.{waits_off, sends_off}
use Rattle.lwb_flood.proofs.EventsInLog.{ended_event, heard_event, heard_is_not}
use Rattle.lwb_flood.proofs.FloodOpening.{sound_nodes}
use Rattle.lwb_flood.proofs.FloodSoFar.{scene, standing, event_in, events_in, running, tuned_by, IsGone, Stands, Runs, IsSettled, IsFloodSoFar}
use Rattle.scenario_text.proofs.Known.{known_there}

-- the events of a node and the entries of the log
heard_of : (e : Entry) (v : ℕ) (x : Sending) → hearing_in e ≡ Some (record { node = v; sending = x }) → event_in v e ≡ Some (Heard x)
heard_of (Sent s) v x is = absurd (cc)
heard_of (HeardOf h) v x is =
    let same : (let a : Hearing = record {
      node = h.node;
      sending = record { rank = h.rank; node = h.from; start = h.start; end = h.end; packet = h.packet };
    } in a ≡ record { node = v; sending = x }) =
    same_Some _ _ is in
    cond-true (h.node == v) _ _ (eq-eqb h.node v (ap (λ (a : Hearing). a.node) same)) ∙ ap (λ (a : Hearing). Some (Heard a.sending)) same
heard_of (Tuned t) v x is = absurd (cc)

ended_of : (e : Entry) (x : Sending) → sending_in e ≡ Some x → event_in x.node e ≡ Some (Ended x)
ended_of (Sent s) x is =
    let same : s ≡ x = same_Some s x is in
    cond-true (s.node == x.node) _ _ (eq-eqb s.node x.node (ap (λ (a : Sending). a.node) same)) ∙ ap (λ (a : Sending). Some (Ended a)) same
ended_of (HeardOf h) x is = absurd (cc)
ended_of (Tuned t) x is = absurd (cc)

node_if : (n v : ℕ) (b : Bool) (z x : Sending) → (b ≡ true → n ≡ v) → z.node ≡ n → (if b then Some (Ended z) else None) ≡ Some (Ended x) → x.node ≡ v
node_if n v true z x at own is = let same : z ≡ x = cc in ap (λ (a : Sending). a.node) (sym same) ∙ own ∙ at refl
node_if n v false z x at own is = absurd (cc)

ended_node : (e : Entry) (v : ℕ) (x : Sending) → event_in v e ≡ Some (Ended x) → x.node ≡ v
ended_node (Sent s) v x is = node_if s.node v (s.node == v) s x (λ same. eqb-true s.node v same) refl is
ended_node (HeardOf h) v x is =
    absurd (heard_is_not (h.node == v) (record { rank = h.rank; node = h.from; start = h.start; end = h.end; packet = h.packet }) x is)
ended_node (Tuned t) v x is = absurd (cc)

-- no tuning lasts
no_lasting : (t : ℕ) (xs : List Station) → ((st : Station) → Contains xs st → st.tuning.now ≡ None) → filter_map (lasting_at t) xs ≡ []
no_lasting t [] none = refl
no_lasting t (st ∷ xs) none =
    ap (λ (o : Option TunedTo). cons_option (lasting st.node o t) (filter_map (lasting_at t) xs)) (none st (contains_head st xs))
    ∙ no_lasting t xs (λ s there. none s (contains_tail st xs s there))

module _ (f : FloodParts) (clocks : ℕ → ℕ → ℕ) (has : HasClocks f clocks) (w : World) (so : IsFloodSoFar f clocks [] [] w)
    (off : (m : Member) → Contains w.members m → m.act ≡ Off) where
  -- each known node is a member
  member_at : (v : ℕ) → knows f.nodes v ≡ true → (m : Member) × Contains w.members m × (m.node ≡ v)
  member_at v known = map_from node_of_member w.members v (subst (λ (l : List ℕ). Contains l v) (sym so.nodes) (known_there f.nodes v known))

  past_is : (m : Member) (there : Contains w.members m) → events_in w.air m.node ≡ (so.each m there).past
  past_is m there = let each = so.each m there in each.happened ∙ ap (λ (a : Act). each.past ++ running a) (off m there) ∙ append-nil each.past

  gone : (m : Member) (there : Contains w.members m) → IsGone f w (so.each m there).past m
  gone m there = subst (λ (a : Act). Stands f clocks w [] (so.each m there).past m a) (off m there) (so.each m there).stands

  nothing_runs : (x : Sending) → Runs w x → ⊥
  nothing_runs x r = sends_off x (sym r.act ∙ off r.member r.there)

  -- what is is the log
  untuned : (st : Station) → Contains w.medium.stations st → st.tuning.now ≡ None
  untuned st there =
      let m = map_from node_of_member w.members st.node
      (subst (λ (l : List ℕ). Contains l st.node) (so.stations ∙ sym so.nodes) (map_contains station_node w.medium.stations st there)) in
      let each = so.each m.0 m.1 in
      let same : each.station ≡ st = same_Some each.station st
      (sym each.found ∙ ap (station_of w.medium) m.2 ∙ found_member w.medium.stations st ascending there) in
      ap (λ (s : Station). s.tuning.now) (sym same) ∙ each.tuned ∙ ap tuned_by (off m.0 m.1)
    where
      ascending : AllPairs (λ a b. a < b) (nodes_of w.medium)
      ascending = (subst AreNodes (sym so.stations) (sound_nodes f has.sound)).ascending

  stands_is : standing f w ≡ scene f w
  stands_is = ap (λ (l : List Tuning). record (scene f w) { tunings = tunings_of w.air ++ l }) (no_lasting w.medium.now w.medium.stations untuned)
      ∙ ap (λ (l : List Tuning). record (scene f w) { tunings = l }) (append-nil (tunings_of w.air))

  settled : (x : Sending) → Contains (sendings_of w.air) x → IsSettled f [] w x
  settled x sent = elim (so.sent x sent).fate [ inl runs ↦ absurd (nothing_runs x runs) | inr is ↦ is ]

  hears_back : (v : ℕ) (x : Sending) → HasHeardEntry w.air v x → (knows f.nodes v ≡ true) × HearsAir one f.trace w.air v x
  hears_back v x heard =
      let rule = ((settled x (so.heard v x heard).sent).heard v).0 (inl heard) in
      (rule.0, subst (λ (a : Scene). HearsInScene a v x) stands_is rule.1)

  hears_on : (v : ℕ) (x : Sending) → knows f.nodes v ≡ true → HearsAir one f.trace w.air v x → HasHeardEntry w.air v x
  hears_on v x known hears =
      elim (((settled x hears.sent).heard v).1 (known, subst (λ (a : Scene). HearsInScene a v x) (sym stands_is) hears)) [
        | inl heard ↦ heard
        | inr none ↦ absurd (not_in_none _ none)
      ]

  happened : (v : ℕ) → knows f.nodes v ≡ true → AreEventsOf w.air v (events_in w.air v)
  happened v known = record {
    hearings = λ x. (
      heard_event w.air v x,
      λ heard. let e = filter_from hearing_in w.air (record { node = v; sending = x }) heard in
          in_filter (event_in v) w.air e.0 (Heard x) e.1 (heard_of e.0 v x e.2),
    );
    sendings = λ x. (
      λ there. (ended_event w.air v x there, (let e = filter_from (event_in v) w.air (Ended x) there in ended_node e.0 v x e.2)),
      λ sent.
          let e = filter_from sending_in w.air x sent.0 in
          subst (λ (u : ℕ). Contains (events_in w.air u) (Ended x)) sent.1 (in_filter (event_in x.node) w.air e.0 (Ended x) e.1 (ended_of e.0 x e.2)),
    );
    in_order =
        let m = member_at v known in
        let each = so.each m.0 m.1 in
        subst (λ (u : ℕ). EventsInOrder (events_in w.air u)) m.2 (subst EventsInOrder (sym each.happened) each.in_order);
  }

  known_entry : (e : Entry) → Contains w.air e → knows f.nodes (entry_node e) ≡ true
  known_entry (Sent s) there = (so.sent s (in_filter sending_in w.air (Sent s) s there refl)).known
  known_entry (HeardOf h) there =
      let x : Sending = record { rank = h.rank; node = h.from; start = h.start; end = h.end; packet = h.packet } in
      (so.heard h.node x (in_filter hearing_in w.air (HeardOf h) (record { node = h.node; sending = x }) there refl)).known
  known_entry (Tuned t) there =
      let k : Tuning = record { rank = t.rank; node = t.node; start = t.start; end = t.end } in
      let was = so.tunings k (in_filter tuning_in w.air (Tuned t) k there refl) in
      subst (λ (v : ℕ). knows f.nodes v ≡ true) was.node (so.each was.member was.there).known

  tuned : (t : Tuning) → Contains (tunings_of w.air) t ↔ ((knows f.nodes t.node ≡ true) × (t ≡ tuning_by f.sends t.node (events_in w.air t.node)))
  tuned t = (
    λ there. (let was = so.tunings t there in (subst (λ (v : ℕ). knows f.nodes v ≡ true) was.node (so.each was.member was.there).known, was.is)),
    λ is.
        let m = member_at t.node is.0 in
        let by : Contains (tunings_of w.air) (tuning_by f.sends m.0.node (events_in w.air m.0.node)) =
        subst (λ (es : List Event). Contains (tunings_of w.air) (tuning_by f.sends m.0.node es)) (sym (past_is m.0 m.1)) (gone m.0 m.1).tuned in
        subst (Contains (tunings_of w.air)) (sym is.1) (subst (λ (v : ℕ). Contains (tunings_of w.air) (tuning_by f.sends v (events_in w.air v))) m.2 by),
  )

  abbrev first : Sending
  first = sending_at f.start START (first_packet f.start)

  begins : Contains (sendings_of w.air) first
  begins = elim so.begins [ inl sent ↦ sent | inr b ↦ absurd (waits_off START (first_packet f.start) (sym b.act ∙ off b.member b.there)) ]

  begins_alone : (x : Sending) → Contains (sendings_of w.air) x → counter_of x.packet ≡ 0 → x ≡ first
  begins_alone x sent zero_counter =
      let s = so.sent x sent in
      elim s.cause [
        | inl b ↦ s.lasts ∙ ap (λ (v : ℕ). sending_at v x.start x.packet) b.node ∙ ap (λ (t : ℕ). sending_at f.start t x.packet) b.start
            ∙ ap (sending_at f.start START) b.is
        | inr a ↦ absurd (let later = a.later in omega (arith, later, zero_counter))
      ]

  relays : (x : Sending) → Contains (sendings_of w.air) x → counter_of x.packet ≢ 0 → IsRelay f (clocks x.node) (events_in w.air x.node) x
  relays x sent not =
      elim (so.sent x sent).cause [
        | inl b ↦ absurd (not (ap counter_of b.is))
        | inr a ↦ record { heard = a.heard; flood = a.flood; occasion = a.occasion; answer = a.answer; start = a.start }
      ]

  relayed : (x : Sending) → knows f.nodes x.node ≡ true → Lasts x → IsRelay f (clocks x.node) (events_in w.air x.node) x → Contains (sendings_of w.air) x
  relayed x known lasts r = by_member (member_at x.node known)
    where
      by_member : (m : Member) × Contains w.members m × (m.node ≡ x.node) → Contains (sendings_of w.air) x
      by_member (m, there, is) =
          let answered = (so.each m there).answered r.heard r.flood x.packet (
          subst (λ (es : List Event). Contains (event_occasions (first_flood f m.node) es) (record { before = r.flood; event = Heard r.heard }))
          (past_is m there)
          (subst (λ (v : ℕ). Contains (event_occasions (first_flood f v) (events_in w.air v)) (record { before = r.flood; event = Heard r.heard }))
          (sym is) r.occasion)) r.answer in
          let at : sending_at m.node (due (clocks m.node) (clocks m.node r.heard.end + 12288)) x.packet ≡ x =
          ap (λ (v : ℕ). sending_at v (due (clocks v) (clocks v r.heard.end + 12288)) x.packet) is
          ∙ ap (λ (t : ℕ). sending_at x.node t x.packet) (sym r.start) ∙ sym lasts in
          elim answered [
            | inl sent ↦ subst (Contains (sendings_of w.air)) at sent
            | inr waits ↦ absurd (waits_off _ x.packet (sym waits ∙ off m there))
          ]

  pub law_of : FloodLaw f clocks w.air
  law_of = record {
    once = so.once;
    events = events_in w.air;
    happened = happened;
    known = known_entry;
    tuned = tuned;
    begun = λ x. (
      λ is. begins_alone x is.0 is.1,
      λ is. subst (λ (y : Sending). Contains (sendings_of w.air) y × (counter_of y.packet ≡ 0)) (sym is)
          (begins, refl),
    );
    lasts = λ x sent. (so.sent x sent).lasts;
    hears = λ v x. (hears_back v x, λ both. hears_on v x both.0 both.1);
    relayed = relayed;
    relays = relays;
  }
