-- The world of a flood at the beginning is a flood so far.
use Rattle.std.proofs.Common.{◌≡◌, ℕ, ◌+◌, ◌≤◌, ◌⊎◌, List, [], ◌∷◌, ◌++◌, find, Option, Some, None, option_to_list, Bool, true, false, ◌==◌, if◌then◌else◌, inl}
use Rattle.std.proofs.Common.{inr, refl, sym, ◌∙◌, ap, subst, arith, length, eqb-true, eq-eqb}
use Rattle.std.specs.Prelude.{Contains}
use Rattle.std.proofs.lemmas.Bool.{cond_both, cond-true}
use Rattle.std.proofs.lemmas.List.{length-map, append-nil}
use Rattle.lwb_base.specs.Profile.{one, Numbers}
use Rattle.link_trace.specs.Masks.{AreNodes}
use Rattle.lwb_packets.specs.declared.kind.Kind.TheVariants.{Payload}
use Rattle.glossy_relay.specs.FloodState.{listening, initiating}
use Rattle.scenario_text.specs.FloodParts.{FloodParts}
use Rattle.scenario_text.specs.declared.lines.NodeLine.{NodeLine}
use Rattle.bus_terms.specs.FloodOfText.{ids}
use Rattle.radio_model.specs.declared.station.Station.{Station}
use Rattle.radio_model.specs.declared.tuning.Tuned.{Tuned as TunedTo}
use Rattle.radio_model.specs.OnAir.{Tuning}
use Rattle.radio_model.specs.Hearing.{Scene}
use Rattle.radio_model.specs.Stations.{MediumState, IsMedium, station_of, id_of_station as station_node, station_after_tuning, first_state}
use Rattle.radio_model.specs.Stations.{stations_from, fresh, is_station_of}
use Rattle.radio_model.specs.Holding.{Holds, ended_tuning, tuned_of, after_tuning, nothing_yet}
use Rattle.radio_model.proofs.AtFirst.{holds_at_first}
use Rattle.radio_model.proofs.AfterTuning.{holds_after_tuning}
use Rattle.radio_model.proofs.Changes.{retuned_keeps}
use Rattle.radio_model.proofs.TunedStations.{tuned_anew, tuned_still}
use Rattle.radio_model.proofs.OneCall.{found_member, each_after}
use Rattle.radio_model.proofs.Places.{first_is_medium, nodes_from}
use Rattle.air_log.specs.NodeEvents.{EventsInOrder}
use Rattle.air_log.specs.FloodLaw.{OPENING, START, first_packet}
use Rattle.lwb_base.proofs.Elements.{not_in_none, contains_head, contains_tail, contains_cases, map_contains, map_from}
use Rattle.lwb_flood.specs.declared.member.Act.{Act}
use Rattle.lwb_flood.specs.declared.member.Act.TheVariants.{Listens, Waits}
use Rattle.lwb_flood.specs.declared.member.Member.{Member}
use Rattle.lwb_flood.specs.FloodLog.{HasClocks}
use Rattle.lwb_flood.specs.FloodWorlds.{World, medium_at_opening, first_member, first_world}
use Rattle.lwb_flood.proofs.FloodOpening.{IsOpening, at_first, opened_is, opened_medium, tuned_one, sound_nodes, first_shape}
use Rattle.lwb_flood.proofs.FloodSoFar.{running, tuned_by, sending_by, Stands, IsMember, WaitsToBegin, IsFloodSoFar}
use Rattle.scenario_text.proofs.Known.{known_there}
use Rattle.lwb_flood.proofs.LogEntries.{known_of}

abbrev from_opening : Option TunedTo
from_opening = Some (record { rank = 0; since = OPENING })

-- a station before it is tuned in, and after it
record IsNew (us : List ℕ) (st : Station) : Type 0 where
  pub node : Contains us st.node
  pub tuned : st.tuning.now ≡ None
  pub last : st.tuning.last ≡ None

abbrev IsTunedIn : List ℕ → Station → Type 0
IsTunedIn us st = IsNew us st ⊎ (st.tuning.now ≡ from_opening)

abbrev AreTunedIn : List ℕ → MediumState → Type 0
AreTunedIn us m = (st : Station) → Contains m.stations st → IsTunedIn us st

fresh_untuned : (us : List ℕ) (k : ℕ) (vs : List ℕ) (st : Station) → Contains (stations_from k vs) st → (st.tuning.now ≡ None) × (st.tuning.last ≡ None)
fresh_untuned us k [] st there = absurd (not_in_none st there)
fresh_untuned us k (v ∷ vs) st there =
    elim (contains_cases (fresh v k) (stations_from (k + 1) vs) st there) [
      | inl is ↦ (ap (λ (s : Station). s.tuning.now) (sym is), ap (λ (s : Station). s.tuning.last) (sym is))
      | inr later ↦ fresh_untuned us (k + 1) vs st later
    ]

first_tuned : (p : Numbers) (vs : List ℕ) → AreTunedIn vs (first_state p vs)
first_tuned p vs st there =
    let none = fresh_untuned vs 0 vs st there in
    inl (record {
      node = subst (λ (l : List ℕ). Contains l st.node) (nodes_from 0 vs) (map_contains station_node (first_state p vs).stations st there);
      tuned = none.0;
      last = none.1;
    })

-- a station that is tuned in
module _ (us : List ℕ) (st : Station) where
  new_tuned : IsNew us st → (station_after_tuning (Some 0) OPENING st).tuning.now ≡ from_opening
  new_tuned new = tuned_anew 0 OPENING st new.tuned new.last

  is_tuned : IsTunedIn us st → (station_after_tuning (Some 0) OPENING st).tuning.now ≡ from_opening
  is_tuned (inl new) = new_tuned new
  is_tuned (inr is) = tuned_still 0 OPENING OPENING st is ∙ is

  closes_none : IsTunedIn us st → (v : ℕ) → ended_tuning v (Some 0) OPENING st.tuning.now ≡ None
  closes_none (inl new) v = ap (λ (o : Option TunedTo). ended_tuning v (Some 0) OPENING o) new.tuned
  closes_none (inr is) v = ap (λ (o : Option TunedTo). ended_tuning v (Some 0) OPENING o) is

-- what a look finds is one of them
found_by : (P : Option Station → Type 0) (xs : List Station) (v : ℕ) → P None → ((st : Station) → Contains xs st → P (Some st)) → P (find (is_station_of v) xs)
found_by P [] v none some = none
found_by P (s ∷ xs) v none some =
    cond_both (s.node == v) (Some s) (find (is_station_of v) xs) P (λ _. some s (contains_head s xs))
    (λ _. found_by P xs v none (λ st there. some st (contains_tail s xs st there)))

-- one node more is tuned in
module _ (v : ℕ) (us : List ℕ) (m : MediumState) (medium : IsMedium m) (early : m.now ≤ OPENING) (ready : AreTunedIn (v ∷ us) m) where
  tuned_more : AreTunedIn us (tuned_one v m)
  tuned_more = each_after m medium (station_after_tuning (Some 0) OPENING) (retuned_keeps (Some 0) OPENING) v OPENING (IsTunedIn us)
      (λ st there node. inr (is_tuned (v ∷ us) st (ready st there)))
      (λ st there other. elim (ready st there) [
        | inl new ↦ elim (contains_cases v us st.node new.node) [
          | inl is ↦ absurd (other (sym is))
          | inr later ↦ inl (record { node = later; tuned = new.tuned; last = new.last })
        ]
        | inr is ↦ inr is
      ])

  no_end : ended_tuning v (Some 0) OPENING (tuned_of (station_of m v)) ≡ None
  no_end = found_by (λ (o : Option Station). ended_tuning v (Some 0) OPENING (tuned_of o) ≡ None) m.stations v refl
      (λ st there. closes_none (v ∷ us) st (ready st there) v)

  holds_more : (a : Scene) → Holds m a → Holds (tuned_one v m) a
  holds_more a h = subst (λ (b : Scene). Holds (tuned_one v m) b) same (holds_after_tuning m medium a h v (Some 0) OPENING early)
    where
      same : after_tuning m v (Some 0) OPENING a ≡ a
      same = ap (λ (o : Option Tuning). record a { tunings = a.tunings ++ option_to_list o }) no_end
          ∙ ap (λ (l : List Tuning). record a { tunings = l }) (append-nil a.tunings)

-- all nodes are tuned in
opened_ready : (us : List ℕ) (m : MediumState) → IsMedium m → m.now ≤ OPENING → AreTunedIn us m → (a : Scene) → Holds m a
    → AreTunedIn [] (medium_at_opening us m) × Holds (medium_at_opening us m) a
opened_ready [] m medium early ready a h = (ready, h)
opened_ready (u ∷ us) m medium early ready a h =
    opened_ready us (tuned_one u m) (opened_medium (u ∷ []) m medium) (omega arith) (tuned_more u us m medium early ready) a
    (holds_more u us m medium early ready a h)

opened_numbers : (us : List ℕ) (m : MediumState) → (medium_at_opening us m).numbers ≡ m.numbers
opened_numbers [] m = refl
opened_numbers (u ∷ us) m = opened_numbers us (tuned_one u m)

opened_now : (us : List ℕ) (m : MediumState) → m.now ≡ OPENING → (medium_at_opening us m).now ≡ OPENING
opened_now [] m is = is
opened_now (u ∷ us) m is = opened_now us (tuned_one u m) refl

first_now : (us : List ℕ) (m : MediumState) → 1 ≤ length us → (medium_at_opening us m).now ≡ OPENING
first_now [] m some = absurd (omega arith)
first_now (u ∷ us) m some = opened_now us (tuned_one u m) refl

-- what a node is at first: `begins` says that it is the starting node
abbrev member_with : FloodParts → NodeLine → Bool → Member
member_with f n begins = record {
  node = n.node;
  flood = if begins then initiating (first_packet f.start) f.sends else listening Payload 1 f.sends;
  act = if begins then Waits START (first_packet f.start) else Listens;
}

no_order : EventsInOrder []
no_order i j d less within = absurd (omega arith)

module _ (f : FloodParts) (clocks : ℕ → ℕ → ℕ) (has : HasClocks f clocks) where
  abbrev first : MediumState
  first = first_state one (ids f.nodes)

  abbrev w : World
  w = first_world f

  are : AreNodes (ids f.nodes)
  are = sound_nodes f has.sound

  opening : IsOpening (ids f.nodes) w.medium
  opening = opened_is (ids f.nodes) (ids f.nodes) first (at_first one (ids f.nodes))

  now_is : w.medium.now ≡ OPENING
  now_is = let long = length-map f.nodes (λ (n : NodeLine). n.node) in let two = has.sound.two_nodes in first_now (ids f.nodes) first (omega (arith, long, two))

  both : AreTunedIn [] w.medium × Holds w.medium (nothing_yet one f.trace)
  both = opened_ready (ids f.nodes) first (first_is_medium one (ids f.nodes) (inl refl) are) (omega arith) (first_tuned one (ids f.nodes))
      (nothing_yet one f.trace) (holds_at_first one (ids f.nodes) (inl refl) are f.trace)

  all_tuned : (st : Station) → Contains w.medium.stations st → st.tuning.now ≡ from_opening
  all_tuned st there = elim (both.0 st there) [ inl new ↦ absurd (not_in_none st.node new.node) | inr is ↦ is ]

  -- how each node is
  stands : (n : NodeLine) (begins : Bool) → (begins ≡ true → n.node ≡ f.start) → Stands f clocks w [] [] (member_with f n begins) (member_with f n begins).act
  stands n true at = record {
    waits = refl;
    left = has.sound.some_sends;
    later = (let now = now_is in omega (arith, now));
    step = record { step = 0; small = omega arith; is = refl; near = record { below = omega arith; above = omega arith } };
    cause = inl (record { node = at refl; start = refl; is = refl });
  }
  stands n false at = record { waits = refl; left = inl has.sound.some_sends }

  of_line : (n : NodeLine) → Contains f.nodes n → IsMember f clocks [] w (first_member f n)
  of_line n there = record {
    known = known_of f.nodes n.node in_ids;
    station = st.0;
    found = ap (station_of w.medium) (sym st.2) ∙ found_member w.medium.stations st.0 (subst AreNodes (sym opening.nodes) are).ascending st.1;
    tuned = cond_both (f.start == n.node) (Waits START (first_packet f.start)) Listens (λ (a : Act). st.0.tuning.now ≡ tuned_by a)
        (λ _. all_tuned st.0 st.1) (λ _. all_tuned st.0 st.1);
    sends = cond_both (f.start == n.node) (Waits START (first_packet f.start)) Listens (λ (a : Act). st.0.sending ≡ sending_by a)
        (λ _. opening.silent st.0 st.1) (λ _. opening.silent st.0 st.1);
    past = [];
    happened = cond_both (f.start == n.node) (Waits START (first_packet f.start)) Listens (λ (a : Act). [] ≡ [] ++ running a) (λ _. refl) (λ _. refl);
    in_order = cond_both (f.start == n.node) (Waits START (first_packet f.start)) Listens (λ (a : Act). EventsInOrder ([] ++ running a)) (λ _. no_order)
        (λ _. no_order);
    over = λ e known. absurd (not_in_none e known);
    flood = refl;
    stands = stands n (f.start == n.node) (λ same. sym (eqb-true f.start n.node same));
    answered = λ h s packet occasion answer. absurd (not_in_none _ occasion);
  }
    where
      in_ids : Contains (ids f.nodes) n.node
      in_ids = map_contains (λ (l : NodeLine). l.node) f.nodes n there

      st : (st : Station) × Contains w.medium.stations st × (st.node ≡ n.node)
      st = map_from station_node w.medium.stations n.node (subst (λ (l : List ℕ). Contains l n.node) (sym opening.nodes) in_ids)

  each_member : (m : Member) → Contains w.members m → IsMember f clocks [] w m
  each_member m there = let n = map_from (first_member f) f.nodes m there in subst (IsMember f clocks [] w) n.2 (of_line n.0 n.1)

  waits_to_begin : WaitsToBegin f w
  waits_to_begin =
      let n = map_from (λ (l : NodeLine). l.node) f.nodes f.start (known_there f.nodes f.start has.sound.start_known) in
      record {
        member = first_member f n.0;
        there = map_contains (first_member f) f.nodes n.0 n.1;
        node = n.2;
        act = cond-true (f.start == n.0.node) (Waits START (first_packet f.start)) Listens (eq-eqb f.start n.0.node (sym n.2));
      }

  pub first_keeps : IsFloodSoFar f clocks [] [] (first_world f)
  first_keeps = record {
    nodes = (first_shape f are).nodes ∙ opening.nodes;
    stations = opening.nodes;
    numbers = opened_numbers (ids f.nodes) first;
    since = (let now = now_is in omega (arith, now));
    holds = both.1;
    each = each_member;
    sent = λ x there. absurd (not_in_none x there);
    heard = λ v x there. absurd (not_in_none _ there);
    due_now = λ h there. absurd (not_in_none h there);
    due_once = tt;
    tunings = λ t there. absurd (not_in_none t there);
    once = λ i j d less within. absurd (omega arith);
    begins = inr waits_to_begin;
  }
