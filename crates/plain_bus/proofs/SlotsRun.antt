-- A slot run by code is the slot of the round, at all nodes.
use Rattle.std.proofs.Common.{◌≡◌, ℕ, ◌+◌, suc, List, [], ◌∷◌, Bool, true, false, ◌==◌, ◌&&◌, Option, Some, None, is_some, refl, sym, ◌∙◌, ap, if◌then◌else◌}
use Rattle.std.proofs.Common.{option_map, option_and_then, subst, map, filter_map, add-one}
use Rattle.std.specs.List.{cons_option}
use Rattle.std.proofs.lemmas.Bool.{false≢true, or_left, or_right, eq-eqb}
use Rattle.lwb_base.specs.Messages.{Ask, Plan, Schedule}
use Rattle.lwb_base.proofs.Truths.{and_false}
use Rattle.scenario_text.specs.ScenarioParts.{ScenarioParts}
use Rattle.bus_rules.specs.declared.part.Part.{Part}
use Rattle.bus_rules.specs.Cores.{Setup}
use Rattle.bus_rules.specs.Slots.{Message, ScheduleOf, RequestOf, Opened, Closed, part_of, is_schedule_part, delivery_of}
use Rattle.bus_rules.specs.States.{State, StateOff, StateOn}
use Rattle.bus_terms.specs.FloodOfText.{ids}
use Rattle.bus_terms.specs.Flooding.{moment, has, STEPS}
use Rattle.bus_terms.specs.Rounds.{Slot, opened_at, message_said, takes_part, closed_slot_of, closed_at, left_by, accepted_at, before_slot, after_slot}
use Rattle.bus_terms.specs.Rounds.{slot_at, rank_in, delivery_in_slot}
use Rattle.scenario_text.specs.Setups.{setup_of}
use Rattle.bus_terms.proofs.OtherRanks.{IsElsewhere, no_window, slots_elsewhere}
use Rattle.bus_terms.proofs.ReceivedByPaths.{of_filtered}
use Rattle.bus_terms.proofs.ReceivedInRounds.{accepted_none}
use Rattle.plain_bus.specs.BusNodes.{BusNode, bus_node, mixed, ranks_in, nodes_before, node_opened, state_opened, closed_of}
use Rattle.plain_bus.specs.BusNodes.{AreOffOutside, MayAcceptIn, HaveRoom}
use Rattle.plain_bus.specs.Closings.{Behind, heard_at, closed_node, delivers_node}
use Rattle.plain_bus.specs.SlotFloods.{Seen, seen_of, seen_by}
use Rattle.plain_bus.proofs.MembersOfSlots.{closing_at, has_filtered, map_of_map, map_same}
use Rattle.plain_bus.proofs.SlotsClosed.{seen_mixed, left_opened, untouched, none_takes, may_accept, no_schedule, no_request}

pub elsewhere_by : (rank : ℕ) (x : State) → (rank_in x == rank) ≡ false → IsElsewhere rank x
elsewhere_by rank (StateOff boots) is = tt
elsewhere_by rank (StateOn c) is = is

slot_next : (s : ScenarioParts) (rank f : ℕ) (p : Plan) (start : ℕ → State) (j : ℕ) → before_slot s rank f p start (suc j) ≡ after_slot s rank f p j
    (before_slot s rank f p start j)
unfolding before_slot
slot_next s rank f p start j = refl

pub slot_more : (s : ScenarioParts) (rank f : ℕ) (p : Plan) (start : ℕ → State) (j : ℕ) → before_slot s rank f p start (j + 1) ≡ after_slot s rank f p j
    (before_slot s rank f p start j)
slot_more s rank f p start j = ap (λ (n : ℕ). before_slot s rank f p start n) (add-one j) ∙ slot_next s rank f p start j

-- two maps that agree on a list
pub same_in : {Y : Type 0} (g h : ℕ → Y) (xs : List ℕ) → ((v : ℕ) → has xs v ≡ true → g v ≡ h v) → map g xs ≡ map h xs
same_in g h [] same = refl
same_in g h (x ∷ xs) same =
    ap (λ (y : _). y ∷ map g xs) (same x (or_left (x == x) (has xs x) (eq-eqb x x refl)))
    ∙ ap (λ (l : List _). h x ∷ l) (same_in g h xs (λ v there. same v (or_right (x == v) (has xs v) there)))

pub kept_same_in : {Y : Type 0} (g h : ℕ → Option Y) (xs : List ℕ) → ((v : ℕ) → has xs v ≡ true → g v ≡ h v) → filter_map g xs ≡ filter_map h xs
kept_same_in g h [] same = refl
kept_same_in g h (x ∷ xs) same =
    ap (λ (o : Option _). cons_option o (filter_map g xs)) (same x (or_left (x == x) (has xs x) (eq-eqb x x refl)))
    ∙ ap (cons_option (h x)) (kept_same_in g h xs (λ v there. same v (or_right (x == v) (has xs v) there)))

may_none : (q : Setup) (f : ℕ) (x : State) → MayAcceptIn q f x None
may_none q f (StateOff boots) = tt
may_none q f (StateOn c) = tt

module _ (s : ScenarioParts) (rank f : ℕ) (p : Plan) (start others : ℕ → State) (j : ℕ) where
  abbrev part : Part
  part = part_of p j

  abbrev states : ℕ → State
  states = before_slot s rank f p start j

  abbrev x : Slot
  x = slot_at s rank f p start j

  abbrev window : ℕ → Option Opened
  window v = opened_at s rank f (part_of p j) v (before_slot s rank f p start j v)

  abbrev pub window_seen : ℕ → Seen
  window_seen v = seen_by rank (part_of p j) (before_slot s rank f p start j v) (opened_at s rank f (part_of p j) v (before_slot s rank f p start j v))

  abbrev pub behind : Behind
  behind = record { window = window_seen; first = λ v. (moment (slot_at s rank f p start j).flood STEPS).heard v }

  abbrev pub node_at : ℕ → BusNode
  node_at v = node_opened rank f (part_of p j) (bus_node s (ranks_in start) (mixed rank (ranks_in start) (before_slot s rank f p start j) others) v)

  other_rank : (v : ℕ) → (ranks_in start v == rank) ≡ false → IsElsewhere rank (states v)
  other_rank v is =
      let there = elsewhere_by rank (start v) is in
      subst (IsElsewhere rank) (sym (slots_elsewhere s rank f p v start there j)) there

  -- a node that is not in the scenario has none
  pub shut_outside : AreOffOutside s start → (v : ℕ) → has (ids s.nodes) v ≡ false → window v ≡ None
  shut_outside off v out =
      let there : IsElsewhere rank (start v) = subst (IsElsewhere rank) (sym (off v out)) tt in
      no_window s rank f part v (states v) (subst (IsElsewhere rank) (sym (slots_elsewhere s rank f p v start there j)) there)

  -- the windows of the nodes
  pub seen_all : (nodes : List BusNode) (q : Part) → nodes ≡ nodes_before s rank f p start others j → q ≡ part_of p j
      → map (seen_of rank f q) nodes ≡ map window_seen (ids s.nodes)
  seen_all nodes q are is =
      ap (map (seen_of rank f q)) are ∙ ap (λ (r : Part). map (seen_of rank f r) (nodes_before s rank f p start others j)) is
      ∙ sym (map_of_map (seen_of rank f part) (bus_node s (ranks_in start) (mixed rank (ranks_in start) states others)) (ids s.nodes))
      ∙ map_same (λ (v : ℕ). seen_of rank f part (bus_node s (ranks_in start) (mixed rank (ranks_in start) states others) v)) window_seen
      (λ v. seen_mixed s rank f part v (states v) (ranks_in start v == rank) (others v) (other_rank v)) (ids s.nodes)

  pub opened_all : (nodes : List BusNode) (q : Part) → nodes ≡ nodes_before s rank f p start others j → q ≡ part_of p j → map (node_opened rank f q) nodes
      ≡ map node_at (ids s.nodes)
  opened_all nodes q are is =
      ap (map (node_opened rank f q)) are ∙ ap (λ (r : Part). map (node_opened rank f r) (nodes_before s rank f p start others j)) is
      ∙ sym (map_of_map (node_opened rank f part) (bus_node s (ranks_in start) (mixed rank (ranks_in start) states others)) (ids s.nodes))

  -- what a node accepts
  turned_round : (c : Bool) (o : Option (ℕ × ℕ)) → (if c then None else option_and_then (λ (a : ℕ × ℕ). message_said (window a.0)) o)
      ≡ option_and_then (λ (a : ℕ × ℕ). message_said (window a.0)) (if c then None else o)
  turned_round true o = refl
  turned_round false o = refl

  accepts_as : (v : ℕ) → has (ids s.nodes) v ≡ true → heard_at behind v ≡ accepted_at x v
  accepts_as v there =
      let says : ℕ → Bool = λ u. is_some (message_said (window u)) in
      let first : Option (ℕ × ℕ) = (moment x.flood STEPS).heard v in
      turned_round (says v) first
      ∙ ap (λ (c : Bool). option_and_then (λ (a : ℕ × ℕ). message_said (window a.0)) (if c then None else first))
      (sym (has_filtered says (ids s.nodes) v ∙ ap (λ (c : Bool). c && says v) there))

  outside : (v : ℕ) → has (ids s.nodes) v ≡ true → takes_part rank part (states v) (window v) ≡ false → heard_at behind v ≡ None
  outside v there out =
      accepts_as v there
      ∙ ap (option_and_then (λ (a : ℕ × ℕ). message_said (window a.0)))
      (accepted_none x.flood v (λ o k a. false≢true (sym out ∙ of_filtered (λ (u : ℕ). takes_part rank part (states u) (window u)) (ids s.nodes) v a.here)))

  apart : (v : ℕ) → has (ids s.nodes) v ≡ true → (ranks_in start v == rank) ≡ false → heard_at behind v ≡ None
  apart v there is =
      let other = other_rank v is in
      outside v there
      (ap (takes_part rank part (states v)) (no_window s rank f part v (states v) other) ∙ sym (none_takes rank part (states v) other)
      ∙ and_false (is_schedule_part part))

  plain : (v : ℕ) → is_schedule_part part ≡ false → (m : Schedule) → heard_at behind v ≡ Some (ScheduleOf m) → ⊥
  plain v no_sched m is = by_first (is_some (message_said (window v))) ((moment x.flood STEPS).heard v) is
    where
      by_first : (c : Bool) (o : Option (ℕ × ℕ)) → (if c then None else option_and_then (λ (a : ℕ × ℕ). message_said (window a.0)) o) ≡ Some (ScheduleOf m) → ⊥
      by_first true o is = cc
      by_first false None is = cc
      by_first false (Some a) is = no_schedule s rank f part a.0 (states a.0) m no_sched is

  -- a request is said in no slot of schedules
  unasked : (v : ℕ) → is_schedule_part part ≡ true → (a : Ask) → heard_at behind v ≡ Some (RequestOf a) → ⊥
  unasked v sched a is = by_first (is_some (message_said (window v))) ((moment x.flood STEPS).heard v) is
    where
      by_first : (c : Bool) (o : Option (ℕ × ℕ)) → (if c then None else option_and_then (λ (a : ℕ × ℕ). message_said (window a.0)) o) ≡ Some (RequestOf a) → ⊥
      by_first true o is = cc
      by_first false None is = cc
      by_first false (Some b) is = no_request s rank f part b.0 (states b.0) a sched is

  -- no host accepts a schedule, and each has room
  pub all_may : HaveRoom s rank f p start j → (v : ℕ) → has (ids s.nodes) v ≡ true
      → MayAcceptIn (node_at v).setup f (node_at v).state (heard_at behind v)
  all_may room v there = by_rank (ranks_in start v == rank) refl
    where
      by_rank : (c : Bool) → (ranks_in start v == rank) ≡ c
          → MayAcceptIn (setup_of s v) f
          (if c then state_opened (setup_of s v) rank f part (if c then states v else others v) else (if c then states v else others v))
          (heard_at behind v)
      by_rank true is = may_accept s rank f part v (states v) (heard_at behind v)
          (λ says. ap (λ (c : Bool). if c then None else option_and_then (λ (a : ℕ × ℕ). message_said (window a.0)) ((moment x.flood STEPS).heard v)) says)
          (outside v there) (plain v) (unasked v) (room v there)
      by_rank false is =
          subst (λ (h : Option Message). MayAcceptIn (setup_of s v) f (others v) h) (sym (apart v there is)) (may_none (setup_of s v) f (others v))

  -- the closing of a node
  closes : (v : ℕ) → has (ids s.nodes) v ≡ true → (c : Bool) → (ranks_in start v == rank) ≡ c
      → (let y : State = if c then state_opened (setup_of s v) rank f part (if c then states v else others v) else (if c then states v else others v) in
      closed_of (setup_of s v) f part (is_some (window v)) (is_some (message_said (window v))) (heard_at behind v) y) ≡ closed_slot_of s f part v (window v)
      (heard_at behind v) (states v)
  closes v there true is = closing_at s rank f part v (states v) (heard_at behind v)
  closes v there false is =
      let shut = no_window s rank f part v (states v) (other_rank v is) in
      let deaf = apart v there is in
      ap (λ (w : Option Opened). closed_of (setup_of s v) f part (is_some w) (is_some (message_said w)) (heard_at behind v) (others v)) shut
      ∙ ap (λ (h : Option Message). closed_of (setup_of s v) f part false false h (others v)) deaf ∙ untouched s f part v (others v)
      ∙ ap (λ (h : Option Message). closed_slot_of s f part v None h (states v)) (sym deaf)
      ∙ ap (λ (w : Option Opened). closed_slot_of s f part v w (heard_at behind v) (states v)) (sym shut)

  closed_as : (v : ℕ) → has (ids s.nodes) v ≡ true → closed_slot_of s f part v (window v) (heard_at behind v) (states v) ≡ closed_at s f x states v
  closed_as v there = ap (λ (h : Option Message). closed_slot_of s f part v (window v) h (states v)) (accepts_as v there)

  leaves : (v : ℕ) → has (ids s.nodes) v ≡ true → (c : Bool) → (ranks_in start v == rank) ≡ c
      → (let y : State = if c then state_opened (setup_of s v) rank f part (if c then states v else others v) else (if c then states v else others v) in
      left_by y (closed_of (setup_of s v) f part (is_some (window v)) (is_some (message_said (window v))) (heard_at behind v) y))
      ≡ (if c then after_slot s rank f p j states v else others v)
  leaves v there true is =
      ap (left_by (state_opened (setup_of s v) rank f part (states v))) (closes v there true is)
      ∙ left_opened s rank f part v (states v) (heard_at behind v) ∙ ap (left_by (states v)) (closed_as v there)
  leaves v there false is =
      let shut = no_window s rank f part v (states v) (other_rank v is) in
      ap (left_by (others v)) (closes v there false is ∙ ap (λ (w : Option Opened). closed_slot_of s f part v w (heard_at behind v) (states v)) shut
      ∙ ap (λ (h : Option Message). closed_slot_of s f part v None h (states v)) (apart v there is))

  pub nodes_closed : map (closed_node behind f part node_at) (ids s.nodes) ≡ nodes_before s rank f p start others (j + 1)
  nodes_closed =
      same_in (closed_node behind f part node_at) (bus_node s (ranks_in start) (mixed rank (ranks_in start) (after_slot s rank f p j states) others))
      (ids s.nodes)
      (λ v there. ap (λ (y : State). record { setup = setup_of s v; rank = ranks_in start v; state = y }) (leaves v there (ranks_in start v == rank) refl))
      ∙ ap (λ (g : ℕ → State). map (bus_node s (ranks_in start) (mixed rank (ranks_in start) g others)) (ids s.nodes)) (sym (slot_more s rank f p start j))

  pub nodes_delivered : filter_map (delivers_node behind rank f j part node_at) (ids s.nodes) ≡ filter_map (delivery_in_slot s rank f p start j) (ids s.nodes)
  nodes_delivered = kept_same_in (delivers_node behind rank f j part node_at) (delivery_in_slot s rank f p start j) (ids s.nodes)
      (λ v there. ap (λ (c : Option Closed). option_map (delivery_of v f rank j) (option_and_then (λ (d : Closed). d.delivered) c))
      (closes v there (ranks_in start v == rank) refl ∙ closed_as v there))
