-- One frame more of a run.
use Rattle.std.proofs.Common.{◌≡◌, ◌<◌, ◌≤◌, ◌+◌, ◌*◌, ◌++◌, [], ℕ, suc, List, All, inl, inr, if◌then◌else◌, length, map}
use Rattle.std.proofs.Common.{get_or, filter_map, sum_by, subst, refl, sym, ◌∙◌, ap, arith, add-one}
use Rattle.std.specs.List.{range_with_len, enumerate_from}
use Rattle.std.proofs.lemmas.Bool.{cases_lt}
use Rattle.std.proofs.lemmas.List.{get_or-map, length-map, take_all}
use Rattle.std.proofs.lemmas.List.FromFn.{length-range_with_len, length-enumerate_from}
use Rattle.std.proofs.lemmas.List.Sums.{count_by-le-length}
use Rattle.scenario_text.specs.ScenarioParts.{ScenarioParts}
use Rattle.bus_rules.specs.declared.act.Act.TheVariants.{Off}
use Rattle.scenario_text.specs.declared.script.ScriptLine.{ScriptLine}
use Rattle.bus_rules.specs.States.{State, StateOff}
use Rattle.bus_rules.specs.Tuning.{is_scan}
use Rattle.bus_terms.specs.Bus.{Cost, before_frame, state_at}
use Rattle.bus_terms.specs.Costs.{over_round, slot_sent, slot_window}
use Rattle.bus_terms.specs.FloodOfText.{ids}
use Rattle.scenario_text.specs.OverLines.{IsOverScenario}
use Rattle.bus_terms.specs.Packets.{bus_puts, put_at}
use Rattle.bus_terms.specs.Rounds.{rank_in, rounds}
use Rattle.bus_terms.specs.ScriptedStates.{is_on_and, power, states_after_end}
use Rattle.plain_bus.specs.BusNodes.{BusNode, bus_node, IsEarlyState, ranks_in}
use Rattle.plain_bus.specs.Networks.{Network, IsReady, no_cost, node_at_first}
use Rattle.plain_bus.specs.SlotCosts.{IsBelow}
use Rattle.plain_bus.proofs.MembersOfSlots.{map_of_map, map_same}
use Rattle.plain_bus.proofs.SlotsMet.{ids_each}
use Rattle.plain_bus.proofs.SoundOver.{sound_over}
use Rattle.bus_model.specs.FrameNodes.{HavePower, CountsLinesBefore, deliveries_to, ended_at, frame_deliveries, frame_sent, nodes_with}
use Rattle.bus_model.specs.FrameNodes.{prior_ranks, puts_to, sent_to, with_round_rank}
use Rattle.bus_model.specs.RoundCosts.{cost_after, with_round, with_scan}
use Rattle.bus_model.proofs.LinesAllowed.{ended_early}
use Rattle.bus_terms.proofs.PowerKept.{ended_power, rounds_power}
use Rattle.bus_model.proofs.SlotsInTurn.{flat_more, sum_more}

pub next_frame : (s : ScenarioParts) (f : ℕ) → before_frame s (suc f) ≡ states_after_end s f (rounds s f (state_at s f))
unfolding before_frame
next_frame s f = refl

next_ranks : (s : ScenarioParts) (f : ℕ) → prior_ranks s (suc f) ≡ ranks_in (state_at s f)
unfolding prior_ranks
next_ranks s f = refl

pub first_frame : (s : ScenarioParts) → before_frame s 0 ≡ (λ (v : ℕ). StateOff 0)
unfolding before_frame
first_frame s = refl

first_ranks : (s : ScenarioParts) → prior_ranks s 0 ≡ (λ (v : ℕ). 0)
unfolding prior_ranks
first_ranks s = refl

module _ (s : ScenarioParts) (f : ℕ) where
  pub nodes_begun : (ranks : ℕ → ℕ) (states : ℕ → State) → map with_round_rank (nodes_with s ranks states) ≡ nodes_with s (ranks_in states) states
  nodes_begun ranks states = sym (map_of_map with_round_rank (bus_node s ranks states) (ids s.nodes))

  pub nodes_ended : map (ended_at f) (nodes_with s (ranks_in (state_at s f)) (rounds s f (state_at s f))) ≡ nodes_with s (prior_ranks s (f + 1))
      (before_frame s (f + 1))
  nodes_ended =
      sym (map_of_map (ended_at f) (bus_node s (ranks_in (state_at s f)) (rounds s f (state_at s f))) (ids s.nodes))
      ∙ ap (λ (g : ℕ → State). nodes_with s (ranks_in (state_at s f)) g) (sym (next_frame s f))
      ∙ ap (λ (r : ℕ → ℕ). nodes_with s r (before_frame s (suc f))) (sym (next_ranks s f))
      ∙ ap (λ (n : ℕ). nodes_with s (prior_ranks s n) (before_frame s n)) (sym (add-one f))

  -- what the frame costs a node
  cost_more : (v : ℕ) → with_round s (ranks_in (state_at s f) v) f (state_at s f) v (with_scan (state_at s f v) (cost_after s f v)) ≡ cost_after s (f + 1) v
  cost_more v =
      let sent : ℕ → ℕ = λ g. over_round (λ x. slot_sent s.profile x v) s (rank_in (state_at s g v)) g (state_at s g) in
      let window : ℕ → ℕ = λ g. over_round (λ x. slot_window s.profile x v) s (rank_in (state_at s g v)) g (state_at s g) in
      let scan : ℕ → ℕ = λ g. if is_on_and (λ c. is_scan c.tune) (state_at s g v) then 1 else 0 in
      let of : ℕ → ℕ → ℕ → Cost = λ a b c. record { sent = a; windows = b; scanned = c } in
      ap (λ (a : ℕ). of a (sum_by window (range_with_len 0 f) + window f) (sum_by scan (range_with_len 0 f) + scan f)) (sym (sum_more sent f))
      ∙ ap (λ (b : ℕ). of (sum_by sent (range_with_len 0 (f + 1))) b (sum_by scan (range_with_len 0 f) + scan f)) (sym (sum_more window f))
      ∙ ap (λ (c : ℕ). of (sum_by sent (range_with_len 0 (f + 1))) (sum_by window (range_with_len 0 (f + 1))) c) (sym (sum_more scan f))

  pub costs_more : map (λ v. with_round s (ranks_in (state_at s f) v) f (state_at s f) v (with_scan (state_at s f v) (cost_after s f v))) (ids s.nodes)
      ≡ map (cost_after s (f + 1)) (ids s.nodes)
  costs_more = map_same (λ (v : ℕ). with_round s (ranks_in (state_at s f) v) f (state_at s f) v (with_scan (state_at s f v) (cost_after s f v)))
      (cost_after s (f + 1)) cost_more (ids s.nodes)

  pub delivered_more : deliveries_to s f ++ frame_deliveries s f (state_at s f) ≡ deliveries_to s (f + 1)
  delivered_more = sym (flat_more (λ g. frame_deliveries s g (state_at s g)) f)

  pub sent_more : sent_to s f ++ frame_sent s f (state_at s f) ≡ sent_to s (f + 1)
  sent_more = sym (flat_more (λ g. frame_sent s g (state_at s g)) f)

  pub power_next : (n : ℕ) → HavePower s (state_at s f) n → HavePower s (before_frame s (f + 1)) n
  power_next n have v =
      ap (λ (k : ℕ). power (before_frame s k v)) (add-one f) ∙ ap (λ (g : ℕ → State). power (g v)) (next_frame s f)
      ∙ ended_power s f v (rounds s f (state_at s f)) ∙ rounds_power s f (state_at s f) v ∙ have v

  -- it scanned in this many frames at most
  scanned_few : (v : ℕ) → (cost_after s f v).scanned ≤ f
  scanned_few v = omega (arith, count_by-le-length (λ g. is_on_and (λ c. is_scan c.tune) (state_at s g v)) (range_with_len 0 f), length-range_with_len 0 f)

  pub all_few : (cs : List Cost) → cs ≡ map (cost_after s f) (ids s.nodes) → All (λ c. c.scanned ≤ f) cs
  all_few cs are i d below =
      let near : i < length (ids s.nodes) = omega (arith, below, ap length are, length-map (ids s.nodes) (cost_after s f)) in
      subst (λ (c : Cost). c.scanned ≤ f) (sym (ap (λ (l : List Cost). get_or l i d) are ∙ get_or-map (cost_after s f) (ids s.nodes) i 0 d near))
      (scanned_few (get_or (ids s.nodes) i 0))

  pub ready_begun : (m : ℕ) (old new : Network) (states : ℕ → State) (cost : ℕ → Cost) → new.ids ≡ old.ids → new.nodes ≡ map with_round_rank old.nodes
      → length new.costs ≡ length old.costs
      → old.costs ≡ map cost (ids s.nodes) → new.costs ≡ map (λ v. with_scan (states v) (cost v)) (ids s.nodes) → IsReady s f m old → IsReady s f m new
  ready_begun m old new states cost same nodes size costs scanned ready = record {
    ids_are = same ∙ ready.ids_are;
    nodes_each = ap length nodes ∙ length-map old.nodes with_round_rank ∙ ready.nodes_each;
    costs_each = size ∙ ready.costs_each;
    early = λ i d below. (let near : i < length old.nodes = omega (arith, below, ap length nodes, length-map old.nodes with_round_rank) in
        subst (λ (x : BusNode). IsEarlyState f x.state) (sym (ap (λ (l : List BusNode). get_or l i d) nodes ∙ get_or-map with_round_rank old.nodes i d d near))
        (ready.early i d near));
    room = λ i d below.
        (let g : ℕ → Cost = λ v. with_scan (states v) (cost v) in
        let near : i < length (ids s.nodes) = omega (arith, below, ap length scanned, length-map (ids s.nodes) g) in
        let there : i < length old.costs = omega (arith, below, size) in
        let v : ℕ = get_or (ids s.nodes) i 0 in
        let before : IsBelow m (cost v) = subst (IsBelow m) (ap (λ (l : List Cost). get_or l i d) costs ∙ get_or-map cost (ids s.nodes) i 0 d near)
        (ready.room i d there) in
        subst (IsBelow m) (sym (ap (λ (l : List Cost). get_or l i d) scanned ∙ get_or-map g (ids s.nodes) i 0 d near))
        (record { sent = before.sent; windows = before.windows }));
  }

  pub ready_ended : (m : ℕ) (old new : Network) → new.ids ≡ old.ids → new.nodes ≡ map (ended_at f) old.nodes → new.costs ≡ old.costs → IsReady s f m old
      → IsReady s (f + 1) m new
  ready_ended m old new same nodes costs ready = record {
    ids_are = same ∙ ready.ids_are;
    nodes_each = ap length nodes ∙ length-map old.nodes (ended_at f) ∙ ready.nodes_each;
    costs_each = ap length costs ∙ ready.costs_each;
    early = λ i d below. (let near : i < length old.nodes = omega (arith, below, ap length nodes, length-map old.nodes (ended_at f)) in
        let x : BusNode = get_or old.nodes i d in
        subst (λ (y : BusNode). IsEarlyState (f + 1) y.state)
        (sym (ap (λ (l : List BusNode). get_or l i d) nodes ∙ get_or-map (ended_at f) old.nodes i d d near))
        (ended_early x.setup f x.state (ready.early i d near)));
    room = subst (λ (l : List Cost). All (IsBelow m) l) (sym costs) ready.room;
  }

-- before the first frame
module _ (s : ScenarioParts) where
  pub nodes_off : map (node_at_first s) (ids s.nodes) ≡ nodes_with s (prior_ranks s 0) (before_frame s 0)
  nodes_off =
      ap (λ (g : ℕ → State). nodes_with s (λ (v : ℕ). 0) g) (sym (first_frame s))
      ∙ ap (λ (r : ℕ → ℕ). nodes_with s r (before_frame s 0)) (sym (first_ranks s))

  pub power_off : HavePower s (before_frame s 0) 0
  power_off v = ap (λ (g : ℕ → State). power (g v)) (first_frame s)

  pub ready_off : IsReady s 0 (0 * 184)
      (record {
        ids = ids s.nodes;
        nodes = map (node_at_first s) (ids s.nodes);
        costs = map (λ (v : ℕ). no_cost) (ids s.nodes);
        deliveries = [];
        sent = [];
        floods = [];
      })
  ready_off = record {
    ids_are = refl;
    nodes_each = length-map (ids s.nodes) (node_at_first s) ∙ ids_each s;
    costs_each = length-map (ids s.nodes) (λ (v : ℕ). no_cost) ∙ ids_each s;
    early = λ i d below. (let near : i < length (ids s.nodes) = omega (arith, below, length-map (ids s.nodes) (node_at_first s)) in
        subst (λ (x : BusNode). IsEarlyState 0 x.state) (sym (get_or-map (node_at_first s) (ids s.nodes) i 0 d near)) tt);
    room = λ i d below. (let near : i < length (ids s.nodes) = omega (arith, below, length-map (ids s.nodes) (λ (v : ℕ). no_cost)) in
        subst (IsBelow 0) (sym (get_or-map (λ (v : ℕ). no_cost) (ids s.nodes) i 0 d near)) (record { sent = omega arith; windows = omega arith }));
  }

  pub cut_off : CountsLinesBefore s.script 0 0
  cut_off = record { within = omega arith; before = λ i d low. absurd (omega (arith, low)); from = λ i d high near. omega arith }

  -- after the last frame the script is over
  pub script_over : (said : IsOverScenario s) (n : ℕ) → CountsLinesBefore s.script s.frames n → puts_to s n ≡ bus_puts s
  script_over said n cut = elim (cases_lt n (length s.script)) [
    | inl less ↦ absurd (
        let d : ScriptLine = record { frame = 0; node = 0; act = Off } in
        let late = cut.from n d (omega arith) less in
        let line = (sound_over s said).script n d less in
        let early = line.in_run in
        omega (arith, late, early))
    | inr over ↦ ap (filter_map (put_at s)) (take_all n (enumerate_from 0 s.script) (omega (arith, over, length-enumerate_from 0 s.script)))
  ]
