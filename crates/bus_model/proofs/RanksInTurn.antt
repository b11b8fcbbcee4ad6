-- The rounds of the ranks, one after another.
use Rattle.std.proofs.Common.{◌≡◌, ◌<◌, ◌+◌, ◌==◌, ℕ, List, Bool, true, false, nat_lt, inl, inr, Option, Some, None, if◌then◌else◌, map, sum_by, refl}
use Rattle.std.proofs.Common.{sym, ◌∙◌, ap, arith, add-zero}
use Rattle.std.specs.Option.{option_map, option_map_or}
use Rattle.std.proofs.lemmas.Bool.{cases_lt, cases_Bool, eqb-true, false≢true, lt-ltb, le-ltb, eq-eqb}
use Rattle.lwb_base.specs.Messages.{Plan}
use Rattle.scenario_text.specs.ScenarioParts.{ScenarioParts}
use Rattle.bus_rules.specs.declared.part.Part.{Part}
use Rattle.bus_rules.specs.States.{State}
use Rattle.bus_terms.specs.Bus.{Cost}
use Rattle.bus_terms.specs.Costs.{slot_sent, slot_window}
use Rattle.bus_terms.specs.FloodOfText.{ids}
use Rattle.bus_terms.specs.Rounds.{round_of_rank, rounds, slot_at, slots_of}
use Rattle.plain_bus.specs.BusNodes.{bus_node, mixed, nodes_in, ranks_in}
use Rattle.plain_bus.specs.Leaders.{slot_parts}
use Rattle.plain_bus.proofs.MembersOfSlots.{map_same}
use Rattle.bus_model.specs.FrameNodes.{nodes_with, run_below}
use Rattle.bus_model.specs.RoundCosts.{cost_below, with_round}

-- whether there is a round, by its parts
pub led_some : (o : Option Plan) (parts : List Part) → Some parts ≡ option_map slot_parts o → (p : Plan) × (o ≡ Some p) × (parts ≡ slot_parts p)
led_some None parts is = absurd (cc)
led_some (Some p) parts is = (p, refl, one parts (slot_parts p) is)
  where
    one : (a b : List Part) → Some a ≡ Some b → a ≡ b
    one a b is = cc

pub led_none : (o : Option Plan) → None ≡ option_map slot_parts o → o ≡ None
led_none None is = refl
led_none (Some p) is = absurd (cc)

-- the cost of a round by its plan
abbrev pub with_plan : ScenarioParts → ℕ → ℕ → (ℕ → State) → Option Plan → ℕ → Cost → Cost
with_plan s rank f states o v c = record c {
  sent = c.sent + option_map_or (λ p. sum_by (λ j. slot_sent s.profile (slot_at s rank f p states j) v) (slots_of p)) o 0;
  windows = c.windows + option_map_or (λ p. sum_by (λ j. slot_window s.profile (slot_at s rank f p states j) v) (slots_of p)) o 0;
}

pub no_round : (s : ScenarioParts) (rank f : ℕ) (states : ℕ → State) (cost : ℕ → Cost)
    → map cost (ids s.nodes) ≡ map (λ v. if ranks_in states v == rank then with_plan s rank f states None v (cost v) else cost v) (ids s.nodes)
no_round s rank f states cost = map_same cost (λ (v : ℕ). if ranks_in states v == rank then with_plan s rank f states None v (cost v) else cost v)
    (λ v. both (ranks_in states v == rank) (cost v)) (ids s.nodes)
  where
    both : (b : Bool) (c : Cost) → c ≡ (if b then record c { sent = c.sent + 0; windows = c.windows + 0 } else c)
    both true c = ap (λ (a : ℕ). record c { sent = a }) (sym (add-zero c.sent)) ∙ ap (λ (b : ℕ). record c { sent = c.sent + 0; windows = b })
        (sym (add-zero c.windows))
    both false c = refl

below_other : (a r : ℕ) → (a == r) ≡ false → nat_lt a (r + 1) ≡ nat_lt a r
below_other a r other = elim (cases_lt a r) [
  | inl less ↦ lt-ltb a (r + 1) (omega (arith, less)) ∙ sym (lt-ltb a r less)
  | inr more ↦ (
      let above : r < a = elim (cases_lt r a) [
        | inl above ↦ above
        | inr same ↦ absurd (false≢true (sym other ∙ eq-eqb a r (omega (arith, more, same))))
      ] in
      le-ltb a (r + 1) (omega (arith, above)) ∙ sym (le-ltb a r more)
      )
]

module _ (s : ScenarioParts) (f : ℕ) (start : ℕ → State) (r : ℕ) where
  -- what is so of the nodes of this rank, of those of lower ranks, and of the others
  entered : {X : Type 0} (a : ℕ) (old new : X) → (if a == r then old else (if nat_lt a r then new else old)) ≡ (if nat_lt a r then new else old)
  entered a old new = elim (cases_Bool (a == r)) [
    | inl same ↦ (
        let is = eqb-true a r same in
        let none : nat_lt a r ≡ false = le-ltb a r (omega (arith, is)) in
        ap (λ (b : Bool). if b then old else (if nat_lt a r then new else old)) same ∙ sym (ap (λ (b : Bool). if b then new else old) none)
        )
    | inr other ↦ ap (λ (b : Bool). if b then old else (if nat_lt a r then new else old)) other
  ]

  left : {X : Type 0} (a : ℕ) (old new here : X) → ((a == r) ≡ true → here ≡ new) → (if a == r then here else (if nat_lt a r then new else old))
      ≡ (if nat_lt a (r + 1) then new else old)
  left a old new here same_rank = elim (cases_Bool (a == r)) [
    | inl same ↦ (
        let is = eqb-true a r same in
        ap (λ (b : Bool). if b then here else (if nat_lt a r then new else old)) same ∙ same_rank same
        ∙ sym (ap (λ (b : Bool). if b then new else old) (lt-ltb a (r + 1) (omega (arith, is))))
        )
    | inr other ↦ (
        ap (λ (b : Bool). if b then here else (if nat_lt a r then new else old)) other
        ∙ ap (λ (b : Bool). if b then new else old) (sym (below_other a r other))
        )
  ]

  pub enters : nodes_with s (ranks_in start) (run_below s f start r) ≡ nodes_in s r start start (run_below s f start r)
  enters = map_same (bus_node s (ranks_in start) (run_below s f start r)) (bus_node s (ranks_in start) (mixed r (ranks_in start) start (run_below s f start r)))
      (λ v. ap (λ (x : State). bus_node s (ranks_in start) (λ (u : ℕ). x) v) (sym (entered (ranks_in start v) (start v) (rounds s f start v)))) (ids s.nodes)

  pub leaves : nodes_in s r start (round_of_rank s r f start) (run_below s f start r) ≡ nodes_with s (ranks_in start) (run_below s f start (r + 1))
  leaves = map_same (bus_node s (ranks_in start) (mixed r (ranks_in start) (round_of_rank s r f start) (run_below s f start r)))
      (bus_node s (ranks_in start) (run_below s f start (r + 1)))
      (λ v. ap (λ (x : State). bus_node s (ranks_in start) (λ (u : ℕ). x) v)
      (left (ranks_in start v) (start v) (rounds s f start v) (round_of_rank s r f start v)
      (λ same. ap (λ (k : ℕ). round_of_rank s k f start v) (sym (eqb-true (ranks_in start v) r same))))) (ids s.nodes)

  pub costs_left : (cost : ℕ → Cost)
      → map (λ v. if ranks_in start v == r then with_round s r f start v (cost_below s f start r cost v) else cost_below s f start r cost v) (ids s.nodes)
      ≡ map (cost_below s f start (r + 1) cost) (ids s.nodes)
  costs_left cost = map_same
      (λ (v : ℕ). if ranks_in start v == r then with_round s r f start v (cost_below s f start r cost v) else cost_below s f start r cost v)
      (cost_below s f start (r + 1) cost)
      (λ v. left (ranks_in start v) (cost v) (with_round s (ranks_in start v) f start v (cost v)) (with_round s r f start v (cost_below s f start r cost v))
      (λ same. (let is = eqb-true (ranks_in start v) r same in
      ap (λ (b : Bool). with_round s r f start v (if b then with_round s (ranks_in start v) f start v (cost v) else cost v))
      (le-ltb (ranks_in start v) r (omega (arith, is)))
      ∙ ap (λ (k : ℕ). with_round s k f start v (cost v)) (sym is)))) (ids s.nodes)

module _ (s : ScenarioParts) (f : ℕ) (start : ℕ → State) where
  none_below : {X : Type 0} (a : ℕ) (old new : X) → old ≡ (if nat_lt a 0 then new else old)
  none_below a old new = sym (ap (λ (b : Bool). if b then new else old) (le-ltb a 0 (omega arith)))

  pub none_run : nodes_with s (ranks_in start) start ≡ nodes_with s (ranks_in start) (run_below s f start 0)
  none_run = map_same (bus_node s (ranks_in start) start) (bus_node s (ranks_in start) (run_below s f start 0))
      (λ v. ap (λ (x : State). bus_node s (ranks_in start) (λ (u : ℕ). x) v) (none_below (ranks_in start v) (start v) (rounds s f start v))) (ids s.nodes)

  pub none_charged : (cost : ℕ → Cost) → map cost (ids s.nodes) ≡ map (cost_below s f start 0 cost) (ids s.nodes)
  none_charged cost = map_same cost (cost_below s f start 0 cost)
      (λ v. none_below (ranks_in start v) (cost v) (with_round s (ranks_in start v) f start v (cost v))) (ids s.nodes)

  module _ (n : ℕ) (ranked : (v : ℕ) → ranks_in start v < n) where
    pub all_run : nodes_with s (ranks_in start) (run_below s f start n) ≡ nodes_with s (ranks_in start) (rounds s f start)
    all_run = map_same (bus_node s (ranks_in start) (run_below s f start n)) (bus_node s (ranks_in start) (rounds s f start))
        (λ v. ap (λ (x : State). bus_node s (ranks_in start) (λ (u : ℕ). x) v)
        (ap (λ (b : Bool). if b then rounds s f start v else start v) (lt-ltb (ranks_in start v) n (ranked v)))) (ids s.nodes)

    pub all_charged : (cost : ℕ → Cost) → map (cost_below s f start n cost) (ids s.nodes) ≡ map (λ v. with_round s (ranks_in start v) f start v (cost v))
        (ids s.nodes)
    all_charged cost = map_same (cost_below s f start n cost) (λ (v : ℕ). with_round s (ranks_in start v) f start v (cost v))
        (λ v. ap (λ (b : Bool). if b then with_round s (ranks_in start v) f start v (cost v) else cost v) (lt-ltb (ranks_in start v) n (ranked v)))
        (ids s.nodes)
