-- Who leads a round of the bus, and by which plan it goes.
use Rattle.std.proofs.Common.{◌≡◌, ℕ, List, [], ◌∷◌, Bool, true, ◌==◌, inl, inr, Option, Some, None, find, option_and_then, refl, sym, ◌∙◌, ap, subst}
use Rattle.std.proofs.Common.{eq-eqb, true≢false}
use Rattle.std.specs.Option.{option_or}
use Rattle.std.proofs.lemmas.Bool.{cases_Bool, cond-true, cond-false, or_cases, or_left, or_right, eqb-true, false≢true}
use Rattle.lwb_base.specs.Messages.{Plan}
use Rattle.scenario_text.specs.ScenarioParts.{ScenarioParts}
use Rattle.scenario_text.specs.FloodParts.{knows}
use Rattle.bus_rules.specs.Tuning.{hosts_in, holds_in}
use Rattle.bus_rules.specs.Cores.{Core}
use Rattle.bus_rules.specs.States.{State, StateOff, StateOn}
use Rattle.bus_terms.specs.FloodOfText.{ids}
use Rattle.bus_terms.specs.Flooding.{has}
use Rattle.bus_terms.specs.ScriptedStates.{is_on_and}
use Rattle.bus_terms.specs.Rounds.{plan_in, first_node, round_plan}
use Rattle.law_bus.proofs.MembersByTune.{leads_by}
use Rattle.lwb_flood.proofs.LogEntries.{ids_known}

-- the first that passes
module _ (test : ℕ → Bool) where
  pub record IsFound (xs : List ℕ) (o : Option ℕ) : Type 0 where
    pub node : ℕ
    pub is : o ≡ Some node
    pub passes : test node ≡ true
    pub there : has xs node ≡ true

  pub found : (xs : List ℕ) (v : ℕ) → has xs v ≡ true → test v ≡ true → IsFound xs (find test xs)
  found [] v there is = absurd (false≢true there)
  found (x ∷ xs) v there is =
      elim (cases_Bool (test x)) [
        | inl passes ↦ record {
          node = x;
          is = cond-true (test x) (Some x)
              (find test xs) passes;
          passes = passes;
          there = or_left (x == x) _ (eq-eqb x x refl);
        }
        | inr fails ↦
            (let later : has xs v ≡ true = elim (or_cases (x == v) _ there) [
              | inl same ↦ absurd (true≢false (sym is ∙ ap test (sym (eqb-true x v same)) ∙ fails))
              | inr later ↦ later
            ] in
            let more = found xs v later is in
            record {
              node = more.node;
              is = cond-false (test x) (Some x) (find test xs) fails
                  ∙ more.is;
              passes = more.passes;
              there = or_right (x == more.node) _ more.there;
            })
      ]

  pub found_so : (xs : List ℕ) (u : ℕ) → find test xs ≡ Some u → (test u ≡ true) × (has xs u ≡ true)
  found_so [] u is = absurd (none_is is)
    where
      none_is : ◌≡◌ {A = Option ℕ} None (Some u) → ⊥
      none_is is = cc
  found_so (x ∷ xs) u is =
      elim (cases_Bool (test x)) [
        | inl passes ↦
            (let same : x ≡ u = same_one (sym (cond-true (test x) (Some x) (find test xs) passes) ∙ is) in
            (subst (λ (w : ℕ). test w ≡ true) same passes, or_left (x == u) _ (eq-eqb x u same)))
        | inr fails ↦
            (let more = found_so xs u (sym (cond-false (test x) (Some x) (find test xs) fails) ∙ is) in
            (more.0, or_right (x == u) _ more.1))
      ]
    where
      same_one : ◌≡◌ {A = Option ℕ} (Some x) (Some u) → x ≡ u
      same_one is = cc

module _ (s : ScenarioParts) (rank f : ℕ) (states : ℕ → State) where
  -- a node that leads the round, by this plan
  pub record IsLeader (p : Plan) : Type 0 where
    pub node : ℕ
    pub known : knows s.nodes node ≡ true
    pub core : Core
    pub on : states node ≡ StateOn core
    pub leads : leads_by rank f core.tune ≡ true
    pub plan : core.plan ≡ p

  abbrev hosting : State → Bool
  hosting x = is_on_and (λ c. hosts_in rank f c.tune) x

  abbrev holding : State → Bool
  holding x = is_on_and (λ c. holds_in rank f c.tune) x

  abbrev all : List ℕ
  all = ids s.nodes

  same_plan : (p q : Plan) → ◌≡◌ {A = Option Plan} (Some p) (Some q) → p ≡ q
  same_plan p q is = cc

  no_plan_so : (p : Plan) → ◌≡◌ {A = Option Plan} None (Some p) → ⊥
  no_plan_so p is = cc

  led_by : (test : Core → Bool) → ((c : Core) → test c ≡ true → leads_by rank f c.tune ≡ true) → (u : ℕ) (p : Plan) → has all u ≡ true
      → (x : State) → states u ≡ x → is_on_and test x ≡ true → plan_in x ≡ Some p → IsLeader p
  led_by test leads u p there (StateOff boots) at passes is = absurd (false≢true passes)
  led_by test leads u p there (StateOn c) at passes is =
      record { node = u; known = sym (ids_known s.nodes u) ∙ there; core = c; on = at; leads = leads c passes; plan = same_plan c.plan p is }

  led : (test : Core → Bool) → ((c : Core) → test c ≡ true → leads_by rank f c.tune ≡ true) → (u : ℕ) (p : Plan)
      → first_node s (is_on_and test) states ≡ Some u → plan_in (states u) ≡ Some p → IsLeader p
  led test leads u p first is =
      let so = found_so (λ (v : ℕ). is_on_and test (states v)) all u first in
      led_by test leads u p so.1 (states u) refl so.0 is

  by_leader : (a b : Option ℕ) → first_node s hosting states ≡ a → first_node s holding states ≡ b → (p : Plan)
      → option_and_then (λ v. plan_in (states v)) (option_or a b) ≡ Some p → IsLeader p
  by_leader (Some u) b first second p is = led (λ c. hosts_in rank f c.tune) (λ c hosts. or_left _ _ hosts) u p first is
  by_leader None (Some u) first second p is = led (λ c. holds_in rank f c.tune) (λ c holds. or_right (hosts_in rank f c.tune) _ holds) u p second is
  by_leader None None first second p is = absurd (no_plan_so p is)

  -- a round has a leader
  pub leader_of : (p : Plan) → round_plan s rank f states ≡ Some p → IsLeader p
  leader_of p is = by_leader (first_node s hosting states) (first_node s holding states) refl refl p is

  -- and where some node leads there is a round
  abbrev HasPlan : Option ℕ → Type 0
  HasPlan o = (p : Plan) × (option_and_then (λ v. plan_in (states v)) o ≡ Some p)

  plan_so : (test : Core → Bool) (u : ℕ) (x : State) → states u ≡ x → is_on_and test x ≡ true → HasPlan (Some u)
  plan_so test u (StateOff boots) at passes = absurd (false≢true passes)
  plan_so test u (StateOn c) at passes = (c.plan, ap plan_in at)

  passes_on : (test : Core → Bool) (v : ℕ) (c : Core) → states v ≡ StateOn c → test c ≡ true → is_on_and test (states v) ≡ true
  passes_on test v c on is = ap (λ (x : State). is_on_and test x) on ∙ is

  host_first : (a b : Option ℕ) → (u : ℕ) → a ≡ Some u → hosting (states u) ≡ true → HasPlan (option_or a b)
  host_first a b u is passes = subst (λ (o : Option ℕ). HasPlan (option_or o b)) (sym is) (plan_so (λ c. hosts_in rank f c.tune) u (states u) refl passes)

  holder_next : (a b : Option ℕ) → first_node s hosting states ≡ a → (u : ℕ) → b ≡ Some u → holding (states u) ≡ true → HasPlan (option_or a b)
  holder_next None b first u is passes = subst HasPlan (sym is) (plan_so (λ c. holds_in rank f c.tune) u (states u) refl passes)
  holder_next (Some w) b first u is passes =
      (let so = found_so (λ (v : ℕ). hosting (states v)) all w first in plan_so (λ c. hosts_in rank f c.tune) w (states w) refl so.0)

  pub has_round : (v : ℕ) (c : Core) → knows s.nodes v ≡ true → states v ≡ StateOn c → leads_by rank f c.tune ≡ true
      → (p : Plan) × (round_plan s rank f states ≡ Some p)
  has_round v c known on leads =
      let there : has all v ≡ true = ids_known s.nodes v ∙ known in
      elim (or_cases (hosts_in rank f c.tune) _ leads) [
        | inl hosts ↦
            (let one = found (λ (u : ℕ). hosting (states u)) all v there (passes_on (λ c. hosts_in rank f c.tune) v c on hosts) in
            host_first (first_node s hosting states) (first_node s holding states) one.node one.is one.passes)
        | inr holds ↦
            (let one = found (λ (u : ℕ). holding (states u)) all v there (passes_on (λ c. holds_in rank f c.tune) v c on holds) in
            holder_next (first_node s hosting states) (first_node s holding states) refl one.node one.is one.passes)
      ]
