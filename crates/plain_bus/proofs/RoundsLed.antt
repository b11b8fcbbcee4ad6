-- The leader of a round, found among the nodes as the code has them.
use Rattle.std.proofs.Common.{◌≡◌, ◌<◌, ◌+◌, ◌==◌, ◌∷◌, [], ℕ, zero, suc, List, Bool, true, false, inl, inr, Option, Some, None, if◌then◌else◌, length, map}
use Rattle.std.proofs.Common.{take, get_or, refl, sym, ◌∙◌, ap, arith, add-one, option_and_then}
use Rattle.std.specs.List.{find}
use Rattle.std.specs.Option.{option_map, option_or}
use Rattle.std.proofs.lemmas.Bool.{false≢true, cases_Bool}
use Rattle.scenario_text.specs.ScenarioParts.{ScenarioParts}
use Rattle.bus_rules.specs.declared.part.Part.{Part}
use Rattle.bus_rules.specs.Cores.{Core}
use Rattle.bus_rules.specs.States.{State, StateOff, StateOn}
use Rattle.bus_rules.specs.Tuning.{rank_of, hosts_in, holds_in}
use Rattle.bus_rules.proofs.Ranks.{hosts_rank, holds_rank}
use Rattle.bus_terms.specs.FloodOfText.{ids}
use Rattle.bus_terms.specs.Rounds.{plan_in, rank_in, round_plan}
use Rattle.bus_terms.specs.ScriptedStates.{is_on_and}
use Rattle.plain_bus.specs.BusNodes.{BusNode, bus_node, mixed, ranks_in, shown, nodes_in}
use Rattle.plain_bus.specs.Leaders.{holds, leads, parts_at, parts_in, slot_parts}

-- a search, step by step
module _ {X : Type 0} (p : X → Bool) where
  by_test : (b : Bool) (x : X) (o : Option X) → b ≡ false → (if b then Some x else o) ≡ o
  by_test false x o is = refl
  by_test true x o is = absurd (false≢true (sym is))

  pub none_more : (xs : List X) (i : ℕ) (d : X) → i < length xs → find p (take i xs) ≡ None → p (get_or xs i d) ≡ false → find p (take (i + 1) xs) ≡ None
  none_more xs i d below none not = ap (λ (n : ℕ). find p (take n xs)) (add-one i) ∙ by_place xs i below none not
    where
      rest : (b : Bool) (x : X) (o : Option X) → (if b then Some x else o) ≡ None → (b ≡ false) × (o ≡ None)
      rest true x o is = absurd (cc)
      rest false x o is = (refl, is)

      by_place : (xs : List X) (i : ℕ) → i < length xs → find p (take i xs) ≡ None → p (get_or xs i d) ≡ false → find p (take (suc i) xs) ≡ None
      by_place [] i below none not = absurd (omega (arith, below))
      by_place (x ∷ xs) zero below none not = by_test (p x) x None not
      by_place (x ∷ xs) (suc i) below none not =
          let r = rest (p x) x (find p (take i xs)) none in
          ap (λ (b : Bool). if b then Some x else find p (take (suc i) xs)) r.0 ∙ by_place xs i (omega (arith, below)) r.1 not

  pub found_at : (xs : List X) (i : ℕ) (d : X) → i < length xs → find p (take i xs) ≡ None → p (get_or xs i d) ≡ true → find p xs ≡ Some (get_or xs i d)
  found_at xs i d = by_place xs i
    where
      rest : (b : Bool) (x : X) (o : Option X) → (if b then Some x else o) ≡ None → (b ≡ false) × (o ≡ None)
      rest true x o is = absurd (cc)
      rest false x o is = (refl, is)

      by_place : (xs : List X) (i : ℕ) → i < length xs → find p (take i xs) ≡ None → p (get_or xs i d) ≡ true → find p xs ≡ Some (get_or xs i d)
      by_place [] i below none is = absurd (omega (arith, below))
      by_place (x ∷ xs) zero below none is = ap (λ (b : Bool). if b then Some x else find p xs) is
      by_place (x ∷ xs) (suc i) below none is =
          let r = rest (p x) x (find p (take i xs)) none in
          ap (λ (b : Bool). if b then Some x else find p xs) r.0 ∙ by_place xs i (omega (arith, below)) r.1 is

  pub found_passes : (xs : List X) (x : X) → find p xs ≡ Some x → p x ≡ true
  found_passes [] x is = absurd (cc)
  found_passes (y ∷ xs) x is = elim (cases_Bool (p y)) [
    | inl passes ↦ (let same : y ≡ x = one y x (sym (ap (λ (b : Bool). if b then Some y else find p xs) passes) ∙ is) in ap p (sym same) ∙ passes)
    | inr fails ↦ found_passes xs x (sym (ap (λ (b : Bool). if b then Some y else find p xs) fails) ∙ is)
  ]
    where
      one : (y x : X) → Some y ≡ Some x → y ≡ x
      one y x is = cc

pub find_mapped : {X Y : Type 0} (p : Y → Bool) (g : X → Y) (xs : List X) → find p (map g xs) ≡ option_map g (find (λ x. p (g x)) xs)
find_mapped p g [] = refl
find_mapped p g (x ∷ xs) = by_first (p (g x)) (find_mapped p g xs)
  where
    by_first : (b : Bool) → find p (map g xs) ≡ option_map g (find (λ x. p (g x)) xs) → (if b then Some (g x) else find p (map g xs))
        ≡ option_map g (if b then Some x else find (λ x. p (g x)) xs)
    by_first true rest = refl
    by_first false rest = rest

-- a test of a node's tune that only those of this rank pass
module _ (rank : ℕ) (test : Core → Bool) (ranked : (c : Core) → test c ≡ true → (rank_of c.tune == rank) ≡ true) where
  on_rank : (x : State) → is_on_and test x ≡ true → (rank_in x == rank) ≡ true
  on_rank (StateOff boots) is = absurd (false≢true is)
  on_rank (StateOn c) is = ranked c is

  same_test : (x other : State) (r : Bool) → (rank_in x == rank) ≡ r → is_on_and test (if r then (if r then x else other) else StateOff 0) ≡ is_on_and test x
  same_test x other true is = refl
  same_test x other false is = elim (cases_Bool (is_on_and test x)) [
    | inl passes ↦ absurd (false≢true (sym is ∙ on_rank x passes))
    | inr fails ↦ sym fails
  ]

  parts_same : (x other : State) (r : Bool) → (rank_in x == rank) ≡ r → is_on_and test x ≡ true → option_map slot_parts (plan_in x)
      ≡ Some (parts_in (if r then x else other))
  parts_same (StateOff boots) other r at is = absurd (false≢true is)
  parts_same (StateOn c) other true at is = refl
  parts_same (StateOn c) other false at is = absurd (false≢true (sym at ∙ ranked c is))

  module _ (s : ScenarioParts) (start others : ℕ → State) where
    abbrev node : ℕ → BusNode
    node v = bus_node s (ranks_in start) (mixed rank (ranks_in start) start others) v

    pub found_as : option_map parts_at (find (λ n. is_on_and test (shown rank n)) (map node (ids s.nodes)))
        ≡ option_and_then (λ v. option_map slot_parts (plan_in (start v))) (find (λ v. is_on_and test (start v)) (ids s.nodes))
    found_as =
        ap (option_map parts_at) (find_mapped (λ n. is_on_and test (shown rank n)) node (ids s.nodes)
        ∙ (λ i. option_map node (find (λ v. same_test (start v) (others v) (ranks_in start v == rank) refl i) (ids s.nodes))))
        ∙ by_found (find (λ v. is_on_and test (start v)) (ids s.nodes)) refl
      where
        by_found : (o : Option ℕ) → find (λ v. is_on_and test (start v)) (ids s.nodes) ≡ o
            → option_map parts_at (option_map node o) ≡ option_and_then (λ v. option_map slot_parts (plan_in (start v))) o
        by_found None is = refl
        by_found (Some v) is = sym (parts_same (start v) (others v) (ranks_in start v == rank) refl
            (found_passes (λ u. is_on_and test (start u)) (ids s.nodes) v is))

abbrev parts_by : (ℕ → State) → Option ℕ → Option (List Part)
parts_by start o = option_and_then (λ v. option_map slot_parts (plan_in (start v))) o

-- the plan of the host that is found, or else that of the synchronized member
both_found : (h o : Option ℕ) (start : ℕ → State) → ((v : ℕ) → h ≡ Some v → (ps : List Part) × (option_map slot_parts (plan_in (start v)) ≡ Some ps))
    → option_or (parts_by start h) (parts_by start o) ≡ option_map slot_parts (option_and_then (λ v. plan_in (start v)) (option_or h o))
both_found None None start some = refl
both_found None (Some u) start some = refl
both_found (Some v) o start some = let ps = some v refl in ap (λ (l : Option (List Part)). option_or l (parts_by start o)) ps.1 ∙ sym ps.1

pub led : (s : ScenarioParts) (rank f : ℕ) (start others : ℕ → State) (nodes : List BusNode) → nodes ≡ nodes_in s rank start start others
    → option_or (option_map parts_at (find (leads rank f) nodes)) (option_map parts_at (find (holds rank f) nodes))
    ≡ option_map slot_parts (round_plan s rank f start)
led s rank f start others nodes are =
    let hosting : Core → Bool = λ c. hosts_in rank f c.tune in
    let holding : Core → Bool = λ c. holds_in rank f c.tune in
    ap (λ (l : List BusNode). option_or (option_map parts_at (find (leads rank f) l)) (option_map parts_at (find (holds rank f) l))) are
    ∙ ap (λ (o : Option (List Part)). option_or o (option_map parts_at (find (holds rank f) (nodes_in s rank start start others))))
    (found_as rank hosting (λ c is. hosts_rank rank f c.tune is) s start others)
    ∙ ap (λ (o : Option (List Part)). option_or (parts_by start (find (λ v. is_on_and hosting (start v)) (ids s.nodes))) o)
    (found_as rank holding (λ c is. holds_rank rank f c.tune is) s start others)
    ∙ both_found (find (λ v. is_on_and hosting (start v)) (ids s.nodes)) (find (λ v. is_on_and holding (start v)) (ids s.nodes)) start
    (λ v is. (
      parts_in (if ranks_in start v == rank then start v else others v),
      parts_same rank hosting (λ c test. hosts_rank rank f c.tune test) (start v) (others v) (ranks_in start v == rank) refl
          (found_passes (λ u. is_on_and hosting (start u)) (ids s.nodes) v is),
    ))
