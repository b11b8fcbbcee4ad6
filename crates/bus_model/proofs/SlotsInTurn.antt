-- The slots of a round, one after another.
use Rattle.std.proofs.Common.{◌≡◌, ◌≤◌, ◌<◌, ◌+◌, ◌++◌, ◌∷◌, ◌==◌, [], ℕ, List, Bool, true, false, if◌then◌else◌, Option, length, map, filter_map, flat_map}
use Rattle.std.proofs.Common.{get_or, option_to_list, sum_by, refl, sym, ◌∙◌, ap, arith, add-zero, append-nil, append_assoc, mul-le-mul_right}
use Rattle.std.specs.List.{range_with_len}
use Rattle.std.proofs.lemmas.List.Concat.{flat_map-append}
use Rattle.std.proofs.lemmas.List.Elements.{filter_map-append}
use Rattle.std.proofs.lemmas.List.FromFn.{get_or-map-range_with_len, length-map-range_with_len}
use Rattle.std.proofs.lemmas.List.Sums.{sum_by_push}
use Rattle.lwb_base.specs.Messages.{Plan}
use Rattle.lwb_base.proofs.Lists.{one_kept, range_next}
use Rattle.scenario_text.specs.ScenarioParts.{ScenarioParts}
use Rattle.bus_rules.specs.declared.part.Part.{Part}
use Rattle.bus_rules.specs.Plans.{last_slot}
use Rattle.bus_rules.specs.Slots.{part_of}
use Rattle.bus_rules.specs.States.{State}
use Rattle.bus_terms.specs.Bus.{Cost}
use Rattle.bus_terms.specs.Costs.{slot_sent, slot_window}
use Rattle.bus_terms.specs.FloodOfText.{ids}
use Rattle.bus_terms.specs.Rounds.{before_slot, slot_at}
use Rattle.plain_bus.specs.BusNodes.{nodes_in, nodes_before, ranks_in}
use Rattle.plain_bus.specs.Leaders.{slot_parts}
use Rattle.plain_bus.specs.Networks.{Network, IsReady, with_slot_at}
use Rattle.plain_bus.specs.SlotCosts.{IsBelow}
use Rattle.plain_bus.specs.RunFloods.{SlotFlood}
use Rattle.plain_bus.proofs.ListsInPlace.{map_more}
use Rattle.plain_bus.proofs.MembersOfSlots.{map_same}
use Rattle.bus_model.specs.RoundCosts.{with_slots}

-- room for more slots is room for fewer
below_more : (m n : ℕ) → m ≤ n → (c : Cost) → IsBelow m c → IsBelow n c
below_more m n le c is =
    let more = mul-le-mul_right 8388608 le in
    record { sent = (let first = is.sent in omega (arith, first, more)); windows = (let second = is.windows in omega (arith, second, more)) }

pub ready_more : (s : ScenarioParts) (f m n : ℕ) (x : Network) → m ≤ n → IsReady s f m x → IsReady s f n x
ready_more s f m n x le is = record {
  ids_are = is.ids_are;
  nodes_each = is.nodes_each;
  costs_each = is.costs_each;
  early = is.early;
  room = λ i d below. below_more m n le (get_or x.costs i d) (is.room i d below);
}

pub part_at : (p : Plan) (parts : List Part) (i : ℕ) (q : Part) → parts ≡ slot_parts p → i < length parts → q ≡ get_or parts i q → q ≡ part_of p i
part_at p parts i q are below at =
    let size : length parts ≡ last_slot p + 1 = ap length are ∙ length-map-range_with_len (part_of p) 0 (last_slot p + 1) in
    at ∙ ap (λ (l : List Part). get_or l i q) are ∙ get_or-map-range_with_len (part_of p) 0 (last_slot p + 1) i i q (omega (arith, below, size)) (omega arith)

pub parts_count : (p : Plan) (parts : List Part) → parts ≡ slot_parts p → length parts ≡ last_slot p + 1
parts_count p parts are = ap length are ∙ length-map-range_with_len (part_of p) 0 (last_slot p + 1)

first_slot : (s : ScenarioParts) (rank f : ℕ) (p : Plan) (start : ℕ → State) → before_slot s rank f p start 0 ≡ start
unfolding before_slot
first_slot s rank f p start = refl

pub before_first : (s : ScenarioParts) (rank f : ℕ) (p : Plan) (start others : ℕ → State) → nodes_in s rank start start others
    ≡ nodes_before s rank f p start others 0
before_first s rank f p start others = ap (λ (g : ℕ → State). nodes_in s rank start g others) (sym (first_slot s rank f p start))

pub flat_more : {X : Type 0} (g : ℕ → List X) (n : ℕ) → flat_map g (range_with_len 0 (n + 1)) ≡ flat_map g (range_with_len 0 n) ++ g n
flat_more g n = ap (flat_map g) (range_next n) ∙ flat_map-append g (range_with_len 0 n) (n ∷ []) ∙ ap (λ (l : List _). flat_map g (range_with_len 0 n) ++ l)
    (append-nil (g n))

pub kept_more : {X : Type 0} (g : ℕ → Option X) (n : ℕ)
    → filter_map g (range_with_len 0 (n + 1)) ≡ filter_map g (range_with_len 0 n) ++ option_to_list (g n)
kept_more g n = ap (filter_map g) (range_next n) ∙ filter_map-append g (range_with_len 0 n) (n ∷ [])
    ∙ ap (λ (l : List _). filter_map g (range_with_len 0 n) ++ l) (one_kept g n)

pub sum_more : (g : ℕ → ℕ) (n : ℕ) → sum_by g (range_with_len 0 (n + 1)) ≡ sum_by g (range_with_len 0 n) + g n
sum_more g n = ap (sum_by g) (range_next n) ∙ sum_by_push g (range_with_len 0 n) n

module _ (s : ScenarioParts) (rank f : ℕ) (p : Plan) (start : ℕ → State) where
  -- what v costs after one slot more
  slot_more : (n v : ℕ) (c : Cost) → with_slot_at s rank f p start n v (with_slots s rank f p start n v c) ≡ with_slots s rank f p start (n + 1) v c
  slot_more n v c =
      let sent : ℕ → ℕ = λ j. slot_sent s.profile (slot_at s rank f p start j) v in
      let window : ℕ → ℕ = λ j. slot_window s.profile (slot_at s rank f p start j) v in
      let of : ℕ → ℕ → Cost = λ a b. record c { sent = a; windows = b } in
      ap (λ (a : ℕ). of a (c.windows + sum_by window (range_with_len 0 n) + window n)) (omega (arith, sum_more sent n))
      ∙ ap (λ (b : ℕ). of (c.sent + sum_by sent (range_with_len 0 (n + 1))) b) (omega (arith, sum_more window n))

  no_slot : (v : ℕ) (c : Cost) → c ≡ with_slots s rank f p start 0 v c
  no_slot v c = ap (λ (a : ℕ). record c { sent = a }) (sym (add-zero c.sent)) ∙ ap (λ (b : ℕ). record c { sent = c.sent + 0; windows = b })
      (sym (add-zero c.windows))

  choose : (b : Bool) (x y z : Cost) → x ≡ y → (if b then x else z) ≡ (if b then y else z)
  choose b x y z is = ap (λ (c : Cost). if b then c else z) is

  pub costs_first : (cost : ℕ → Cost)
      → map cost (ids s.nodes) ≡ map (λ v. if ranks_in start v == rank then with_slots s rank f p start 0 v (cost v) else cost v) (ids s.nodes)
  costs_first cost = map_same cost (λ (v : ℕ). if ranks_in start v == rank then with_slots s rank f p start 0 v (cost v) else cost v)
      (λ v. both (ranks_in start v == rank) (cost v) ∙ choose (ranks_in start v == rank) (cost v) (with_slots s rank f p start 0 v (cost v)) (cost v)
      (no_slot v (cost v))) (ids s.nodes)
    where
      both : (b : Bool) (c : Cost) → c ≡ (if b then c else c)
      both true c = refl
      both false c = refl

  pub costs_more : (n : ℕ) (cost : ℕ → Cost)
      → map (λ v. if ranks_in start v == rank then with_slot_at s rank f p start n v
      (if ranks_in start v == rank then with_slots s rank f p start n v (cost v) else cost v) else (if ranks_in start v == rank then with_slots s rank f p
      start n v (cost v) else cost v)) (ids s.nodes)
      ≡ map (λ v. if ranks_in start v == rank then with_slots s rank f p start (n + 1) v (cost v) else cost v) (ids s.nodes)
  costs_more n cost = map_same
      (λ (v : ℕ). if ranks_in start v == rank then with_slot_at s rank f p start n v
      (if ranks_in start v == rank then with_slots s rank f p start n v (cost v) else cost v) else (if ranks_in start v == rank then with_slots s rank f p
      start n v (cost v) else cost v))
      (λ (v : ℕ). if ranks_in start v == rank then with_slots s rank f p start (n + 1) v (cost v) else cost v)
      (λ v. both (ranks_in start v == rank) (with_slot_at s rank f p start n v) (with_slots s rank f p start n v (cost v))
      (with_slots s rank f p start (n + 1) v (cost v)) (cost v) (slot_more n v (cost v))) (ids s.nodes)
    where
      both : (b : Bool) (g : Cost → Cost) (x y z : Cost) → g x ≡ y → (if b then g (if b then x else z) else (if b then x else z)) ≡ (if b then y else z)
      both true g x y z is = is
      both false g x y z is = refl

-- the floods of one slot more
pub slots_more : (g : ℕ → SlotFlood) (n : ℕ) (before : List SlotFlood)
    → (before ++ map g (range_with_len 0 n)) ++ g n ∷ [] ≡ before ++ map g (range_with_len 0 (n + 1))
slots_more g n before =
    append_assoc before (map g (range_with_len 0 n)) (g n ∷ [])
    ∙ ap (λ (l : List SlotFlood). before ++ l) (sym (ap (map g) (range_next n) ∙ map_more g (range_with_len 0 n) n))
