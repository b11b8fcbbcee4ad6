-- The losses of a step, node by node.
use Rattle.std.proofs.Common.{◌≡◌, ◌<◌, ◌+◌, ℕ, suc, List, [], ◌∷◌, ◌++◌, Bool, true, false, ◌&&◌, not, ◌==◌, cond}
use Rattle.std.proofs.Common.{filter, flat_map, is_some, map, take, length, get_or, refl, sym, ◌∙◌, ap, arith, append-nil, append_assoc}
use Rattle.std.specs.Int.{bit_at}
use Rattle.std.specs.List.{range_with_len}
use Rattle.std.proofs.lemmas.Grind.{flat_map-append}
use Rattle.std.proofs.lemmas.List.{get_or-map, map-append, take_more}
use Rattle.std.proofs.lemmas.List.Elements.{filter-append}
use Rattle.std.proofs.lemmas.Nat.Bits.{bit_at-zero}
use Rattle.lwb_base.proofs.Lists.{range_next}
use Rattle.lwb_base.proofs.Truths.{and_false}
use Rattle.link_trace.specs.Masks.{IsMask}
use Rattle.link_trace.specs.Passes.{Lines, passes}
use Rattle.bus_terms.specs.Flooding.{Moment, Setting, moment}
use Rattle.plain_bus.specs.FloodMasks.{station_at}
use Rattle.plain_bus.specs.declared.station.Station.{Station}
use Rattle.plain_bus.proofs.HeardByMasks.{bit_tells}
use Rattle.drawn_bus.specs.FloodLosses.{is_lost_in, line_at}
use Rattle.drawn_bus.specs.KeptLosses.{flood_over, receives_otherwise}
use Rattle.drawn_losses.specs.StepLosses.{losses_by, losses_of_step}

-- where a test fails at each node, it chooses none
pub none_chosen : (test : ℕ → Bool) (nodes : List ℕ) → ((i : ℕ) → i < length nodes → test (get_or nodes i 0) ≡ false) → filter test nodes ≡ []
none_chosen test [] fails = refl
none_chosen test (v ∷ nodes) fails =
    ap (λ (b : Bool). cond b (v ∷ filter test nodes) (filter test nodes)) (fails 0 (omega arith))
    ∙ none_chosen test nodes (λ i below. fails (suc i) (omega (arith, below)))

module _ {Y : Type 0} where
  -- where each node has none, all have none
  pub none_together : (g : ℕ → List Y) (nodes : List ℕ) → ((i : ℕ) → i < length nodes → g (get_or nodes i 0) ≡ []) → flat_map g nodes ≡ []
  none_together g [] none = refl
  none_together g (v ∷ nodes) none =
      ap (λ (l : List Y). l ++ flat_map g nodes) (none 0 (omega arith))
      ∙ none_together g nodes (λ i below. none (suc i) (omega (arith, below)))

  -- those of one node more
  pub together_more : (g : ℕ → List Y) (nodes : List ℕ) (i : ℕ) (old now new : List Y) → i < length nodes
      → now ≡ old ++ flat_map g (take i nodes) → new ≡ now ++ g (get_or nodes i 0)
      → new ≡ old ++ flat_map g (take (i + 1) nodes)
  together_more g nodes i old now new below before adds =
      let v = get_or nodes i 0 in
      adds ∙ ap (λ (l : List Y). l ++ g v) before ∙ append_assoc old (flat_map g (take i nodes)) (g v)
      ∙ ap (λ (l : List Y). old ++ l)
      (ap (λ (l : List Y). flat_map g (take i nodes) ++ l) (sym (append-nil (g v)))
      ∙ sym (flat_map-append g (take i nodes) (v ∷ [])) ∙ ap (flat_map g) (sym (take_more nodes i 0 below)))

  -- and of one node more, if the test chooses it
  abbrev chosen_of : (ℕ → Y) → (ℕ → Bool) → List ℕ → List Y
  chosen_of g test nodes = map g (filter test nodes)

  one_chosen : (g : ℕ → Y) (test : ℕ → Bool) (nodes : List ℕ) (i : ℕ) → i < length nodes
      → chosen_of g test (take (i + 1) nodes) ≡ chosen_of g test (take i nodes) ++ chosen_of g test (get_or nodes i 0 ∷ [])
  one_chosen g test nodes i below =
      let v = get_or nodes i 0 in
      ap (chosen_of g test) (take_more nodes i 0 below) ∙ ap (map g) (filter-append test (take i nodes) (v ∷ []))
      ∙ map-append g (filter test (take i nodes)) (filter test (v ∷ []))

  pub chosen_more : (g : ℕ → Y) (test : ℕ → Bool) (nodes : List ℕ) (i : ℕ) (old now new : List Y) → i < length nodes
      → now ≡ old ++ chosen_of g test (take i nodes) → test (get_or nodes i 0) ≡ true → new ≡ now ++ g (get_or nodes i 0) ∷ []
      → new ≡ old ++ chosen_of g test (take (i + 1) nodes)
  chosen_more g test nodes i old now new below before is adds =
      let v = get_or nodes i 0 in
      adds ∙ ap (λ (l : List Y). l ++ g v ∷ []) before ∙ append_assoc old (chosen_of g test (take i nodes)) (g v ∷ [])
      ∙ ap (λ (l : List Y). old ++ l)
      (ap (λ (b : Bool). chosen_of g test (take i nodes) ++ map g (cond b (v ∷ []) [])) (sym is) ∙ sym (one_chosen g test nodes i below))

  pub chosen_same : (g : ℕ → Y) (test : ℕ → Bool) (nodes : List ℕ) (i : ℕ) (old now : List Y) → i < length nodes
      → now ≡ old ++ chosen_of g test (take i nodes) → test (get_or nodes i 0) ≡ false
      → now ≡ old ++ chosen_of g test (take (i + 1) nodes)
  chosen_same g test nodes i old now below before is =
      let v = get_or nodes i 0 in
      before
      ∙ ap (λ (l : List Y). old ++ l)
      (sym (append-nil (chosen_of g test (take i nodes)))
      ∙ ap (λ (b : Bool). chosen_of g test (take i nodes) ++ map g (cond b (v ∷ []) [])) (sym is) ∙ sym (one_chosen g test nodes i below))

-- what a mask with no bit says
pub unset : (test : ℕ → Bool) (nodes : List ℕ) (mask : ℕ) → IsMask test nodes mask → mask ≡ 0 → (i : ℕ) → i < length nodes → test (get_or nodes i 0) ≡ false
unset test nodes mask is none i below =
    sym (bit_tells nodes test mask i is below) ∙ ap (λ (n : ℕ). bit_at n i == 1) none ∙ ap (λ (n : ℕ). n == 1) (bit_at-zero i)

-- the node of the station at a place
pub node_read : (m : Moment) (nodes : List ℕ) (xs : List Station) (i : ℕ) (x : Station) → xs ≡ map (station_at m) nodes → i < length nodes
    → x ≡ get_or xs i x → x.node ≡ get_or nodes i 0
node_read m nodes xs i x at below is =
    ap (λ (y : Station). y.node) (is ∙ ap (λ (l : List Station). get_or l i x) at ∙ get_or-map (station_at m) nodes i 0 x below)

-- where nobody sends, or nobody receives something else, nothing is lost
module _ (base : Lines) (f j : ℕ) (nodes : List ℕ) (x : Setting) (k : ℕ) where
  pub no_senders : (mask : ℕ) → IsMask (λ v. is_some ((moment x k).sends v)) nodes mask → mask ≡ 0 → losses_of_step base f j nodes x k ≡ []
  no_senders mask is none =
      none_together (losses_by base f j nodes x k) nodes
      (λ i below.
      let u = get_or nodes i 0 in
      ap (map (line_at f j k u))
      (none_chosen (is_lost_in base f j x k u) nodes
      (λ n there.
      let v = get_or nodes n 0 in
      ap (λ (b : Bool). b && (passes base f j k u v && not (x.passes k u v)) && receives_otherwise x (flood_over base f j x) k v)
      (unset (λ w. is_some ((moment x k).sends w)) nodes mask is none i below))))

  pub nobody_otherwise : (mask : ℕ) → IsMask (λ v. receives_otherwise x (flood_over base f j x) k v) nodes mask → mask ≡ 0
      → losses_of_step base f j nodes x k ≡ []
  nobody_otherwise mask is none =
      none_together (losses_by base f j nodes x k) nodes
      (λ i below.
      let u = get_or nodes i 0 in
      ap (map (line_at f j k u))
      (none_chosen (is_lost_in base f j x k u) nodes
      (λ n there.
      let v = get_or nodes n 0 in
      let lost : Bool = is_some ((moment x k).sends u) && (passes base f j k u v && not (x.passes k u v)) in
      ap (λ (b : Bool). lost && b) (unset (λ w. receives_otherwise x (flood_over base f j x) k w) nodes mask is none n there) ∙ and_false lost)))

-- those of one step more
pub steps_more : {Y : Type 0} (g : ℕ → List Y) (k : ℕ) (old now new : List Y) → now ≡ old ++ flat_map g (range_with_len 0 k) → new ≡ now ++ g k
    → new ≡ old ++ flat_map g (range_with_len 0 (k + 1))
steps_more {Y} g k old now new before adds =
    adds ∙ ap (λ (l : List Y). l ++ g k) before ∙ append_assoc old (flat_map g (range_with_len 0 k)) (g k)
    ∙ ap (λ (l : List Y). old ++ l)
    (ap (λ (l : List Y). flat_map g (range_with_len 0 k) ++ l) (sym (append-nil (g k)))
    ∙ sym (flat_map-append g (range_with_len 0 k) (k ∷ [])) ∙ ap (flat_map g) (sym (range_next k)))
