-- All latencies that may be stand in order.
use Rattle.std.proofs.Common.{◌≡◌, ◌<◌, ℕ, List, [], ◌∷◌, flat_map, map, refl, sym, ◌∙◌, arith}
use Rattle.std.specs.Cmp.{nat_cmp_is}
use Rattle.std.specs.List.{AllByRecursion}
use Rattle.std.specs.List.Sorted.{IsStrictlySortedBy}
use Rattle.std.specs.Ordering.{nat_cmp, ordering_then}
use Rattle.std.specs.declared.cmp.Ordering.{Ordering}
use Rattle.std.specs.declared.cmp.Ordering.TheVariants.{Less, Equal}
use Rattle.scenario_text.specs.FloodDrafts.{Climbs}
use Rattle.scenario_text.specs.ScenarioParts.{ScenarioParts}
use Rattle.bus_terms.specs.Bus.{frames_of}
use Rattle.bus_terms.specs.Fates.{all_latencies, streams}
use Rattle.bus_terms.specs.FloodOfText.{ids}
use Rattle.bus_terms.specs.declared.packets.Latency.{Latency}
use Rattle.bus_terms.proofs.ListsInTurn.{each_of_pieces, pieces_in_turn, range_in_turn}
use Rattle.packet_fates.specs.Latencies.{latency_cmp}

abbrev pub Below : Latency → Latency → Type 0
Below a b = latency_cmp a b ≡ Less

abbrev pub latency : ℕ → ℕ → ℕ → ℕ → Latency
latency v i w n = record { node = v; stream = i; at = w; frames = n }

below_by_frames : (a b : Latency) → a.node ≡ b.node → a.stream ≡ b.stream → a.at ≡ b.at → a.frames < b.frames → Below a b
below_by_frames a b node stream at less =
    let p = nat_cmp_is a.node b.node Equal node in
    let q = nat_cmp_is a.stream b.stream Equal stream in
    let r = nat_cmp_is a.at b.at Equal at in
    let t = nat_cmp_is a.frames b.frames Less less in
    sym (λ k. ordering_then (p k) (ordering_then (q k) (ordering_then (r k) (t k))))

below_by_receiver : (a b : Latency) → a.node ≡ b.node → a.stream ≡ b.stream → a.at < b.at → Below a b
below_by_receiver a b node stream less =
    let p = nat_cmp_is a.node b.node Equal node in
    let q = nat_cmp_is a.stream b.stream Equal stream in
    let r = nat_cmp_is a.at b.at Less less in
    sym (λ k. ordering_then (p k) (ordering_then (q k) (ordering_then (r k) (nat_cmp a.frames b.frames))))

below_by_stream : (a b : Latency) → a.node ≡ b.node → a.stream < b.stream → Below a b
below_by_stream a b node less =
    let p = nat_cmp_is a.node b.node Equal node in
    let q = nat_cmp_is a.stream b.stream Less less in
    sym (λ k. ordering_then (p k) (ordering_then (q k) (ordering_then (nat_cmp a.at b.at) (nat_cmp a.frames b.frames))))

below_by_node : (a b : Latency) → a.node < b.node → Below a b
below_by_node a b less =
    let p = nat_cmp_is a.node b.node Less less in
    sym (λ k. ordering_then (p k) (ordering_then (nat_cmp a.stream b.stream) (ordering_then (nat_cmp a.at b.at) (nat_cmp a.frames b.frames))))

-- ---- what a map gives, in the order of what it was given
each_mapped : {X Y : Type 0} (P : Y → Type 0) (g : X → Y) → ((x : X) → P (g x)) → (xs : List X) → AllByRecursion P (map g xs)
each_mapped P g holds [] = tt
each_mapped P g holds (x ∷ xs) = (holds x, each_mapped P g holds xs)

module _ {X Y : Type 0} (S : X → X → Type 0) (R : Y → Y → Type 0) (g : X → Y) (across : (x y : X) → S x y → R (g x) (g y)) where
  mapped_after : (x : X) (ys : List X) → AllByRecursion (S x) ys → AllByRecursion (R (g x)) (map g ys)
  mapped_after x [] after = tt
  mapped_after x (y ∷ ys) after = (across x y after.0, mapped_after x ys after.1)

  mapped_in_turn : (xs : List X) → Climbs S xs → Climbs R (map g xs)
  mapped_in_turn [] is = tt
  mapped_in_turn (x ∷ xs) is = (mapped_after x xs is.0, mapped_in_turn xs is.1)

-- ---- level by level, where these are the frames and the nodes
module _ (frames nodes : List ℕ) (frames_climb : Climbs (λ x y. x < y) frames) (nodes_climb : Climbs (λ x y. x < y) nodes) where
  abbrev at_receiver : ℕ → ℕ → ℕ → List Latency
  at_receiver v i w = map (latency v i w) frames

  abbrev of_stream : ℕ → ℕ → List Latency
  of_stream v i = flat_map (at_receiver v i) nodes

  abbrev of_node : ℕ → List Latency
  of_node v = flat_map (of_stream v) streams

  abbrev AtReceiver : ℕ → ℕ → ℕ → Latency → Type 0
  AtReceiver v i w a = (a.node ≡ v) × (a.stream ≡ i) × (a.at ≡ w)

  abbrev OfStream : ℕ → ℕ → Latency → Type 0
  OfStream v i a = (a.node ≡ v) × (a.stream ≡ i)

  abbrev OfNode : ℕ → Latency → Type 0
  OfNode v a = a.node ≡ v

  receiver_climbs : (v i w : ℕ) → Climbs Below (at_receiver v i w)
  receiver_climbs v i w =
      mapped_in_turn (λ x y. x < y) Below (latency v i w) (λ n m less. below_by_frames (latency v i w n) (latency v i w m) refl refl refl less) frames
      frames_climb

  stream_climbs : (v i : ℕ) → Climbs Below (of_stream v i)
  stream_climbs v i =
      pieces_in_turn (λ x y. x < y) Below (AtReceiver v i) (at_receiver v i)
      (λ w. each_mapped (AtReceiver v i w) (latency v i w) (λ n. (refl, refl, refl)) frames)
      (receiver_climbs v i)
      (λ w u less a b here there. below_by_receiver a b (here.0 ∙ sym there.0) (here.1 ∙ sym there.1) (omega (arith, less, here.2, there.2)))
      nodes nodes_climb

  node_climbs : (v : ℕ) → Climbs Below (of_node v)
  node_climbs v =
      pieces_in_turn (λ x y. x < y) Below (OfStream v) (of_stream v)
      (λ i. each_of_pieces (OfStream v i) (at_receiver v i) (λ w. each_mapped (OfStream v i) (latency v i w) (λ n. (refl, refl)) frames) nodes)
      (stream_climbs v)
      (λ i j less a b here there. below_by_stream a b (here.0 ∙ sym there.0) (omega (arith, less, here.1, there.1)))
      streams (range_in_turn 0 4)

  all_climb : Climbs Below (flat_map of_node nodes)
  all_climb =
      pieces_in_turn (λ x y. x < y) Below OfNode of_node
      (λ v. each_of_pieces (OfNode v) (of_stream v)
      (λ i. each_of_pieces (OfNode v) (at_receiver v i) (λ w. each_mapped (OfNode v) (latency v i w) (λ n. refl) frames) nodes) streams)
      node_climbs
      (λ v u less a b here there. below_by_node a b (omega (arith, less, here, there)))
      nodes nodes_climb

pub latencies_climb : (s : ScenarioParts) → Climbs (λ x y. x < y) (ids s.nodes) → Climbs Below (all_latencies s)
latencies_climb s climbs = all_climb (frames_of s) (ids s.nodes) (range_in_turn 0 s.frames) climbs

pub sorted_climb : {K : Type 0} (c : K → K → Ordering) (xs : List K) → Climbs (λ a b. c a b ≡ Less) xs → IsStrictlySortedBy c xs
unfolding IsStrictlySortedBy
sorted_climb c [] is = tt
sorted_climb c (x ∷ xs) is = (is.0, sorted_climb c xs is.1)
