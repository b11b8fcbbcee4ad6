-- The order of latencies is total, and tells all apart.
use Rattle.std.proofs.Common.{◌≡◌, ◌==◌, ◌&&◌, Bool, true, false, refl, sym, ◌∙◌, ap}
use Rattle.std.proofs.lemmas.Bool.{and_from, and_parts, eqb-true, eq-eqb}
use Rattle.std.proofs.lemmas.Map.Lookups.{CmpEqualImpliesEq}
use Rattle.std.specs.Cmp.{IsTotalOrder, both_tied, nat_cmp_total, on_total, then_total, unsigned_ties}
use Rattle.std.specs.Ordering.{is_eq, nat_cmp, ordering_then}
use Rattle.bus_terms.specs.Fates.{is_latency}
use Rattle.bus_terms.specs.declared.packets.Latency.{Latency}
use Rattle.packet_fates.specs.Latencies.{latency_cmp}
use Rattle.packet_fates.proofs.PacketOrders.{then_nested}

pub latency_total : IsTotalOrder latency_cmp
latency_total =
    then_total (on_total (λ (a : Latency). a.node) nat_cmp_total)
    (then_total (on_total (λ (a : Latency). a.stream) nat_cmp_total)
    (then_total (on_total (λ (a : Latency). a.at) nat_cmp_total) (on_total (λ (a : Latency). a.frames) nat_cmp_total)))

pub latency_tied : (a b : Latency) → is_latency a b ≡ is_eq (latency_cmp a b)
latency_tied a b =
    let node = nat_cmp a.node b.node in
    let stream = nat_cmp a.stream b.stream in
    let at = nat_cmp a.at b.at in
    let frames = nat_cmp a.frames b.frames in
    both_tied _ (a.frames == b.frames) (ordering_then (ordering_then node stream) at) frames
    (both_tied _ (a.at == b.at) (ordering_then node stream) at
    (both_tied (a.node == b.node) (a.stream == b.stream) node stream (unsigned_ties a.node b.node) (unsigned_ties a.stream b.stream))
    (unsigned_ties a.at b.at))
    (unsigned_ties a.frames b.frames)
    ∙ ap is_eq (then_nested (ordering_then node stream) at frames ∙ then_nested node stream (ordering_then at frames))

pub same_latency : (a b : Latency) → is_latency a b ≡ true → a ≡ b
same_latency a b is =
    let p = and_parts ((a.node == b.node) && (a.stream == b.stream) && (a.at == b.at)) (a.frames == b.frames) is in
    let q = and_parts ((a.node == b.node) && (a.stream == b.stream)) (a.at == b.at) p.0 in
    let r = and_parts (a.node == b.node) (a.stream == b.stream) q.0 in
    let node = eqb-true a.node b.node r.0 in
    let stream = eqb-true a.stream b.stream r.1 in
    let at = eqb-true a.at b.at q.1 in
    let frames = eqb-true a.frames b.frames p.1 in
    λ i. record { node = node i; stream = stream i; at = at i; frames = frames i }

pub latency_itself : (a : Latency) → is_latency a a ≡ true
latency_itself a =
    and_from _ _ (and_from _ _ (and_from _ _ (eq-eqb a.node a.node refl) (eq-eqb a.stream a.stream refl)) (eq-eqb a.at a.at refl))
    (eq-eqb a.frames a.frames refl)

pub latency_flips : (a b : Latency) → is_latency a b ≡ false → is_latency b a ≡ false
latency_flips a b not = by_case (is_latency b a) refl
  where
    by_case : (t : Bool) → is_latency b a ≡ t → t ≡ false
    by_case false is = refl
    by_case true is = sym (latency_itself a) ∙ ap (is_latency a) (sym (same_latency b a is)) ∙ not

pub latency_exact : CmpEqualImpliesEq latency_cmp
latency_exact a b is = same_latency a b (latency_tied a b ∙ ap is_eq is)
