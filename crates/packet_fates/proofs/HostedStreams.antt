-- The packets of streams that were sent in rounds of hosts, counted.
use Rattle.std.proofs.Common.{◌≡◌, ◌==◌, ◌&&◌, ◌∷◌, [], ◌+◌, ◌++◌, ℕ, List, Bool, true, false, cond, Option, Some, None, filter, flat_map, map, nat_lt}
use Rattle.std.proofs.Common.{add-zero, refl, sym, ◌∙◌, ap}
use Rattle.std.proofs.lemmas.Bool.{and_parts, eqb-true}
use Rattle.std.specs.BTreeMap.{BTreeMap, is_at}
use Rattle.std.specs.Cmp.{both_tied, unsigned_ties}
use Rattle.std.specs.Map.{count_at}
use Rattle.std.specs.Option.{option_map_or}
use Rattle.std.specs.Ordering.{is_eq, nat_cmp, ordering_then}
use Rattle.scenario_text.specs.ScenarioParts.{ScenarioParts}
use Rattle.scenario_text.specs.declared.lines.NodeLine.{NodeLine}
use Rattle.bus_terms.specs.Fates.{bus_fates, hosted_at, hosted_of, is_hosted_by}
use Rattle.bus_terms.specs.FloodOfText.{ids}
use Rattle.bus_terms.specs.declared.packets.Fate.{Fate}
use Rattle.bus_terms.specs.declared.packets.Fate.TheVariants.{Cleared, Dropped, Sent, Waiting}
use Rattle.bus_terms.specs.declared.packets.HostedCount.{HostedCount}
use Rattle.bus_terms.specs.declared.packets.PutFate.{PutFate}
use Rattle.bus_terms.specs.declared.packets.StreamCounts.{StreamCounts}
use Rattle.packet_fates.specs.Hosted.{IsHostedTally, host_of_fate, hosted_cmp, hosted_in, is_of_hosted}
use Rattle.packet_fates.proofs.CountedKeys.{counted_one}
use Rattle.packet_fates.proofs.PacketOrders.{then_nested}
use Rattle.packet_fates.specs.declared.hosted_tally.HostedStream.{HostedStream}

abbrev is_same : HostedStream → HostedStream → Bool
is_same a b = (a.node == b.node) && (a.stream == b.stream) && (a.at == b.at)

tied : (a b : HostedStream) → is_same a b ≡ is_eq (hosted_cmp a b)
tied a b =
    let node = nat_cmp a.node b.node in
    let stream = nat_cmp a.stream b.stream in
    let at = nat_cmp a.at b.at in
    both_tied _ (a.at == b.at) (ordering_then node stream) at
    (both_tied (a.node == b.node) (a.stream == b.stream) node stream (unsigned_ties a.node b.node) (unsigned_ties a.stream b.stream))
    (unsigned_ties a.at b.at)
    ∙ ap is_eq (then_nested node stream at)

equal : (a b : HostedStream) → is_same a b ≡ true → a ≡ b
equal a b is =
    let p = and_parts ((a.node == b.node) && (a.stream == b.stream)) (a.at == b.at) is in
    let q = and_parts (a.node == b.node) (a.stream == b.stream) p.0 in
    let node = eqb-true a.node b.node q.0 in
    let stream = eqb-true a.stream b.stream q.1 in
    let at = eqb-true a.at b.at p.1 in
    λ i. record { node = node i; stream = stream i; at = at i }

-- the host of its round is the one that it was sent to
hosted_by : (hosts : List ℕ) (w : ℕ) (f : Fate) → is_hosted_by hosts w f ≡ option_map_or (λ h. h == w) (host_of_fate hosts f) false
hosted_by hosts w Dropped = refl
hosted_by hosts w Waiting = refl
hosted_by hosts w (Cleared frame) = refl
hosted_by hosts w (Sent frame rank slot receivers at_host) = refl

module _ (hosts : List ℕ) (x : PutFate) where
  abbrev counts_by : HostedStream → Option ℕ → Bool
  counts_by k o = (x.put.node == k.node) && (x.put.stream == k.stream) && option_map_or (λ h. h == k.at) o false

  of_hosted : (k : HostedStream) (o : Option ℕ) → host_of_fate hosts x.fate ≡ o → is_of_hosted hosts k x ≡ counts_by k o
  of_hosted k o is =
      ap (λ (b : Bool). (x.put.node == k.node) && (x.put.stream == k.stream) && b) (hosted_by hosts k.at x.fate) ∙ ap (counts_by k) is

  -- it was sent in a round of this host
  pub sent_counted : (before after : HostedStream → Option ℕ) (w : ℕ) → host_of_fate hosts x.fate ≡ Some w
      → (let key : HostedStream = record { node = x.put.node; stream = x.put.stream; at = w } in
      ((k : HostedStream) → after k ≡ cond (is_at (hosted_cmp key) k) (Some (count_at before key + 1)) (before k)))
      → (k : HostedStream) → count_at after k ≡ count_at before k + cond (is_of_hosted hosts k x) 1 0
  sent_counted before after w is written k =
      let key : HostedStream = record { node = x.put.node; stream = x.put.stream; at = w } in
      counted_one hosted_cmp is_same tied equal before after key written k
      ∙ ap (λ (b : Bool). count_at before k + cond b 1 0) (sym (of_hosted k (Some w) is))

  -- or in none
  pub none_counted : (before : HostedStream → Option ℕ) → host_of_fate hosts x.fate ≡ None → (k : HostedStream)
      → count_at before k ≡ count_at before k + cond (is_of_hosted hosts k x) 1 0
  none_counted before is k =
      sym (add-zero (count_at before k))
      ∙ ap (λ (b : Bool). count_at before k + cond b 1 0) (sym (of_hosted k None is ∙ never (x.put.node == k.node) (x.put.stream == k.stream)))
    where
      never : (a b : Bool) → (a && b && false) ≡ false
      never true true = refl
      never true false = refl
      never false b = refl

abbrev pub some_sent : HostedCount → Bool
some_sent h = nat_lt 0 h.count

-- of all streams
module _ (s : ScenarioParts) (tally : BTreeMap HostedStream ℕ) (are : IsHostedTally s.hosts (bus_fates s) tally) where
  at_node : (c : StreamCounts) (w : ℕ) → hosted_in tally c.node c.stream w ≡ hosted_at s c.node c.stream w
  at_node c w = λ k. record { node = c.node; stream = c.stream; at = w; count = are (record { node = c.node; stream = c.stream; at = w }) k }

  at_nodes : (c : StreamCounts) (nodes : List NodeLine)
      → map (λ n. hosted_in tally c.node c.stream n.node) nodes ≡ map (hosted_at s c.node c.stream) (ids nodes)
  at_nodes c [] = refl
  at_nodes c (n ∷ nodes) = λ k. at_node c n.node k ∷ at_nodes c nodes k

  pub of_streams : (streams : List StreamCounts)
      → flat_map (λ c. filter some_sent (map (λ n. hosted_in tally c.node c.stream n.node) s.nodes)) streams ≡ flat_map (hosted_of s) streams
  of_streams [] = refl
  of_streams (c ∷ streams) = λ k. filter some_sent (at_nodes c s.nodes k) ++ of_streams streams k
