-- The entries of a tally are the latencies that came, in order.
use Rattle.std.proofs.Common.{◌≡◌, ◌<◌, ℕ, List, [], ◌∷◌, Bool, true, false, cond, Some, None, Contains, count_by, filter}
use Rattle.std.proofs.Common.{filter_map, map, nat_lt, ◌||◌, find, option_map}
use Rattle.std.proofs.Common.{refl, sym, ◌∙◌, ap, subst, ⊎_elim}
use Rattle.std.proofs.lemmas.Bool.{cases_Bool, ltb-true}
use Rattle.std.proofs.lemmas.List.Kept.{IsStrictlySortedBy-filter}
use Rattle.std.specs.BTreeMap.{BTreeMap, IsOrdered, get, is_at}
use Rattle.std.specs.List.{list_any}
use Rattle.std.specs.List.Sorted.{IsStrictlySortedBy}
use Rattle.std.specs.Map.{keys_of, lookup}
use Rattle.lwb_base.proofs.Elements.{any_of, filter_same, filtered, in_filtered, pairs_of_map, some_of}
use Rattle.lwb_base.proofs.Lists.{filter_map_of}
use Rattle.scenario_text.specs.ScenarioParts.{ScenarioParts}
use Rattle.scenario_text.specs.declared.lines.NodeLine.{NodeLine}
use Rattle.scenario_text.proofs.SoundScenarios.{sound}
use Rattle.bus_rules.specs.declared.delivery.Delivery.{Delivery}
use Rattle.bus_terms.specs.Bus.{bus_deliveries}
use Rattle.bus_terms.specs.FloodOfText.{ids}
use Rattle.bus_terms.specs.Fates.{all_latencies, bus_latencies, counted, counts_among, host_latencies, is_at_host, is_latency, latency_of, latency_since}
use Rattle.bus_terms.specs.Fates.{packet_delivered, queues}
use Rattle.scenario_text.specs.OverLines.{IsOverScenario, over}
use Rattle.bus_terms.specs.Packets.{bus_puts}
use Rattle.bus_terms.specs.declared.packets.Latency.{Latency}
use Rattle.bus_terms.specs.declared.packets.LatencyCount.{LatencyCount}
use Rattle.bus_terms.specs.declared.packets.PacketId.{PacketId}
use Rattle.bus_terms.specs.declared.packets.PutLine.{PutLine}
use Rattle.bus_terms.proofs.ListsInTurn.{pairs_in_turn}
use Rattle.packet_fates.specs.Latencies.{IsTallyOf, count_of_entry, host_latency_by, latency_by, latency_cmp}
use Rattle.packet_fates.specs.PacketOrder.{packet_cmp}
use Rattle.packet_fates.proofs.DeliveredLatencies.{among_all}
use Rattle.packet_fates.proofs.KeptOnes.{given_by_kept}
use Rattle.packet_fates.proofs.LatencyOrders.{latency_exact, latency_itself, latency_tied, latency_total, same_latency}
use Rattle.packet_fates.proofs.SameEntries.{same_entries}
use Rattle.packet_fates.proofs.OrderedLatencies.{latencies_climb, sorted_climb}

-- a function over latencies as entries
module _ (f : Latency → ℕ) where
  abbrev entry : Latency → Latency × ℕ
  entry a = (a, f a)

  keys_are : (xs : List Latency) → keys_of (map entry xs) ≡ xs
  keys_are [] = refl
  keys_are (x ∷ xs) = ap (λ (l : List Latency). x ∷ l) (keys_are xs)

  found : (a : Latency) (xs : List Latency) → lookup (is_at (latency_cmp a)) (map entry xs) ≡ cond (list_any (is_latency a) xs) (Some (f a)) None
  found a [] = refl
  found a (x ∷ xs) =
      ap (λ (b : Bool). cond b (Some (f x)) (lookup (is_at (latency_cmp a)) (map entry xs))) (sym (latency_tied a x))
      ∙ by_test (is_latency a x) refl (found a xs)
    where
      by_test : (b : Bool) → is_latency a x ≡ b → lookup (is_at (latency_cmp a)) (map entry xs) ≡ cond (list_any (is_latency a) xs) (Some (f a)) None
          → cond b (Some (f x)) (lookup (is_at (latency_cmp a)) (map entry xs)) ≡ cond (b || list_any (is_latency a) xs) (Some (f a)) None
      by_test true is rest = ap (λ (y : Latency). Some (f y)) (sym (same_latency a x is))
      by_test false is rest = rest

module _ (s : ScenarioParts) (said : IsOverScenario s) (tally : BTreeMap Latency ℕ) (ordered : IsOrdered latency_cmp tally)
    (ds : List Delivery) (among : (d : Delivery) → Contains ds d → Contains (bus_deliveries s) d)
    (tallied : IsTallyOf (filter_map (latency_of s) ds) tally) where
  abbrev came_late : List Latency
  came_late = filter_map (latency_of s) ds

  abbrev number : Latency → ℕ
  number a = count_by (is_latency a) came_late

  abbrev came : Latency → Bool
  came a = nat_lt 0 (number a)

  abbrev kept : List Latency
  kept = filter came (all_latencies s)

  kept_sorted : IsStrictlySortedBy latency_cmp kept
  kept_sorted =
      IsStrictlySortedBy-filter latency_cmp came (all_latencies s)
      (sorted_climb latency_cmp (all_latencies s)
      (latencies_climb s
      (pairs_in_turn (λ x y. x < y) (ids s.nodes) (pairs_of_map (λ (n : NodeLine). n.node) (λ x y. x < y) s.nodes (sound (over s said.0) said.1).ascending))))

  came_if_kept : (a : Latency) → came a ≡ list_any (is_latency a) kept
  came_if_kept a = ⊎_elim in_kept not_kept (cases_Bool (came a))
    where
      in_kept : came a ≡ true → came a ≡ list_any (is_latency a) kept
      in_kept is =
          is
          ∙ sym (any_of (is_latency a) kept a (in_filtered came (all_latencies s) a (among_all s said ds among a (ltb-true 0 (number a) is)) is)
          (latency_itself a))

      none : (b : Bool) → list_any (is_latency a) kept ≡ b → came a ≡ false → came a ≡ b
      none false any is = is
      none true any is =
          let x = some_of (is_latency a) kept any in
          ap came (same_latency a x.0 x.2) ∙ (filtered came (all_latencies s) x.0 x.1).1

      not_kept : came a ≡ false → came a ≡ list_any (is_latency a) kept
      not_kept is = none (list_any (is_latency a) kept) refl is

  entries_are : tally.entries ≡ map (entry number) kept
  entries_are =
      same_entries latency_total latency_exact tally.entries (map (entry number) kept) ordered
      (subst (IsStrictlySortedBy latency_cmp) (sym (keys_are number kept)) kept_sorted)
      (λ a. tallied a ∙ ap (λ (b : Bool). cond b (Some (number a)) None) (came_if_kept a) ∙ sym (found number a kept))

  counted_entries : (xs : List Latency) → map count_of_entry (map (entry number) xs) ≡ map (counted came_late) xs
  counted_entries [] = refl
  counted_entries (x ∷ xs) = ap (λ (l : List LatencyCount). counted came_late x ∷ l) (counted_entries xs)

  pub counts_are : map count_of_entry tally.entries ≡ counts_among s came_late
  counts_are =
      ap (map count_of_entry) entries_are
      ∙ counted_entries kept
      ∙ sym (filter_map_of (counted came_late) (λ (c : LatencyCount). nat_lt 0 c.count) (all_latencies s))

-- by the first put of each packet
module _ (s : ScenarioParts) (first : BTreeMap PacketId PutLine) (puts : List PutLine) (put : puts ≡ bus_puts s)
    (are : (x : PacketId) → get packet_cmp first x ≡ find (λ p. queues x p.packet) puts) where
  pub latencies_by : (ds : List Delivery) → filter_map (latency_by first) ds ≡ filter_map (latency_of s) ds
  latencies_by ds =
      filter_same (latency_by first) (latency_of s) ds
      (λ d there. ap (option_map (latency_since d)) (are (packet_delivered d) ∙ ap (find (λ (p : PutLine). queues (packet_delivered d) p.packet)) put))

  pub latencies_are : (deliveries : List Delivery) → deliveries ≡ bus_deliveries s → filter_map (latency_by first) deliveries ≡ bus_latencies s
  latencies_are deliveries delivered = ap (filter_map (latency_by first)) delivered ∙ latencies_by (bus_deliveries s)

  pub host_latencies_are : (hosts : List ℕ) (deliveries : List Delivery) → hosts ≡ s.hosts → deliveries ≡ bus_deliveries s
      → filter_map (host_latency_by hosts first) deliveries ≡ host_latencies s
  host_latencies_are hosts deliveries hosted delivered =
      (λ k. filter_map (host_latency_by (hosted k) first) (delivered k))
      ∙ given_by_kept (is_at_host s.hosts) (latency_by first) (bus_deliveries s)
      ∙ latencies_by (filter (is_at_host s.hosts) (bus_deliveries s))

-- the deliveries at the hosts of their rounds are deliveries
pub at_hosts_among : (s : ScenarioParts) (d : Delivery) → Contains (filter (is_at_host s.hosts) (bus_deliveries s)) d → Contains (bus_deliveries s) d
at_hosts_among s d there = (filtered (is_at_host s.hosts) (bus_deliveries s) d there).0
