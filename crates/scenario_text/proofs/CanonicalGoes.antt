-- The canonical lines are allowed one after another, list by list.
use Rattle.std.proofs.Common.{◌≡◌, ℕ, suc, ◌+◌, ◌<◌, ◌≤◌, List, [], ◌∷◌, ◌++◌, true, false, not, ◌&&◌, ◌==◌, nat_lt, nat_le, Option}
use Rattle.std.proofs.Common.{Some, None, IfSome, map, length, codes, refl, sym, ◌∙◌, ap, subst, arith, inl, inr}
use Rattle.std.proofs.lemmas.Bool.{cond-true, and_from, and_parts, or_from, not_from_false, lt-ltb, le-leb, leb-true, eq-eqb, ne_eqb}
use Rattle.std.proofs.lemmas.List.{append-nil, append_assoc, length_push, length-append}
use Rattle.std.specs.List.{AllByRecursion, list_any}
use Rattle.std.specs.Option.{option_map_or}
use Rattle.std.specs.Fmt.{signed_decimal}
use Rattle.std.specs.declared.cmp.Ordering.TheVariants.{Less}
use Rattle.scenario_text.specs.declared.limits.TheConstants.{BUS_SCRIPT_LINES}
use Rattle.lwb_base.specs.Profile.{Numbers, IsProfile}
use Rattle.link_trace.proofs.Orders.{tells_link}
use Rattle.link_trace.specs.Order.{by_link}
use Rattle.link_trace.specs.Passes.{Lines, is_link}
use Rattle.link_trace.specs.Sealed.{no_lines}
use Rattle.link_trace.specs.declared.lines.LinkLine.{LinkLine}
use Rattle.scenario_text.specs.FloodParts.{knows}
use Rattle.scenario_text.specs.FloodDrafts.{Climbs, Rises, RatesBeginLater}
use Rattle.text_readers.specs.Words.{has_minus, magnitude, number}
use Rattle.scenario_text.specs.Network.{is_id, are_ends, last_rate}
use Rattle.text_writers.specs.Lines.{numbered}
use Rattle.scenario_text.specs.Canonical.{node_words, rate_words, host_lines, link_words}
use Rattle.scenario_text.specs.ScenarioGrammar.{Scenario, last_tick}
use Rattle.scenario_text.specs.ScenarioParts.{ScenarioParts}
use Rattle.scenario_text.specs.declared.lines.NodeLine.{NodeLine}
use Rattle.scenario_text.specs.declared.lines.RateLine.{RateLine}
use Rattle.scenario_text.specs.declared.network_line.NetworkLine.TheVariants.{Node, Rate}
use Rattle.scenario_text.specs.declared.scenario_line.ScenarioLine.TheVariants as line
use Rattle.scenario_text.proofs.NodeIds.{with_node-put, put}
use Rattle.scenario_text.proofs.NumbersBack.{signed_back}
use Rattle.scenario_text.proofs.LinesSaid.{Small, says_node, says_rate, says_host, says_link}
use Rattle.scenario_text.proofs.LineRuns.{Step, step, Goes, goes_list, middle, climbs_before, climbs_front, with_line_last, none_among}
use Rattle.scenario_text.proofs.CanonicalFacts.{no_power, mid, said_link, Fits, IsNode, IsRateOf, IsHost, judge, KeepsRules}
use Rattle.scenario_text.proofs.RatesKept.{last_holds, last_of}

pub small_id : (i : ℕ) → is_id i ≡ true → Small i
small_id i is = let high = leb-true i 200 (and_parts (nat_le 1 i) (nat_le i 200) is).1 in omega (arith, high)

-- the node above all others is the last
below_last : (n : NodeLine) (ns : List NodeLine) → AllByRecursion (λ m. m.node < n.node) ns → put n ns ≡ ns ++ n ∷ []
below_last n [] all = refl
below_last n (m ∷ ns) all =
    cond-true (nat_lt m.node n.node) (m ∷ put n ns) (n ∷ m ∷ ns) (lt-ltb m.node n.node all.0) ∙ ap (λ (l : List NodeLine). m ∷ l) (below_last n ns all.1)

unknown_above : (n : NodeLine) (ns : List NodeLine) → AllByRecursion (λ m. m.node < n.node) ns → knows ns n.node ≡ false
unknown_above n [] all = refl
unknown_above n (m ∷ ns) all = let lt = all.0 in
    or_from (m.node == n.node) (knows ns n.node) (ne_eqb m.node n.node (λ is. omega (arith, is, lt))) (unknown_above n ns all.1)

abbrev pub with_nodes : ScenarioParts → List NodeLine → Scenario
with_nodes s ns = mid s ns [] [] no_lines [] no_power 0

step_node : (s : ScenarioParts) → KeepsRules s → (ns : List NodeLine) (n : NodeLine) (ms : List NodeLine) → ns ++ n ∷ ms ≡ s.nodes
    → Step (with_nodes s ns) (node_words n) (with_nodes s (ns ++ n ∷ []))
step_node s is ns n ms split =
    let node = middle IsNode ns n ms (subst (AllByRecursion IsNode) (sym split) is.nodes) in
    let rises : Rises (ns ++ n ∷ ms) = subst Rises (sym split) is.rises in
    let below = climbs_before (λ a b. a.node < b.node) ns n ms rises in
    let front = climbs_front (λ a b. a.node < b.node) ns (n ∷ ms) rises in
    let few = is.few_nodes in
    let long : length ns + suc (length ms) ≡ length s.nodes = sym (length-append ns (n ∷ ms)) ∙ ap length split in
    let offset = node.offset in
    step (with_nodes s ns) (node_words n) (line.InNetwork (Node n.node n.offset)) (with_nodes s (ns ++ n ∷ []))
    (says_node n.node n.offset (small_id n.node node.id) (omega (arith, offset)))
    (record {
      range = and_from (is_id n.node) (nat_le n.offset 256000) node.id (le-leb n.offset 256000 offset);
      known = refl;
      order = refl;
      fresh = not_from_false (knows ns n.node) (unknown_above n ns below);
      room = lt-ltb (length ns) 64 (omega (arith, long, few));
    })
    (ap (with_nodes s) (with_node-put n ns front ∙ below_last n ns below))

-- rates
above_last : (r : RateLine) (rs : List RateLine) (i : ℕ) → r.node ≡ i → AllByRecursion (λ q. q.node ≡ r.node → q.from < r.from) rs
    → option_map_or (λ q. nat_lt q.from r.from) (last_rate rs i) true ≡ true
above_last r rs i is all = by_last (last_rate rs i) (last_of rs i) (last_holds (λ q. q.node ≡ r.node → q.from < r.from) i rs all)
  where
    by_last : (o : Option RateLine) → IfSome o (λ q. q.node ≡ i) → IfSome o (λ q. q.node ≡ r.node → q.from < r.from)
        → option_map_or (λ q. nat_lt q.from r.from) o true ≡ true
    by_last None of holds = refl
    by_last (Some q) of holds = lt-ltb q.from r.from (holds (of ∙ sym is))

abbrev pub with_rates : ScenarioParts → List RateLine → Scenario
with_rates s rs = mid s s.nodes rs [] no_lines [] no_power (length rs)

pub frame_bound : (p : Numbers) → IsProfile p → p.frame ≤ 320000000
frame_bound p (inl is) = subst (λ (q : Numbers). q.frame ≤ 320000000) (sym is) (omega arith)
frame_bound p (inr is) = subst (λ (q : Numbers). q.frame ≤ 320000000) (sym is.0) (omega arith)

step_rate : (s : ScenarioParts) → KeepsRules s → (rs : List RateLine) (r : RateLine) (qs : List RateLine) → rs ++ r ∷ qs ≡ s.rates
    → Step (with_rates s rs) (rate_words r) (with_rates s (rs ++ r ∷ []))
step_rate s is rs r qs split =
    let rate = middle (IsRateOf s.profile s.nodes) rs r qs (subst (AllByRecursion (IsRateOf s.profile s.nodes)) (sym split) is.rates) in
    let follows : RatesBeginLater (rs ++ r ∷ qs) = subst RatesBeginLater (sym split) is.follows in
    let before = climbs_before (λ a b. a.node ≡ b.node → a.from < b.from) rs r qs follows in
    let long : length rs + suc (length qs) ≡ length s.rates = sym (length-append rs (r ∷ qs)) ∙ ap length split in
    let few = is.scripted in
    let bound = frame_bound s.profile is.profile in
    let early = rate.early in
    let small = rate.small in
    let w : List ℕ = signed_decimal r.ppm in
    let reads = signed_back r.ppm small in
    let size = reads.size in
    step (with_rates s rs) (rate_words r) (line.InNetwork (Rate r.node r.from (has_minus w) (number (magnitude w)))) (with_rates s (rs ++ r ∷ []))
    (says_rate r.node r.from r.ppm (small_id r.node rate.id) (omega (arith, early, bound)) small)
    (record {
      range = and_from _ _ (and_from (is_id r.node) (nat_le r.from (last_tick s.profile)) rate.id
          (le-leb r.from (last_tick s.profile) early)) (le-leb (number (magnitude w)) 20 (omega (arith, size, small)));
      known = rate.known;
      order = above_last r rs r.node refl before;
      fresh = refl;
      room = lt-ltb (length rs) BUS_SCRIPT_LINES (omega (arith, long, few));
    })
    (ap (λ (z : _). mid s s.nodes (rs ++ record { node = r.node; from = r.from; ppm = z } ∷ []) [] no_lines [] no_power (length rs + 1)) reads.back
    ∙ ap (λ (n : ℕ). mid s s.nodes (rs ++ r ∷ []) [] no_lines [] no_power n) (sym (length_push rs r)))

-- hosts
not_among : (h : ℕ) (hs : List ℕ) → AllByRecursion (λ g. (g == h) ≡ false) hs → list_any (λ g. g == h) hs ≡ false
not_among h [] all = refl
not_among h (g ∷ hs) all = or_from (g == h) _ all.0 (not_among h hs all.1)

abbrev pub with_hosts : ScenarioParts → List ℕ → Scenario
with_hosts s hs = mid s s.nodes s.rates hs no_lines [] no_power (length s.rates)

step_host : (s : ScenarioParts) → KeepsRules s → (hs : List ℕ) (h : ℕ) (gs : List ℕ) (rank : ℕ) → rank ≡ length hs → hs ++ h ∷ gs ≡ s.hosts
    → Step (with_hosts s hs) (numbered (codes "host") (rank ∷ h ∷ [])) (with_hosts s (hs ++ h ∷ []))
step_host s is hs h gs rank at split =
    let host = middle (IsHost s.nodes) hs h gs (subst (AllByRecursion (IsHost s.nodes)) (sym split) is.hosts) in
    let before = climbs_before (λ g h. (g == h) ≡ false) hs h gs (subst (Climbs (λ g h. (g == h) ≡ false)) (sym split) is.distinct) in
    let long : length hs + suc (length gs) ≡ length s.hosts = sym (length-append hs (h ∷ gs)) ∙ ap length split in
    let few = is.few_hosts in
    step (with_hosts s hs) (numbered (codes "host") (rank ∷ h ∷ [])) (line.Host rank h) (with_hosts s (hs ++ h ∷ []))
    (says_host rank h (omega (arith, at, long, few)) (small_id h host.id))
    (record {
      range = and_from (nat_le rank 3) (is_id h) (le-leb rank 3 (omega (arith, at, long, few))) host.id;
      known = host.known;
      order = le-leb rank (length hs) (omega (arith, at));
      fresh = and_from _ _ (eq-eqb rank (length hs) at) (not_from_false _ (not_among h hs before));
      room = refl;
    })
    refl

pub goes_hosts : (s : ScenarioParts) → KeepsRules s → (hs gs : List ℕ) (rank : ℕ) → rank ≡ length hs → hs ++ gs ≡ s.hosts
    → Goes (with_hosts s hs) (host_lines rank gs) (with_hosts s s.hosts)
goes_hosts s is hs [] rank at split = ap (with_hosts s) (sym (append-nil hs) ∙ split)
goes_hosts s is hs (h ∷ gs) rank at split = (
  with_hosts s (hs ++ h ∷ []),
  (
    step_host s is hs h gs rank at split,
    goes_hosts s is (hs ++ h ∷ []) gs (rank + 1) (omega (arith, at, length_push hs h)) (append_assoc hs (h ∷ []) gs ∙ split),
  ),
)

-- links
abbrev pub of_links : List LinkLine → Lines
of_links ls = record { links = ls; losses = []; cuts = []; captures = [] }

abbrev pub with_links : ScenarioParts → List LinkLine → Scenario
with_links s ls = mid s s.nodes s.rates s.hosts (of_links ls) [] no_power (length s.rates)

pub small_ends : (u v : ℕ) → are_ends u v ≡ true → Small u × Small v
small_ends u v ends =
    let both = and_parts (is_id u && is_id v) (not (u == v)) ends in
    let ids = and_parts (is_id u) (is_id v) both.0 in
    (small_id u ids.0, small_id v ids.1)

step_link : (s : ScenarioParts) → KeepsRules s → (ls : List LinkLine) (l : LinkLine) (ms : List LinkLine) → ls ++ l ∷ ms ≡ s.trace.links
    → Step (with_links s ls) (link_words l) (with_links s (ls ++ l ∷ []))
step_link s is ls l ms split =
    let fits = middle (λ (x : LinkLine). Fits (judge s) (said_link x)) ls l ms
    (subst (AllByRecursion (λ (x : LinkLine). Fits (judge s) (said_link x))) (sym split) is.links) in
    let before = climbs_before (λ a b. by_link a b ≡ Less) ls l ms (subst (Climbs (λ a b. by_link a b ≡ Less)) (sym split) is.links_climb) in
    let small = small_ends l.from l.to fits.range in
    step (with_links s ls) (link_words l) (said_link l) (with_links s (ls ++ l ∷ []))
    (says_link l.from l.to small.0 small.1)
    (record {
      range = fits.range;
      known = fits.known;
      order = refl;
      fresh = none_among by_link (is_link l.from l.to) l ls (tells_link l.from l.to) before;
      room = refl;
    })
    (ap (with_links s) (with_line_last by_link l ls before))

pub goes_nodes : (s : ScenarioParts) → KeepsRules s → Goes (with_nodes s []) (map node_words s.nodes) (with_nodes s s.nodes)
goes_nodes s is = goes_list node_words (with_nodes s) s.nodes (step_node s is) [] s.nodes refl

pub goes_rates : (s : ScenarioParts) → KeepsRules s → Goes (with_rates s []) (map rate_words s.rates) (with_rates s s.rates)
goes_rates s is = goes_list rate_words (with_rates s) s.rates (step_rate s is) [] s.rates refl

pub goes_links : (s : ScenarioParts) → KeepsRules s → Goes (with_links s []) (map link_words s.trace.links) (with_links s s.trace.links)
goes_links s is = goes_list link_words (with_links s) s.trace.links (step_link s is) [] s.trace.links refl
