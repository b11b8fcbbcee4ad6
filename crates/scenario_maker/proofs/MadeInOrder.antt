-- A made scenario is in range and in order, so that it is accepted.
use Rattle.std.proofs.Common.{◌≡◌, ◌≢◌, ℕ, ◌+◌, ◌-◌, ◌*◌, ◌/◌, ◌%◌, ◌<◌, ◌≤◌, List, [], ◌∷◌, true, Ok, length, map, refl, arith, inl, mod-lt, mul-le-mul_right}
use Rattle.std.proofs.Math.Nat.{le_trans}
use Rattle.std.proofs.lemmas.List.Elements.{All-nil, All-cons, All-map, All-from_recursion, recursion_from_All}
use Rattle.std.proofs.lemmas.List.FromFn.{length-map-range_with_len}
use Rattle.std.specs.List.{AllByRecursion, flat_map, range_with_len}
use Rattle.std.specs.declared.cmp.Ordering.TheVariants.{Less}
use Rattle.lwb_base.specs.declared.limits.TheConstants.{MOST_SCRIPT_LINES}
use Rattle.lwb_base.specs.Profile.{one}
use Rattle.link_trace.specs.Order.{by_link, by_loss, by_cut, by_capture}
use Rattle.rand_pcg.specs.Lcg.{Lcg}
use Rattle.scenario_text.specs.FloodParts.{knows}
use Rattle.scenario_text.specs.Canonical.{canonical, IsSaid}
use Rattle.scenario_text.specs.PartsInOrder.{IsInOrder, script_lines}
use Rattle.scenario_text.specs.ScenarioFacts.{AreEnds, IsStepOf}
use Rattle.scenario_text.specs.ScenarioGrammar.{scenario_of}
use Rattle.scenario_text.specs.ScenarioParts.{ScenarioParts}
use Rattle.scenario_text.specs.declared.limits.TheConstants.{RUN_NODE_FRAMES}
use Rattle.scenario_text.specs.declared.lines.NodeLine.{NodeLine}
use Rattle.scenario_text.proofs.EachPair.{climbs_pairs}
use Rattle.scenario_text.proofs.Horizons.{said_to_run}
use Rattle.scenario_text.proofs.OrderedParts.{said_in_order}
use Rattle.scenario_maker.specs.Drawn.{seeded, later, drawn_word}
use Rattle.scenario_maker.specs.Made.{IsSize, all_nodes, later_nodes, node_line, rate_line, tree_pair, tree_pairs, random_pair}
use Rattle.scenario_maker.specs.Made.{random_pairs, with_pairs, drawn_loss, frame_losses, losses, script, made}
use Rattle.scenario_maker.proofs.MadeNodes.{known, node_lines, nodes_ascend, rate_lines, rates_ascend}
use Rattle.scenario_maker.proofs.MadeScript.{lines_in_range, bytes_in_range, script_ascends, few_in_script, few_boots}
use Rattle.scenario_maker.proofs.MadeTrace.{AreKnown, pairs_kept, IsDrawn, losses_kept, few_losses}
use Rattle.scenario_maker.proofs.Ranges.{all_range, all_flat, few_flat}

-- all numbers of these nodes are known
abbrev KnowsUpto : List NodeLine → ℕ → Type 0
KnowsUpto ns n = (i : ℕ) → 1 ≤ i → i ≤ n → knows ns i ≡ true

drawn_within : (x m : ℕ) → 1 ≤ m → 1 + x % m ≤ m
drawn_within x m some = let less : x % m < m = mod-lt x (omega (arith, some)) in omega (arith, less)

tree_known : (g : Lcg) (n : ℕ) (ns : List NodeLine) → 2 ≤ n → KnowsUpto ns n → AllByRecursion (AreKnown ns) (tree_pairs g n)
tree_known g n ns two knows_all =
    recursion_from_All (AreKnown ns) (tree_pairs g n) (All-map (AreKnown ns) (tree_pair g) (later_nodes n)
    (all_range (λ i. AreKnown ns (tree_pair g i)) 2 (n - 1) (λ i low high. record {
      first = knows_all i (omega (arith, low)) (omega (arith, high, two));
      second = knows_all (1 + drawn_word g (i - 2) % (i - 1)) (omega arith)
          (let within = drawn_within (drawn_word g (i - 2)) (i - 1) (omega (arith, low)) in omega (arith, within, high, two));
    })))

random_known : (g : Lcg) (n : ℕ) (ns : List NodeLine) → 2 ≤ n → KnowsUpto ns n → AllByRecursion (AreKnown ns) (random_pairs g n)
random_known g n ns two knows_all =
    recursion_from_All (AreKnown ns) (random_pairs g n) (All-map (AreKnown ns) (random_pair g n) (range_with_len 0 n)
    (all_range (λ t. AreKnown ns (random_pair g n t)) 0 n (λ t low high. record {
      first = knows_all (1 + drawn_word g (2 * t) % n) (omega arith) (drawn_within (drawn_word g (2 * t)) n (omega (arith, two)));
      second = knows_all (1 + drawn_word g (2 * t + 1) % n) (omega arith) (drawn_within (drawn_word g (2 * t + 1)) n (omega (arith, two)));
    })))

loss_drawn : (s : ScenarioParts) (g : Lcg) (n frames f t : ℕ) → 2 ≤ n → s.profile ≡ one → s.frames ≡ frames → f < frames → KnowsUpto s.nodes n
    → IsDrawn s (drawn_loss g n f t)
loss_drawn s g n frames f t two profile is inside knows_all = record {
  step = record { in_run = omega (arith, is, inside); in_frame = rw profile (omega arith); in_slot = omega arith };
  ends = record {
    first = knows_all (1 + drawn_word g (4 * t + 2) % n) (omega arith) (drawn_within (drawn_word g (4 * t + 2)) n (omega (arith, two)));
    second = knows_all (1 + drawn_word g (4 * t + 3) % n) (omega arith) (drawn_within (drawn_word g (4 * t + 3)) n (omega (arith, two)));
  };
}

losses_drawn : (s : ScenarioParts) (g : Lcg) (n frames : ℕ) → 2 ≤ n → s.profile ≡ one → s.frames ≡ frames → KnowsUpto s.nodes n
    → AllByRecursion (IsDrawn s) (flat_map (frame_losses g n) (range_with_len 0 frames))
losses_drawn s g n frames two profile is knows_all =
    recursion_from_All (IsDrawn s) (flat_map (frame_losses g n) (range_with_len 0 frames))
    (all_flat (IsDrawn s) (frame_losses g n) 0 frames (λ f low high.
    All-map (IsDrawn s) (drawn_loss (later (4 * (n / 2) * f) g) n f) (range_with_len 0 (n / 2))
    (all_range (λ t. IsDrawn s (drawn_loss (later (4 * (n / 2) * f) g) n f t)) 0 (n / 2) (λ t first last.
    loss_drawn s (later (4 * (n / 2) * f) g) n frames f t two profile is (omega (arith, high)) knows_all))))

losses_few : (g : Lcg) (n frames : ℕ) → length (losses g n frames) ≤ frames * (n / 2)
losses_few g n frames =
    let all = flat_map (frame_losses g n) (range_with_len 0 frames) in
    let few = few_flat (frame_losses g n) (n / 2) 0 frames (λ f. let long = length-map-range_with_len (drawn_loss (later (4 * (n / 2) * f) g) n f) 0
    (n / 2) in omega (arith, long)) in
    let kept = few_losses all [] in
    omega (arith, few, kept)

-- 20,000 script lines are enough
lines_few : (n frames rates script losses : ℕ) → IsSize n frames → rates ≡ n → script ≤ n + n + frames * ((n + 6) / 4) → losses ≤ frames * (n / 2)
    → rates + script + losses + 0 + 0 ≤ MOST_SCRIPT_LINES
lines_few n frames rates script losses size is few_script few_losses =
    let halves : n / 2 * 2 ≤ n = omega arith in
    let quarters : (n + 6) / 4 * 4 ≤ n + 6 = omega arith in
    let first = mul-le-mul_right frames halves in
    let second = mul-le-mul_right frames quarters in
    let a : (n / 2 * 2) * frames ≡ frames * (n / 2) * 2 = omega arith in
    let b : ((n + 6) / 4 * 4) * frames ≡ frames * ((n + 6) / 4) * 4 = omega arith in
    let c : (n + 6) * frames ≡ n * frames + 6 * frames = omega arith in
    omega (arith, first, second, a, b, c, size.product, size.nodes.1, size.some_frames.1, is, few_script, few_losses)

few_node_frames : (g : Lcg) (n frames : ℕ) → IsSize n frames → length (map (node_line g) (all_nodes n)) * frames ≤ RUN_NODE_FRAMES
few_node_frames g n frames size = let count = length-map-range_with_len (node_line g) 1 n in rw count size.product

few_script_lines : (seed n frames : ℕ) → IsSize n frames → script_lines (made seed n frames) ≤ MOST_SCRIPT_LINES
unfolding made
few_script_lines seed n frames size =
    let g = seeded seed in
    let s : ScenarioParts = made seed n frames in
    lines_few n frames (length s.rates) (length s.script) (length s.trace.losses) size (length-map-range_with_len (rate_line g) 1 n)
    (few_in_script (later (5 * n - 1) g) n frames) (losses_few (later (6 * n - 2) g) n frames)

pub in_order : (seed n frames : ℕ) → IsSize n frames → IsInOrder (made seed n frames)
unfolding made
in_order seed n frames size =
    let g = seeded seed in
    let s : ScenarioParts = made seed n frames in
    let knows_all = known g n in
    let trees = pairs_kept s.nodes (tree_pairs (later (2 * n) g) n) [] (tree_known (later (2 * n) g) n s.nodes size.nodes.0 knows_all)
    (record { ends = tt; climb = tt }) in
    let links = pairs_kept s.nodes (random_pairs (later (3 * n - 1) g) n) (with_pairs [] (tree_pairs (later (2 * n) g) n))
    (random_known (later (3 * n - 1) g) n s.nodes size.nodes.0 knows_all) trees in
    let lost = losses_kept s (flat_map (frame_losses (later (6 * n - 2) g) n) (range_with_len 0 frames)) []
    (losses_drawn s (later (6 * n - 2) g) n frames size.nodes.0 refl refl knows_all) (record { each = tt; climb = tt }) in
    let count = length-map-range_with_len (node_line g) 1 n in
    record {
      profile = inl refl;
      frames = size.some_frames;
      sends = (omega arith, omega arith);
      node_count = (omega (arith, count, size.nodes.0), omega (arith, count, size.nodes.1));
      node_frames = le_trans (few_node_frames g n frames size) (omega arith);
      nodes = node_lines g n size.nodes.1;
      nodes_ascend = nodes_ascend g n;
      rates = rate_lines g n s refl;
      rates_ascend = rates_ascend g n;
      host_count = (omega arith, omega arith);
      hosts = All-cons (λ h. knows s.nodes h ≡ true) 1 (n ∷ []) (knows_all 1 (omega arith) (omega (arith, size.nodes.0)))
          (All-cons (λ h. knows s.nodes h ≡ true) n [] (knows_all n (omega (arith, size.nodes.0)) (omega arith)) (All-nil (λ h. knows s.nodes h ≡ true)));
      hosts_differ = climbs_pairs (λ a b. a ≢ b) (1 ∷ n ∷ []) ((λ same. omega (arith, same, size.nodes.0), tt), (tt, tt));
      links = All-from_recursion (λ l. AreEnds s.nodes l.from l.to) s.trace.links links.ends;
      links_ascend = climbs_pairs (λ a b. by_link a b ≡ Less) s.trace.links links.climb;
      losses = All-from_recursion (λ l. IsStepOf s l.frame l.slot l.step × AreEnds s.nodes l.from l.to) s.trace.losses lost.each;
      losses_ascend = climbs_pairs (λ a b. by_loss a b ≡ Less) s.trace.losses lost.climb;
      cuts = All-nil (λ l. IsStepOf s l.frame l.slot l.step × (knows s.nodes l.node ≡ true));
      cuts_ascend = climbs_pairs (λ a b. by_cut a b ≡ Less) [] tt;
      captures = All-nil (λ l. IsStepOf s l.frame l.slot l.step × AreEnds s.nodes l.at l.from);
      captures_ascend = climbs_pairs (λ a b. by_capture a b ≡ Less) [] tt;
      script = lines_in_range s (later (5 * n - 1) g) n frames size.nodes.0 size.some_frames.0 refl (omega arith) knows_all;
      script_ascends = script_ascends (later (5 * n - 1) g) n frames;
      payload_bytes = bytes_in_range (later (5 * n - 1) g) n frames size.some_frames.1;
      few_lines = le_trans (few_script_lines seed n frames size) (omega arith);
      few_boots = λ v. few_boots (later (5 * n - 1) g) n frames v size.nodes.1;
    }

pub is_said : (seed n frames : ℕ) → IsSize n frames → IsSaid (made seed n frames)
is_said seed n frames size = said_in_order (made seed n frames) (in_order seed n frames size)

pub is_said_to_run : (seed n frames : ℕ) → IsSize n frames → scenario_of (canonical (made seed n frames)) ≡ Ok (made seed n frames)
unfolding made
is_said_to_run seed n frames size =
    (said_to_run (canonical (made seed n frames)) (made seed n frames)).1
    (is_said seed n frames size, few_node_frames (seeded seed) n frames size, few_script_lines seed n frames size)
