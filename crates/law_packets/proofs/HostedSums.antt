-- Each packet that is sent is sent in a round that one node hosts, so the counts of all hosts add up.
use Rattle.std.proofs.Common.{◌≡◌, ◌==◌, ◌&&◌, ◌+◌, ◌<◌, ℕ, zero, suc, List, [], ◌∷◌, Bool, true, false, cond, Option, Some, None, Contains, inl, inr, count_by}
use Rattle.std.proofs.Common.{filter, filter_map, find, flat_map, length, map, nat_lt, option_map, slice_get, refl, sym, ◌∙◌, ap, subst, arith}
use Rattle.std.proofs.lemmas.Bool.{eq-eqb, lt-ltb, ne_eqb}
use Rattle.std.proofs.lemmas.List.Elements.{All-contains}
use Rattle.std.proofs.lemmas.List.Sums.{sum_by-cons}
use Rattle.std.proofs.lemmas.Option.{slice_get-get_or}
use Rattle.std.specs.List.{AllByRecursion, enumerate_from, sum_by}
use Rattle.std.specs.Option.{option_map_or}
use Rattle.lwb_base.specs.Messages.{Plan}
use Rattle.lwb_base.proofs.Elements.{contains_at, contains_cases, contains_head, contains_tail, filter_from, from_flat, not_in_none, pairs_of_map}
use Rattle.lwb_base.proofs.NumbersOfRanges.{from_range}
use Rattle.scenario_text.specs.FloodDrafts.{Climbs}
use Rattle.scenario_text.specs.FloodParts.{knows}
use Rattle.scenario_text.specs.ScenarioParts.{ScenarioParts}
use Rattle.scenario_text.specs.declared.lines.NodeLine.{NodeLine}
use Rattle.scenario_text.proofs.Known.{known_there}
use Rattle.scenario_text.proofs.SoundScenarios.{sound}
use Rattle.bus_terms.specs.Bus.{frames_of, ranks_of, state_at}
use Rattle.bus_terms.specs.FloodOfText.{ids}
use Rattle.bus_terms.specs.Fates.{bus_fates, cleared_below, counts_of, deliveries_of, fate_at, fate_by, fate_of, hosted_at, hosted_of, is_host}
use Rattle.bus_terms.specs.Fates.{is_hosted_by, is_packet, is_sent, of_stream}
use Rattle.scenario_text.specs.OverLines.{IsOverScenario, over}
use Rattle.bus_terms.specs.Packets.{bus_sent, put_at, round_sent, sent_in_slot}
use Rattle.bus_terms.specs.Rounds.{round_plan, slots_of}
use Rattle.bus_terms.specs.declared.packets.Fate.{Fate}
use Rattle.bus_terms.specs.declared.packets.Fate.TheVariants.{Dropped, Waiting, Cleared, Sent}
use Rattle.bus_terms.specs.declared.packets.HostedCount.{HostedCount}
use Rattle.bus_terms.specs.declared.packets.PacketId.{PacketId}
use Rattle.bus_terms.specs.declared.packets.PutFate.{PutFate}
use Rattle.bus_terms.specs.declared.packets.PutLine.{PutLine}
use Rattle.bus_terms.specs.declared.packets.SentPacket.{SentPacket}
use Rattle.bus_terms.proofs.ListsInTurn.{pairs_in_turn}
use Rattle.law_packets.proofs.SentPackets.{sent_so}

-- ---- sums
none_summed : {X : Type 0} (xs : List X) → sum_by (λ x. 0) xs ≡ 0
none_summed [] = refl
none_summed {X} (x ∷ xs) = sum_by-cons (λ (y : X). 0) x xs ∙ ap (λ (n : ℕ). 0 + n) (none_summed xs)

sum_of_sums : {X : Type 0} (f g : X → ℕ) (xs : List X) → sum_by (λ x. f x + g x) xs ≡ sum_by f xs + sum_by g xs
sum_of_sums f g [] = refl
sum_of_sums {X} f g (x ∷ xs) =
    let both = sum_by-cons (λ (y : X). f y + g y) x xs in
    let one = sum_by-cons f x xs in
    let two = sum_by-cons g x xs in
    omega (arith, both, one, two, sum_of_sums f g xs)

sum_mapped : {X Y : Type 0} (f : Y → ℕ) (g : X → Y) (xs : List X) → sum_by f (map g xs) ≡ sum_by (λ x. f (g x)) xs
sum_mapped f g [] = refl
sum_mapped {X} f g (x ∷ xs) =
    sum_by-cons f (g x) (map g xs) ∙ ap (λ (n : ℕ). f (g x) + n) (sum_mapped f g xs) ∙ sym (sum_by-cons (λ (y : X). f (g y)) x xs)

-- what is left out adds nothing
sum_kept : {X : Type 0} (f : X → ℕ) (xs : List X) → sum_by f (filter (λ x. nat_lt 0 (f x)) xs) ≡ sum_by f xs
sum_kept f [] = refl
sum_kept {X} f (x ∷ xs) =
    by_value (f x) refl (sum_kept f xs)
  where
    kept : List X
    kept = filter (λ (x : X). nat_lt 0 (f x)) xs

    nothing : 0 + sum_by f xs ≡ sum_by f xs
    nothing = omega arith

    by_value : (n : ℕ) → f x ≡ n → sum_by f kept ≡ sum_by f xs → sum_by f (cond (nat_lt 0 n) (x ∷ kept) kept) ≡ sum_by f (x ∷ xs)
    by_value zero is rest = rest ∙ sym (sum_by-cons f x xs ∙ ap (λ (n : ℕ). n + sum_by f xs) is ∙ nothing)
    by_value (suc n) is rest =
        ap (λ (b : Bool). sum_by f (cond b (x ∷ kept) kept)) (lt-ltb 0 (suc n) (omega arith))
        ∙ sum_by-cons f x kept
        ∙ ap (λ (m : ℕ). f x + m) rest
        ∙ sym (sum_by-cons f x xs)

-- where each element passes one of the tests if it passes q, and else none
sums_of_tests : {X : Type 0} (p : ℕ → X → Bool) (q : X → Bool) (ws : List ℕ) (xs : List X)
    → ((x : X) → Contains xs x → sum_by (λ w. cond (p w x) 1 0) ws ≡ cond (q x) 1 0) → sum_by (λ w. count_by (p w) xs) ws ≡ count_by q xs
sums_of_tests p q ws [] each = none_summed ws
sums_of_tests {X} p q ws (x ∷ xs) each =
    (λ k. sum_by (λ (w : ℕ). sum_by-cons (λ (y : X). cond (p w y) 1 0) x xs k) ws)
    ∙ sum_of_sums (λ (w : ℕ). cond (p w x) 1 0) (λ (w : ℕ). count_by (p w) xs) ws
    ∙ (λ k. each x (contains_head x xs) k + sums_of_tests p q ws xs (λ y there. each y (contains_tail x xs y there)) k)
    ∙ sym (sum_by-cons (λ (y : X). cond (q y) 1 0) x xs)

-- ---- one of ascending numbers
none_above : (h : ℕ) (xs : List ℕ) → AllByRecursion (λ y. h < y) xs → count_by (λ w. h == w) xs ≡ 0
none_above h [] above = refl
none_above h (x ∷ xs) above =
    let less = above.0 in
    sum_by-cons (λ (w : ℕ). cond (h == w) 1 0) x xs
    ∙ (λ k. cond (ne_eqb h x (λ same. omega (arith, less, same)) k) 1 0 + none_above h xs above.1 k)

below_all : (x : ℕ) (xs : List ℕ) (h : ℕ) → AllByRecursion (λ y. x < y) xs → Contains xs h → x < h
below_all x [] h above there = absurd (not_in_none h there)
below_all x (y ∷ ys) h above there =
    elim (contains_cases y ys h there) [
      | inl same ↦ (let less = above.0 in omega (arith, less, same))
      | inr later ↦ below_all x ys h above.1 later
    ]

once : (h : ℕ) (xs : List ℕ) → Climbs (λ x y. x < y) xs → Contains xs h → count_by (λ w. h == w) xs ≡ 1
once h [] climb there = absurd (not_in_none h there)
once h (x ∷ xs) climb there =
    sum_by-cons (λ (w : ℕ). cond (h == w) 1 0) x xs
    ∙ (elim (contains_cases x xs h there) [
      | inl same ↦ (λ k. cond (eq-eqb h x (sym same) k) 1 0 + none_above h xs (subst (λ (y : ℕ). AllByRecursion (λ (z : ℕ). y < z) xs) same climb.0) k)
      | inr later ↦
          (let less = below_all x xs h climb.0 later in
          λ k. cond (ne_eqb h x (λ same. omega (arith, less, same)) k) 1 0 + once h xs climb.1 later k)
    ])

-- ---- the ranks of what is sent
found_there : {X : Type 0} (p : X → Bool) (xs : List X) (x : X) → find p xs ≡ Some x → Contains xs x
found_there p [] x is = cc
found_there {X} p (y ∷ ys) x is = by_test (p y) is (λ later. found_there p ys x later)
  where
    by_test : (b : Bool) → cond b (Some y) (find p ys) ≡ Some x → (find p ys ≡ Some x → Contains ys x) → Contains (y ∷ ys) x
    by_test true is rest = let same : y ≡ x = cc in subst (Contains (y ∷ ys)) same (contains_head y ys)
    by_test false is rest = contains_tail y ys x (rest is)

module _ (s : ScenarioParts) where
  in_round : (rank f : ℕ) (t : SentPacket) (o : Option Plan)
      → Contains (option_map_or (λ p. filter_map (sent_in_slot s rank f p (state_at s f)) (slots_of p)) o []) t → t.rank ≡ rank
  in_round rank f t None there = absurd (not_in_none t there)
  in_round rank f t (Some p) there =
      let slot = filter_from (sent_in_slot s rank f p (state_at s f)) (slots_of p) t there in
      ap (λ (u : SentPacket). u.rank) (sent_so s rank f p (state_at s f) slot.0 t slot.2).is

  rank_below : (t : SentPacket) → Contains (bus_sent s) t → t.rank < length s.hosts
  rank_below t there =
      let frame = from_flat (λ f. flat_map (λ rank. round_sent s rank f (state_at s f)) (ranks_of s)) (frames_of s) t there in
      let rank = from_flat (λ rank. round_sent s rank frame.0 (state_at s frame.0)) (ranks_of s) t frame.2 in
      let same = in_round rank.0 frame.0 t (round_plan s rank.0 frame.0 (state_at s frame.0)) rank.2 in
      let below = from_range 0 (length s.hosts) rank.0 rank.1 in
      omega (arith, same, below.1)

  abbrev HasHost : Fate → Type 0
  HasHost (Sent frame rank slot receivers at_host) = rank < length s.hosts
  HasHost other = Unit {0}

  by_sending : (o : Option SentPacket) (c : Option ℕ) (n : ℕ) (b : Bool) → ((t : SentPacket) → o ≡ Some t → t.rank < length s.hosts)
      → HasHost (fate_by o c n b)
  by_sending None None n b below = tt
  by_sending None (Some f) n b below = tt
  by_sending (Some t) c n b below = below t refl

  of_packet : (i : ℕ) (o : Option PacketId) → HasHost (fate_of s i o)
  of_packet i None = tt
  of_packet i (Some x) =
      by_sending (find (λ (t : SentPacket). is_packet x t.packet) (bus_sent s)) (cleared_below s i x) (length (deliveries_of s x))
      _
      (λ t is. rank_below t (found_there (λ (t : SentPacket). is_packet x t.packet) (bus_sent s) t is))

  abbrev with_fate : ℕ → PutLine → PutFate
  with_fate i p = record { put = p; fate = fate_of s i p.packet }

  has_host : (x : PutFate) → Contains (bus_fates s) x → HasHost x.fate
  has_host x there =
      let line = filter_from (fate_at s) (enumerate_from 0 s.script) x there in
      by_put line.0.0 (put_at s line.0) line.2
    where
      by_put : (i : ℕ) (o : Option PutLine) → option_map (with_fate i) o ≡ Some x → HasHost x.fate
      by_put i None is = cc
      by_put i (Some p) is = let same : with_fate i p ≡ x = cc in subst (λ (y : PutFate). HasHost y.fate) same (of_packet i p.packet)

-- ---- the hosts of a scenario
module _ (s : ScenarioParts) (said : IsOverScenario s) where
  abbrev nodes : List ℕ
  nodes = ids s.nodes

  climb : Climbs (λ x y. x < y) nodes
  climb =
      pairs_in_turn (λ x y. x < y) nodes (pairs_of_map (λ (n : NodeLine). n.node) (λ x y. x < y) s.nodes (sound (over s said.0) said.1).ascending)

  one_host : (rank : ℕ) → rank < length s.hosts → count_by (is_host s.hosts rank) nodes ≡ 1
  one_host rank below = by_host (slice_get s.hosts rank) refl
    where
      by_host : (o : Option ℕ) → slice_get s.hosts rank ≡ o → count_by (λ v. option_map_or (λ h. h == v) o false) nodes ≡ 1
      by_host None is = absurd (cc (slice_get-get_or s.hosts rank 0 below, is))
      by_host (Some h) is =
          once h nodes climb
          (known_there s.nodes h
          (All-contains (λ h. knows s.nodes h ≡ true) s.hosts h (sound (over s said.0) said.1).hosts_known (contains_at s.hosts rank h is)))

  by_fate : (a b : Bool) (f : Fate) → HasHost s f → sum_by (λ w. cond (a && b && is_hosted_by s.hosts w f) 1 0) nodes ≡ cond (a && b && is_sent f) 1 0
  by_fate false b f has = none_summed nodes
  by_fate true false f has = none_summed nodes
  by_fate true true Dropped has = none_summed nodes
  by_fate true true Waiting has = none_summed nodes
  by_fate true true (Cleared frame) has = none_summed nodes
  by_fate true true (Sent frame rank slot receivers at_host) has = one_host rank has

  pub hosted_sum : (v i : ℕ) → sum_by (λ h. h.count) (hosted_of s (counts_of s v i)) ≡ (counts_of s v i).sent
  hosted_sum v i =
      sum_kept (λ (h : HostedCount). h.count) (map (hosted_at s v i) nodes)
      ∙ sum_mapped (λ (h : HostedCount). h.count) (hosted_at s v i) nodes
      ∙ sums_of_tests (λ (w : ℕ). of_stream v i (is_hosted_by s.hosts w)) (of_stream v i is_sent) nodes (bus_fates s)
      (λ x there. by_fate (x.put.node == v) (x.put.stream == i) x.fate (has_host s x there))
