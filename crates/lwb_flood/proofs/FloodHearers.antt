-- Those who receive a transmission, one after another, and the clocks at their places.
use Rattle.std.proofs.Common.{◌≡◌, ◌≢◌, ℕ, zero, suc, ◌+◌, ◌<◌, List, [], ◌∷◌, ◌++◌, map, take, length, get_or, Bool, true, false, ◌&&◌, ◌||◌, ◌==◌}
use Rattle.std.proofs.Common.{Some, inl, inr, refl, sym, ◌∙◌, ap, subst, arith, eq-eqb}
use Rattle.std.specs.Prelude.{Contains, AllPairs, All}
use Rattle.std.specs.List.{slice_get}
use Rattle.std.proofs.lemmas.Bool.{cond-true, cond-false, ne_eqb}
use Rattle.std.proofs.lemmas.List.{length-map, map_more, get_or_default}
use Rattle.glossy_relay.specs.FloodState.{FloodState}
use Rattle.glossy_relay.specs.Relaying.{after_heard, reply_to}
use Rattle.glossy_relay.specs.declared.flood.Reply.{Reply}
use Rattle.radio_model.specs.declared.sending.Sending.{Sending}
use Rattle.radio_model.specs.Stations.{nodes_of}
use Rattle.std.proofs.lemmas.Option.{slice_get_within, get_or_from_slice_get}
use Rattle.lwb_base.proofs.Elements.{contains_cases, contains_head, contains_tail, not_in_none, map_contains, pairs_head, pairs_tail, Distinct}
use Rattle.lwb_flood.specs.declared.member.Act.{Act}
use Rattle.lwb_flood.specs.declared.member.Member.{Member}
use Rattle.lwb_flood.specs.FloodWorlds.{World, IsShape, node_of_member, with_change, hearing_by, act_by, world_after_reception, heard_by_all, readings_of_node}
use Rattle.lwb_flood.specs.FloodWorlds.{is_last}
use Rattle.lwb_flood.proofs.MemberPlaces.{Ascend, set_is_change}
use Rattle.lwb_flood.proofs.WorldLists.{nodes_kept}

pub ascend_distinct : (xs : List ℕ) → AllPairs (λ a b. a < b) xs → Distinct xs
ascend_distinct [] all = tt
ascend_distinct (x ∷ xs) all = (
  λ there. let less = pairs_head (λ a b. a < b) x xs all x there in
      omega arith,
  ascend_distinct xs (pairs_tail (λ a b. a < b) x xs all),
)

-- the test of the only node with this id
or_false : (b : Bool) → (b || false) ≡ b
or_false true = refl
or_false false = refl

none_last : (v : ℕ) (ms : List Member) → (Contains (map node_of_member ms) v → ⊥) → is_last v ms ≡ false
none_last v [] none = refl
none_last v (m ∷ ms) none =
    ap (λ (b : Bool). (b && (m.flood.sent + 1 == m.flood.limit)) || is_last v ms)
    (ne_eqb m.node v (λ is. none (subst (Contains (map node_of_member (m ∷ ms))) is (contains_head m.node (map node_of_member ms)))))
    ∙ none_last v ms (λ there. none (contains_tail m.node (map node_of_member ms) v there))

pub last_is : (v : ℕ) (ms : List Member) (m : Member) → Distinct (map node_of_member ms) → Contains ms m → m.node ≡ v
    → is_last v ms ≡ (m.flood.sent + 1 == m.flood.limit)
last_is v [] m distinct there is = absurd (not_in_none m there)
last_is v (n ∷ ms) m distinct there is =
    elim (contains_cases n ms m there) [
      | inl here ↦
          let node : n.node ≡ v = ap node_of_member here ∙ is in
          ap (λ (b : Bool). (b && (n.flood.sent + 1 == n.flood.limit)) || is_last v ms) (eq-eqb n.node v node)
          ∙ ap (λ (b : Bool). (n.flood.sent + 1 == n.flood.limit) || b)
          (none_last v ms (λ later. distinct.0 (subst (Contains (map node_of_member ms)) (sym node) later)))
          ∙ or_false (n.flood.sent + 1 == n.flood.limit)
          ∙ ap (λ (k : Member). k.flood.sent + 1 == k.flood.limit) here
      | inr later ↦
          let other : n.node ≢ v = λ same. distinct.0 (subst (Contains (map node_of_member ms)) (is ∙ sym same) (map_contains node_of_member ms m later)) in
          ap (λ (b : Bool). (b && (n.flood.sent + 1 == n.flood.limit)) || is_last v ms) (ne_eqb n.node v other) ∙ last_is v ms m distinct.1 later is
    ]

pub last_at : (v : ℕ) (ms : List Member) (i : ℕ) (m : Member) → Ascend ms → i < length ms → m ≡ get_or ms i m
    → ((d : Member) → (get_or ms i d).node ≡ v) → is_last v ms ≡ (m.flood.sent + 1 == m.flood.limit)
last_at v ms i m ascend below at node = last_is v ms m (ascend_distinct (map node_of_member ms) ascend) (i, below, sym at) (ap node_of_member at ∙ node m)

-- what the code makes of a node that receives
hearing_is : (clock : ℕ → ℕ) (x : Sending) (m : Member) (flood : FloodState) (reply : Reply) (act : Act) → flood ≡ after_heard m.flood x.packet
    → reply ≡ reply_to m.flood x.packet → act ≡ act_by clock x.end reply m.act
    → record { node = m.node; flood = flood; act = act } ≡ hearing_by clock x m
hearing_is clock x m flood reply act flood_is reply_is act_is =
    ap (λ (f : FloodState). record { node = m.node; flood = f; act = act }) flood_is
    ∙ ap (λ (a : Act). record { node = m.node; flood = after_heard m.flood x.packet; act = a })
    (act_is ∙ ap (λ (r : Reply). act_by clock x.end r m.act) reply_is)

pub heard_at : (clock : ℕ → ℕ) (x : Sending) (ms : List Member) (i : ℕ) (m : Member) (flood : FloodState) (reply : Reply) (act : Act) → Ascend ms
    → i < length ms → m ≡ get_or ms i m
    → flood ≡ after_heard m.flood x.packet → reply ≡ reply_to m.flood x.packet → act ≡ act_by clock x.end reply m.act
    → (d : Member) → Rattle.std.proofs.Common.set ms i (record { node = m.node; flood = flood; act = act }) ≡ with_change (get_or ms i d).node
    (hearing_by clock x) ms
heard_at clock x ms i m flood reply act ascend below at flood_is reply_is act_is d =
    set_is_change (hearing_by clock x) ms ascend (get_or ms i d).node i m (record { node = m.node; flood = flood; act = act }) below at
    (λ e. ap node_of_member (get_or_default ms i e d below)) (hearing_is clock x m flood reply act flood_is reply_is act_is)

-- one more receives
pub heard_push : (clocks : ℕ → ℕ → ℕ) (x : Sending) (vs : List ℕ) (v : ℕ) (w : World)
    → heard_by_all clocks x (vs ++ v ∷ []) w ≡ world_after_reception (clocks v) x v (heard_by_all clocks x vs w)
heard_push clocks x [] v w = refl
heard_push clocks x (u ∷ vs) v w = heard_push clocks x vs v (world_after_reception (clocks u) x u w)

pub heard_medium : (clocks : ℕ → ℕ → ℕ) (x : Sending) (vs : List ℕ) (w : World) → (heard_by_all clocks x vs w).medium ≡ w.medium
heard_medium clocks x [] w = refl
heard_medium clocks x (v ∷ vs) w = heard_medium clocks x vs (world_after_reception (clocks v) x v w)

pub heard_nodes : (clocks : ℕ → ℕ → ℕ) (x : Sending) (vs : List ℕ) (w : World)
    → map node_of_member (heard_by_all clocks x vs w).members ≡ map node_of_member w.members
heard_nodes clocks x [] w = refl
heard_nodes clocks x (v ∷ vs) w =
    heard_nodes clocks x vs (world_after_reception (clocks v) x v w) ∙ nodes_kept v (hearing_by (clocks v) x) (λ m. refl) w.members

-- the clock at a place
pub readings_there : {C : Type 0} (R : C → ℕ → ℕ) (cs : List C) (us : List ℕ) (i v : ℕ) (c : C) → length cs ≡ length us → Distinct us → i < length us
    → c ≡ get_or cs i c → ((d : ℕ) → get_or us i d ≡ v) → R c ≡ readings_of_node R cs us v
readings_there R cs [] i v c long distinct below at is = absurd (omega arith)
readings_there R [] (u ∷ us) i v c long distinct below at is = absurd (omega arith)
readings_there {C} R (d ∷ cs) (u ∷ us) zero v c long distinct below at is =
    ap R at ∙ sym (cond-true (u == v) (R d) (readings_of_node R cs us v) (eq-eqb u v (is 0)))
readings_there {C} R (d ∷ cs) (u ∷ us) (suc i) v c long distinct below at is =
    readings_there R cs us i v c (omega arith) distinct.1 (omega arith) at is
    ∙ sym (cond-false (u == v) (R d) (readings_of_node R cs us v) (ne_eqb u v (λ same. distinct.0 (i, omega arith, is u ∙ sym same))))

-- in the loop over those who receive
pub record IsAmidst (clocks : ℕ → ℕ → ℕ) (x : Sending) (vs : List ℕ) (first now inside : World) (ms : List Member) : Type 0 where
  pub so : now ≡ heard_by_all clocks x vs first
  pub view : inside ≡ now
  pub slice : ms ≡ inside.members

module _ {clocks : ℕ → ℕ → ℕ} {x : Sending} {vs : List ℕ} {first now inside : World} {ms : List Member} (l : IsAmidst clocks x vs first now inside ms) where
  pub loop_nodes : map node_of_member ms ≡ map node_of_member first.members
  loop_nodes = ap (map node_of_member) l.slice ∙ ap (λ (w : World). map node_of_member w.members) (l.view ∙ l.so) ∙ heard_nodes clocks x vs first

  pub loop_long : length ms ≡ length first.members
  loop_long = sym (length-map ms node_of_member) ∙ ap length loop_nodes ∙ length-map first.members node_of_member

  module _ (nodes : map node_of_member inside.members ≡ nodes_of inside.medium) (ps : List (ℕ × ℕ))
      (known : All (λ p. Contains (nodes_of first.medium) p.0) ps) (i : ℕ) (p : ℕ × ℕ) (at : slice_get ps i ≡ Some p) where
    pub hearer_there : Contains (map node_of_member ms) p.0
    hearer_there =
        let within : i < length ps = slice_get_within ps i p at in
        let there : Contains (nodes_of first.medium) p.0 =
        subst (λ (q : ℕ × ℕ). Contains (nodes_of first.medium) q.0) (get_or_from_slice_get ps i p p at) (known i p within) in
        let same : nodes_of first.medium ≡ map node_of_member ms = ap nodes_of (sym (heard_medium clocks x vs first))
        ∙ ap (λ (w : World). nodes_of w.medium) (sym (l.view ∙ l.so)) ∙ sym nodes ∙ ap (map node_of_member) (sym l.slice) in
        subst (λ (us : List ℕ). Contains us p.0) same there

    pub first_more : (clock : ℕ → ℕ) (new : World) → clock ≡ clocks p.0 → new ≡ world_after_reception clock x p.0 now → vs ≡ map (λ q. q.0) (take i ps)
        → new ≡ heard_by_all clocks x (map (λ q. q.0) (take (i + 1) ps)) first
    first_more clock new clock_is new_is vs_is =
        let within : i < length ps = slice_get_within ps i p at in
        let more : map (λ (q : ℕ × ℕ). q.0) (take (i + 1) ps) ≡ vs ++ p.0 ∷ [] = map_more (λ (q : ℕ × ℕ). q.0) ps i p within
        ∙ ap (λ (q : ℕ × ℕ). map (λ (r : ℕ × ℕ). r.0) (take i ps) ++ q.0 ∷ []) (get_or_from_slice_get ps i p p at)
        ∙ ap (λ (us : List ℕ). us ++ p.0 ∷ []) (sym vs_is) in
        new_is ∙ ap (λ (k : ℕ → ℕ). world_after_reception k x p.0 now) clock_is ∙ ap (world_after_reception (clocks p.0) x p.0) l.so
        ∙ sym (heard_push clocks x vs p.0 first)
        ∙ ap (λ (us : List ℕ). heard_by_all clocks x us first) (sym more)

node_there : (ms : List Member) (i v : ℕ) → i < length ms → ((d : Member) → (get_or ms i d).node ≡ v) → (d : ℕ) → get_or (map node_of_member ms) i d ≡ v
node_there [] i v below there d = absurd (omega arith)
node_there (m ∷ ms) zero v below there d = there m
node_there (m ∷ ms) (suc i) v below there d = node_there ms i v (omega arith) there d

module _ {C : Type 0} (R : C → ℕ → ℕ) (cs : List C) {x : Sending} {vs : List ℕ} {first now inside : World} {ms : List Member}
    (l : IsAmidst (readings_of_node R cs (map node_of_member first.members)) x vs first now inside ms) (shape : IsShape inside)
    (long : length cs ≡ length first.members) (place v : ℕ) (below : place < length ms) (there : (d : Member) → (get_or ms place d).node ≡ v) where
  abbrev clocks : ℕ → ℕ → ℕ
  clocks = readings_of_node R cs (map node_of_member first.members)

  pub place_below : place < length cs
  place_below = omega (arith, loop_long l)

  pub clock_there : (c : C) → c ≡ get_or cs place c → R c ≡ clocks v
  clock_there c at =
      let same : map node_of_member ms ≡ map node_of_member first.members = loop_nodes l in
      let apart : Distinct (map node_of_member first.members) =
      subst Distinct (sym shape.nodes ∙ ap (map node_of_member) (sym l.slice) ∙ same) (ascend_distinct (nodes_of inside.medium) shape.medium.nodes.ascending) in
      readings_there R cs (map node_of_member first.members) place v c (long ∙ sym (length-map first.members node_of_member)) apart
      (omega (arith, loop_long l, length-map first.members node_of_member)) at
      (λ d. subst (λ (us : List ℕ). get_or us place d ≡ v) same (node_there ms place v below there d))

  pub node_now : (d : Member) → (get_or now.members place d).node ≡ v
  node_now d = subst (λ (ns : List Member). (get_or ns place d).node ≡ v) (l.slice ∙ ap (λ (w : World). w.members) l.view) (there d)

pub some_member : (ms : List Member) (i : ℕ) → i < length ms → Member
some_member [] i below = absurd (omega arith)
some_member (m ∷ ms) i below = m
