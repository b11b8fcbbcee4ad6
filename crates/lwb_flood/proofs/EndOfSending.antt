-- The end of a transmission, as the code brings it about.
use Rattle.std.proofs.Common.{◌≡◌, ℕ, zero, suc, ◌<◌, ◌≤◌, ◌↔◌, List, [], ◌∷◌, map, length, get_or, Bool, true, false, if◌then◌else◌, Option, Some, None, refl}
use Rattle.std.proofs.Common.{sym, ◌∙◌, ap, subst, arith}
use Rattle.std.specs.Prelude.{Contains, AllPairs, All, OnOk, Result, Ok, Err}
use Rattle.std.proofs.lemmas.Bool.{cond_both, cond-true, cond-false}
use Rattle.link_trace.specs.Passes.{Lines}
use Rattle.glossy_relay.specs.declared.flood.After.{After}
use Rattle.glossy_relay.specs.declared.flood.After.TheVariants.{Off, More}
use Rattle.radio_model.specs.declared.sending.Sending.{Sending}
use Rattle.radio_model.specs.declared.station.Station.{Station}
use Rattle.radio_model.specs.Hearing.{Scene, HearsInScene}
use Rattle.radio_model.specs.Holding.{Holds, as_it_stands}
use Rattle.radio_model.specs.Stations.{MediumState, IsTime, nodes_of, medium_after_change, station_changed_at, station_after_end, station_after_tuning}
use Rattle.radio_model.proofs.OneStation.{same_nodes}
use Rattle.radio_model.proofs.Changes.{finished_keeps, retuned_keeps}
use Rattle.air_log.specs.declared.entry.Entry.{Entry}
use Rattle.lwb_base.proofs.Elements.{map_contains, map_from, pairs_of_map}
use Rattle.lwb_flood.specs.declared.member.Member.{Member}
use Rattle.lwb_flood.specs.FloodWorlds.{World, IsShape, IsHeardBy, Ended, node_of_member, with_change, member_with_act, after_own, is_last, own_ended, gone}
use Rattle.lwb_flood.specs.FloodWorlds.{world_after_end, heard_by_all, readings_of_node}
use Rattle.lwb_flood.proofs.WorldLists.{nodes_kept}
use Rattle.lwb_flood.proofs.FloodShapes.{own_ended_shape}

-- who receives, as pairs and as nodes
module _ (u : ℕ) (ps : List (ℕ × ℕ)) (sender : (p : ℕ × ℕ) → Contains ps p → p.1 ≡ u) where
  pub hears_as_node : (v : ℕ) → Contains ps (v, u) → Contains (map (λ p. p.0) ps) v
  hears_as_node v there = map_contains (λ (p : ℕ × ℕ). p.0) ps (v, u) there

  pub hears_as_pair : (v : ℕ) → Contains (map (λ p. p.0) ps) v → Contains ps (v, u)
  hears_as_pair v there =
      let w = map_from (λ (p : ℕ × ℕ). p.0) ps v there in
      subst (λ (p : ℕ × ℕ). Contains ps p) (ap (λ (n : ℕ). (n, w.0.1)) w.2 ∙ ap (λ (n : ℕ). (v, n)) (sender w.0 w.1)) w.1

pub in_list : {X : Type 0} (P : X → Type 0) (xs : List X) → All P xs → (x : X) → Contains xs x → P x
in_list P xs all x (k, below, at) = subst P at (all k x below)

-- the medium's answer says who receives
pub heard_by : (lines : Lines) (x : Sending) (w : World) (ps : List (ℕ × ℕ)) → All (λ p. p.1 ≡ x.node) ps → AllPairs (λ p q. p.0 < q.0) ps
    → ((a : Scene) → Holds w.medium a → a.lines ≡ lines → (v : ℕ) → Contains ps (v, x.node)
    ↔ (Contains (nodes_of w.medium) v × HearsInScene (as_it_stands w.medium x.end a) v x)) → IsHeardBy lines x w (map (λ p. p.0) ps)
heard_by lines x w ps sender ascend clause = record {
  ascending = pairs_of_map (λ (p : ℕ × ℕ). p.0) (λ u v. u < v) ps ascend;
  hearers = λ a h same v.
      let by : (p : ℕ × ℕ) → Contains ps p → p.1 ≡ x.node = in_list (λ (p : ℕ × ℕ). p.1 ≡ x.node) ps sender in
      let both = clause a h same v in
      (λ there. both.0 (hears_as_pair x.node ps by v there), λ is. hears_as_node x.node ps by v (both.1 is));
}

pub hearers_known : (x : Sending) (m : MediumState) (ps : List (ℕ × ℕ)) → All (λ p. p.1 ≡ x.node) ps → (a : Scene)
    → ((v : ℕ) → Contains ps (v, x.node) ↔ (Contains (nodes_of m) v × HearsInScene a v x)) → All (λ p. Contains (nodes_of m) p.0) ps
hearers_known x m ps sender a clause k d below =
    let p : ℕ × ℕ = get_or ps k d in
    let there : Contains ps p = (k, below, same ps k p d below) in
    let by : p.1 ≡ x.node = in_list (λ (q : ℕ × ℕ). q.1 ≡ x.node) ps sender p there in
    ((clause p.0).0 (subst (λ (n : ℕ). Contains ps (p.0, n)) by there)).0
  where
    same : {Y : Type 0} (ys : List Y) (k : ℕ) (d e : Y) → k < length ys → get_or ys k d ≡ get_or ys k e
    same [] k d e less = absurd (omega arith)
    same (y ∷ ys) zero d e less = refl
    same (y ∷ ys) (suc k) d e less = same ys k d e (omega arith)

-- no time is after the end of what still runs
pub time_after : (m : MediumState) (v t : ℕ) → IsTime m t → IsTime (medium_after_change t v station_after_end m) t
time_after m v t is = record {
  later = omega arith;
  small = is.small;
  running = λ st x there sends.
      let was = map_from (station_changed_at v station_after_end) m.stations st there in
      by_change was.0 was.1 x (ap (λ (s : Station). s.sending) was.2 ∙ sends);
}
  where
    by_change : (s : Station) → Contains m.stations s → (x : Sending) → (station_changed_at v station_after_end s).sending ≡ Some x → t ≤ x.end
    by_change s there x = cond_both (Rattle.std.proofs.Common.nat_eq s.node v) (station_after_end s) s (λ (z : Station). z.sending ≡ Some x → t ≤ x.end)
        (λ _ sends. none sends) (λ _ sends. is.running s x there sends)
      where
        none : (let o : Option Sending = None in o ≡ Some x) → t ≤ x.end
        none same = cc

more_is : (b : Bool) → (if b then Off else More) ≡ More → b ≡ false
more_is true same = cc
more_is false same = refl

off_is : (b : Bool) → (if b then Off else More) ≡ Off → b ≡ true
off_is true same = refl
off_is false same = cc

-- the world when its node has ended it
module _ (x : Sending) (old : World) (after : After) (last : after ≡ (if is_last x.node old.members then Off else More)) where
  pub ended_more : after ≡ More → own_ended x old ≡ world_after_end x old
  ended_more is = sym (cond-false (is_last x.node old.members) (gone x.node x.end (own_ended x old)) (own_ended x old)
      (more_is (is_last x.node old.members) (sym last ∙ is)))

  pub ended_off : after ≡ Off → gone x.node x.end (own_ended x old) ≡ world_after_end x old
  ended_off is = sym (cond-true (is_last x.node old.members) (gone x.node x.end (own_ended x old)) (own_ended x old)
      (off_is (is_last x.node old.members) (sym last ∙ is)))

own_nodes : (x : Sending) (old : World) → map node_of_member (own_ended x old).members ≡ map node_of_member old.members
own_nodes x old = nodes_kept x.node after_own (λ m. refl) old.members

ended_nodes : (x : Sending) (old : World) → map node_of_member (world_after_end x old).members ≡ map node_of_member old.members
ended_nodes x old =
    cond_both (is_last x.node old.members) (gone x.node x.end (own_ended x old)) (own_ended x old)
    (λ (w : World). map node_of_member w.members ≡ map node_of_member old.members)
    (λ _. nodes_kept x.node (member_with_act Rattle.lwb_flood.specs.declared.member.Act.TheVariants.Off) (λ m. refl) (own_ended x old).members
    ∙ own_nodes x old)
    (λ _. own_nodes x old)

pub ended_by : {C : Type 0} (R : C → ℕ → ℕ) (cs : List C) (lines : Lines) (x : Sending) (old mid new : World) (vs : List ℕ) → IsHeardBy lines x old vs
    → mid ≡ world_after_end x old
    → new ≡ heard_by_all (readings_of_node R cs (map node_of_member mid.members)) x vs mid
    → Ended lines (readings_of_node R cs (map node_of_member old.members)) x old new
ended_by R cs lines x old mid new vs by same is = record {
  hearers = vs;
  heard = by;
  is = is ∙ ap (λ (w : World). heard_by_all (readings_of_node R cs (map node_of_member w.members)) x vs w) same
      ∙ ap (λ (us : List ℕ). heard_by_all (readings_of_node R cs us) x vs (world_after_end x old)) (ended_nodes x old);
}

pub own_shape : (inside : World) → IsShape inside → (x : Sending) (medium : MediumState) (members : List Member) (air : List Entry)
    → medium ≡ medium_after_change x.end x.node station_after_end inside.medium → members ≡ with_change x.node after_own inside.members
    → IsShape (record { medium = medium; members = members; air = air })
own_shape inside is x medium members air medium_is members_is =
    let shape = own_ended_shape inside is x in
    record {
      nodes = ap (map node_of_member) members_is ∙ shape.nodes ∙ ap nodes_of (sym medium_is);
      medium = subst Rattle.radio_model.specs.Stations.IsMedium (sym medium_is) shape.medium;
    }

pub on_ok : {T E : Type 0} (r : Result T E) (P Q : Type 0) → (P → Q) → OnOk r P → OnOk r Q
on_ok (Ok x) P Q to is = to is
on_ok (Err e) P Q to is = is

-- what the code has of the world when its node has ended the transmission
pub record HasEnded (inside old : World) (x : Sending) (lines : Lines) (ps : List (ℕ × ℕ)) (medium : MediumState) (members : List Member) : Type 0 where
  pub view : inside ≡ old
  pub state : medium ≡ medium_after_change x.end x.node station_after_end inside.medium
  pub changed : members ≡ with_change x.node after_own inside.members
  pub sender : All (λ p. p.1 ≡ x.node) ps
  pub ascend : AllPairs (λ p q. p.0 < q.0) ps
  pub clause : (a : Scene) → Holds inside.medium a → a.lines ≡ lines → (v : ℕ) → Contains ps (v, x.node)
      ↔ (Contains (nodes_of inside.medium) v × HearsInScene (as_it_stands inside.medium x.end a) v x)

module _ {inside old : World} {x : Sending} {lines : Lines} {ps : List (ℕ × ℕ)} {medium : MediumState} {members : List Member}
    (e : HasEnded inside old x lines ps medium members) where
  abbrev pub mid : World
  mid = record { medium = medium; members = members; air = inside.air }

  pub mid_is : mid ≡ own_ended x old
  mid_is =
      ap (λ (m : MediumState). record { medium = m; members = members; air = inside.air }) e.state
      ∙ ap (λ (l : List Member). record { medium = medium_after_change x.end x.node station_after_end inside.medium; members = l; air = inside.air }) e.changed
      ∙ ap (own_ended x) e.view

  pub mid_nodes : nodes_of medium ≡ nodes_of old.medium
  mid_nodes = ap nodes_of e.state ∙ same_nodes inside.medium x.end x.node station_after_end finished_keeps.node ∙ ap (λ (w : World). nodes_of w.medium) e.view

  pub mid_node : Contains (nodes_of old.medium) x.node → Contains (nodes_of medium) x.node
  mid_node there = subst (λ (l : List ℕ). Contains l x.node) (sym mid_nodes) there

  pub mid_time : IsTime old.medium x.end → IsTime medium x.end
  mid_time is = subst (λ (m : MediumState). IsTime m x.end) (sym e.state)
      (time_after inside.medium x.node x.end (subst (λ (w : World). IsTime w.medium x.end) (sym e.view) is))

  pub mid_known : ((a : Scene) × Holds old.medium a × (a.lines ≡ lines)) → (nodes : List ℕ) → nodes ≡ nodes_of old.medium → All (λ p. Contains nodes p.0) ps
  mid_known held nodes same =
      let h : Holds inside.medium held.0 = subst (λ (w : World). Holds w.medium held.0) (sym e.view) held.1 in
      let to : nodes ≡ nodes_of inside.medium = same ∙ ap (λ (w : World). nodes_of w.medium) (sym e.view) in
      subst (λ (l : List ℕ). All (λ p. Contains l p.0) ps) (sym to)
      (hearers_known x inside.medium ps e.sender (as_it_stands inside.medium x.end held.0) (e.clause held.0 h held.2))

  pub mid_heard : IsHeardBy lines x old (map (λ p. p.0) ps)
  mid_heard = subst (λ (w : World). IsHeardBy lines x w (map (λ p. p.0) ps)) e.view (heard_by lines x inside ps e.sender e.ascend e.clause)

  module _ (after : After) (last : after ≡ (if is_last x.node inside.members then Off else More)) where
    last_old : after ≡ (if is_last x.node old.members then Off else More)
    last_old = last ∙ ap (λ (w : World). if is_last x.node w.members then Off else More) e.view

    pub is_ended_more : after ≡ More → mid ≡ world_after_end x old
    is_ended_more is = mid_is ∙ ended_more x old after last_old is

    pub is_ended_off : after ≡ Off → (new : World) → new ≡ gone x.node x.end mid → new ≡ world_after_end x old
    is_ended_off is new same = same ∙ ap (gone x.node x.end) mid_is ∙ ended_off x old after last_old is

    pub gone_nodes : (new : World) → new ≡ gone x.node x.end mid → nodes_of new.medium ≡ nodes_of old.medium
    gone_nodes new same =
        let none : Option ℕ = None in
        ap (λ (w : World). nodes_of w.medium) same ∙ same_nodes medium x.end x.node (station_after_tuning none x.end) (retuned_keeps none x.end).node
        ∙ mid_nodes
