use Rattle.std.proofs.Common.{◌≡◌, ◌∙◌, ℕ, List, ◌++◌, Bool, ◌==◌, not, ◌||◌, filter_map, get_or, length}
use Rattle.std.proofs.Common.{inl, inr, sym, ap, subst, arith}
use Rattle.std.proofs.lemmas.Bool.{cases_eq, cond-true, cond-false}
use Rattle.std.proofs.lemmas.List.{length-map}
use Rattle.std.proofs.lemmas.Nat.Bits.{bit_at-lt}
use Rattle.std.specs.Int.{bit_at}
use Rattle.link_trace.specs.Masks.{IsMaskAmong}
use Rattle.link_trace.specs.Passes.{Lines, captured}
use Rattle.radio_model.specs.Stations.{id_of_station, fresh}
use Rattle.radio_model.specs.Meetings.{is_chosen, is_heard, key_of, rivals_to, passes_at, IsPlaceOf}
use Rattle.radio_model.specs.declared.ending.Ending.{Ending}
use Rattle.radio_model.specs.declared.rivals.Key.{Key}
use Rattle.radio_model.specs.declared.station.Station.{Station}
use Rattle.radio_model.proofs.HeardInTurn.{LooksAt, of_node, left_bits, heard_at, all_heard, heard_of_left, looked_at, room_for_it}
use Rattle.radio_model.proofs.EndingPlaces.{the_station}
use Rattle.radio_model.proofs.RestOfPlaces.{bit_cases}
use Rattle.radio_model.proofs.Ready.{AreReady, ready_below, nobody_hears, not_where_left_out, taken_is_heard}
use Rattle.radio_model.proofs.Those.{is_none}
use Rattle.radio_model.proofs.listeners.listeners.Given.{Over}
use Rattle.radio_model.proofs.listeners.listeners.Goals as goal
use Rattle.radio_model.proofs.listeners.listeners.Goals.{After-ready_of-ready, After-index-ending-from, After-is_taken}

-- these nodes are ready for the transmission that ends, which node u sends
abbrev Readied : Lines → List ℕ → ℕ → Ending → ℕ → Type 0
Readied lines nodes u e ready =
    AreReady lines nodes u e.x.now (key_of e.profile.now e.x.now) (rivals_to e.profile.now e.x.now e.stations.now) e.stations.now ready

left_ready : (g : Over) (c : After-ready_of-ready g)
    → Readied (g.M.Links.lines c.args.links.now) (g.M.Links.nodes c.args.links.now) c.args.from.now.node c.args.ending.now c.ready_of-ready.result
left_ready g c =
    let nodes = g.M.Links.nodes c.args.links.now in
    let passes : Key → ℕ → ℕ → Bool = passes_at (g.M.Links.lines c.args.links.now) in
    let sts = c.args.ending.now.stations.now in
    let is = c.requires.ending in
    record {
      few = is.few;
      size = ap length is.seal ∙ length-map sts id_of_station;
      placed = is.placed;
      in_order = is.in_order;
      idle = c.idle.result;
      busy_else = λ k d below none. is.busy k d below (elim (bit_cases (bit_at c.args.ending.now.busy k) (bit_at-lt c.args.ending.now.busy k)) [
        | inl not_busy ↦ absurd (omega (arith, none, c.idle.ensures k (omega (arith, below, is.few)) not_busy))
        | inr one ↦ one
      ]);
      reached = c.reach_of-reached.result;
      lost = c.lost_early-lost.result;
      left = c.except-left.result;
      reach = subst (λ (n : ℕ). IsMaskAmong (passes (key_of c.args.ending.now.profile.now c.args.ending.now.x.now) n) nodes c.idle.result
          c.reach_of-reached.result)
          c.requires.from.there
          (subst (λ (k : Key). IsMaskAmong (passes k (get_or nodes c.args.from.now.place 0)) nodes c.idle.result
          c.reach_of-reached.result) is.key c.reach_of-reached.ensures);
      lost_is = c.lost_early-lost.ensures;
      left_is = c.except-left.ensures;
      those = c.ready_of-ready.ensures;
    }

-- the station at place k is looked at
looks : (g : Over) (c : After-is_taken g)
    → Readied (g.M.Links.lines c.args.links.now) (g.M.Links.nodes c.args.links.now) c.args.from.now.node c.args.ending.now c.ready_of-ready.result
    → (let e = c.args.ending.now in
    LooksAt (g.M.Links.lines c.args.links.now) c.args.from.now.node e.x.now (key_of e.profile.now e.x.now) (rivals_to e.profile.now e.x.now e.stations.now)
    e.stations.now c.loop-crowd.rest c.without-rest.result c.lowest-place.result (get_or e.stations.now c.from.result c.index-ending-from.result)
    c.is_taken.result c.loop-crowd.hearers)
looks g c q =
    let lines = g.M.Links.lines c.args.links.now in
    let e = c.args.ending.now in
    let key = key_of e.profile.now e.x.now in
    let rs = rivals_to e.profile.now e.x.now e.stations.now in
    let k = c.lowest-place.result in
    let st = get_or e.stations.now c.from.result c.index-ending-from.result in
    let mixed : Bool = not (bit_at c.in-Some.crowd.mixed k == 1) in
    let left = left_bits c.ready_of-ready.result c.in-Some.crowd.spoiled c.left_of-rest.result k c.left_of-rest.ensures
    (c.loop-crowd.invariant.left k c.lowest-place.ensures.set) in
    let below = ready_below q k left.0 in
    let at = the_station e.stations.now c.from.result k c.index-ending-from.result st c.from.ensures below in
    record {
      in_order = c.requires.ending.in_order;
      below = below;
      at = at;
      was = c.lowest-place.ensures.set;
      first = c.lowest-place.ensures.first;
      now = c.without-rest.ensures.cleared;
      others = c.without-rest.ensures.others;
      is = c.is_taken.ensures
          ∙ ap (λ (q : Key). mixed || is_chosen lines st.node rs (captured lines q.frame q.slot q.counter st.node)) c.requires.ending.key
          ∙ ap (λ (s : Station). mixed || is_chosen lines s.node rs (captured lines key.frame key.slot key.counter s.node)) at
          ∙ taken_is_heard q k st c.in-Some.crowd below left.0 left.1 c.in-Some.ensures.from (c.in-Some.ensures.tells k left.0)
          ∙ ap (is_heard lines c.args.from.now.node e.x.now key rs) (sym at);
      so = c.loop-crowd.invariant.pairs;
    }

pub ready_of-ready-requires-clause-within : goal.ready_of-ready-requires-clause-within
ready_of-ready-requires-clause-within g c =
    let nodes = g.M.Links.nodes c.args.links.now in
    let e = c.args.ending.now in
    let reached = c.reach_of-reached.result in
    λ k one.
    omega (
      arith,
      of_node nodes (λ v. passes_at (g.M.Links.lines c.args.links.now) e.key (get_or nodes c.args.from.now.place 0) v) c.idle.result reached k
          c.reach_of-reached.ensures
          (left_bits reached c.lost_early-lost.result c.except-left.result k c.except-left.ensures one).0,
      ap length c.requires.ending.seal,
      length-map e.stations.now id_of_station,
    )

pub crowd_of-requires-clause-within : goal.crowd_of-requires-clause-within
crowd_of-requires-clause-within g c =
    let q = left_ready g (goal.at.crowd_of-requires-clause-within g c).After-ready_of-ready in
    λ k one. let below = ready_below q k one in omega (arith, below, q.size)

pub returns-in_default : goal.returns-in_default
returns-in_default g c =
    c.none.ensures ∙ nobody_hears (left_ready g (goal.at.returns-in_default g c).After-ready_of-ready) c.in_default.ensures.none

pub bounds-ending-from : goal.bounds-ending-from
bounds-ending-from g c =
    let k = c.lowest-place.result in
    let ready = (left_bits c.ready_of-ready.result c.in-Some.crowd.spoiled c.left_of-rest.result k c.left_of-rest.ensures
    (c.loop-crowd.invariant.left k c.lowest-place.ensures.set)).0 in
    let below = ready_below (left_ready g (goal.at.bounds-ending-from g c).After-ready_of-ready) k ready in
    omega (arith, c.from.ensures, below)

-- the station at the lowest place that is left
placed : (g : Over) (c : After-index-ending-from g)
    → Readied (g.M.Links.lines c.args.links.now) (g.M.Links.nodes c.args.links.now) c.args.from.now.node c.args.ending.now c.ready_of-ready.result
    → (let e = c.args.ending.now in let st = get_or e.stations.now c.from.result c.index-ending-from.result in
    IsPlaceOf (g.M.Links.nodes c.args.links.now) st.place st.node × (c.lowest-place.result ≡ st.place))
placed g c q =
    let sts = c.args.ending.now.stations.now in
    let k = c.lowest-place.result in
    let st = get_or sts c.from.result c.index-ending-from.result in
    let below = ready_below q k (left_bits c.ready_of-ready.result c.in-Some.crowd.spoiled c.left_of-rest.result k c.left_of-rest.ensures
    (c.loop-crowd.invariant.left k c.lowest-place.ensures.set)).0 in
    let at = the_station sts c.from.result k c.index-ending-from.result st c.from.ensures below in (
      subst (λ (s : Station). IsPlaceOf (g.M.Links.nodes c.args.links.now) s.place s.node) (sym at) (q.placed k st below),
      sym (ap (λ (s : Station). s.place) at ∙ q.in_order k st below),
    )

pub is_taken-requires-clause-at : goal.is_taken-requires-clause-at
is_taken-requires-clause-at g c =
    let back = goal.at.is_taken-requires-clause-at g c in
    (placed g back.After-index-ending-from (left_ready g back.After-ready_of-ready)).0

pub is_taken-requires-clause-place : goal.is_taken-requires-clause-place
is_taken-requires-clause-place g c =
    let back = goal.at.is_taken-requires-clause-place g c in
    (placed g back.After-index-ending-from (left_ready g back.After-ready_of-ready)).1

pub push-requires : goal.push-requires
push-requires g c =
    let back = goal.at.push-requires g c in
    room_for_it (looks g back.After-is_taken (left_ready g back.After-ready_of-ready)) c.if-is_taken.true c.requires.ending.few

pub loop-crowd-init : goal.loop-crowd-init
loop-crowd-init g c =
    let lines = g.M.Links.lines c.args.links.now in
    let u = c.args.from.now.node in
    let e = c.args.ending.now in
    let key = key_of e.profile.now e.x.now in
    let rs = rivals_to e.profile.now e.x.now e.stations.now in
    let rest = c.left_of-rest.result in
    record {
      pairs = ap (λ (l : List (ℕ × ℕ)). l ++ filter_map (heard_at lines u e.x.now key rs rest) e.stations.now) c.none-hearers.ensures
          ∙ heard_of_left lines u e.x.now key rs e.stations.now (fresh 0 0) rest c.requires.ending.in_order (λ k below out.
          not_where_left_out (left_ready g (goal.at.loop-crowd-init g c).After-ready_of-ready) k (fresh 0 0) c.in-Some.crowd rest below
          c.in-Some.ensures.from c.left_of-rest.ensures out);
      left = λ k one. one;
    }

-- what is left after it was left before
left_after : (g : Over) (c : After-is_taken g) → (j : ℕ) → bit_at c.without-rest.result j ≡ 1 → bit_at c.left_of-rest.result j ≡ 1
left_after g c j one = elim (cases_eq j c.lowest-place.result) [
  | inl here ↦ absurd (omega (arith, one, c.without-rest.ensures.cleared, ap (bit_at c.without-rest.result) here))
  | inr other ↦ c.loop-crowd.invariant.left j (sym (c.without-rest.ensures.others j other) ∙ one)
]

pub loop-crowd-preserved : goal.loop-crowd-preserved
loop-crowd-preserved g c =
    let back = goal.at.loop-crowd-preserved g c in
    let at = back.After-is_taken in
    record {
      pairs = looked_at (looks g at (left_ready g back.After-ready_of-ready)) c.loop-crowd.hearers (sym (cond-false c.is_taken.result _ _ c.if-is_taken.false));
      left = left_after g at;
    }

pub loop-crowd-preserved-then-is_taken : goal.loop-crowd-preserved-then-is_taken
loop-crowd-preserved-then-is_taken g c =
    let back = goal.at.loop-crowd-preserved-then-is_taken g c in
    let at = back.After-is_taken in
    record {
      pairs = looked_at (looks g at (left_ready g back.After-ready_of-ready)) c.push.new.self (c.push.ensures
          ∙ sym (cond-true c.is_taken.result _ _ c.if-is_taken.true));
      left = left_after g at;
    }

pub returns : goal.returns
returns g c =
    let lines = g.M.Links.lines c.args.links.now in
    let x = c.args.ending.now.x.now in
    let u = c.args.from.now.node in
    let sts = c.args.ending.now.stations.now in
    let key = key_of c.args.ending.now.profile.now x in
    let rs = rivals_to c.args.ending.now.profile.now x sts in
    let over : c.loop-crowd.rest ≡ 0 = is_none c.loop-crowd.rest c.is_empty.result c.is_empty.ensures c.loop-crowd-test.false in
    sym (all_heard lines u x key rs sts (fresh 0 0) c.loop-crowd.hearers)
    ∙ ap (λ (n : ℕ). c.loop-crowd.hearers ++ filter_map (heard_at lines u x key rs n) sts) (sym over) ∙ c.loop-crowd.invariant.pairs
