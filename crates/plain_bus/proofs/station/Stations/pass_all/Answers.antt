use Rattle.std.proofs.Common.{◌≡◌, ◌<◌, ◌≤◌, ◌+◌, ℕ, List, All, length, map, take, drop, get_or, set, is_some, subst}
use Rattle.std.proofs.Common.{refl, sym, ◌∙◌, ap, arith}
use Rattle.std.specs.List.{refill}
use Rattle.std.proofs.lemmas.List.{take_all, take_at, length-map, get_or_default, take_more_set}
use Rattle.std.proofs.lemmas.List.Elements.{All-push}
use Rattle.link_trace.specs.Masks.{IsMaskUpto}
use Rattle.bus_terms.specs.Flooding.{Setting, Moment, next}
use Rattle.plain_bus.specs.FloodMasks.{AreAt, IsMaskedFlood, SendsForInitiators, IsLone, heard_alone, station_after, station_at, AddsSender, traced}
use Rattle.plain_bus.specs.declared.station.Station.{Station}
use Rattle.plain_bus.proofs.HeardAlone.{heard_alone_is}
use Rattle.plain_bus.proofs.HeardByMasks.{station_read}
use Rattle.plain_bus.proofs.ListsInPlace.{same_place, rest_unchanged}
use Rattle.plain_bus.proofs.SteppedByMasks.{added, not_added, stepped, one_more_station, one_more_sender, no_station, times_stepped}
use Rattle.plain_bus.proofs.station.Stations.pass_all.Goals as goal
use Rattle.plain_bus.proofs.station.Stations.pass_all.Goals.{then-is_some, else-is_some}

pub loop-station-init : goal.loop-station-init
loop-station-init g c = record {
  place = omega arith;
  done = λ s m flood lone known at. refl;
  senders = λ s m flood lone known at. no_station (λ v. is_some ((next s c.args.step m).sends v)) (g.M.Links.nodes c.args.links.now);
  todo = c.deref_mut-station-items.ensures.value;
  times = λ k d below. absurd (omega (arith, below));
}

pub pass-requires-clause-place : goal.pass-requires-clause-place
pass-requires-clause-place g c =
    let size = ap length c.deref_mut-station-items.ensures.value in
    omega (arith, c.loop-station-test.true, c.loop-station.invariant.place, size, c.requires.sealed, c.requires.few)

pub pass-requires-clause-times : goal.pass-requires-clause-times
pass-requires-clause-times g c =
    let i = c.loop-station.station-index in
    let xs = c.args.self.now.each.items in
    let d : Station = get_or c.loop-station.station-items i c.station-item.result in
    let inside : i < length xs = omega (arith, c.loop-station-test.true, ap length c.deref_mut-station-items.ensures.value) in
    let old : d ≡ get_or xs i d = same_place c.loop-station.station-items xs i c.station-item.result c.loop-station.invariant.todo
    ∙ get_or_default xs i c.station-item.result d inside in
    subst (λ (z : Station). z.times ≤ c.args.step) (sym old) (c.requires.times i d inside)

pub with-senders-requires : goal.with-senders-requires
with-senders-requires g c =
    let size = ap length c.deref_mut-station-items.ensures.value in
    omega (arith, c.loop-station-test.true, c.loop-station.invariant.place, size, c.requires.sealed, c.requires.few)

pub overflow_add-place : goal.overflow_add-place
overflow_add-place g c =
    let size = ap length c.deref_mut-station-items.ensures.value in
    omega (arith, c.loop-station-test.true, c.loop-station.invariant.place, size, c.requires.sealed, c.requires.few)

pub loop-station-preserved : goal.loop-station-preserved
loop-station-preserved g c =
    let t = traced (g.M.Links.lines c.args.links.now) (g.M.Links.nodes c.args.links.now) in
    let f = c.args.flood.now in
    let k = c.args.step in
    let o = c.args.origin in
    let nodes = t.nodes in
    let reached = c.reached_by-reached.result in
    let i = c.loop-station.station-index in
    let items = c.loop-station.station-items in
    let mask = c.loop-station.senders in
    let xs = c.args.self.now.each.items in
    let d : Station = get_or items i c.station-item.result in
    let y = c.pass.new.station in
    let v : ℕ = get_or nodes i 0 in
    let size = ap length c.deref_mut-station-items.ensures.value in
    let place = c.loop-station.invariant.place in
    let inside : i < length xs = omega (arith, c.loop-station-test.true, size) in
    let there : i < length items = omega (arith, c.loop-station-test.true, c.loop-station.auto.station-items) in
    let below : i < length nodes = omega (arith, inside, c.requires.sealed) in
    let old : d ≡ get_or xs i d = same_place items xs i c.station-item.result c.loop-station.invariant.todo
    ∙ get_or_default xs i c.station-item.result d inside in
    let passed : y ≡ station_after k d (heard_alone f reached i o d) =
    c.pass.ensures ∙ ap (λ (p : ℕ). station_after k d (heard_alone f reached p o d)) place in
    let station : (s : Setting) (m :
    Moment) → IsMaskedFlood s t f → IsLone s o → SendsForInitiators s m → AreAt m nodes c.args.self.now → y ≡ station_at (next s k m) v =
    λ s m flood lone known at.
    (let read : d ≡ station_at m v = station_read s m t f k flood known i below xs d at.each old in
    passed
    ∙ stepped s k m v d (heard_alone f reached i o d) read
    (heard_alone_is s m t f k flood known c.args.self.now at o lone c.except-quiet.result reached c.except-quiet.ensures c.reached_by-reached.ensures
    i below d read)) in
    let sent : AddsSender mask i y c.if-is_some.senders = elim c.if-is_some.branch [
      | then-is_some w ↦ subst (λ (n : ℕ). AddsSender mask i y n) (sym w.senders-is)
          (subst (λ (p : ℕ). AddsSender mask p y w.with-senders.result) place (added mask c.loop-station.place y w.with-senders.result
          (sym c.is_some.ensures ∙ w.if-is_some.true) w.with-senders.ensures.set w.with-senders.ensures.others))
      | else-is_some w ↦ subst (λ (n : ℕ). AddsSender mask i y n) (sym w.senders-is) (not_added mask i y (sym c.is_some.ensures ∙ w.if-is_some.false))
    ] in
    record {
      place = ap (λ (n : ℕ). n + 1) place;
      done = λ s m flood lone known at.
          one_more_station (station_at (next s k m)) nodes i y (take i items) (take (i + 1) (set items i y)) below
          (c.loop-station.invariant.done s m flood lone known at) (station s m flood lone known at) (take_more_set items i y there);
      senders = λ s m flood lone known at.
          one_more_sender (λ u. is_some ((next s k m).sends u)) nodes i y mask c.if-is_some.senders sent
          (c.loop-station.invariant.senders s m flood lone known at) (ap (λ (z : Station). is_some z.sends) (station s m flood lone known at));
      todo = rest_unchanged xs items i y c.loop-station.invariant.todo;
      times =
          subst (λ (l : List Station). All (λ (z : Station). z.times ≤ k + 1) l) (sym (take_more_set items i y there))
          (All-push (λ (z : Station). z.times ≤ k + 1) (take i items) y c.loop-station.invariant.times
          (subst (λ (z : Station). z.times ≤ k + 1) (sym passed) (times_stepped k d (heard_alone f reached i o d)
          (subst (λ (z : Station). z.times ≤ k) (sym old) (c.requires.times i d inside)))));
    }

pub returns-clause-at : goal.returns-clause-at
returns-clause-at g c s m flood lone known at =
    let nodes = (g.M.Links.nodes c.args.links.now) in
    let k = c.args.step in
    let i = c.loop-station.station-index in
    let items = c.loop-station.station-items in
    let xs = c.args.self.now.each.items in
    let long : length items ≡ length xs = c.loop-station.auto.station-items ∙ ap length c.deref_mut-station-items.ensures.value in
    let same : refill (length xs) xs items ≡ items = take_at items (drop (length items) xs) (length xs) long in
    let all : i ≡ length nodes = omega (
      arith,
      c.loop-station-test.false,
      c.loop-station.auto.station-index-end,
      c.loop-station.auto.station-items,
      long,
      c.requires.sealed,
    ) in
    record {
      each = same ∙ sym (take_all i items (omega (arith, all, long, c.requires.sealed))) ∙ c.loop-station.invariant.done s m flood lone known at
          ∙ take_all i (map (station_at (next s k m)) nodes) (omega (arith, all, length-map nodes (station_at (next s k m))));
      senders = subst (λ (n : ℕ). IsMaskUpto (λ v. is_some ((next s k m).sends v)) nodes n c.loop-station.senders) all
          (c.loop-station.invariant.senders s m flood lone known at);
    }

pub returns-clause-times : goal.returns-clause-times
returns-clause-times g c =
    let i = c.loop-station.station-index in
    let items = c.loop-station.station-items in
    let xs = c.args.self.now.each.items in
    let long : length items ≡ length xs = c.loop-station.auto.station-items ∙ ap length c.deref_mut-station-items.ensures.value in
    let same : refill (length xs) xs items ≡ items = take_at items (drop (length items) xs) (length xs) long in
    subst (λ (l : List Station). All (λ (z : Station). z.times ≤ c.args.step + 1) l) (sym same)
    (subst (λ (l : List Station). All (λ (z : Station). z.times ≤ c.args.step + 1) l)
    (take_all i items (omega (arith, c.loop-station-test.false, c.loop-station.auto.station-items))) c.loop-station.invariant.times)
