use Rattle.std.proofs.Common.{◌≡◌, ◌<◌, ◌≤◌, ◌+◌, ◌∷◌, [], ℕ, List, All, length, map, get_or, is_some, subst, sym, ◌∙◌, ap, arith, length-append}
use Rattle.std.proofs.lemmas.List.{take_all, length-map}
use Rattle.std.proofs.lemmas.List.Elements.{All-push}
use Rattle.link_trace.specs.Masks.{IsMaskUpto}
use Rattle.bus_terms.specs.Flooding.{next}
use Rattle.plain_bus.specs.FloodMasks.{station_at, AddsSender, traced}
use Rattle.plain_bus.specs.declared.station.Station.{Station}
use Rattle.plain_bus.proofs.HeardByMasks.{station_read}
use Rattle.plain_bus.proofs.SteppedByMasks.{stepped, one_more_station, one_more_sender, no_station, times_stepped, nobody}
use Rattle.plain_bus.proofs.station.Stations.next.Goals as goal

pub loop-place-init : goal.loop-place-init
loop-place-init g c = record {
  each = λ s m flood known at. c.none-next.ensures.each;
  senders = λ s m flood known at.
      subst (λ (n : ℕ). IsMaskUpto (λ v. is_some ((next s c.args.step m).sends v)) (g.M.Links.nodes c.args.links.now) 0 n) (sym c.none-next.ensures.senders)
      (no_station (λ v. is_some ((next s c.args.step m).sends v)) (g.M.Links.nodes c.args.links.now));
  length = ap length c.none-next.ensures.each;
  times = nobody c.none-next.result.each.items (c.args.step + 1) c.none-next.ensures.each;
}

pub loop-place-preserved : goal.loop-place-preserved
loop-place-preserved g c =
    let t = traced (g.M.Links.lines c.args.links.now) (g.M.Links.nodes c.args.links.now) in
    let f = c.args.flood.now in
    let nodes = t.nodes in
    let k = c.args.step in
    let place = c.loop-place.place in
    let xs = c.args.self.now.each.items in
    let x = c.index-deref-from.result in
    let y = c.after.result in
    let inside : place < length xs = omega (arith, c.loop-place-test.true, c.len-place-end.ensures.value) in
    let below : place < length nodes = subst (λ (n : ℕ). place < n) c.requires.sealed inside in
    let read : x ≡ get_or xs place x = c.index-deref-from.is ∙ ap (λ (l : List Station). get_or l c.from.result x) c.deref.ensures.0
    ∙ ap (λ (n : ℕ). get_or xs n x) c.from.ensures in
    record {
      each = λ s m flood known at.
          one_more_station (station_at (next s k m)) nodes place y c.loop-place.next.each.items c.push.new.self.each.items below
          (c.loop-place.invariant.each s m flood known at)
          (c.after.ensures ∙ stepped s k m (get_or nodes place 0) x c.hears-heard.result (station_read s m t f k flood known place below xs x at.each read)
          (c.hears-heard.ensures s m flood known at)) c.push.ensures.each;
      senders = λ s m flood known at.
          one_more_sender (λ v. is_some ((next s k m).sends v)) nodes place y c.loop-place.next.senders c.push.new.self.senders
          (subst (λ (n : ℕ). AddsSender c.loop-place.next.senders n y c.push.new.self.senders) c.loop-place.invariant.length c.push.ensures.senders)
          (c.loop-place.invariant.senders s m flood known at)
          (ap (λ (z : Station). is_some z.sends)
          (c.after.ensures ∙ stepped s k m (get_or nodes place 0) x c.hears-heard.result
          (station_read s m t f k flood known place below xs x at.each read) (c.hears-heard.ensures s m flood known at)));
      length = omega (arith, ap length c.push.ensures.each, length-append c.loop-place.next.each.items (y ∷ []), c.loop-place.invariant.length);
      times =
          subst (λ (l : List Station). All (λ (z : Station). z.times ≤ k + 1) l) (sym c.push.ensures.each)
          (All-push (λ (z : Station). z.times ≤ k + 1) c.loop-place.next.each.items y c.loop-place.invariant.times
          (subst (λ (z : Station). z.times ≤ k + 1) (sym c.after.ensures) (times_stepped k x c.hears-heard.result
          (subst (λ (z : Station). z.times ≤ k) (sym read) (c.requires.times place x inside)))));
    }

pub returns : goal.returns
returns g c =
    let nodes = (g.M.Links.nodes c.args.links.now) in
    let k = c.args.step in
    let all : c.loop-place.place ≡ length nodes =
    omega (arith, c.loop-place-test.false, c.loop-place.auto.place-end, c.len-place-end.ensures.value, c.requires.sealed) in
    record {
      at = λ s m flood known at. record {
        each = c.loop-place.invariant.each s m flood known at
            ∙ take_all c.loop-place.place (map (station_at (next s k m)) nodes) (omega (arith, all, length-map nodes (station_at (next s k m))));
        senders = subst (λ (n : ℕ). IsMaskUpto (λ v. is_some ((next s k m).sends v)) nodes n c.loop-place.next.senders) all
            (c.loop-place.invariant.senders s m flood known at);
      };
      length = c.loop-place.invariant.length ∙ all;
      times = c.loop-place.invariant.times;
    }
