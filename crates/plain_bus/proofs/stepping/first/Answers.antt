use Rattle.std.proofs.Common.{◌≡◌, ◌<◌, ◌≤◌, ◌∷◌, [], ℕ, List, All, length, map, get_or, is_some, subst, sym, ◌∙◌, ap, arith, length-append}
use Rattle.std.proofs.lemmas.List.{take_all, length-map, get_or-map}
use Rattle.std.proofs.lemmas.List.Elements.{All-push}
use Rattle.link_trace.specs.Masks.{IsMaskUpto}
use Rattle.link_trace.specs.Sealed.{Traced}
use Rattle.scenario_text.specs.declared.lines.NodeLine.{NodeLine}
use Rattle.bus_terms.specs.Flooding.{Setting, beginning}
use Rattle.plain_bus.specs.FloodMasks.{IsMaskedFlood, station_at, station_first, AddsSender}
use Rattle.plain_bus.specs.declared.station.Station.{Station}
use Rattle.plain_bus.proofs.SteppedByMasks.{begun, one_more_station, one_more_sender, no_station, nobody}
use Rattle.plain_bus.proofs.stepping.first.Goals as goal

pub loop-i-init : goal.loop-i-init
loop-i-init c = record {
  each = λ s t sealed flood. c.none-first.ensures.each;
  senders = λ s t sealed flood.
      subst (λ (n : ℕ). IsMaskUpto (λ v. is_some ((beginning s).sends v)) t.nodes 0 n) (sym c.none-first.ensures.senders)
      (no_station (λ v. is_some ((beginning s).sends v)) t.nodes);
  length = ap length c.none-first.ensures.each;
  times = nobody c.none-first.result.each.items 0 c.none-first.ensures.each;
}

pub loop-i-preserved : goal.loop-i-preserved
loop-i-preserved c =
    let f = c.args.flood.now in
    let lines = c.args.nodes.now in
    let i = c.loop-i.i in
    let y = c.initiator.result in
    let n = c.index-nodes-i.result in
    let inside : i < length lines = c.loop-i-test.true in
    let below : (t : Traced) → t.nodes ≡ map (λ (l : NodeLine). l.node) lines → i < length t.nodes =
    λ t sealed. omega (arith, inside, ap length sealed, length-map lines (λ (l : NodeLine). l.node)) in
    let node : (t : Traced) → t.nodes ≡ map (λ (l : NodeLine). l.node) lines → n.node ≡ get_or t.nodes i 0 = λ t sealed.
    ap (λ (l : NodeLine). l.node) c.index-nodes-i.is ∙ sym (get_or-map (λ (l : NodeLine). l.node) lines i n 0 inside)
    ∙ ap (λ (l : List ℕ). get_or l i 0) (sym sealed) in
    let station : (s : Setting) (t : Traced) → t.nodes ≡ map (λ (l : NodeLine). l.node) lines → IsMaskedFlood s t f
    → y ≡ station_at (beginning s) (get_or t.nodes i 0) = λ s t sealed flood.
    c.initiator.ensures ∙ ap (λ (v : ℕ). station_first f i v) (node t sealed) ∙ begun s t f i flood (below t sealed) in
    record {
      each = λ s t sealed flood.
          one_more_station (station_at (beginning s)) t.nodes i y c.loop-i.first.each.items c.push.new.self.each.items (below t sealed)
          (c.loop-i.invariant.each s t sealed flood) (station s t sealed flood) c.push.ensures.each;
      senders = λ s t sealed flood.
          one_more_sender (λ v. is_some ((beginning s).sends v)) t.nodes i y c.loop-i.first.senders c.push.new.self.senders
          (subst (λ (k : ℕ). AddsSender c.loop-i.first.senders k y c.push.new.self.senders) c.loop-i.invariant.length c.push.ensures.senders)
          (c.loop-i.invariant.senders s t sealed flood) (ap (λ (z : Station). is_some z.sends) (station s t sealed flood));
      length = omega (arith, ap length c.push.ensures.each, length-append c.loop-i.first.each.items (y ∷ []), c.loop-i.invariant.length);
      times =
          subst (λ (l : List Station). All (λ (z : Station). z.times ≤ 0) l) (sym c.push.ensures.each)
          (All-push (λ (z : Station). z.times ≤ 0) c.loop-i.first.each.items y c.loop-i.invariant.times
          (subst (λ (z : Station). z.times ≤ 0) (sym c.initiator.ensures) (omega arith)));
    }

pub returns : goal.returns
returns c =
    let lines = c.args.nodes.now in
    let all : c.loop-i.i ≡ length lines = omega (arith, c.loop-i-test.false, c.loop-i.auto.i-end) in
    record {
      at = λ s t sealed flood.
          (let size : length t.nodes ≡ length lines = ap length sealed ∙ length-map lines (λ (l : NodeLine). l.node) in
          record {
            each = c.loop-i.invariant.each s t sealed flood
                ∙ take_all c.loop-i.i (map (station_at (beginning s)) t.nodes) (omega (arith, all, size, length-map t.nodes (station_at (beginning s))));
            senders = subst (λ (n : ℕ). IsMaskUpto (λ v. is_some ((beginning s).sends v)) t.nodes n c.loop-i.first.senders) (all ∙ sym size)
                (c.loop-i.invariant.senders s t sealed flood);
          });
      length = c.loop-i.invariant.length ∙ all;
      times = c.loop-i.invariant.times;
    }
