use Rattle.std.proofs.Common.{◌≡◌, ◌<◌, ◌++◌, ◌∷◌, [], ℕ, List, Vec, filter, length, map, get_or, sym, ◌∙◌, ap, arith, append-nil}
use Rattle.std.proofs.lemmas.List.{length-map, take_all}
use Rattle.std.proofs.lemmas.Bool.{eqb-true}
use Rattle.std.specs.declared.alloc.Global.{Global}
use Rattle.link_trace.specs.declared.lines.LoseLine.{LoseLine}
use Rattle.plain_bus.specs.FloodMasks.{station_at}
use Rattle.plain_bus.specs.declared.station.Station.{Station}
use Rattle.plain_bus.proofs.HeardByMasks.{bit_tells}
use Rattle.drawn_bus.specs.FloodLosses.{line_at}
use Rattle.drawn_losses.proofs.LossesFound.{chosen_more, chosen_same, node_read, none_chosen, unset}
use Rattle.drawn_losses.proofs.step_losses.add_losses.Goals as goal
use Rattle.drawn_losses.proofs.step_losses.add_losses.Goals.{then-has+in_ok-push, else-has}

pub returns-then-is_empty : goal.returns-then-is_empty
returns-then-is_empty c m nodes test at mask =
    let fl = c.args.flood.now in
    let g : ℕ → LoseLine = line_at fl.frame fl.slot c.args.step (get_or nodes c.args.from 0) in
    sym (append-nil c.args.lines.now.items)
    ∙ ap (λ (l : List ℕ). c.args.lines.now.items ++ map g l)
    (sym (none_chosen test nodes (unset test nodes c.args.lost mask (eqb-true c.args.lost 0 (sym c.is_empty.ensures ∙ c.if-is_empty.true)))))

pub loop-place-init : goal.loop-place-init
loop-place-init c m nodes test at mask = sym (append-nil c.args.lines.now.items)

pub loop-place-preserved : goal.loop-place-preserved
loop-place-preserved c m nodes test at mask =
    let fl = c.args.flood.now in
    let i = c.loop-place.place in
    let xs = c.args.now.now.each.items in
    let k = c.args.step in
    let g : ℕ → LoseLine = line_at fl.frame fl.slot k (get_or nodes c.args.from 0) in
    let size : length xs ≡ length nodes = ap length at ∙ length-map nodes (station_at m) in
    let below : i < length nodes = omega (arith, c.loop-place-test.true, c.len-place-end.ensures.value, size) in
    let x = c.index-deref-from.result in
    let sends : x ≡ get_or xs c.args.from x = c.index-deref-from.is ∙ ap (λ (l : List Station). get_or l c.from.result x) c.deref.ensures.0
    ∙ ap (λ (n : ℕ). get_or xs n x) c.from.ensures in
    let sender = ap (λ (z : Station). z.node) (sym c.index-deref-from.is)
    ∙ node_read m nodes xs c.args.from x at (omega (arith, c.requires.from, size)) sends in
    let tells = sym (bit_tells nodes test c.args.lost i mask below) ∙ sym c.has.ensures in
    let before = c.loop-place.invariant m nodes test at mask in
    elim c.if-has.branch [
      | then-has+in_ok-push w ↦
          (let y = w.index-deref-from-then-has.result in
          let read : y ≡ get_or xs i y = w.index-deref-from-then-has.is
          ∙ ap (λ (l : List Station). get_or l w.from-then-has.result y) w.deref-then-has.ensures.0
          ∙ ap (λ (n : ℕ). get_or xs n y) w.from-then-has.ensures in
          let to = get_or w.deref-then-has.result.now w.from-then-has.result y in
          let pushed : w.push.new.self.items
          ≡ c.loop-place.lines.items ++ line_at fl.frame fl.slot k (get_or c.deref.result.now c.from.result x).node to.node ∷ [] =
          w.in_ok-push.ensures.items in
          chosen_more g test nodes i c.args.lines.now.items c.loop-place.lines.items c.if-has.lines.items below before (tells ∙ w.if-has.true)
          (ap (λ (v : Vec LoseLine Global). v.items) w.lines-is ∙ pushed
          ∙ ap (λ (u : ℕ). c.loop-place.lines.items ++ line_at fl.frame fl.slot k u to.node ∷ []) sender
          ∙ ap (λ (v : ℕ). c.loop-place.lines.items ++ g v ∷ [])
          (ap (λ (z : Station). z.node) (sym w.index-deref-from-then-has.is) ∙ node_read m nodes xs i y at below read)))
      | else-has w ↦
          chosen_same g test nodes i c.args.lines.now.items c.if-has.lines.items below (ap (λ (v : Vec LoseLine Global). v.items) w.lines-is ∙ before)
          (tells ∙ w.if-has.false)
    ]

pub returns : goal.returns
returns c m nodes test at mask =
    let fl = c.args.flood.now in
    let size : length c.args.now.now.each.items ≡ length nodes = ap length at ∙ length-map nodes (station_at m) in
    let all : c.loop-place.place ≡ length nodes =
    omega (arith, c.loop-place-test.false, c.loop-place.auto.place-end, c.len-place-end.ensures.value, size) in
    c.loop-place.invariant m nodes test at mask
    ∙ ap (λ (l : List ℕ). c.args.lines.now.items ++ map (line_at fl.frame fl.slot c.args.step (get_or nodes c.args.from 0)) (filter test l))
    (take_all c.loop-place.place nodes (omega (arith, all)))
