use Rattle.std.proofs.Common.{◌≡◌, ◌<◌, ◌≤◌, ◌+◌, ◌++◌, ℕ, List, All, false, inl, inr, length, take, get_or, set, option_to_list, subst, refl, sym, ◌∙◌, ap}
use Rattle.std.proofs.Common.{arith}
use Rattle.std.proofs.lemmas.Bool.{cases_lt}
use Rattle.std.proofs.lemmas.List.{get_or-map, get_or_default, length-set}
use Rattle.std.proofs.lemmas.List.Elements.{All-set}
use Rattle.scenario_text.specs.ScenarioFacts.{turned}
use Rattle.bus_rules.specs.States.{IsAct}
use Rattle.scenario_text.specs.declared.script.ScriptLine.{ScriptLine}
use Rattle.bus_terms.specs.ScriptedStates.{power}
use Rattle.bus_terms.specs.Bus.{Cost}
use Rattle.bus_terms.specs.FloodOfText.{ids}
use Rattle.bus_terms.specs.Flooding.{has}
use Rattle.bus_terms.specs.Packets.{put_by}
use Rattle.bus_terms.specs.declared.packets.PutLine.{PutLine}
use Rattle.plain_bus.specs.BusNodes.{BusNode, bus_node, IsEarlyState, MayDo}
use Rattle.plain_bus.specs.SlotCosts.{IsBelow}
use Rattle.plain_bus.proofs.SlotsMet.{ids_ascend, ids_each}
use Rattle.bus_model.specs.FrameNodes.{CountsLinesBefore, nodes_with, prior_ranks, puts_to, node_after_line, told_at}
use Rattle.bus_model.proofs.LinesTold.{none_told, all_told, node_told, power_told, put_more}
use Rattle.bus_model.proofs.LinesAllowed.{line_act, line_known, may_do, act_early, later_lines}
use Rattle.bus_model.proofs.script.tell_lines.Given.{Over}
use Rattle.bus_model.proofs.script.tell_lines.Goals as goal

pub loop-next-init : goal.loop-next-init
loop-next-init g c =
    let s = c.args.s.now in
    let f = c.args.frame in
    let n = c.args.from in
    record {
      within = omega arith;
      upto = c.requires.cut.within;
      now_told = λ i d low high. absurd (omega (arith, low, high));
      have = λ v. ap power (none_told s f n c.requires.cut v) ∙ c.requires.power v;
      nodes_are = c.requires.nodes ∙ ap (nodes_with s (prior_ranks s f)) (λ i v. sym (none_told s f n c.requires.cut v) i);
      put = c.requires.puts;
      ready = λ m is. is;
      costs_are = refl;
      delivered = refl;
      sent = refl;
    }

-- the lines from here on are those of later frames
module _ (g : Over) (c : goal.Then-line-frame g) where
  later : (i : ℕ) (d : ScriptLine) → c.loop-next.next ≤ i → i < length c.args.s.now.script → c.args.frame < (get_or c.args.s.now.script i d).frame
  later =
      let s = c.args.s.now in
      let n = c.loop-next.next in
      let l = c.index-script-next.result in
      let below : n < length s.script = omega (arith, c.loop-next-test.true, ap length c.script-script.ensures.value) in
      let at : l ≡ get_or s.script n l = c.index-script-next.is ∙ ap (λ (ls : List ScriptLine). get_or ls n l) c.script-script.ensures.value in
      let up = c.requires.cut.from n l c.loop-next.invariant.within below in
      later_lines s c.script-script.ensures.said n l below at c.args.frame (omega (arith, up, ap (λ (m : ScriptLine). m.frame) at))
      c.if-line-frame.true

pub returns-then-line-frame-clause-cut : goal.returns-then-line-frame-clause-cut
returns-then-line-frame-clause-cut g c = record {
  within = c.loop-next.invariant.upto;
  before = λ i d low. elim (cases_lt i c.args.from) [
    | inl early ↦ (let before = c.requires.cut.before i d early in omega (arith, before))
    | inr late ↦ (let now = c.loop-next.invariant.now_told i d late low in omega (arith, now))
  ];
  from = λ i d high near. (let after = later g c i d high near in omega (arith, after));
}

pub returns-then-line-frame-clause-power : goal.returns-then-line-frame-clause-power
returns-then-line-frame-clause-power g c v = ap power (sym (all_told c.args.s.now c.args.frame c.loop-next.next (later g c) v)) ∙ c.loop-next.invariant.have v

pub returns-then-line-frame-clause-nodes : goal.returns-then-line-frame-clause-nodes
returns-then-line-frame-clause-nodes g c =
    c.loop-next.invariant.nodes_are ∙ ap (nodes_with c.args.s.now (prior_ranks c.args.s.now c.args.frame))
    (λ i v. all_told c.args.s.now c.args.frame c.loop-next.next (later g c) v i)

-- a line that is given
pub tell_line-requires-clause-ascending : goal.tell_line-requires-clause-ascending
tell_line-requires-clause-ascending g c =
    ids_ascend c.args.s.now c.script-script.ensures.said c.loop-next.net.ids (c.loop-next.invariant.ready 1000000 c.requires.ready).ids_are

pub tell_line-requires-clause-each : goal.tell_line-requires-clause-each
tell_line-requires-clause-each g c =
    let ready = c.loop-next.invariant.ready 1000000 c.requires.ready in
    ready.nodes_each ∙ sym (ap length ready.ids_are ∙ ids_each c.args.s.now)

pub tell_line-requires-clause-known : goal.tell_line-requires-clause-known
tell_line-requires-clause-known g c =
    let s = c.args.s.now in
    let n = c.loop-next.next in
    let l = c.index-script-next.result in
    let below : n < length s.script = omega (arith, c.loop-next-test.true, ap length c.script-script.ensures.value) in
    let at : l ≡ get_or s.script n l = c.index-script-next.is ∙ ap (λ (ls : List ScriptLine). get_or ls n l) c.script-script.ensures.value in
    ap (λ (is : List ℕ). has is l.node) (c.loop-next.invariant.ready 1000000 c.requires.ready).ids_are
    ∙ line_known s c.script-script.ensures.said n l below at

pub tell_line-requires-clause-may : goal.tell_line-requires-clause-may
tell_line-requires-clause-may g c i d near here =
    let s = c.args.s.now in
    let f = c.args.frame in
    let n = c.loop-next.next in
    let l = c.index-script-next.result in
    let inv = c.loop-next.invariant in
    let ready = inv.ready 1000000 c.requires.ready in
    let below : n < length s.script = omega (arith, c.loop-next-test.true, ap length c.script-script.ensures.value) in
    let at : l ≡ get_or s.script n l = c.index-script-next.is ∙ ap (λ (ls : List ScriptLine). get_or ls n l) c.script-script.ensures.value in
    let own : get_or (ids s.nodes) i 0 ≡ l.node = ap (λ (is : List ℕ). get_or is i 0) (sym ready.ids_are) ∙ here in
    let g = bus_node s (prior_ranks s f) (told_at s f n) in
    let node : get_or c.loop-next.net.nodes i d ≡ g l.node =
    ap (λ (ns : List BusNode). get_or ns i d) inv.nodes_are ∙ get_or-map g (ids s.nodes) i 0 d (omega (arith, near, ready.nodes_each, ids_each s))
    ∙ ap g own in (
      subst (λ (x : BusNode). IsAct x.setup.profile l.act) (sym node) (line_act s c.script-script.ensures.said n l below at),
      subst (λ (x : BusNode). MayDo l.act x.state) (sym node)
          (may_do s c.script-script.ensures.said n l below at (told_at s f n l.node) (inv.have l.node)),
    )

pub loop-next-preserved : goal.loop-next-preserved
loop-next-preserved g c =
    let s = c.args.s.now in
    let f = c.args.frame in
    let n = c.loop-next.next in
    let l = c.index-script-next.result in
    let inv = c.loop-next.invariant in
    let ran = c.in_ok-tell_line.ensures in
    let ready = inv.ready 1000000 c.requires.ready in
    let below : n < length s.script = omega (arith, c.loop-next-test.true, ap length c.script-script.ensures.value) in
    let at : l ≡ get_or s.script n l = c.index-script-next.is ∙ ap (λ (ls : List ScriptLine). get_or ls n l) c.script-script.ensures.value in
    let is : l.frame ≡ f = c.if-line-frame.false in
    let i = ran.nodes.0 in
    let g = bus_node s (prior_ranks s f) (told_at s f n) in
    let own : get_or (ids s.nodes) i 0 ≡ l.node = ap (λ (is : List ℕ). get_or is i 0) (sym ready.ids_are) ∙ ran.nodes.2 in
    let near : i < length (ids s.nodes) = subst (λ (is : List ℕ). i < length is) ready.ids_are ran.nodes.1 in
    let d : BusNode = g l.node in
    let here = ran.nodes.3 d in
    let node : get_or c.loop-next.net.nodes i d ≡ g l.node = ap (λ (ns : List BusNode). get_or ns i d) inv.nodes_are ∙ get_or-map g (ids s.nodes) i 0 d near
    ∙ ap g own in
    record {
      within = (let low = inv.within in omega (arith, low));
      upto = omega (arith, below);
      now_told = λ k e low high. elim (cases_lt k n) [
        | inl before ↦ inv.now_told k e low before
        | inr last ↦ (let same : n ≡ k = omega (arith, high, last) in
            ap (λ (m : ScriptLine). m.frame) (ap (λ (j : ℕ). get_or s.script j e) (sym same) ∙ get_or_default s.script n e l below ∙ sym at) ∙ is)
      ];
      have = power_told s f n l below at is inv.have;
      nodes_are = here.0 ∙ ap (λ (ns : List BusNode). set ns i (node_after_line l (get_or ns i d))) inv.nodes_are
          ∙ node_told s f (prior_ranks s f) n l below at is (ids_ascend s c.script-script.ensures.said (ids s.nodes) refl) i near own d;
      put = here.1 ∙ ap (λ (ps : List PutLine). ps ++ option_to_list (put_by l l.act (get_or c.loop-next.net.nodes i d).state)) inv.put
          ∙ ap (λ (x : BusNode). puts_to s n ++ option_to_list (put_by l l.act x.state)) node
          ∙ sym (put_more s f n l below at is);
      ready = λ m first.
          (let old = inv.ready m first in
          record {
            ids_are = ran.rest.0 ∙ old.ids_are;
            nodes_each = ap length here.0 ∙ length-set c.loop-next.net.nodes i (node_after_line l (get_or c.loop-next.net.nodes i d)) ∙ old.nodes_each;
            costs_each = ap length ran.rest.1 ∙ old.costs_each;
            early = subst (λ (ns : List BusNode). All (λ (x : BusNode). IsEarlyState f x.state) ns) (sym here.0)
                (All-set (λ (x : BusNode). IsEarlyState f x.state) c.loop-next.net.nodes i (node_after_line l (get_or c.loop-next.net.nodes i d))
                (act_early f l.act (get_or c.loop-next.net.nodes i d).state (old.early i d (omega (arith, near, old.nodes_each, ids_each s)))) old.early);
            room = subst (λ (cs : List Cost). All (IsBelow m) cs) (sym ran.rest.1) old.room;
          });
      costs_are = ran.rest.1 ∙ inv.costs_are;
      delivered = ran.rest.2 ∙ inv.delivered;
      sent = ran.rest.3 ∙ inv.sent;
    }

-- the script is over
module _ (g : Over) (c : goal.After-loop-next g) where
  over : c.loop-next.next ≡ length c.args.s.now.script
  over = (let upto = c.loop-next.invariant.upto in omega (arith, c.loop-next-test.false, upto, ap length c.script-script.ensures.value))

  none_later : (i : ℕ) (d : ScriptLine) → c.loop-next.next ≤ i → i < length c.args.s.now.script → c.args.frame < (get_or c.args.s.now.script i d).frame
  none_later i d high near = absurd (omega (arith, high, near, over))

  counted : length c.script-script.result.now ≡ c.loop-next.next
  counted = ap length c.script-script.ensures.value ∙ sym over

pub returns-clause-cut : goal.returns-clause-cut
returns-clause-cut g c = subst (CountsLinesBefore c.args.s.now.script (c.args.frame + 1)) (sym (counted g c)) (record {
  within = c.loop-next.invariant.upto;
  before = λ i d low. elim (cases_lt i c.args.from) [
    | inl early ↦ (let before = c.requires.cut.before i d early in omega (arith, before))
    | inr late ↦ (let now = c.loop-next.invariant.now_told i d late low in omega (arith, now))
  ];
  from = λ i d high near. absurd (omega (arith, high, near, over g c));
})

pub returns-clause-power : goal.returns-clause-power
returns-clause-power g c v =
    ap power (sym (all_told c.args.s.now c.args.frame c.loop-next.next (none_later g c) v)) ∙ c.loop-next.invariant.have v
    ∙ ap (λ (n : ℕ). turned v (false, 0) (take n c.args.s.now.script)) (sym (counted g c))

pub returns-clause-nodes : goal.returns-clause-nodes
returns-clause-nodes g c =
    c.loop-next.invariant.nodes_are ∙ ap (nodes_with c.args.s.now (prior_ranks c.args.s.now c.args.frame))
    (λ i v. all_told c.args.s.now c.args.frame c.loop-next.next (none_later g c) v i)

pub returns-clause-puts : goal.returns-clause-puts
returns-clause-puts g c = c.loop-next.invariant.put ∙ ap (puts_to c.args.s.now) (sym (counted g c))
