use Rattle.std.proofs.Common.{◌≡◌, ◌+◌, ◌*◌, ◌++◌, ◌==◌, ℕ, List, if◌then◌else◌, length, map, flat_map, subst, sym, ◌∙◌, ap, arith, append_assoc}
use Rattle.std.proofs.Common.{append-nil}
use Rattle.std.specs.List.{range_with_len}
use Rattle.bus_rules.specs.declared.delivery.Delivery.{Delivery}
use Rattle.bus_rules.specs.States.{State}
use Rattle.bus_terms.specs.FloodOfText.{ids}
use Rattle.bus_terms.specs.Packets.{round_sent}
use Rattle.bus_terms.specs.declared.packets.SentPacket.{SentPacket}
use Rattle.bus_terms.specs.Rounds.{round_of_rank, round_deliveries}
use Rattle.plain_bus.specs.BusNodes.{nodes_in, ranks_in, HaveRoomInRound}
use Rattle.plain_bus.specs.RunFloods.{HasRun, SlotFlood}
use Rattle.bus_model.specs.FrameFloods.{round_floods}
use Rattle.bus_model.specs.FrameNodes.{nodes_with, run_below}
use Rattle.bus_model.specs.RoundCosts.{cost_below, with_round}
use Rattle.bus_model.proofs.RanksInTurn.{enters, leaves, costs_left, none_run, none_charged, all_run, all_charged}
use Rattle.bus_model.proofs.SlotsInTurn.{ready_more, flat_more}
use Rattle.bus_model.proofs.rounds.run_rounds.Goals as goal

pub run_round-requires-clause-ready : goal.run_round-requires-clause-ready
run_round-requires-clause-ready g c =
    let few = c.hosts_of-ranks.ensures.few in
    ready_more c.args.s.now c.args.frame (1000000 + c.loop-rank.rank * 46) 1040000 c.loop-rank.net (omega (arith, few, c.loop-rank-test.true))
    (c.loop-rank.invariant.ready 1000000 c.requires.ready)

pub loop-rank-init : goal.loop-rank-init
loop-rank-init g c = record {
  ready = λ m is. ready_more c.args.s.now c.args.frame m (m + 0 * 46) c.args.net.now (omega arith) is;
  nodes_are = λ start olds rooms. olds ∙ none_run c.args.s.now c.args.frame start;
  delivered = λ start olds rooms. sym (append-nil c.args.net.now.deliveries);
  sent = λ start olds rooms off. sym (append-nil c.args.net.now.sent);
  ran = λ start before olds rooms had.
      subst (λ (ys : List SlotFlood). HasRun c.args.s.now c.args.frame ys c.args.net.now.floods) (sym (append-nil before)) had;
  costs_are = λ start cost olds rooms costs. costs ∙ none_charged c.args.s.now c.args.frame start cost;
}

pub loop-rank-preserved : goal.loop-rank-preserved
loop-rank-preserved g c =
    let s = c.args.s.now in
    let f = c.args.frame in
    let r = c.loop-rank.rank in
    let own = c.rank_at.ensures in
    let inv = c.loop-rank.invariant in
    let ran = c.in_ok-run_round.ensures in
    let enter = λ (start : ℕ → State) (olds : c.args.net.now.nodes ≡ nodes_with s (ranks_in start) start)
    (rooms : (rank : ℕ) → HaveRoomInRound s rank f start).
    inv.nodes_are start olds rooms ∙ enters s f start r ∙ ap (λ (k : ℕ). nodes_in s k start start (run_below s f start r)) (sym own) in
    record {
      ready = λ m is. ready_more s f (m + r * 46 + 46) (m + (r + 1) * 46) c.run_round.new.net (omega arith) (ran.ready (m + r * 46) (inv.ready m is));
      nodes_are = λ start olds rooms.
          ran.nodes start (run_below s f start r) (enter start olds rooms) (rooms c.rank_at.result)
          ∙ ap (λ (k : ℕ). nodes_in s k start (round_of_rank s k f start) (run_below s f start r)) own ∙ leaves s f start r;
      delivered = λ start olds rooms.
          (let first = c.args.net.now.deliveries in
          let said : ℕ → List Delivery = λ rank. round_deliveries s rank f start in
          ran.deliveries start (run_below s f start r) (enter start olds rooms) (rooms c.rank_at.result)
          ∙ ap (λ (k : ℕ). c.loop-rank.net.deliveries ++ said k) own
          ∙ ap (λ (l : List Delivery). l ++ said r) (inv.delivered start olds rooms)
          ∙ append_assoc first (flat_map said (range_with_len 0 r)) (said r)
          ∙ ap (λ (l : List Delivery). first ++ l) (sym (flat_more said r)));
      sent = λ start olds rooms off.
          (let first = c.args.net.now.sent in
          let said : ℕ → List SentPacket = λ rank. round_sent s rank f start in
          ran.sent start (run_below s f start r) (enter start olds rooms) (rooms c.rank_at.result) off
          ∙ ap (λ (k : ℕ). c.loop-rank.net.sent ++ said k) own
          ∙ ap (λ (l : List SentPacket). l ++ said r) (inv.sent start olds rooms off)
          ∙ append_assoc first (flat_map said (range_with_len 0 r)) (said r)
          ∙ ap (λ (l : List SentPacket). first ++ l) (sym (flat_more said r)));
      ran = λ start before olds rooms had.
          (let said : ℕ → List SlotFlood = λ rank. round_floods s rank f start in
          let prior = before ++ flat_map said (range_with_len 0 r) in
          subst (λ (ys : List SlotFlood). HasRun s f ys c.run_round.new.net.floods)
          (ap (λ (k : ℕ). prior ++ said k) own ∙ append_assoc before (flat_map said (range_with_len 0 r)) (said r)
          ∙ ap (λ (l : List SlotFlood). before ++ l) (sym (flat_more said r)))
          (ran.floods start (run_below s f start r) prior (enter start olds rooms) (rooms c.rank_at.result) (inv.ran start before olds rooms had)));
      costs_are = λ start cost olds rooms costs.
          ran.costs start (run_below s f start r) (cost_below s f start r cost) (enter start olds rooms) (rooms c.rank_at.result)
          (inv.costs_are start cost olds rooms costs)
          ∙ ap (λ (k : ℕ). map (λ (v : ℕ). if ranks_in start v == k then with_round s k f start v (cost_below s f start r cost v) else cost_below s f start r
          cost v) (ids s.nodes)) own
          ∙ costs_left s f start r cost;
    }

pub returns-clause-ready : goal.returns-clause-ready
returns-clause-ready g c m is =
    let few = c.hosts_of-ranks.ensures.few in
    let all : c.loop-rank.rank ≡ c.hosts_of-ranks.result = omega (arith, c.loop-rank-test.false, c.loop-rank.auto.rank-end) in
    ready_more c.args.s.now c.args.frame (m + c.loop-rank.rank * 46) (m + 184) c.loop-rank.net (omega (arith, few, all)) (c.loop-rank.invariant.ready m is)

pub returns-clause-nodes : goal.returns-clause-nodes
returns-clause-nodes g c start ranked olds rooms =
    let all : c.loop-rank.rank ≡ length c.args.s.now.hosts = omega (arith, c.loop-rank-test.false, c.loop-rank.auto.rank-end, c.hosts_of-ranks.ensures.value) in
    c.loop-rank.invariant.nodes_are start olds rooms
    ∙ ap (λ (n : ℕ). nodes_with c.args.s.now (ranks_in start) (run_below c.args.s.now c.args.frame start n)) all
    ∙ all_run c.args.s.now c.args.frame start (length c.args.s.now.hosts) ranked

pub returns-clause-deliveries : goal.returns-clause-deliveries
returns-clause-deliveries g c start ranked olds rooms =
    let all : c.loop-rank.rank ≡ length c.args.s.now.hosts = omega (arith, c.loop-rank-test.false, c.loop-rank.auto.rank-end, c.hosts_of-ranks.ensures.value) in
    c.loop-rank.invariant.delivered start olds rooms
    ∙ ap (λ (n : ℕ). c.args.net.now.deliveries ++ flat_map (λ (rank : ℕ). round_deliveries c.args.s.now rank c.args.frame start) (range_with_len 0 n)) all

pub returns-clause-sent : goal.returns-clause-sent
returns-clause-sent g c start ranked olds rooms off =
    let all : c.loop-rank.rank ≡ length c.args.s.now.hosts = omega (arith, c.loop-rank-test.false, c.loop-rank.auto.rank-end, c.hosts_of-ranks.ensures.value) in
    c.loop-rank.invariant.sent start olds rooms off
    ∙ ap (λ (n : ℕ). c.args.net.now.sent ++ flat_map (λ (rank : ℕ). round_sent c.args.s.now rank c.args.frame start) (range_with_len 0 n)) all

pub returns-clause-floods : goal.returns-clause-floods
returns-clause-floods g c start before ranked olds rooms had =
    let all : c.loop-rank.rank ≡ length c.args.s.now.hosts = omega (arith, c.loop-rank-test.false, c.loop-rank.auto.rank-end, c.hosts_of-ranks.ensures.value) in
    subst (λ (n : ℕ). HasRun c.args.s.now c.args.frame (before ++ flat_map (λ (rank : ℕ). round_floods c.args.s.now rank c.args.frame start)
    (range_with_len 0 n)) c.loop-rank.net.floods) all (c.loop-rank.invariant.ran start before olds rooms had)

pub returns-clause-costs : goal.returns-clause-costs
returns-clause-costs g c start cost ranked olds rooms costs =
    let all : c.loop-rank.rank ≡ length c.args.s.now.hosts = omega (arith, c.loop-rank-test.false, c.loop-rank.auto.rank-end, c.hosts_of-ranks.ensures.value) in
    c.loop-rank.invariant.costs_are start cost olds rooms costs
    ∙ ap (λ (n : ℕ). map (cost_below c.args.s.now c.args.frame start n cost) (ids c.args.s.now.nodes)) all
    ∙ all_charged c.args.s.now c.args.frame start (length c.args.s.now.hosts) ranked cost
