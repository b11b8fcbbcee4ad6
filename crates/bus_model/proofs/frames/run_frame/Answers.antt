use Rattle.std.proofs.Common.{◌≡◌, ◌+◌, ◌*◌, ◌++◌, [], ℕ, List, map, subst, sym, ◌∙◌, ap, arith}
use Rattle.bus_rules.specs.declared.delivery.Delivery.{Delivery}
use Rattle.bus_rules.specs.States.{State}
use Rattle.bus_terms.specs.Bus.{state_at}
use Rattle.bus_terms.specs.FloodOfText.{ids}
use Rattle.bus_terms.specs.declared.packets.SentPacket.{SentPacket}
use Rattle.plain_bus.specs.BusNodes.{ranks_in}
use Rattle.plain_bus.specs.RunFloods.{HasRun, SlotFlood}
use Rattle.plain_bus.specs.declared.station.Flood.{Flood}
use Rattle.plain_bus.proofs.SoundOver.{sound_over}
use Rattle.bus_model.specs.FrameFloods.{frame_floods}
use Rattle.bus_model.specs.FrameNodes.{with_round_rank, ended_at, frame_deliveries, frame_sent, nodes_with, prior_ranks}
use Rattle.bus_model.specs.RoundCosts.{cost_after, with_scan}
use Rattle.bus_model.proofs.FramesInTurn.{nodes_begun, nodes_ended, costs_more, delivered_more, sent_more, power_next, all_few, ready_begun, ready_ended}
use Rattle.bus_terms.proofs.KeptRanks.{hosted}
use Rattle.bus_model.proofs.OffOutside.{all_off_outside}
use Rattle.bus_model.proofs.RoomInRounds.{rooms_in}
use Rattle.bus_model.proofs.SlotsInTurn.{ready_more}
use Rattle.bus_model.proofs.frames.run_frame.Goals as goal

pub tell_lines-requires-clause-ready : goal.tell_lines-requires-clause-ready
tell_lines-requires-clause-ready g c =
    let few = c.requires.few in
    ready_more c.args.s.now c.args.frame (c.args.frame * 184) 1000000 c.args.net.now (omega (arith, few, c.requires.frame)) c.requires.at.ready

pub begin_rounds-requires-clause-each : goal.begin_rounds-requires-clause-each
begin_rounds-requires-clause-each g c =
    (let ready = c.in_ok-next.ensures.ready (c.args.frame * 184) c.requires.at.ready in ready.nodes_each ∙ sym ready.costs_each)

pub begin_rounds-requires-clause-few : goal.begin_rounds-requires-clause-few
begin_rounds-requires-clause-few g c i d below =
    let few = all_few c.args.s.now c.args.frame c.tell_lines.new.net.costs (c.in_ok-next.ensures.rest.0 ∙ c.requires.at.costs_are) i d below in
    omega (arith, few, c.requires.few, c.requires.frame)

pub run_rounds-requires-clause-ready : goal.run_rounds-requires-clause-ready
run_rounds-requires-clause-ready g c =
    let s = c.args.s.now in
    let f = c.args.frame in
    let told = c.in_ok-next.ensures in
    let first : c.tell_lines.new.net.costs ≡ map (cost_after s f) (ids s.nodes) = told.rest.0 ∙ c.requires.at.costs_are in
    let few = c.requires.few in
    ready_more s f (f * 184) 1000000 c.begin_rounds.new.net (omega (arith, few, c.requires.frame))
    (ready_begun s f (f * 184) c.tell_lines.new.net c.begin_rounds.new.net (state_at s f) (cost_after s f) c.begin_rounds.ensures.rest.0
    c.begin_rounds.ensures.nodes c.begin_rounds.ensures.same
    first (c.begin_rounds.ensures.costs s (prior_ranks s f) (state_at s f) (cost_after s f) told.nodes first) (told.ready (f * 184) c.requires.at.ready))

pub returns-clause-power : goal.returns-clause-power
returns-clause-power g c = power_next c.args.s.now c.args.frame c.in_ok-next.next c.in_ok-next.ensures.power

pub returns-clause-floods : goal.returns-clause-floods
returns-clause-floods g c =
    let s = c.args.s.now in
    let f = c.args.frame in
    let st : ℕ → State = state_at s f in
    let told = c.in_ok-next.ensures in
    let begins = c.begin_rounds.ensures in
    let none : List SlotFlood = [] in
    let begun_nodes : c.begin_rounds.new.net.nodes ≡ nodes_with s (ranks_in st) st = begins.nodes ∙ ap (map with_round_rank) told.nodes
    ∙ nodes_begun s f (prior_ranks s f) st in
    subst (λ (xs : List Flood). HasRun s f (frame_floods s f st) xs) (sym c.end_frame.ensures.rest.3)
    (c.in_ok-run_rounds.ensures.floods st none (hosted s (sound_over s told.said).some_hosts f) begun_nodes (rooms_in s f)
    (subst (λ (xs : List Flood). HasRun s f none xs) (sym begins.floods) tt))

pub returns-clause-at : goal.returns-clause-at
returns-clause-at g c =
    let s = c.args.s.now in
    let f = c.args.frame in
    let st : ℕ → State = state_at s f in
    let told = c.in_ok-next.ensures in
    let begins = c.begin_rounds.ensures in
    let ran = c.in_ok-run_rounds.ensures in
    let ends = c.end_frame.ensures in
    let in_rank = hosted s (sound_over s told.said).some_hosts f in
    let rooms = rooms_in s f in
    let first : c.tell_lines.new.net.costs ≡ map (cost_after s f) (ids s.nodes) = told.rest.0 ∙ c.requires.at.costs_are in
    let begun_nodes : c.begin_rounds.new.net.nodes ≡ nodes_with s (ranks_in st) st = begins.nodes ∙ ap (map with_round_rank) told.nodes
    ∙ nodes_begun s f (prior_ranks s f) st in
    let scanned : c.begin_rounds.new.net.costs ≡ map (λ (v : ℕ). with_scan (st v) (cost_after s f v)) (ids s.nodes) =
    begins.costs s (prior_ranks s f) st (cost_after s f) told.nodes first in
    let begun_ready = ready_begun s f (f * 184) c.tell_lines.new.net c.begin_rounds.new.net st (cost_after s f) begins.rest.0 begins.nodes begins.same first
    scanned (told.ready (f * 184) c.requires.at.ready) in
    record {
      nodes_are = ends.nodes ∙ ap (map (ended_at f)) (ran.nodes st in_rank begun_nodes rooms) ∙ nodes_ended s f;
      costs_are = ends.rest.1 ∙ ran.costs st (λ (v : ℕ). with_scan (st v) (cost_after s f v)) in_rank begun_nodes rooms scanned ∙ costs_more s f;
      delivered = ends.rest.2 ∙ ran.deliveries st in_rank begun_nodes rooms
          ∙ ap (λ (l : List Delivery). l ++ frame_deliveries s f st) (begins.rest.1 ∙ told.rest.1 ∙ c.requires.at.delivered) ∙ delivered_more s f;
      sent = ends.rest.4 ∙ ran.sent st in_rank begun_nodes rooms (all_off_outside s told.said f)
          ∙ ap (λ (l : List SentPacket). l ++ frame_sent s f st) (begins.rest.2 ∙ told.rest.2 ∙ c.requires.at.sent) ∙ sent_more s f;
      ready = ready_more s (f + 1) (f * 184 + 184) ((f + 1) * 184) c.end_frame.new.net (omega arith)
          (ready_ended s f (f * 184 + 184) c.run_rounds.new.net c.end_frame.new.net ends.rest.0 ends.nodes ends.rest.1 (ran.ready (f * 184) begun_ready));
    }
