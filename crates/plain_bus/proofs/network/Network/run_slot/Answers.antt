use Rattle.std.proofs.Common.{◌≡◌, ◌+◌, ◌++◌, ◌∷◌, [], ℕ, List, All, Option, rules, length, map, take, drop, filter_map, refl, subst, sym, ◌∙◌, ap}
use Rattle.std.proofs.Common.{arith, option_to_list}
use Rattle.std.proofs.lemmas.List.{length-map}
use Rattle.std.proofs.lemmas.Result.{on_ok_weaker}
use Rattle.lwb_base.specs.Messages.{Plan}
use Rattle.lwb_base.specs.Profile.{Numbers}
use Rattle.bus_rules.specs.declared.delivery.Delivery.{Delivery}
use Rattle.bus_rules.specs.declared.part.Part.{Part}
use Rattle.bus_rules.specs.Slots.{Opened, part_of}
use Rattle.bus_rules.specs.States.{State}
use Rattle.bus_terms.specs.Bus.{Cost}
use Rattle.bus_terms.specs.FloodOfText.{ids}
use Rattle.bus_terms.specs.Flooding.{STEPS, has, moment}
use Rattle.bus_terms.specs.Packets.{sent_by_owner, sent_in_slot}
use Rattle.bus_terms.specs.Rounds.{before_slot, opened_at, slot_at, slot_deliveries}
use Rattle.plain_bus.specs.BusNodes.{BusNode, IsEarlyState, HaveRoom, node_opened, nodes_before}
use Rattle.plain_bus.specs.Closings.{IsBehind, AllMay, closed_node, delivers_node}
use Rattle.plain_bus.specs.FloodMasks.{AreSendersOf, IsMaskedFlood, sends_in, station_at, traced}
use Rattle.plain_bus.specs.Networks.{Network}
use Rattle.plain_bus.specs.RunFloods.{AreRunFloods, slot_flood}
use Rattle.plain_bus.specs.SlotCosts.{IsBelow, slot_charged}
use Rattle.plain_bus.specs.SlotFloods.{Seen, seen_by, seen_window}
use Rattle.plain_bus.specs.declared.station.Flood.{Flood}
use Rattle.plain_bus.specs.declared.station.Station.{Station}
use Rattle.plain_bus.specs.declared.window.Window.{Window}
use Rattle.plain_bus.proofs.FloodsRun.{one_more_flood}
use Rattle.plain_bus.proofs.SlotsCharged.{slot_costs}
use Rattle.plain_bus.proofs.SoundOver.{sound_over}
use Rattle.plain_bus.proofs.SlotsMet.{put_back, ids_ascend, behind_slot}
use Rattle.plain_bus.proofs.SlotsRun.{behind, node_at, shut_outside, window_seen, seen_all, opened_all, all_may, nodes_closed, nodes_delivered}
use Rattle.plain_bus.proofs.network.Network.run_slot.Given.{Over}
use Rattle.plain_bus.proofs.network.Network.run_slot.Goals as goal

pub open_slot-requires-clause-few : goal.open_slot-requires-clause-few
open_slot-requires-clause-few g c =
    let scenario = sound_over c.args.s.now c.profile-profile.ensures.said in
    let few = scenario.few_nodes in
    omega (arith, few, c.requires.ready.nodes_each, ap (λ (n : Network). length n.nodes) c.self.view_is, ap length c.deref_mut.ensures.value)

pub flooded-end-requires-clause-few : goal.flooded-end-requires-clause-few
flooded-end-requires-clause-few g c =
    let few = (sound_over c.args.s.now c.profile-profile.ensures.said).few_nodes in
    omega (arith, few, ap length c.nodes.ensures)

pub charge_all-requires-clause-ascending : goal.charge_all-requires-clause-ascending
charge_all-requires-clause-ascending g c =
    ids_ascend c.args.s.now c.profile-profile.ensures.said c.deref.result.now
    (c.deref.ensures.value ∙ ap (λ (n : Network). n.ids) c.self.view_is ∙ c.requires.ready.ids_are)

pub add_sent-requires-clause-ascending : goal.add_sent-requires-clause-ascending
add_sent-requires-clause-ascending g c =
    ids_ascend c.args.s.now c.profile-profile.ensures.said c.deref-5.result.now
    (c.deref-5.ensures.value ∙ ap (λ (n : Network). n.ids) c.self.view_is ∙ c.requires.ready.ids_are)

pub close_all-requires-clause-ascending : goal.close_all-requires-clause-ascending
close_all-requires-clause-ascending g c =
    ids_ascend c.args.s.now c.profile-profile.ensures.said c.deref-7.result.now
    (c.deref-7.ensures.value ∙ ap (λ (n : Network). n.ids) c.self.view_is ∙ c.requires.ready.ids_are)

-- the nodes before the slot, where it opened, and after it
olds : (g : Over) (c : goal.After-self-3-1 g) → c.deref_mut.result.now ≡ c.args.self.now.nodes
olds g c = c.deref_mut.ensures.value ∙ ap (λ (n : Network). n.nodes) c.self.view_is

size : (g : Over) (c : goal.After-self-3-1 g) → length c.self.inside.nodes.items ≡ c.self.inside.nodes.len
size g c = ap length (sym c.deref_mut.ensures.value) ∙ c.deref_mut.ensures.len

opened_size : (g : Over) (c : goal.After-self-3-1 g) → length c.open_slot.new.nodes ≡ length c.self.inside.nodes.items
opened_size g c =
    ap length c.in_ok-flood.ensures.nodes ∙ length-map c.deref_mut.result.now (node_opened c.args.rank c.args.frame c.args.part.now)
    ∙ ap length c.deref_mut.ensures.value

stored : (g : Over) (c : goal.After-self-3-1 g) → c.deref_mut-3.result.now ≡ c.open_slot.new.nodes
stored g c = c.deref_mut-3.ensures.value ∙ put_back c.self.inside.nodes.len c.open_slot.new.nodes c.self.inside.nodes.items (size g c) (opened_size g c)

stored_first : (g : Over) (c : goal.After-self-3-1 g) → c.deref-2.result.now ≡ c.open_slot.new.nodes
stored_first g c = c.deref-2.ensures.value ∙ put_back c.self.inside.nodes.len c.open_slot.new.nodes c.self.inside.nodes.items (size g c) (opened_size g c)

ended : (g : Over) (c : goal.After-self-3-1 g) → (let n = c.self.inside.nodes.len in
    take n (c.close_all.new.nodes ++ drop (length c.close_all.new.nodes)
    (take n (c.open_slot.new.nodes ++ drop (length c.open_slot.new.nodes) c.self.inside.nodes.items)))) ≡ c.close_all.new.nodes
ended g c =
    let n = c.self.inside.nodes.len in
    ap (λ (l : List BusNode). take n (c.close_all.new.nodes ++ drop (length c.close_all.new.nodes) l))
    (put_back n c.open_slot.new.nodes c.self.inside.nodes.items (size g c) (opened_size g c))
    ∙ put_back n c.close_all.new.nodes c.open_slot.new.nodes (opened_size g c ∙ size g c) (omega (arith, c.close_all.auto.nodes, ap length (stored g c)))

-- and the costs
costs_size : (g : Over) (c : goal.After-self-3-1 g) → length c.self.inside.costs.items ≡ c.self.inside.costs.len
costs_size g c = ap length (sym c.deref_mut-2.ensures.value) ∙ c.deref_mut-2.ensures.len

charged : (g : Over) (c : goal.After-self-3-1 g) → take c.self.inside.costs.len (c.charge_all.new.costs ++ drop
    (length c.charge_all.new.costs) c.self.inside.costs.items)
    ≡ c.charge_all.new.costs
charged g c = put_back c.self.inside.costs.len c.charge_all.new.costs c.self.inside.costs.items (costs_size g c)
    (omega (arith, c.charge_all.auto.costs, ap length c.deref_mut-2.ensures.value))

old_costs : (g : Over) (c : goal.After-self-3-1 g) → c.deref_mut-2.result.now ≡ c.args.self.now.costs
old_costs g c = c.deref_mut-2.ensures.value ∙ ap (λ (n : Network). n.costs) c.self.view_is

ids_are : (g : Over) (c : goal.After-self-3-1 g) → c.deref-7.result.now ≡ ids c.args.s.now.nodes
ids_are g c = c.deref-7.ensures.value ∙ ap (λ (n : Network). n.ids) c.self.view_is ∙ c.requires.ready.ids_are

sent_ids_are : (g : Over) (c : goal.After-self-3-1 g) → c.deref-5.result.now ≡ ids c.args.s.now.nodes
sent_ids_are g c = c.deref-5.ensures.value ∙ ap (λ (n : Network). n.ids) c.self.view_is ∙ c.requires.ready.ids_are

first_ids_are : (g : Over) (c : goal.After-self-3-1 g) → c.deref.result.now ≡ ids c.args.s.now.nodes
first_ids_are g c = c.deref.ensures.value ∙ ap (λ (n : Network). n.ids) c.self.view_is ∙ c.requires.ready.ids_are

module _ (g : Over) (c : goal.After-self-3-1 g) (p : Plan) (start others : ℕ → State)
    (are : c.args.self.now.nodes ≡ nodes_before c.args.s.now c.args.rank c.args.frame p start others c.args.slot)
    (is : c.args.part.now ≡ part_of p c.args.slot) where
  before : c.deref_mut.result.now ≡ nodes_before c.args.s.now c.args.rank c.args.frame p start others c.args.slot
  before = olds g c ∙ are

  flood_is : IsMaskedFlood (slot_at c.args.s.now c.args.rank c.args.frame p start c.args.slot).flood (traced (g.M.Links.lines c.links.result.now)
      (g.M.Links.nodes c.links.result.now)) c.in_ok-flood.flood
  flood_is = c.in_ok-flood.ensures.flood c.args.s.now (traced (g.M.Links.lines c.links.result.now)
      (g.M.Links.nodes c.links.result.now)) p start others before is c.links.ensures.value c.links.ensures.sealed
      c.sends-limit.ensures

  windows_are : map seen_window c.open_slot.new.windows.items ≡ map (window_seen c.args.s.now c.args.rank c.args.frame p start others c.args.slot)
      (ids c.args.s.now.nodes)
  windows_are = c.in_ok-flood.ensures.windows ∙ seen_all c.args.s.now c.args.rank c.args.frame p start others c.args.slot c.deref_mut.result.now
      c.args.part.now before is

  opened : c.open_slot.new.nodes ≡ map (node_at c.args.s.now c.args.rank c.args.frame p start others c.args.slot) (ids c.args.s.now.nodes)
  opened = c.in_ok-flood.ensures.nodes ∙ opened_all c.args.s.now c.args.rank c.args.frame p start others c.args.slot c.deref_mut.result.now c.args.part.now
      before is

  stations_are : c.flooded-end.result.stations.each.items
      ≡ map (station_at (moment (slot_at c.args.s.now c.args.rank c.args.frame p start c.args.slot).flood STEPS)) (ids c.args.s.now.nodes)
  stations_are =
      c.flooded-end.ensures.each (slot_at c.args.s.now c.args.rank c.args.frame p start c.args.slot).flood flood_is
      ∙ ap (map (station_at (moment (slot_at c.args.s.now c.args.rank c.args.frame p start c.args.slot).flood STEPS))) c.links.ensures.sealed

  met : (ws : List Window) (xs : List Station) (is : List ℕ) → ws ≡ c.open_slot.new.windows.items → xs ≡ c.flooded-end.result.stations.each.items
      → is ≡ ids c.args.s.now.nodes
      → IsBehind (behind c.args.s.now c.args.rank c.args.frame p start others c.args.slot) is ws xs
  met ws xs is windows stations same =
      subst (λ (l : List ℕ). IsBehind (behind c.args.s.now c.args.rank c.args.frame p start others c.args.slot) l ws xs) (sym same)
      (behind_slot c.args.s.now c.args.rank c.args.frame p start others c.args.slot ws xs flood_is.inside (ap (map seen_window) windows ∙ windows_are)
      (stations ∙ stations_are))

  -- the closing, with the part and the ids as the round has them
  closes : c.close_all.new.nodes
      ≡ map (closed_node (behind c.args.s.now c.args.rank c.args.frame p start others c.args.slot) c.args.frame c.args.part.now
      (node_at c.args.s.now c.args.rank c.args.frame p start others c.args.slot)) c.deref-7.result.now
      → c.close_all.new.nodes ≡ nodes_before c.args.s.now c.args.rank c.args.frame p start others (c.args.slot + 1)
  closes made =
      let b = behind c.args.s.now c.args.rank c.args.frame p start others c.args.slot in
      let n = node_at c.args.s.now c.args.rank c.args.frame p start others c.args.slot in
      made ∙ ap (map (closed_node b c.args.frame c.args.part.now n)) (ids_are g c)
      ∙ ap (λ (q : Part). map (closed_node b c.args.frame q n) (ids c.args.s.now.nodes)) is
      ∙ nodes_closed c.args.s.now c.args.rank c.args.frame p start others c.args.slot

  delivers : c.close_all.new.log.items ≡ c.self.inside.deliveries.items ++ filter_map
      (delivers_node (behind c.args.s.now c.args.rank c.args.frame p start others c.args.slot) c.args.rank c.args.frame c.args.slot c.args.part.now
      (node_at c.args.s.now c.args.rank c.args.frame p start others c.args.slot)) c.deref-7.result.now
      → c.close_all.new.log.items ≡ c.args.self.now.deliveries ++ slot_deliveries c.args.s.now c.args.rank c.args.frame p start c.args.slot
  delivers made =
      let b = behind c.args.s.now c.args.rank c.args.frame p start others c.args.slot in
      let n = node_at c.args.s.now c.args.rank c.args.frame p start others c.args.slot in
      let said : Part → List ℕ → List Delivery = λ q l. filter_map (delivers_node b c.args.rank c.args.frame c.args.slot q n) l in
      made ∙ ap (λ (l : List ℕ). c.self.inside.deliveries.items ++ said c.args.part.now l) (ids_are g c)
      ∙ ap (λ (q : Part). c.self.inside.deliveries.items ++ said q (ids c.args.s.now.nodes)) is
      ∙ ap (λ (l : List Delivery). c.self.inside.deliveries.items ++ l) (nodes_delivered c.args.s.now c.args.rank c.args.frame p start others c.args.slot)
      ∙ ap (λ (m : Network). m.deliveries ++ slot_deliveries c.args.s.now c.args.rank c.args.frame p start c.args.slot) c.self.view_is

  nodes_now : c.deref_mut-3.result.now ≡ map (node_at c.args.s.now c.args.rank c.args.frame p start others c.args.slot) c.deref-7.result.now
  nodes_now = stored g c ∙ opened ∙ ap (map (node_at c.args.s.now c.args.rank c.args.frame p start others c.args.slot)) (sym (ids_are g c))

  none_refuses : HaveRoom c.args.s.now c.args.rank c.args.frame p start c.args.slot
      → AllMay c.args.frame (behind c.args.s.now c.args.rank c.args.frame p start others c.args.slot) c.deref-7.result.now
      (node_at c.args.s.now c.args.rank c.args.frame p start others c.args.slot)
  none_refuses room = subst (λ (l : List ℕ). AllMay c.args.frame (behind c.args.s.now c.args.rank c.args.frame p start others c.args.slot) l
      (node_at c.args.s.now c.args.rank c.args.frame p start others c.args.slot))
      (sym (ids_are g c)) (all_may c.args.s.now c.args.rank c.args.frame p start others c.args.slot room)

pub returns-clause-nodes : goal.returns-clause-nodes
returns-clause-nodes g c = on_ok_weaker c.close_all.result (λ made p start others are is room.
    ended g c ∙ closes g c p start others are is
    (made (behind c.args.s.now c.args.rank c.args.frame p start others c.args.slot) (node_at c.args.s.now c.args.rank c.args.frame p start others c.args.slot)
    (met g c p start others are is c.deref-6.result.now c.as_slice.result.now c.deref-7.result.now c.deref-6.ensures.value c.as_slice.ensures.value
    (ids_are g c))
    (nodes_now g c p start others are is) (none_refuses g c p start others are is room)))
    c.close_all.ensures.nodes

pub returns-clause-deliveries : goal.returns-clause-deliveries
returns-clause-deliveries g c = on_ok_weaker c.close_all.result (λ made p start others are is room.
    delivers g c p start others are is
    (made (behind c.args.s.now c.args.rank c.args.frame p start others c.args.slot) (node_at c.args.s.now c.args.rank c.args.frame p start others c.args.slot)
    (met g c p start others are is c.deref-6.result.now c.as_slice.result.now c.deref-7.result.now c.deref-6.ensures.value c.as_slice.ensures.value
    (ids_are g c))
    (nodes_now g c p start others are is) (none_refuses g c p start others are is room)))
    c.close_all.ensures.log

pub returns-clause-sent : goal.returns-clause-sent
returns-clause-sent g c = on_ok_weaker c.close_all.result (λ early p start others are is off.
    (let s = c.args.s.now in
    let rank = c.args.rank in
    let f = c.args.frame in
    let j = c.args.slot in
    let states : ℕ → State = before_slot s rank f p start j in
    let window : ℕ → Option Opened = λ v. opened_at s rank f (part_of p j) v (states v) in
    let seen : Part → List ℕ → List Seen = λ q l. map (λ (v : ℕ). seen_by rank q (states v) (window v)) l in
    c.in_ok-add_sent.ensures states window
    (ap (map seen_window) c.deref-4.ensures.value ∙ windows_are g c p start others are is ∙ ap (λ (q : Part). seen q (ids s.nodes)) (sym is)
    ∙ ap (seen c.args.part.now) (sym (sent_ids_are g c)))
    (λ v out. shut_outside s rank f p start others j off v (ap (λ (l : List ℕ). has l v) (sym (sent_ids_are g c)) ∙ out))
    ∙ ap (λ (q : Part). c.self.inside.sent.items ++ option_to_list (sent_by_owner rank f j q window)) is
    ∙ ap (λ (m : Network). m.sent ++ option_to_list (sent_in_slot s rank f p start j)) c.self.view_is))
    c.close_all.ensures.early

pub returns-clause-floods : goal.returns-clause-floods
returns-clause-floods g c = on_ok_weaker c.close_all.result (λ early p start others before are is ran.
    (let t = traced c.args.s.now.trace (ids c.args.s.now.nodes) in
    let y = slot_flood c.args.s.now c.args.rank c.args.frame p start c.args.slot in
    let x = c.in_ok-flood.flood in
    let pushed : c.push.new.self.items ≡ c.self.inside.floods.items ++ x ∷ [] = search rules in
    subst (λ (l : List Flood). AreRunFloods t c.args.frame (before ++ y ∷ []) l)
    (sym (pushed ∙ ap (λ (m : Network). m.floods ++ x ∷ []) c.self.view_is))
    (one_more_flood t c.args.frame before c.args.self.now.floods y x ran (record {
      frame = c.in_ok-flood.ensures.place.0;
      slot = c.in_ok-flood.ensures.place.1;
      masked = c.in_ok-flood.ensures.flood c.args.s.now t p start others (olds g c ∙ are) is refl refl c.sends-limit.ensures;
    }))))
    c.close_all.ensures.early

pub returns-clause-costs : goal.returns-clause-costs
returns-clause-costs g c = on_ok_weaker c.close_all.result (λ early p start others cost are is room costs.
    (let s = c.args.s.now in
    let rank = c.args.rank in
    let f = c.args.frame in
    let j = c.args.slot in
    let flood = (slot_at s rank f p start j).flood in
    let b = behind s rank f p start others j in
    let n = node_at s rank f p start others j in
    let some = (sound_over s c.profile-profile.ensures.said).some_sends in
    let sending : AreSendersOf (sends_in flood) c.deref.result.now c.flooded-end.result.senders.items =
    subst (λ (l : List ℕ). AreSendersOf (sends_in flood) l c.flooded-end.result.senders.items) (c.links.ensures.sealed ∙ sym (first_ids_are g c))
    (c.flooded-end.ensures.senders flood (flood_is g c p start others are is)) in
    let of_list : List ℕ → List Cost = λ l. map (slot_charged s.profile rank s.sends b (sends_in flood) n cost) l in
    charged g c
    ∙ c.charge_all.ensures.costs b n cost (sends_in flood)
    (met g c p start others are is c.deref-3.result.now c.flooded-end.result.stations.each.items c.deref.result.now c.deref-3.ensures.value refl
    (first_ids_are g c))
    sending
    (stored_first g c ∙ opened g c p start others are is ∙ ap (map n) (sym (first_ids_are g c)))
    (old_costs g c ∙ costs ∙ ap (map cost) (sym (first_ids_are g c)))
    (omega (arith, some, c.sends-limit.ensures))
    ∙ ap (λ (m : ℕ). map (slot_charged c.profile-profile.result rank m b (sends_in flood) n cost) c.deref.result.now) c.sends-limit.ensures
    ∙ ap (λ (q : Numbers). map (slot_charged q rank s.sends b (sends_in flood) n cost) c.deref.result.now) c.profile-profile.ensures.value
    ∙ ap of_list (first_ids_are g c) ∙ slot_costs s rank f p start others j cost))
    c.close_all.ensures.early

pub returns-clause-ready : goal.returns-clause-ready
returns-clause-ready g c = on_ok_weaker c.close_all.result (λ early m ready.
    record {
      ids_are = ap (λ (n : Network). n.ids) c.self.view_is ∙ c.requires.ready.ids_are;
      nodes_each = ap length (ended g c)
          ∙ omega (
            arith,
            c.close_all.auto.nodes,
            ap length (stored g c),
            opened_size g c,
            ap (λ (n : Network). length n.nodes) c.self.view_is,
            c.requires.ready.nodes_each,
          );
      costs_each = ap length (charged g c) ∙ omega (arith, c.charge_all.auto.costs, ap length (old_costs g c), c.requires.ready.costs_each);
      early = subst (λ (l : List BusNode). All (λ (x : BusNode). IsEarlyState c.args.frame x.state) l) (sym (ended g c)) early;
      room = subst (λ (l : List Cost). All (IsBelow (m + 1)) l) (sym (charged g c))
          (c.charge_all.ensures.room m (subst (λ (l : List Cost). All (IsBelow m) l) (sym (old_costs g c)) ready.room));
    })
    c.close_all.ensures.early
