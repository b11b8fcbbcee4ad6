-- The nodes of a world and the stations of its medium, and how long transmissions of a flood last.
use Rattle.std.proofs.Common.{◌≡◌, ℕ, ◌+◌, ◌*◌, List, Some, sym, ◌∙◌, ap, subst, arith, length}
use Rattle.std.specs.Prelude.{Contains}
use Rattle.std.proofs.lemmas.Option.{same_Some}
use Rattle.scenario_text.specs.FloodParts.{FloodParts}
use Rattle.bus_terms.specs.FloodOfText.{ids}
use Rattle.radio_model.specs.declared.sending.Sending.{Sending}
use Rattle.radio_model.specs.OnAir.{Hearing}
use Rattle.air_log.specs.Entries.{sendings_of}
use Rattle.air_log.specs.FloodLaw.{Lasts}
use Rattle.lwb_base.proofs.Elements.{map_contains, map_from, Distinct}
use Rattle.lwb_flood.specs.declared.member.Member.{Member}
use Rattle.lwb_flood.specs.FloodLog.{HasClocks}
use Rattle.lwb_flood.specs.FloodWorlds.{World, node_of_member}
use Rattle.radio_model.specs.declared.station.Station.{Station}
use Rattle.radio_model.specs.Stations.{IsMedium, nodes_of, station_of}
use Rattle.radio_model.specs.Stations as stations
use Rattle.radio_model.proofs.OneCall.{found_member}
use Rattle.lwb_flood.proofs.FloodSoFar.{sending_by, InStep, IsFloodSoFar}
use Rattle.lwb_flood.proofs.LogEntries.{ids_distinct}
use Rattle.lwb_flood.proofs.WorldLists.{one_of_mark}

-- packets of a flood have eight bytes
pub eight_in_step : (f : FloodParts) (t : ℕ) (packet : List ℕ) → InStep f t packet → length packet ≡ 8
eight_in_step f t packet step = ap (λ (p : List ℕ). length p) step.is

pub lasting_in_step : (f : FloodParts) (x : Sending) → Lasts x → InStep f x.start x.packet → x.end ≡ x.start + 32768
lasting_in_step f x lasts step =
    let end : x.end ≡ x.start + (length x.packet + 8) * 2048 = ap (λ (y : Sending). y.end) lasts in
    omega (arith, end, eight_in_step f x.start x.packet step)

-- what holds of the nodes and stations of a world
module _ (f : FloodParts) (clocks : ℕ → ℕ → ℕ) (has : HasClocks f clocks) (todo : List Hearing) (leaving : List ℕ) (w : World)
    (medium : IsMedium w.medium) (so : IsFloodSoFar f clocks todo leaving w) where
  pub one_member : (a b : Member) → Contains w.members a → Contains w.members b → a.node ≡ b.node → a ≡ b
  one_member = one_of_mark node_of_member w.members (subst Distinct (sym so.nodes) (ids_distinct f.nodes has.sound.ascending))

  pub known_member : (n : Member) → Contains w.members n → Contains (ids f.nodes) n.node
  known_member n there = subst (λ (l : List ℕ). Contains l n.node) so.nodes (map_contains node_of_member w.members n there)

  pub of_medium : (n : Member) → Contains w.members n → Contains (nodes_of w.medium) n.node
  of_medium n there = subst (λ (l : List ℕ). Contains l n.node) (sym so.stations) (known_member n there)

  -- the node's station is one of the medium
  pub station_there : (n : Member) → Contains w.members n → (st : Station) → station_of w.medium n.node ≡ Some st
      → Contains w.medium.stations st × (st.node ≡ n.node)
  station_there n there st is =
      let s = map_from stations.id_of_station w.medium.stations n.node (of_medium n there) in
      let same : s.0 ≡ st = same_Some s.0 st (sym (found_member w.medium.stations s.0 medium.nodes.ascending s.1) ∙ ap (station_of w.medium) s.2 ∙ is) in (
        subst (λ (x : Station). Contains w.medium.stations x) same s.1,
        ap stations.id_of_station (sym same) ∙ s.2,
      )

  -- each station is one of a node
  pub member_of : (st : Station) → Contains w.medium.stations st → (n : Member) × Contains w.members n × (n.node ≡ st.node) × (st.sending ≡ sending_by n.act)
  member_of st there =
      let n = map_from node_of_member w.members st.node
      (subst (λ (l : List ℕ). Contains l st.node) (so.stations ∙ sym so.nodes) (map_contains stations.id_of_station w.medium.stations st there)) in
      let is = so.each n.0 n.1 in
      let same : is.station ≡ st = same_Some is.station st
      (sym is.found ∙ ap (station_of w.medium) n.2 ∙ found_member w.medium.stations st medium.nodes.ascending there) in
      (n.0, n.1, n.2, ap (λ (s : Station). s.sending) (sym same) ∙ is.sends)

  pub old_lasts : (y : Sending) → Contains (sendings_of w.air) y → y.end ≡ y.start + 32768
  old_lasts y there = let s = so.sent y there in lasting_in_step f y s.lasts s.step
