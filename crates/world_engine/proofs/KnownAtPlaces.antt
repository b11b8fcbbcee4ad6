-- What a step asks of the devices at their places.
use Rattle.std.proofs.Common.{◌≡◌, ℕ, ◌<◌, List, [], ◌∷◌, ◌++◌, Bool, true, false, cond, length, find, Some, None, Option, option_map, option_to_list, Contains}
use Rattle.std.proofs.Common.{refl, sym, ◌∙◌, ap, subst}
use Rattle.std.specs.Prelude.{slice_get}
use Rattle.std.proofs.lemmas.List.Elements.{All-contains, Contains-append_right}
use Rattle.std.proofs.lemmas.Option.{same_Some}
use Rattle.event_calendar.specs.declared.class.Class.TheVariants.{SendingEnd}
use Rattle.event_calendar.specs.Orders.{Due, at}
use Rattle.radio_model.specs.declared.sending.Sending.{Sending}
use Rattle.radio_model.specs.Hearing.{Scene}
use Rattle.radio_model.specs.Holding.{Holds}
use Rattle.radio_model.specs.Stations.{Ends, is_station_of, station_of, sending_of_station}
use Rattle.scenario_text.specs.ScenarioParts.{ScenarioParts}
use Rattle.scenario_text.specs.ScenarioFacts.{IsSoundScenario, IsScriptLine, turned}
use Rattle.bus_rules.specs.States.{IsAct}
use Rattle.scenario_text.specs.declared.lines.NodeLine.{NodeLine}
use Rattle.bus_rules.specs.declared.act.Act.TheVariants.{On}
use Rattle.scenario_text.specs.declared.script.ScriptLine.{ScriptLine}
use Rattle.bus_rules.specs.Cores.{Setup}
use Rattle.air_log.specs.Devices.{Device, Power, PowerOff, PowerOn, seen_power}
use Rattle.scenario_text.specs.Setups.{setup_of}
use Rattle.lwb_base.proofs.Elements.{contains_head, contains_tail}
use Rattle.air_log.proofs.KeptPower.{few_before}
use Rattle.air_log.specs.DeviceStates.{CanBoot}
use Rattle.air_log.specs.DeviceStates.{sending_end}
use Rattle.world_engine.specs.Fields.{FieldState, FieldShows, FieldIsShown}
use Rattle.world_engine.specs.FieldSteps.{DeviceSends}
use Rattle.world_engine.specs.Moments.{TickMoment}
use Rattle.world_engine.specs.Running.{HasPlaces, HasTakenLines}
use Rattle.world_engine.proofs.ShownPlaces.{station_sends}
use Rattle.world_engine.proofs.ShownDevices.{node_there, same_sending, stands_at}
use Rattle.world_engine.proofs.TrailsGoOn.{OnTrails}
use Rattle.world_engine.proofs.HeardAtEnds.{node_within}

-- what a look-up finds is there
found : {X : Type 0} (p : X → Bool) (xs : List X) (x : X) → find p xs ≡ Some x → Contains xs x
found p [] x is = absurd (none_some is)
  where
    none_some : None ≡ Some x → ⊥
    none_some eq = cc
found {X} p (y ∷ ys) x is = by (p y) (found p ys x) is
  where
    by : (b : Bool) → (find p ys ≡ Some x → Contains ys x) → cond b (Some y) (find p ys) ≡ Some x → Contains (y ∷ ys) x
    by true rest at = subst (λ (z : X). Contains (y ∷ ys) z) (same_Some y x at) (contains_head y ys)
    by false rest at = contains_tail y ys x (rest at)

module _ (s : ScenarioParts) (clocks : ℕ → ℕ → ℕ) (t : ℕ) (m : TickMoment) (w : FieldState) (due : List Due) (places : HasPlaces s w due)
    (trails : OnTrails s clocks t m w due) where
  pub shown_within : (p : ℕ) → p < length w.devices → FieldIsShown t w due p
  shown_within p within =
      let n = node_within s w due places p within in
      let trail = trails p n.0 n.1 in
      record { setup = setup_of s n.0.node; device = trail.device; shows = trail.shows }

  module _ (p : ℕ) (n : NodeLine) (there : slice_get s.nodes p ≡ Some n) where
    pub setup_at : (q : Setup) (d : Device) → FieldShows q t w due p d → q ≡ setup_of s n.node
    setup_at q d shows =
        let k = node_there s q t w due p d places shows in
        k.2 ∙ ap (λ (x : NodeLine). setup_of s x.node) (same_Some k.0 n (sym k.1 ∙ there))

    -- an end that is is that of the transmission that runs
    pub sends_at : at due p SendingEnd ≡ Some t → (x : Sending) × (x.end ≡ t) × DeviceSends t w due p x
    sends_at stands =
        let trail = trails p n there in
        of trail.device.sending refl (sym (stands_at (setup_of s n.node) t w due p trail.device trail.shows SendingEnd) ∙ stands)
      where
        of : (o : Option Sending) → (trails p n there).device.sending ≡ o → option_map sending_end o ≡ Some t
            → (x : Sending) × (x.end ≡ t) × DeviceSends t w due p x
        of None is now = absurd (none_some now)
          where
            none_some : None ≡ Some t → ⊥
            none_some eq = cc
        of (Some x) is now =
            let trail = trails p n there in
            (x, same_Some x.end t now, λ q d shows. same_sending q (setup_of s n.node) t t w due p d trail.device shows trail.shows ∙ is)

    -- a line to the node of the place
    module _ (l : ScriptLine) (own : l.node ≡ n.node) where
      pub line_node : (q : Setup) (d : Device) → FieldShows q t w due p d → l.node ≡ q.id
      line_node q d shows = own ∙ ap (λ (x : Setup). x.id) (sym (setup_at q d shows))

      pub line_range : IsSoundScenario s → Contains s.script l → (q : Setup) (d : Device) → FieldShows q t w due p d → IsAct q.profile l.act
      line_range sound in_script q d shows =
          subst (λ (x : Setup). IsAct x.profile l.act) (sym (setup_at q d shows)) (All-contains (IsScriptLine s) s.script l sound.script in_script).act

-- the medium knows of the transmission that ends
pub ends_at_place : (t : ℕ) (w : FieldState) (due : List Due) (p : ℕ) (a : Scene) → Holds w.medium a → (x : Sending) → x.end ≡ t → DeviceSends t w due p x
    → (q : Setup) (d : Device) → FieldShows q t w due p d → Ends w.medium q.id t
ends_at_place t w due p a holds x now sends q d shows =
    let st = shows.station in
    let runs : st.sending ≡ Some x = station_sends q t w due p d shows ∙ sends q d shows in
    let station : station_of w.medium q.id ≡ Some st = ap (λ (y : Setup). station_of w.medium y.id) (sym shows.shows.setup) ∙ shows.known.there in
    let orderly = holds.orderly st (found (is_station_of q.id) w.medium.stations st station) in
    let last : Contains (option_to_list st.sending) x =
    subst (λ (o : Option Sending). Contains (option_to_list o) x) (sym runs) (contains_head x []) in
    let own = orderly.own x (Contains-append_right st.ended.items (option_to_list st.sending) x last) in
    record { sending = x; runs = ap sending_of_station station ∙ runs; until = now; lasts = sym now ∙ own.lasts }

-- a node that a line switches on can boot
pub can_boot : (s : ScenarioParts) (clocks : ℕ → ℕ → ℕ) (sound : IsSoundScenario s) (told rest : List ScriptLine) (l : ScriptLine)
    → s.script ≡ told ++ l ∷ rest → (t : ℕ) (w : FieldState) (due : List Due) → HasTakenLines s clocks told t w due
    → (p : ℕ) (q : Setup) (d : Device) → FieldShows q t w due p d → l.node ≡ q.id → l.act ≡ On → CanBoot d.power
can_boot s clocks sound told rest l is t w due told_so p q d shows own on = by d.power (told_so.power q p d shows)
  where
    by : (power : Power) → seen_power power ≡ turned q.id (false, 0) told → CanBoot power
    by (PowerOff boots) seen = few_before s sound told rest l is on boots (seen ∙ ap (λ (v : ℕ). turned v (false, 0) told) (sym own))
    by (PowerOn n) seen = tt
