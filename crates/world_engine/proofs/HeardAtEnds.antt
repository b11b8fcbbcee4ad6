-- Who has received what, when a transmission ends: each hearer this transmission, after all that it received, and no other node.
use Rattle.std.proofs.Common.{◌≡◌, ◌≢◌, ℕ, ◌<◌, ◌≤◌, List, [], ◌∷◌, ◌++◌, map, filter, length, get_or, Bool, false, ◌==◌, Some, None, Option}
use Rattle.std.proofs.Common.{option_map, Contains, ◌⊎◌, inl, inr, refl, sym, ◌∙◌, ap, subst, arith, eqb-true, append-nil}
use Rattle.std.specs.Prelude.{slice_get, slice_index_or}
use Rattle.std.proofs.lemmas.Bool.{cases_eq}
use Rattle.std.proofs.lemmas.List.{length-map, map-append}
use Rattle.std.proofs.lemmas.List.Elements.{filter-append, All-contains}
use Rattle.std.proofs.lemmas.List.Kept.{AllPairs-filter}
use Rattle.std.proofs.lemmas.Option.{slice_get-map, slice_get_cases, get_or_from_slice_get, same_Some}
use Rattle.link_trace.specs.Passes.{Lines}
use Rattle.event_calendar.specs.declared.class.Class.TheVariants.{SendingEnd}
use Rattle.event_calendar.specs.Orders.{Due}
use Rattle.radio_model.specs.declared.sending.Sending.{Sending}
use Rattle.radio_model.specs.OnAir.{Hearing}
use Rattle.radio_model.specs.Hearing.{Scene, HearsInScene}
use Rattle.radio_model.specs.Holding.{as_it_stands}
use Rattle.scenario_text.specs.ScenarioParts.{ScenarioParts}
use Rattle.scenario_text.specs.ScenarioFacts.{IsSoundScenario}
use Rattle.scenario_text.specs.declared.lines.NodeLine.{NodeLine}
use Rattle.bus_rules.specs.Cores.{Setup}
use Rattle.air_log.specs.Entries.{hearings_of, sendings_of}
use Rattle.air_log.specs.Devices.{Device}
use Rattle.scenario_text.specs.Setups.{setup_of}
use Rattle.air_log.specs.Trails.{Reception, device_after_script, device_after_receptions, before_tick}
use Rattle.air_log.specs.Lawful.{reception_comes_before, AreInTurn, reception_of, hearings_by, heard_by, sent_by}
use Rattle.lwb_base.proofs.Elements.{filtered}
use Rattle.air_log.proofs.InTurn.{heard_in_turn}
use Rattle.air_log.proofs.KeptByEvents.{in_end}
use Rattle.air_log.specs.DeviceStates.{DeviceState}
use Rattle.world_engine.specs.Fields.{FieldState, ids_of, id_of, setup_of_device}
use Rattle.world_engine.specs.FieldSteps.{EndsSending, DeviceSends, hearing_at}
use Rattle.world_engine.specs.Moments.{At, IsAtMoment}
use Rattle.world_engine.specs.Running.{HasPlaces, setup_by, HoldsScene}
use Rattle.air_log.proofs.OwnSendings.{IsOwn, SendsOwn, own_heard, kept_own}
use Rattle.world_engine.proofs.KeptDrops.{HeardOn}
use Rattle.world_engine.proofs.TrailsGoOn.{OnTrails, ids_apart}
use Rattle.world_engine.proofs.TrailsAtEnds.{IsHeardAt, reception}
use Rattle.world_engine.proofs.OneHearing.{hearing, of, none_of, one_of, search_id}

-- the ids of a field are those of the nodes at their places
pub id_at : (s : ScenarioParts) (w : FieldState) (due : List Due) → HasPlaces s w due → (q : ℕ) (n : NodeLine) → slice_get s.nodes q ≡ Some n
    → slice_index_or (ids_of w) q 0 ≡ n.node
id_at s w due places q n there =
    get_or_from_slice_get (ids_of w) q n.node 0
    (slice_get-map id_of w.devices q
    ∙ by_setup (slice_get w.devices q)
    ∙ ap (option_map (λ (x : Setup). x.id))
    (sym (slice_get-map setup_of_device w.devices q) ∙ ap (λ (xs : List Setup). slice_get xs q) places.setups ∙ slice_get-map (setup_by s) s.nodes q
    ∙ ap (option_map (setup_by s)) there))
  where
    by_setup : (o : Option DeviceState) → option_map id_of o ≡ option_map (λ (x : Setup). x.id) (option_map setup_of_device o)
    by_setup None = refl
    by_setup (Some d) = refl

pub node_within : (s : ScenarioParts) (w : FieldState) (due : List Due) → HasPlaces s w due → (q : ℕ) → q < length w.devices
    → (n : NodeLine) × (slice_get s.nodes q ≡ Some n)
node_within s w due places q within = by ((slice_get_cases s.nodes q).1)
  where
    long : length w.devices ≡ length s.nodes
    long = sym (length-map w.devices setup_of_device) ∙ ap length places.setups ∙ length-map s.nodes (setup_by s)

    by : ((n : NodeLine) × (q < length s.nodes) × (slice_get s.nodes q ≡ Some n) × (get_or s.nodes q n ≡ n))
        ⊎ ((length s.nodes ≤ q) × (slice_get s.nodes q ≡ None)) → (n : NodeLine) × (slice_get s.nodes q ≡ Some n)
    by (inl is) = (is.0, is.2)
    by (inr past) = absurd (omega (arith, past.0, within, long))

-- the transmission that runs at a device is in the log
own_sent : (s : ScenarioParts) (v : ℕ) (clock : ℕ → ℕ) (hs : List Reception) (t : ℕ) (d : Device) → IsAtMoment s clock hs v t (At SendingEnd) d → SendsOwn d
own_sent s v clock hs t d (inl at) = subst SendsOwn (sym at) (own_heard s v clock hs t)
own_sent s v clock hs t d (inr at) =
    let e = device_after_receptions clock (setup_of s v) t hs (device_after_script s v clock t (before_tick s v clock hs t)) in
    subst SendsOwn (sym at) (in_end SendsOwn clock (setup_of s v) t e (kept_own clock (setup_of s v) t) (own_heard s v clock hs t))

own_here : (o : Option Sending) (xs : List Sending) (x : Sending) → o ≡ Some x → IsOwn o xs → Contains xs x
own_here None xs x is own = absurd (none_some is)
  where
    none_some : None ≡ Some x → ⊥
    none_some eq = cc
own_here (Some y) xs x is own = subst (Contains xs) (same_Some y x is) own

module _ (s : ScenarioParts) (clocks : ℕ → ℕ → ℕ) (sound : IsSoundScenario s) (lines : Lines) (by_trace : lines ≡ s.trace) (at_places : ℕ → ℕ → ℕ)
    (t p : ℕ) (x : Sending) (now : x.end ≡ t) (hearers : List ℕ)
    (old : FieldState) (old_due : List Due) (new : FieldState) (new_due : List Due) (ends : EndsSending lines at_places t p x hearers old old_due new new_due)
    (places : HasPlaces s old old_due) (trails : OnTrails s clocks t (At SendingEnd) old old_due) (sends : DeviceSends t old old_due p x) (sender : NodeLine)
    (here : slice_get s.nodes p ≡ Some sender)
    (a : Scene) (holds : HoldsScene s t old old_due a) (in_turn_before : AreInTurn (hearings_of old.air))
    (in_turn_after : AreInTurn (hearings_of new.air)) where
  -- the sender
  abbrev own : Device
  own = (trails p sender here).device

  sent_own : Contains (sent_by old.air sender.node) x
  sent_own =
      let trail = trails p sender here in
      let shows = trail.shows in
      let same : own.made.sent ≡ sent_by old.air sender.node = ap (λ (e : Device). e.made.sent) (sym shows.shows.is) ∙ shows.logged.sent in
      subst (λ (ys : List Sending). Contains ys x) same
      (own_here own.sending own.made.sent x (sends (setup_of s sender.node) own shows)
      (own_sent s sender.node (clocks sender.node) (heard_by old.air sender.node) t own trail.at))

  in_log : Contains (sendings_of old.air) x
  in_log = (filtered (λ (y : Sending). y.node == sender.node) (sendings_of old.air) x sent_own).0

  hears : (q : ℕ) (n : NodeLine) → slice_get s.nodes q ≡ Some n → Contains hearers q → HearsInScene (as_it_stands old.medium t a) n.node x
  hears q n there is =
      let trail = trails q n there in
      (ends.heard a holds.held (holds.lines ∙ sym by_trace) q (setup_of s n.node) trail.device trail.shows).0 is

  -- who receives x has sent nothing that ends with it
  pub none_with : (q : ℕ) (n : NodeLine) → slice_get s.nodes q ≡ Some n → Contains hearers q → (y : Sending) → Contains (sent_by old.air n.node) y
      → y.end ≡ x.end → ⊥
  none_with q n there is y sent tied =
      let both = filtered (λ (z : Sending). z.node == n.node) (sendings_of old.air) y sent in
      let of_y = holds.begun y both.0 in
      let of_x = holds.begun x in_log in
      (hears q n there is).silent y ((holds.sendings y).1 both.0) (eqb-true y.node n.node both.1) (record {
        before = omega (arith, of_x.0, tied);
        after = omega (arith, of_y.0, tied);
      })

  pub not_own : Contains hearers p → ⊥
  not_own is = none_with p sender here is x sent_own refl

  abbrev pub id : ℕ → ℕ
  id q = slice_index_or (ids_of old) q 0

  hearer_node : (q : ℕ) → Contains hearers q → (n : NodeLine) × (slice_get s.nodes q ≡ Some n)
  hearer_node q is = node_within s old old_due places q (All-contains (λ r. r < length old.devices) hearers q ends.within is)

  ids_tell : (y z : ℕ) → Contains hearers y → Contains hearers z → id y ≡ id z → y ≡ z
  ids_tell y z at_y at_z same = by (cases_eq y z)
    where
      by : (y ≡ z) ⊎ (y ≢ z) → y ≡ z
      by (inl is) = is
      by (inr other) =
          let n = hearer_node y at_y in
          let m = hearer_node z at_z in
          absurd (ids_apart s sound y z n.0 m.0 other n.1 m.1 (sym (id_at s old old_due places y n.0 n.1) ∙ same ∙ id_at s old old_due places z m.0 m.1))

  heard_with : (v : ℕ) (hs : List Hearing) → filter (of id x v) (map (hearing_at old x) hearers) ≡ hs
      → heard_by new.air v ≡ heard_by old.air v ++ map reception_of hs
  heard_with v hs is =
      let of_v : Hearing → Bool = λ h. h.node == v in
      let turn_old : AreInTurn (hearings_by old.air v) =
      AllPairs-filter (λ g h. reception_comes_before h g ≡ false) of_v (hearings_of old.air) in_turn_before in
      let turn_new : AreInTurn (hearings_by new.air v) = AllPairs-filter (λ g h. reception_comes_before h g ≡ false) of_v (hearings_of new.air) in_turn_after in
      heard_in_turn new.air v turn_new
      ∙ ap (map reception_of)
      (ap (filter of_v) ends.hearings ∙ filter-append of_v (hearings_of old.air) (map (hearing_at old x) hearers)
      ∙ ap (λ (l : List Hearing). hearings_by old.air v ++ l) is)
      ∙ map-append reception_of (hearings_by old.air v) hs
      ∙ ap (λ (l : List Reception). l ++ map reception_of hs) (sym (heard_in_turn old.air v turn_old))

  heard_nothing : (v : ℕ) → ((q : ℕ) → Contains hearers q → id q ≡ v → ⊥) → heard_by new.air v ≡ heard_by old.air v
  heard_nothing v none = heard_with v [] (none_of id x v hearers none) ∙ append-nil (heard_by old.air v)

  heard_one : (v q : ℕ) → Contains hearers q → id q ≡ v → heard_by new.air v ≡ heard_by old.air v ++ reception x ∷ []
  heard_one v q there is = heard_with v (hearing id x v q ∷ []) (one_of id x v hearers q ends.ascending ids_tell there is)

  -- each node, and each id
  pub heard_at_end : IsHeardAt s x hearers old.air new.air
  heard_at_end = record {
    heard = λ q n there is. heard_one n.node q is (id_at s old old_due places q n there);
    unheard = λ q n there deaf. heard_nothing n.node (λ r is same. deaf (subst (Contains hearers) (here_alone q n there r is same) is));
    free = none_with;
  }
    where
      here_alone : (q : ℕ) (n : NodeLine) → slice_get s.nodes q ≡ Some n → (r : ℕ) → Contains hearers r → id r ≡ n.node → r ≡ q
      here_alone q n there r is same = by (cases_eq r q)
        where
          by : (r ≡ q) ⊎ (r ≢ q) → r ≡ q
          by (inl eq) = eq
          by (inr other) = let m = hearer_node r is in absurd (ids_apart s sound r q m.0 n other m.1 there (sym (id_at s old old_due places r m.0 m.1) ∙ same))

  pub heard_on_at_end : (v : ℕ) → HeardOn t old.air new.air v
  heard_on_at_end v = elim (search_id id x v hearers) [
    | inl found ↦ inr (reception x, now, heard_one v found.0 found.1 found.2)
    | inr none ↦ inl (heard_nothing v none)
  ]
