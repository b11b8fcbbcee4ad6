-- The end of a transmission, as code comes to it: from indices into the devices, and from what each call leaves.
use Rattle.std.proofs.Common.{◌≡◌, ℕ, ◌<◌, ◌↔◌, List, set, get_or, length, Option, Some, None, Bool, true, if◌then◌else◌, refl, sym, ◌∙◌, ap, subst}
use Rattle.std.proofs.Common.{arith, Contains, eq-eqb}
use Rattle.std.specs.Prelude.{All, AllPairs, slice_get}
use Rattle.std.proofs.lemmas.Option.{slice_get_read, same_Some}
use Rattle.link_trace.specs.Passes.{Lines}
use Rattle.radio_model.specs.declared.sending.Sending.{Sending}
use Rattle.radio_model.specs.Hearing.{Scene, HearsInScene}
use Rattle.radio_model.specs.Holding.{Holds, as_it_stands}
use Rattle.radio_model.specs.Stations.{MediumState, IsTime, Ends, station_of, sending_of_station, nodes_of, station_after_end, medium_after_change}
use Rattle.event_calendar.specs.Orders.{Due, changed}
use Rattle.event_calendar.specs.declared.class.Class.TheVariants.{SendingEnd}
use Rattle.bus_rules.specs.Cores.{Setup}
use Rattle.air_log.specs.Devices.{Device}
use Rattle.air_log.specs.DeviceStates.{DeviceState, ends_now}
use Rattle.world_engine.specs.Fields.{FieldState, IsField, FieldShows, FieldIsShown}
use Rattle.world_engine.specs.FieldSteps.{EndsSending, DeviceSends}
use Rattle.world_engine.proofs.ShownPlaces.{shown_as}
use Rattle.world_engine.proofs.EndedSendings.{IsEnding, over, over_is_field, one_sending, sends_only, ends_at, set_there}
use Rattle.world_engine.proofs.EndsOfSendings.{HasEnded}
use Rattle.world_engine.proofs.FollowedDevices.{node_in_medium}

-- the field with another medium and another device
abbrev pub changed_field : FieldState → MediumState → List DeviceState → FieldState
changed_field w medium devices = record w { medium = medium; devices = devices }

as_over : (t i p u : ℕ) (w : FieldState) (m : MediumState) (st new : DeviceState) → i ≡ p → u ≡ st.setup.id
    → m ≡ medium_after_change t u station_after_end w.medium → new ≡ record st { busy_until = None } → changed_field w m (set w.devices i new) ≡ over t p st w
as_over t i p u w m st new place node medium device =
    ap (λ (k : MediumState). changed_field w k (set w.devices i new)) (medium ∙ ap (λ (v : ℕ). medium_after_change t v station_after_end w.medium) node)
    ∙ ap (λ (l : List DeviceState). changed_field w (medium_after_change t st.setup.id station_after_end w.medium) l)
    (ap (λ (k : ℕ). set w.devices k new) place ∙ ap (set w.devices p) device)

-- the same of the field that is given, and of any transmission that it is asked of
pub as_asked : {lines : Lines} {clocks : ℕ → ℕ → ℕ} {t p : ℕ} {x y : Sending} {hearers : List ℕ} {w given new : FieldState} {due new_due : List Due}
    → w ≡ given → x ≡ y → EndsSending lines clocks t p x hearers w due new new_due → EndsSending lines clocks t p y hearers given due new new_due
as_asked {lines} {clocks} {t} {p} {x} {y} {hearers} {w} {given} {new} {due} {new_due} seen is ends =
    subst (λ (v : FieldState). EndsSending lines clocks t p y hearers v due new new_due) seen
    (subst (λ (z : Sending). EndsSending lines clocks t p z hearers w due new new_due) is ends)

-- what is asked of the call, of a field that contracts see as another
pub record IsAsked (t p : ℕ) (w given : FieldState) (due : List Due) : Type 0 where
  pub seen : w ≡ given
  pub field : IsField w
  pub within : p < length given.devices
  pub shown : (q : ℕ) → q < length given.devices → FieldIsShown t given due q
  pub time : IsTime given.medium t
  pub ends : (s : Setup) (d : Device) → FieldShows s t given due p d → Ends given.medium s.id t

module _ {t p : ℕ} {w given : FieldState} {due : List Due} (asked : IsAsked t p w given due) where
  -- of a device that is read at the place
  is_ending : (i : ℕ) (st : DeviceState) → i ≡ p → st ≡ get_or w.devices i st → (x : Sending) × IsEnding t p w due st x
  is_ending i st place is =
      let back : (q : ℕ) → q < length w.devices → FieldIsShown t w due q =
      subst (λ (v : FieldState). (q : ℕ) → q < length v.devices → FieldIsShown t v due q) (sym asked.seen) asked.shown in
      let below : p < length w.devices = subst (λ (v : FieldState). p < length v.devices) (sym asked.seen) asked.within in
      let there : slice_get w.devices p ≡ Some st = subst (λ (k : ℕ). slice_get w.devices k ≡ Some st) place
      (slice_get_read w.devices (length w.devices) i st refl (omega (arith, below, place)) is) in
      let at = back p below in
      let sh = shown_as at.setup t w due p at.device st there at.shows in
      let own : Ends w.medium st.setup.id t =
      subst (λ (u : Setup). Ends w.medium u.id t) (sym sh.shows.setup)
      ((subst (λ (v : FieldState). (s : Setup) (d : Device) → FieldShows s t v due p d → Ends v.medium s.id t) (sym asked.seen) asked.ends) at.setup at.device
      at.shows) in (
        own.sending,
        record {
          field = asked.field;
          here = there;
          shown = back;
          time = subst (λ (v : FieldState). IsTime v.medium t) (sym asked.seen) asked.time;
          ends = own;
          own = own.runs;
          until = own.until;
        },
      )

  -- the medium is notified of the device's node
  pub node_ends : {i u : ℕ} {st : DeviceState} → i ≡ p → st ≡ get_or w.devices i st → u ≡ st.setup.id → Ends w.medium u t
  node_ends {i} {u} {st} place is node = subst (λ (v : ℕ). Ends w.medium v t) (sym node) (is_ending i st place is).1.ends

  -- the queue has its place
  pub place_due : {i : ℕ} {st : DeviceState} → i ≡ p → st ≡ get_or w.devices i st → p < length due
  place_due {i} {st} place is = set_there (is_ending i st place is).1

  -- and knows of its transmission
  pub some_ends : {i u : ℕ} {st : DeviceState} {r : Option Sending} → i ≡ p → st ≡ get_or w.devices i st → u ≡ st.setup.id
      → r ≡ sending_of_station (station_of w.medium u) → (x : Sending) × (r ≡ Some x)
  some_ends {i} {u} {st} {r} place is node sends =
      let e = is_ending i st place is in (e.0, sends ∙ ap (λ (v : ℕ). sending_of_station (station_of w.medium v)) node ∙ e.1.own)

  pub node_there : {i u : ℕ} {st : DeviceState} → i ≡ p → st ≡ get_or w.devices i st → u ≡ st.setup.id → Contains (nodes_of w.medium) u
  node_there {i} {u} {st} place is node =
      subst (λ (v : ℕ). Contains (nodes_of w.medium) v) (sym node) (node_in_medium w p st asked.field (is_ending i st place is).1.here)

  -- the device is read for its node, and once more for its end
  module _ {u i j : ℕ} {first st new : DeviceState} {r : Bool} {x : Sending} {m : MediumState} (place_i : i ≡ p)
      (is_first : first ≡ get_or w.devices i first) (node : u ≡ first.setup.id) (sends : sending_of_station (station_of w.medium u) ≡ Some x)
      (place_j : j ≡ p) (is : st ≡ get_or w.devices j st)
      (ended : r ≡ ends_now t st.busy_until) (silent : new ≡ record st { busy_until = if r then None else st.busy_until })
      (medium : m ≡ medium_after_change t u station_after_end w.medium) where
    node_of : u ≡ st.setup.id
    node_of = node ∙ ap (λ (d : DeviceState). d.setup.id)
        (same_Some first st (sym (is_ending i first place_i is_first).1.here ∙ (is_ending j st place_j is).1.here))

    ending : IsEnding t p w due st x
    ending =
        let e = is_ending j st place_j is in
        subst (λ (y : Sending). IsEnding t p w due st y)
        (one_sending (sending_of_station (station_of w.medium st.setup.id)) e.0 x e.1.own
        (ap (λ (v : ℕ). sending_of_station (station_of w.medium v)) (sym node_of) ∙ sends)) e.1

    says_so : r ≡ true
    says_so = ended ∙ ap (ends_now t) (ends_at ending) ∙ eq-eqb t t refl

    is_over : changed_field w m (set w.devices j new) ≡ over t p st w
    is_over = as_over t j p u w m st new place_j node_of medium
        (silent ∙ ap (λ (b : Bool). record st { busy_until = if b then None else st.busy_until }) says_so)

    pub ended_field : IsField (changed_field w m (set w.devices j new))
    ended_field = subst IsField (sym is_over) (over_is_field ending)

    -- whatever trail the device is of, it sends x
    pub sends_that : (y : Sending) → DeviceSends t given due p y → x ≡ y
    sends_that y that = sym (sends_only ending y (subst (λ (v : FieldState). DeviceSends t v due p y) (sym asked.seen) that))

    pub has_ended : {lines : Lines} {ps : List (ℕ × ℕ)} {mid_due : List Due} → All (λ r. r.1 ≡ u) ps → AllPairs (λ r s. r.0 < s.0) ps
        → ((a : Scene) (y : Sending) → Holds w.medium a → a.lines ≡ lines → sending_of_station (station_of w.medium u) ≡ Some y → (v : ℕ)
        → Contains ps (v, u) ↔ (Contains (nodes_of w.medium) v × HearsInScene (as_it_stands w.medium t a) v y))
        → mid_due ≡ changed due p SendingEnd None → ((a : Scene) → Holds w.medium a → Holds m a)
        → HasEnded lines t p u w due st x ps (changed_field w m (set w.devices j new)) mid_due
    has_ended sender ascending hearers is_due keeps =
        record {
          ending = ending;
          hearers = record { sender = sender; ascending = ascending; hear = λ a held same. hearers a x held same sends };
          is_over = is_over;
          is_due = is_due;
          keeps = keeps;
        }
