-- What each place of a field is at the end of a transmission, and what still runs.
use Rattle.std.proofs.Common.{◌≡◌, ◌≢◌, ℕ, ◌<◌, ◌↔◌, ◌⊎◌, inl, inr, List, length, ◌==◌, slice_get, Some, None, refl, sym, ◌∙◌, ap, subst, Contains, AllPairs}
use Rattle.std.proofs.Common.{eq-eqb, eqb-true}
use Rattle.std.proofs.lemmas.Bool.{cases_eq, cases_Bool, true≢false}
use Rattle.std.proofs.lemmas.Option.{none-some, same_Some}
use Rattle.std.specs.List.{list_any}
use Rattle.link_trace.specs.Passes.{Lines}
use Rattle.radio_model.specs.declared.sending.Sending.{Sending}
use Rattle.radio_model.specs.Hearing.{Scene, HearsInScene}
use Rattle.radio_model.specs.Holding.{as_it_stands}
use Rattle.lwb_base.proofs.Elements.{any_of, some_of}
use Rattle.scenario_text.specs.ScenarioParts.{ScenarioParts}
use Rattle.event_calendar.specs.Orders.{Due}
use Rattle.bus_rules.specs.Cores.{Setup}
use Rattle.air_log.specs.Entries.{sendings_of}
use Rattle.air_log.specs.Devices.{Device}
use Rattle.world_engine.specs.Fields.{FieldState, IsField, FieldShows, ids_of}
use Rattle.world_engine.specs.FieldSteps.{EndsSending, DeviceSends}
use Rattle.world_engine.specs.Running.{Runs, HoldsScene}
use Rattle.air_log.proofs.TunedBefore.{stays_same}
use Rattle.world_engine.proofs.ToldDevices.{told_of_end_stays, told_of_hearing_stays, told_of_end_sending, told_of_hearing_sending}
use Rattle.world_engine.proofs.ShownTunings.{AreTuned, IsTunedAt, shown_id, shown_sending, place_in}
use Rattle.world_engine.proofs.ScenesGoOn.{IsMoved, same_ids, sending_at, on_air_there, runs_node, runs_sent}
use Rattle.world_engine.proofs.HearingsGoOn.{runs_at}
use Rattle.world_engine.proofs.HearingOrder.{one_place}

-- the transmission x of the device at place p ends at t, and this scene is held before
pub record IsAtEnd (s : ScenarioParts) (lines : Lines) (clocks : ℕ → ℕ → ℕ) (t p : ℕ) (x : Sending) (hearers : List ℕ) (old : FieldState)
    (old_due : List Due) (new : FieldState) (new_due : List Due) (a : Scene) : Type 0 where
  pub ends : EndsSending lines clocks t p x hearers old old_due new new_due
  pub within : p < length old.devices
  pub field : IsField old
  pub all : AreTuned t old old_due
  pub sends : DeviceSends t old old_due p x
  pub now : x.end ≡ t
  pub trace : lines ≡ s.trace
  pub holds : HoldsScene s t old old_due a

module _ {s : ScenarioParts} {lines : Lines} {clocks : ℕ → ℕ → ℕ} {t p : ℕ} {x : Sending} {hearers : List ℕ} {old : FieldState} {old_due : List Due}
    {new : FieldState} {new_due : List Due} {a : Scene} (at_end : IsAtEnd s lines clocks t p x hearers old old_due new new_due a) where
  -- the sender
  abbrev sender : IsTunedAt t old old_due p
  sender = at_end.all p at_end.within

  x_sent : (at_end.all p at_end.within).device.sending ≡ Some x
  x_sent = at_end.sends (at_end.all p at_end.within).setup (at_end.all p at_end.within).device (at_end.all p at_end.within).shows

  pub own_node : x.node ≡ (at_end.all p at_end.within).setup.id
  own_node =
      let at = sending_at old.medium sender.setup.id x (shown_sending sender.setup t old old_due p sender.device sender.shows ∙ x_sent) in
      ((at_end.holds.held.orderly at.station at.there).own x (on_air_there at.station x at.sends)).node ∙ at.node

  pub x_runs : Runs old.medium x
  x_runs = (runs_at sender.setup t old old_due p sender.device sender.shows x (sym own_node)).1 x_sent

  pub x_logged : Contains (sendings_of old.air) x
  x_logged = runs_sent s t old old_due a at_end.holds x x_runs

  x_lasts : x.start < x.end
  x_lasts = (at_end.holds.begun x x_logged).0

  pub rule : (q : ℕ) (u : Setup) (d : Device) → FieldShows u t old old_due q d → Contains hearers q ↔ HearsInScene (as_it_stands old.medium t a) u.id x
  rule q u d shows = at_end.ends.heard a at_end.holds.held (at_end.holds.lines ∙ sym at_end.trace) q u d shows

  -- it does not receive itself, and no hearer sends up to this tick
  pub sender_hears_not : Contains hearers p → ⊥
  sender_hears_not there =
      let hears = (rule p sender.setup sender.device sender.shows).0 there in
      hears.silent x hears.sent own_node (record { before = x_lasts; after = x_lasts })

  -- who receives it
  is_hearing : (q : ℕ) → Contains hearers q ⊎ (Contains hearers q → ⊥)
  is_hearing q =
      elim (cases_Bool (list_any (λ (r : ℕ). r == q) hearers)) [
        | inl is ↦ (let r = some_of (λ (r : ℕ). r == q) hearers is in inl (subst (Contains hearers) (eqb-true r.0 q r.2) r.1))
        | inr not ↦ inr (λ there. true≢false (sym (any_of (λ (r : ℕ). r == q) hearers q there (eq-eqb q q refl)) ∙ not))
      ]

  -- at each place
  pub record EndsAt (r : ℕ) : Type 0 where
    pub moved : IsMoved t old old_due new new_due r
    pub fate : ((r ≡ p) × (moved.after.sending ≡ None)) ⊎ ((r ≢ p) × (moved.after.sending ≡ moved.before.sending))

  at_sender : EndsAt p
  at_sender = record {
    moved = record {
      setup = sender.setup;
      before = sender.device;
      after = _;
      was = sender.shows;
      is = at_end.ends.sender sender_hears_not sender.setup sender.device sender.shows;
      stays = told_of_end_stays (clocks p) sender.setup t sender.device sender.by x;
    };
    fate = inl (refl, told_of_end_sending (clocks p) sender.setup t x sender.device);
  }

  pub at_other : (r : ℕ) → r < length old.devices → r ≢ p → EndsAt r
  at_other r inside other =
      let at = at_end.all r inside in
      elim (is_hearing r) [
        | inl there ↦ record {
          moved = record {
            setup = at.setup;
            before = at.device;
            after = _;
            was = at.shows;
            is = at_end.ends.hearer r there other at.setup at.device at.shows;
            stays = told_of_hearing_stays (clocks r) at.setup t at.device at.by x;
          };
          fate = inr (other, told_of_hearing_sending (clocks r) at.setup t x at.device);
        }
        | inr not ↦ record {
          moved = record {
            setup = at.setup;
            before = at.device;
            after = at.device;
            was = at.shows;
            is = at_end.ends.others r not other at.setup at.device at.shows;
            stays = stays_same t at.device.made.tuned at.device.listening at.by;
          };
          fate = inr (other, refl);
        }
      ]

  pub ends_at : (r : ℕ) → r < length old.devices → EndsAt r
  ends_at r inside = elim (cases_eq r p) [ inl same ↦ subst EndsAt (sym same) at_sender | inr other ↦ at_other r inside other ]

  pub ids : ids_of new ≡ ids_of old
  ids = same_ids old new at_end.ends.same.setups

  pub ascending : AllPairs (λ a b. a < b) (ids_of old)
  ascending = subst (AllPairs (λ a b. a < b)) (sym at_end.field.nodes) at_end.field.medium.nodes.ascending

  -- the place of a sender
  pub record SenderAt (y : Sending) : Type 0 where
    pub place : ℕ
    pub at : EndsAt place
    pub node : at.moved.setup.id ≡ y.node

  sender_at : (y : Sending) → Contains (ids_of old) y.node → SenderAt y
  sender_at y there =
      let place = place_in old y.node there in
      let at = ends_at place.place place.within in
      record {
        place = place.place;
        at = at;
        node = same_Some at.moved.setup.id y.node (sym (shown_id at.moved.setup t old old_due place.place at.moved.before at.moved.was) ∙ place.id);
      }

  -- what still runs is another device's
  pub record StillRuns (y : Sending) : Type 0 where
    pub place : ℕ
    pub setup : Setup
    pub device : Device
    pub shows : FieldShows setup t old old_due place device
    pub node : setup.id ≡ y.node
    pub sent : device.sending ≡ Some y
    pub other : place ≢ p

  pub still_runs : (y : Sending) → Runs new.medium y → StillRuns y
  still_runs y ran =
      let of = sender_at y (subst (λ (l : List ℕ). Contains l y.node) ids (runs_node new (ids ∙ at_end.field.nodes ∙ sym at_end.ends.air.nodes) y ran)) in
      let m = of.at.moved in
      let is : m.after.sending ≡ Some y = (runs_at m.setup t new new_due of.place m.after m.is y of.node).0 ran in
      elim of.at.fate [
        | inl own ↦ absurd (none-some y (sym own.1 ∙ is))
        | inr other ↦ record { place = of.place; setup = m.setup; device = m.before; shows = m.was; node = of.node; sent = sym other.1 ∙ is; other = other.0 }
      ]

  pub was_running : (y : Sending) → StillRuns y → Runs old.medium y
  was_running y still = (runs_at still.setup t old old_due still.place still.device still.shows y still.node).1 still.sent

  pub place_of : (y : Sending) (still : StillRuns y) → slice_get (ids_of old) still.place ≡ Some y.node
  place_of y still = shown_id still.setup t old old_due still.place still.device still.shows ∙ ap (λ (v : ℕ). Some v) still.node

  pub place_of_x : slice_get (ids_of old) p ≡ Some x.node
  place_of_x = shown_id sender.setup t old old_due p sender.device sender.shows ∙ ap (λ (v : ℕ). Some v) (sym own_node)

  pub apart : (y : Sending) → StillRuns y → x ≢ y
  apart y still same = still.other
      (one_place (ids_of old) ascending still.place p x.node (place_of y still ∙ ap (λ (z : Sending). Some z.node) (sym same)) place_of_x)

  pub runs_on : (y : Sending) → x ≢ y → Runs old.medium y → Runs new.medium y
  runs_on y differ ran =
      let of = sender_at y (runs_node old at_end.field.nodes y ran) in
      let m = of.at.moved in
      let was : m.before.sending ≡ Some y = (runs_at m.setup t old old_due of.place m.before m.was y of.node).0 ran in
      (runs_at m.setup t new new_due of.place m.after m.is y of.node).1 (elim of.at.fate [
        | inl own ↦ absurd
            (differ (same_Some x y (sym (at_end.sends m.setup m.before (subst (λ (r : ℕ). FieldShows m.setup t old old_due r m.before) own.0 m.was)) ∙ was)))
        | inr other ↦ other.1 ∙ was
      ])
