-- What an event is to a device: the row changes it and what is made, and then its orders are obeyed.
use Rattle.std.proofs.Common.{◌≡◌, ℕ, ◌≤◌, ◌^◌, List, [], ◌++◌, All, Bool, fold, Option, Some, None, option_to_list, refl, sym, ◌∙◌, ap, subst, arith}
use Rattle.std.proofs.lemmas.List.{append-nil}
use Rattle.std.proofs.lemmas.List.Elements.{All-cons, All-nil}
use Rattle.lwb_base.specs.declared.event.Event.{Event}
use Rattle.radio_model.specs.declared.sending.Sending.{Sending}
use Rattle.bus_rules.specs.Cores.{Setup}
use Rattle.bus_rules.specs.declared.delivery.Delivery.{Delivery}
use Rattle.node_core.specs.Nodes.{Node}
use Rattle.node_core.specs.Rows.{Stepped, orders_by}
use Rattle.node_core.proofs.NamedDeliveries.{IsTo, DeliversTo, delivers_to}
use Rattle.air_log.specs.Devices.{Device, Made, Power, PowerOff, PowerOn, obeyed, event}
use Rattle.air_log.specs.DeviceStates.{DeviceState, whole, row_at, row_of, state_after_row, made_by}
use Rattle.air_log.specs.DeviceStates.{state_after_event}
use Rattle.air_log.specs.Tunings.{Tunings, retuned}
use Rattle.air_log.specs.DeviceChanges.{DeviceShows, DeviceIsShown, made_more, DeviceGoes}
use Rattle.air_log.specs.WindowLogs.{WindowLog, is_alarm}
use Rattle.air_log.specs.WindowSums.{WindowSum, power_has_window, sent_with, noted}
use Rattle.air_log.proofs.CountedEvents.{counted_then}
use Rattle.air_log.proofs.RunningSendings.{runs_still}

-- what a row leaves as it was
record IsKept (old new : DeviceState) : Type 0 where
  setup : new.setup ≡ old.setup
  busy : new.busy_until ≡ old.busy_until
  channel : new.channel ≡ old.channel

kept_by_row : (s : DeviceState) (r : Option Stepped) → IsKept s (state_after_row s r)
kept_by_row s None = record { setup = refl; busy = refl; channel = refl }
kept_by_row s (Some r) = record { setup = refl; busy = refl; channel = refl }

made_is : (t : ℕ) (e : Event) (ended : Option Sending) (power : Power) (r : Option Stepped) (made : Made)
    → made_by t e ended power r made
    ≡ record made { deliveries = (made_by t e ended power r made).deliveries; windows = (made_by t e ended power r made).windows }
made_is t e ended (PowerOff boots) r made = refl
made_is t e ended (PowerOn n) r made = refl

module _ (clock : ℕ → ℕ) (t : ℕ) (e : Event) (ended : Option Sending) (state : DeviceState) (taken : state.delivery ≡ None) where
  delivered_by_row : (n : Node) (r : Option Stepped) (made : Made)
      → (made_by t e ended (PowerOn n) r made).deliveries ≡ made.deliveries ++ option_to_list (state_after_row state r).delivery
  delivered_by_row n None made = ap (λ (o : Option Delivery). made.deliveries ++ option_to_list o) (sym taken)
  delivered_by_row n (Some r) made = refl

  delivered : (s : Setup) (power : Power) (made : Made)
      → (made_by t e ended power (row_at clock t e s power) made).deliveries
      ≡ made.deliveries ++ option_to_list (state_after_row state (row_at clock t e s power)).delivery
  delivered s (PowerOff boots) made = sym (append-nil made.deliveries) ∙ ap (λ (o : Option Delivery). made.deliveries ++ option_to_list o) (sym taken)
  delivered s (PowerOn n) made = delivered_by_row n (row_at clock t e s (PowerOn n)) made

  named : (v : ℕ) (r : Option Stepped) → DeliversTo v r → IsTo v (state_after_row state r).delivery
  named v None to = subst (IsTo v) (sym taken) tt
  named v (Some r) to = to

  delivery_named : (s : Setup) (power : Power) → IsTo s.id (state_after_row state (row_at clock t e s power)).delivery
  delivery_named s (PowerOff boots) = named s.id None tt
  delivery_named s (PowerOn n) = named s.id (row_at clock t e s (PowerOn n)) (delivers_to s n (clock t) e)

all_named : (v : ℕ) (o : Option Delivery) → IsTo v o → All (λ x. x.node ≡ v) (option_to_list o)
all_named v None to = All-nil (λ x. x.node ≡ v)
all_named v (Some d) to = All-cons (λ (x : Delivery). x.node ≡ v) d [] to (All-nil (λ x. x.node ≡ v))

module _ (clock : ℕ → ℕ) (t : ℕ) (e : Event) (ended : Option Sending) (old : DeviceState) where
  abbrev row : Option Stepped
  row = row_of clock t e old

  abbrev mid : DeviceState
  mid = state_after_event clock t e ended old

  abbrev making : Made → Made
  making made = made_by t e ended old.power row made

  -- what the row delivers
  abbrev pub delivers : List Delivery
  delivers = option_to_list (state_after_row old row).delivery

  abbrev kept : IsKept old (state_after_row old row)
  kept = kept_by_row old row

  -- the device after the row
  event_shows : mid.windows.last ≤ 2 ^ 28 → (q : Setup) (x : Tunings) (made : Made) (d : Device) → DeviceShows q t old x made d
      → DeviceShows q t mid x (making made) (whole mid x (making made))
  event_shows less q x made d sh = record {
    is = refl;
    runs = runs_still old.busy_until mid.busy_until made.sent (making made).sent kept.busy
        (ap (λ (m : Made). m.sent) (made_is t e ended old.power row made)) sh.runs;
    setup = kept.setup ∙ sh.setup;
    counted = counted_then clock t e ended old q.profile q.sends sh.few old.windows old.setup old.power made refl sh.counted less;
    few = sh.few;
    channel = sh.channel ∙ sym kept.channel;
    tuned = sh.tuned;
    taken = refl;
  }

  pub event_shown : mid.windows.last ≤ 2 ^ 28 → DeviceIsShown t old → DeviceIsShown t mid
  event_shown less shown = record {
    setup = shown.setup;
    tunings = shown.tunings;
    made = making shown.made;
    device = whole mid shown.tunings (making shown.made);
    shows = event_shows less shown.setup shown.tunings shown.made shown.device shown.shows;
  }

  pub event_setup : mid.setup ≡ old.setup
  event_setup = kept.setup

  listed : old.delivery ≡ None → (w : List WindowLog) (made : Made) → made_more [] w (making made) ≡ made_more delivers w made
  listed taken w made =
      ap (made_more [] w) (made_is t e ended old.power row made)
      ∙ ap (λ (l : List Delivery). made_more [] w (record made { deliveries = l })) (delivered clock t e ended old taken old.setup old.power made)
      ∙ ap (λ (l : List Delivery). record (made_more delivers w made) { deliveries = l }) (append-nil (made.deliveries ++ delivers))

  -- with its orders obeyed
  module _ (less : mid.windows.last ≤ 2 ^ 28) (taken : old.delivery ≡ None)
      (comes : (x : Tunings) (made : Made) → event clock old.setup t e ended (whole old x made)
      ≡ fold (obeyed clock old.setup.id t) (whole (state_after_row old row) x (making made)) (orders_by row))
      (new : DeviceState) (goes : DeviceGoes t (λ q d. fold (obeyed clock q.id t) d (orders_by row)) mid new []) where
    same : (q : Setup) (x : Tunings) (made : Made) (d : Device) → DeviceShows q t old x made d
        → fold (obeyed clock q.id t) (whole mid x (making made)) (orders_by row) ≡ event clock q t e ended d
    same q x made d sh =
        ap (λ (z : Setup). fold (obeyed clock z.id t) (whole mid x (making made)) (orders_by row)) (sym sh.setup) ∙ sym (comes x made)
        ∙ ap (event clock old.setup t e ended) sh.is ∙ ap (λ (z : Setup). event clock z t e ended d) sh.setup

    pub event_goes : DeviceGoes t (λ q d. event clock q t e ended d) old new delivers
    event_goes = record {
      shows = λ q x made d sh.
          let next = goes.shows q x (making made) (whole mid x (making made)) (event_shows less q x made d sh) in
          let tuned = retuned q.id t new.channel x in (
            next.0,
            subst (λ (m : Made). DeviceShows q t new tuned m (event clock q t e ended d)) (listed taken next.0 made)
                (subst (λ (y : Device). DeviceShows q t new tuned (made_more [] next.0 (making made)) y) (same q x made d sh) next.1),
          );
      setup = goes.setup ∙ kept.setup;
      busy = goes.busy ∙ kept.busy;
      own = all_named old.setup.id (state_after_row old row).delivery (delivery_named clock t e ended old taken old.setup old.power);
    }

-- the device after an event, as code comes to it: one part after another
module _ (clock : ℕ → ℕ) (t : ℕ) (e : Event) (ended : Option Sending) (old moved counted after : DeviceState) (before alarm : Bool) (sent : Option (List ℕ))
    (is_moved : moved ≡ state_after_row old (row_of clock t e old))
    (is_counted : counted ≡ record moved { windows = noted before (power_has_window moved.power) alarm sent moved.windows })
    (is_after : after ≡ record counted { delivery = None }) where
  kept_windows : (r : Option Stepped) → (state_after_row old r).windows ≡ old.windows
  kept_windows None = refl
  kept_windows (Some r) = refl

  pub event_state : before ≡ power_has_window old.power → alarm ≡ is_alarm e → sent ≡ sent_with e ended → after ≡ state_after_event clock t e ended old
  event_state is_before is_alarmed is_sent =
      let r = state_after_row old (row_of clock t e old) in
      let sums : noted before (power_has_window moved.power) alarm sent moved.windows ≡ (state_after_event clock t e ended old).windows =
      ap (λ (b : Bool). noted b (power_has_window moved.power) alarm sent moved.windows) is_before
      ∙ ap (λ (s : DeviceState). noted (power_has_window old.power) (power_has_window s.power) alarm sent s.windows) is_moved
      ∙ ap (λ (b : Bool). noted (power_has_window old.power) (power_has_window r.power) b sent r.windows) is_alarmed
      ∙ ap (λ (o : Option (List ℕ)). noted (power_has_window old.power) (power_has_window r.power) (is_alarm e) o r.windows) is_sent
      ∙ ap (λ (w : WindowSum). noted (power_has_window old.power) (power_has_window r.power) (is_alarm e) (sent_with e ended) w)
      (kept_windows (row_of clock t e old)) in
      is_after
      ∙ ap (λ (s : DeviceState). record s { delivery = None }) is_counted
      ∙ ap (λ (w : WindowSum). record moved { windows = w; delivery = None }) sums
      ∙ ap (λ (s : DeviceState). record s { windows = (state_after_event clock t e ended old).windows; delivery = None }) is_moved

  pub few_counted : after ≡ state_after_event clock t e ended old → counted.windows.last ≤ 2 ^ 28
      → (state_after_event clock t e ended old).windows.last ≤ 2 ^ 28
  few_counted is small = omega (arith, small, ap (λ (s : DeviceState). s.windows.last) is_after, ap (λ (s : DeviceState). s.windows.last) is)

  -- and what the list of deliveries has more
  pub delivery_listed : counted.delivery ≡ (state_after_row old (row_of clock t e old)).delivery
  delivery_listed = ap (λ (s : DeviceState). s.delivery) is_counted ∙ ap (λ (s : DeviceState). s.delivery) is_moved
