-- What a device goes through, one step after another, is what the device of a trail does.
use Rattle.std.proofs.Common.{◌≡◌, ℕ, List, [], ◌++◌, All, refl, sym, ◌∙◌, ap, subst}
use Rattle.std.proofs.lemmas.List.{append-nil, append_assoc}
use Rattle.std.proofs.lemmas.List.Elements.{All-append, All-nil}
use Rattle.radio_model.specs.OnAir.{Tuning}
use Rattle.bus_rules.specs.Cores.{Setup}
use Rattle.bus_rules.specs.declared.delivery.Delivery.{Delivery}
use Rattle.air_log.specs.Devices.{Device, Made}
use Rattle.air_log.specs.DeviceStates.{DeviceState, whole, IsSameNode, RunsUntil}
use Rattle.air_log.specs.Tunings.{Tunings, channel_in, retuned}
use Rattle.air_log.specs.DeviceChanges.{DeviceShows, DeviceIsShown, made_more, DeviceGoes}
use Rattle.air_log.specs.WindowLogs.{WindowLog}
use Rattle.air_log.specs.WindowSums.{WindowSum, IsCounted}
use Rattle.air_log.proofs.KeptTunings.{channel_retuned, retuned_same, retuned_twice, by_channel_retuned}
use Rattle.air_log.proofs.RunningSendings.{runs_still}

-- a device of the same node is shown, with the tunings of its channel and what it has made by now
pub node_shows : (q : Setup) (t : ℕ) (old new : DeviceState) (x : Tunings) (made more : Made) (d e : Device) → DeviceShows q t old x made d
    → IsSameNode old new → more.windows ≡ made.windows → RunsUntil new.busy_until more.sent → whole new (retuned q.id t new.channel x) more ≡ e
    → DeviceShows q t new (retuned q.id t new.channel x) more e
node_shows q t old new x made more d e sh node windows runs is = record {
  is = is;
  runs = runs;
  setup = node.setup ∙ sh.setup;
  counted = subst (λ (l : List WindowLog). IsCounted q.profile q.sends l new.windows) (sym windows)
      (subst (λ (w : WindowSum). IsCounted q.profile q.sends made.windows w) (sym node.windows) sh.counted);
  few = sh.few;
  channel = channel_retuned q.id t new.channel x;
  tuned = by_channel_retuned q.id t new.channel x sh.tuned;
  taken = node.delivery ∙ sh.taken;
}

-- with its channel its tunings stay
still_tuned : (q : Setup) (t : ℕ) (old new : DeviceState) (x : Tunings) (made : Made) (d : Device) → DeviceShows q t old x made d
    → new.channel ≡ old.channel → retuned q.id t new.channel x ≡ x
still_tuned q t old new x made d sh channel = retuned_same q.id t new.channel x (sh.channel ∙ sym channel)

pub still_shows : (q : Setup) (t : ℕ) (old new : DeviceState) (x : Tunings) (made more : Made) (d e : Device) → DeviceShows q t old x made d
    → IsSameNode old new → new.channel ≡ old.channel → more.windows ≡ made.windows → RunsUntil new.busy_until more.sent → whole new x more ≡ e
    → DeviceShows q t new x more e
still_shows q t old new x made more d e sh node channel windows runs is =
    let same = still_tuned q t old new x made d sh channel in
    subst (λ (y : Tunings). DeviceShows q t new y more e) same
    (node_shows q t old new x made more d e sh node windows runs (ap (λ (y : Tunings). whole new y more) same ∙ is))

-- what it has made of tunings is not asked
pub other_tuned : (q : Setup) (t : ℕ) (s : DeviceState) (x : Tunings) (made : Made) (d : Device) (es : List Tuning) → DeviceShows q t s x made d
    → DeviceShows q t s x (record made { tuned = es }) d
other_tuned q t s x made d es sh = record {
  is = sh.is;
  runs = sh.runs;
  setup = sh.setup;
  counted = sh.counted;
  few = sh.few;
  channel = sh.channel;
  tuned = sh.tuned;
  taken = sh.taken;
}

nothing_more : (made : Made) → (record made { deliveries = made.deliveries ++ [] }) ≡ made
nothing_more made = ap (λ (ds : List Delivery). record made { deliveries = ds }) (append-nil made.deliveries)

-- a step with no event
module _ (t : ℕ) (change : Setup → Device → Device) (old new : DeviceState) where
  pub record IsStep : Type 0 where
    pub comes : (x : Tunings) (made : Made) → channel_in x ≡ old.channel
        → change old.setup (whole old x made) ≡ whole new (retuned old.setup.id t new.channel x) made
    pub node : IsSameNode old new
    pub busy : new.busy_until ≡ old.busy_until

  pub step_goes : IsStep → DeviceGoes t change old new []
  step_goes step = record {
    shows = λ q x made d sh. (
      made.windows,
      node_shows q t old new x made (made_more [] made.windows made) d (change q d) sh step.node refl
          (runs_still old.busy_until new.busy_until made.sent made.sent step.busy refl sh.runs)
          (ap (whole new (retuned q.id t new.channel x)) (nothing_more made)
          ∙ ap (λ (z : Setup). whole new (retuned z.id t new.channel x) made) (sym sh.setup) ∙ sym (step.comes x made sh.channel)
          ∙ ap (λ (z : Setup). change z (whole old x made)) sh.setup ∙ ap (change q) sh.is),
    );
    setup = step.node.setup;
    busy = step.busy;
    own = All-nil (λ x. x.node ≡ old.setup.id);
  }

-- a step by which its channel stays
pub set_goes : (t : ℕ) (change : Setup → Device → Device) (old new : DeviceState)
    → ((x : Tunings) (made : Made) → change old.setup (whole old x made) ≡ whole new x made) → IsSameNode old new → new.channel ≡ old.channel
    → new.busy_until ≡ old.busy_until → DeviceGoes t change old new []
set_goes t change old new comes node channel busy = step_goes t change old new (record {
  comes = λ x made on.
      comes x made ∙ ap (λ (y : Tunings). whole new y made) (sym (retuned_same old.setup.id t new.channel x (on ∙ sym channel)));
  node = node;
  busy = busy;
})

pub goes_nothing : (t : ℕ) (s : DeviceState) → DeviceGoes t (λ q d. d) s s []
goes_nothing t s = set_goes t (λ q d. d) s s (λ x made. refl) (record { setup = refl; delivery = refl; windows = refl }) refl refl

-- a device is shown still
pub shown_still : (t : ℕ) (change : Setup → Device → Device) (old new : DeviceState) (ds : List Delivery) → DeviceGoes t change old new ds
    → DeviceIsShown t old → DeviceIsShown t new
shown_still t change old new ds goes shown =
    let next = goes.shows shown.setup shown.tunings shown.made shown.device shown.shows in
    record {
      setup = shown.setup;
      tunings = retuned shown.setup.id t new.channel shown.tunings;
      made = made_more ds next.0 shown.made;
      device = change shown.setup shown.device;
      shows = next.1;
    }

-- two steps: only the channel after both counts
module _ (t : ℕ) (f g : Setup → Device → Device) (a b c : DeviceState) (ds es : List Delivery) (one : DeviceGoes t f a b ds) (two : DeviceGoes t g b c es) where
  joined : (v w : List WindowLog) (made : Made) → made_more es w (made_more ds v made) ≡ made_more (ds ++ es) w made
  joined v w made = ap (λ (l : List Delivery). record made { deliveries = l; windows = w }) (append_assoc made.deliveries ds es)

  pub goes_then : DeviceGoes t (λ q d. g q (f q d)) a c (ds ++ es)
  goes_then = record {
    shows = λ q x made d sh.
        let first = one.shows q x made d sh in
        let second = two.shows q (retuned q.id t b.channel x) (made_more ds first.0 made) (f q d) first.1 in (
          second.0,
          subst (λ (m : Made). DeviceShows q t c (retuned q.id t c.channel x) m (g q (f q d))) (joined first.0 second.0 made)
              (subst (λ (y : Tunings). DeviceShows q t c y (made_more es second.0 (made_more ds first.0 made)) (g q (f q d)))
              (retuned_twice q.id t b.channel c.channel x sh.tuned) second.1),
        );
    setup = two.setup ∙ one.setup;
    busy = two.busy ∙ one.busy;
    own =
        All-append (λ (d : Delivery). d.node ≡ a.setup.id) ds es one.own
        (subst (λ (s : Setup). All (λ (d : Delivery). d.node ≡ s.id) es) one.setup two.own);
  }

-- a change that is the same at all devices that are shown
pub goes_as : (t : ℕ) (f g : Setup → Device → Device) (a b : DeviceState) (ds : List Delivery)
    → ((q : Setup) (x : Tunings) (made : Made) (d : Device) → DeviceShows q t a x made d → f q d ≡ g q d) → DeviceGoes t f a b ds → DeviceGoes t g a b ds
goes_as t f g a b ds same goes = record {
  shows = λ q x made d sh.
      let next = goes.shows q x made d sh in
      (next.0, subst (λ (e : Device). DeviceShows q t b (retuned q.id t b.channel x) (made_more ds next.0 made) e) (same q x made d sh) next.1);
  setup = goes.setup;
  busy = goes.busy;
  own = goes.own;
}

-- so where it is the same for the whole device, whatever is made
pub same_shown : (t : ℕ) (f g : Setup → Device → Device) (s : DeviceState)
    → ((x : Tunings) (made : Made) → f s.setup (whole s x made) ≡ g s.setup (whole s x made))
    → (q : Setup) (x : Tunings) (made : Made) (d : Device) → DeviceShows q t s x made d → f q d ≡ g q d
same_shown t f g s same q x made d sh =
    subst (λ (e : Device). f q e ≡ g q e) sh.is (subst (λ (z : Setup). f z (whole s x made) ≡ g z (whole s x made)) sh.setup (same x made))
