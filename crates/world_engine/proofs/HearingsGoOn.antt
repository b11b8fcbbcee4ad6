-- What is in the log of a run after a step at one device.
use Rattle.std.proofs.Common.{◌≡◌, ◌≢◌, ℕ, suc, ◌<◌, ◌≤◌, ◌↔◌, ◌⊎◌, inl, inr, List, [], ◌∷◌, ◌++◌, length, true, Some, refl, sym, ◌∙◌, ap, subst, arith}
use Rattle.std.proofs.Common.{Contains, AllPairs, lt-ltb}
use Rattle.std.proofs.lemmas.Bool.{cases_eq, or_left}
use Rattle.std.proofs.lemmas.List.Elements.{Contains-append_cases, Contains-append_left, All-contains}
use Rattle.std.proofs.lemmas.Option.{none-some, same_Some, slice_get_within, get_or_from_slice_get}
use Rattle.lwb_base.specs.Profile.{IsProfile}
use Rattle.radio_model.specs.declared.sending.Sending.{Sending}
use Rattle.radio_model.specs.OnAir.{Hearing}
use Rattle.radio_model.specs.Hearing.{Scene, HearsInScene}
use Rattle.radio_model.specs.Holding.{Agree, as_it_stands}
use Rattle.radio_model.specs.Stations.{sending_of_station, station_of}
use Rattle.lwb_base.proofs.Elements.{not_in_none, contains_head, contains_cases}
use Rattle.scenario_text.specs.ScenarioParts.{ScenarioParts}
use Rattle.scenario_text.specs.declared.script.ScriptLine.{ScriptLine}
use Rattle.event_calendar.specs.Orders.{Due}
use Rattle.bus_rules.specs.declared.delivery.DropLine.{DropLine}
use Rattle.bus_rules.specs.Cores.{Setup}
use Rattle.air_log.specs.Entries.{sendings_of, hearings_of, HasHeardEntry}
use Rattle.air_log.specs.Devices.{Device}
use Rattle.air_log.specs.ScriptedDevices.{device_after_line}
use Rattle.air_log.specs.Trails.{device_after_start as begun_at, alarmed, sendings_starting}
use Rattle.air_log.specs.Lawful.{reception_comes_before, AreInTurn}
use Rattle.air_log.specs.DeviceStates.{DeviceState}
use Rattle.world_engine.specs.Fields.{FieldState, IsField, FieldShows, ids_of}
use Rattle.world_engine.specs.FieldSteps.{Acts}
use Rattle.world_engine.specs.Running.{Runs, HoldsScene, HasHearings, IsOnAir}
use Rattle.air_log.proofs.TunedBefore.{HasTunedBy, IsTunedAs, stays_same, line_stays, alarmed_stays, begun_stays}
use Rattle.air_log.proofs.SendingsKept.{Begins, Lasts, profile_lasts, line_sending, alarmed_sending, begun_sending}
use Rattle.world_engine.proofs.ShownTunings.{AreTuned, shown_id, shown_sending, place_in}
use Rattle.world_engine.proofs.ScenesGoOn.{IsMoved, same_ids, runs_node, next, is_next, scene_after}
use Rattle.world_engine.proofs.AirInTime.{heard_alike}

-- what runs goes on, and what begins at the tick runs
pub record RunsOn (t : ℕ) (begun : List Sending) (old new : FieldState) : Type 0 where
  pub on : (x : Sending) → Runs old.medium x → Runs new.medium x
  pub back : (x : Sending) → Runs new.medium x → Runs old.medium x ⊎ Contains begun x
  pub fresh : (x : Sending) → Contains begun x → Runs new.medium x × (x.start ≡ t) × (t < x.end)

-- what ends earlier comes before
pub before_by_end : (g h : Hearing) → g.sending.end < h.sending.end → reception_comes_before g h ≡ true
before_by_end g h less = or_left _ _ (lt-ltb g.sending.end h.sending.end less)

module _ (s : ScenarioParts) (over t : ℕ) (begun : List Sending) (old : FieldState) (old_due : List Due) (new : FieldState) (new_due : List Due) (a b : Scene)
    (h : HoldsScene s t old old_due a) (agree : Agree t (as_it_stands old.medium t a) (as_it_stands new.medium t b)) (ids : ids_of new ≡ ids_of old)
    (sends : sendings_of new.air ≡ sendings_of old.air ++ begun) (hearings : hearings_of new.air ≡ hearings_of old.air) (runs : RunsOn t begun old new)
    (now : over ≤ suc t) (has : HasHearings over t old a) where
  sent_was : (x : Sending) → Contains (sendings_of new.air) x → Contains (sendings_of old.air) x ⊎ Contains begun x
  sent_was x there = Contains-append_cases (sendings_of old.air) begun x (subst (λ (l : List Sending). Contains l x) sends there)

  sent_on : (x : Sending) → Contains (sendings_of old.air) x → Contains (sendings_of new.air) x
  sent_on x there = subst (λ (l : List Sending). Contains l x) (sym sends) (Contains-append_left (sendings_of old.air) begun x there)

  -- what has stopped had stopped before
  stopped_was : (x : Sending) → Contains (sendings_of new.air) x → (Runs new.medium x → ⊥) → Contains (sendings_of old.air) x × (Runs old.medium x → ⊥)
  stopped_was x there stopped =
      elim (sent_was x there) [
        | inl was ↦ (was, λ ran. stopped (runs.on x ran))
        | inr fresh ↦ absurd (stopped (runs.fresh x fresh).0)
      ]

  stops_still : (x : Sending) → Contains (sendings_of old.air) x → (Runs old.medium x → ⊥) → Runs new.medium x → ⊥
  stops_still x there stopped ran =
      elim (runs.back x ran) [
        | inl was ↦ stopped was
        | inr fresh ↦ (let later = (runs.fresh x fresh).2 in let before = has.ended x there stopped in omega (arith, later, before, now))
      ]

  alike_by : (v : ℕ) (x : Sending) → Contains (sendings_of old.air) x → (Runs old.medium x → ⊥) → HearsInScene (as_it_stands old.medium t a) v x
      ↔ HearsInScene (as_it_stands new.medium t b) v x
  alike_by v x there stopped = let before = has.ended x there stopped in heard_alike s t old old_due a _ _ h agree v x there (omega (arith, before, now))

  heard_was : (g : Hearing) → Contains (hearings_of new.air) g → Contains (hearings_of old.air) g
  heard_was g there = subst (λ (l : List Hearing). Contains l g) hearings there

  heard_by_rule : (v : ℕ) (x : Sending) → HasHeardEntry new.air v x
      ↔ (Contains (sendings_of new.air) x × (Runs new.medium x → ⊥) × Contains (ids_of new) v × HearsInScene (as_it_stands new.medium t b) v x)
  heard_by_rule v x = (
    λ there.
        let all = (has.heard v x).0 (heard_was _ there) in
        (sent_on x all.0, stops_still x all.0 all.1, subst (λ (l : List ℕ). Contains l v) (sym ids) all.2, (alike_by v x all.0 all.1).0 all.3),
    λ all.
        let was = stopped_was x all.0 all.1 in
        subst (λ (l : List Hearing). Contains l (record { node = v; sending = x })) (sym hearings)
        ((has.heard v x).1 (was.0, was.1, subst (λ (l : List ℕ). Contains l v) ids all.2, (alike_by v x was.0 was.1).1 all.3)),
  )

  -- a transmission that begins ends after what was received
  fresh_later : (g : Hearing) (y : Sending) → Contains (hearings_of old.air) g → Contains begun y
      → reception_comes_before g (record { node = y.node; sending = y }) ≡ true
  fresh_later g y there fresh =
      let all = (has.heard g.node g.sending).0 there in
      let before = has.ended g.sending all.0 all.1 in
      let later = (runs.fresh y fresh).2 in
      before_by_end g (record { node = y.node; sending = y }) (omega (arith, before, later, now))

  pub hearings_after : HasHearings over t new b
  hearings_after = record {
    heard = heard_by_rule;
    ended = λ x there stopped. let was = stopped_was x there stopped in has.ended x was.0 was.1;
    once = subst (λ (l : List Hearing). AllPairs (λ g h. g ≢ h) l) (sym hearings) has.once;
    in_turn = subst AreInTurn (sym hearings) has.in_turn;
    next = λ g y there ran. elim (runs.back y ran) [
      | inl was ↦ has.next g y (heard_was g there) was
      | inr fresh ↦ fresh_later g y (heard_was g there) fresh
    ];
  }

-- at a place, what a device sends is what runs
pub runs_at : (q : Setup) (t : ℕ) (w : FieldState) (due : List Due) (p : ℕ) (d : Device) → FieldShows q t w due p d → (x : Sending) → q.id ≡ x.node
    → Runs w.medium x ↔ (d.sending ≡ Some x)
runs_at q t w due p d shows x node =
    let same : sending_of_station (station_of w.medium x.node) ≡ d.sending = ap (λ (v : ℕ). sending_of_station (station_of w.medium v)) (sym node)
    ∙ shown_sending q t w due p d shows in
    (λ is. sym same ∙ is, λ is. same ∙ is)

-- what a change at a place does to the tuning and the transmission of the device
pub record Does (t p : ℕ) (change : Setup → Device → Device) (begun : List Sending) (old : FieldState) (old_due : List Due) : Type 0 where
  pub tuned : (q : Setup) (d : Device) → FieldShows q t old old_due p d → HasTunedBy t d → IsTunedAs t d (change q d)
  pub sending : (q : Setup) (d : Device) → FieldShows q t old old_due p d → Begins q t d begun (change q d)

goes_on : (q : Setup) (t : ℕ) (d : Device) (begun : List Sending) (e : Device) (x : Sending) → Begins q t d begun e → d.sending ≡ Some x → e.sending ≡ Some x
goes_on q t d [] e x begins is = begins ∙ is
goes_on q t d (y ∷ ys) e x begins is = absurd (none-some x (sym begins.0 ∙ is))

came_from : (q : Setup) (t : ℕ) (d : Device) (begun : List Sending) (e : Device) (x : Sending) → Begins q t d begun e → e.sending ≡ Some x
    → (d.sending ≡ Some x) ⊎ Contains begun x
came_from q t d [] e x begins is = inl (sym begins ∙ is)
came_from q t d (y ∷ ys) e x begins is = inr (subst (Contains (y ∷ ys)) (same_Some y x (sym begins.1 ∙ is)) (contains_head y ys))

pub record IsFresh (q : Setup) (t : ℕ) (e : Device) (x : Sending) : Type 0 where
  pub sends : e.sending ≡ Some x
  pub start : x.start ≡ t
  pub node : x.node ≡ q.id
  pub later : t < x.end

is_fresh : (q : Setup) (t : ℕ) (d : Device) (begun : List Sending) (e : Device) (x : Sending) → Begins q t d begun e → Contains begun x → IsFresh q t e x
is_fresh q t d [] e x begins there = absurd (not_in_none x there)
is_fresh q t d (y ∷ ys) e x begins there =
    elim (contains_cases y ys x there) [
      | inl is ↦ subst (IsFresh q t e) is (record { sends = begins.1; start = begins.3; node = begins.4; later = begins.5 })
      | inr rest ↦ absurd (not_in_none x (subst (λ (l : List Sending). Contains l x) begins.2 rest))
    ]

module _ (t p : ℕ) (change : Setup → Device → Device) (begun : List Sending) (lost : List DropLine) (old : FieldState) (old_due : List Due)
    (new : FieldState) (new_due : List Due)
    (acts : Acts t p change begun lost old old_due new new_due) (within : p < length old.devices) (field : IsField old) (all : AreTuned t old old_due)
    (does : Does t p change begun old old_due) where
  -- at each place
  pub record ActsAt (r : ℕ) : Type 0 where
    pub moved : IsMoved t old old_due new new_due r
    pub fate : ((r ≡ p) × Begins moved.setup t moved.before begun moved.after) ⊎ ((r ≢ p) × (moved.after.sending ≡ moved.before.sending))

  at_place : ActsAt p
  at_place =
      let at = all p within in
      record {
        moved = record {
          setup = at.setup;
          before = at.device;
          after = change at.setup at.device;
          was = at.shows;
          is = acts.own at.setup at.device at.shows;
          stays = does.tuned at.setup at.device at.shows at.by;
        };
        fate = inl (refl, does.sending at.setup at.device at.shows);
      }

  acts_at : (r : ℕ) → r < length old.devices → ActsAt r
  acts_at r inside =
      elim (cases_eq r p) [
        | inl same ↦ subst ActsAt (sym same) at_place
        | inr other ↦
            let at = all r inside in
            record {
              moved = record {
                setup = at.setup;
                before = at.device;
                after = at.device;
                was = at.shows;
                is = acts.others r other at.setup at.device at.shows;
                stays = stays_same t at.device.made.tuned at.device.listening at.by;
              };
              fate = inr (other, refl);
            }
      ]

  ids : ids_of new ≡ ids_of old
  ids = same_ids old new acts.same.setups

  -- the place of a sender
  pub record SendsAt (x : Sending) : Type 0 where
    pub place : ℕ
    pub at : ActsAt place
    pub node : at.moved.setup.id ≡ x.node

  sends_at : (x : Sending) → Contains (ids_of old) x.node → SendsAt x
  sends_at x there =
      let place = place_in old x.node there in
      let at = acts_at place.place place.within in
      record {
        place = place.place;
        at = at;
        node = same_Some at.moved.setup.id x.node (sym (shown_id at.moved.setup t old old_due place.place at.moved.before at.moved.was) ∙ place.id);
      }

  pub runs_on : RunsOn t begun old new
  runs_on = record {
    on = λ x ran.
        let of = sends_at x (runs_node old field.nodes x ran) in
        let m = of.at.moved in
        let was : m.before.sending ≡ Some x = (runs_at m.setup t old old_due of.place m.before m.was x of.node).0 ran in
        (runs_at m.setup t new new_due of.place m.after m.is x of.node).1 (elim of.at.fate [
          | inl own ↦ goes_on m.setup t m.before begun m.after x own.1 was
          | inr other ↦ other.1 ∙ was
        ]);
    back = λ x ran.
        let of = sends_at x (subst (λ (l : List ℕ). Contains l x.node) ids (runs_node new (ids ∙ field.nodes ∙ sym acts.air.nodes) x ran)) in
        let m = of.at.moved in
        let is : m.after.sending ≡ Some x = (runs_at m.setup t new new_due of.place m.after m.is x of.node).0 ran in
        let before = (runs_at m.setup t old old_due of.place m.before m.was x of.node).1 in
        elim of.at.fate [
          | inl own ↦ elim (came_from m.setup t m.before begun m.after x own.1 is) [ inl was ↦ inl (before was) | inr fresh ↦ inr fresh ]
          | inr other ↦ inl (before (sym other.1 ∙ is))
        ];
    fresh = λ x there.
        let m = at_place.moved in
        elim at_place.fate [
          | inl own ↦
              let f = is_fresh m.setup t m.before begun m.after x own.1 there in
              ((runs_at m.setup t new new_due p m.after m.is x (sym f.node)).1 f.sends, f.start, f.later)
          | inr other ↦ absurd (other.0 refl)
        ];
  }

  -- the whole
  module _ (s : ScenarioParts) (over : ℕ) (now : over ≤ suc t) (is : IsOnAir s over t old old_due) where
    starts : (x : Sending) → Contains begun x → (x.start < x.end) × (x.start ≤ t)
    starts x there = let f = runs_on.fresh x there in (omega (arith, f.1, f.2), omega (arith, f.1))

    moves : (r : ℕ) → r < length old.devices → IsMoved t old old_due new new_due r
    moves r inside = (acts_at r inside).moved

    pub step_on_air : IsOnAir s over t new new_due
    step_on_air = record {
      scene = next s t begun old old_due new new_due is.scene is.holds acts.air acts.same acts.sendings starts moves;
      holds = scene_after s t begun old old_due new new_due is.scene is.holds acts.air acts.same acts.sendings starts moves;
      has = hearings_after s over t begun old old_due new new_due is.scene _ is.holds
          (is_next s t begun old old_due new new_due is.scene is.holds acts.air acts.same acts.sendings starts moves).before ids acts.sendings
          acts.hearings runs_on now is.has;
    }

-- the changes that occur
pub does_quietly : (t p : ℕ) (change : Setup → Device → Device) (old : FieldState) (old_due : List Due)
    → ((q : Setup) (d : Device) → HasTunedBy t d → IsTunedAs t d (change q d)) → ((q : Setup) (d : Device) → (change q d).sending ≡ d.sending)
    → Does t p change [] old old_due
does_quietly t p change old old_due tuned sending = record { tuned = λ q d shows by. tuned q d by; sending = λ q d shows. sending q d }

module _ (clock : ℕ → ℕ) (t p : ℕ) (old : FieldState) (old_due : List Due) where
  pub line_does : (line : ScriptLine) → Does t p (λ s d. device_after_line clock s t d line) [] old old_due
  line_does line = does_quietly t p (λ s d. device_after_line clock s t d line) old old_due (λ q d by. line_stays clock q t d by line)
      (λ q d. line_sending clock q t d line)

  pub alarmed_does : Does t p (λ s d. alarmed clock s t d) [] old old_due
  alarmed_does = does_quietly t p (λ s d. alarmed clock s t d) old old_due (λ q d by. alarmed_stays clock q t d by) (λ q d. alarmed_sending clock q t d)

-- the numbers of a field are those of a profile
pub shown_lasts : (q : Setup) (t : ℕ) (w : FieldState) (due : List Due) (p : ℕ) (d : Device) → IsField w → FieldShows q t w due p d → Lasts q.profile
shown_lasts q t w due p d field shows = profile_lasts q.profile (subst IsProfile (sym numbers) field.medium.profile)
  where
    numbers : q.profile ≡ w.medium.numbers
    numbers = ap (λ (x : Setup). x.profile) (sym shows.shows.setup)
        ∙ All-contains (λ (x : DeviceState). x.setup.profile ≡ w.medium.numbers) w.devices shows.state field.numbers
        (p, within, get_or_from_slice_get w.devices p shows.state shows.state shows.there)
      where
        within : p < length w.devices
        within = slice_get_within w.devices p shows.state shows.there

pub begun_does : (t p : ℕ) (begun : List Sending) (old : FieldState) (old_due : List Due) → IsField old
    → ((q : Setup) (d : Device) → FieldShows q t old old_due p d → begun ≡ sendings_starting q t d) → Does t p (λ s d. begun_at s t d) begun old old_due
begun_does t p begun old old_due field is = record {
  tuned = λ q d shows by. begun_stays q t d by;
  sending = λ q d shows. subst (λ (l : List Sending). Begins q t d l (begun_at q t d)) (sym (is q d shows))
      (begun_sending q (shown_lasts q t old old_due p d field shows) t d);
}
