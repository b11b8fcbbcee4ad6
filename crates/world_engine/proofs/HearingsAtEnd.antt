-- At the end of a run its log follows the rule of reception.
use Rattle.std.proofs.Common.{◌≡◌, ◌≢◌, ℕ, ◌<◌, ◌↔◌, inl, inr, List, ◌==◌, reverse, None, refl, sym, ◌∙◌, subst, arith, Contains, AllPairs, eq-eqb}
use Rattle.std.proofs.Common.{eqb-true}
use Rattle.std.proofs.lemmas.Option.{same_Some}
use Rattle.radio_model.specs.declared.sending.Sending.{Sending}
use Rattle.radio_model.specs.OnAir.{Hearing, Tuning}
use Rattle.radio_model.specs.Hearing.{Scene, IsTuned, TunedThrough, Rival, HearsInScene}
use Rattle.radio_model.specs.Holding.{Agree, as_it_stands}
use Rattle.lwb_base.proofs.Elements.{filter_from, in_filtered, in_reverse, from_reverse, filtered}
use Rattle.radio_model.proofs.OneCall.{lit_moves}
use Rattle.radio_model.proofs.Settled.{settled}
use Rattle.scenario_text.specs.ScenarioParts.{ScenarioParts}
use Rattle.event_calendar.specs.Orders.{Due}
use Rattle.bus_rules.specs.Cores.{Setup}
use Rattle.air_log.specs.Entries.{sendings_of, tunings_of, tuning_in, node_of_entry}
use Rattle.air_log.specs.Devices.{Device, silenced}
use Rattle.air_log.specs.HearsAir.{HearsAir, scene_of}
use Rattle.air_log.specs.Lawful.{FollowsHearing, tuned_by}
use Rattle.air_log.specs.Trails.{run_end}
use Rattle.world_engine.specs.Fields.{FieldState, FieldShows, ids_of}
use Rattle.world_engine.specs.FieldSteps.{IsClosed}
use Rattle.world_engine.specs.Running.{Runs, HoldsScene, HasHearings, IsOnAir}
use Rattle.air_log.proofs.TunedBefore.{TunedAt, silenced_stays}
use Rattle.air_log.proofs.LoggedEntries.{tuning_node}
use Rattle.world_engine.proofs.ScenesGoOn.{sending_at}
use Rattle.world_engine.proofs.ShownTunings.{AreTuned, shown_id, place_in}

-- of the tunings of a scene those of the hearer alone matter
module _ (a : Scene) (ts : List Tuning) (v : ℕ) (x : Sending) where
  abbrev with_tunings : Scene
  with_tunings = record a { tunings = ts }

  rival_on : (y : Sending) → Rival a v x y → Rival with_tunings v x y
  rival_on y r = record { sent = r.sent; channel = r.channel; meets = r.meets; arrives = r.arrives }

  rival_back : (y : Sending) → Rival with_tunings v x y → Rival a v x y
  rival_back y r = record { sent = r.sent; channel = r.channel; meets = r.meets; arrives = r.arrives }

  pub hears_with : TunedThrough with_tunings v x → HearsInScene a v x → HearsInScene with_tunings v x
  hears_with tuned hears = record {
    sent = hears.sent;
    tuned = tuned;
    silent = hears.silent;
    arrives = hears.arrives;
    first = λ y rival. hears.first y (rival_back y rival);
    close = λ y rival. hears.close y (rival_back y rival);
    chosen = elim hears.chosen [
      | inl alone ↦ inl (λ y rival. alone y (rival_back y rival))
      | inr c ↦ inr (record { winner = c.winner; rival = rival_on c.winner c.rival; same = c.same; named = c.named })
    ];
  }

module _ (s : ScenarioParts) (w : FieldState) (due : List Due) (end : FieldState) (closed : IsClosed (run_end s) w due end) (all : AreTuned (run_end s) w due)
    (a : Scene) (h : HoldsScene s (run_end s) w due a) (has : HasHearings (run_end s) (run_end s) w a) where
  abbrev stands : Scene
  stands = as_it_stands w.medium (run_end s) a

  abbrev logged : Scene
  logged = scene_of s.profile s.trace end.air

  -- a node of the field was tuned as the log says
  module _ (q : Setup) (p : ℕ) (d : Device) (shows : FieldShows q (run_end s) w due p d) (r k : ℕ) (early : k < run_end s) where
    abbrev off : List Tuning
    off = (silenced q.id (run_end s) d).made.tuned

    of_log : off ≡ reverse (tuned_by end.air q.id)
    of_log = (closed.own p q d shows).tuned

    in_log : TunedAt off None r k → IsTuned logged q.id r k
    in_log is =
        elim is [
          | inl e ↦
              let found = filtered (λ (t : Tuning). t.node == q.id) (tunings_of end.air) e.0
              (from_reverse (tuned_by end.air q.id) e.0 (subst (λ (l : List Tuning). Contains l e.0) of_log e.1)) in
              record { tuning = e.0; there = found.0; node = eqb-true e.0.node q.id found.1; rank = e.2.rank; since = e.2.since; until = e.2.until }
          | inr none ↦ absurd none
        ]

    from_log : IsTuned logged q.id r k → TunedAt off None r k
    from_log is =
        let there = in_filtered (λ (t : Tuning). t.node == q.id) (tunings_of end.air) is.tuning is.there (eq-eqb is.tuning.node q.id is.node) in
        inl (
          is.tuning,
          subst (λ (l : List Tuning). Contains l is.tuning) (sym of_log) (in_reverse (tuned_by end.air q.id) is.tuning there),
          record { rank = is.rank; since = is.since; until = is.until },
        )

  tuned_alike : (v : ℕ) → Contains (ids_of w) v → (r k : ℕ) → k < run_end s → IsTuned stands v r k ↔ IsTuned logged v r k
  tuned_alike v there r k early =
      let place = place_in w v there in
      let at = all place.place place.within in
      let same : at.setup.id ≡ v = same_Some at.setup.id v (sym (shown_id at.setup (run_end s) w due place.place at.device at.shows) ∙ place.id) in
      let told = h.tuned at.setup place.place at.device at.shows r k early in
      let off = (silenced_stays at.setup.id (run_end s) at.device at.by).same r k early in
      let on = in_log at.setup place.place at.device at.shows r k early in
      let back = from_log at.setup place.place at.device at.shows r k early in (
        λ is. subst (λ (u : ℕ). IsTuned logged u r k) same (on (off.1 (told.0 (subst (λ (u : ℕ). IsTuned stands u r k) (sym same) is)))),
        λ is. subst (λ (u : ℕ). IsTuned stands u r k) same (told.1 (off.0 (back (subst (λ (u : ℕ). IsTuned logged u r k) (sym same) is)))),
      )

  -- the log with the tunings of the scene
  abbrev between : Scene
  between = record logged { tunings = stands.tunings }

  agree : (t : ℕ) → Agree t stands between
  agree t = record {
    numbers = h.held.numbers ∙ h.numbers;
    lines = h.lines;
    sendings = λ y early. (
      λ there. subst (λ (l : List Sending). Contains l y) (sym closed.sendings) ((h.sendings y).0 there),
      λ there. (h.sendings y).1 (subst (λ (l : List Sending). Contains l y) closed.sendings there),
    );
    tuned = λ v c k early. (lit_moves stands between v c k refl, lit_moves between stands v c k refl);
  }

  -- who receives a transmission that ended by the end of the run
  module _ (v : ℕ) (there : Contains (ids_of w) v) (x : Sending) (sent : Contains (sendings_of w.air) x) (over : x.end < run_end s) where
    lasts : x.start < x.end
    lasts = (h.begun x sent).0

    hears_on : HearsInScene stands v x → HearsAir s.profile s.trace end.air v x
    hears_on hears =
        let on = (settled stands between v x lasts (agree x.end)).0 hears in
        hears_with between (tunings_of end.air) v x
        (λ k from until. (tuned_alike v there x.rank k (omega (arith, until, over))).0 (hears.tuned k from until)) on

    hears_back : HearsAir s.profile s.trace end.air v x → HearsInScene stands v x
    hears_back hears =
        let tuned : TunedThrough between v x = λ k from until. lit_moves stands between v x.rank k refl
        ((tuned_alike v there x.rank k (omega (arith, until, over))).1 (hears.tuned k from until)) in
        (settled stands between v x lasts (agree x.end)).1 (hears_with logged stands.tunings v x tuned hears)

  -- a node that is tuned by the log is one of the field
  tuned_known : (v r k : ℕ) → IsTuned logged v r k → Contains (ids_of w) v
  tuned_known v r k is =
      let e = filter_from tuning_in end.air is.tuning is.there in
      let known : Contains (ids_of w) (node_of_entry e.0) = elim (closed.entries e.0 e.1) [ inl was ↦ h.known e.0 was | inr own ↦ own ] in
      subst (Contains (ids_of w)) (tuning_node e.0 is.tuning e.2 ∙ is.node) known

  -- what runs ends with the run or later
  over_stopped : (x : Sending) → x.end < run_end s → Runs w.medium x → ⊥
  over_stopped x over ran =
      let at = sending_at w.medium x.node x ran in
      omega (arith, over, h.time.running at.station x at.there at.sends)

  pub hearing_at_end : FollowsHearing s end.air
  hearing_at_end = record {
    heard = λ v x. (
      λ there.
          let was = (has.heard v x).0 (subst (λ (l : List Hearing). Contains l (record { node = v; sending = x })) closed.hearings there) in
          let over = has.ended x was.0 was.1 in
          (over, hears_on v was.2 x was.0 over was.3),
      λ both.
          let hears = both.1 in
          let sent = subst (λ (l : List Sending). Contains l x) closed.sendings hears.sent in
          let known = tuned_known v x.rank x.start (hears.tuned x.start (omega arith) (h.begun x sent).0) in
          subst (λ (l : List Hearing). Contains l (record { node = v; sending = x })) (sym closed.hearings)
          ((has.heard v x).1 (sent, over_stopped x both.0, known, hears_back v known x sent both.0 hears)),
    );
    once = subst (λ (l : List Hearing). AllPairs (λ g k. g ≢ k) l) (sym closed.hearings) has.once;
  }

pub run_follows_hearing : (s : ScenarioParts) (w : FieldState) (due : List Due) (end : FieldState) → IsOnAir s (run_end s) (run_end s) w due
    → IsClosed (run_end s) w due end → AreTuned (run_end s) w due → FollowsHearing s end.air
run_follows_hearing s w due end is closed all = hearing_at_end s w due end closed all is.scene is.holds is.has
