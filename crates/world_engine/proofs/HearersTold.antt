-- Devices are notified one after another that they received a transmission.
use Rattle.std.proofs.Common.{◌≡◌, ◌≢◌, ℕ, List, [], ◌∷◌, ◌++◌, map, reverse, get_or, Some, None, refl, sym, ◌∙◌, ap, subst, Contains, inl, inr}
use Rattle.std.specs.Prelude.{slice_get}
use Rattle.std.proofs.lemmas.List.{append-nil, append_assoc, map-append, get_or-map}
use Rattle.std.proofs.lemmas.List.Elements.{Contains-push, Contains-push_cases, Contains-append_left}
use Rattle.std.proofs.lemmas.Option.{slice_get_within, get_or_from_slice_get}
use Rattle.lwb_base.specs.declared.event.Event.TheVariants.{Heard}
use Rattle.radio_model.specs.declared.sending.Sending.{Sending}
use Rattle.radio_model.specs.OnAir.{Hearing}
use Rattle.radio_model.specs.Stations.{IsTime}
use Rattle.event_calendar.specs.Orders.{Due}
use Rattle.bus_rules.specs.Cores.{Setup}
use Rattle.air_log.specs.Entries.{hearings_of, sendings_of, heard_entry}
use Rattle.air_log.specs.Devices.{Device, event}
use Rattle.lwb_base.proofs.Elements.{not_in_none, contains_head, contains_cases, map_contains, contains_at, among_or_not}
use Rattle.air_log.proofs.LoggedEntries.{sendings_heard, hearings_heard}
use Rattle.air_log.specs.DeviceStates.{DeviceState, running}
use Rattle.world_engine.specs.Fields.{FieldState, FieldShows, FieldIsShown, id_of, ids_of}
use Rattle.world_engine.specs.FieldSteps.{Acts, hearing_at, told_of_hearing}
use Rattle.world_engine.specs.FieldHearings.{AllHear}
use Rattle.world_engine.proofs.GoesOn.{goes_on_nothing, goes_on_then, same_ids, same_nothing, same_then}
use Rattle.world_engine.proofs.LoggedSendings.{sent_beside_heard, tuned_beside_heard, entry_more}

-- the id at a place
pub id_there : (w : FieldState) (p : ℕ) (st : DeviceState) → slice_get w.devices p ≡ Some st → get_or (ids_of w) p 0 ≡ st.setup.id
id_there w p st at = get_or-map id_of w.devices p st 0 (slice_get_within w.devices p st at) ∙ ap id_of (get_or_from_slice_get w.devices p st st at)

-- a Heard entry more is seen at no device
abbrev pub logged : ℕ → Sending → FieldState → FieldState
logged u x w = record w { air = w.air ++ heard_entry u x ∷ [] }

pub shown_when_logged : (t q u : ℕ) (x : Sending) (w : FieldState) (due : List Due) (s : Setup) (d : Device) → FieldShows s t w due q d
    → FieldShows s t (logged u x w) due q d
shown_when_logged t q u x w due s d shows =
    let known = shows.known in
    record {
      state = shows.state;
      there = shows.there;
      station = shows.station;
      made = shows.made;
      shows = shows.shows;
      ended = shows.ended;
      logged = record {
        sent = shows.logged.sent ∙ sym (sent_beside_heard w.air u x s.id);
        tuned = shows.logged.tuned ∙ ap reverse (sym (tuned_beside_heard w.air u x s.id));
        deliveries = shows.logged.deliveries;
      };
      known = record {
        there = known.there;
        sending = known.sending ∙ ap (running shows.state.busy_until) (sym (sent_beside_heard w.air u x shows.state.setup.id));
        set = known.set;
      };
    }

pub is_shown_when_logged : (t q u : ℕ) (x : Sending) (w : FieldState) (due : List Due) → FieldIsShown t w due q → FieldIsShown t (logged u x w) due q
is_shown_when_logged t q u x w due shown = record {
  setup = shown.setup;
  device = shown.device;
  shows = shown_when_logged t q u x w due shown.setup shown.device shown.shows;
}

-- the device at a place receives x
pub heard_there : (clock : ℕ → ℕ) (p u : ℕ) (x : Sending) (w : FieldState) (due : List Due) (st : DeviceState) (new : FieldState) (new_due : List Due)
    → slice_get w.devices p ≡ Some st → u ≡ st.setup.id → Acts x.end p (λ s d. event clock s x.end (Heard x.packet) None d) [] [] (logged u x w) due new new_due
    → AllHear (λ q. clock) x.end x (p ∷ []) w due new new_due
heard_there clock p u x w due st new new_due at id acts = record {
  hearer = λ q there s d shows.
      subst (λ (k : ℕ). FieldShows s x.end new new_due k (told_of_hearing clock x.end x s d)) (only q there)
      (acts.own s d (shown_when_logged x.end p u x w due s d (subst (λ (k : ℕ). FieldShows s x.end w due k d) (sym (only q there)) shows)));
  others = λ q not s d shows. acts.others q (λ is. not (subst (λ (k : ℕ). Contains (p ∷ []) k) (sym is) (contains_head p []))) s d
      (shown_when_logged x.end q u x w due s d shows);
  hearings = acts.hearings ∙ hearings_heard w.air u x ∙ ap (λ (v : ℕ). hearings_of w.air ++ heard v ∷ []) (id ∙ sym (id_there w p st at));
  sendings = acts.sendings ∙ append-nil (sendings_of (logged u x w).air) ∙ sendings_heard w.air u x;
  drops = acts.drops ∙ append-nil w.drops;
  air = acts.air;
  same = same_then w (logged u x w) new due due new_due (record {
    setups = refl;
    places = refl;
    entries = entry_more w.air (ids_of w) (heard_entry u x)
        (subst (λ (v : ℕ). Contains (ids_of w) v) (sym id) (map_contains id_of w.devices st (contains_at w.devices p st at)));
    deliverers = λ d there. inl there;
  }) acts.same;
}
  where
    only : (q : ℕ) → Contains (p ∷ []) q → p ≡ q
    only q there = elim (contains_cases p [] q there) [ inl is ↦ is | inr none ↦ absurd (not_in_none q none) ]

    heard : ℕ → Hearing
    heard v = record { node = v; sending = x }

-- nobody receives it
pub none_hear : (clocks : ℕ → ℕ → ℕ) (t : ℕ) (x : Sending) (w : FieldState) (due : List Due) → IsTime w.medium t → AllHear clocks t x [] w due w due
none_hear clocks t x w due time = record {
  hearer = λ q there s d shows. absurd (not_in_none q there);
  others = λ q not s d shows. shows;
  hearings = sym (append-nil (hearings_of w.air));
  sendings = refl;
  drops = refl;
  air = goes_on_nothing t w.medium time;
  same = same_nothing w due;
}

-- one more receives it
module _ (clocks : ℕ → ℕ → ℕ) (clock : ℕ → ℕ) (t : ℕ) (x : Sending) (ps : List ℕ) (p : ℕ) (u v w : FieldState) (a b c : List Due)
    (first : AllHear clocks t x ps u a v b) (then : AllHear (λ q. clock) t x (p ∷ []) v b w c) (new : Contains ps p → ⊥) (reads : clock ≡ clocks p) where
  other : (q : ℕ) → q ≢ p → Contains (p ∷ []) q → ⊥
  other q not there = elim (contains_cases p [] q there) [ inl is ↦ not (sym is) | inr none ↦ not_in_none q none ]

  hears : (q : ℕ) → Contains (ps ++ p ∷ []) q → (s : Setup) (d : Device) → FieldShows s t u a q d → FieldShows s t w c q (told_of_hearing (clocks q) t x s d)
  hears q there s d shows =
      elim (Contains-push_cases ps p q there) [
        | inl before ↦ then.others q (other q (λ is. new (subst (λ (k : ℕ). Contains ps k) is before))) s (told_of_hearing (clocks q) t x s d)
            (first.hearer q before s d shows)
        | inr is ↦
            let at : FieldShows s t u a p d = subst (λ (k : ℕ). FieldShows s t u a k d) (sym is) shows in
            let now : FieldShows s t w c p (told_of_hearing (clocks p) t x s d) =
            subst (λ (r : ℕ → ℕ). FieldShows s t w c p (told_of_hearing r t x s d)) reads
            (then.hearer p (contains_head p []) s d (first.others p new s d at)) in
            subst (λ (k : ℕ). FieldShows s t w c k (told_of_hearing (clocks k) t x s d)) is now
      ]

  stays : (q : ℕ) → (Contains (ps ++ p ∷ []) q → ⊥) → (s : Setup) (d : Device) → FieldShows s t u a q d → FieldShows s t w c q d
  stays q not s d shows =
      then.others q (other q (λ is. not (subst (λ (k : ℕ). Contains (ps ++ p ∷ []) k) (sym is) (Contains-push ps p)))) s d
      (first.others q (λ there. not (Contains-append_left ps (p ∷ []) q there)) s d shows)

  pub one_more_hears : AllHear clocks t x (ps ++ p ∷ []) u a w c
  one_more_hears = record {
    hearer = hears;
    others = stays;
    hearings =
        then.hearings ∙ ap (λ (l : List Hearing). l ++ hearing_at v x p ∷ []) first.hearings
        ∙ append_assoc (hearings_of u.air) (map (hearing_at u x) ps) (hearing_at v x p ∷ [])
        ∙ ap (λ (l : List ℕ). hearings_of u.air ++ (map (hearing_at u x) ps ++ heard_in l ∷ [])) (same_ids u v a b first.same)
        ∙ ap (λ (l : List Hearing). hearings_of u.air ++ l) (sym (map-append (hearing_at u x) ps (p ∷ [])));
    sendings = then.sendings ∙ first.sendings;
    drops = then.drops ∙ first.drops;
    air = goes_on_then t u.medium v.medium w.medium [] [] first.air then.air;
    same = same_then u v w a b c first.same then.same;
  }
    where
      heard_in : List ℕ → Hearing
      heard_in l = record { node = get_or l p 0; sending = x }

-- each device is shown still
pub still_shown_to : (clocks : ℕ → ℕ → ℕ) (t : ℕ) (x : Sending) (ps : List ℕ) (q : ℕ) (u v : FieldState) (a b : List Due)
    → AllHear clocks t x ps u a v b → FieldIsShown t u a q → FieldIsShown t v b q
still_shown_to clocks t x ps q u v a b all shown =
    elim (among_or_not ps q) [
      | inl there ↦ record {
        setup = shown.setup;
        device = told_of_hearing (clocks q) t x shown.setup shown.device;
        shows = all.hearer q there shown.setup shown.device shown.shows;
      }
      | inr not ↦ record { setup = shown.setup; device = shown.device; shows = all.others q not shown.setup shown.device shown.shows }
    ]
