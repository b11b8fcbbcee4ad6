-- The end of a transmission leaves all devices on their trails.
use Rattle.std.proofs.Common.{◌≡◌, ◌≢◌, ℕ, List, [], ◌∷◌, ◌++◌, Some, Contains, ◌⊎◌, inl, inr, sym, ◌∙◌, ap, subst}
use Rattle.std.specs.Prelude.{slice_get}
use Rattle.std.proofs.lemmas.Bool.{cases_eq}
use Rattle.link_trace.specs.Passes.{Lines}
use Rattle.event_calendar.specs.declared.class.Class.TheVariants.{SendingEnd}
use Rattle.event_calendar.specs.Orders.{Due}
use Rattle.radio_model.specs.declared.sending.Sending.{Sending}
use Rattle.scenario_text.specs.ScenarioParts.{ScenarioParts}
use Rattle.scenario_text.specs.declared.lines.NodeLine.{NodeLine}
use Rattle.air_log.specs.declared.entry.Entry.{Entry}
use Rattle.air_log.specs.Devices.{Device}
use Rattle.scenario_text.specs.Setups.{setup_of}
use Rattle.air_log.specs.Trails.{Reception}
use Rattle.air_log.specs.Lawful.{heard_by, sent_by}
use Rattle.lwb_base.proofs.Elements.{among_or_not}
use Rattle.world_engine.specs.Fields.{FieldState, FieldShows}
use Rattle.world_engine.specs.FieldSteps.{EndsSending, DeviceSends, told_of_end, told_of_hearing}
use Rattle.world_engine.specs.Moments.{At, IsAtMoment}
use Rattle.world_engine.specs.Running.{IsOnTrail}
use Rattle.world_engine.proofs.SendingsRun.{end_told, hearing_told}
use Rattle.world_engine.proofs.TrailsGoOn.{OnTrails, IsClockAt}

abbrev pub reception : Sending → Reception
reception x = record { packet = x.packet; end = x.end }

-- at the end of x each node at these places receives it and no other does. None of them has a transmission that ends with it
pub record IsHeardAt (s : ScenarioParts) (x : Sending) (hearers : List ℕ) (old new : List Entry) : Type 0 where
  pub heard : (q : ℕ) (n : NodeLine) → slice_get s.nodes q ≡ Some n → Contains hearers q → heard_by new n.node ≡ heard_by old n.node ++ reception x ∷ []
  pub unheard : (q : ℕ) (n : NodeLine) → slice_get s.nodes q ≡ Some n → (Contains hearers q → ⊥) → heard_by new n.node ≡ heard_by old n.node
  pub free : (q : ℕ) (n : NodeLine) → slice_get s.nodes q ≡ Some n → Contains hearers q → (y : Sending) → Contains (sent_by old n.node) y → y.end ≡ x.end → ⊥

module _ (s : ScenarioParts) (clocks : ℕ → ℕ → ℕ) (lines : Lines) (at_places : ℕ → ℕ → ℕ) (own_clocks : (q : ℕ) → IsClockAt s clocks q (at_places q))
    (t p : ℕ) (x : Sending) (now : x.end ≡ t) (hearers : List ℕ)
    (old : FieldState) (old_due : List Due) (new : FieldState) (new_due : List Due) (ends : EndsSending lines at_places t p x hearers old old_due new new_due)
    (sends : DeviceSends t old old_due p x) (not_own : Contains hearers p → ⊥) (air : IsHeardAt s x hearers old.air new.air) where
  abbrev Old : ℕ → ℕ → Type 0
  Old q v = IsOnTrail s clocks t (At SendingEnd) old old_due q v

  abbrev New : ℕ → ℕ → Type 0
  New q v = IsOnTrail s clocks t (At SendingEnd) new new_due q v

  abbrev AtEnd : ℕ → List Reception → Device → Type 0
  AtEnd v hs d = IsAtMoment s (clocks v) hs v t (At SendingEnd) d

  sender_trail : (n : NodeLine) → slice_get s.nodes p ≡ Some n → Old p n.node → New p n.node
  sender_trail n here trail =
      let d = trail.device in
      let told : AtEnd n.node (heard_by old.air n.node) (told_of_end (clocks n.node) t x (setup_of s n.node) d) =
      end_told s n.node (clocks n.node) (heard_by old.air n.node) t d x (sends (setup_of s n.node) d trail.shows) now trail.at in
      let by_clock : AtEnd n.node (heard_by old.air n.node) (told_of_end (at_places p) t x (setup_of s n.node) d) =
      subst (λ (c : ℕ → ℕ). AtEnd n.node (heard_by old.air n.node) (told_of_end c t x (setup_of s n.node) d)) (sym (own_clocks p n here)) told in
      record {
        device = told_of_end (at_places p) t x (setup_of s n.node) d;
        shows = ends.sender not_own (setup_of s n.node) d trail.shows;
        at = subst (λ (hs : List Reception). AtEnd n.node hs (told_of_end (at_places p) t x (setup_of s n.node) d))
            (sym (air.unheard p n here not_own)) by_clock;
      }

  own_sent : (q : ℕ) (n : NodeLine) (d : Device) → slice_get s.nodes q ≡ Some n → Contains hearers q → FieldShows (setup_of s n.node) t old old_due q d
      → (y : Sending) → Contains d.made.sent y → y.end ≡ t → ⊥
  own_sent q n d there hears shows y sent is =
      let same : d.made.sent ≡ sent_by old.air n.node = ap (λ (e : Device). e.made.sent) (sym shows.shows.is) ∙ shows.logged.sent in
      air.free q n there hears y (subst (λ (ys : List Sending). Contains ys y) same sent) (is ∙ sym now)

  hearer_trail : (q : ℕ) (n : NodeLine) → slice_get s.nodes q ≡ Some n → Contains hearers q → q ≢ p → Old q n.node → New q n.node
  hearer_trail q n there hears other trail =
      let d = trail.device in
      let told : AtEnd n.node (heard_by old.air n.node ++ reception x ∷ []) (told_of_hearing (clocks n.node) t x (setup_of s n.node) d) =
      hearing_told s n.node (clocks n.node) (heard_by old.air n.node) t d (reception x) now (own_sent q n d there hears trail.shows) trail.at in
      let by_clock : AtEnd n.node (heard_by old.air n.node ++ reception x ∷ []) (told_of_hearing (at_places q) t x (setup_of s n.node) d) =
      subst (λ (c : ℕ → ℕ). AtEnd n.node (heard_by old.air n.node ++ reception x ∷ []) (told_of_hearing c t x (setup_of s n.node) d))
      (sym (own_clocks q n there)) told in
      record {
        device = told_of_hearing (at_places q) t x (setup_of s n.node) d;
        shows = ends.hearer q hears other (setup_of s n.node) d trail.shows;
        at = subst (λ (hs : List Reception). AtEnd n.node hs (told_of_hearing (at_places q) t x (setup_of s n.node) d))
            (sym (air.heard q n there hears)) by_clock;
      }

  other_trail : (q : ℕ) (n : NodeLine) → slice_get s.nodes q ≡ Some n → (Contains hearers q → ⊥) → q ≢ p → Old q n.node → New q n.node
  other_trail q n there deaf other trail = record {
    device = trail.device;
    shows = ends.others q deaf other (setup_of s n.node) trail.device trail.shows;
    at = subst (λ (hs : List Reception). AtEnd n.node hs trail.device) (sym (air.unheard q n there deaf)) trail.at;
  }

  pub end_trails : OnTrails s clocks t (At SendingEnd) old old_due → OnTrails s clocks t (At SendingEnd) new new_due
  end_trails trails q n there = by (cases_eq q p) (among_or_not hearers q)
    where
      by : (q ≡ p) ⊎ (q ≢ p) → Contains hearers q ⊎ (Contains hearers q → ⊥) → New q n.node
      by (inl is) hears =
          let here : slice_get s.nodes p ≡ Some n = subst (λ (r : ℕ). slice_get s.nodes r ≡ Some n) is there in
          subst (λ (r : ℕ). New r n.node) (sym is) (sender_trail n here (trails p n here))
      by (inr other) (inl hears) = hearer_trail q n there hears other (trails q n there)
      by (inr other) (inr deaf) = other_trail q n there deaf other (trails q n there)
