-- What is set at a node lies ahead, and nothing happens before the next of it.
use Rattle.std.proofs.Common.{◌≡◌, ℕ, zero, suc, ◌+◌, ◌*◌, ◌<◌, ◌≤◌, List, [], ◌∷◌, Bool, true, false, ◌==◌, ◌&&◌, filter, length, Option}
use Rattle.std.proofs.Common.{Some, None, Contains, IfSome, ◌⊎◌, inl, inr, refl, arith, eqb-true, mul-le-mul_left, cond}
use Rattle.std.proofs.lemmas.Bool.{cond_both, eqb-false, ne_eqb, and_parts}
use Rattle.lwb_base.specs.Profile.{Numbers, IsProfile, airtime}
use Rattle.lwb_base.specs.declared.event.Event.TheVariants.{Sent}
use Rattle.lwb_base.specs.declared.order.Order.{Order}
use Rattle.lwb_base.specs.declared.order.Order.TheVariants.{Listen, Off, SendAt, Alarm as AlarmAt}
use Rattle.tick_clock.specs.Clocks.{IsClock}
use Rattle.radio_model.specs.OnAir.{Tuning}
use Rattle.radio_model.specs.declared.sending.Sending.{Sending}
use Rattle.scenario_text.specs.ScenarioParts.{ScenarioParts}
use Rattle.scenario_text.specs.ScenarioFacts.{IsSoundScenario}
use Rattle.bus_rules.specs.Cores.{Setup}
use Rattle.air_log.specs.Devices.{Device, Listening, OrderedPacket, event, obeyed, silenced, tunes, listens_to}
use Rattle.scenario_text.specs.Setups.{setup_of}
use Rattle.air_log.specs.Trails.{Reception, run_end, frame_start, device_after_script, device_after_receptions, device_ended_by, device_after_end}
use Rattle.air_log.specs.Trails.{alarm_is_due, alarmed, begun_by, starts, before_tick}
use Rattle.air_log.specs.QuietTicks.{IsQuiet, ends_at, ordered_starts_at}
use Rattle.air_log.specs.Ahead.{IsAhead, NextDue}
use Rattle.lwb_base.proofs.Elements.{contains_head, contains_tail}
use Rattle.air_log.proofs.QuietTicks.{quiet_ticks}
use Rattle.air_log.proofs.KeptByEvents.{IsKept, in_hearings, in_end, in_event, in_alarms}
use Rattle.air_log.proofs.AlarmLoop.{no_alarm_left}

abbrev pub AlarmAhead : ℕ → Option ℕ → Type 0
AlarmAhead t a = IfSome a (λ tick. t ≤ tick)

abbrev pub StartAhead : ℕ → Option OrderedPacket → Type 0
StartAhead t o = IfSome o (λ x. t ≤ x.tick)

abbrev pub EndAhead : ℕ → Option Sending → Type 0
EndAhead t x = IfSome x (λ y. t ≤ y.end)

abbrev pub Ahead : ℕ → Device → Type 0
Ahead t d = AlarmAhead t d.alarm × StartAhead t d.ordered × EndAhead t d.sending

on_ahead : (t rank u : ℕ) (d : Device) (es : List Tuning) → Ahead t d → Ahead t (tunes rank u d es)
on_ahead t rank u d [] ahead = ahead
on_ahead t rank u d (e ∷ es) ahead =
    cond_both ((e.rank == rank) && (e.end == u)) (record d {
      listening = Some (record { rank = rank; since = e.start });
      made = record (d.made) { tuned = es };
    }) (record d { listening = Some (record { rank = rank; since = u }) }) (Ahead t)
    (λ is. ahead)
    (λ is. ahead)

order_ahead : (clock : ℕ → ℕ) (v t : ℕ) (d : Device) (o : Order) → Ahead t d → Ahead t (obeyed clock v t d o)
order_ahead clock v t d (Listen rank) ahead =
    let x = silenced v t d in
    cond_both (listens_to rank d.listening) d (tunes rank t x x.made.tuned) (Ahead t) (λ is. ahead) (λ is. on_ahead t rank t x x.made.tuned ahead)
order_ahead clock v t d Off ahead = ahead
order_ahead clock v t d (SendAt local packet) ahead = (ahead.0, omega arith, ahead.2)
order_ahead clock v t d (AlarmAt local) ahead = (omega arith, ahead.1, ahead.2)

pub kept_ahead : (clock : ℕ → ℕ) (s : Setup) (t : ℕ) → IsKept (Ahead t) clock s t
kept_ahead clock s t = record {
  obeying = order_ahead clock s.id t;
  moving = λ e x d n r ahead. ahead;
  powered = λ d p ahead. ahead;
  without_alarm = λ d ahead. (tt, ahead.1, ahead.2);
  off = λ d boots ahead. (tt, tt, ahead.2);
  after_sending = λ d ahead. (ahead.0, ahead.1, tt);
}

-- the transmission that runs
abbrev pub Sends : ℕ → Device → Type 0
Sends t d = EndAhead t d.sending

on_sends : (t rank u : ℕ) (d : Device) (es : List Tuning) → Sends t d → Sends t (tunes rank u d es)
on_sends t rank u d [] ahead = ahead
on_sends t rank u d (e ∷ es) ahead =
    cond_both ((e.rank == rank) && (e.end == u)) (record d {
      listening = Some (record { rank = rank; since = e.start });
      made = record (d.made) { tuned = es };
    }) (record d { listening = Some (record { rank = rank; since = u }) }) (Sends t)
    (λ is. ahead)
    (λ is. ahead)

order_sends : (clock : ℕ → ℕ) (v t u : ℕ) (d : Device) (o : Order) → Sends u d → Sends u (obeyed clock v t d o)
order_sends clock v t u d (Listen rank) ahead =
    let x = silenced v t d in
    cond_both (listens_to rank d.listening) d (tunes rank t x x.made.tuned) (Sends u) (λ is. ahead) (λ is. on_sends u rank t x x.made.tuned ahead)
order_sends clock v t u d Off ahead = ahead
order_sends clock v t u d (SendAt local packet) ahead = ahead
order_sends clock v t u d (AlarmAt local) ahead = ahead

pub kept_sends : (clock : ℕ → ℕ) (s : Setup) (t u : ℕ) → IsKept (Sends u) clock s t
kept_sends clock s t u = record {
  obeying = order_sends clock s.id t u;
  moving = λ e x d n r ahead. ahead;
  powered = λ d p ahead. ahead;
  without_alarm = λ d ahead. ahead;
  off = λ d boots ahead. ahead;
  after_sending = λ d ahead. tt;
}

-- after its phase no transmission ends at the tick any more
pub end_over : (clock : ℕ → ℕ) (s : Setup) (t : ℕ) (d : Device) (x : Option Sending) → d.sending ≡ x → EndAhead t x
    → Sends (suc t) (device_ended_by clock s t d x)
end_over clock s t d None at ahead = rw at tt
end_over clock s t d (Some x) at ahead =
    let y : Device = record d { sending = None } in
    cond_both (x.end == t) (event clock s t Sent (Some x) y) d (Sends (suc t))
    (λ is. in_event (Sends (suc t)) clock s t Sent (Some x) y (kept_sends clock s t (suc t)) tt)
    (λ is. rw at (omega (arith, ahead, eqb-false x.end t is)))

pub alarm_over : (t : ℕ) (a : Option ℕ) → alarm_is_due t a ≡ false → AlarmAhead t a → AlarmAhead (suc t) a
alarm_over t None none ahead = tt
alarm_over t (Some tick) none ahead = omega (arith, ahead, eqb-false tick t none)

-- a packet takes some time
takes_time : (p : Numbers) (n : ℕ) → 1 ≤ p.byte → 1 ≤ airtime p n
takes_time p n some = let times : (n + 8) * 1 ≤ (n + 8) * p.byte = mul-le-mul_left (n + 8) some in omega (arith, times)

pub begin_over : (s : Setup) (t : ℕ) (d : Device) (o : Option OrderedPacket) → 1 ≤ s.profile.byte → d.ordered ≡ o → AlarmAhead (suc t) d.alarm → StartAhead t o
    → Sends (suc t) d → Ahead (suc t) (begun_by s t d o)
begin_over s t d None some at alarm start runs = (alarm, rw at tt, runs)
begin_over s t d (Some o) some at alarm start runs =
    cond_both (o.tick == t) (starts s t o.packet d d.listening d.sending) d (Ahead (suc t))
    (λ is. started d.listening d.sending refl)
    (λ is. (alarm, rw at (omega (arith, start, eqb-false o.tick t is)), runs))
  where
    started : (l : Option Listening) (y : Option Sending) → d.sending ≡ y → Ahead (suc t) (starts s t o.packet d l y)
    started None y at = (alarm, tt, runs)
    started (Some l) (Some y) at = (alarm, tt, runs)
    started (Some l) None at = (alarm, tt, omega (arith, takes_time s.profile (length o.packet) some))

module _ (s : ScenarioParts) (v : ℕ) (clock : ℕ → ℕ) (hs : List Reception) (sound : IsSoundScenario s) (drifts : IsClock clock) where
  pub some_byte : 1 ≤ s.profile.byte
  some_byte = by_profile sound.profile
    where
      by_profile : IsProfile s.profile → 1 ≤ s.profile.byte
      by_profile (inl is) = rw is (omega arith)
      by_profile (inr is) = rw is.0 (omega arith)

  pub ahead_at : (t : ℕ) → t ≤ run_end s → Ahead t (before_tick s v clock hs t)
  unfolding before_tick
  ahead_at zero within = (tt, tt, tt)
  ahead_at (suc t) within =
      let x = setup_of s v in
      let d = before_tick s v clock hs t in
      let d2 = device_after_receptions clock x t hs (device_after_script s v clock t d) in
      let d3 = device_after_end clock x t d2 in
      let d4 = alarmed clock x t d3 in
      let two = in_hearings (Ahead t) s v clock hs t d (kept_ahead clock x t) (ahead_at t (omega (arith, within))) in
      let three = in_end (Ahead t) clock x t d2 (kept_ahead clock x t) two in
      let four = in_alarms (Ahead t) clock x t d3 (kept_ahead clock x t) three in
      let runs = in_alarms (Sends (suc t)) clock x t d3 (kept_sends clock x t (suc t)) (end_over clock x t d2 d2.sending refl two.2) in
      let none = no_alarm_left s v clock hs t sound drifts (omega (arith, within)) in
      begin_over x t d4 d4.ordered some_byte refl (alarm_over t d4.alarm none four.0) four.1 runs

  pub is_ahead : (t : ℕ) → t ≤ run_end s → IsAhead t (before_tick s v clock hs t)
  is_ahead t within = let a = ahead_at t within in record { alarm = a.0; ordered = a.1; sending = a.2 }

-- nothing passes a test that fails everywhere
pub none_passes : {X : Type 0} (p : X → Bool) (xs : List X) → ((x : X) → Contains xs x → p x ≡ true → ⊥) → filter p xs ≡ []
none_passes p [] none = refl
none_passes {X} p (x ∷ xs) none = by_test (p x) refl (none_passes p xs (λ y there. none y (contains_tail x xs y there)))
  where
    by_test : (b : Bool) → p x ≡ b → filter p xs ≡ [] → cond b (x ∷ filter p xs) (filter p xs) ≡ []
    by_test true is rest = absurd (none x (contains_head x xs) is)
    by_test false is rest = rest

alarm_quiet : (t b : ℕ) (a : Option ℕ) → t < b → AlarmAhead b a → alarm_is_due t a ≡ false
alarm_quiet t b None less ahead = refl
alarm_quiet t b (Some tick) less ahead = ne_eqb tick t (λ is. omega (arith, is, less, ahead))

start_quiet : (t b : ℕ) (o : Option OrderedPacket) → t < b → StartAhead b o → ordered_starts_at t o ≡ false
start_quiet t b None less ahead = refl
start_quiet t b (Some o) less ahead = ne_eqb o.tick t (λ is. omega (arith, is, less, ahead))

end_quiet : (t b : ℕ) (x : Option Sending) → t < b → EndAhead b x → ends_at t x ≡ false
end_quiet t b None less ahead = refl
end_quiet t b (Some x) less ahead = ne_eqb x.end t (λ is. omega (arith, is, less, ahead))

not_between : (a b t x : ℕ) → (x < a) ⊎ (b ≤ x) → a ≤ t → t < b → x ≡ t → ⊥
not_between a b t x (inl less) from below is = omega (arith, less, from, is)
not_between a b t x (inr more) from below is = omega (arith, more, below, is)

quiet_before : (s : ScenarioParts) (v : ℕ) (hs : List Reception) (a b t : ℕ) (d : Device) → NextDue s v hs a b d → a ≤ t → t < b → IsQuiet s v hs t d
quiet_before s v hs a b t d next from below = record {
  lines = none_passes _ s.script (λ l there is.
      let both = and_parts _ _ is in
      not_between a b t (frame_start s l.frame) (next.lines l there (eqb-true l.node v both.0)) from below (eqb-true (frame_start s l.frame) t both.1));
  hearings = none_passes _ hs (λ h there is. not_between a b t h.end (next.hearings h there) from below (eqb-true h.end t is));
  sending = end_quiet t b d.sending below next.set.sending;
  alarm = alarm_quiet t b d.alarm below next.set.alarm;
  start = start_quiet t b d.ordered below next.set.ordered;
}

pub until_next : (s : ScenarioParts) (v : ℕ) (clock : ℕ → ℕ) (hs : List Reception) (a b : ℕ) → a ≤ b → NextDue s v hs a b (before_tick s v clock hs a)
    → before_tick s v clock hs b ≡ before_tick s v clock hs a
until_next s v clock hs a b order next =
    quiet_ticks s v clock hs a b order (λ t from below. quiet_before s v hs a b t (before_tick s v clock hs a) next from below)
