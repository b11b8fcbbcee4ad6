-- What a device sends: events, script lines and alarms leave it as it is.
use Rattle.std.proofs.Common.{◌≡◌, ℕ, zero, suc, ◌+◌, ◌<◌, inl, inr, List, [], ◌∷◌, Bool, true, false, ◌==◌, ◌&&◌}
use Rattle.std.proofs.Common.{fold, length, Some, None, Option, refl, sym, ◌∙◌, ap, subst, arith}
use Rattle.std.proofs.lemmas.Bool.{cond_both, cond-false, eqb-true, eqb-false}
use Rattle.lwb_base.specs.Profile.{Numbers, IsProfile, airtime}
use Rattle.lwb_base.specs.declared.event.Event.{Event}
use Rattle.lwb_base.specs.declared.event.Event.TheVariants.{Boot, Alarm as AlarmOf}
use Rattle.lwb_base.specs.declared.order.Order.{Order}
use Rattle.lwb_base.specs.declared.order.Order.TheVariants.{Listen, Off, SendAt, Alarm}
use Rattle.radio_model.specs.declared.sending.Sending.{Sending}
use Rattle.radio_model.specs.OnAir.{Tuning}
use Rattle.scenario_text.specs.declared.script.ScriptLine.{ScriptLine}
use Rattle.bus_rules.specs.Cores.{Setup}
use Rattle.node_core.specs.Nodes.{rebooted}
use Rattle.node_core.specs.Rows.{orders_by}
use Rattle.node_core.specs.Rows.{row}
use Rattle.air_log.specs.Devices.{Device, Power, PowerOff, PowerOn, Listening, OrderedPacket, obeyed, silenced, tunes, listens_to, moved, event, event_by}
use Rattle.air_log.specs.ScriptedDevices.{device_after_line}
use Rattle.air_log.specs.Trails.{device_after_start, begun_by, starts, sending_from, alarm_is_due, alarms, alarm_limit, alarmed, sendings_starting, starting_by}
use Rattle.air_log.proofs.DeviceActs.{each_act}

tuned_sending : (rank t : ℕ) (d : Device) (es : List Tuning) → (tunes rank t d es).sending ≡ d.sending
tuned_sending rank t d [] = refl
tuned_sending rank t d (e ∷ es) = cond_both ((e.rank == rank) && (e.end == t)) _ _ (λ (x : Device). x.sending ≡ d.sending) (λ is. refl) (λ is. refl)

pub obeyed_sending : (clock : ℕ → ℕ) (v t : ℕ) (d : Device) (o : Order) → (obeyed clock v t d o).sending ≡ d.sending
obeyed_sending clock v t d (Listen rank) =
    let x = silenced v t d in
    cond_both (listens_to rank d.listening) d (tunes rank t x x.made.tuned) (λ (y : Device). y.sending ≡ d.sending) (λ is. refl)
    (λ is. tuned_sending rank t x x.made.tuned)
obeyed_sending clock v t d Off = refl
obeyed_sending clock v t d (SendAt local packet) = refl
obeyed_sending clock v t d (Alarm local) = refl

module _ (clock : ℕ → ℕ) (s : Setup) (t : ℕ) where
  all_obeyed : (os : List Order) (d : Device) → (fold (obeyed clock s.id t) d os).sending ≡ d.sending
  all_obeyed [] d = refl
  all_obeyed (o ∷ os) d = all_obeyed os (obeyed clock s.id t d o) ∙ obeyed_sending clock s.id t d o

  by_power : (e : Event) (x : Option Sending) (d : Device) (p : Power) → (event_by clock s t e x d p).sending ≡ d.sending
  by_power e x d (PowerOff boots) = refl
  by_power e x d (PowerOn n) = let r = row s n (clock t) e in all_obeyed (orders_by r) (moved t e x d n r)

  pub event_sending : (e : Event) (x : Option Sending) (d : Device) → (event clock s t e x d).sending ≡ d.sending
  event_sending e x d = by_power e x d d.power

  pub line_sending : (d : Device) (line : ScriptLine) → (device_after_line clock s t d line).sending ≡ d.sending
  line_sending d line = each_act clock s t d (λ (e : Device). e.sending ≡ d.sending) line.act d.power refl
      (λ boots at. event_sending Boot None (record d { power = PowerOn (rebooted (boots + 1)) })) (λ n at. refl) (λ n at. refl)

  alarms_sending : (b : Bool) (more : ℕ) (d : Device) → (alarms clock s t b more d).sending ≡ d.sending
  unfolding alarms
  alarms_sending false more d = refl
  alarms_sending true zero d = refl
  alarms_sending true (suc more) d =
      let after = event clock s t AlarmOf None (record d { alarm = None }) in
      alarms_sending (alarm_is_due t after.alarm) more after ∙ event_sending AlarmOf None (record d { alarm = None })

  pub alarmed_sending : (d : Device) → (alarmed clock s t d).sending ≡ d.sending
  alarmed_sending d = alarms_sending (alarm_is_due t d.alarm) (alarm_limit clock t) d

-- nothing starts, or this transmission does where none ran
abbrev pub Begins : Setup → ℕ → Device → List Sending → Device → Type 0
Begins s t d [] e = e.sending ≡ d.sending
Begins s t d (x ∷ xs) e = (d.sending ≡ None) × (e.sending ≡ Some x) × (xs ≡ []) × (x.start ≡ t) × (x.node ≡ s.id) × (t < x.end)

abbrev pub Lasts : Numbers → Type 0
Lasts p = (n : ℕ) → 0 < airtime p n

pub profile_lasts : (p : Numbers) → IsProfile p → Lasts p
profile_lasts p (inl is) n = omega (arith, ap (λ (q : Numbers). airtime q n) is)
profile_lasts p (inr is) n = omega (arith, ap (λ (q : Numbers). airtime q n) is.0)

starts_begins : (s : Setup) → Lasts s.profile → (t : ℕ) (o : OrderedPacket) (d : Device) (l : Option Listening) (x : Option Sending) → d.sending ≡ x
    → o.tick ≡ t → Begins s t d (starting_by s t (Some o) l x) (starts s t o.packet d l x)
starts_begins s lasts t o d None None is at = refl
starts_begins s lasts t o d None (Some x) is at = refl
starts_begins s lasts t o d (Some l) (Some x) is at = refl
starts_begins s lasts t o d (Some l) None is at =
    let y = sending_from s t o.packet l in
    cond_both (o.tick == t) (y ∷ []) [] (λ (xs : List Sending). Begins s t d xs (starts s t o.packet d (Some l) None))
    (λ same. (is, refl, refl, refl, refl, omega (arith, lasts (length o.packet))))
    (λ other. absurd (apart other))
  where
    apart : (o.tick == t) ≡ false → ⊥
    apart other = omega (arith, at, eqb-false o.tick t other)

idle : (s : Setup) (t : ℕ) (o : OrderedPacket) (l : Option Listening) (x : Option Sending) → (o.tick == t) ≡ false → starting_by s t (Some o) l x ≡ []
idle s t o None None other = refl
idle s t o None (Some x) other = refl
idle s t o (Some l) None other = cond-false (o.tick == t) (sending_from s t o.packet l ∷ []) [] other
idle s t o (Some l) (Some x) other = refl

begun_begins : (s : Setup) → Lasts s.profile → (t : ℕ) (d : Device) (o : Option OrderedPacket)
    → Begins s t d (starting_by s t o d.listening d.sending) (begun_by s t d o)
begun_begins s lasts t d None = refl
begun_begins s lasts t d (Some o) =
    cond_both (o.tick == t) (starts s t o.packet d d.listening d.sending) d (Begins s t d (starting_by s t (Some o) d.listening d.sending))
    (λ is. starts_begins s lasts t o d d.listening d.sending refl (eqb-true o.tick t is))
    (λ other. subst (λ (xs : List Sending). Begins s t d xs d) (sym (idle s t o d.listening d.sending other)) refl)

pub begun_sending : (s : Setup) → Lasts s.profile → (t : ℕ) (d : Device) → Begins s t d (sendings_starting s t d) (device_after_start s t d)
begun_sending s lasts t d = begun_begins s lasts t d d.ordered
