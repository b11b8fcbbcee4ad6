-- The transmission that runs at a node, through the phases of a tick.
use Rattle.std.proofs.Common.{◌≡◌, ℕ, zero, suc, List, [], ◌∷◌, ◌==◌, false, Some, None, Option, Contains, refl}
use Rattle.std.specs.Option.{IfSome}
use Rattle.std.proofs.lemmas.Bool.{cond_both}
use Rattle.std.proofs.lemmas.List.Elements.{Contains-push}
use Rattle.lwb_base.specs.declared.event.Event.TheVariants.{Sent}
use Rattle.lwb_base.specs.declared.order.Order.{Order}
use Rattle.lwb_base.specs.declared.order.Order.TheVariants.{Listen, Off, SendAt, Alarm}
use Rattle.radio_model.specs.OnAir.{Tuning}
use Rattle.radio_model.specs.declared.sending.Sending.{Sending}
use Rattle.scenario_text.specs.ScenarioParts.{ScenarioParts}
use Rattle.bus_rules.specs.Cores.{Setup}
use Rattle.air_log.specs.Devices.{Device, Listening, OrderedPacket, event, obeyed, silenced, tunes, listens_to}
use Rattle.scenario_text.specs.Setups.{setup_of}
use Rattle.air_log.specs.Trails.{Reception, device_after_script, device_after_receptions, device_ended_by, device_after_end, alarmed, begun_by}
use Rattle.air_log.specs.Trails.{starts, sending_from, before_start, before_tick}
use Rattle.air_log.specs.QuietTicks.{ends_at}
use Rattle.air_log.proofs.KeptByEvents.{IsKept, in_hearings, in_end, in_event, in_alarms, in_tick}

-- what is said of the transmission that runs and of all transmissions so far, and holds also where none runs
module _ (Q : Option Sending → List Sending → Type 0) (over : (x : Option Sending) (xs : List Sending) → Q x xs → Q None xs) where
  abbrev pub Of : Device → Type 0
  Of d = Q d.sending d.made.sent

  on_keeps : (rank t : ℕ) (d : Device) (es : List Tuning) → Of d → Of (tunes rank t d es)
  on_keeps rank t d [] is = is
  on_keeps rank t d (e ∷ es) is = cond_both _ _ _ Of (λ same. is) (λ other. is)

  by_order : (clock : ℕ → ℕ) (v t : ℕ) (d : Device) (o : Order) → Of d → Of (obeyed clock v t d o)
  by_order clock v t d (Listen rank) is =
      let x = silenced v t d in
      cond_both (listens_to rank d.listening) d (tunes rank t x x.made.tuned) Of (λ on. is) (λ off. on_keeps rank t x x.made.tuned is)
  by_order clock v t d Off is = is
  by_order clock v t d (SendAt local packet) is = is
  by_order clock v t d (Alarm local) is = is

  pub kept_running : (clock : ℕ → ℕ) (s : Setup) (t : ℕ) → IsKept Of clock s t
  kept_running clock s t = record {
    obeying = by_order clock s.id t;
    moving = λ e x d n r is. is;
    powered = λ d p is. is;
    without_alarm = λ d is. is;
    off = λ d boots is. is;
    after_sending = λ d is. over d.sending d.made.sent is;
  }

-- the transmission that runs is among all
abbrev pub IsOwn : Option Sending → List Sending → Type 0
IsOwn x xs = IfSome x (Contains xs)

own_over : (x : Option Sending) (xs : List Sending) → IsOwn x xs → IsOwn None xs
own_over x xs is = tt

abbrev pub SendsOwn : Device → Type 0
SendsOwn d = IsOwn d.sending d.made.sent

pub kept_own : (clock : ℕ → ℕ) (s : Setup) (t : ℕ) → IsKept SendsOwn clock s t
kept_own clock s t = kept_running IsOwn own_over clock s t

own_starts : (s : Setup) (t : ℕ) (packet : List ℕ) (d : Device) (l : Option Listening) (x : Option Sending) → SendsOwn d → SendsOwn (starts s t packet d l x)
own_starts s t packet d None x is = is
own_starts s t packet d (Some l) (Some x) is = is
own_starts s t packet d (Some l) None is = Contains-push d.made.sent (sending_from s t packet l)

own_begun : (s : Setup) (t : ℕ) (d : Device) (o : Option OrderedPacket) → SendsOwn d → SendsOwn (begun_by s t d o)
own_begun s t d None is = is
own_begun s t d (Some o) is =
    cond_both (o.tick == t) (starts s t o.packet d d.listening d.sending) d SendsOwn (λ now. own_starts s t o.packet d d.listening d.sending is) (λ other. is)

module _ (s : ScenarioParts) (v : ℕ) (clock : ℕ → ℕ) (hs : List Reception) where
  pub own_before : (t : ℕ) → SendsOwn (before_tick s v clock hs t)
  unfolding before_tick
  own_before zero = tt
  own_before (suc t) =
      let d = before_tick s v clock hs t in
      let e = before_start s v clock hs t d in
      own_begun (setup_of s v) t e e.ordered (in_tick SendsOwn s v clock hs t d (kept_own clock (setup_of s v) t) (own_before t))

  pub own_heard : (t : ℕ) → SendsOwn (device_after_receptions clock (setup_of s v) t hs (device_after_script s v clock t (before_tick s v clock hs t)))
  own_heard t = in_hearings SendsOwn s v clock hs t (before_tick s v clock hs t) (kept_own clock (setup_of s v) t) (own_before t)

-- a transmission is among all also after the end of one
module _ (y : Sending) where
  abbrev Has : Option Sending → List Sending → Type 0
  Has x xs = Contains xs y

  pub still_sent : (clock : ℕ → ℕ) (s : Setup) (t : ℕ) (d : Device) → Contains d.made.sent y → Contains (device_after_end clock s t d).made.sent y
  still_sent clock s t d is = in_end (λ d. Has d.sending d.made.sent) clock s t d (kept_running Has (λ x xs has. has) clock s t) is

-- no transmission that runs ends at the tick
abbrev pub NoneEnds : ℕ → Device → Type 0
NoneEnds t d = ends_at t d.sending ≡ false

abbrev NoEnd : ℕ → Option Sending → List Sending → Type 0
NoEnd t x xs = ends_at t x ≡ false

kept_none : (clock : ℕ → ℕ) (s : Setup) (t u : ℕ) → IsKept (NoneEnds u) clock s t
kept_none clock s t u = kept_running (NoEnd u) (λ x xs is. refl) clock s t

none_by : (clock : ℕ → ℕ) (s : Setup) (t : ℕ) (d : Device) (x : Option Sending) → d.sending ≡ x → NoneEnds t (device_ended_by clock s t d x)
none_by clock s t d None at = rw at refl
none_by clock s t d (Some x) at =
    let y : Device = record d { sending = None } in
    cond_both (x.end == t) (event clock s t Sent (Some x) y) d (NoneEnds t)
    (λ is. in_event (NoneEnds t) clock s t Sent (Some x) y (kept_none clock s t t) refl)
    (λ is. rw at is)

-- after their ends, and after the alarms
pub none_ends : (clock : ℕ → ℕ) (s : Setup) (t : ℕ) (d : Device) → NoneEnds t (device_after_end clock s t d)
none_ends clock s t d = none_by clock s t d d.sending refl

pub none_ends_later : (clock : ℕ → ℕ) (s : Setup) (t : ℕ) (d : Device) → NoneEnds t d → NoneEnds t (alarmed clock s t d)
none_ends_later clock s t d is = in_alarms (NoneEnds t) clock s t d (kept_none clock s t t) is
