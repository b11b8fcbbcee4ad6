-- What the start of an ordered transmission leads to at a device.
use Rattle.std.proofs.Common.{◌≡◌, ℕ, ◌+◌, List, [], ◌∷◌, ◌++◌, Option, Some, None, inl, inr, refl, sym, ◌∙◌, ap, subst, arith, length, length-append, eq-eqb}
use Rattle.std.proofs.Common.{◌==◌}
use Rattle.std.specs.Prelude.{◌⊎◌}
use Rattle.std.specs.Option.{option_map}
use Rattle.std.proofs.lemmas.Bool.{cond-true}
use Rattle.lwb_base.specs.Profile.{airtime}
use Rattle.radio_model.specs.declared.sending.Sending.{Sending}
use Rattle.bus_rules.specs.Cores.{Setup}
use Rattle.air_log.specs.Devices.{Device, Listening, OrderedPacket, Made}
use Rattle.air_log.specs.Trails.{device_after_start, begun_by, starts, sending_from, sendings_starting, starting_by}
use Rattle.air_log.specs.DeviceStates.{DeviceState, whole, with_sent}
use Rattle.air_log.specs.DeviceStates.{tick_of_ordered, RunsUntil}
use Rattle.air_log.specs.Tunings.{Tunings, channel_in}

-- an order that is due is gone
abbrev pub unordered : Device → Device
unordered d = record d { ordered = None }

abbrev pub sends_now : Sending → Device → Device
sends_now x d = record d { ordered = None; sending = Some x; made = record (d.made) { sent = d.made.sent ++ x ∷ [] } }

-- the device does not begin to send
pub record StaysSilent (s : Setup) (t : ℕ) (d : Device) : Type 0 where
  pub is : device_after_start s t d ≡ unordered d
  pub starting : sendings_starting s t d ≡ []

-- the device begins to send x
pub record BeginsToSend (s : Setup) (t : ℕ) (d : Device) (x : Sending) : Type 0 where
  pub listening : Listening
  pub listens : d.listening ≡ Some listening
  pub silent : d.sending ≡ None
  pub rank : x.rank ≡ listening.rank
  pub node : x.node ≡ s.id
  pub start : x.start ≡ t
  pub end : x.end ≡ t + airtime s.profile (length x.packet)
  pub is : device_after_start s t d ≡ sends_now x d
  pub starting : sendings_starting s t d ≡ x ∷ []

module _ (s : Setup) (t : ℕ) where
  starting_at : (o : OrderedPacket) (l : Listening) → o.tick ≡ t → starting_by s t (Some o) (Some l) None ≡ sending_from s t o.packet l ∷ []
  starting_at o l now = cond-true (o.tick == t) (sending_from s t o.packet l ∷ []) [] (eq-eqb o.tick t now)

  begun_at : (d : Device) (o : OrderedPacket) → d.ordered ≡ Some o → o.tick ≡ t → device_after_start s t d ≡ starts s t o.packet d d.listening d.sending
  begun_at d o ordered now = ap (begun_by s t d) ordered ∙ cond-true (o.tick == t) (starts s t o.packet d d.listening d.sending) d (eq-eqb o.tick t now)

  starting_in : (d : Device) (o : Option OrderedPacket) (l : Option Listening) (x : Option Sending) → d.ordered ≡ o → d.listening ≡ l → d.sending ≡ x
      → sendings_starting s t d ≡ starting_by s t o l x
  starting_in d o l x ordered listening sending =
      ap (λ (p : Option OrderedPacket). starting_by s t p d.listening d.sending) ordered
      ∙ ap (λ (p : Option Listening). starting_by s t o p d.sending) listening ∙ ap (λ (p : Option Sending). starting_by s t o l p) sending

  starts_in : (d : Device) (packet : List ℕ) (l : Option Listening) (x : Option Sending) → d.listening ≡ l → d.sending ≡ x
      → starts s t packet d d.listening d.sending ≡ starts s t packet d l x
  starts_in d packet l x listening sending = ap (λ (p : Option Listening). starts s t packet d p d.sending) listening
      ∙ ap (λ (p : Option Sending). starts s t packet d l p) sending

  -- a device at which an order is due at this tick
  pub begins_or_not : (d : Device) (o : OrderedPacket) → d.ordered ≡ Some o → o.tick ≡ t → StaysSilent s t d ⊎ ((x : Sending) × BeginsToSend s t d x)
  begins_or_not d o ordered now = by_cases d.listening d.sending refl refl
    where
      by_cases : (l : Option Listening) (x : Option Sending) → d.listening ≡ l → d.sending ≡ x → StaysSilent s t d ⊎ ((x : Sending) × BeginsToSend s t d x)
      by_cases None x listening sending = inl (record {
        is = begun_at d o ordered now ∙ starts_in d o.packet None x listening sending;
        starting = starting_in d (Some o) None x ordered listening sending;
      })
      by_cases (Some l) (Some x) listening sending = inl (record {
        is = begun_at d o ordered now ∙ starts_in d o.packet (Some l) (Some x) listening sending;
        starting = starting_in d (Some o) (Some l) (Some x) ordered listening sending;
      })
      by_cases (Some l) None listening sending = inr (
        sending_from s t o.packet l,
        record {
          listening = l;
          listens = listening;
          silent = sending;
          rank = refl;
          node = refl;
          start = refl;
          end = refl;
          is = begun_at d o ordered now ∙ starts_in d o.packet (Some l) None listening sending;
          starting = starting_in d (Some o) (Some l) None ordered listening sending ∙ starting_at o l now;
        },
      )

-- the order that is at the tick
pub ordered_then : (o : Option OrderedPacket) (t : ℕ) → option_map tick_of_ordered o ≡ Some t → (q : OrderedPacket) × (o ≡ Some q) × (q.tick ≡ t)
ordered_then None t is = cc
ordered_then (Some q) t is = (q, refl, let same : q.tick ≡ t = cc in same)

-- the device becomes another by a start that has this answer
abbrev pub Answers : ℕ → DeviceState → DeviceState → Option Sending → Type 0
Answers t st new r = (x : Tunings) (made : Made) → RunsUntil st.busy_until made.sent → channel_in x ≡ st.channel
    → device_after_start st.setup t (whole st x made) ≡ whole new x (with_sent r made)

-- what is known of a start that has the device's answer r
module _ (t : ℕ) (st new : DeviceState) (ordered : option_map tick_of_ordered st.ordered ≡ Some t) where
  order : (q : OrderedPacket) × (st.ordered ≡ Some q) × (q.tick ≡ t)
  order = ordered_then st.ordered t ordered

  -- of the device with these tunings, and with this made
  module _ (tunings : Tunings) (made : Made) (runs : RunsUntil st.busy_until made.sent) (channel : channel_in tunings ≡ st.channel) where
    abbrev device : Device
    device = whole st tunings made

    nothing_sent : Answers t st new None → (x : Sending) → BeginsToSend st.setup t device x → ⊥
    nothing_sent is x begins =
        let same : made.sent ++ x ∷ [] ≡ made.sent = ap (λ (d : Device). d.made.sent) (sym begins.is ∙ is tunings made runs channel) in
        absurd (omega (arith, ap length same, length-append made.sent (x ∷ [])))

    pub silent_with : Answers t st new None → StaysSilent st.setup t device
    silent_with is = elim (begins_or_not st.setup t device order.0 order.1 order.2) [
      | inl silent ↦ silent
      | inr begins ↦ absurd (nothing_sent is begins.0 begins.1)
    ]

    pub begins_with : (x : Sending) → Answers t st new (Some x) → BeginsToSend st.setup t device x
    begins_with x is =
        elim (begins_or_not st.setup t device order.0 order.1 order.2) [
          | inl silent ↦
              let same : made.sent ≡ made.sent ++ x ∷ [] = ap (λ (d : Device). d.made.sent) (sym silent.is ∙ is tunings made runs channel) in
              absurd (omega (arith, ap length same, length-append made.sent (x ∷ [])))
          | inr begins ↦
              let same : made.sent ++ begins.0 ∷ [] ≡ made.sent ++ x ∷ [] = ap (λ (d : Device). d.made.sent) (sym begins.1.is ∙ is tunings made runs channel) in
              subst (λ (y : Sending). BeginsToSend st.setup t device y) (last_same made.sent begins.0 x same) begins.1
        ]
      where
        last_same : (ys : List Sending) (y z : Sending) → ys ++ y ∷ [] ≡ ys ++ z ∷ [] → y ≡ z
        last_same [] y z is = cc
        last_same (w ∷ ys) y z is = last_same ys y z (let rest : ys ++ y ∷ [] ≡ ys ++ z ∷ [] = cc in rest)
