-- Orders do what they say, and nothing else but to the tunings that ended.
use Rattle.std.proofs.Common.{◌≡◌, ℕ, List, [], ◌∷◌, true, ◌==◌, ◌&&◌, fold, Some, None, Option, refl, sym, ◌∙◌, ap, eqb-true, true≢false}
use Rattle.std.proofs.lemmas.Bool.{cond_both}
use Rattle.std.specs.Prelude.{max}
use Rattle.lwb_base.specs.declared.order.Order.{Order}
use Rattle.lwb_base.specs.declared.order.Order.TheVariants.{Listen, Off, SendAt, Alarm}
use Rattle.tick_clock.specs.Clocks.{due}
use Rattle.radio_model.specs.OnAir.{Tuning}
use Rattle.air_log.specs.Devices.{Device, Listening, OrderedPacket, obeyed, silenced, tunes, listens_to}
use Rattle.law_trails.specs.Obeying.{channel_if_on, channel_by, alarm_by, ordered_by, HasObeyed}

pub channel_is : (rank : ℕ) (l : Option Listening) → listens_to rank l ≡ true → channel_if_on l ≡ Some rank
channel_is rank None on = absurd (true≢false (sym on))
channel_is rank (Some l) on = ap (λ (r : ℕ). Some r) (eqb-true l.rank rank on)

module _ (clock : ℕ → ℕ) (v t : ℕ) where
  -- a device that differs in what orders change
  rebuilt : (os : List Order) (d : Device) (l : Option Listening) (a : Option ℕ) (o : Option OrderedPacket) (es : List Tuning)
      → channel_if_on l ≡ fold channel_by (channel_if_on d.listening) os → a ≡ fold (alarm_by clock t) d.alarm os → o ≡ fold (ordered_by clock t) d.ordered os
      → HasObeyed clock t os d (record d { listening = l; alarm = a; ordered = o; made = record (d.made) { tuned = es } })
  rebuilt os d l a o es channel alarm ordered = record {
    channel = channel;
    alarm = alarm;
    ordered = ordered;
    power = refl;
    sending = refl;
    sent = refl;
    deliveries = refl;
    windows = refl;
  }

  abbrev Tuned : ℕ → Device → Device → Type 0
  Tuned rank d e = HasObeyed clock t (Listen rank ∷ []) d e

  on_since : (rank since : ℕ) (d : Device) (es : List Tuning) → Tuned rank d (record d {
    listening = Some (record { rank = rank; since = since });
    made = record (d.made) { tuned = es };
  })
  on_since rank since d es = rebuilt (Listen rank ∷ []) d (Some (record { rank = rank; since = since })) d.alarm d.ordered es refl refl refl

  retuned : (rank : ℕ) (d : Device) (es : List Tuning) → Tuned rank d (tunes rank t (silenced v t d) es)
  retuned rank d [] = on_since rank t d (silenced v t d).made.tuned
  retuned rank d (e ∷ es) =
      cond_both ((e.rank == rank) && (e.end == t)) _ _ (Tuned rank d) (λ goes_on. on_since rank e.start d es)
      (λ anew. on_since rank t d (silenced v t d).made.tuned)

  one : (d : Device) (o : Order) → HasObeyed clock t (o ∷ []) d (obeyed clock v t d o)
  one d (Listen rank) =
      let x = silenced v t d in
      cond_both (listens_to rank d.listening) d (tunes rank t x x.made.tuned) (Tuned rank d)
      (λ on. rebuilt (Listen rank ∷ []) d d.listening d.alarm d.ordered d.made.tuned (channel_is rank d.listening on) refl refl)
      (λ other. retuned rank d x.made.tuned)
  one d Off = rebuilt (Off ∷ []) d None d.alarm d.ordered (silenced v t d).made.tuned refl refl refl
  one d (SendAt local packet) =
      let o : OrderedPacket = record { tick = max (due clock local) t; packet = packet } in
      rebuilt (SendAt local packet ∷ []) d d.listening d.alarm (Some o) d.made.tuned refl refl refl
  one d (Alarm local) = rebuilt (Alarm local ∷ []) d d.listening (Some (max (due clock local) t)) d.ordered d.made.tuned refl refl refl

  pub has_obeyed : (os : List Order) (d : Device) → HasObeyed clock t os d (fold (obeyed clock v t) d os)
  has_obeyed [] d = rebuilt [] d d.listening d.alarm d.ordered d.made.tuned refl refl refl
  has_obeyed (o ∷ os) d =
      let e = obeyed clock v t d o in
      let a = one d o in
      let b = has_obeyed os e in
      record {
        channel = b.channel ∙ ap (λ (c : Option ℕ). fold channel_by c os) a.channel;
        alarm = b.alarm ∙ ap (λ (c : Option ℕ). fold (alarm_by clock t) c os) a.alarm;
        ordered = b.ordered ∙ ap (λ (c : Option OrderedPacket). fold (ordered_by clock t) c os) a.ordered;
        power = b.power ∙ a.power;
        sending = b.sending ∙ a.sending;
        sent = b.sent ∙ a.sent;
        deliveries = b.deliveries ∙ a.deliveries;
        windows = b.windows ∙ a.windows;
      }
