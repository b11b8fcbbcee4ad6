-- What stays at a device that is notified of a reception, or of the end of its transmission.
use Rattle.std.proofs.Common.{◌≡◌, ℕ, None, Some}
use Rattle.lwb_base.specs.declared.event.Event.TheVariants.{Sent, Heard}
use Rattle.radio_model.specs.declared.sending.Sending.{Sending}
use Rattle.bus_rules.specs.Cores.{Setup}
use Rattle.air_log.specs.Devices.{Device}
use Rattle.air_log.proofs.SendingsKept.{event_sending}
use Rattle.air_log.proofs.TunedBefore.{HasTunedBy, IsTunedAs, stays_same, event_stays, event_as}
use Rattle.world_engine.specs.FieldSteps.{told_of_end, told_of_hearing}

module _ (clock : ℕ → ℕ) (s : Setup) (t : ℕ) (x : Sending) (d : Device) where
  pub told_of_hearing_sending : (told_of_hearing clock t x s d).sending ≡ d.sending
  told_of_hearing_sending = event_sending clock s t (Heard x.packet) None d

  pub told_of_end_sending : (told_of_end clock t x s d).sending ≡ None
  told_of_end_sending = event_sending clock s t Sent (Some x) (record d { sending = None })

-- what it was tuned to before
module _ (clock : ℕ → ℕ) (s : Setup) (t : ℕ) (d : Device) (by : HasTunedBy t d) (x : Sending) where
  pub told_of_hearing_stays : IsTunedAs t d (told_of_hearing clock t x s d)
  told_of_hearing_stays = event_stays clock s t d by (Heard x.packet) None

  pub told_of_end_stays : IsTunedAs t d (told_of_end clock t x s d)
  told_of_end_stays = event_as clock s t d.made.tuned d.listening Sent (Some x) (record d { sending = None }) (stays_same t d.made.tuned d.listening by)
