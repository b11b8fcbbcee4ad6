-- The energy that is read off what a trail tells, and that the times of its entries lie apart.
use Rattle.std.specs.Prelude.{ℕ, ◌-◌, List, sum_by}
use Rattle.radio_model.specs.declared.sending.Sending.{Sending}
use Rattle.radio_model.specs.OnAir.{Tuning}
use Rattle.air_log.specs.declared.entry.TunedEntry.{TunedEntry}
use Rattle.air_log.specs.TrailsTold.{TrailTold}
use Rattle.air_log.specs.declared.energy.Energy.{Energy}
use Rattle.energy_account.specs.Apart.{AreApart}
use Rattle.air_log.specs.Energies.{sending_time, tuning_time}

abbrev pub told_energy : TrailTold → Energy
told_energy t = record {
  sent = sum_by sending_time t.sent;
  windows = t.windows;
  scanned = t.scanned;
  on = sum_by tuning_time t.tuned;
}

-- each begins when the one before it has ended
abbrev pub SendingsApart : List Sending → Type 0
SendingsApart xs = AreApart (λ x. x.start) (λ x. x.end) 0 xs

abbrev pub TuningsApart : List Tuning → Type 0
TuningsApart ts = AreApart (λ t. t.start) (λ t. t.end) 0 ts

-- how long an entry lasts
abbrev pub tuned_span : TunedEntry → ℕ
tuned_span e = e.end - e.start
