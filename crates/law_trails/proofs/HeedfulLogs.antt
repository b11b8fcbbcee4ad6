-- Valid logs are protocol-obedient.
use Rattle.std.proofs.Common.{ℕ, List}
use Rattle.scenario_text.specs.ScenarioParts.{ScenarioParts}
use Rattle.air_log.specs.declared.entry.Entry.{Entry}
use Rattle.air_log.specs.Lawful.{Lawful}
use Rattle.air_log.specs.Heedful.{Heedful}

pub lawful_is_heedful : (s : ScenarioParts) (clocks : ℕ → ℕ → ℕ) (air : List Entry) → Lawful s clocks air → Heedful s clocks air
lawful_is_heedful s clocks air lawful = record {
  trails = lawful.trails;
  heard = λ v x there. (let hears = ((lawful.hearing.heard v x).0 there).1 in record { sent = hears.sent; tuned = hears.tuned });
}
