-- Logs that break one clause of *Safe* and no other.
use Rattle.std.specs.Prelude.{◌≢◌, ℕ, List}
use Rattle.scenario_text.specs.ScenarioParts.{ScenarioParts}
use Rattle.air_log.specs.declared.entry.Entry.{Entry}
use Rattle.air_log.specs.Safe.{Safe, WithinOneFrame, NoOverlap, SameButForCounter, OneInitiator, Silence}

pub data Clause : Type 0 where
  InFrame : Clause
  Apart : Clause
  Alike : Clause
  OneBegins : Clause
  Silent : Clause

abbrev pub Keeps : Clause → ScenarioParts → (ℕ → ℕ → ℕ) → List Entry → Type 0
Keeps InFrame s clocks air = WithinOneFrame s air
Keeps Apart s clocks air = NoOverlap s air
Keeps Alike s clocks air = SameButForCounter s air
Keeps OneBegins s clocks air = OneInitiator s air
Keeps Silent s clocks air = Silence s clocks air

-- it breaks this clause and keeps all others, and so it is not safe
pub record BreaksOnly (c : Clause) (s : ScenarioParts) (clocks : ℕ → ℕ → ℕ) (air : List Entry) : Type 0 where
  pub broken : Keeps c s clocks air → ⊥
  pub kept : (d : Clause) → d ≢ c → Keeps d s clocks air
  pub not_safe : Safe s clocks air → ⊥
