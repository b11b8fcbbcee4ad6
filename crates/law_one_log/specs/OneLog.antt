-- One scenario over the same clocks has one valid log, but for the order of its entries.
use Rattle.std.specs.Prelude.{◌≡◌, ℕ, List, IsPermutation, AllPairs}
use Rattle.scenario_text.specs.FloodParts.{FloodParts}
use Rattle.scenario_text.specs.ScenarioParts.{ScenarioParts}
use Rattle.air_log.specs.declared.entry.Entry.{Entry}
use Rattle.air_log.specs.Entries.{node_of_entry}
use Rattle.air_log.specs.FloodLaw.{FloodLaw}
use Rattle.air_log.specs.LogText.{start_of, kind_number, log_text}
use Rattle.air_log.specs.Energies.{energy_of}
use Rattle.law_terms.specs.LawfulRuns.{IsLawfulRun}
use Rattle.lwb_flood.specs.FloodLog.{HasClocks}

-- the order of the log text does not tell the two apart
pub record SamePlace (d e : Entry) : Type 0 where
  pub start : start_of d ≡ start_of e
  pub kind : kind_number d ≡ kind_number e
  pub node : node_of_entry d ≡ node_of_entry e

-- the same entries, each as often
abbrev pub OneLogLaw : Type 0
OneLogLaw =
    (s : ScenarioParts) (clocks : ℕ → ℕ → ℕ) (a b : List Entry) → IsLawfulRun s clocks a → IsLawfulRun s clocks b
    → IsPermutation a b

-- no two entries have the same start, kind and node
abbrev pub EntriesApartLaw : Type 0
EntriesApartLaw =
    (s : ScenarioParts) (clocks : ℕ → ℕ → ℕ) (air : List Entry) → IsLawfulRun s clocks air
    → AllPairs (λ d e. SamePlace d e → ⊥) air

-- so the same text, in whatever order the entries are kept
abbrev pub OneTextLaw : Type 0
OneTextLaw =
    (s : ScenarioParts) (clocks : ℕ → ℕ → ℕ) (a b : List Entry) → IsLawfulRun s clocks a → IsLawfulRun s clocks b
    → log_text a ≡ log_text b

-- and each node costs the same
abbrev pub OneCostLaw : Type 0
OneCostLaw =
    (s : ScenarioParts) (clocks : ℕ → ℕ → ℕ) (a b : List Entry) → IsLawfulRun s clocks a → IsLawfulRun s clocks b
    → (v : ℕ) → energy_of s clocks a v ≡ energy_of s clocks b v

-- the log of one flood: the same entries, each once
abbrev pub OneFloodLogLaw : Type 0
OneFloodLogLaw =
    (f : FloodParts) (clocks : ℕ → ℕ → ℕ) (a b : List Entry) → HasClocks f clocks → FloodLaw f clocks a → FloodLaw f clocks b
    → IsPermutation a b
