-- All that is found of a scenario is so.
use Rattle.std.proofs.Common.{◌≡◌, ℕ, List, [], ◌∷◌, ◌==◌, true, Some, flat_map, length, map, take, refl, ◌∙◌, ap}
use Rattle.std.specs.Prelude.{All}
use Rattle.std.proofs.lemmas.Bool.{or_right}
use Rattle.std.proofs.lemmas.List.Elements.{All-append, All-cons, All-map, All-nil}
use Rattle.lwb_base.specs.declared.limits.TheConstants.{QUIET_FRAMES}
use Rattle.scenario_text.specs.OverLines.{IsOverScenario}
use Rattle.scenario_text.specs.ScenarioGrammar.{IsScenario}
use Rattle.scenario_text.specs.ScenarioParts.{ScenarioParts}
use Rattle.scenario_text.proofs.SoundOver.{over_own_lines}
use Rattle.bus_rules.specs.Cores.{own_rank}
use Rattle.bus_terms.specs.Flooding.{has}
use Rattle.drawn_links.specs.declared.ratio_line.RatioLine.{RatioLine}
use Rattle.drawn_bus.specs.DrawnScenarios.{drawn_scenario}
use Rattle.law_times.specs.Failovers.{HostsWithin, failover_bound}
use Rattle.law_times.specs.FirstRounds.{FirstRoundsCome}
use Rattle.bus_bounds.specs.BoundFindings.{failover_finding, findings_of, first_findings}
use Rattle.bus_bounds.specs.KeptBounds.{AreKept, IsKept, IsOpen}
use Rattle.bus_bounds.specs.PowerLines.{power_lines}
use Rattle.bus_bounds.specs.declared.finding.Finding.{Finding}
use Rattle.bus_bounds.specs.declared.power_line.PowerLine.{PowerLine}
use Rattle.bus_bounds.proofs.FailoversKept.{one_failover_kept, one_failover_open}
use Rattle.bus_bounds.proofs.FirstsKept.{firsts_kept, firsts_open}
use Rattle.bus_bounds.proofs.Searches.{first_rank, there_first}

each_host : (P : ℕ → Type 0) (hosts : List ℕ) → ((v : ℕ) → has hosts v ≡ true → P v) → All P hosts
each_host P [] gives = All-nil P
each_host P (x ∷ xs) gives =
    All-cons P x xs (gives x (there_first x xs)) (each_host P xs (λ v there. gives v (or_right (x == v) (has xs v) there)))

module _ (d : ScenarioParts) (is : IsOverScenario d) where
  abbrev ls : List PowerLine
  ls = power_lines d.script

  -- the host of rank 0 is the first one
  of_first : (P : Finding → Type 0) → ((host : ℕ) → own_rank host d.hosts ≡ Some 0 → All P (first_findings ls d.frames host)) → (hosts : List ℕ)
      → d.hosts ≡ hosts → All P (flat_map (first_findings ls d.frames) (take 1 hosts))
  of_first P gives [] at = All-nil P
  of_first P gives (h ∷ others) at =
      All-append P (first_findings ls d.frames h) [] (gives h (ap (own_rank h) at ∙ first_rank h others)) (All-nil P)

  kept_in : FirstRoundsCome QUIET_FRAMES → HostsWithin (length d.hosts) (failover_bound (length d.hosts)) → All (IsKept d) (findings_of d)
  kept_in come within =
      All-append (IsKept d) (flat_map (first_findings ls d.frames) (take 1 d.hosts)) (map (failover_finding ls d.hosts d.frames) d.hosts)
      (of_first (IsKept d) (λ host own. firsts_kept d is host come own) d.hosts refl)
      (All-map (IsKept d) (failover_finding ls d.hosts d.frames) d.hosts
      (each_host (λ h. IsKept d (failover_finding ls d.hosts d.frames h)) d.hosts (λ h there. one_failover_kept d is h there within)))

  open_in : (ratios : List RatioLine) → All (IsOpen d ratios) (findings_of d)
  open_in ratios =
      All-append (IsOpen d ratios) (flat_map (first_findings ls d.frames) (take 1 d.hosts)) (map (failover_finding ls d.hosts d.frames) d.hosts)
      (of_first (IsOpen d ratios) (λ host own. firsts_open d is host ratios) d.hosts refl)
      (All-map (IsOpen d ratios) (failover_finding ls d.hosts d.frames) d.hosts
      (each_host (λ h. IsOpen d ratios (failover_finding ls d.hosts d.frames h)) d.hosts (λ h there. one_failover_open d is h there ratios)))

-- a drawn scenario has the same text but for its losses
pub all_kept : (s : ScenarioParts) → IsScenario s → FirstRoundsCome QUIET_FRAMES → HostsWithin (length s.hosts) (failover_bound (length s.hosts))
    → AreKept s (findings_of s)
all_kept s said come within ratios seed = kept_in (drawn_scenario s ratios seed) (s.trace, said) come within

pub all_open : (s : ScenarioParts) → IsScenario s → (ratios : List RatioLine) → All (IsOpen s ratios) (findings_of s)
all_open s said ratios = open_in s (over_own_lines s said) ratios
