-- What a bound that holds says of the bus, and which premise of an open one fails.
use Rattle.std.specs.Prelude.{◌≡◌, ◌≤◌, ◌+◌, ℕ, ⊤, List, false, Option, Some, None, All, length}
use Rattle.std.specs.List.{list_any}
use Rattle.std.specs.Prelude.{not, ◌&&◌}
use Rattle.lwb_base.specs.declared.limits.TheConstants.{QUIET_FRAMES}
use Rattle.scenario_text.specs.ScenarioParts.{ScenarioParts}
use Rattle.bus_rules.specs.declared.tune.Tune.TheVariants.{Host}
use Rattle.bus_rules.specs.Cores.{own_rank}
use Rattle.drawn_bus.specs.DrawnScenarios.{drawn_scenario}
use Rattle.drawn_links.specs.declared.ratio_line.RatioLine.{RatioLine}
use Rattle.law_times.specs.Failovers.{IsLastHost, failover_bound}
use Rattle.law_times.specs.FirstRounds.{Begins}
use Rattle.law_times.specs.ScriptedPower.{BootsIn}
use Rattle.law_times.specs.Tunes.{HasTune, Hosts}
use Rattle.bus_bounds.specs.BoundFindings.{is_other}
use Rattle.bus_bounds.specs.KeptJoins.{IsMemberFrom, JoinFails, ScansFew}
use Rattle.bus_bounds.specs.PowerLines.{power_lines}
use Rattle.bus_bounds.specs.declared.finding.Bound.{Bound}
use Rattle.bus_bounds.specs.declared.finding.Bound.TheVariants.{First, Failover, Joined, Scanning}
use Rattle.bus_bounds.specs.declared.finding.Finding.{Finding}
use Rattle.bus_bounds.specs.declared.finding.Reason.{Reason}
use Rattle.bus_bounds.specs.declared.finding.Reason.TheVariants.{Boots, Power, Rounds}
use Rattle.bus_bounds.specs.declared.finding.Verdict.{Verdict}
use Rattle.bus_bounds.specs.declared.finding.Verdict.TheVariants.{Broken, Holds, Open}

-- the host has its own rank's round, or the next one, in frame f or one of the few after it
pub record HostsItsRank (d : ScenarioParts) (f host : ℕ) : Type 0 where
  pub rank : ℕ
  pub own : own_rank host d.hosts ≡ Some rank
  pub hosts : Hosts d rank f host

-- the host of rank 0 has its first round in this frame, any other host hosts its rank in it, and other nodes are members from it on
abbrev pub Keeps : ScenarioParts → Bound → ℕ → ℕ → Type 0
Keeps d First host f = HasTune d f host (Host 0 f)
Keeps d Failover host f = HostsItsRank d f host
Keeps d Joined v f = IsMemberFrom d f v
Keeps d Scanning v f = ScansFew d f v

abbrev pub IsKeptBy : ScenarioParts → Finding → Verdict → Type 0
IsKeptBy d x (Holds from frames) = Keeps d x.bound x.node from
IsKeptBy d x (Broken reason line) = ⊤
IsKeptBy d x (Open reason) = ⊤

-- on the bus of d it is as a finding says that holds
abbrev pub IsKept : ScenarioParts → Finding → Type 0
IsKept d x = IsKeptBy d x x.verdict

-- and so it is on the bus with the losses of each seed, by whatever ratios
abbrev pub AreKept : ScenarioParts → List Finding → Type 0
AreKept s xs = (ratios : List RatioLine) (seed : ℕ) → All (IsKept (drawn_scenario s ratios seed)) xs

-- so it is on the bus with the losses of each seed, by these ratios
abbrev pub AreKeptBy : ScenarioParts → List RatioLine → List Finding → Type 0
AreKeptBy s ratios xs = (seed : ℕ) → All (IsKept (drawn_scenario s ratios seed)) xs

-- the premise of a bound that an open finding names does fail
abbrev pub FirstFails : ScenarioParts → ℕ → Option ℕ → Reason → Type 0
FirstFails s host (Some b) Power = Begins s host b (b + QUIET_FRAMES) → ⊥
FirstFails s host (Some b) Rounds = s.frames ≤ b + QUIET_FRAMES
FirstFails s host None Boots = (b : ℕ) → BootsIn s b host → ⊥
FirstFails s host other reason = ⊥

-- no other host goes off, or this one is not alone on, or the run ends by then
abbrev pub FailoverFails : ScenarioParts → ℕ → Option ℕ → Reason → Type 0
FailoverFails s host None Power = list_any (λ l. is_other s.hosts host l.node && not l.on) (power_lines s.script) ≡ false
FailoverFails s host (Some b) Power = (rank : ℕ) → IsLastHost s rank host b (b + failover_bound (length s.hosts)) → ⊥
FailoverFails s host (Some b) Rounds = s.frames ≤ b + failover_bound (length s.hosts)
FailoverFails s host other reason = ⊥

-- by ratios, on which the power of hosts does not depend
abbrev pub Fails : ScenarioParts → List RatioLine → Bound → ℕ → Option ℕ → Reason → Type 0
Fails s ratios First host = FirstFails s host
Fails s ratios Failover host = FailoverFails s host
Fails s ratios Joined v = JoinFails s ratios v
Fails s ratios Scanning v = JoinFails s ratios v

abbrev pub IsOpenBy : ScenarioParts → List RatioLine → Finding → Verdict → Type 0
IsOpenBy s ratios x (Holds from frames) = ⊤
IsOpenBy s ratios x (Broken reason line) = Fails s ratios x.bound x.node x.frame reason
IsOpenBy s ratios x (Open reason) = Fails s ratios x.bound x.node x.frame reason

-- of an open finding the premise that it names fails
abbrev pub IsOpen : ScenarioParts → List RatioLine → Finding → Type 0
IsOpen s ratios x = IsOpenBy s ratios x x.verdict
