-- Nodes that host, and those of them that probe.
use Rattle.std.proofs.Common.{◌≡◌, ℕ, ◌<◌, List, Bool, true, false, ◌&&◌, nat_lt, if◌then◌else◌, Some, None, Option, refl, ap, subst}
use Rattle.std.specs.Prelude.{◌%◌}
use Rattle.std.proofs.lemmas.Bool.{and_parts, ltb-true}
use Rattle.bus_rules.specs.declared.tune.Tune.{Tune}
use Rattle.bus_rules.specs.declared.tune.Tune.TheVariants.{Host}
use Rattle.bus_rules.specs.Cores.{own_rank}
use Rattle.bus_rules.specs.Tuning.{hosts, rank_of}
use Rattle.node_core.specs.Nodes.{Node}
use Rattle.scenario_text.specs.FloodParts.{knows}
use Rattle.scenario_text.specs.ScenarioFacts.{IsSoundScenario}
use Rattle.scenario_text.specs.ScenarioParts.{ScenarioParts}
use Rattle.air_log.specs.declared.entry.Entry.{Entry}
use Rattle.air_log.specs.Devices.{Power, PowerOff, PowerOn}
use Rattle.air_log.specs.Lawful.{Lawful, heard_by}
use Rattle.scenario_text.specs.Setups.{setup_of}
use Rattle.air_log.specs.Trails.{frame_start, tune_of, at_frame}
use Rattle.law_trails.specs.DeviceRanges.{IsPower}
use Rattle.law_trails.proofs.LogsInRange.{all_through}
use Rattle.law_safety.proofs.RunFacts.{known_id}

pub on_node : (p : Power) (t : Tune) → tune_of p ≡ Some t → (n : Node) × (p ≡ PowerOn n) × (n.core.tune ≡ t)
on_node (PowerOff boots) t is = absurd (cc)
on_node (PowerOn n) t is = (n, refl, (let same : ◌≡◌ {A = Option Tune} (Some n.core.tune) (Some t) = is in cc))

-- a host hosts its own rank
pub own_of_host : (s : ScenarioParts) (clocks : ℕ → ℕ → ℕ) (air : List Entry) → IsSoundScenario s → Lawful s clocks air → (v f rank due : ℕ) (n : Node)
    → knows s.nodes v ≡ true → (at_frame s v (clocks v) (heard_by air v) f).power ≡ PowerOn n → n.core.tune ≡ Host rank due → own_rank v s.hosts ≡ Some rank
own_of_host s clocks air good lawful v f rank due n known on tune =
    let id = known_id s good v known in
    let well = (all_through s good clocks air lawful.trails (λ u x there. ((lawful.hearing.heard u x).0 there).1.sent) v (frame_start s f) id.0 id.1).told in
    let is = subst (IsPower (setup_of s v)) on well.power in
    subst (λ (t : Tune). own_rank v s.hosts ≡ Some (rank_of t)) tune (is.core.hosted (ap hosts tune)).own

pub in_run : (s : ScenarioParts) (f : ℕ) (o : Option Tune) (t : Tune) → (if nat_lt f s.frames then o else None) ≡ Some t → (f < s.frames) × (o ≡ Some t)
in_run s f o t is = by_test (nat_lt f s.frames) refl is
  where
    by_test : (b : Bool) → nat_lt f s.frames ≡ b → (if b then o else None) ≡ Some t → (f < s.frames) × (o ≡ Some t)
    by_test true within some = (ltb-true f s.frames within, some)
    by_test false past none = absurd (cc)

-- a frame in which a node probes is before its next round, and its rank is above 0
pub probing : (f rank due probed : ℕ) → (if nat_lt 0 rank && nat_lt f due then Some (f % rank) else None) ≡ Some probed
    → (nat_lt 0 rank ≡ true) × (f < due)
probing f rank due probed is = by_test (nat_lt 0 rank && nat_lt f due) refl is
  where
    by_test : (b : Bool) → (nat_lt 0 rank && nat_lt f due) ≡ b → (if b then Some (f % rank) else None) ≡ Some probed → (nat_lt 0 rank ≡ true) × (f < due)
    by_test true both some = let parts = and_parts (nat_lt 0 rank) (nat_lt f due) both in (parts.0, ltb-true f due parts.1)
    by_test false neither none = absurd (cc)
