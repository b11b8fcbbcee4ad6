-- The round after an acknowledgement: when it comes, and what slots it has.
use Rattle.std.specs.Prelude.{◌≡◌, ◌≢◌, ◌<◌, ◌≤◌, ◌+◌, ◌-◌, ◌*◌, ◌/◌, ℕ, false, Contains}
use Rattle.lwb_base.specs.Messages.{Ask, Plan, code_of}
use Rattle.lwb_base.specs.declared.limits.TheConstants.{DATA_SLOTS, GREATEST_GAP}
use Rattle.scenario_text.specs.ScenarioParts.{ScenarioParts}
use Rattle.scenario_text.specs.OverLines.{IsOverScenario}
use Rattle.bus_rules.specs.declared.tune.Tune.TheVariants.{Host}
use Rattle.bus_rules.specs.Cores.{Core}
use Rattle.bus_rules.specs.Granting.{count_of, owed_to, total}
use Rattle.bus_rules.specs.HostPlans.{answers_to, served}
use Rattle.bus_rules.specs.Plans.{last_slot}
use Rattle.bus_rules.specs.States.{StateOn}
use Rattle.bus_rules.specs.Tables.{TableEntry, Table, is_full}
use Rattle.law_service.specs.RequestService.{ReachesHost}
use Rattle.bus_terms.specs.HostedRounds.{IsHosted, node_before, state_after_round}

-- the table from which a host, which is c before the closing slot of frame f, plans its next round: with the requests that it
-- kept, and then its own
abbrev pub table_at : ℕ → ℕ → Core → Table
table_at f host c = (served f host c.boot (answers_to f c.kept c.table).table c.streams).table

-- the host before the closing slot, and after it: its next round comes in frame due, by this plan
pub record PlansRound (s : ScenarioParts) (rank f : ℕ) (p : Plan) (host : ℕ) (c : Core) (due : ℕ) (plan : Plan) : Type 0 where
  pub on : node_before s rank f p (last_slot p) host ≡ StateOn c
  pub next : Core
  pub next_on : state_after_round s rank f p host ≡ StateOn next
  pub tune : next.tune ≡ Host rank due
  pub planned : next.plan ≡ plan

-- all that is owed by the next round fits into its data slots
abbrev pub FitsNextRound : ScenarioParts → ℕ → ℕ → Core → ℕ → Type 0
FitsNextRound s f host c due = total s.profile.seconds due (table_at f host c).entries ≤ DATA_SLOTS

-- the next round comes one frame to the greatest gap later
abbrev pub RoundsFollow : Type 0
RoundsFollow =
    (s : ScenarioParts) → IsOverScenario s → (rank f : ℕ) (p : Plan) (host : ℕ) → IsHosted s rank f p host
    → (c : Core) (due : ℕ) (plan : Plan) → PlansRound s rank f p host c due plan → (f < due) × (due ≤ f + GREATEST_GAP)

-- and where all fits, each stream of the table has the slots that are owed to it by then
abbrev pub OwedSlotsAreGranted : Type 0
OwedSlotsAreGranted =
    (s : ScenarioParts) → IsOverScenario s → (rank f : ℕ) (p : Plan) (host : ℕ) → IsHosted s rank f p host
    → (c : Core) (due : ℕ) (plan : Plan) → PlansRound s rank f p host c due plan → FitsNextRound s f host c due
    → (e : TableEntry) → Contains (table_at f host c).entries e → owed_to s.profile.seconds due e ≤ count_of e.code plan.owners

-- so a stream whose lone request of frame f was taken has by then what has come due since f
abbrev pub NewStreamsAreGranted : Type 0
NewStreamsAreGranted =
    (s : ScenarioParts) → IsOverScenario s → (rank f : ℕ) (p : Plan) (host j u : ℕ) (a : Ask) (b : Core) → ReachesHost s rank f p host j u a b
    → is_full a (answers_to f b.kept b.table).table ≡ false → a.interval ≢ 0
    → (c : Core) (due : ℕ) (plan : Plan) → PlansRound s rank f p host c due plan → FitsNextRound s f host c due
    → s.profile.seconds * (due - f) / a.interval ≤ count_of (code_of a) plan.owners
