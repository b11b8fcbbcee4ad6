-- Internal: what is true of each draft.
use Rattle.std.specs.Prelude.{◌≡◌, ◌<◌, ◌≤◌, ◌^◌, List, [], ◌∷◌, true, length, IfSome}
use Rattle.std.specs.Int.RustNames.{unsigned_abs}
use Rattle.std.specs.List.{AllByRecursion}
use Rattle.lwb_base.specs.declared.limits.TheConstants.{DRIFT_BOUND, MOST_NODES}
use Rattle.scenario_text.specs.FloodParts.{knows}
use Rattle.scenario_text.specs.FloodGrammar.{Flood}
use Rattle.scenario_text.specs.Network.{DraftedNetwork}
use Rattle.scenario_text.specs.declared.lines.NodeLine.{NodeLine}
use Rattle.scenario_text.specs.declared.lines.RateLine.{RateLine}

-- R holds of each element and each later one
abbrev pub Climbs : {X : Type 0} → (X → X → Type 0) → List X → Type 0
Climbs R [] = Unit {0}
Climbs R (x ∷ xs) = AllByRecursion (R x) xs × Climbs R xs

-- the ids ascend
abbrev pub Rises : List NodeLine → Type 0
Rises ns = Climbs (λ n m. n.node < m.node) ns

-- of two rates of one node the later begins later
abbrev pub RatesBeginLater : List RateLine → Type 0
RatesBeginLater rs = Climbs (λ r s. r.node ≡ s.node → r.from < s.from) rs

-- the rate is of one of these nodes, and its tick and millionths are in range
pub record IsRate (ns : List NodeLine) (r : RateLine) : Type 0 where
  pub known : knows ns r.node ≡ true
  pub early : r.from < 2 ^ 47
  pub small : unsigned_abs r.ppm ≤ DRIFT_BOUND

pub record IsNetwork (d : DraftedNetwork) : Type 0 where
  pub sends : IfSome d.sends (λ n. (1 ≤ n) × (n ≤ 4))
  pub few_nodes : length d.nodes ≤ MOST_NODES
  pub rises : Rises d.nodes
  pub offsets : AllByRecursion (λ n. n.offset ≤ 256000) d.nodes
  pub follows : RatesBeginLater d.rates
  pub rates : AllByRecursion (IsRate d.nodes) d.rates

pub record IsFloodDraft (f : Flood) : Type 0 where
  pub network : IsNetwork f.network
  pub start_known : IfSome f.start (λ i. knows f.network.nodes i ≡ true)
