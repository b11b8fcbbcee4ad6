-- Six nodes that are never acknowledged: all are neighbours of all, nothing is lost, and each has one packet to send.
use Rattle.std.specs.Prelude.{◌≡◌, ◌==◌, ℕ, List, [], ◌∷◌, ◌++◌, not, filter, flat_map, map}
use Rattle.lwb_base.specs.Profile.{one}
use Rattle.link_trace.specs.declared.lines.LinkLine.{LinkLine}
use Rattle.scenario_text.specs.ScenarioParts.{ScenarioParts}
use Rattle.scenario_text.specs.OverLines.{IsOverScenario}
use Rattle.scenario_text.specs.declared.lines.NodeLine.{NodeLine}
use Rattle.scenario_text.specs.declared.script.ScriptLine.{ScriptLine}
use Rattle.bus_rules.specs.declared.act.Act.TheVariants.{On, Declare, Put}
use Rattle.bus_rules.specs.Cores.{Core}
use Rattle.bus_rules.specs.States.{StateOn}
use Rattle.bus_terms.specs.Bus.{bus_deliveries, state_at}

-- the six, and host 1
abbrev pub the_six : List ℕ
the_six = 16 ∷ 17 ∷ 18 ∷ 19 ∷ 21 ∷ 27 ∷ []

abbrev pub the_seven : List ℕ
the_seven = 1 ∷ the_six

abbrev pub node_line : ℕ → NodeLine
node_line v = record { node = v; offset = 0 }

abbrev pub link_line : ℕ → ℕ → LinkLine
link_line u v = record { from = u; to = v }

abbrev pub links_from : ℕ → List LinkLine
links_from u = map (link_line u) (filter (λ v. not (v == u)) the_seven)

abbrev pub boots_at_first : ℕ → ScriptLine
boots_at_first v = record { frame = 0; node = v; act = On }

abbrev pub has_stream : ℕ → ScriptLine
has_stream v = record { frame = 0; node = v; act = Declare 0 4 }

abbrev pub puts_in : ℕ → ℕ → ScriptLine
puts_in f v = record { frame = f; node = v; act = Put 0 (0xaa ∷ []) }

-- each has one stream, and puts one packet: three in frame 2, and the others in frames 6, 22 and 30
abbrev pub six_nodes : ℕ → ScenarioParts
six_nodes frames = record {
  profile = one;
  frames = frames;
  sends = 1;
  nodes = map node_line the_seven;
  rates = [];
  hosts = 1 ∷ [];
  trace = record { links = flat_map links_from the_seven; losses = []; cuts = []; captures = [] };
  script = map boots_at_first the_seven ++ map has_stream the_six
      ++ puts_in 2 16 ∷ puts_in 2 17 ∷ puts_in 2 18 ∷ puts_in 6 19 ∷ puts_in 22 21 ∷ puts_in 30 27 ∷ [];
}

-- the plan of a host has no acknowledgement and no data slot, and its table no stream
pub record HasNoStream (c : Core) : Type 0 where
  pub acks : c.plan.acks ≡ []
  pub owners : c.plan.owners ≡ []
  pub entries : c.table.entries ≡ []

-- so it is in each frame, and nothing is ever delivered
pub record NobodyIsAnswered (frames : ℕ) : Type 0 where
  pub host : (f : ℕ) (c : Core) → state_at (six_nodes frames) f 1 ≡ StateOn c → HasNoStream c
  pub delivers : bus_deliveries (six_nodes frames) ≡ []

-- in however many frames a scenario has
abbrev pub SixAreNeverAnswered : Type 0
SixAreNeverAnswered = (frames : ℕ) → IsOverScenario (six_nodes frames) → NobodyIsAnswered frames
