-- Clocks by the nodes of a text and by the places of its nodes.
use Rattle.std.proofs.Common.{◌≡◌, ℕ, List, [], ◌∷◌, nat_eq, if◌then◌else◌}
use Rattle.std.proofs.Common.{refl, ◌∙◌, ap}
use Rattle.scenario_text.specs.declared.lines.NodeLine.{NodeLine}
use Rattle.bus_terms.specs.FloodOfText.{ids}
use Rattle.radio_model.specs.declared.sending.Sending.{Sending}
use Rattle.air_log.specs.ClockLists.{clocks_by}
use Rattle.lwb_flood.specs.FloodWorlds.{World, world_after_reception, heard_by_all}
use Rattle.lwb_flood.specs.FloodWorlds.{readings_of_node}

-- clocks by the nodes of the text and by the places of the nodes are the same
pub same_readings : {C : Type 0} (R : C → ℕ → ℕ) (ns : List NodeLine) (cs : List C) (v : ℕ) → clocks_by R ns cs v ≡ readings_of_node R cs (ids ns) v
same_readings R [] cs v = refl
same_readings R (n ∷ ns) [] v = refl
same_readings {C} R (n ∷ ns) (c ∷ cs) v = ap (λ (rest : ℕ → ℕ). if nat_eq n.node v then R c else rest) (same_readings R ns cs v)

pub heard_by_same : (clocks others : ℕ → ℕ → ℕ) → ((v : ℕ) → clocks v ≡ others v) → (x : Sending) (vs : List ℕ) (w : World)
    → heard_by_all clocks x vs w ≡ heard_by_all others x vs w
heard_by_same clocks others same x [] w = refl
heard_by_same clocks others same x (v ∷ vs) w = heard_by_same clocks others same x vs (world_after_reception (clocks v) x v w)
    ∙ ap (λ (k : ℕ → ℕ). heard_by_all others x vs (world_after_reception k x v w)) (same v)
