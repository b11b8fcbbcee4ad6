-- The stage and the orders of a window that opens.
use Rattle.std.proofs.Common.{◌≡◌, ℕ, List, [], ◌∷◌, ◌++◌, Option, Some, None, option_map, refl, ◌∙◌, ap, arith}
use Rattle.lwb_base.specs.Profile.{Numbers}
use Rattle.lwb_base.specs.declared.order.Order.{Order}
use Rattle.lwb_base.specs.declared.order.Order.TheVariants.{Listen, Alarm}
use Rattle.time_reference.specs.Reference.{times_of}
use Rattle.round_runner.specs.Rounds.{Round, round_of, window_of_slot}
use Rattle.round_runner.specs.declared.window.Window.{Window}
use Rattle.glossy_relay.specs.FloodState.{FloodState}
use Rattle.bus_rules.specs.Cores.{Setup}
use Rattle.bus_rules.specs.Slots.{Message}
use Rattle.bus_rules.specs.declared.part.Part.{Part}
use Rattle.lwb_member.specs.Places.{kind_for}
use Rattle.lwb_member.specs.Said.{bytes_in_slot}
use Rattle.node_core.specs.Nodes.{starts_at, closes_at}
use Rattle.node_core.specs.Rows.{initiating_orders, flood_for}
use Rattle.node_core.specs.WindowOpening.{flood_with, sent_first}
use Rattle.node_core.specs.declared.stage.Stage.{Stage}
use Rattle.node_core.specs.declared.stage.Stage.TheVariants.{InWindow}

sending_is : (p : Numbers) (z j : ℕ) (m : Option Message) → sent_first (starts_at p z j) (option_map (bytes_in_slot j) m) ≡ initiating_orders p z j m
sending_is p z j None = refl
sending_is p z j (Some m) = refl

flood_is : (s : Setup) (j : ℕ) (part : Part) (m : Option Message) → flood_with (kind_for part) j s.sends (option_map (bytes_in_slot j) m) ≡ flood_for s part j m
flood_is s j part None = refl
flood_is s j part (Some m) = refl

-- the stage in which a window opens
abbrev pub opened_stage : Setup → ℕ → ℕ → Part → Option Message → Stage
opened_stage s j last part m = InWindow j (record { part = part; last = last; flood = flood_for s part j m; reference = None })

abbrev stage_with : ℕ → ℕ → Part → ℕ → Option (List ℕ) → Stage
stage_with j n part last packet = InWindow j (record { part = part; last = last; flood = flood_with (kind_for part) j n packet; reference = None })

pub stage_is : (s : Setup) (j n last last' : ℕ) (part part' : Part) (packet : Option (List ℕ)) (m : Option Message)
    → n ≡ s.sends → last ≡ last' → part ≡ part' → packet ≡ option_map (bytes_in_slot j) m → stage_with j n part last packet ≡ opened_stage s j last' part' m
stage_is s j n last last' part part' packet m often ends for_this said =
    let of : FloodState → Stage = λ f. InWindow j (record { part = part'; last = last'; flood = f; reference = None }) in
    ap (λ (x : ℕ). stage_with j x part last packet) often ∙ ap (λ (x : ℕ). stage_with j s.sends part x packet) ends
    ∙ ap (λ (x : Part). stage_with j s.sends x last' packet) for_this ∙ ap (stage_with j s.sends part' last') said ∙ ap of (flood_is s j part' m)

module _ (p : Numbers) (z j owners contend : ℕ) (round : Round) (times : Window) (rounded : round ≡ round_of p (times_of p z) owners contend)
    (timed : times ≡ window_of_slot round j) where
  window : times ≡ window_of_slot (round_of p (times_of p z) owners contend) j
  window = timed ∙ ap (λ (r : Round). window_of_slot r j) rounded

  pub start_is : times.start ≡ starts_at p z j
  start_is = ap (λ (w : Window). w.start) window ∙ omega arith

  pub until_is : times.until ≡ closes_at p z j
  until_is = ap (λ (w : Window). w.until) window ∙ omega arith

abbrev orders_with : ℕ → List Order → ℕ → List Order
orders_with rank sending until = Listen rank ∷ sending ++ Alarm until ∷ []

pub orders_are : (p : Numbers) (z j start until rank tuned : ℕ) (packet : Option (List ℕ)) (m : Option Message) → start ≡ starts_at p z j
    → until ≡ closes_at p z j → rank ≡ tuned → packet ≡ option_map (bytes_in_slot j) m
    → Listen rank ∷ sent_first start packet ++ Alarm until ∷ [] ≡ Listen tuned ∷ initiating_orders p z j m ++ Alarm (closes_at p z j) ∷ []
orders_are p z j start until rank tuned packet m starts closes ranked said =
    let sending : sent_first start packet ≡ initiating_orders p z j m =
    ap (λ (t : ℕ). sent_first t packet) starts ∙ ap (sent_first (starts_at p z j)) said ∙ sending_is p z j m in
    ap (λ (r : ℕ). orders_with r (sent_first start packet) until) ranked ∙ ap (λ (l : List Order). orders_with tuned l until) sending
    ∙ ap (orders_with tuned (initiating_orders p z j m)) closes
