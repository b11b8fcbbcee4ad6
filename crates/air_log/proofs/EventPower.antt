-- An event leaves a node on, as its row leaves it.
use Rattle.std.proofs.Common.{◌≡◌, ℕ, List, [], ◌∷◌, ◌==◌, ◌&&◌, refl, ◌∙◌, fold, Option}
use Rattle.std.proofs.lemmas.Bool.{cond_both}
use Rattle.lwb_base.specs.declared.event.Event.{Event}
use Rattle.lwb_base.specs.declared.order.Order.{Order}
use Rattle.lwb_base.specs.declared.order.Order.TheVariants.{Listen, Off as RadioOff, SendAt, Alarm}
use Rattle.radio_model.specs.declared.sending.Sending.{Sending}
use Rattle.radio_model.specs.OnAir.{Tuning}
use Rattle.bus_rules.specs.Cores.{Setup}
use Rattle.node_core.specs.Nodes.{Node}
use Rattle.node_core.specs.Rows.{row, node_after, orders_by}
use Rattle.air_log.specs.Devices.{Device, PowerOn, obeyed, tunes, listens_to, silenced, stepped, moved}

tuned_power : (rank t : ℕ) (d : Device) (es : List Tuning) → (tunes rank t d es).power ≡ d.power
tuned_power rank t d [] = refl
tuned_power rank t d (e ∷ es) = cond_both ((e.rank == rank) && (e.end == t)) _ _ (λ (x : Device). x.power ≡ d.power) (λ p. refl) (λ p. refl)

obeyed_power : (clock : ℕ → ℕ) (v t : ℕ) (d : Device) (o : Order) → (obeyed clock v t d o).power ≡ d.power
obeyed_power clock v t d (Listen rank) = cond_both (listens_to rank d.listening) _ _ (λ (x : Device). x.power ≡ d.power) (λ p. refl)
    (λ p. tuned_power rank t (silenced v t d) (silenced v t d).made.tuned)
obeyed_power clock v t d RadioOff = refl
obeyed_power clock v t d (SendAt local p) = refl
obeyed_power clock v t d (Alarm local) = refl

all_obeyed : (clock : ℕ → ℕ) (v t : ℕ) (d : Device) (os : List Order) → (fold (obeyed clock v t) d os).power ≡ d.power
all_obeyed clock v t d [] = refl
all_obeyed clock v t d (o ∷ os) = all_obeyed clock v t (obeyed clock v t d o) os ∙ obeyed_power clock v t d o

-- an event leaves the node where its row leaves it
pub stepped_power : (clock : ℕ → ℕ) (s : Setup) (t : ℕ) (e : Event) (x : Option Sending) (d : Device) (n : Node)
    → (stepped clock s t e x d n).power ≡ PowerOn (node_after n (row s n (clock t) e))
stepped_power clock s t e x d n = all_obeyed clock s.id t (moved t e x d n (row s n (clock t) e)) (orders_by (row s n (clock t) e))
