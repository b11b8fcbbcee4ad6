-- An event for which the table has no row leaves a device without an open window as it is.
use Rattle.std.proofs.Common.{◌≡◌, ℕ, List, [], ◌++◌, Option, None, refl, sym, ◌∙◌, ap}
use Rattle.std.proofs.lemmas.List.{append-nil}
use Rattle.lwb_base.specs.declared.event.Event.{Event}
use Rattle.radio_model.specs.declared.sending.Sending.{Sending}
use Rattle.bus_rules.specs.declared.delivery.Delivery.{Delivery}
use Rattle.node_core.specs.declared.stage.Stage.{Stage}
use Rattle.node_core.specs.declared.stage.Stage.TheVariants.{Idle, Scanning, AwaitFrame, AwaitSlot, InWindow}
use Rattle.node_core.specs.Nodes.{Node}
use Rattle.air_log.specs.WindowLogs.{WindowLog, windows_after}
use Rattle.air_log.specs.Devices.{Device, Power, PowerOn, moved}
use Rattle.law_trails.specs.Walks.{NoWindow}

same_windows : (t : ℕ) (e : Event) (x : Option Sending) (n : Node) (stage : Stage) (logs : List WindowLog) → NoWindow stage
    → windows_after t e x n n stage stage logs ≡ logs
same_windows t e x n Idle logs none = refl
same_windows t e x n Scanning logs none = refl
same_windows t e x n AwaitFrame logs none = refl
same_windows t e x n (AwaitSlot j) logs none = refl
same_windows t e x n (InWindow j w) logs none = absurd none

pub unmoved : (t : ℕ) (e : Event) (x : Option Sending) (d : Device) (n : Node) → d.power ≡ PowerOn n → NoWindow n.stage → moved t e x d n None ≡ d
unmoved t e x d n on none =
    ap (λ (p : Power). as_made p (d.made.deliveries ++ []) (windows_after t e x n n n.stage n.stage d.made.windows)) (sym on)
    ∙ ap (λ (logs : List WindowLog). as_made d.power (d.made.deliveries ++ []) logs) (same_windows t e x n n.stage d.made.windows none)
    ∙ ap (λ (all : List Delivery). as_made d.power all d.made.windows) (append-nil d.made.deliveries)
  where
    as_made : Power → List Delivery → List WindowLog → Device
    as_made p all logs = record d { power = p; made = record (d.made) { deliveries = all; windows = logs } }
