-- What a node delivers, by its windows.
use Rattle.std.specs.Prelude.{List, [], ◌∷◌, ◌++◌, Some, None, option_map, option_to_list}
use Rattle.std.specs.declared.option.Option.{Option}
use Rattle.bus_rules.specs.declared.delivery.Delivery.{Delivery}
use Rattle.bus_rules.specs.Cores.{Setup}
use Rattle.bus_rules.specs.Slots.{closed_slot, delivery_of}
use Rattle.node_core.specs.Rows.{accepted_in}
use Rattle.air_log.specs.WindowLogs.{WindowLog, Closing}

-- what it delivers as a window closes, by what the window has accepted
abbrev pub delivery_at_closing : Setup → WindowLog → Option Delivery
delivery_at_closing s w =
    option_map (delivery_of s.id w.frame w.rank w.slot)
    (closed_slot s w.frame w.last.part w.last.flood.initiated w.after.core (accepted_in w.last)).delivered

-- and nothing before
abbrev pub delivered_by : Setup → WindowLog → Option Closing → Option Delivery
delivered_by s w None = None
delivered_by s w (Some c) = delivery_at_closing s w

-- of windows with the last first
abbrev pub delivered_in : Setup → List WindowLog → List Delivery
delivered_in s [] = []
delivered_in s (w ∷ ws) = delivered_in s ws ++ option_to_list (delivered_by s w w.closed)
