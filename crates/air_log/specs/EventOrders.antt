-- What a radio with four places keeps.
use Rattle.std.specs.Prelude.{◌≡◌, ℕ, List, [], ◌++◌, true, option_to_list, is_some, Some, None}
use Rattle.std.specs.declared.option.Option.{Option}
use Rattle.lwb_base.specs.declared.order.Order.{Order}
use Rattle.lwb_base.specs.declared.order.Order.TheVariants.{Listen, Off, SendAt, Alarm}
use Rattle.lwb_base.specs.Orders.{Told}
use Rattle.air_log.specs.declared.event_radio.OrderRef.{OrderRef}
use Rattle.air_log.specs.declared.event_radio.OrderRef.TheVariants.{Listen as ListenRef, Off as OffRef, SendAt as SendRef, Alarm as AlarmRef}
use Rattle.air_log.specs.declared.event_radio.Kept.{Kept}
use Rattle.air_log.specs.declared.event_radio.Kept.TheVariants.{Listen as KeptListen, Off as KeptOff, SendAt as KeptSend, Alarm as KeptAlarm}

-- an order whose packet is behind a reference
abbrev pub order_of : OrderRef → Order
order_of (ListenRef rank) = Listen rank
order_of OffRef = Off
order_of (SendRef local packet) = SendAt local packet.now
order_of (AlarmRef local) = Alarm local

-- an order whose packet is next to it
abbrev pub order_with : Option Kept → Option (List ℕ) → Option Order
order_with None packet = None
order_with (Some (KeptListen rank)) packet = Some (Listen rank)
order_with (Some KeptOff) packet = Some Off
order_with (Some (KeptSend local)) None = None
order_with (Some (KeptSend local)) (Some packet) = Some (SendAt local packet)
order_with (Some (KeptAlarm local)) packet = Some (Alarm local)

-- the orders in its places, one after another
abbrev pub kept_in : Option Order → Option Order → Option Order → Option Order → List Order
kept_in a b c d = option_to_list a ++ option_to_list b ++ option_to_list c ++ option_to_list d

-- how many places there are after the last order
abbrev pub room_in : Option Order → Option Order → Option Order → Option Order → ℕ
room_in a b c (Some x) = 0
room_in a b (Some x) None = 1
room_in a (Some x) None None = 2
room_in (Some x) None None None = 3
room_in None None None None = 4

-- before a place with an order none is empty
abbrev pub IsFilled : Option Order → Option Order → Option Order → Option Order → Type 0
IsFilled a b c d = (is_some b ≡ true → is_some a ≡ true) × (is_some c ≡ true → is_some b ≡ true) × (is_some d ≡ true → is_some c ≡ true)

abbrev pub no_orders : Told
no_orders = record { given = []; room = 4 }
