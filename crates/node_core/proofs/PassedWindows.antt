-- The closing of a window in which nothing was accepted.
use Rattle.std.proofs.Common.{◌≡◌, ℕ, List, Option, Some, None, false, is_some, option_map, option_and_then, refl, ◌∙◌, ap}
use Rattle.glossy_relay.specs.Relaying.{accepted_of}
use Rattle.bus_rules.specs.Cores.{Setup}
use Rattle.bus_rules.specs.Tuning.{rank_of}
use Rattle.bus_rules.specs.Slots.{Message, Closed, closed_slot, delivery_of}
use Rattle.lwb_member.specs.Said.{message_of}
use Rattle.node_core.specs.Nodes.{Node}
use Rattle.node_core.specs.Windows.{Window}
use Rattle.node_core.specs.Rows.{Stepped, row_to_next_slot, zero_by, window_closes}
use Rattle.node_core.proofs.WindowKinds.{zero_stays}

pub said_none : (a : Option (List ℕ × ℕ)) → is_some a ≡ false → option_and_then (λ (x : List ℕ × ℕ). message_of x.0) a ≡ None
said_none None is = refl
said_none (Some x) is = cc

-- the node of such a window, before it goes on
abbrev pub passed : Setup → Node → Window → Node
passed s n w = record n { core = (closed_slot s n.frame w.part w.flood.initiated n.core None).core }

pub window_passes : (s : Setup) (n : Node) (j : ℕ) (w : Window) → is_some (accepted_of w.flood) ≡ false
    → window_closes s n j w ≡ row_to_next_slot s j w.last (passed s n w) None
window_passes s n j w none =
    let core : Option Message → Closed = λ m. closed_slot s n.frame w.part w.flood.initiated n.core m in
    let node : Option Message → Node = λ m. record n { core = (core m).core; zero = zero_by s.profile n.zero w.reference m } in
    let of : Option Message → Stepped =
    λ m. row_to_next_slot s j w.last (node m) (option_map (delivery_of s.id n.frame (rank_of n.core.tune) j) (core m).delivered) in
    let at : ℕ → Stepped = λ z. row_to_next_slot s j w.last (record n { core = (core None).core; zero = z }) None in
    ap of (said_none (accepted_of w.flood) none) ∙ ap at (zero_stays s.profile n.zero w.reference)
