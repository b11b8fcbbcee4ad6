-- What a contract sees of one flood at one node.
use Rattle.std.specs.Prelude.{ℕ, List, Bool, true, false, None, Some, slice_index, unwrap_or}
use Rattle.std.specs.declared.option.Option.{Option}
use Rattle.lwb_packets.specs.declared.kind.Kind.{Kind}
use Rattle.lwb_packets.specs.declared.kind.Kind.TheVariants.{Payload}
use Rattle.lwb_packets.specs.Kinds.{kind_in}

-- the kind and slot of its packets, the most transmissions, the transmissions that ended, whether one is ordered, whether the
-- flood began here, and the first packet
pub record FloodState : Type 0 where
  pub kind : Kind
  pub slot : ℕ
  pub limit : ℕ
  pub sent : ℕ
  pub waiting : Bool
  pub initiated : Bool
  pub first : Option (List ℕ)

-- a node that listens from the beginning
abbrev pub listening : Kind → ℕ → ℕ → FloodState
listening kind slot n = record { kind = kind; slot = slot; limit = n; sent = 0; waiting = false; initiated = false; first = None }

-- the kind that a packet's first byte names. Each spelling names one
abbrev pub kind_named : List ℕ → Kind
kind_named p = unwrap_or (kind_in p) Payload

-- a node that begins the flood of this packet: its first transmission is ordered
abbrev pub initiating : List ℕ → ℕ → FloodState
initiating p n = record { kind = kind_named p; slot = slice_index p 1; limit = n; sent = 0; waiting = true; initiated = true; first = Some p }
