-- How the windows of a round follow one another.
use Rattle.std.specs.Prelude.{◌≡◌, ⊤, suc, ◌<◌, ◌⊎◌, List, true, Some, Contains}
use Rattle.node_core.specs.declared.stage.Stage.{Stage}
use Rattle.node_core.specs.declared.stage.Stage.TheVariants.{Idle, Scanning, AwaitFrame, AwaitSlot, InWindow}
use Rattle.node_core.specs.Nodes.{Node}
use Rattle.air_log.specs.WindowLogs.{WindowLog, Closing}
use Rattle.air_log.specs.Devices.{Power, PowerOff, PowerOn}
use Rattle.law_safety.specs.SetAlarms.{rank_at}

-- w opened by its alarm at the node as the closing of u left it, one slot later in the same round
pub record IsNextWindow (u : WindowLog) (c : Closing) (w : WindowLog) : Type 0 where
  pub by_alarm : w.by_alarm ≡ true
  pub node : w.before ≡ c.after
  pub frame : w.frame ≡ u.frame
  pub rank : w.rank ≡ u.rank
  pub slot : w.slot ≡ suc u.slot

pub record HasNext (logs : List WindowLog) (u : WindowLog) (c : Closing) : Type 0 where
  pub next : WindowLog
  pub there : Contains logs next
  pub follows : IsNextWindow u c next

pub record HasLast (logs : List WindowLog) (w : WindowLog) : Type 0 where
  pub last : WindowLog
  pub there : Contains logs last
  pub closing : Closing
  pub closed : last.closed ≡ Some closing
  pub follows : IsNextWindow last closing w

-- the node is as the closing of u left it: it awaits the next slot
pub record IsBetween (u : WindowLog) (c : Closing) (n : Node) : Type 0 where
  pub node : c.after ≡ n
  pub awaits : n.stage ≡ AwaitSlot (suc u.slot)
  pub frame : n.frame ≡ u.frame
  pub rank : rank_at n ≡ u.rank

pub record AwaitsAfter (logs : List WindowLog) (n : Node) : Type 0 where
  pub last : WindowLog
  pub there : Contains logs last
  pub closing : Closing
  pub closed : last.closed ≡ Some closing
  pub between : IsBetween last closing n

-- whoever awaits a later slot has closed the window of the slot before
abbrev pub AwaitsAt : List WindowLog → Node → Stage → Type 0
AwaitsAt logs n Idle = ⊤
AwaitsAt logs n Scanning = ⊤
AwaitsAt logs n AwaitFrame = ⊤
AwaitsAt logs n (AwaitSlot j) = (j ≡ 0) ⊎ AwaitsAfter logs n
AwaitsAt logs n (InWindow j w) = ⊤

abbrev pub AwaitsBy : List WindowLog → Power → Type 0
AwaitsBy logs (PowerOff boots) = ⊤
AwaitsBy logs (PowerOn n) = AwaitsAt logs n n.stage

pub record IsBetweenWindows (u : WindowLog) (c : Closing) (p : Power) : Type 0 where
  pub node : Node
  pub on : p ≡ PowerOn node
  pub between : IsBetween u c node

-- each window of a later slot that opened by its alarm follows one, and each that closed with slots to come is followed by
-- one, or will be
pub record AreChained (logs : List WindowLog) (p : Power) : Type 0 where
  pub behind : (w : WindowLog) → Contains logs w → w.by_alarm ≡ true → (w.slot ≡ 0) ⊎ HasLast logs w
  pub ahead : (u : WindowLog) (c : Closing) → Contains logs u → u.closed ≡ Some c → u.slot < u.last.last
      → HasNext logs u c ⊎ IsBetweenWindows u c p
  pub awaits : AwaitsBy logs p
