-- The windows of a node that has one open, and of one that has none.
use Rattle.std.specs.Prelude.{◌≡◌, ⊤, ℕ, ◌≤◌, List, [], ◌∷◌, Contains, true, is_some, Some, None}
use Rattle.std.specs.Option.{IfSome}
use Rattle.node_core.specs.declared.stage.Stage.{Stage}
use Rattle.node_core.specs.declared.stage.Stage.TheVariants.{Idle, Scanning, AwaitFrame, AwaitSlot, InWindow}
use Rattle.node_core.specs.Windows.{Window}
use Rattle.node_core.specs.Nodes.{Node}
use Rattle.air_log.specs.WindowLogs.{WindowLog, Closing}
use Rattle.air_log.specs.Devices.{Power, PowerOff, PowerOn}
use Rattle.law_safety.specs.SetAlarms.{rank_at}
use Rattle.law_windows.specs.WindowRows.{node_in_window}

-- all have closed
abbrev pub AreClosed : List WindowLog → Type 0
AreClosed logs = (x : WindowLog) → Contains logs x → is_some x.closed ≡ true

-- it is open, or has closed by this tick
abbrev pub ClosedBy : ℕ → WindowLog → Type 0
ClosedBy t x = IfSome x.closed (λ c. c.tick ≤ t)

pub record HasClosedBy (t : ℕ) (x : WindowLog) : Type 0 where
  pub closing : Closing
  pub is : x.closed ≡ Some closing
  pub by : closing.tick ≤ t

-- each has closed before the next opened; the last is first
abbrev pub CloseBeforeNext : List WindowLog → Type 0
CloseBeforeNext [] = ⊤
CloseBeforeNext (x ∷ xs) = ((y : WindowLog) → Contains xs y → HasClosedBy x.opened y) × CloseBeforeNext xs

-- both are of one slot of one round
pub record SameWindowSlot (x y : WindowLog) : Type 0 where
  pub rank : x.rank ≡ y.rank
  pub frame : x.frame ≡ y.frame
  pub slot : x.slot ≡ y.slot

-- x is the window of slot j in which the node is
pub record IsOpenWindow (n : Node) (j : ℕ) (w : Window) (x : WindowLog) : Type 0 where
  pub slot : x.slot ≡ j
  pub last : x.last ≡ w
  pub open_ : x.closed ≡ None
  pub node : n ≡ node_in_window x
  pub frame : x.frame ≡ n.frame
  pub rank : x.rank ≡ rank_at n

-- the last one is that, and all before it have closed
pub record IsOpenFirst (logs : List WindowLog) (n : Node) (j : ℕ) (w : Window) : Type 0 where
  pub first : WindowLog
  pub earlier : List WindowLog
  pub is : logs ≡ first ∷ earlier
  pub now : IsOpenWindow n j w first
  pub closed : AreClosed earlier

abbrev pub StandAt : List WindowLog → Node → Stage → Type 0
StandAt logs n Idle = AreClosed logs
StandAt logs n Scanning = AreClosed logs
StandAt logs n AwaitFrame = AreClosed logs
StandAt logs n (AwaitSlot j) = AreClosed logs
StandAt logs n (InWindow j w) = IsOpenFirst logs n j w

abbrev pub StandBy : List WindowLog → Power → Type 0
StandBy logs (PowerOff boots) = AreClosed logs
StandBy logs (PowerOn n) = StandAt logs n n.stage
