-- The tuning of a node: what it scans, holds or hosts, and how that changes at the end of a frame.
use Rattle.std.specs.Prelude.{ℕ, ◌+◌, ◌%◌, ◌<◌, ◌≤◌, Bool, true, false, ◌&&◌, ◌==◌, nat_lt, if◌then◌else◌, Some, None, ⊤}
use Rattle.std.specs.declared.option.Option.{Option}
use Rattle.std.specs.Option.{IfSome}
use Rattle.lwb_base.specs.declared.limits.TheConstants.{MOST_RANKS, QUIET_FRAMES, SEARCH_FRAMES}
use Rattle.bus_rules.specs.declared.tune.Tune.{Tune}
use Rattle.bus_rules.specs.declared.tune.Tune.TheVariants.{Scan, Hold, Host}

abbrev pub rank_of : Tune → ℕ
rank_of (Scan r waited) = r
rank_of (Hold r due) = r
rank_of (Host r due) = r

abbrev pub is_rank : Option ℕ → ℕ → Bool
is_rank None r = false
is_rank (Some own) r = own == r

-- a scanning node at the end of a frame. joined: it accepted the frame's opening. Of its own rank a node becomes the host after
-- QUIET_FRAMES, and each rank is scanned for SEARCH_FRAMES
abbrev pub scan_after : ℕ → ℕ → ℕ → Bool → Option ℕ → ℕ → Tune
scan_after r waited frame joined own hosts =
    if joined then Scan r 0
    else if is_rank own r && (waited + 1 == QUIET_FRAMES) then Host r (frame + 1)
    else if waited + 1 == SEARCH_FRAMES then Scan ((r + 1) % hosts) 0
    else Scan r (waited + 1)

-- the tune after the end of this frame. own: the rank that the node hosts, if it does; hosts: how many ranks there are
abbrev pub next_tune : Tune → ℕ → Bool → Option ℕ → ℕ → Tune
next_tune (Host r due) frame joined own hosts = Host r due
next_tune (Hold r due) frame joined own hosts = if nat_lt frame due then Hold r due else Scan r 0
next_tune (Scan r waited) frame joined own hosts = scan_after r waited frame joined own hosts

-- a scan has waited fewer frames than each rank is scanned for
abbrev pub HasWaited : Tune → Type 0
HasWaited (Scan r waited) = waited < SEARCH_FRAMES
HasWaited (Hold r due) = ⊤
HasWaited (Host r due) = ⊤

abbrev pub is_scan : Tune → Bool
is_scan (Scan r waited) = true
is_scan (Hold r due) = false
is_scan (Host r due) = false

abbrev pub hosts : Tune → Bool
hosts (Scan r waited) = false
hosts (Hold r due) = false
hosts (Host r due) = true

abbrev pub hosts_in : ℕ → ℕ → Tune → Bool
hosts_in rank frame (Host r due) = (r == rank) && (due == frame)
hosts_in rank frame (Hold r due) = false
hosts_in rank frame (Scan r waited) = false

abbrev pub holds_in : ℕ → ℕ → Tune → Bool
holds_in rank frame (Host r due) = false
holds_in rank frame (Hold r due) = (r == rank) && (due == frame)
holds_in rank frame (Scan r waited) = false

abbrev pub scans : ℕ → Tune → Bool
scans rank (Host r due) = false
scans rank (Hold r due) = false
scans rank (Scan r waited) = r == rank

-- the tune of a node, with what its next change goes by: whether it accepted this frame's opening as a scanning node, the rank
-- that it hosts, if it does, and how many ranks there are
pub record TuneState : Type 0 where
  pub tune : Tune
  pub joined : Bool
  pub own : Option ℕ
  pub ranks : ℕ

pub record IsTuning (t : TuneState) : Type 0 where
  pub ranks : (1 ≤ t.ranks) × (t.ranks ≤ MOST_RANKS)
  pub own : IfSome t.own (λ r. r < t.ranks)
  pub waited : HasWaited t.tune

abbrev pub booted : Option ℕ → ℕ → TuneState
booted own ranks = record { tune = Scan 0 0; joined = false; own = own; ranks = ranks }

abbrev pub tune_after_frame : ℕ → TuneState → TuneState
tune_after_frame frame t = record t { tune = next_tune t.tune frame t.joined t.own t.ranks; joined = false }

-- a host that planned hosts in the frame of its plan
abbrev pub with_due : ℕ → Tune → Tune
with_due due (Host r old) = Host r due
with_due due (Hold r old) = Hold r old
with_due due (Scan r waited) = Scan r waited
