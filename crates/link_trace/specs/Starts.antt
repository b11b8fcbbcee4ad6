-- Where the lines of each slot begin in an ascending list of lines.
use Rattle.std.specs.Prelude.{◌≡◌, ℕ, ◌+◌, ◌*◌, ◌<◌, ◌≤◌, List, [], Bool, true, nat_lt, min, length, slice_index, if◌then◌else◌}
use Rattle.std.specs.declared.cmp.Ordering.{Ordering}
use Rattle.std.specs.List.{filter}
use Rattle.std.specs.List.Sorted.{IsPartitionPoint}
use Rattle.lwb_base.specs.declared.limits.TheConstants.{MOST_FRAMES}
use Rattle.link_trace.specs.declared.lines.LoseLine.{LoseLine}
use Rattle.link_trace.specs.declared.lines.CutLine.{CutLine}
use Rattle.link_trace.specs.declared.lines.CaptureLine.{CaptureLine}
use Rattle.link_trace.specs.declared.starts.Starts.{Starts}
use Rattle.link_trace.specs.Order.{Ascends}
use Rattle.link_trace.specs.Passes.{Lines}

-- the slots counted through the frames, 64 to a frame: slots from 63 on count as one, and so do all frames past the last of a scenario
abbrev pub slot_number : ℕ → ℕ → ℕ
slot_number f j = if nat_lt f MOST_FRAMES then 64 * f + min j 63 else 64 * MOST_FRAMES

abbrev pub of_loss : LoseLine → ℕ
of_loss l = slot_number l.frame l.slot

abbrev pub of_cut : CutLine → ℕ
of_cut l = slot_number l.frame l.slot

abbrev pub of_capture : CaptureLine → ℕ
of_capture l = slot_number l.frame l.slot

-- the lines before start k are of slots below k, and those from it on are of slot k or a later one
pub record AreStarts {L : Type 0} (slot_of : L → ℕ) (lines : List L) (starts : List ℕ) : Type 0 where
  pub within : (k : ℕ) → k < length starts → slice_index starts k ≤ length lines
  pub parted : (k : ℕ) → k < length starts → IsPartitionPoint (λ l. slot_of l < k) (λ l. k ≤ slot_of l) lines (slice_index starts k)

-- the part is in the order of the lines, and holds all those of the slots from first to last
pub record HoldsSlots {L : Type 0} (slot_of : L → ℕ) (lines part : List L) (first last : ℕ) : Type 0 where
  pub ascends : (order : L → L → Ordering) → Ascends order lines → Ascends order part
  pub all : (test : L → Bool) → ((l : L) → test l ≡ true → (first ≤ slot_of l) × (slot_of l ≤ last)) → filter test part ≡ filter test lines

-- the starts of each list of lines
pub record AreStartsOf (t : Lines) (starts : Starts) : Type 0 where
  pub losses : AreStarts of_loss t.losses starts.losses.items
  pub cuts : AreStarts of_cut t.cuts starts.cuts.items
  pub captures : AreStarts of_capture t.captures starts.captures.items

pub record AreNone (starts : Starts) : Type 0 where
  pub losses : starts.losses.items ≡ []
  pub cuts : starts.cuts.items ≡ []
  pub captures : starts.captures.items ≡ []
