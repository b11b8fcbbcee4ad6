-- The order of the lines of each kind, by their fields from first to last, and a line added in its order.
use Rattle.std.specs.Prelude.{◌≡◌, ℕ, ◌<◌, ◌≤◌, List, [], ◌∷◌, Bool, true, false, length, slice_index_or, if◌then◌else◌}
use Rattle.std.specs.declared.cmp.Ordering.{Ordering}
use Rattle.std.specs.declared.cmp.Ordering.TheVariants.{Less, Greater}
use Rattle.std.specs.Ordering.{nat_cmp, ordering_then, is_lt}
use Rattle.std.specs.List.{AllPairs, AllWithin}
use Rattle.link_trace.specs.declared.lines.LinkLine.{LinkLine}
use Rattle.link_trace.specs.declared.lines.LoseLine.{LoseLine}
use Rattle.link_trace.specs.declared.lines.CutLine.{CutLine}
use Rattle.link_trace.specs.declared.lines.CaptureLine.{CaptureLine}
use Rattle.link_trace.specs.Passes.{Lines}

abbrev pub by_link : LinkLine → LinkLine → Ordering
by_link a b = ordering_then (nat_cmp a.from b.from) (nat_cmp a.to b.to)

-- by frame, slot and step, and then as the rest says
abbrev pub by_step : ℕ × ℕ × ℕ → ℕ × ℕ × ℕ → Ordering → Ordering
by_step a b rest = ordering_then (nat_cmp a.0 b.0) (ordering_then (nat_cmp a.1 b.1) (ordering_then (nat_cmp a.2 b.2) rest))

abbrev pub by_loss : LoseLine → LoseLine → Ordering
by_loss a b = by_step (a.frame, a.slot, a.step) (b.frame, b.slot, b.step) (ordering_then (nat_cmp a.from b.from) (nat_cmp a.to b.to))

abbrev pub by_cut : CutLine → CutLine → Ordering
by_cut a b = by_step (a.frame, a.slot, a.step) (b.frame, b.slot, b.step) (nat_cmp a.node b.node)

-- the sender is no part of the key
abbrev pub by_capture : CaptureLine → CaptureLine → Ordering
by_capture a b = by_step (a.frame, a.slot, a.step) (b.frame, b.slot, b.step) (nat_cmp a.at b.at)

-- each line is below those after it
abbrev pub Ascends : {L : Type 0} → (L → L → Ordering) → List L → Type 0
Ascends order ls = AllPairs (λ a b. order a b ≡ Less) ls

-- the lines with one more, which is after those below it
abbrev pub with_line : {L : Type 0} → (L → L → Ordering) → L → List L → List L
with_line order l [] = l ∷ []
with_line order l (x ∷ xs) = if is_lt (order x l) then x ∷ with_line order l xs else l ∷ x ∷ xs

abbrev pub with_link : LinkLine → Lines → Lines
with_link l t = record t { links = with_line by_link l t.links }

abbrev pub with_loss : LoseLine → Lines → Lines
with_loss l t = record t { losses = with_line by_loss l t.losses }

abbrev pub with_cut : CutLine → Lines → Lines
with_cut l t = record t { cuts = with_line by_cut l t.cuts }

abbrev pub with_capture : CaptureLine → Lines → Lines
with_capture l t = record t { captures = with_line by_capture l t.captures }

-- the lines below l are before the place, and those above it from the place on; no other line is there
pub record HasPlace {L : Type 0} (order : L → L → Ordering) (ls : List L) (l : L) (at : ℕ) : Type 0 where
  pub within : at ≤ length ls
  pub below : AllWithin (λ x. order x l ≡ Less) ls 0 at
  pub above : AllWithin (λ x. order x l ≡ Greater) ls at (length ls)

-- the line at the place is the first that passes
pub record IsFirst {L : Type 0} (test : L → Bool) (ls : List L) (at : ℕ) : Type 0 where
  pub within : at < length ls
  pub here : (d : L) → test (slice_index_or ls at d) ≡ true
  pub earlier : AllWithin (λ x. test x ≡ false) ls 0 at

-- each list of lines is in its order
pub record AreInOrder (t : Lines) : Type 0 where
  pub links : Ascends by_link t.links
  pub losses : Ascends by_loss t.losses
  pub cuts : Ascends by_cut t.cuts
  pub captures : Ascends by_capture t.captures
