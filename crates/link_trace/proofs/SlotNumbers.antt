-- The numbers of the slots of lines: they rise with the lines, and a line of a step is of its slot.
use Rattle.std.proofs.Common.{◌≡◌, ℕ, ◌*◌, ◌<◌, ◌≤◌, true, ◌&&◌, ◌||◌, ◌==◌, nat_lt, nat_le, List, get_or, arith, inl, inr}
use Rattle.std.proofs.lemmas.Bool.{cases_lt, lt-ltb, le-ltb}
use Rattle.std.proofs.lemmas.Bool.Decides.{nat_tests}
use Rattle.std.specs.List.{AllPairs}
use Rattle.lwb_base.specs.declared.limits.TheConstants.{MOST_FRAMES}
use Rattle.link_trace.specs.declared.lines.LoseLine.{LoseLine}
use Rattle.link_trace.specs.declared.lines.CutLine.{CutLine}
use Rattle.link_trace.specs.declared.lines.CaptureLine.{CaptureLine}
use Rattle.link_trace.specs.Order.{Ascends, by_loss, by_cut, by_capture}
use Rattle.link_trace.specs.Passes.{cuts_by, is_capture, is_loss}
use Rattle.link_trace.specs.Starts.{of_capture, of_cut, of_loss, slot_number}
use Rattle.link_trace.proofs.Together.{Rises, steps_rise}

small : (f j : ℕ) → slot_number f j ≤ 64 * MOST_FRAMES
small f j = elim (cases_lt f MOST_FRAMES) [
  | inl near ↦ rw (lt-ltb f MOST_FRAMES near) (omega arith)
  | inr far ↦ rw (le-ltb f MOST_FRAMES far) (omega arith)
]

in_frames : (f j g i : ℕ) → f ≤ g → (f ≡ g → j ≤ i) → g < MOST_FRAMES → slot_number f j ≤ slot_number g i
in_frames f j g i frames slots near =
    rw (lt-ltb f MOST_FRAMES (omega arith), lt-ltb g MOST_FRAMES near)
    (elim (cases_lt f g) [
      | inl earlier ↦ omega arith
      | inr not_earlier ↦ let same : f ≡ g = omega arith in let slot = slots same in omega arith
    ])

rise : (f j g i : ℕ) → f ≤ g → (f ≡ g → j ≤ i) → slot_number f j ≤ slot_number g i
rise f j g i frames slots = elim (cases_lt g MOST_FRAMES) [
  | inl near ↦ in_frames f j g i frames slots near
  | inr far ↦ rw (le-ltb g MOST_FRAMES far) (small f j)
]

rise_with : (f j k g i h : ℕ) → Rises f j k g i h → slot_number f j ≤ slot_number g i
rise_with f j k g i h rises = rise f j g i rises.frames rises.slots

pub losses_rise : (losses : List LoseLine) → Ascends by_loss losses → AllPairs (λ a b. of_loss a ≤ of_loss b) losses
losses_rise losses up i j d less inside =
    let a = get_or losses i d in
    let b = get_or losses j d in
    rise_with a.frame a.slot a.step b.frame b.slot b.step (steps_rise a.frame a.slot a.step b.frame b.slot b.step _ (up i j d less inside))

pub cuts_rise : (cuts : List CutLine) → Ascends by_cut cuts → AllPairs (λ a b. of_cut a ≤ of_cut b) cuts
cuts_rise cuts up i j d less inside =
    let a = get_or cuts i d in
    let b = get_or cuts j d in
    rise_with a.frame a.slot a.step b.frame b.slot b.step (steps_rise a.frame a.slot a.step b.frame b.slot b.step _ (up i j d less inside))

pub captures_rise : (captures : List CaptureLine) → Ascends by_capture captures → AllPairs (λ a b. of_capture a ≤ of_capture b) captures
captures_rise captures up i j d less inside =
    let a = get_or captures i d in
    let b = get_or captures j d in
    rise_with a.frame a.slot a.step b.frame b.slot b.step (steps_rise a.frame a.slot a.step b.frame b.slot b.step _ (up i j d less inside))

-- a line of the frame, in one of the slots up to j
upto : (f j g i : ℕ) → g ≡ f → i ≤ j → (slot_number f 0 ≤ slot_number g i) × (slot_number g i ≤ slot_number f j)
upto f j g i frame slot = (rise f 0 g i (omega arith) (λ same. omega arith), rise g i f j (omega arith) (λ same. slot))

pub in_frame_to : (f j k : ℕ) (l : CutLine) → cuts_by f j k l ≡ true → (slot_number f 0 ≤ of_cut l) × (of_cut l ≤ slot_number f j)
in_frame_to f j k l is = upto f j l.frame l.slot (frame l.frame l.slot l.step is) (slot l.frame l.slot l.step is)
  where
    frame : (g i h : ℕ) → ((g == f) && (nat_lt i j || ((i == j) && nat_le h k))) ≡ true → g ≡ f
    frame g i h is = grind (arith, nat_tests)

    slot : (g i h : ℕ) → ((g == f) && (nat_lt i j || ((i == j) && nat_le h k))) ≡ true → i ≤ j
    slot g i h is = grind (arith, nat_tests)

-- a line of slot j of the frame
at : (f j g i : ℕ) → g ≡ f → i ≡ j → (slot_number f j ≤ slot_number g i) × (slot_number g i ≤ slot_number f j)
at f j g i frame slot = (rise f j g i (omega arith) (λ same. omega arith), rise g i f j (omega arith) (λ same. omega arith))

pub at_loss : (f j k u v : ℕ) (l : LoseLine) → is_loss f j k u v l ≡ true → (slot_number f j ≤ of_loss l) × (of_loss l ≤ slot_number f j)
at_loss f j k u v l is = at f j l.frame l.slot (frame l.frame l.slot l.step l.from l.to is) (slot l.frame l.slot l.step l.from l.to is)
  where
    frame : (g i h x y : ℕ) → ((g == f) && (i == j) && (h == k) && (x == u) && (y == v)) ≡ true → g ≡ f
    frame g i h x y is = grind (arith, nat_tests)

    slot : (g i h x y : ℕ) → ((g == f) && (i == j) && (h == k) && (x == u) && (y == v)) ≡ true → i ≡ j
    slot g i h x y is = grind (arith, nat_tests)

pub at_capture : (f j k v : ℕ) (l : CaptureLine) → is_capture f j k v l ≡ true → (slot_number f j ≤ of_capture l) × (of_capture l ≤ slot_number f j)
at_capture f j k v l is = at f j l.frame l.slot (frame l.frame l.slot l.step l.at is) (slot l.frame l.slot l.step l.at is)
  where
    frame : (g i h u : ℕ) → ((g == f) && (i == j) && (h == k) && (u == v)) ≡ true → g ≡ f
    frame g i h u is = grind (arith, nat_tests)

    slot : (g i h u : ℕ) → ((g == f) && (i == j) && (h == k) && (u == v)) ≡ true → i ≡ j
    slot g i h u is = grind (arith, nat_tests)
