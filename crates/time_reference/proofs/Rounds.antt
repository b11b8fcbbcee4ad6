-- Points of one round on two clocks.
use Rattle.std.proofs.Common.{◌≡◌, ℕ, ◌+◌, ◌*◌, ◌/◌, ◌-◌, ◌^◌, ◌<◌, ◌≤◌, ◌⊎◌, ◌↔◌, inl, inr, sym, ◌∙◌, ap, arith}
use Rattle.lwb_base.specs.Profile.{Numbers}
use Rattle.std.proofs.Math.Nat.{mul-le-mul_right}
use Rattle.std.proofs.lemmas.Bool.{cases_order}
use Rattle.lwb_base.specs.declared.limits.TheConstants.{MOST_FRAMES}
use Rattle.tick_clock.proofs.DueTicks.{reads_nominal}
use Rattle.tick_clock.specs.Clocks.{Near, IsClock, due}
use Rattle.time_reference.proofs.Ages.{age, two_legs}
use Rattle.time_reference.proofs.BudgetRoom.{window_order, frame_order, clock_room, drift_is_small, ages_end}
use Rattle.time_reference.proofs.Run.{in_run, due_in_run}
use Rattle.time_reference.specs.Budgets.{Budget, Fits}
use Rattle.time_reference.specs.Zeros.{nominal, start_tick, Ref, IsAge, Good}

pub by_gap : (p : Numbers) (x y f c g e : ℕ) → c + g ≡ f → Near (x + g * p.frame) y e ↔ Near (x + f * p.frame) (y + c * p.frame) e
by_gap p x y f c g e is =
    let same : (c + g) * p.frame ≡ f * p.frame = ap (λ (n : ℕ). n * p.frame) is in
    (λ near. omega arith, λ near. omega arith)

module _ (p : Numbers) (b : Budget) (fits : Fits p b) where
  -- the products of slots and frames, as far as their order is known
  pub record Places (f c j : ℕ) : Type 0 where
    pub slots : j * p.slot ≤ b.last * p.slot
    pub first : p.frame ≤ c * p.frame
    pub past : c * p.frame ≤ f * p.frame
    pub young : f * p.frame ≤ c * p.frame + 4 * p.frame
    pub in_run : c * p.frame ≤ 4095 * p.frame

  pub places : (H L : ℕ → ℕ) (z f c j : ℕ) → Ref p b H L z f c j → Places f c j
  places H L z f c j ref =
      let a = mul-le-mul_right p.slot ref.slot in
      let d = mul-le-mul_right p.frame ref.begun in
      let e = mul-le-mul_right p.frame ref.past in
      let g = mul-le-mul_right p.frame ref.young in
      let h = mul-le-mul_right p.frame ref.in_run in
      omega arith

  -- the age m of the reference at the offset q
  pub aged : (H L : ℕ → ℕ) (z f c j q m : ℕ) → Ref p b H L z f c j → q ≤ b.last * p.slot + p.close → (c < f) ⊎ (j * p.slot + p.close ≤ q)
      → m + j * p.slot + p.listen + c * p.frame ≡ f * p.frame + q
      → (b.age / 50000 + 57 ≤ m) × (m + p.listen + p.slot ≤ b.age + p.close)
  aged H L z f c j q m ref low after is =
      let at = places H L z f c j ref in
      let old : b.age / 50000 + 57 ≤ m = elim after [
        | inl before ↦ (let k = mul-le-mul_right p.frame before in
            omega (arith, drift_is_small p b fits, frame_order p b fits))
        | inr later ↦ omega arith
      ] in
      (old, omega arith)

  -- the host's start of slot j in frame c: its place in the run, and what the host's clock reads there
  pub record Start (H : ℕ → ℕ) (c j : ℕ) : Type 0 where
    pub below : start_tick p H c j + 256001 ≤ nominal p c j + b.clock
    pub above : nominal p c j + 1 ≤ start_tick p H c j + b.clock
    pub in_run : start_tick p H c j + 256002 ≤ MOST_FRAMES * p.frame
    pub reads : Near (H (start_tick p H c j)) (nominal p c j) 1
    pub at_least : nominal p c j ≤ H (start_tick p H c j)
    pub small : nominal p c j ≤ 2 ^ 47

  pub start : (H : ℕ → ℕ) (c j : ℕ) → IsClock H → 1 ≤ c → c ≤ 4095 → j ≤ b.last → Start H c j
  start H c j clock begun within slot =
      let a = mul-le-mul_right p.slot slot in
      let d = mul-le-mul_right p.frame begun in
      let e = mul-le-mul_right p.frame within in
      let order = frame_order p b fits in
      let room = clock_room p b fits in
      let due = due_in_run p b fits H clock (nominal p c j) (omega arith) in
      let reads = reads_nominal H (nominal p c j) clock (omega arith) (omega arith) in
      omega arith

  pub point_by_age : (H L : ℕ → ℕ) (z f c j q m : ℕ) → IsClock H → IsClock L → Ref p b H L z f c j → q ≤ b.last * p.slot + p.close
      → (c < f) ⊎ (j * p.slot + p.close ≤ q) → IsAge p f c j q m
      → Near (due L (z + q)) (start_tick p H c j + m) (b.age / 50000 + 56)
  point_by_age H L z f c j q m host clock ref low after is =
      let at = places H L z f c j ref in
      let w = start H c j host ref.begun ref.in_run ref.slot in
      let old = aged H L z f c j q m ref low after is in
      let drift = drift_is_small p b fits in
      let order = frame_order p b fits in
      let end = ages_end p b fits in
      let reads = in_run p b fits L clock (start_tick p H c j) (omega arith) in
      let near : Near (L (start_tick p H c j) + m) (z + q) 55 = omega (arith, ref.near) in
      omega (arith, age L b.age (start_tick p H c j) m (z + q) 55 clock near (omega arith) (omega arith) (omega arith))

  -- the age does not clamp
  pub has_age : (H L : ℕ → ℕ) (z f c j q : ℕ) → Ref p b H L z f c j → (c < f) ⊎ (j * p.slot + p.close ≤ q) → (m : ℕ) × IsAge p f c j q m
  has_age H L z f c j q ref after =
      let at = places H L z f c j ref in
      let order = frame_order p b fits in
      let window = window_order p b fits in
      let below : j * p.slot + p.listen + c * p.frame ≤ f * p.frame + q =
      elim after [ inl before ↦ (let k = mul-le-mul_right p.frame before in omega arith) | inr later ↦ omega arith ] in
      (f * p.frame + q - (j * p.slot + p.listen + c * p.frame), omega arith)

  abbrev pub IsLater : ℕ → ℕ → ℕ → ℕ → Type 0
  IsLater c1 j1 c2 j2 = (c1 < c2) ⊎ ((c1 ≡ c2) × (j1 < j2))

  -- from one start of the host to a later one
  pub has_gap : (c1 j1 c2 j2 : ℕ) → j1 ≤ b.last → IsLater c1 j1 c2 j2
      → (m : ℕ) × (m + j1 * p.slot + c1 * p.frame ≡ c2 * p.frame + j2 * p.slot) × (b.age / 50000 + 3 ≤ m)
  has_gap c1 j1 c2 j2 slot later =
      let a = mul-le-mul_right p.slot slot in
      let drift = drift_is_small p b fits in
      let order = frame_order p b fits in
      let apart : c1 * p.frame + j1 * p.slot + (b.age / 50000 + 3) ≤ c2 * p.frame + j2 * p.slot =
      elim later [
        | inl frames ↦ (let k = mul-le-mul_right p.frame frames in omega arith)
        | inr slots ↦ (let k = mul-le-mul_right p.slot slots.1 in let same = ap (λ (c : ℕ). c * p.frame) slots.0 in omega arith)
      ] in
      (c2 * p.frame + j2 * p.slot - (c1 * p.frame + j1 * p.slot), omega arith, omega arith)

  -- with the anchor (c1, j1) before the anchor (c2, j2)
  spread_in_order : (H L1 L2 : ℕ → ℕ) (z1 z2 f c1 j1 c2 j2 q1 q2 : ℕ) → IsClock H → IsClock L1 → IsClock L2 → Ref p b H L1 z1 f c1 j1 → Ref p b H L2 z2 f c2 j2
      → q1 ≤ b.last * p.slot + p.close → q2 ≤ b.last * p.slot + p.close → (c1 < f) ⊎ (j1 * p.slot + p.close ≤ q1) → (c2 < f) ⊎ (j2 * p.slot + p.close ≤ q2)
      → IsLater c1 j1 c2 j2 → Near (due L1 (z1 + q1) + q2) (due L2 (z2 + q2) + q1) (2 * (b.age / 50000) + 114)
  spread_in_order H L1 L2 z1 z2 f c1 j1 c2 j2 q1 q2 host clock1 clock2 ref1 ref2 low1 low2 after1 after2 later =
      let at1 = places H L1 z1 f c1 j1 ref1 in
      let at2 = places H L2 z2 f c2 j2 ref2 in
      let w1 = start H c1 j1 host ref1.begun ref1.in_run ref1.slot in
      let w2 = start H c2 j2 host ref2.begun ref2.in_run ref2.slot in
      let drift = drift_is_small p b fits in
      let order = frame_order p b fits in
      let end = ages_end p b fits in
      let window = window_order p b fits in
      let gap = has_gap c1 j1 c2 j2 ref1.slot later in
      let a1 = has_age H L1 z1 f c1 j1 q1 ref1 after1 in
      let a2 = has_age H L2 z2 f c2 j2 q2 ref2 after2 in
      let old2 = aged H L2 z2 f c2 j2 q2 a2.0 ref2 low2 after2 a2.1 in
      let first = point_by_age H L1 z1 f c1 j1 q1 a1.0 host clock1 ref1 low1 after1 a1.1 in
      let reads = in_run p b fits L2 clock2 (start_tick p H c2 j2) (omega arith) in
      let near1 : Near (H (start_tick p H c1 j1) + gap.0) (nominal p c2 j2) 1 = omega (arith, w1.reads, gap.1) in
      let near2 : Near (L2 (start_tick p H c2 j2) + a2.0) (z2 + q2) 55 = omega (arith, ref2.near, a2.1) in
      let legs = two_legs H L2 b.age (start_tick p H c1 j1) gap.0 a2.0 (nominal p c2 j2) (z2 + q2) 55 host clock2 near1 near2 (omega arith)
      (omega arith) (omega arith) (omega arith) in
      omega (arith, legs, first, a1.1, a2.1, gap.1)

  spread_at_one : (H L1 L2 : ℕ → ℕ) (z1 z2 f c1 j1 c2 j2 q1 q2 : ℕ) → IsClock H → IsClock L1 → IsClock L2 → Ref p b H L1 z1 f c1 j1 → Ref p b H L2 z2 f c2 j2
      → q1 ≤ b.last * p.slot + p.close → q2 ≤ b.last * p.slot + p.close → (c1 < f) ⊎ (j1 * p.slot + p.close ≤ q1) → (c2 < f) ⊎ (j2 * p.slot + p.close ≤ q2)
      → c1 ≡ c2 → j1 ≡ j2 → Near (due L1 (z1 + q1) + q2) (due L2 (z2 + q2) + q1) (2 * (b.age / 50000) + 114)
  spread_at_one H L1 L2 z1 z2 f c1 j1 c2 j2 q1 q2 host clock1 clock2 ref1 ref2 low1 low2 after1 after2 same_frame same_slot =
      let a1 = has_age H L1 z1 f c1 j1 q1 ref1 after1 in
      let a2 = has_age H L2 z2 f c2 j2 q2 ref2 after2 in
      let first = point_by_age H L1 z1 f c1 j1 q1 a1.0 host clock1 ref1 low1 after1 a1.1 in
      let second = point_by_age H L2 z2 f c2 j2 q2 a2.0 host clock2 ref2 low2 after2 a2.1 in
      let frames = ap (λ (c : ℕ). c * p.frame) same_frame in
      let slots = ap (λ (j : ℕ). j * p.slot) same_slot in
      let starts = ap (λ (c : ℕ). start_tick p H c j1) same_frame ∙ ap (λ (j : ℕ). start_tick p H c2 j) same_slot in
      omega (arith, first, second, a1.1, a2.1, frames, slots, starts)

  turned : (x y q r e : ℕ) → Near (x + q) (y + r) e → Near (y + r) (x + q) e
  turned x y q r e near = omega arith

  -- any two zeros of one round
  pub spread : (H L1 L2 : ℕ → ℕ) (z1 z2 f q1 q2 : ℕ) → IsClock H → IsClock L1 → IsClock L2 → Good p b H L1 z1 f q1 → Good p b H L2 z2 f q2
      → q1 ≤ b.last * p.slot + p.close → q2 ≤ b.last * p.slot + p.close → Near (due L1 (z1 + q1) + q2) (due L2 (z2 + q2) + q1) (2 * (b.age / 50000) + 114)
  spread H L1 L2 z1 z2 f q1 q2 host clock1 clock2 g1 g2 low1 low2 =
      let up : IsLater g1.c g1.j g2.c g2.j → Near (due L1 (z1 + q1) + q2) (due L2 (z2 + q2) + q1) (2 * (b.age / 50000) + 114) =
      λ later. spread_in_order H L1 L2 z1 z2 f g1.c g1.j g2.c g2.j q1 q2 host clock1 clock2 g1.ref g2.ref low1 low2 g1.after g2.after later in
      let down : IsLater g2.c g2.j g1.c g1.j → Near (due L1 (z1 + q1) + q2) (due L2 (z2 + q2) + q1) (2 * (b.age / 50000) + 114) =
      λ later. turned (due L2 (z2 + q2)) (due L1 (z1 + q1)) q1 q2 (2 * (b.age / 50000) + 114)
      (spread_in_order H L2 L1 z2 z1 f g2.c g2.j g1.c g1.j q2 q1 host clock2 clock1 g2.ref g1.ref low2 low1 g2.after g1.after later) in
      elim (cases_order g1.c g2.c) [
        | inl same_frame ↦ elim (cases_order g1.j g2.j) [
          | inl same_slot ↦ spread_at_one H L1 L2 z1 z2 f g1.c g1.j g2.c g2.j q1 q2 host clock1 clock2 g1.ref g2.ref low1 low2 g1.after
              g2.after same_frame same_slot
          | inr (inl less) ↦ up (inr (same_frame, less))
          | inr (inr more) ↦ down (inr (sym same_frame, more))
        ]
        | inr (inl less) ↦ up (inl less)
        | inr (inr more) ↦ down (inl more)
      ]
