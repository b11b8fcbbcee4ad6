-- The least of the ticks at which something is due at a course.
use Rattle.std.proofs.Common.{ℕ, ◌≤◌, Option}
use Rattle.std.proofs.Common.{Some, None, option_map, IfSome, arith}
use Rattle.air_log.specs.declared.entry.HeardEntry.{HeardEntry}
use Rattle.air_log.specs.DeviceStates.{DeviceState}
use Rattle.air_log.specs.Courses.{end_of_reception}
use Rattle.air_log.specs.Courses.{least_of, least_due}
use Rattle.air_log.specs.DeviceStates.{tick_of_ordered as ordered_tick}

-- the least of what is due comes no later than any of it
least_below : (t : ℕ) (o : Option ℕ) → (least_of t o ≤ t) × IfSome o (λ u. least_of t o ≤ u)
least_below t None = (omega arith, tt)
least_below t (Some u) = (omega arith, omega arith)

least_above : (a t : ℕ) (o : Option ℕ) → a ≤ t → IfSome o (λ u. a ≤ u) → a ≤ least_of t o
least_above a t None le some = le
least_above a t (Some u) le some = omega (arith, le, some)

pub if_some_map : {X : Type 0} (g : X → ℕ) (o : Option X) (P : ℕ → Type 0) → IfSome o (λ x. P (g x)) → IfSome (option_map g o) P
if_some_map g None P some = tt
if_some_map g (Some x) P some = some

pub from_some_map : {X : Type 0} (g : X → ℕ) (o : Option X) (P : ℕ → Type 0) → IfSome (option_map g o) P → IfSome o (λ x. P (g x))
from_some_map g None P some = tt
from_some_map g (Some x) P some = some

if_some_weaker : (o : Option ℕ) (a b : ℕ) → a ≤ b → IfSome o (λ u. b ≤ u) → IfSome o (λ u. a ≤ u)
if_some_weaker None a b le some = tt
if_some_weaker (Some u) a b le some = omega (arith, le, some)

pub record IsLeast (d : DeviceState) (h : Option HeardEntry) (until u : ℕ) : Type 0 where
  pub within : u ≤ until
  pub alarm : IfSome d.alarm (λ x. u ≤ x)
  pub ordered : IfSome d.ordered (λ o. u ≤ o.tick)
  pub busy : IfSome d.busy_until (λ x. u ≤ x)
  pub next : IfSome h (λ x. u ≤ x.end)

pub is_least : (d : DeviceState) (h : Option HeardEntry) (until : ℕ) → IsLeast d h until (least_due d h until)
is_least d h until =
    let a = least_of until d.alarm in
    let b = least_of a (option_map ordered_tick d.ordered) in
    let e = least_of b d.busy_until in
    let u = least_of e (option_map end_of_reception h) in
    let one = least_below until d.alarm in
    let two = least_below a (option_map ordered_tick d.ordered) in
    let three = least_below b d.busy_until in
    let four = least_below e (option_map end_of_reception h) in
    record {
      within = omega (arith, one.0, two.0, three.0, four.0);
      alarm = if_some_weaker d.alarm u a (omega (arith, two.0, three.0, four.0)) one.1;
      ordered =
          from_some_map ordered_tick d.ordered (λ x. u ≤ x) (if_some_weaker (option_map ordered_tick d.ordered) u b (omega (arith, three.0, four.0)) two.1);
      busy = if_some_weaker d.busy_until u e (omega (arith, four.0)) three.1;
      next = from_some_map end_of_reception h (λ x. u ≤ x) four.1;
    }

pub no_earlier : (d : DeviceState) (h : Option HeardEntry) (until a : ℕ) → a ≤ until → IfSome d.alarm (λ x. a ≤ x) → IfSome d.ordered (λ o. a ≤ o.tick)
    → IfSome d.busy_until (λ x. a ≤ x) → IfSome h (λ x. a ≤ x.end) → a ≤ least_due d h until
no_earlier d h until a within alarm ordered busy next =
    least_above a _ (option_map end_of_reception h)
    (least_above a _ d.busy_until
    (least_above a _ (option_map ordered_tick d.ordered) (least_above a until d.alarm within alarm) (if_some_map ordered_tick d.ordered (λ x. a ≤ x) ordered))
    busy)
    (if_some_map end_of_reception h (λ x. a ≤ x) next)
