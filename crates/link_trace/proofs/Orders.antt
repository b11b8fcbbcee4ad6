-- The orders of the lines are total, and tell lines apart as the tests do.
use Rattle.std.proofs.Common.{◌≡◌, ℕ, Bool, true, false, ◌&&◌, ◌==◌, refl, ◌∙◌, arith}
use Rattle.std.proofs.lemmas.Bool.Decides.{nat_tests}
use Rattle.std.proofs.lemmas.Cmp.{nat_cmp_total, on_total, then_total}
use Rattle.std.specs.Cmp.{IsTotalOrder}
use Rattle.std.specs.Ordering.{nat_cmp, ordering_then, is_eq}
use Rattle.std.specs.declared.cmp.Ordering.{Ordering}
use Rattle.std.specs.declared.cmp.Ordering.TheVariants.{Less, Equal, Greater}
use Rattle.link_trace.specs.declared.lines.LinkLine.{LinkLine}
use Rattle.link_trace.specs.declared.lines.LoseLine.{LoseLine}
use Rattle.link_trace.specs.declared.lines.CutLine.{CutLine}
use Rattle.link_trace.specs.declared.lines.CaptureLine.{CaptureLine}
use Rattle.link_trace.specs.Order.{by_link, by_loss, by_cut, by_capture}
use Rattle.link_trace.specs.Passes.{is_link, is_loss, is_cut, is_capture}

pub by_link_total : IsTotalOrder by_link
by_link_total = then_total (on_total (λ (l : LinkLine). l.from) nat_cmp_total) (on_total (λ (l : LinkLine). l.to) nat_cmp_total)

pub by_loss_total : IsTotalOrder by_loss
by_loss_total =
    then_total (on_total (λ (l : LoseLine). l.frame) nat_cmp_total)
    (then_total (on_total (λ (l : LoseLine). l.slot) nat_cmp_total)
    (then_total (on_total (λ (l : LoseLine). l.step) nat_cmp_total)
    (then_total (on_total (λ (l : LoseLine). l.from) nat_cmp_total) (on_total (λ (l : LoseLine). l.to) nat_cmp_total))))

pub by_cut_total : IsTotalOrder by_cut
by_cut_total =
    then_total (on_total (λ (l : CutLine). l.frame) nat_cmp_total)
    (then_total (on_total (λ (l : CutLine). l.slot) nat_cmp_total)
    (then_total (on_total (λ (l : CutLine). l.step) nat_cmp_total) (on_total (λ (l : CutLine). l.node) nat_cmp_total)))

pub by_capture_total : IsTotalOrder by_capture
by_capture_total =
    then_total (on_total (λ (l : CaptureLine). l.frame) nat_cmp_total)
    (then_total (on_total (λ (l : CaptureLine). l.slot) nat_cmp_total)
    (then_total (on_total (λ (l : CaptureLine). l.step) nat_cmp_total) (on_total (λ (l : CaptureLine). l.at) nat_cmp_total)))

eq_then : (a b : Ordering) → is_eq (ordering_then a b) ≡ (is_eq a && is_eq b)
eq_then Less b = refl
eq_then Equal b = refl
eq_then Greater b = refl

eq_cmp : (x y : ℕ) → is_eq (nat_cmp x y) ≡ (x == y)
eq_cmp x y = grind (arith, nat_tests)

together : (a b c : Bool) → (a && (b && c)) ≡ ((a && b) && c)
together true b c = refl
together false b c = refl

two : (a b x y : ℕ) → is_eq (ordering_then (nat_cmp a x) (nat_cmp b y)) ≡ ((a == x) && (b == y))
two a b x y = rw (eq_then, eq_cmp a x, eq_cmp b y) refl

pub tells_link : (u v : ℕ) (l : LinkLine) → is_eq (by_link l (record { from = u; to = v })) ≡ is_link u v l
tells_link u v l = two l.from l.to u v

pub tells_cut : (f j k v : ℕ) (l : CutLine) → is_eq (by_cut l (record { frame = f; slot = j; step = k; node = v })) ≡ is_cut f j k v l
tells_cut f j k v l =
    rw (eq_then, eq_cmp l.frame f, eq_then, eq_cmp l.slot j, eq_then, eq_cmp l.step k, eq_cmp l.node v)
    (together (l.frame == f) (l.slot == j) ((l.step == k) && (l.node == v)) ∙ together ((l.frame == f) && (l.slot == j)) (l.step == k) (l.node == v))

pub tells_capture : (f j k v u : ℕ) (l : CaptureLine) → is_eq (by_capture l (record { frame = f; slot = j; step = k; at = v; from = u })) ≡ is_capture f j k v l
tells_capture f j k v u l =
    rw (eq_then, eq_cmp l.frame f, eq_then, eq_cmp l.slot j, eq_then, eq_cmp l.step k, eq_cmp l.at v)
    (together (l.frame == f) (l.slot == j) ((l.step == k) && (l.at == v)) ∙ together ((l.frame == f) && (l.slot == j)) (l.step == k) (l.at == v))

pub tells_loss : (f j k u v : ℕ) (l : LoseLine) → is_eq (by_loss l (record { frame = f; slot = j; step = k; from = u; to = v })) ≡ is_loss f j k u v l
tells_loss f j k u v l =
    rw (eq_then, eq_cmp l.frame f, eq_then, eq_cmp l.slot j, eq_then, eq_cmp l.step k, eq_then, eq_cmp l.from u, eq_cmp l.to v)
    (together (l.frame == f) (l.slot == j) ((l.step == k) && ((l.from == u) && (l.to == v)))
    ∙ together ((l.frame == f) && (l.slot == j)) (l.step == k) ((l.from == u) && (l.to == v))
    ∙ together ((l.frame == f) && (l.slot == j) && (l.step == k)) (l.from == u) (l.to == v))
