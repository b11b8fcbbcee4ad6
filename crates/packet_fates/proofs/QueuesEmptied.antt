-- What is known of the queues that are emptied next, with one line more above.
use Rattle.std.proofs.Common.{◌≡◌, ◌==◌, ◌&&◌, ℕ, List, Bool, true, false, cond, if◌then◌else◌, Option, Some, None, filter, not, refl}
use Rattle.std.proofs.Common.{sym, ◌∙◌, ap}
use Rattle.std.proofs.lemmas.Bool.{and_parts, eqb-true}
use Rattle.std.proofs.lemmas.Map.Entries.{lookup-filter-keys}
use Rattle.std.specs.BTreeMap.{BTreeMap, get, is_at}
use Rattle.std.specs.Cmp.{both_tied, nat_eq_equiv, unsigned_tied, unsigned_ties}
use Rattle.std.specs.Map.{lookup}
use Rattle.std.specs.Ordering.{nat_cmp}
use Rattle.std.specs.Option.{option_or}
use Rattle.packet_fates.specs.declared.emptyings.Emptyings.{Emptyings}
use Rattle.packet_fates.specs.Clearings.{next_emptying, queue_cmp}

-- ---- one queue, and those of one node

pub at_queue : (n m v i : ℕ) → is_at (queue_cmp (n, m)) (v, i) ≡ ((n == v) && (m == i))
at_queue n m v i = sym (both_tied (n == v) (m == i) (nat_cmp n v) (nat_cmp m i) (unsigned_ties n v) (unsigned_ties m i))

or_first : {T : Type 0} (b : Bool) (x : T) (o p : Option T) → option_or (cond b (Some x) o) p ≡ cond b (Some x) (option_or o p)
or_first true x o p = refl
or_first false x o p = refl

-- the stream m of node n is left in this frame
pub left_next : (before after : Emptyings) (n m frame : ℕ) →
    ((q : ℕ × ℕ) → get queue_cmp after.leaves q ≡ cond (is_at (queue_cmp (n, m)) q) (Some frame) (get queue_cmp before.leaves q))
    → after.offs ≡ before.offs → (v i : ℕ) → next_emptying after v i ≡ (if (n == v) && (i == m) then Some frame else next_emptying before v i)
left_next before after n m frame updated same v i =
    ap (λ (o : BTreeMap ℕ ℕ). option_or (get queue_cmp after.leaves (v, i)) (get nat_cmp o v)) same
    ∙ ap (λ (o : Option ℕ). option_or o (get nat_cmp before.offs v)) (updated (v, i))
    ∙ or_first (is_at (queue_cmp (n, m)) (v, i)) frame (get queue_cmp before.leaves (v, i)) (get nat_cmp before.offs v)
    ∙ ap (λ (b : Bool). cond b (Some frame) (next_emptying before v i)) (at_queue n m v i ∙ ap (λ (b : Bool). (n == v) && b) (nat_eq_equiv.symm m i))

-- node n is off in this frame
pub off_next : (before after : Emptyings) (n frame : ℕ) → after.leaves.entries ≡ filter (λ e. not (e.0.0 == n)) before.leaves.entries
    → ((q : ℕ) → get nat_cmp after.offs q ≡ cond (is_at (nat_cmp n) q) (Some frame) (get nat_cmp before.offs q))
    → (v i : ℕ) → next_emptying after v i ≡ (if n == v then Some frame else next_emptying before v i)
off_next before after n frame kept updated v i =
    ap (λ (es : List ((ℕ × ℕ) × ℕ)). option_or (lookup (is_at (queue_cmp (v, i))) es) (get nat_cmp after.offs v)) kept
    ∙ ap (λ (o : Option ℕ). option_or o (get nat_cmp after.offs v)) left
    ∙ ap (λ (o : Option ℕ). option_or (cond (not (v == n)) (get queue_cmp before.leaves (v, i)) None) o) (updated v
    ∙ ap (λ (b : Bool). cond b (Some frame) (get nat_cmp before.offs v)) (unsigned_tied n v))
    ∙ ap (λ (b : Bool). option_or (cond (not b) (get queue_cmp before.leaves (v, i)) None) (cond (n == v) (Some frame) (get nat_cmp before.offs v)))
    (nat_eq_equiv.symm v n)
    ∙ by_test (n == v)
  where
    left : lookup (is_at (queue_cmp (v, i))) (filter (λ e. not (e.0.0 == n)) before.leaves.entries)
        ≡ cond (not (v == n)) (get queue_cmp before.leaves (v, i)) None
    left = lookup-filter-keys (is_at (queue_cmp (v, i))) (λ (q : ℕ × ℕ). not (q.0 == n)) (not (v == n)) same_node before.leaves.entries
      where
        same_node : (q : ℕ × ℕ) → is_at (queue_cmp (v, i)) q ≡ true → not (q.0 == n) ≡ not (v == n)
        same_node q is = ap (λ (u : ℕ). not (u == n)) (sym (eqb-true v q.0 (and_parts (v == q.0) (i == q.1) (sym (at_queue v i q.0 q.1) ∙ is)).0))

    by_test : (b : Bool) → option_or (cond (not b) (get queue_cmp before.leaves (v, i)) None) (cond b (Some frame) (get nat_cmp before.offs v))
        ≡ cond b (Some frame) (option_or (get queue_cmp before.leaves (v, i)) (get nat_cmp before.offs v))
    by_test true = refl
    by_test false = refl
