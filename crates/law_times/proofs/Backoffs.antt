-- Tries and backoff as two numbers: what a contention slot of its own leaves of them, and when a node requests.
use Rattle.std.proofs.Common.{◌≡◌, ◌≤◌, ◌+◌, ◌-◌, ◌^◌, ◌%◌, ◌==◌, ℕ, zero, suc, List, Bool, true, false, Option, Some, None, if◌then◌else◌, is_some, is_none}
use Rattle.std.proofs.Common.{min, refl, sym, ◌∙◌, ap, subst, arith}
use Rattle.law_times.proofs.Words.{false≢true, ne_eqb, Stream, Streams, after_contention, due_stream, own_number, after_turns, requests_after, slot_after}

-- tries and skips
abbrev pub Backoff : Type 0
Backoff = ℕ × ℕ

abbrev pub turn : ℕ → Backoff → Backoff
turn node b = (if b.1 == 0 then min 4 (b.0 + 1) else b.0, if b.1 == 0 then node % 2 ^ min 4 (b.0 + 1) else b.1 - 1)

unfoldable pub turned : ℕ → Backoff → ℕ → Backoff
turned node b zero = b
turned node b (suc n) = turn node (turned node b n)

abbrev pub backoff_of : Streams → Backoff
backoff_of x = (x.tries, x.skips)

-- they are all that matters, where a request is due
pub one_turn : (node : ℕ) (x : Streams) → is_some (due_stream x) ≡ true
    → (backoff_of (after_contention node x) ≡ turn node (backoff_of x)) × ((after_contention node x).all ≡ x.all)
one_turn node x due = by_test (is_none (due_stream x)) (x.skips == 0) (none (due_stream x) due)
  where
    none : (o : Option ℕ) → is_some o ≡ true → is_none o ≡ false
    none None is = absurd (false≢true is)
    none (Some i) is = refl

    by_test : (a t : Bool) → a ≡ false
        → (let y : Streams = if a then x else if t then record x { tries = min 4 (x.tries + 1); skips = node % 2 ^ min 4 (x.tries + 1) }
        else record x { skips = x.skips - 1 } in
        (backoff_of y ≡ (if t then min 4 (x.tries + 1) else x.tries, if t then node % 2 ^ min 4 (x.tries + 1) else x.skips - 1)) × (y.all ≡ x.all))
    by_test true t is = absurd (false≢true (sym is))
    by_test false true is = (refl, refl)
    by_test false false is = (refl, refl)

-- what is due depends on the streams themselves
due_by : (x y : Streams) → y.all ≡ x.all → is_some (due_stream x) ≡ true → is_some (due_stream y) ≡ true
due_by x y same due = subst (λ (l : List Stream). is_some (due_stream (record y { all = l })) ≡ true) (sym same) due

pub follows : (node : ℕ) (x : Streams) → is_some (due_stream x) ≡ true → (n : ℕ)
    → (backoff_of (after_turns node x n) ≡ turned node (backoff_of x) n) × ((after_turns node x n).all ≡ x.all)
unfolding after_turns turned
follows node x due zero = (refl, refl)
follows node x due (suc n) =
    let before = follows node x due n in
    let next = one_turn node (after_turns node x n) (due_by x (after_turns node x n) before.1 due) in
    (next.0 ∙ ap (turn node) before.0, next.1 ∙ before.1)

abbrev pub asks : Backoff → Bool
asks b = b.1 == 0

pub requests_by : (node : ℕ) (x : Streams) → is_some (due_stream x) ≡ true → (n : ℕ) → requests_after node x n ≡ asks (turned node (backoff_of x) n)
requests_by node x due n =
    let after = follows node x due n in
    by_test ((after_turns node x n).skips == 0) (due_stream (after_turns node x n)) (due_by x (after_turns node x n) after.1 due) ∙ ap asks after.0
  where
    by_test : (t : Bool) (o : Option ℕ) → is_some o ≡ true → is_some (if t then o else None) ≡ t
    by_test true o is = is
    by_test false o is = refl

-- who skips k slots skips them all, and then requests
pub skips_on : (node t k n : ℕ) → n ≤ k → turned node (t, k) n ≡ (t, k - n)
unfolding turned
skips_on node t k zero few = ap (λ (m : ℕ). (t, m)) (omega arith)
skips_on node t k (suc n) few =
    let before = skips_on node t k n (omega (arith, few)) in
    let busy : (k - n == 0) ≡ false = ne_eqb (k - n) 0 (λ none. absurd (omega (arith, few, none))) in
    ap (turn node) before ∙ by_test (k - n == 0) busy
  where
    by_test : (b : Bool) → b ≡ false → ◌≡◌ {A = Backoff} (if b then min 4 (t + 1) else t, if b then node % 2 ^ min 4 (t + 1) else k - n - 1) (t, k - suc n)
    by_test true not = absurd (false≢true (sym not))
    by_test false not = ap (λ (m : ℕ). (t, m)) (omega arith)

pub later : (node : ℕ) (b : Backoff) (n m : ℕ) → turned node b (m + n) ≡ turned node (turned node b n) m
unfolding turned
later node b n zero = (let same : 0 + n ≡ n = omega arith in ap (turned node b) same)
later node b n (suc m) = ap (turned node b) (let same : suc m + n ≡ suc (m + n) = omega arith in same) ∙ ap (turn node) (later node b n m)

-- the slot in which a node requests, if it does
abbrev pub spot : ℕ → ℕ → Backoff → Option ℕ
spot slots node b = if asks b then Some (own_number node b.0 slots) else None

pub spot_asks : (slots node : ℕ) (b : Backoff) → is_some (spot slots node b) ≡ asks b
spot_asks slots node b = by_test (asks b)
  where
    by_test : (t : Bool) → is_some (if t then Some (own_number node b.0 slots) else None) ≡ t
    by_test true = refl
    by_test false = refl

pub spot_by : (slots node : ℕ) (x : Streams) → is_some (due_stream x) ≡ true → (n : ℕ)
    → slot_after slots node x n ≡ spot slots node (turned node (backoff_of x) n)
spot_by slots node x due n =
    ap (λ (r : Bool). if r then Some (own_number node (after_turns node x n).tries slots) else None) (requests_by node x due n)
    ∙ ap (λ (t : ℕ). if asks (turned node (backoff_of x) n) then Some (own_number node t slots) else None)
    (ap (λ (b : Backoff). b.0) (follows node x due n).0)

-- from tries and skips after n turns on
pub from_zero : (node t k : ℕ) → turned node (t, k) k ≡ (t, 0)
from_zero node t k = skips_on node t k k (omega arith) ∙ ap (λ (m : ℕ). (t, m)) (let none : k - k ≡ 0 = omega arith in none)
