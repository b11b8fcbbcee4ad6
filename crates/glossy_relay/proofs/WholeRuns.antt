-- What holds of a flood after any list of calls.
use Rattle.std.proofs.Common.{◌≡◌, ℕ, ◌+◌, ◌≤◌, ◌↔◌, ◌==◌, List, [], ◌∷◌, Bool, true, false, if◌then◌else◌, nat_lt}
use Rattle.std.proofs.Common.{Option, Some, None, option_map, inl, inr, refl, sym, ◌∙◌, ap, arith}
use Rattle.std.proofs.lemmas.Bool.Decides.{nat_tests}
use Rattle.std.proofs.lemmas.Bool.{cond_both, cases_eq, eq-eqb, ne_eqb}
use Rattle.glossy_relay.specs.FloodState.{FloodState}
use Rattle.glossy_relay.specs.Relaying.{fits, counter_of, first_of, after_heard, after_sent, after_ending, accepted_of}
use Rattle.glossy_relay.specs.declared.flood.After.TheVariants.{Off, More}
use Rattle.glossy_relay.specs.Runs.{Call, Heard, Sent, flood_after_calls, IsAllowed, orders_one, orders, endings, first_fitting}

-- the transmissions that ended, and the one that is ordered
abbrev used : FloodState → ℕ
used s = s.sent + (if s.waiting then 1 else 0)

heard_used : (s : FloodState) (p : List ℕ) → used s ≤ s.limit → (used (after_heard s p) ≡ used s + orders_one s (Heard p))
    × (used (after_heard s p) ≤ s.limit) × ((after_heard s p).limit ≡ s.limit)
heard_used s p within = grind (arith, nat_tests)

sent_used : (s : FloodState) → s.waiting ≡ true → used (after_sent s) ≡ used s
sent_used s waits = rw waits (omega arith)

-- no more transmissions are ordered than the limit leaves
pub within_limit : (calls : List Call) (s : FloodState) → used s ≤ s.limit → IsAllowed s calls → used s + orders s calls ≤ s.limit
within_limit [] s within allowed = omega arith
within_limit (Heard p ∷ calls) s within allowed =
    let one = heard_used s p within in
    let rest = within_limit calls (after_heard s p) (omega (arith, one.1, one.2)) allowed in
    omega (arith, one.0, one.2, rest)
within_limit (Sent ∷ calls) s within allowed =
    let same = sent_used s allowed.0 in
    let rest = within_limit calls (after_sent s) (omega (arith, same)) allowed.1 in
    omega (arith, same, rest)

-- a reception changes neither the count of transmissions nor the limit nor where the flood began
pub record IsLike (s t : FloodState) : Type 0 where
  pub sent : t.sent ≡ s.sent
  pub limit : t.limit ≡ s.limit
  pub initiated : t.initiated ≡ s.initiated

heard_like : (s : FloodState) (p : List ℕ) → IsLike s (after_heard s p)
heard_like s p =
    cond_both (fits s p) (record s { waiting = nat_lt (counter_of p) 11; first = first_of s.first p }) s (IsLike s)
    (λ is. record { sent = refl; limit = refl; initiated = refl })
    (λ not. record { sent = refl; limit = refl; initiated = refl })

-- what has ended is counted, and the limit and the beginning stay
pub record IsCounted (s t : FloodState) (ended : ℕ) : Type 0 where
  pub sent : t.sent ≡ s.sent + ended
  pub limit : t.limit ≡ s.limit
  pub initiated : t.initiated ≡ s.initiated

pub counted : (calls : List Call) (s : FloodState) → IsCounted s (flood_after_calls s calls) (endings calls)
counted [] s = record { sent = omega arith; limit = refl; initiated = refl }
counted (Heard p ∷ calls) s =
    let like = heard_like s p in
    let rest = counted calls (after_heard s p) in
    record { sent = rest.sent ∙ ap (λ (n : ℕ). n + endings calls) like.sent; limit = rest.limit ∙ like.limit; initiated = rest.initiated ∙ like.initiated }
counted (Sent ∷ calls) s =
    let rest = counted calls (after_sent s) in
    record { sent = omega (arith, rest.sent); limit = rest.limit; initiated = rest.initiated }

-- what is carried stays
kept : (calls : List Call) (s : FloodState) (p : List ℕ) → s.first ≡ Some p → (flood_after_calls s calls).first ≡ Some p
kept [] s p is = is
kept (Heard q ∷ calls) s p is =
    kept calls (after_heard s q) p
    (cond_both (fits s q) (record s { waiting = nat_lt (counter_of q) 11; first = first_of s.first q }) s (λ (t : FloodState). t.first ≡ Some p)
    (λ fitting. ap (λ (o : Option (List ℕ)). first_of o q) is)
    (λ not. is))
kept (Sent ∷ calls) s p is = kept calls (after_sent s) p is

-- where nothing is carried, the first that fits will be
pub found : (calls : List Call) (s : FloodState) → s.first ≡ None → (flood_after_calls s calls).first ≡ first_fitting s calls
found [] s none = none
found (Heard p ∷ calls) s none =
    by_fit (fits s p) s p calls (λ t is. kept calls t p is) (λ t is. found calls t is) none
  where
    by_fit : (b : Bool) (s : FloodState) (p : List ℕ) (calls : List Call)
        → ((t : FloodState) → t.first ≡ Some p → (flood_after_calls t calls).first ≡ Some p)
        → ((t : FloodState) → t.first ≡ None → (flood_after_calls t calls).first ≡ first_fitting t calls) → s.first ≡ None
        → (let t : FloodState = if b then record s { waiting = nat_lt (counter_of p) 11; first = first_of s.first p } else s in
        (flood_after_calls t calls).first ≡ (if b then Some p else first_fitting t calls))
    by_fit true s p calls stays more none = stays (record s { waiting = nat_lt (counter_of p) 11; first = first_of s.first p })
        (ap (λ (o : Option (List ℕ)). first_of o p) none)
    by_fit false s p calls stays more none = more s none
found (Sent ∷ calls) s none = found calls (after_sent s) none

-- a flood that began here accepts nothing, and a listener what it carries
pub accepts : (s t : FloodState) → t.initiated ≡ s.initiated → s.initiated ≡ false
    → accepted_of t ≡ option_map {U = List ℕ × ℕ} (λ p. (p, counter_of p)) t.first
accepts s t like is = rw (like ∙ is) refl

pub accepts_none : (s t : FloodState) → t.initiated ≡ s.initiated → s.initiated ≡ true → accepted_of t ≡ None
accepts_none s t like is = rw (like ∙ is) refl

more_is_not_off : Off ≡ More → ⊥
more_is_not_off is = cc

-- an answer by a test of numbers
off_where : (a b : ℕ) → (if a == b then Off else More) ≡ Off ↔ (a ≡ b)
off_where a b =
    elim (cases_eq a b) [
      | inl is ↦ (λ off. is, λ same. rw (eq-eqb a b is) refl)
      | inr differ ↦ (λ off. absurd (more_is_not_off (sym (rw (ne_eqb a b differ) at off))), λ same. absurd (differ same))
    ]

pub off_at_limit : (s : FloodState) (calls : List Call) (n : ℕ) → s.sent ≡ 0 → s.limit ≡ n
    → after_ending (flood_after_calls s calls) ≡ Off ↔ (endings calls + 1 ≡ n)
off_at_limit s calls n none few =
    let t = flood_after_calls s calls in
    let is = counted calls s in
    let decides = off_where (t.sent + 1) t.limit in (
      (λ off. omega (arith, decides.0 off, is.sent, is.limit)),
      λ same. decides.1 (omega (arith, is.sent, is.limit)),
    )
