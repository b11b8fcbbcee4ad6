-- What a host acknowledges and grants: acknowledgements are of requests that it kept, and of a stream no more slots are granted by the next round
-- than had come due by this one and the next plan has.
use Rattle.std.proofs.Common.{◌≡◌, ◌<◌, ◌≤◌, ◌+◌, ◌-◌, ◌*◌, ◌/◌, ◌==◌, ℕ, suc, List, [], ◌∷◌, Bool, true, false, inl, inr, cond, fold, if◌then◌else◌, nat_lt}
use Rattle.std.proofs.Common.{refl, sym, ◌∙◌, ap, subst, arith, ◌⊎◌, Contains}
use Rattle.law_times.proofs.Words.{lt-mul-div-succ, mul-le-mul_left, mul-le-mul_right, mul-suc, cases_lt, eqb-true, sum_by-cons, contains_cases, contains_head}
use Rattle.law_times.proofs.Words.{contains_tail, not_in_none, one_of, Ask, code_of, Numbers, IsOverScenario, ScenarioParts, over_sound, Host, Core, count_of}
use Rattle.law_times.proofs.Words.{Answered, answer, host_plan, with_ack, StateOn, Streams, Table, is_full, hosts, state_at, HasSlowStreams}
use Rattle.law_times.proofs.CountedSlots.{some}
use Rattle.law_times.proofs.GrownTables.{IsGrown, NewOr}
use Rattle.law_times.proofs.HostFrames.{HostBefore, host_before}
use Rattle.law_times.proofs.KeptEntries.{HasStream}
use Rattle.law_times.proofs.LatentSlots.{keep_pace, spread}

-- acknowledgements are of requests that were kept
of_with : (q : Ask) (bs : List Ask) (a : Ask) → Contains (with_ack q bs) a → (q ≡ a) ⊎ Contains bs a
of_with q [] a there = inl (one_of q a there)
of_with q (b ∷ bs) a there = by_code (code_of q == code_of b) (nat_lt (code_of q) (code_of b)) there (of_with q bs a)
  where
    by_code : (t r : Bool) → Contains (if t then q ∷ bs else if r then q ∷ b ∷ bs else b ∷ with_ack q bs) a
        → (Contains (with_ack q bs) a → (q ≡ a) ⊎ Contains bs a) → (q ≡ a) ⊎ Contains (b ∷ bs) a
    by_code true r there among = elim (contains_cases q bs a there) [ inl same ↦ inl same | inr later ↦ inr (contains_tail b bs a later) ]
    by_code false true there among = contains_cases q (b ∷ bs) a there
    by_code false false there among = elim (contains_cases b (with_ack q bs) a there) [
      | inl same ↦ inr (subst (λ (z : Ask). Contains (z ∷ bs) a) (sym same) (contains_head a bs))
      | inr later ↦ elim (among later) [ inl same ↦ inl same | inr there ↦ inr (contains_tail b bs a there) ]
    ]

acks_kept : (f : ℕ) (kept : List Ask) (x : Answered) (a : Ask) → Contains (fold (answer f) x kept).acks a → Contains x.acks a ⊎ Contains kept a
acks_kept f [] x a there = inl there
acks_kept f (q ∷ more) x a there = elim (acks_kept f more (answer f x q) a there) [
  | inr later ↦ inr (contains_tail q more a later)
  | inl now ↦ by_full (is_full q x.table) now
]
  where
    by_full : (t : Bool) → Contains (if t then x.acks else with_ack q x.acks) a → Contains x.acks a ⊎ Contains (q ∷ more) a
    by_full true there = inl there
    by_full false there = elim (of_with q x.acks a there) [
      | inl same ↦ inr (subst (λ (z : Ask). Contains (z ∷ more) a) (sym same) (contains_head a more))
      | inr was ↦ inl was
    ]

pub plan_acks : (n : Numbers) (node boot rank f : ℕ) (kept : List Ask) (t : Table) (x : Streams) (a : Ask)
    → Contains (host_plan n node boot rank f kept t x).plan.acks a → Contains kept a
unfolding host_plan
plan_acks n node boot rank f kept t x a there = elim (acks_kept f kept (record { table = t; acks = [] }) a there) [
  | inl none ↦ absurd (not_in_none a none)
  | inr kept ↦ kept
]

-- a code that is counted is there
pub counted_there : (c : ℕ) (xs : List ℕ) → (count_of c xs ≡ 0) ⊎ Contains xs c
counted_there c [] = inl refl
counted_there c (x ∷ xs) = by_test (x == c) refl (counted_there c xs)
  where
    by_test : (t : Bool) → (x == c) ≡ t → (count_of c xs ≡ 0) ⊎ Contains xs c → (count_of c (x ∷ xs) ≡ 0) ⊎ Contains (x ∷ xs) c
    by_test true is rest = inr (subst (λ (n : ℕ). Contains (x ∷ xs) n) (eqb-true x c is) (contains_head x xs))
    by_test false is (inr later) = inr (contains_tail x xs c later)
    by_test false is (inl none) =
        inl (sum_by-cons (λ (n : ℕ). cond (n == c) 1 0) x xs ∙ ap (λ (t : Bool). cond {A = ℕ} t 1 0 + count_of c xs) is
        ∙ (let same : cond {A = ℕ} false 1 0 + count_of c xs ≡ 0 = omega (arith, none) in same))

-- the node does not give the stream up before it is named again
pub named_soon : (sec interval since low x : ℕ) → 0 < sec → 0 < interval → since ≤ x
    → sec * (x - since) / interval * interval + sec * since ≤ sec * (low + 4) → x ≤ low + interval + 8
named_soon sec interval since low x some positive after lately = elim (cases_lt x (low + interval + 9)) [
  | inl below ↦ omega (arith, below)
  | inr long ↦
      (let last = lt-mul-div-succ (sec * (x - since)) {b = interval} positive in
      let split = mul-suc interval (sec * (x - since) / interval) in
      let one : sec * (x - since) / interval + 1 ≡ suc (sec * (x - since) / interval) = omega arith in
      let at = ap (λ (n : ℕ). interval * n) one in
      let turned : interval * (sec * (x - since) / interval) ≡ sec * (x - since) / interval * interval = grind arith in
      let whole : sec * x ≡ sec * (x - since) + sec * since =
      ap (λ (n : ℕ). sec * n) (let sum : x ≡ (x - since) + since = omega (arith, after) in sum) ∙ spread sec (x - since) since in
      let far : sec * (low + interval + 9) ≤ sec * x = mul-le-mul_left sec long in
      let least : 1 * interval ≤ sec * interval = mul-le-mul_right interval some in
      absurd (omega (arith, last, split, at, turned, whole, far, least, lately, some)))
]

-- an entry of a host's table after the round of frame x, accepted before it
module _ (s : ScenarioParts) (accepted : IsOverScenario s) (slow : HasSlowStreams s) (x host rank : ℕ) (now : Core) (now_on : state_at s x host ≡ StateOn now)
    (now_tune : now.tune ≡ Host rank x) (due : ℕ) (next : Core) (next_on : state_at s (suc x) host ≡ StateOn next) (next_tune : next.tune ≡ Host rank due)
    (c interval since : ℕ) (stream : HasStream c interval since next.table.entries) (early : since < x) where
  abbrev sec : ℕ
  sec = s.profile.seconds

  pub granted_is : stream.entry.granted ≡ sec * (due - since) / interval
  granted_is =
      (keep_pace s accepted slow (suc x) host rank due next next_on next_tune stream.entry stream.there).granted
      ∙ ap (λ (a : ℕ). sec * (due - a) / stream.entry.interval) stream.accepted_is ∙ ap (λ (i : ℕ). sec * (due - since) / i) stream.interval_is

  before : HostBefore s x host next
  before = host_before s (over_sound s accepted) slow (some s accepted slow) x host next next_on (ap hosts next_tune) stream.entry stream.there

  before_due : before.due ≡ x
  before_due =
      (let same : StateOn before.core ≡ StateOn now = sym before.on ∙ now_on in
      let core : before.core ≡ now = cc in
      same_due before.rank before.due rank x (sym before.tune ∙ ap (λ (k : Core). k.tune) core ∙ now_tune))
    where
      same_due : (r d q m : ℕ) → Host r d ≡ Host q m → d ≡ m
      same_due r d q m same = cc

  grown : IsGrown x before.core.table.entries next.plan.owners stream.entry
  grown = before.grown before_due stream.entry stream.there

  -- no slot more than the next plan has
  pub granted_before : stream.entry.granted ≤ sec * (x - since) / interval + count_of c next.plan.owners
  granted_before = by_age grown.was
    where
      by_age : NewOr x before.core.table.entries grown.before → stream.entry.granted ≤ sec * (x - since) / interval + count_of c next.plan.owners
      by_age (inl new) = (let a = grown.accepted in let b = stream.accepted_is in absurd (omega (arith, new.0, a, b, early)))
      by_age (inr there) =
          let pace = keep_pace s accepted slow x host before.rank before.due before.core before.on before.tune grown.before there in
          let was : grown.before.granted ≡ sec * (x - since) / interval =
          pace.granted ∙ ap (λ (d : ℕ). sec * (d - grown.before.accepted) / grown.before.interval) before_due
          ∙ ap (λ (a : ℕ). sec * (x - a) / grown.before.interval) (grown.accepted ∙ stream.accepted_is)
          ∙ ap (λ (i : ℕ). sec * (x - since) / i) (grown.interval ∙ stream.interval_is) in
          let count : count_of stream.entry.code next.plan.owners ≡ count_of c next.plan.owners =
          ap (λ (m : ℕ). count_of m next.plan.owners) stream.code_is in
          let granted = grown.granted in
          omega (arith, granted, was, count)
