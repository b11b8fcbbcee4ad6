-- Tries, backoff and own slots of nodes whose ids are equal modulo 16.
use Rattle.std.proofs.Common.{◌≡◌, ◌≤◌, ◌+◌, ◌-◌, ◌%◌, ◌^◌, ◌==◌, ℕ, zero, suc, List, [], ◌∷◌, Bool, true, false, inl, inr, Option, Some, None}
use Rattle.std.proofs.Common.{if◌then◌else◌, is_none, is_some, min, fold, refl, sym, ◌∙◌, ap, subst, arith}
use Rattle.law_service.proofs.Words.{list_any, false≢true, cond_both, cond-false, Ask, Schedule, node_of, Streams, after_contention, tries_after, due_stream}
use Rattle.law_service.proofs.Words.{is_host, heard_host, unbound, names, acknowledged, owner_named, schedule_heard, AreTied, own_number, TiesShareSlots}
use Rattle.law_service.proofs.Words.{or_parts, ThreeSlotsPart, ContentionKeepsTies, SchedulesKeepTies}

pub share_slots : TiesShareSlots
share_slots u v tries n same (inl is) =
    subst (λ (m : ℕ). own_number u tries m ≡ own_number v tries m) (sym is)
    (let r : (u + tries) % 1 ≡ (v + tries) % 1 = omega (arith, same) in omega (arith, r))
share_slots u v tries n same (inr (inl is)) =
    subst (λ (m : ℕ). own_number u tries m ≡ own_number v tries m) (sym is)
    (let r : (u + tries) % 2 ≡ (v + tries) % 2 = omega (arith, same) in omega (arith, r))
share_slots u v tries n same (inr (inr is)) =
    subst (λ (m : ℕ). own_number u tries m ≡ own_number v tries m) (sym is)
    (let r : (u + tries) % 4 ≡ (v + tries) % 4 = omega (arith, same) in omega (arith, r))

pub three_part : ThreeSlotsPart
three_part u tries same = omega (arith, same)

-- backoff is the id modulo a power of two up to 16
backs_off : (u v t : ℕ) → u % 16 ≡ v % 16 → t ≤ 4 → u % 2 ^ t ≡ v % 2 ^ t
backs_off u v zero same few = omega (arith, same)
backs_off u v (suc zero) same few = omega (arith, same)
backs_off u v (suc (suc zero)) same few = omega (arith, same)
backs_off u v (suc (suc (suc zero))) same few = omega (arith, same)
backs_off u v (suc (suc (suc (suc zero)))) same few = omega (arith, same)
backs_off u v (suc (suc (suc (suc (suc t))))) same few = absurd (omega (arith, few))

-- what the own slot leaves, by whether the node sends in it
abbrev in_own : ℕ → Streams → Bool → Streams
in_own node s sends = if sends then record s { tries = tries_after s; skips = node % 2 ^ tries_after s } else record s { skips = s.skips - 1 }

with_due : (node : ℕ) (s : Streams) → is_some (due_stream s) ≡ true → after_contention node s ≡ in_own node s (s.skips == 0)
with_due node s some = cond-false (is_none (due_stream s)) s (in_own node s (s.skips == 0)) (by_due (due_stream s) some)
  where
    by_due : (o : Option ℕ) → is_some o ≡ true → is_none o ≡ false
    by_due None is = absurd (false≢true is)
    by_due (Some k) is = refl

tied_by : (u v : ℕ) (a b : Streams) (sends : Bool) → AreTied u v a b → AreTied u v (in_own u a sends) (in_own v b sends)
tied_by u v a b true tied =
    let more : tries_after a ≡ tries_after b = ap (λ (t : ℕ). min 4 (t + 1)) tied.tries in
    let few : tries_after a ≤ 4 = omega arith in
    record {
      ids = tied.ids;
      tries = more;
      backoff = backs_off u v (tries_after a) tied.ids few ∙ ap (λ (t : ℕ). v % 2 ^ t) more;
    }
tied_by u v a b false tied = record { ids = tied.ids; tries = tied.tries; backoff = ap (λ (n : ℕ). n - 1) tied.backoff }

pub contention_keeps : ContentionKeepsTies
contention_keeps u v a b tied first second =
    let ours = with_due u a first in
    let theirs = with_due v b second ∙ ap (λ (n : ℕ). in_own v b (n == 0)) (sym tied.backoff) in
    subst (λ (x : Streams). AreTied u v x (after_contention v b)) (sym ours)
    (subst (λ (y : Streams). AreTied u v (in_own u a (a.skips == 0)) y) (sym theirs) (tied_by u v a b (a.skips == 0) tied))

-- tries and backoff of these streams are those
pub record HasTries (x : Streams) (t k : ℕ) : Type 0 where
  pub tries : x.tries ≡ t
  pub backoff : x.skips ≡ k

answers_none : (node boot f : ℕ) (acks : List Ask) (x : Streams) (t k : ℕ) → list_any (names node boot) acks ≡ false → HasTries x t k
    → HasTries (fold (acknowledged node boot f) x acks) t k
answers_none node boot f [] x t k none is = is
answers_none node boot f (a ∷ acks) x t k none is =
    let both = or_parts (names node boot a) (list_any (names node boot) acks) none in
    answers_none node boot f acks (acknowledged node boot f x a) t k both.1
    (cond_both (names node boot a) _ x (λ (y : Streams). HasTries y t k) (λ named. absurd (false≢true (sym both.0 ∙ named))) (λ _. is))

owners_keep : (node f : ℕ) (owners : List ℕ) (x : Streams) (t k : ℕ) → HasTries x t k → HasTries (fold (owner_named node f) x owners) t k
owners_keep node f [] x t k is = is
owners_keep node f (c ∷ owners) x t k is =
    owners_keep node f owners (owner_named node f x c) t k
    (cond_both (node_of c == node) _ x (λ (y : Streams). HasTries y t k) (λ _. record { tries = is.tries; backoff = is.backoff }) (λ _. is))

-- after a schedule that does not name the node: as before, or none where its host is new
heard_tries : (node boot f : ℕ) (y : Schedule) (x : Streams) → list_any (names node boot) y.plan.acks ≡ false
    → (let known : Bool = is_host x.host y.plan.rank y.plan.boot in
    HasTries (schedule_heard node boot f y x) (if known then x.tries else 0) (if known then x.skips else 0))
unfolding schedule_heard
heard_tries node boot f y x none =
    let r = y.plan.rank in
    let b = y.plan.boot in
    let known = is_host x.host r b in
    let t : ℕ = if known then x.tries else 0 in
    let k : ℕ = if known then x.skips else 0 in
    let begins : HasTries (heard_host r b x) t k = by_host known in
    let answered = answers_none node boot f y.plan.acks (heard_host r b x) t k none begins in
    let named = owners_keep node f y.plan.owners (fold (acknowledged node boot f) (heard_host r b x) y.plan.acks) t k answered in
    cond_both (y.gap == 0) (fold (owner_named node f) (fold (acknowledged node boot f) (heard_host r b x) y.plan.acks) y.plan.owners) _
    (λ (z : Streams). HasTries z t k) (λ _. named) (λ _. record { tries = named.tries; backoff = named.backoff })
  where
    by_host : (known : Bool) → HasTries (if known then x else record (unbound x) { host = Some (y.plan.rank, y.plan.boot) })
        (if known then x.tries else 0) (if known then x.skips else 0)
    by_host true = record { tries = refl; backoff = refl }
    by_host false = record { tries = refl; backoff = refl }

pub schedules_keep : SchedulesKeepTies
schedules_keep u v u_boot v_boot f y a b tied alike first second =
    let ours = heard_tries u u_boot f y a first in
    let theirs = heard_tries v v_boot f y b second in
    let known = is_host a.host y.plan.rank y.plan.boot in
    record {
      ids = tied.ids;
      tries = ours.tries ∙ ap (λ (n : ℕ). if known then n else 0) tied.tries ∙ ap (λ (k : Bool). if k then b.tries else 0) alike ∙ sym theirs.tries;
      backoff = ours.backoff ∙ ap (λ (n : ℕ). if known then n else 0) tied.backoff ∙ ap (λ (k : Bool). if k then b.skips else 0) alike ∙ sym theirs.backoff;
    }
