-- A request that the table takes is acknowledged, whatever requests of other streams come after it.
use Rattle.std.proofs.Common.{◌≡◌, ◌≢◌, ◌==◌, ℕ, List, [], ◌∷◌, ◌++◌, false, inl, inr, nat_lt, fold, sym, ◌∙◌, ap, subst, Contains}
use Rattle.law_service.proofs.Words.{cond_both, cond-false, eqb-true, fold-append, Numbers, Ask, code_of, Answered, answer, answers_to, with_ack, host_plan}
use Rattle.law_service.proofs.Words.{Streams, Table, is_full, not_in_none, contains_head, contains_tail, contains_cases}

-- none of the requests is of this stream
abbrev pub NoneOf : ℕ → List Ask → Type 0
NoneOf c [] = Unit {0}
NoneOf c (b ∷ bs) = (code_of b ≢ c) × NoneOf c bs

pub none_more : (c : ℕ) (bs : List Ask) (b : Ask) → NoneOf c bs → code_of b ≢ c → NoneOf c (bs ++ b ∷ [])
none_more c [] b none other = (other, tt)
none_more c (x ∷ bs) b none other = (none.0, none_more c bs b none.1 other)

has_ack : (a : Ask) (bs : List Ask) → Contains (with_ack a bs) a
has_ack a [] = contains_head a []
has_ack a (b ∷ bs) =
    let more = has_ack a bs in
    cond_both (code_of a == code_of b) (a ∷ bs) _ (λ (l : List Ask). Contains l a) (λ _. contains_head a bs)
    (λ _. cond_both (nat_lt (code_of a) (code_of b)) (a ∷ b ∷ bs) (b ∷ with_ack a bs) (λ (l : List Ask). Contains l a) (λ _. contains_head a (b ∷ bs))
    (λ _. contains_tail b (with_ack a bs) a more))

keeps_ack : (a b : Ask) (bs : List Ask) → code_of b ≢ code_of a → Contains bs a → Contains (with_ack b bs) a
keeps_ack a b [] other there = absurd (not_in_none a there)
keeps_ack a b (x ∷ bs) other there =
    let more = keeps_ack a b bs other in
    let cases = contains_cases x bs a there in
    cond_both (code_of b == code_of x) (b ∷ bs) _ (λ (l : List Ask). Contains l a)
    (λ same. contains_tail b bs a (elim cases [
      | inl is ↦ absurd (other (eqb-true (code_of b) (code_of x) same ∙ ap code_of is))
      | inr later ↦ later
    ]))
    (λ _. cond_both (nat_lt (code_of b) (code_of x)) (b ∷ x ∷ bs) (x ∷ with_ack b bs) (λ (l : List Ask). Contains l a)
    (λ _. contains_tail b (x ∷ bs) a there)
    (λ _. elim cases [
      | inl is ↦ subst (λ (y : Ask). Contains (y ∷ with_ack b bs) a) (sym is) (contains_head a (with_ack b bs))
      | inr later ↦ contains_tail x (with_ack b bs) a (more later)
    ]))

acks_stay : (f : ℕ) (a : Ask) (later : List Ask) (x : Answered) → NoneOf (code_of a) later → Contains x.acks a → Contains (fold (answer f) x later).acks a
acks_stay f a [] x none there = there
acks_stay f a (b ∷ bs) x none there =
    acks_stay f a bs (answer f x b) none.1
    (cond_both (is_full b x.table) x.acks (with_ack b x.acks) (λ (l : List Ask). Contains l a) (λ _. there) (λ _. keeps_ack a b x.acks none.0 there))

answered_acks : (f : ℕ) (a : Ask) (earlier later : List Ask) (t : Table) → NoneOf (code_of a) later → is_full a (answers_to f earlier t).table ≡ false
    → Contains (answers_to f (earlier ++ a ∷ later) t).acks a
answered_acks f a earlier later t none room =
    let start : Answered = record { table = t; acks = [] } in
    let x : Answered = answers_to f earlier t in
    let taken : Contains (answer f x a).acks a =
    subst (λ (l : List Ask). Contains l a) (sym (cond-false (is_full a x.table) x.acks (with_ack a x.acks) room)) (has_ack a x.acks) in
    subst (λ (y : Answered). Contains y.acks a) (sym (fold-append (answer f) start earlier (a ∷ later))) (acks_stay f a later (answer f x a) none taken)

pub plan_acks : (n : Numbers) (node boot rank f : ℕ) (a : Ask) (earlier later kept : List Ask) (t : Table) (x : Streams)
    → kept ≡ earlier ++ a ∷ later → NoneOf (code_of a) later → is_full a (answers_to f earlier t).table ≡ false
    → Contains (host_plan n node boot rank f kept t x).plan.acks a
unfolding host_plan
plan_acks n node boot rank f a earlier later kept t x is none room =
    subst (λ (l : List Ask). Contains (answers_to f l t).acks a) (sym is) (answered_acks f a earlier later t none room)
