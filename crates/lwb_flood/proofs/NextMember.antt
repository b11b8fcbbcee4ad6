-- The node that is the next to do something.
use Rattle.std.proofs.Common.{◌≡◌, ◌<◌, ◌+◌, ℕ, List, length, get_or, Bool, true, false, not, ◌&&◌, ◌==◌, nat_lt, Option, Some, None}
use Rattle.std.proofs.Common.{inl, inr, refl, sym, ◌∙◌, ap, subst, arith}
use Rattle.std.specs.Prelude.{IfSome}
use Rattle.std.proofs.lemmas.Bool.{cases_lt, cond_both, or_cases, and_parts, ltb-true, eqb-true, ltb-false, eq-eqb, or_parts}
use Rattle.std.proofs.lemmas.List.{get_or_default}
use Rattle.lwb_flood.specs.declared.member.Member.{Member}
use Rattle.lwb_flood.specs.FloodWorlds.{moment_of, NotAfter, moment_comes_before, sooner, ActsNext}

abbrev pub IsFirst : List Member → ℕ → Option (ℕ × ℕ × Bool) → Type 0
IsFirst ms i None = (k : ℕ) (d : Member) → k < i → moment_of (get_or ms k d).act ≡ None
IsFirst ms i (Some n) = (n.0 < i) × ((d : Member) → moment_of (get_or ms n.0 d).act ≡ Some (n.1, n.2))
    × ((k : ℕ) (d : Member) → k < i → IfSome (moment_of (get_or ms k d).act) (NotAfter (n.1, n.2)))

not_after_self : (k : ℕ × Bool) → NotAfter k k
not_after_self k = inr (refl, λ is. is)

not_after_both : (a b c : ℕ × Bool) → NotAfter a b → NotAfter b c → NotAfter a c
not_after_both a b c (inl ab) (inl bc) = inl (omega arith)
not_after_both a b c (inl ab) (inr bc) = inl (omega (arith, ab, bc.0))
not_after_both a b c (inr ab) (inl bc) = inl (omega (arith, ab.0, bc))
not_after_both a b c (inr ab) (inr bc) = inr (ab.0 ∙ bc.0, λ is. bc.1 (ab.1 is))

before_not_after : (a b : ℕ × Bool) → moment_comes_before a b ≡ true → NotAfter a b
before_not_after a b is =
    elim (or_cases (nat_lt a.0 b.0) _ is) [
      | inl less ↦ inl (ltb-true a.0 b.0 less)
      | inr same ↦
          let both = and_parts (a.0 == b.0) _ same in
          let starts = and_parts (not a.1) b.1 both.1 in
          inr (eqb-true a.0 b.0 both.0, λ _. starts.1)
    ]

starts_after : (x y : Bool) → (not x && y) ≡ false → y ≡ true → x ≡ true
starts_after true y is up = refl
starts_after false true is up = sym is
starts_after false false is up = up

and_false : (x y : Bool) → (x && y) ≡ false → x ≡ true → y ≡ false
and_false true y is up = is
and_false false y is up = cc

not_before_after : (a b : ℕ × Bool) → moment_comes_before a b ≡ false → NotAfter b a
not_before_after a b is =
    let both = or_parts (nat_lt a.0 b.0) _ is in
    let above = ltb-false a.0 b.0 both.0 in
    elim (cases_lt b.0 a.0) [
      | inl less ↦ inl less
      | inr not ↦
          let same : a.0 ≡ b.0 = omega arith in
          inr (sym same, starts_after a.1 b.1 (and_false (a.0 == b.0) _ both.1 (eq-eqb a.0 b.0 same)))
    ]

at_last : (ms : List Member) (i : ℕ) (P : Option (ℕ × Bool) → Type 0) (m : Option (ℕ × Bool)) → ((d : Member) → moment_of (get_or ms i d).act ≡ m) → P m
    → ((k : ℕ) (d : Member) → k < i → P (moment_of (get_or ms k d).act)) → (k : ℕ) (d : Member) → k < i + 1 → P (moment_of (get_or ms k d).act)
at_last ms i P m at last all k d less =
    elim (cases_lt k i) [
      | inl before ↦ all k d before
      | inr not ↦ let same : i ≡ k = omega arith in subst P (sym (at d) ∙ ap (λ (n : ℕ). moment_of (get_or ms n d).act) same) last
    ]

pub first_more : (ms : List Member) (i : ℕ) (next : Option (ℕ × ℕ × Bool)) (m : Option (ℕ × Bool)) → ((d : Member) → moment_of (get_or ms i d).act ≡ m)
    → IsFirst ms i next → IsFirst ms (i + 1) (sooner next i m)
first_more ms i None None at is = at_last ms i (λ (o : Option (ℕ × Bool)). o ≡ None) None at refl is
first_more ms i (Some n) None at is = (omega (arith, is.0), is.1, at_last ms i (λ (o : Option (ℕ × Bool)). IfSome o (NotAfter (n.1, n.2))) None at tt is.2)
first_more ms i None (Some m) at is = (
  omega arith,
  at,
  at_last ms i (λ (o : Option (ℕ × Bool)). IfSome o (NotAfter m)) (Some m) at (not_after_self m)
      (λ k d less. subst (λ (o : Option (ℕ × Bool)). IfSome o (NotAfter m)) (sym (is k d less)) tt),
)
first_more ms i (Some n) (Some m) at is =
    cond_both (moment_comes_before m (n.1, n.2)) (Some (i, m.0, m.1)) (Some n) (IsFirst ms (i + 1))
    (λ before. (
      omega arith,
      at,
      at_last ms i (λ (o : Option (ℕ × Bool)). IfSome o (NotAfter m)) (Some m) at (not_after_self m)
          (λ k d less. later (moment_of (get_or ms k d).act) (before_not_after m (n.1, n.2) before) (is.2 k d less)),
    ))
    (λ not. (
      omega (arith, is.0),
      is.1,
      at_last ms i (λ (o : Option (ℕ × Bool)). IfSome o (NotAfter (n.1, n.2))) (Some m) at
          (not_before_after m (n.1, n.2) not) is.2,
    ))
  where
    later : (o : Option (ℕ × Bool)) → NotAfter m (n.1, n.2) → IfSome o (NotAfter (n.1, n.2)) → IfSome o (NotAfter m)
    later None before all = tt
    later (Some k) before all = not_after_both m (n.1, n.2) k before all

pub is_next : (ms : List Member) (n : ℕ × ℕ × Bool) → IsFirst ms (length ms) (Some n) → (d : Member) → ActsNext ms (get_or ms n.0 d)
is_next ms n is d = record { moment = (n.1, n.2); own = is.1 d; first = λ k e less. is.2 k e less }

pub first_with : (ms : List Member) (i : ℕ) (m : Member) (next result : Option (ℕ × ℕ × Bool)) → i < length ms → m ≡ get_or ms i m → IsFirst ms i next
    → result ≡ sooner next i (moment_of m.act) → IsFirst ms (i + 1) result
first_with ms i m next result below at is same =
    subst (IsFirst ms (i + 1)) (sym same)
    (first_more ms i next (moment_of m.act) (λ d. ap (λ (n : Member). moment_of n.act) (get_or_default ms i d m below ∙ sym at)) is)

pub next_is : (ms ys : List Member) (i : ℕ) (next : Option (ℕ × ℕ × Bool)) (n : ℕ × ℕ × Bool) → ys ≡ ms → i ≡ length ys → IsFirst ys i next
    → next ≡ Some n → (n.0 < length ms) × ((d : Member) → ActsNext ms (get_or ms n.0 d))
next_is ms ys i next n same end first at =
    let is : IsFirst ms (length ms) (Some n) = subst (λ (o : Option (ℕ × ℕ × Bool)). IsFirst ms (length ms) o) at
    (subst (λ (l : List Member). IsFirst l (length l) next) same (subst (λ (k : ℕ). IsFirst ys k next) end first)) in
    (is.0, is_next ms n is)
